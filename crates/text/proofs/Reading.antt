-- Reading a plain decimal from the front: how it begins, one digit more, and where it ends. Assumes nothing.
use mathlib.Core.Path.{◌≡◌, refl, sym, ap, ◌∙◌}
use mathlib.Core.Bool.{Bool, true, false}
use Rattle.std.specs.Prelude.{None}
use Rattle.std.specs.Bool.{then_some}
use mathlib.Core.List.{List, [], ◌∷◌}
use Prim.Native.Nat.{ℕ, zero, suc, ◌+◌, ◌-◌, ◌*◌, ◌<◌, ◌≤◌}
use native.Mathlib.Numerals.{add-one}
use native.Mathlib.Omega.{arith}
use borrow.Author.Tests.{eqb-true, eqb-false, eq-eqb, ne_eqb, leb-true, leb-false, clash}
use lib.Dec.{eqb, leb}
use lib.ListN.{length, get_or, drop, drop_of_length-le}
use lib.Seq.{drop-cons}
use Rattle.text.specs.Finds.{Finds, hit, miss}
use Rattle.text.specs.Decimal.{decimal}
use Rattle.text.specs.Every.{All, all_at}
use Rattle.text.specs.DecimalLaws.{Digit, value_from, value, value_least, read_back, decimal_digits, decimal_first, decimal_one, decimal_value}
use Rattle.text.specs.Numbers.{Grown, Within, misbegun}

-- ---- the first bytes
pub begins_empty : (s : List ℕ) → length s < 1 → true ≡ misbegun s
unfolding misbegun
begins_empty [] h = refl
begins_empty (b ∷ s) h = absurd (omega arith)

pub begins_alone : (s : List ℕ) → 1 ≤ length s → length s < 2 → false ≡ misbegun s
unfolding misbegun
begins_alone [] h k = absurd (omega arith)
begins_alone (b ∷ []) h k = refl
begins_alone (b ∷ x ∷ s) h k = absurd (omega arith)

begins_long : (s : List ℕ) → 2 ≤ length s → eqb (get_or s 0 0) 48 ≡ misbegun s
unfolding misbegun
begins_long [] h = absurd (omega arith)
begins_long (b ∷ []) h = absurd (omega arith)
begins_long (b ∷ x ∷ s) h = refl

pub begins_zero : (s : List ℕ) → 2 ≤ length s → get_or s 0 0 ≡ 48 → true ≡ misbegun s
begins_zero s h e = sym (eq-eqb (get_or s 0 0) 48 e) ∙ begins_long s h

pub begins_other : (s : List ℕ) → 2 ≤ length s → (get_or s 0 0 ≡ 48 → ⊥) → false ≡ misbegun s
begins_other s h n = sym (ne_eqb (get_or s 0 0) 48 n) ∙ begins_long s h

-- no decimal begins ill
no_decimal : (n : ℕ) → misbegun (decimal n) ≡ true → ⊥
unfolding misbegun decimal
no_decimal zero e = clash e
no_decimal (suc n) e = go (decimal_first (suc n) (omega arith))
  where
    ok : (x : ℕ) (t : List ℕ) → 48 < x → misbegun (x ∷ t) ≡ true → ⊥
    ok x [] h f = clash f
    ok x (y ∷ t) h f = let q : x ≡ 48 = eqb-true x 48 f in omega arith

    go : (x : ℕ) × (t : List ℕ) × (decimal (suc n) ≡ x ∷ t) × (48 < x) → ⊥
    go w = ok w.0 w.1 w.3 (ap misbegun (sym w.2) ∙ e)

pub ill : {least most : ℕ} (s : List ℕ) → misbegun s ≡ true → Finds (Within s least most) None
ill s e = miss (λ n w. no_decimal n (ap misbegun (sym w.text) ∙ e))

-- ---- i bytes of s have been read, and their number is v
pub record Sofar (s : List ℕ) (v i : ℕ) : Type 0 where
  pub begun : misbegun s ≡ false
  pub inside : i ≤ length s
  pub left : value s ≡ value_from v (drop i s)
  pub digits : All Digit (drop i s) → All Digit s

pub start : (s : List ℕ) → misbegun s ≡ false → Sofar s 0 0
start s e = record { begun = e; inside = omega arith; left = refl; digits = λ d. d }

module _ {s : List ℕ} {v i : ℕ} (f : Sofar s v i) (h : i < length s) where
  onward : value s ≡ value_from (v * 10 + (get_or s i 0 - 48)) (drop (i + 1) s)
  unfolding value_from
  onward = f.left ∙ rw (add-one, drop-cons s i 0 h)

  pub more : {w most : ℕ} → Grown v (get_or s i 0) most w → Sofar s w (i + 1)
  more {w} {most} g =
      record {
        begun = f.begun;
        inside = omega arith;
        left = rw g.sum onward;
        digits = λ d. f.digits (rw (drop-cons s i 0 h) (g.digit, rw add-one at d));
      }

  -- no digit may stand next
  pub stuck : {least most : ℕ} → ((w : ℕ) → Grown v (get_or s i 0) most w → ⊥) → Finds (Within s least most) None
  stuck {least} {most} g = miss none_fits
    where
      w : ℕ
      w = v * 10 + (get_or s i 0 - 48)

      none_fits : (n : ℕ) → Within s least most n → ⊥
      none_fits n t =
          let d : Digit (get_or s i 0) = all_at Digit 0 s i (rw t.text (decimal_digits n)) h in
          let e : value s ≡ n = ap value t.text ∙ read_back n in
          let l : v * 10 + (get_or s i 0 - 48) ≤ value_from (v * 10 + (get_or s i 0 - 48)) (drop (i + 1) s) = value_least _ _ in
          let o : value s ≡ value_from (v * 10 + (get_or s i 0 - 48)) (drop (i + 1) s) = onward in
          let m : n ≤ most = t.high in
          g (v * 10 + (get_or s i 0 - 48)) (record { digit = d; sum = refl; high = omega arith })

-- ---- all of s has been read
written : (s : List ℕ) → misbegun s ≡ false → All Digit s → s ≡ decimal (value s)
unfolding misbegun value_from
written [] e d = absurd (clash (sym e))
written (b ∷ []) e d =
    let low : 48 ≤ b = d.0.low in
    let high : b ≤ 57 = d.0.high in
    let f : 0 * 10 + (b - 48) ≡ b - 48 = omega arith in
    let g : 48 + (b - 48) ≡ b = omega arith in
    rw f (sym (decimal_one (b - 48) (omega arith) ∙ ap (λ (x : ℕ). x ∷ []) g))
written (b ∷ x ∷ s) e d =
    let low : 48 ≤ b = d.0.low in
    let n : b ≡ 48 → ⊥ = eqb-false b 48 e in
    sym (decimal_value b (x ∷ s) (omega arith) d)

module _ {s : List ℕ} {v i : ℕ} (f : Sofar s v i) (h : length s ≤ i) where
  all_read : value s ≡ v
  unfolding value_from
  all_read = f.left ∙ rw (drop_of_length-le s h)

  text : s ≡ decimal v
  text = written s f.begun (f.digits (rw (drop_of_length-le s h) tt)) ∙ ap decimal all_read

  its_number : {least most n : ℕ} → Within s least most n → v ≡ n
  its_number {least} {most} {n} w = sym all_read ∙ ap value w.text ∙ read_back n

  -- v is the number, unless it is too low
  pub done : {least most : ℕ} → v ≤ most → Finds (Within s least most) (then_some (leb least v) v)
  done {least} {most} m = go (leb least v) refl
    where
      go : (b : Bool) → leb least v ≡ b → Finds (Within s least most) (then_some b v)
      go true e = hit v (record { text = text; low = leb-true least v e; high = m }) (λ n w. its_number w)
      go false e = miss (λ n w. omega (arith, leb-false least v e, its_number w, w.low))
