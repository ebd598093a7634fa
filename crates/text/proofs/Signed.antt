-- A value by its sign, read behind a minus and without one. Assumes nothing.
use mathlib.Core.Path.{◌≡◌, refl, sym, ap, subst, ◌∙◌}
use Rattle.std.specs.Prelude.{Option, None, Some}
use Rattle.std.specs.Option.{SomeIff}
use mathlib.Core.List.{List, [], ◌∷◌}
use Prim.Native.Nat.{ℕ, zero, suc, ◌+◌, ◌-◌, ◌<◌, ◌≤◌}
use native.Mathlib.Omega.{arith}
use native.Mathlib.Numerals.{unary_clauses}
use borrow.Author.Tests.{lt-ltb, clash}
use lib.Dec.{leb-zero}
use lib.Signed.{le_z}
use mir.Val.{of_z, to_z, SFits}
use mir.ValLaws.{to_z-of_z}
use mathlib.Core.Bool.{true, false}
use lib.IntN.{ℤ, pos, negsuc, ◌-ℤ◌}
use lib.ListN.{length, get_or, take, drop}
use lib.Seq.{take_all}
use mir.Syntax.{w32}
use Rattle.text.specs.Finds.{Finds, got, carry_some, carry_none}
use Rattle.text.specs.Decimal.{decimal, whole}
use Rattle.text.specs.Every.{All}
use Rattle.text.specs.DecimalLaws.{Digit, decimal_digits}
use Rattle.text.specs.Numbers.{Within, Valued}

-- ---- a value by its sign, as a test of it tells
pub from_zero : (z : ℤ) → SFits w32 z → le_z (pos 0) (to_z w32 (of_z w32 z)) ≡ true → (n : ℕ) × (z ≡ pos n) × (n < 2147483648)
from_zero (pos n) f h = (n, refl, f.sfits)
from_zero (negsuc n) f h = absurd (clash (sym (ap (le_z (pos 0)) (to_z-of_z w32 (negsuc n) f)) ∙ h))

pub below_zero : (z : ℤ) → SFits w32 z → le_z (pos 0) (to_z w32 (of_z w32 z)) ≡ false → (n : ℕ) × (z ≡ negsuc n) × (n < 2147483648)
below_zero (pos n) f h = absurd (clash (sym h ∙ ap (le_z (pos 0)) (to_z-of_z w32 (pos n) f) ∙ leb-zero n))
below_zero (negsuc n) f h = (n, refl, f.sfits)

-- a checked sum or difference that fits is there
fits : {P : Type 0} {z : ℤ} (r : Option ℤ) → P → SomeIff r P z → r ≡ Some z
fits {P} {z} None p h = absurd (h p)
fits {P} {z} (Some y) p h = ap Some h.1

no_minus : (n : ℕ) (t : List ℕ) → 45 ∷ t ≡ decimal n → ⊥
no_minus n t e = let d : All Digit (45 ∷ t) = subst (All Digit) (sym e) (decimal_digits n) in let l : 48 ≤ 45 = d.0.low in omega arith

-- ---- a minus first. The rest stands as the code lends it
split : (s : List ℕ) → 1 ≤ length s → get_or s 0 0 ≡ 45 → s ≡ 45 ∷ take (length s - 1) (drop 1 s)
split [] h e = absurd (omega arith)
split (b ∷ s) h e = rw (take_all (length (b ∷ s) - 1) s (omega arith)) (ap (λ (x : ℕ). x ∷ s) e)

minus_of : (m : ℕ) → 1 ≤ m → pos 0 -ℤ pos m ≡ negsuc (m - 1)
minus_of zero h = absurd (omega arith)
minus_of (suc m) h = rw lt-ltb (simp unary_clauses)

-- the first byte of no bytes is no minus
pub no_first : (s : List ℕ) → length s < 1 → get_or s 0 0 ≡ 45 → ⊥
no_first [] h e = omega arith
no_first (b ∷ s) h e = omega arith

module _ {s : List ℕ} (h : 1 ≤ length s) (e : get_or s 0 0 ≡ 45) {o : Option ℕ}
    (f : Finds (Within (take (length s - 1) (drop 1 s)) 1 2147483648) o) where
  there : (m : ℕ) → Within (take (length s - 1) (drop 1 s)) 1 2147483648 m → Valued s (negsuc (m - 1))
  unfolding whole
  there m w =
      let low : 1 ≤ m = w.low in
      let high : m ≤ 2147483648 = w.high in
      let q : suc (m - 1) ≡ m = omega arith in
      record { text = split s h e ∙ ap (λ (t : List ℕ). 45 ∷ t) (w.text ∙ ap decimal (sym q)); range = omega arith }

  back : (z : ℤ) → Valued s z → (m : ℕ) × Within (take (length s - 1) (drop 1 s)) 1 2147483648 m × (negsuc (m - 1) ≡ z)
  unfolding whole
  back (pos n) w = absurd (no_minus n _ (sym (split s h e) ∙ w.text))
  back (negsuc n) w =
      let t : 45 ∷ take (length s - 1) (drop 1 s) ≡ 45 ∷ decimal (suc n) = sym (split s h e) ∙ w.text in
      let r : n + 1 ≤ 2147483648 = w.range in
      (suc n, record { text = ap (drop 1) t; low = omega arith; high = omega arith }, ap negsuc (omega arith))

  pub minus_none : o ≡ None → Finds (Valued s) None
  minus_none = carry_none (λ m. negsuc (m - 1)) there back f

  pub minus_some : {m : ℕ} → o ≡ Some m → {r : Option ℤ} → SomeIff r (SFits w32 (pos 0 -ℤ pos m)) (pos 0 -ℤ pos m) → Finds (Valued s) r
  minus_some {m} p {r} q =
      let low : 1 ≤ m = (got f p).low in
      let high : m ≤ 2147483648 = (got f p).high in
      let z : pos 0 -ℤ pos m ≡ negsuc (m - 1) = minus_of m low in
      rw (fits r (rw z (record { sfits = omega arith })) q, z) (carry_some (λ m. negsuc (m - 1)) there back f p)

-- ---- no minus
module _ {s : List ℕ} (e : get_or s 0 0 ≡ 45 → ⊥) {o : Option ℕ} (f : Finds (Within s 0 2147483647) o) where
  there_plain : (n : ℕ) → Within s 0 2147483647 n → Valued s (pos n)
  unfolding whole
  there_plain n w = record { text = w.text; range = w.high }

  back_plain : (z : ℤ) → Valued s z → (n : ℕ) × Within s 0 2147483647 n × (pos n ≡ z)
  unfolding whole
  back_plain (pos n) w = (n, record { text = w.text; low = omega arith; high = w.range }, refl)
  back_plain (negsuc n) w = absurd (e (ap (λ (t : List ℕ). get_or t 0 0) w.text))

  pub plain_none : o ≡ None → Finds (Valued s) None
  plain_none = carry_none pos there_plain back_plain f

  pub plain_some : {n : ℕ} → o ≡ Some n → {r : Option ℤ} → SomeIff r (SFits w32 (pos (0 + n))) (pos (0 + n)) → Finds (Valued s) r
  plain_some {n} p {r} q =
      let high : n ≤ 2147483647 = (got f p).high in
      let z : 0 + n ≡ n = omega arith in
      rw (fits r (rw z (record { sfits = omega arith })) q, z) (carry_some pos there_plain back_plain f p)
