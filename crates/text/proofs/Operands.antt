-- Lines by their key words: what stands behind a word, and what the readers of it find. Assumes nothing.
use mathlib.Core.Path.{◌≡◌, refl, sym, ap, subst, ◌∙◌}
use Rattle.std.specs.Prelude.{Option, None, Some, option_map}
use mathlib.Core.List.{List, ◌++◌}
use Prim.Native.Nat.{ℕ, ◌-◌, ◌<◌, ◌≤◌}
use native.Mathlib.Omega.{arith}
use lib.Dec.{leb, leb→le}
use lib.IntN.{ℤ, pos, negsuc}
use lib.ListN.{length, take, drop, length-append}
use lib.Seq.{drop_at}
use mir.Syntax.{w32}
use mir.Val.{of_z, to_z}
use mir.ValLaws.{to_z-of_z}
use Rattle.layout.specs.Limits.{max_nodes}
use Rattle.text.specs.declared.keys.Word.{Word}
use Rattle.text.specs.declared.keys.Word.TheVariants as word
use Rattle.text.specs.declared.keys.Key.{Key}
use Rattle.text.specs.declared.line.Op.TheVariants as op
use Rattle.text.specs.declared.line.Line.{Line}
use Rattle.text.specs.declared.line.Line.TheVariants as line
use Rattle.text.specs.Words.{bytes}
use Rattle.text.specs.Finds.{Finds, hit, miss, got, gone, same, finds_iff, carry, carry_some, carry_none}
use Rattle.text.specs.Decimal.{decimal, whole}
use Rattle.text.specs.Every.{All, all_map}
use Rattle.text.specs.DecimalLaws.{Digit, decimal_digits}
use Rattle.text.specs.Limits.{max_number}
use Rattle.text.specs.Numbers.{Within, Valued, IsValue, Counted}
use Rattle.text.specs.Keys.{text, numbers, Starts, Searched}
use Rattle.text.specs.Lines.{key, operands, InRange, Good, Pair, pair, Says}
use Rattle.text.proofs.KeyTable.{each}
use Rattle.text.proofs.Cutting.{to_end}

-- ---- a line is a key word and what stands behind it
abbrev pub Args : Word → Type 0
Args word.Vars = ℕ
Args word.Nodes = ℕ
Args word.Room = ℕ
Args word.Top = Option ℤ
Args word.Bind = ℕ × ℤ
Args word.Wind = ℕ × ℕ
Args word.Look = ℕ
Args word.Set = ℕ × ℤ
Args word.Here = Unit {0}
Args word.Goto = ℕ
Args word.Back = Unit {0}
Args word.Peek = ℕ × ℕ

abbrev pub make : (w : Word) → Args w → Line
make word.Vars n = line.Vars n
make word.Nodes n = line.Nodes n
make word.Room n = line.Room n
make word.Top c = line.Top c
make word.Bind a = line.Do (op.Bind a.0 a.1)
make word.Wind a = line.Do (op.Wind a.0 a.1)
make word.Look x = line.Do (op.Look x)
make word.Set a = line.Do (op.Set a.0 a.1)
make word.Here u = line.Do op.Here
make word.Goto a = line.Do (op.Goto a)
make word.Back u = line.Do op.Back
make word.Peek a = line.Do (op.Peek a.0 a.1)

pub made : (l : Line) → (a : Args (key l)) × (make (key l) a ≡ l)
made (line.Vars n) = (n, refl)
made (line.Nodes n) = (n, refl)
made (line.Room n) = (n, refl)
made (line.Top c) = (c, refl)
made (line.Do (op.Bind x v)) = ((x, v), refl)
made (line.Do (op.Wind p q)) = ((p, q), refl)
made (line.Do (op.Look x)) = (x, refl)
made (line.Do (op.Set x v)) = ((x, v), refl)
made (line.Do op.Here) = (tt, refl)
made (line.Do (op.Goto a)) = (a, refl)
made (line.Do op.Back) = (tt, refl)
made (line.Do (op.Peek a x)) = ((a, x), refl)

key_made : (w : Word) (a : Args w) → key (make w a) ≡ w
key_made word.Vars a = refl
key_made word.Nodes a = refl
key_made word.Room a = refl
key_made word.Top a = refl
key_made word.Bind a = refl
key_made word.Wind a = refl
key_made word.Look a = refl
key_made word.Set a = refl
key_made word.Here a = refl
key_made word.Goto a = refl
key_made word.Back a = refl
key_made word.Peek a = refl

-- the operands s of the word w are those of a, in range
abbrev pub Fit : (w : Word) → List ℕ → Args w → Type 0
Fit w s a = (s ≡ operands (make w a)) × InRange (make w a)

module _ (w : Word) {s : List ℕ} {o : Option (Args w)} (f : Finds (Fit w s) o) where
  there : (a : Args w) → Fit w s a → Says (numbers w) w s (make w a)
  there a p = record { word = key_made w a; follow = refl; text = p.0; range = p.1 }

  back : (l : Line) → Says (numbers w) w s l → (a : Args w) × Fit w s a × (make w a ≡ l)
  back l p = go (subst (λ (v : Word). (a : Args v) × (make v a ≡ l)) p.word (made l))
    where
      go : (a : Args w) × (make w a ≡ l) → (a : Args w) × Fit w s a × (make w a ≡ l)
      go t = (t.0, (p.text ∙ ap operands (sym t.1), subst InRange (sym t.1) p.range), t.1)

  pub said : Finds (Says (numbers w) w s) (option_map (make w) o)
  said = carry (make w) there back f

-- ---- numbers and pairs of them
pub between : {s : List ℕ} {least most : ℕ} {o : Option ℕ} → Finds (Within s least most) o → Finds (λ n. (s ≡ decimal n) × ((least ≤ n) × (n ≤ most))) o
between {s} {least} {most} {o} =
    finds_iff (λ n p. (p.text, (p.low, p.high))) (λ n q. record { text = q.0; low = q.1.0; high = q.1.1 })

pub up_to_lem : {s : List ℕ} {most : ℕ} {o : Option ℕ} → Finds (Within s 0 most) o → Finds (λ n. (s ≡ decimal n) × (n ≤ most)) o
up_to_lem {s} {most} {o} = finds_iff (λ n p. (p.text, p.high)) (λ n q. record { text = q.0; low = omega arith; high = q.1 })

pub below : {s : List ℕ} {o : Option ℕ} → Finds (Within s 0 (max_nodes - 1)) o → Finds (λ n. (s ≡ decimal n) × (n < max_nodes)) o
below {s} {o} =
    finds_iff (λ n p. (p.text, (let h : n ≤ max_nodes - 1 = p.high in omega arith))) (λ n q. record { text = q.0; low = omega arith; high = omega (arith, q.1) })

-- a value in 32 bits and back
pub kept : (z : ℤ) → IsValue z → to_z w32 (of_z w32 z) ≡ z
kept (pos n) h = to_z-of_z w32 (pos n) (record { sfits = omega arith })
kept (negsuc n) h = to_z-of_z w32 (negsuc n) (record { sfits = omega arith })

-- two numbers of a word that these follow
abbrev pub Two : List ℕ → ℕ × ℕ → Type 0
Two s a = (s ≡ pair (decimal a.0) (decimal a.1)) × ((a.0 ≤ max_number) × (a.1 ≤ max_number))

module _ {s : List ℕ} where
  -- a number and a value, of a word that these follow
  pub paired : {o : Option (ℕ × ℤ)} → Finds (Pair s) o → Finds (λ a. (s ≡ pair (decimal a.0) (whole a.1)) × ((a.0 ≤ max_number) × IsValue a.1)) o
  paired {o} = finds_iff (λ a p. (p.text, (p.first, p.second))) (λ a q. record { text = q.0; first = q.1.0; second = q.1.1 })

  -- two numbers are a pair whose value is a number
  as_pair : (a : ℕ × ℕ) → Two s a → Pair s (a.0, pos a.1)
  unfolding whole
  as_pair a q = record { text = q.0; first = q.1.0; second = omega (arith, q.1.1) }

  module _ {b : Option (ℕ × ℤ)} {x : ℕ} {v : ℤ} (f : Finds (Pair s) b) (e : b ≡ Some (x, v)) {o : Option ℕ}
      (g : Finds (Counted (to_z w32 (of_z w32 v)) max_number) o) where
    there_two : (n : ℕ) → Counted (to_z w32 (of_z w32 v)) max_number n → Two s (x, n)
    unfolding whole
    there_two n p =
        let q = got f e in
        (q.text ∙ ap (λ (z : ℤ). pair (decimal x) (whole z)) (sym (kept v q.second) ∙ p.is), (q.first, p.high))

    back_two : (a : ℕ × ℕ) → Two s a → (n : ℕ) × Counted (to_z w32 (of_z w32 v)) max_number n × ((x, n) ≡ a)
    back_two a q =
        let h = same f e (as_pair a q) in
        (a.1, record { is = kept v (got f e).second ∙ ap (λ (c : ℕ × ℤ). c.1) h; high = q.1.1 }, λ j. ((h j).0, a.1))

    pub two_some : {n : ℕ} → o ≡ Some n → Finds (Two s) (Some (x, n))
    two_some {n} = carry_some (λ n. (x, n)) there_two back_two g

    pub two_none : o ≡ None → Finds (Two s) None
    two_none = carry_none (λ n. (x, n)) there_two back_two g

  -- what two numbers follow has a pair
  pair_of : (l : Line) → numbers (key l) ≡ 2 → s ≡ operands l → InRange l → (a : ℕ × ℤ) × Pair s a
  pair_of (line.Vars n) h e r = absurd (omega (arith, h))
  pair_of (line.Nodes n) h e r = absurd (omega (arith, h))
  pair_of (line.Room n) h e r = absurd (omega (arith, h))
  pair_of (line.Top c) h e r = absurd (omega (arith, h))
  pair_of (line.Do (op.Bind x v)) h e r = ((x, v), record { text = e; first = r.0; second = r.1 })
  pair_of (line.Do (op.Wind p q)) h e r = (_, as_pair (p, q) (e, r))
  pair_of (line.Do (op.Look x)) h e r = absurd (omega (arith, h))
  pair_of (line.Do (op.Set x v)) h e r = ((x, v), record { text = e; first = r.0; second = r.1 })
  pair_of (line.Do op.Here) h e r = absurd (omega (arith, h))
  pair_of (line.Do (op.Goto a)) h e r = absurd (omega (arith, h))
  pair_of (line.Do op.Back) h e r = absurd (omega (arith, h))
  pair_of (line.Do (op.Peek a x)) h e r = (_, as_pair (a, x) (e, r))

  pub no_pair : (w : Word) {b : Option (ℕ × ℤ)} → Finds (Pair s) b → b ≡ None → Finds (Says 2 w s) None
  no_pair w {b} f e = miss (λ l p. gone f e (pair_of l (ap numbers p.word ∙ p.follow) p.text p.range).1)

-- at most two numbers follow any word
pub two_at_most : (w : Word) → numbers w ≤ 2
two_at_most w = leb→le (numbers w) 2 (each (λ i v. leb (numbers v) 2) tt w)

-- ---- fixed words
pub fixed : (w : Word) {s : List ℕ} (t : List ℕ) (a : Args w) → Fit w t a → ((c : Args w) → a ≡ c) → s ≡ t → Finds (Fit w s) (Some a)
fixed w {s} t a p one e = hit a (e ∙ p.0, p.1) (λ c q. one c)

-- ---- a top value, or none
pub low : (z : ℤ) → All (λ b. b ≤ 57) (whole z)
unfolding whole
low (pos n) = all_map Digit (λ b. b ≤ 57) (λ b d. d.high) (decimal n) (decimal_digits n)
low (negsuc n) = (omega arith, all_map Digit (λ b. b ≤ 57) (λ b d. d.high) (decimal (ℕ.suc n)) (decimal_digits (ℕ.suc n)))

module _ {s : List ℕ} where
  pub top_none : s ≡ bytes "none" → Finds (Fit word.Top s) (Some None)
  top_none e = hit None (e, tt) only
    where
      only : (c : Option ℤ) → Fit word.Top s c → None ≡ c
      only None p = refl
      only (Some v) p =
          let l : All (λ b. b ≤ 57) (bytes "none") = subst (All (λ b. b ≤ 57)) (sym p.0 ∙ e) (low v) in
          let q : 110 ≤ 57 = l.0 in
          absurd (omega arith)

  pub top_value : (s ≡ bytes "none" → ⊥) → {o : Option ℤ} → Finds (Valued s) o → Finds (Fit word.Top s) (option_map Some o)
  top_value n {o} g = carry Some there_value back_value g
    where
      there_value : (v : ℤ) → Valued s v → Fit word.Top s (Some v)
      there_value v p = (p.text, p.range)

      back_value : (c : Option ℤ) → Fit word.Top s c → (v : ℤ) × Valued s v × (Some v ≡ c)
      back_value None p = absurd (n p.0)
      back_value (Some v) p = (v, record { text = p.0; range = p.1 }, refl)

-- ---- the whole line, by its key word
module _ {s : List ℕ} {k : Key} (f : Searched s (Some k)) where
  starts : Starts s (text k.word)
  starts = got f.found refl

  size : length k.text.now ≡ length (text k.word)
  size = ap length f.entry.text

  pub inside : length k.text.now ≤ length s
  inside = omega (arith, size, ap length starts.joined ∙ length-append (text k.word) starts.rest)

  behind : (t : List ℕ) → s ≡ text k.word ++ t → take (length s - length k.text.now) (drop (length k.text.now) s) ≡ t
  behind t e = to_end s (length k.text.now) ∙ ap (drop (length k.text.now)) e ∙ drop_at (text k.word) t (length k.text.now) (sym size)

  pub by_word : {o : Option Line} → Finds (Says (numbers k.word) k.word (take (length s - length k.text.now) (drop (length k.text.now) s))) o → Finds (Good s) o
  by_word {o} = finds_iff good says
    where
      good : (l : Line) → Says (numbers k.word) k.word (take (length s - length k.text.now) (drop (length k.text.now) s)) l → Good s l
      good l p =
          record {
            text = starts.joined ∙ ap (λ (v : Word). text v ++ starts.rest) (sym p.word)
                ∙ ap (λ (t : List ℕ). text (key l) ++ t) (sym (behind starts.rest starts.joined) ∙ p.text);
            range = p.range;
          }

      says : (l : Line) → Good s l → Says (numbers k.word) k.word (take (length s - length k.text.now) (drop (length k.text.now) s)) l
      says l q =
          let e : k.word ≡ key l = same f.found refl (record { rest = operands l; joined = q.text }) in
          record {
            word = sym e;
            follow = refl;
            text = behind (operands l) (q.text ∙ ap (λ (v : Word). text v ++ operands l) (sym e));
            range = q.range;
          }

pub no_word : {s : List ℕ} → Searched s None → Finds (Good s) None
no_word {s} f = miss (λ l q. gone {x = key l} f.found refl (record { rest = operands l; joined = q.text }))
