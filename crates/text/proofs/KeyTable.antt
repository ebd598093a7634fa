-- The table of key words: its entries, its rule by one computed test, and the comparison of a line with a key. Assumes nothing.
use mathlib.Core.Path.{◌≡◌, refl, sym, ap, subst, ◌∙◌}
use mathlib.Core.Bool.{Bool, true, false, cond}
use mathlib.Core.List.{List, [], ◌∷◌, ◌++◌, map}
use Prim.Native.Nat.{ℕ, zero, suc, ◌<◌, ◌≤◌}
use native.Mathlib.Omega.{arith}
use borrow.Author.Tests.{eqb-true, eqb-false, clash}
use lib.Dec.{T, eqb, lit<}
use lib.ListN.{length, get_or, drop}
use Rattle.std.specs.Prelude.{None, Some, nat_eq}
use Rattle.std.specs.List.{starts_with}
use Rattle.std.proofs.lemmas.Bool.Decides.{Decides-eqb}
use Rattle.std.proofs.lemmas.Slice.Eq.{starts_is}
use Rattle.text.specs.declared.keys.Key.{Key}
use Rattle.text.specs.declared.keys.Word.{Word}
use Rattle.text.specs.declared.keys.Word.TheVariants.{Vars, Nodes, Room, Top, Bind, Wind, Look, Set, Here, Goto, Back, Peek}
use Rattle.text.specs.Finds.{Tells, hit, miss}
use Rattle.text.specs.Keys.{text, numbers, words, word_at, IsEntry, Starts, Searched}
use Rattle.text.proofs.Table.{every, at}

-- ---- entries: what the table has, and what it is to have, compared at once by computing
abbrev has : Key → List ℕ × ℕ × Word
has k = (k.text.now, k.numbers, k.word)

abbrev wants : Word → List ℕ × ℕ × Word
wants w = (text w, numbers w, w)

looked : (ws : List Word) (ks : List Key) (i : ℕ) (d : Key) → map has ks ≡ map wants ws → i < length ws → IsEntry (get_or ws i Vars) (get_or ks i d)
looked [] ks i d e h = absurd (omega arith)
looked (w ∷ ws) [] i d e h = absurd (omega (arith, ap length e))
looked (w ∷ ws) (k ∷ ks) zero d e h =
    let r : has k ≡ wants w = ap (λ l. get_or l 0 (wants w)) e in
    record { text = ap (λ x. x.0) r; numbers = ap (λ x. x.1) r; word = ap (λ x. x.2) r }
looked (w ∷ ws) (k ∷ ks) (suc i) d e h = looked ws ks i d (ap (drop 1) e) (omega arith)

pub record Table (ks : List Key) : Type 0 where
  pub same : map has ks ≡ map wants words

pub entry_at : {ks : List Key} → Table ks → (i : ℕ) (d : Key) → i < 12 → IsEntry (word_at i) (get_or ks i d)
unfolding word_at
entry_at {ks} t i d h = looked words ks i d t.same h

-- every word stands in the table
pub place : (w : Word) → (i : ℕ) × (i < 12) × (word_at i ≡ w)
unfolding word_at
place Vars = (0, lit< tt, refl)
place Nodes = (1, lit< tt, refl)
place Room = (2, lit< tt, refl)
place Top = (3, lit< tt, refl)
place Bind = (4, lit< tt, refl)
place Wind = (5, lit< tt, refl)
place Look = (6, lit< tt, refl)
place Set = (7, lit< tt, refl)
place Here = (8, lit< tt, refl)
place Goto = (9, lit< tt, refl)
place Back = (10, lit< tt, refl)
place Peek = (11, lit< tt, refl)

-- a test that passes at every word of the table
pub each : (f : ℕ → Word → Bool) → T (every Vars f 0 words) → (w : Word) → T (f (place w).0 w)
unfolding word_at
each f t w = subst (λ (v : Word). T (f (place w).0 v)) (place w).2 (at Vars f words t (place w).0 (place w).1)

-- ---- the table's rule: two texts differ at a place that both have
abbrev apart : List ℕ → List ℕ → Bool
apart [] t = false
apart (x ∷ s) [] = false
apart (x ∷ s) (y ∷ t) = cond (eqb x y) (apart s t) true

abbrev differs : ℕ → Word → ℕ → Word → Bool
differs i w j v = cond (eqb i j) true (apart (text w) (text v))

abbrev from_all : ℕ → Word → Bool
from_all i w = every Vars (differs i w) 0 words

rule : (i j : ℕ) → i < 12 → j < 12 → T (differs i (word_at i) j (word_at j))
unfolding word_at
rule i j h g = at Vars (differs i (get_or words i Vars)) words (at Vars from_all words tt i h) j g

apart_never : (s t a b : List ℕ) → T (apart s t) → s ++ a ≡ t ++ b → ⊥
apart_never [] t a b h e = h
apart_never (x ∷ s) [] a b h e = h
apart_never (x ∷ s) (y ∷ t) a b h e = go (eqb x y) refl h (λ q. apart_never s t a b q (ap (drop 1) e))
  where
    go : (c : Bool) → eqb x y ≡ c → T (cond c (apart s t) true) → (T (apart s t) → ⊥) → ⊥
    go true q d ih = ih d
    go false q d ih = eqb-false x y q (ap (λ (l : List ℕ). get_or l 0 0) e)

same_place : (i j : ℕ) (s t a b : List ℕ) → T (cond (eqb i j) true (apart s t)) → s ++ a ≡ t ++ b → i ≡ j
same_place i j s t a b h e = go (eqb i j) refl h
  where
    go : (c : Bool) → eqb i j ≡ c → T (cond c true (apart s t)) → i ≡ j
    go true q d = eqb-true i j q
    go false q d = absurd (apart_never s t a b d e)

-- a line starts with one word alone
pub alone : (line : List ℕ) (w v : Word) → Starts line (text w) → Starts line (text v) → w ≡ v
alone line w v f g =
    sym (place w).2 ∙ ap word_at (same_place i j (text (word_at i)) (text (word_at j)) f.rest g.rest (rule i j (place w).1 (place v).1) joined) ∙ (place v).2
  where
    i : ℕ
    i = (place w).0

    j : ℕ
    j = (place v).0

    joined : text (word_at i) ++ f.rest ≡ text (word_at j) ++ g.rest
    joined = rw ((place w).2, (place v).2) (sym f.joined ∙ g.joined)

-- ---- an entry of the table against a line
pub tells_start : {b : Bool} (s t : List ℕ) → b ≡ starts_with nat_eq s t → Tells b (Starts s t)
tells_start {b} s t h = record { holds = λ e. record { rest = drop (length t) s; joined = is.0 e }; fails = λ e f. clash (sym e ∙ is.1 f.rest f.joined) }
  where
    is : (b ≡ true → s ≡ t ++ drop (length t) s) × ((rest : List ℕ) → s ≡ t ++ rest → b ≡ true)
    is = starts_is Decides-eqb s t b h

module _ {line : List ℕ} {w : Word} {k : Key} (e : IsEntry w k) where
  pub searched : Starts line k.text.now → Searched line (Some k)
  searched f =
      let s : Starts line (text w) = rw e.text at f in
      record { found = rw e.word (hit w s (λ v g. alone line w v s g)); entry = subst (λ (v : Word). IsEntry v k) (sym e.word) e }

  pub passed : (Starts line k.text.now → ⊥) → Starts line (text w) → ⊥
  passed n = rw e.text at n

pub through : {line : List ℕ} {i : ℕ} → 12 ≤ i → ((j : ℕ) → j < i → Starts line (text (word_at j)) → ⊥) → Searched line None
through {line} {i} h f = record { found = miss none_fits; entry = tt }
  where
    none_fits : (w : Word) → Starts line (text w) → ⊥
    none_fits w s = f (place w).0 (omega (arith, (place w).1)) (rw (place w).2 s)
