-- A rule for every element of a list. Assumes nothing.
use Rattle.std.specs.Prelude.{List, [], ◌∷◌, ◌++◌, ℕ, zero, suc, ◌<◌, length, get_or}
use Rattle.std.proofs.Common.{arith}

abbrev pub All : {A : Type 0} → (A → Type 0) → List A → Type 0
All {A} P [] = Unit {0}
All {A} P (x ∷ l) = P x × All P l

module _ {A : Type 0} (P : A → Type 0) where
  pub all_append : (l m : List A) → All P l → All P m → All P (l ++ m)
  all_append [] m h g = g
  all_append (x ∷ l) m h g = (h.0, all_append l m h.1 g)

  pub all_at : (d : A) (l : List A) (i : ℕ) → All P l → i < length l → P (get_or l i d)
  all_at d [] i h g = absurd (omega arith)
  all_at d (x ∷ l) zero h g = h.0
  all_at d (x ∷ l) (suc i) h g = all_at d l i h.1 (omega arith)

  pub all_map : (Q : A → Type 0) → ((x : A) → P x → Q x) → (l : List A) → All P l → All Q l
  all_map Q f [] h = tt
  all_map Q f (x ∷ l) h = (f x h.0, all_map Q f l h.1)
