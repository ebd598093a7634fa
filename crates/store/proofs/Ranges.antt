-- What `all` over a range answers: the fact of every number in it. Assumes nothing.
use Rattle.std.proofs.Common.{◌≡◌, ℕ, ◌<◌, Bool, true, false, length, get_or, subst, sym, ◌∙◌, arith, MatchBool, HoldsAt}
use Rattle.std.specs.List.{range_with_len, AllWithin}
use Rattle.std.proofs.lemmas.List.FromFn.{length-range_with_len, get_or-range_with_len}
use Rattle.layout.specs.Sound.{Says}

item : (n k d : ℕ) → k < n → get_or (range_with_len 0 n) k d ≡ k
item n k d l = get_or-range_with_len 0 n k d l ∙ omega arith

pub says_all : (P : ℕ → Type 0) (n : ℕ) (r : Bool)
    → MatchBool r (AllWithin P (range_with_len 0 n) 0 (length (range_with_len 0 n))) ((k : ℕ) × (k < length (range_with_len 0 n)) × HoldsAt (λ x. P x → ⊥) (range_with_len 0 n) k)
    → Says r ((x : ℕ) → x < n → P x)
says_all P n true h = λ x l. subst P (item n x 0 l) (h x 0 (omega arith) (omega (arith, length-range_with_len 0 n)))
says_all P n false (k, l, h) =
    let below : k < n = omega (arith, l, length-range_with_len 0 n) in
    λ all. h 0 (subst P (sym (item n k 0 below)) (all k below))
