-- A text cut at the first place of a byte that its first part does not have. Assumes nothing.
use mathlib.Core.Path.{◌≡◌, refl, sym, ap, ◌∙◌}
use mathlib.Core.Logic.{◌≢◌}
use mathlib.Core.List.{List, [], ◌∷◌, ◌++◌}
use Prim.Native.Nat.{ℕ, suc, ◌+◌, ◌-◌, ◌<◌}
use native.Mathlib.Numerals.{add-one}
use native.Mathlib.Omega.{arith}
use native.Mathlib.Decide.{dec_lt}
use lib.ListN.{length, get_or, take, drop, length-append, length-drop, take-append-drop, get_or-append}
use lib.Seq.{take_at, take_all, drop-cons, get_or-append_seam}
use Rattle.text.specs.Every.{All, all_at}
use Rattle.text.specs.Lines.{FirstAt}

-- a part lent to the end
pub to_end : (s : List ℕ) (n : ℕ) → take (length s - n) (drop n s) ≡ drop n s
to_end s n = take_all (length s - n) (drop n s) (simp length-drop (omega arith))

-- the byte stands at its first place
pub cut : {b : ℕ} {s : List ℕ} {i : ℕ} → FirstAt b s i → i < length s → s ≡ take i s ++ (b ∷ drop (i + 1) s)
cut {b} {s} {i} f h =
    sym (take-append-drop i s) ∙ ap (λ (t : List ℕ). take i s ++ t) (drop-cons s i 0 h ∙ rw (← add-one i) (ap (λ (x : ℕ). x ∷ drop (i + 1) s) (f.here h)))

module _ {b : ℕ} {s : List ℕ} {i : ℕ} (a t : List ℕ) (f : FirstAt b s i) (none : All (λ x. x ≢ b) a) (e : s ≡ a ++ (b ∷ t)) where
  long : length s ≡ length a + suc (length t)
  long = ap length e ∙ length-append a (b ∷ t)

  -- the first place is behind the first part
  pub behind : i ≡ length a
  behind = go (dec_lt i (length a)) (dec_lt (length a) i)
    where
      go : Dec (i < length a) → Dec (length a < i) → i ≡ length a
      go (yes h) d = absurd (all_at (λ x. x ≢ b) 0 a i none h (sym (get_or-append a (b ∷ t) 0 i h) ∙ ap (λ (l : List ℕ). get_or l i 0) (sym e) ∙ f.here (omega (arith, long))))
      go (no h) (yes d) = absurd (f.before (length a) d (ap (λ (l : List ℕ). get_or l (length a) 0) e ∙ get_or-append_seam a b t 0))
      go (no h) (no d) = omega arith

  pub within : i < length s
  within = omega (arith, long, behind)

  pub left : take i s ≡ a
  left = rw e (take_at a (b ∷ t) i (sym behind))

  pub right : drop (i + 1) s ≡ t
  right =
      rw (e, add-one i) (ap (λ (k : ℕ). drop (suc k) (a ++ (b ∷ t))) behind ∙ after a)
    where
      after : (a : List ℕ) → drop (suc (length a)) (a ++ (b ∷ t)) ≡ t
      after [] = refl
      after (x ∷ a) = after a
