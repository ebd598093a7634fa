-- What is proved of specs/Deeds.antt, whose head says it in words. Assumes nothing.
use Rattle.std.specs.Prelude.{◌≡◌, refl, List, [], ◌∷◌, ◌++◌, map, ℕ}
use Rattle.std.proofs.Common.{sym, ap, ◌∙◌}
use Rattle.rules.specs.Values.{Cell}
use Rattle.rules.specs.Store.{Store, Deep, Sound, shallow}
use Rattle.rules.proofs.Store.{home_shallow, shallow_home}
use Rattle.rules.specs.Moves.{Move, Moves, done, move}
use Rattle.rules.specs.Calls.{set_cell, set_deep}
use Rattle.rules.proofs.Calls.{set_sound, home_set}
use Rattle.rules.specs.Deeds.{Deed, moves, sets, Deeds, rest, moved, set, moves_in}

-- ---- laws
pub moves_deeds : {s s' : Store} {ms : List Move} → Moves s ms s' → Deeds s (map moves ms) s'
moves_deeds done = rest
moves_deeds (move h r) = moved h (moves_deeds r)

pub deeds_append : {s s₁ s₂ : Store} {ds es : List Deed} → Deeds s ds s₁ → Deeds s₁ es s₂ → Deeds s (ds ++ es) s₂
deeds_append rest k = k
deeds_append (moved h r) k = moved h (deeds_append r k)
deeds_append (set r) k = set (deeds_append r k)

pub moves_append : (ds es : List Deed) → moves_in (ds ++ es) ≡ moves_in ds ++ moves_in es
moves_append [] es = refl
moves_append (moves m ∷ ds) es = ap (λ (ms : List Move). m ∷ ms) (moves_append ds es)
moves_append (sets x c ∷ ds) es = moves_append ds es

pub moves_only : (ms : List Move) → moves_in (map moves ms) ≡ ms
moves_only [] = refl
moves_only (m ∷ ms) = ap (λ (l : List Move). m ∷ l) (moves_only ms)

-- a set of the cell is the set of the meaning
set_shallow : (x : ℕ) (c : Cell) (d : Deep) → Sound (shallow d) → set_cell x c (shallow d) ≡ shallow (set_deep x c d)
set_shallow x c d ok =
    sym (shallow_home (set_cell x c (shallow d)) (set_sound x c (shallow d) ok))
    ∙ ap shallow (home_set x c (shallow d) ok ∙ ap (set_deep x c) (home_shallow d))

pub set_leads : (x : ℕ) (c : Cell) (d : Deep) → Sound (shallow d) → Deeds (shallow d) (sets x c ∷ []) (shallow (set_deep x c d))
set_leads x c d ok = let one : Deeds (set_cell x c (shallow d)) [] (shallow (set_deep x c d)) = rw (set_shallow x c d ok) rest in set one
