-- A walk under way: what is still to come of it, by one call after the other. proofs/OneWalk has what follows.
-- From document 02, W5. Assumes nothing.
use Rattle.std.specs.Prelude.{◌≡◌, ℕ, suc}
use Rattle.std.proofs.Math.Option.{Option, none, some}
use mathlib.Core.List.{List, [], map}
use Rattle.std.proofs.Math.ListN.{length}
use Rattle.rules.specs.Store.{Deep, shallow}
use Rattle.rules.specs.World.{Walk, World}
use Rattle.rules.specs.Moves.{route}
use Rattle.rules.specs.Stops.{owed}
use Rattle.rules.specs.Act.{Call, Size, shown, moves_of, Outcome}
use Rattle.rules.specs.Places.{Due, AllPlaced}
use Rattle.rules.specs.Runs.{Asked, leaves}
use Rattle.rules.specs.Deeds.{Deeds, moves_in}
use Rattle.rules.specs.Thunks.{deeds_of, if_done, deeds, handed_over, reported, steps}

-- ---- the walk that is under way in w, and what is still to come of it
abbrev pub target_of : Option Walk → ℕ
target_of none = 0
target_of (some k) = k.target

abbrev pub handed_of : Option Walk → Option ℕ
handed_of none = none
handed_of (some k) = k.handed

pub record Going (z : Size) (qs : List Asked) (w : World Deep) : Type 0 where
  pub arrives : (leaves z qs w).store.focus ≡ target_of w.walk
  pub over : (leaves z qs w).walk ≡ none
  pub leads : Deeds (shallow w.store) (deeds z qs w) (shallow (leaves z qs w).store)
  pub joins : moves_in (deeds z qs w) ≡ route w.store.tree w.store.focus (target_of w.walk)
  pub told : map (λ (d : Due). d.event) (handed_over z qs w) ≡ owed w.store.tree w.store.focus (target_of w.walk) (handed_of w.walk)
  pub placed : AllPlaced (handed_over z qs w)
  pub counted : reported z qs w ≡ length (moves_in (deeds z qs w))
  pub stepped : steps qs ≡ suc (length (handed_over z qs w))

-- an outcome that leaves the tree and the focus where they are
pub record Quiet (c : Call) (w : World Deep) (r : Outcome (World Deep)) : Type 0 where
  pub tree : r.after.store.tree ≡ w.store.tree
  pub focus : r.after.store.focus ≡ w.store.focus
  pub events : r.events ≡ []
  pub count : moves_of r.answer ≡ 0
  pub leads : Deeds (shallow w.store) (if_done r.answer (deeds_of c (shown w))) (shallow r.after.store)
  pub no_moves : moves_in (if_done r.answer (deeds_of c (shown w))) ≡ []
