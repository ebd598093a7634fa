-- The wind's prelude and its parent are read, document 01's walk goes to that parent, and the wind is written into the header.
use Rattle.layout.proofs.Reading.{fit_made}
use Rattle.layout.proofs.LegLaws.{moved_handed}
use Rattle.store.proofs.Strides.{stop_moved}
use Rattle.store.proofs.stride.hand_entered.Goals as goal

pub parent_of-place-requires : goal.parent_of-place-requires
parent_of-place-requires c = let (ok, (made, stop)) = c.requires in fit_made _ ok _ made

pub var_of-thunk-requires : goal.var_of-thunk-requires
var_of-thunk-requires c =
    let (ok, (made, stop)) = c.requires in
    fit_made _ ok _ made

pub returns-clause-moved : goal.returns-clause-moved
returns-clause-moved c = rw c.set_handed.ensures (moved_handed _ _ _ (stop_moved c.parent_of-place.ensures c.go-step.ensures.moved) _)
