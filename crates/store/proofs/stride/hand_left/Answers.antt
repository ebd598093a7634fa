-- The wind's postlude and its parent are read, then document 01's walk goes to that parent.
use Rattle.layout.proofs.Reading.{fit_made}
use Rattle.store.proofs.stride.hand_left.Goals as goal

pub parent_of-place-requires : goal.parent_of-place-requires
parent_of-place-requires c = let (ok, (made, stop)) = c.requires in fit_made _ ok _ made

pub post_of-thunk-requires : goal.post_of-thunk-requires
post_of-thunk-requires c =
    let (ok, (made, stop)) = c.requires in
    fit_made _ ok _ made
