-- Every walk ends: one of e events that isn't dropped is done at its step e + 1, whatever else is called between.
-- From document 02, W5. Assumes nothing.
use Rattle.std.specs.Prelude.{◌≢◌, List, [], ◌∷◌}
use Rattle.rules.specs.Store.{Deep}
use Rattle.rules.specs.World.{World}
use Rattle.rules.specs.Moves.{Event}
use Rattle.rules.specs.Stops.{owed}
use Rattle.rules.specs.Act.{stride, drop}
use Rattle.rules.specs.Runs.{Asked}
use Rattle.rules.specs.Going.{target_of, handed_of}

-- ---- calls that drop no walk: steps, and what may stand between them
abbrev pub NoDrop : List Asked → Type 0
NoDrop [] = Unit {0}
NoDrop (q ∷ qs) = (q.call ≢ stride drop) × NoDrop qs

-- what is owed in w
abbrev pub owed_in : World Deep → List Event
owed_in w = owed w.store.tree w.store.focus (target_of w.walk) (handed_of w.walk)
