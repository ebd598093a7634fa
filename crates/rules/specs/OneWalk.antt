-- One finished walk: its steps together make goto's moves and hand goto's events over, whatever the host asks and sets
-- between them; with no set they leave goto's world.
-- From document 02, W5. Assumes nothing.
use Rattle.std.specs.Prelude.{◌≢◌, List, [], ◌∷◌, ℕ, ℤ}
use Rattle.rules.specs.Act.{Call}
use Rattle.rules.specs.Runs.{Asked}

-- ---- with no set the walk is goto
abbrev pub NoSet : List Asked → Type 0
NoSet [] = Unit {0}
NoSet (q ∷ qs) = ((x : ℕ) (v : ℤ) → q.call ≢ Call.set x v) × NoSet qs
