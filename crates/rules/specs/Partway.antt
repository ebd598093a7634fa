-- A walk that is still under way, and may be dropped there: it has made the first of goto's moves and handed over the first of
-- goto's events.
-- From document 02, W5. Assumes nothing.
use Rattle.std.specs.Prelude.{◌≡◌, true}
use mathlib.Core.List.{List, [], ◌∷◌}
use Rattle.rules.specs.Store.{Deep}
use Rattle.rules.specs.World.{World}
use Rattle.rules.specs.Act.{Size, is_walking}
use Rattle.rules.specs.Runs.{Asked, after}

-- ---- a run with a walk under way all along
abbrev pub Inside : Size → List Asked → World Deep → Type 0
Inside z [] w = is_walking w.walk ≡ true
Inside z (q ∷ qs) w = (is_walking w.walk ≡ true) × Inside z qs (after z q w)
