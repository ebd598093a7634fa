-- A walk's part in what refuses a call (document 02, W5), and that the numbers of the rest rise, as in document 01's table.
-- Assumes nothing.
use Rattle.std.specs.Prelude.{◌≡◌, List, ◌∷◌, map, ℕ, suc}
use Rattle.rules.specs.Refusals.{damaged, RisingFrom}
use Rattle.rules.specs.Act.{Call, Size, Shown, events_of, Ground, mid_walk, grounds, row_of}

-- where a walk bars it, that is the first ground, and the numbers rise behind it
abbrev pub RisesBehind : Size → ℕ → Call → Shown → Type 0
RisesBehind z room c d = (gs : List Ground) × (grounds c ≡ mid_walk ∷ gs) × RisingFrom (suc damaged) (map (row_of z room (events_of c d) d) gs)
