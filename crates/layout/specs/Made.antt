-- Which numbers are environments, which number comes next, and when there is no room: document 01 numbers in the order of
-- making. The calls ask by these three; of the definitions only soundness compares numbers with `made` beside them.
-- Assumes nothing: these are definitions.
use Rattle.std.specs.Prelude.{◌≡◌, ℕ, ◌<◌, List}
use Rattle.layout.specs.Records.{made, room}

-- a is an environment of the store
unfoldable pub IsMade : List ℕ → ℕ → Type 0
IsMade s a = a < made s

-- the number of the next environment
unfoldable pub next_of : List ℕ → ℕ
next_of s = made s

-- there is no room for another
unfoldable pub IsFull : List ℕ → Type 0
IsFull s = made s ≡ room s
