-- The card's own limits (document 01, "The card"). Assumes nothing: these are definitions.
use Rattle.std.specs.Prelude.{ℕ}

-- the bytes of a card, and the largest number of a variable, an environment or a thunk
abbrev pub max_bytes : ℕ
max_bytes = 16384

abbrev pub max_number : ℕ
max_number = 65535
