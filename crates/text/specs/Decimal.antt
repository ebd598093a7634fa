-- How a number is written as a plain decimal: no leading zero, no plus, no `-0`, no blanks (document 01, "The card").
-- Assumes nothing: these are definitions.
use Rattle.std.specs.Prelude.{List, [], ◌∷◌, ◌++◌, ℕ, zero, suc, ◌+◌, ◌/◌, ◌%◌, ℤ, pos, negsuc}

-- a digit as a byte
abbrev pub digit : ℕ → ℕ
digit d = 48 + d

-- the digits of n, none for 0: those of n / 10, and the last one behind them. The first argument only bounds their number
unfoldable pub tens : ℕ → ℕ → List ℕ
tens zero n = []
tens (suc k) zero = []
tens (suc k) (suc n) = tens k (suc n / 10) ++ (digit (suc n % 10) ∷ [])

-- a number from 0 up: `0`, or its digits
unfoldable pub decimal : ℕ → List ℕ
decimal zero = digit 0 ∷ []
decimal (suc n) = tens (suc n) (suc n)

-- a whole number: a minus before the digits of one below 0
unfoldable pub whole : ℤ → List ℕ
whole (pos n) = decimal n
whole (negsuc n) = 45 ∷ decimal (suc n)
