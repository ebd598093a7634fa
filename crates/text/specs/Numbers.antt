-- What the readers of numbers promise: the number whose plain decimal the text is, within limits, or that there is none.
-- Assumes nothing: these are definitions.
use Rattle.std.specs.Prelude.{◌≡◌, Bool, true, false, List, [], ◌∷◌, ℕ, ◌+◌, ◌-◌, ◌*◌, ◌≤◌, eqb, ℤ, pos, negsuc}
use Rattle.text.specs.Decimal.{decimal, whole}
use Rattle.text.specs.DecimalLaws.{Digit}

-- s is the plain decimal of n, and n lies within limits
pub record Within (s : List ℕ) (least most n : ℕ) : Type 0 where
  pub text : s ≡ decimal n
  pub low : least ≤ n
  pub high : n ≤ most

-- the values of document 01: -2,147,483,648 to 2,147,483,647
abbrev pub IsValue : ℤ → Type 0
IsValue (pos n) = n ≤ 2147483647
IsValue (negsuc n) = n + 1 ≤ 2147483648

-- s is the plain decimal of the value z
pub record Valued (s : List ℕ) (z : ℤ) : Type 0 where
  pub text : s ≡ whole z
  pub range : IsValue z

-- the value z is the number n, at most a limit
pub record Counted (z : ℤ) (most n : ℕ) : Type 0 where
  pub is : z ≡ pos n
  pub high : n ≤ most

-- w is v with the digit b behind it, and is at most a limit
pub record Grown (v b most w : ℕ) : Type 0 where
  pub digit : Digit b
  pub sum : w ≡ v * 10 + (b - 48)
  pub high : w ≤ most

-- no digit at all, or a zero with more behind it
unfoldable pub misbegun : List ℕ → Bool
misbegun [] = true
misbegun (b ∷ []) = false
misbegun (b ∷ x ∷ s) = eqb b 48
