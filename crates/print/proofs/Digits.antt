-- The digits of a plain decimal from the last one on, for loops that divide by ten until nothing is left. Assumes nothing.
use mathlib.Core.Path.{◌≡◌, refl, ap, ◌∙◌}
use mathlib.Core.List.{[], ◌∷◌}
use Prim.Native.Nat.{ℕ, zero, suc, ◌+◌, ◌<◌, ◌≤◌, ◌^◌, ◌/◌, ◌%◌}
use native.Mathlib.Nat.{pow-suc, div-lt_iff_lt-mul}
use native.Mathlib.Omega.{arith}
use lib.Dec.{lit<}
use lib.ListN.{length, length-append}
use Rattle.text.specs.Decimal.{digit, decimal}
use Rattle.text.specs.DecimalLaws.{decimal_one, decimal_split}

-- where a division by ten leaves nothing of m, its last digit is its only one
pub only_digit : (m : ℕ) → m / 10 ≡ 0 → decimal m ≡ digit (m % 10) ∷ []
only_digit m e = let f : m % 10 ≡ m = omega arith in rw f (decimal_one m (omega arith))

pub one_place : (m : ℕ) → m / 10 ≡ 0 → length (decimal m) ≡ 1
one_place m e = ap length (only_digit m e)

-- where it leaves something, m has one place more than that
pub more_places : (m : ℕ) → 10 ≤ m → length (decimal m) ≡ length (decimal (m / 10)) + 1
more_places m h = ap length (decimal_split m h) ∙ simp length-append

-- there is a last place
pub some_place : (m : ℕ) → 0 < length (decimal m)
some_place m = go (m / 10) refl
  where
    go : (q : ℕ) → m / 10 ≡ q → 0 < length (decimal m)
    go zero e = omega (arith, one_place m e)
    go (suc q) e = omega (arith, more_places m (omega arith))

-- a number below the power k + 1 of ten has k + 1 places at most
pub few_places : (k m : ℕ) → m < 10 ^ suc k → length (decimal m) ≤ suc k
few_places zero m h = omega (arith, one_place m (omega arith))
few_places (suc k) m h = go (m / 10) refl (few_places k (m / 10))
  where
    go : (q : ℕ) → m / 10 ≡ q → (m / 10 < 10 ^ suc k → length (decimal (m / 10)) ≤ suc k) → length (decimal m) ≤ suc (suc k)
    go zero e ih = omega (arith, one_place m e)
    go (suc q) e ih = omega (arith, more_places m (omega arith), ih ((div-lt_iff_lt-mul (lit< tt)).1 (rw (← pow-suc 10 (suc k)) h)))
