-- A value written by its sign. Assumes nothing.
use mathlib.Core.Path.{◌≡◌, refl}
use mathlib.Core.Bool.{true, false}
use mathlib.Core.List.{◌∷◌}
use native.Mathlib.Omega.{arith}
use Rattle.std.proofs.lemmas.Int.{ints}
use lib.IntN.{ℤ, pos, negsuc, nat_abs}
use lib.Signed.{lt_z}
use mir.Syntax.{w32}
use mir.Val.{of_z, to_z, SFits}
use mir.ValLaws.{to_z-of_z}
use Rattle.rules.proofs.Basic.{clash}
use Rattle.text.specs.Decimal.{decimal, whole}

up : (z : ℤ) → lt_z z (pos 0) ≡ false → decimal (nat_abs z) ≡ whole z
unfolding whole
up (pos n) h = refl
up (negsuc n) h = clash refl h

down : (z : ℤ) → lt_z z (pos 0) ≡ true → 45 ∷ decimal (nat_abs z) ≡ whole z
unfolding whole
down (pos n) h = absurd (grind (arith, ints))
down (negsuc n) h = refl

-- the same of 32 bits
module _ (z : ℤ) (f : SFits w32 z) where
  pub whole_up : lt_z (to_z w32 (of_z w32 z)) (pos 0) ≡ false → decimal (nat_abs (to_z w32 (of_z w32 z))) ≡ whole z
  whole_up = rw (to_z-of_z w32 z f) (up z)

  pub whole_down : lt_z (to_z w32 (of_z w32 z)) (pos 0) ≡ true → 45 ∷ decimal (nat_abs (to_z w32 (of_z w32 z))) ≡ whole z
  whole_down = rw (to_z-of_z w32 z f) (down z)
