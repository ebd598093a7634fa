-- What is written is read back as the same number, and two different plain decimals are different numbers. Assumes nothing.
use Rattle.std.specs.Prelude.{◌≡◌, refl, List, ◌∷◌, ℕ, suc, ◌≤◌, ℤ, pos, negsuc, drop, Option, Some}
use Rattle.std.proofs.Common.{sym, ap, subst, arith}
use Rattle.text.specs.Every.{All}
use Rattle.text.specs.Finds.{Finds}
use Rattle.text.specs.Decimal.{decimal, whole}
use Rattle.text.specs.DecimalLaws.{Digit, decimal_digits, decimal_inj}
use Rattle.text.specs.Numbers.{Within, Valued, IsValue}

no_minus : (n : ℕ) (t : List ℕ) → decimal n ≡ 45 ∷ t → ⊥
no_minus n t e = let d : All Digit (45 ∷ t) = subst (All Digit) e (decimal_digits n) in let l : 48 ≤ 45 = d.0.low in omega arith

pub whole_inj : (y z : ℤ) → whole y ≡ whole z → y ≡ z
unfolding whole
whole_inj (pos m) (pos n) e = ap pos (decimal_inj m n e)
whole_inj (pos m) (negsuc n) e = absurd (no_minus m (decimal (suc n)) e)
whole_inj (negsuc m) (pos n) e = absurd (no_minus n (decimal (suc m)) (sym e))
whole_inj (negsuc m) (negsuc n) e = let p : suc m ≡ suc n = decimal_inj (suc m) (suc n) (ap (drop 1) e) in ap negsuc (omega arith)

-- the reader's answer on the decimal of n is n
pub natural_back : {least most : ℕ} (n : ℕ) (r : Option ℕ) → least ≤ n → n ≤ most → Finds (Within (decimal n) least most) r → r ≡ Some n
natural_back {least} {most} n r h g f = (f.found n).1 (record { text = refl; low = h; high = g })

pub whole_back : (z : ℤ) (r : Option ℤ) → IsValue z → Finds (Valued (whole z)) r → r ≡ Some z
whole_back z r h f = (f.found z).1 (record { text = refl; range = h })
