-- Two operands with a comma between them, cut at the first comma. Assumes nothing.
use mathlib.Core.Path.{◌≡◌, sym, ap, ◌∙◌}
use mathlib.Core.Logic.{◌≢◌}
use Rattle.std.specs.Prelude.{Option, None, Some}
use mathlib.Core.List.{List, ◌∷◌, ◌++◌}
use Prim.Native.Nat.{ℕ, ◌+◌, ◌-◌, ◌<◌, ◌≤◌}
use native.Mathlib.Omega.{arith}
use lib.IntN.{ℤ}
use lib.ListN.{length, take, drop}
use Rattle.text.specs.Finds.{Finds, hit, miss, got, gone, same}
use Rattle.text.specs.Decimal.{decimal, whole}
use Rattle.text.specs.Every.{All, all_map}
use Rattle.text.specs.DecimalLaws.{Digit, decimal_digits}
use Rattle.text.specs.Limits.{max_number}
use Rattle.text.specs.Numbers.{Within, Valued}
use Rattle.text.specs.Lines.{FirstAt, Pair}
use Rattle.text.proofs.Cutting.{to_end, cut, within, left, right}

-- a decimal has no comma
pub no_comma : (n : ℕ) → All (λ x. x ≢ 44) (decimal n)
no_comma n = all_map Digit (λ x. x ≢ 44) (λ x d e. (let l : 48 ≤ x = d.low in omega arith)) (decimal n) (decimal_digits n)

module _ {s : List ℕ} {i : ℕ} (f : FirstAt 44 s i) where
  pub uncut : length s ≤ i → Finds (Pair s) None
  uncut h = miss (λ a p. (let w : i < length s = within (decimal a.0) (whole a.1) f (no_comma a.0) p.text in omega arith))

  -- a pair by its parts, the second as the code lends it
  apart : (a : ℕ × ℤ) → Pair s a → Within (take i s) 0 max_number a.0 × Valued (take (length s - (i + 1)) (drop (i + 1) s)) a.1
  apart a p = (
    record { text = left (decimal a.0) (whole a.1) f (no_comma a.0) p.text; low = omega arith; high = p.first },
    record { text = to_end s (i + 1) ∙ right (decimal a.0) (whole a.1) f (no_comma a.0) p.text; range = p.second },
  )

  module _ {o : Option ℕ} (g : Finds (Within (take i s) 0 max_number) o) where
    pub first_none : o ≡ None → Finds (Pair s) None
    first_none e = miss (λ a p. gone g e (apart a p).0)

    module _ {o' : Option ℤ} (h : Finds (Valued (take (length s - (i + 1)) (drop (i + 1) s))) o') where
      pub second_none : o' ≡ None → Finds (Pair s) None
      second_none e = miss (λ a p. gone h e (apart a p).1)

      pub both : i < length s → {x : ℕ} {v : ℤ} → o ≡ Some x → o' ≡ Some v → Finds (Pair s) (Some (x, v))
      both l {x} {v} e e' = hit (x, v) fits only
        where
          fits : Pair s (x, v)
          fits =
              record {
                text = cut f l ∙ ap (λ (t : List ℕ). t ++ (44 ∷ drop (i + 1) s)) (got g e).text
                    ∙ ap (λ (t : List ℕ). decimal x ++ (44 ∷ t)) (sym (to_end s (i + 1)) ∙ (got h e').text);
                first = (got g e).high;
                second = (got h e').range;
              }

          only : (a : ℕ × ℤ) → Pair s a → (x, v) ≡ a
          only a p = λ j. (same g e (apart a p).0 j, same h e' (apart a p).1 j)
