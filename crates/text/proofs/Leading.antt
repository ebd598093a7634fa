-- A line at the front of a text, up to its LF. Assumes nothing.
use mathlib.Core.Path.{◌≡◌, refl, sym, ap, ◌∙◌}
use mathlib.Core.Bool.{Bool, true, false, cond}
use mathlib.Core.Logic.{◌≢◌}
use Rattle.std.specs.Prelude.{Option, None, Some}
use mathlib.Core.List.{List, [], ◌∷◌, ◌++◌}
use Prim.Native.Nat.{ℕ, ◌+◌, ◌<◌, ◌≤◌}
use native.Mathlib.Omega.{arith}
use borrow.Author.Tests.{eq-eqb}
use lib.Dec.{T, eqb}
use lib.IntN.{ℤ, pos, negsuc}
use lib.ListN.{length, take, drop}
use lib.Seq.{length-take-le}
use Rattle.text.specs.declared.line.Op.TheVariants as op
use Rattle.text.specs.declared.line.Line.{Line}
use Rattle.text.specs.declared.line.Line.TheVariants as line
use Rattle.text.specs.Words.{bytes}
use Rattle.text.specs.Finds.{Finds, hit, miss, got, gone, same}
use Rattle.text.specs.Decimal.{decimal, whole}
use Rattle.text.specs.Every.{All, all_append, all_map}
use Rattle.text.specs.DecimalLaws.{Digit, decimal_digits}
use Rattle.text.specs.Keys.{text}
use Rattle.text.specs.Lines.{key, operands, pair, written, Good, FirstAt, Leads}
use Rattle.text.proofs.KeyTable.{each}
use Rattle.text.proofs.Cutting.{cut, behind, within, left}

-- ---- no line has an LF in it
abbrev Unbroken : List ℕ → Type 0
Unbroken s = All (λ x. x ≢ 10) s

abbrev unbroken : List ℕ → Bool
unbroken [] = true
unbroken (x ∷ s) = cond (eqb x 10) false (unbroken s)

tested : (s : List ℕ) → T (unbroken s) → Unbroken s
tested [] t = tt
tested (x ∷ s) t = go (eqb x 10) refl t (tested s)
  where
    go : (b : Bool) → eqb x 10 ≡ b → T (cond b false (unbroken s)) → (T (unbroken s) → Unbroken s) → Unbroken (x ∷ s)
    go true e u ih = absurd u
    go false e u ih = ((λ q. (let z : true ≡ false = sym (eq-eqb x 10 q) ∙ e in let n : ◌≡◌ {A = ℕ} 0 1 = cc in omega arith)), ih u)

natural : (n : ℕ) → Unbroken (decimal n)
natural n = all_map Digit (λ x. x ≢ 10) (λ x d e. (let l : 48 ≤ x = d.low in omega arith)) (decimal n) (decimal_digits n)

signed : (z : ℤ) → Unbroken (whole z)
unfolding whole
signed (pos n) = natural n
signed (negsuc n) = ((λ e. omega arith), natural (ℕ.suc n))

two : (s t : List ℕ) → Unbroken s → Unbroken t → Unbroken (pair s t)
two s t f g = all_append (λ x. x ≢ 10) s (44 ∷ t) f ((λ e. omega arith), g)

behind_key : (l : Line) → Unbroken (operands l)
behind_key (line.Vars n) = natural n
behind_key (line.Nodes n) = natural n
behind_key (line.Room n) = natural n
behind_key (line.Top (Some v)) = signed v
behind_key (line.Top None) = tested (bytes "none") tt
behind_key (line.Do (op.Bind x v)) = two (decimal x) (whole v) (natural x) (signed v)
behind_key (line.Do (op.Wind p q)) = two (decimal p) (decimal q) (natural p) (natural q)
behind_key (line.Do (op.Look x)) = natural x
behind_key (line.Do (op.Set x v)) = two (decimal x) (whole v) (natural x) (signed v)
behind_key (line.Do op.Here) = tested (bytes "now") tt
behind_key (line.Do (op.Goto a)) = natural a
behind_key (line.Do op.Back) = tested (bytes "1") tt
behind_key (line.Do (op.Peek a x)) = two (decimal a) (decimal x) (natural a) (natural x)

pub one_line : (l : Line) → Unbroken (written l)
one_line l = all_append (λ x. x ≢ 10) (text (key l)) (operands l) (tested (text (key l)) (each (λ i w. unbroken (text w)) tt (key l))) (behind_key l)

-- ---- the part up to the first LF is the line
module _ {s : List ℕ} {i : ℕ} (f : FirstAt 10 s i) where
  pub no_end : length s ≤ i → Finds (Leads s) None
  no_end h = miss (λ a p. (let w : i < length s = within (written a.0) p.rest f (one_line a.0) p.text in omega arith))

  -- the line that s begins with is the part's
  its : (a : Line × ℕ) → Leads s a → Good (take i s) a.0
  its a p = record { text = left (written a.0) p.rest f (one_line a.0) p.text; range = p.range }

  module _ {o : Option Line} (g : Finds (Good (take i s)) o) where
    pub bad_line_lem : o ≡ None → Finds (Leads s) None
    bad_line_lem e = miss (λ a p. gone g e (its a p))

    pub good_line : i < length s → {l : Line} → o ≡ Some l → Finds (Leads s) (Some (l, i + 1))
    good_line h {l} e = hit (l, i + 1) leads only
      where
        t : take i s ≡ written l
        t = (got g e).text

        leads : Leads s (l, i + 1)
        leads =
            record {
              rest = drop (i + 1) s;
              text = cut f h ∙ ap (λ (z : List ℕ). z ++ (10 ∷ drop (i + 1) s)) t;
              range = (got g e).range;
              size = ap (λ (n : ℕ). n + 1) (sym (length-take-le i s f.inside) ∙ ap length t);
            }

        only : (a : Line × ℕ) → Leads s a → (l, i + 1) ≡ a
        only a p =
            λ j. (
              same g e (its a p) j,
              (ap (λ (n : ℕ). n + 1) (behind (written a.0) p.rest f (one_line a.0) p.text) ∙ sym p.size) j,
            )
