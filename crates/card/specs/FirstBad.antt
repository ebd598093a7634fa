-- A card that is good up to a line whose numbers are out of range: that line is its first bad one. Assumes nothing.
use Rattle.std.specs.Prelude.{◌≡◌, refl, ◌⊎◌, List, [], ◌∷◌, ◌++◌, ℕ, ◌<◌, length}
use Rattle.std.proofs.Common.{sym, ap, subst, ◌∙◌, inl, inr, append_assoc, append-nil, arith, length-append}
use Rattle.text.specs.declared.line.Line.{Line}
use Rattle.text.specs.Every.{All}
use Rattle.text.specs.Lines.{written, InRange}
use Rattle.text.proofs.Injective.{line_one}
use Rattle.card.specs.Cards.{Whole, text, Breaks}

-- the first of lines in range are in range
range_front : (ls ms : List Line) → All InRange (ls ++ ms) → All InRange ls
range_front [] ms h = tt
range_front (l ∷ ls) ms h = (h.0, range_front ls ms h.1)

-- no lines in range are the text of the good ones and of one that is not
module _ (l : Line) (out : InRange l → ⊥) (rest : List ℕ) where
  none_fit : (first ls : List Line) (u : List ℕ) → All InRange ls → (u ≡ []) ⊎ (length first < length ls)
      → text ls ++ u ≡ text first ++ (written l ++ (10 ∷ rest)) → ⊥
  none_fit first [] u r (inl h) e =
      omega (arith, ap length (sym h ∙ e), length-append (text first) (written l ++ (10 ∷ rest)), length-append (written l) (10 ∷ rest))
  none_fit first [] u r (inr h) e = omega arith
  none_fit [] (x ∷ ls) u r h e =
      out (subst InRange (line_one x l (text ls ++ u) rest (sym (append_assoc (written x) (10 ∷ text ls) u) ∙ e)).0 r.0)
  none_fit (y ∷ first) (x ∷ ls) u r h e =
      none_fit first ls u r.1 (fewer h)
      (line_one x y (text ls ++ u) (text first ++ (written l ++ (10 ∷ rest)))
      (sym (append_assoc (written x) (10 ∷ text ls) u) ∙ e ∙ append_assoc (written y) (10 ∷ text first) (written l ++ (10 ∷ rest)))).1
    where
      fewer : (u ≡ []) ⊎ (length (y ∷ first) < length (x ∷ ls)) → (u ≡ []) ⊎ (length first < length ls)
      fewer (inl p) = inl p
      fewer (inr p) = inr (omega (arith, p))

  pub first_bad : (first more : List Line) → Whole (first ++ more) → Breaks Whole (text first ++ (written l ++ (10 ∷ rest))) (length first)
  first_bad first more w =
      record {
        bad = λ m. none_fit first m.lines [] m.whole.range (inl refl) (append-nil (text m.lines) ∙ sym m.bytes);
        before = record { first = first; more = more; rest = written l ++ (10 ∷ rest); whole = w; count = refl; bytes = refl };
        here = λ o. none_fit first o.first o.rest (range_front o.first o.more o.whole.range) (inr (omega (arith, o.count))) (sym o.bytes);
      }
