-- Two lines with the same text are the same line, and a text begins with one line alone. Assumes nothing.
use mathlib.Core.Path.{◌≡◌, refl, sym, ap, subst, ◌∙◌}
use mathlib.Core.Logic.{◌≢◌}
use mathlib.Core.List.{List, [], ◌∷◌, ◌++◌}
use Prim.Native.Nat.{ℕ, ◌≤◌}
use native.Mathlib.Omega.{arith}
use lib.IntN.{ℤ}
use lib.ListN.{length, get_or, drop}
use lib.Seq.{drop_at}
use Rattle.std.specs.Prelude.{Option, None, Some}
use Rattle.text.specs.declared.keys.Word.{Word}
use Rattle.text.specs.declared.keys.Word.TheVariants as word
use Rattle.text.specs.declared.line.Line.{Line}
use Rattle.text.specs.declared.line.Line.TheVariants as line
use Rattle.text.specs.Words.{bytes}
use Rattle.text.specs.Every.{All}
use Rattle.text.specs.Decimal.{decimal, whole}
use Rattle.text.specs.DecimalLaws.{decimal_inj}
use Rattle.text.specs.ReadBack.{whole_inj}
use Rattle.text.specs.Keys.{text}
use Rattle.text.specs.Lines.{key, operands, pair, written}
use Rattle.text.proofs.KeyTable.{alone}
use Rattle.text.proofs.Pairs.{no_comma}
use Rattle.text.proofs.Operands.{Args, make, made, low}
use Rattle.text.proofs.Leading.{one_line}

-- ---- a text is cut at the first place of a byte in one way
cut_one : (c : ℕ) (a b s t : List ℕ) → All (λ x. x ≢ c) a → All (λ x. x ≢ c) b → a ++ (c ∷ s) ≡ b ++ (c ∷ t) → (a ≡ b) × (s ≡ t)
cut_one c [] [] s t f g e = (refl, ap (drop 1) e)
cut_one c [] (y ∷ b) s t f g e = absurd (g.0 (sym (ap (λ (l : List ℕ). get_or l 0 0) e)))
cut_one c (x ∷ a) [] s t f g e = absurd (f.0 (ap (λ (l : List ℕ). get_or l 0 0) e))
cut_one c (x ∷ a) (y ∷ b) s t f g e = go (cut_one c a b s t f.1 g.1 (ap (drop 1) e))
  where
    go : (a ≡ b) × (s ≡ t) → (x ∷ a ≡ y ∷ b) × (s ≡ t)
    go (p, q) = ((λ i. ap (λ (l : List ℕ). get_or l 0 0) e i ∷ p i), q)

pair_inj : {B : Type 0} (spell : B → List ℕ) → ((x y : B) → spell x ≡ spell y → x ≡ y) → (a b : ℕ × B) →
    pair (decimal a.0) (spell a.1) ≡ pair (decimal b.0) (spell b.1) → a ≡ b
pair_inj {B} spell inj a b e =
    let c = cut_one 44 (decimal a.0) (decimal b.0) (spell a.1) (spell b.1) (no_comma a.0) (no_comma b.0) e in
    λ i. (decimal_inj a.0 b.0 c.0 i, inj a.1 b.1 c.1 i)

not_none : (v : ℤ) → whole v ≡ bytes "none" → ⊥
not_none v e = let l : All (λ b. b ≤ 57) (bytes "none") = subst (All (λ b. b ≤ 57)) e (low v) in let q : 110 ≤ 57 = l.0 in omega arith

cell_inj : (c d : Option ℤ) → operands (line.Top c) ≡ operands (line.Top d) → c ≡ d
cell_inj (Some v) (Some w) e = ap Some (whole_inj v w e)
cell_inj (Some v) None e = absurd (not_none v e)
cell_inj None (Some w) e = absurd (not_none w (sym e))
cell_inj None None e = refl

args_inj : (w : Word) (a b : Args w) → operands (make w a) ≡ operands (make w b) → a ≡ b
args_inj word.Vars a b e = decimal_inj a b e
args_inj word.Nodes a b e = decimal_inj a b e
args_inj word.Room a b e = decimal_inj a b e
args_inj word.Top a b e = cell_inj a b e
args_inj word.Bind a b e = pair_inj whole whole_inj a b e
args_inj word.Wind a b e = pair_inj decimal decimal_inj a b e
args_inj word.Look a b e = decimal_inj a b e
args_inj word.Set a b e = pair_inj whole whole_inj a b e
args_inj word.Here a b e = refl
args_inj word.Goto a b e = decimal_inj a b e
args_inj word.Back a b e = refl
args_inj word.Peek a b e = pair_inj decimal decimal_inj a b e

pub written_inj : (l k : Line) → written l ≡ written k → l ≡ k
written_inj l k e = sym a.1 ∙ ap (make (key k)) (args_inj (key k) a.0 (made k).0 same) ∙ (made k).1
  where
    words : key l ≡ key k
    words = alone (written l) (key l) (key k) (record { rest = operands l; joined = refl }) (record { rest = operands k; joined = e })

    a : (x : Args (key k)) × (make (key k) x ≡ l)
    a = subst (λ (w : Word). (x : Args w) × (make w x ≡ l)) words (made l)

    behind : operands l ≡ operands k
    behind =
        sym (drop_at (text (key l)) (operands l) (length (text (key k))) (ap (λ (w : Word). length (text w)) words))
        ∙ ap (drop (length (text (key k)))) e ∙ drop_at (text (key k)) (operands k) (length (text (key k))) refl

    same : operands (make (key k) a.0) ≡ operands (make (key k) (made k).0)
    same = ap operands a.1 ∙ behind ∙ sym (ap operands (made k).1)

-- a text begins with one line and its LF alone
pub line_one : (l k : Line) (s t : List ℕ) → written l ++ (10 ∷ s) ≡ written k ++ (10 ∷ t) → (l ≡ k) × (s ≡ t)
line_one l k s t e = go (cut_one 10 (written l) (written k) s t (one_line l) (one_line k) e)
  where
    go : (written l ≡ written k) × (s ≡ t) → (l ≡ k) × (s ≡ t)
    go (p, q) = (written_inj l k p, q)
