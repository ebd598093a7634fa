-- The verdict on the rest of a card, for the check's own functions. Assumes nothing: these are definitions.
use Rattle.std.specs.Prelude.{◌≡◌, List, [], ◌∷◌, ℕ, suc, ◌+◌, ◌≤◌, ◌<◌, Result, Ok, Err}
use Rattle.text.specs.declared.line.Line.{Line}
use Rattle.text.specs.declared.line.Line.TheVariants.{Vars, Nodes, Room, Top, Do}
use Rattle.text.specs.Lines.{InRange}
use Rattle.card.specs.declared.check.BadLine.{BadLine}
use Rattle.card.specs.Cards.{Made, Breaks}

-- the verdict r on a rest s of which the lines in K are whole, with so many lines before it
pub record Judged (K : List Line → Type 0) (s : List ℕ) (before : ℕ) (r : Result (Unit {0}) BadLine) : Type 0 where
  pub good : r ≡ Ok tt → Made K s
  pub bad : (b : BadLine) → r ≡ Err b → (n : ℕ) × (b.0 ≡ suc (before + n)) × Breaks K s n

-- a line may stand behind so many lines, where so many stand before the operations
abbrev pub MayStand : Line → ℕ → ℕ → Type 0
MayStand (Vars n) before ops = before ≡ 0
MayStand (Nodes n) before ops = before ≡ 1
MayStand (Room n) before ops = before ≡ 2
MayStand (Top c) before ops = (3 ≤ before) × (before < ops)
MayStand (Do o) before ops = ops ≤ before

-- how many lines stand before the operations once a line is read: three headings, and as many top values as vars says
abbrev pub ops_from : Line → ℕ → ℕ
ops_from (Vars n) ops = 3 + n
ops_from (Nodes n) ops = ops
ops_from (Room n) ops = ops
ops_from (Top c) ops = ops
ops_from (Do o) ops = ops

-- the lines that may follow so many others, to the end of a card
abbrev pub Follow : ℕ → ℕ → List Line → Type 0
Follow before ops [] = ops ≤ before
Follow before ops (l ∷ ls) = InRange l × MayStand l before ops × Follow (before + 1) (ops_from l ops) ls
