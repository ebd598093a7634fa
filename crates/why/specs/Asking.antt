-- What a card asks (document 02, W7): its last operation, where that is a peek; otherwise its last line is a bad one, behind any other.
-- Assumes nothing: these are definitions.
use Rattle.std.specs.Prelude.{◌≡◌, List, [], ◌∷◌, ◌++◌, ℕ, length, Result, Ok, Err}
use Rattle.text.specs.declared.line.Op.TheVariants as op
use Rattle.text.specs.declared.line.Line.{Line}
use Rattle.text.specs.declared.line.Line.TheVariants as line
use Rattle.card.specs.Cards.{Passes, StopsAt}
use Rattle.card.specs.declared.check.BadLine.{BadLine}
use Rattle.why.specs.declared.asked.Peek.{Peek}

-- the answers: a peek of x at the environment a, or the line that stands for asking nothing
abbrev pub peek : ℕ → ℕ → Result Peek BadLine
peek a x = Ok (record { env = a; var = x })

abbrev pub bad : ℕ → Result Peek BadLine
bad n = Err (record { 0 = n })

-- what the last line l asks, where there are n lines; the headings and the operations but peek ask nothing
abbrev pub asked_by : Line → ℕ → Result Peek BadLine
asked_by (line.Vars v) n = bad n
asked_by (line.Nodes v) n = bad n
asked_by (line.Room v) n = bad n
asked_by (line.Top c) n = bad n
asked_by (line.Do (op.Bind x v)) n = bad n
asked_by (line.Do (op.Wind p q)) n = bad n
asked_by (line.Do (op.Look x)) n = bad n
asked_by (line.Do (op.Set x v)) n = bad n
asked_by (line.Do op.Here) n = bad n
asked_by (line.Do (op.Goto a)) n = bad n
asked_by (line.Do op.Back) n = bad n
asked_by (line.Do (op.Peek a x)) n = peek a x

-- a card that is no good is stopped at its line; of any other the last line counts
pub data Asks (card : List ℕ) : Result Peek BadLine → Type 0 where
  stopped : (n : ℕ) → StopsAt card n → Asks card (bad n)
  last : (g : Passes card) (front : List Line) (l : Line) → g.1.lines ≡ front ++ (l ∷ []) → Asks card (asked_by l (length g.1.lines))
