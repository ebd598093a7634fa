-- What a good card is, and which line of any other is the first bad one (document 01, "The card").
-- Assumes nothing: these are definitions.
use Rattle.std.specs.Prelude.{◌≡◌, ◌⊎◌, List, [], ◌∷◌, ◌++◌, map, ℕ, ℤ, zero, suc, ◌≤◌, ◌<◌, length, Option, Result, Ok, Err}
use Rattle.rules.specs.Refusals.{no_line}
use Rattle.text.specs.declared.line.Op.{Op}
use Rattle.text.specs.declared.line.Line.{Line}
use Rattle.text.specs.declared.line.Line.TheVariants.{Vars, Nodes, Room, Top, Do}
use Rattle.text.specs.Words.{bytes}
use Rattle.text.specs.Every.{All}
use Rattle.text.specs.Limits.{max_bytes}
use Rattle.text.specs.Lines.{written, InRange}
use Rattle.card.specs.declared.check.BadLine.{BadLine}

-- the lines of a whole card: vars, nodes, room, as many tops as vars says, then operations, all numbers in range
pub record Whole (ls : List Line) : Type 0 where
  pub vars : ℕ
  pub nodes : ℕ
  pub room : ℕ
  pub tops : List (Option ℤ)
  pub ops : List Op
  pub order : ls ≡ Vars vars ∷ Nodes nodes ∷ Room room ∷ (map Top tops ++ map Do ops)
  pub count : length tops ≡ vars
  pub range : All InRange ls

-- lines as text, each with its LF
abbrev pub text : List Line → List ℕ
text [] = []
text (l ∷ ls) = written l ++ (bytes "\n" ++ text ls)

-- s is the text of lines that are whole
pub record Made (K : List Line → Type 0) (s : List ℕ) : Type 0 where
  pub lines : List Line
  pub whole : K lines
  pub bytes : s ≡ text lines

-- the first n lines of s are the first n of lines that are whole
pub record Opens (K : List Line → Type 0) (s : List ℕ) (n : ℕ) : Type 0 where
  pub first : List Line
  pub more : List Line
  pub rest : List ℕ
  pub whole : K (first ++ more)
  pub count : length first ≡ n
  pub bytes : s ≡ text first ++ rest

-- s is not whole; its first n lines are the beginning of what is, and one line more is not
pub record Breaks (K : List Line → Type 0) (s : List ℕ) (n : ℕ) : Type 0 where
  pub bad : Made K s → ⊥
  pub before : Opens K s n
  pub here : Opens K s (suc n) → ⊥

-- ---- document 01's number of every verdict, and the line beside it
pub record Ruling : Type 0 where
  pub code : ℕ
  pub line : ℕ

abbrev pub passed : Ruling
passed = record { code = 0; line = 0 }

abbrev pub stopped : ℕ → Ruling
stopped n = record { code = no_line; line = n }

abbrev pub ruling : Result (Unit {0}) BadLine → Ruling
ruling (Ok u) = passed
ruling (Err b) = stopped b.0

-- the line that stops a card: 0 where it is too long, else its first bad line, counted from 1
abbrev pub StopsAt : List ℕ → ℕ → Type 0
StopsAt s zero = max_bytes < length s
StopsAt s (suc n) = (length s ≤ max_bytes) × Breaks Whole s n

-- a card that is run
abbrev pub Passes : List ℕ → Type 0
Passes s = (length s ≤ max_bytes) × Made Whole s

-- what the check answers: 0 for a good card; for any other 9, with the line that stops it
pub record Checked (s : List ℕ) (r : Ruling) : Type 0 where
  pub known : (r ≡ passed) ⊎ (r ≡ stopped r.line)
  pub good : r.code ≡ 0 → Passes s
  pub bad : r.code ≡ no_line → StopsAt s r.line
