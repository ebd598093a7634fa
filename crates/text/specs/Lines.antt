-- What a good line of the card says and how it is written (document 01, "The card"), without its LF.
-- Assumes nothing: these are definitions.
use Rattle.std.specs.Prelude.{◌≡◌, List, ◌++◌, ℕ, ◌+◌, ◌<◌, ◌≤◌, ℤ, length, get_or, None, Some}
use Rattle.layout.specs.Limits.{max_vars, max_nodes}
use Rattle.text.specs.declared.keys.Word.{Word}
use Rattle.text.specs.declared.keys.Word.TheVariants as word
use Rattle.text.specs.declared.line.Op.TheVariants as op
use Rattle.text.specs.declared.line.Line.{Line}
use Rattle.text.specs.declared.line.Line.TheVariants as line
use Rattle.text.specs.Words.{bytes}
use Rattle.text.specs.Decimal.{decimal, whole}
use Rattle.text.specs.Numbers.{IsValue}
use Rattle.text.specs.Limits.{max_number}
use Rattle.text.specs.Keys as keys
use Rattle.text.specs.Keys.{text}

-- ---- how a line is written: its key word with the '=', and its operands
abbrev pub key : Line → Word
key (line.Vars n) = word.Vars
key (line.Nodes n) = word.Nodes
key (line.Room n) = word.Room
key (line.Top c) = word.Top
key (line.Do (op.Bind x v)) = word.Bind
key (line.Do (op.Wind p q)) = word.Wind
key (line.Do (op.Look x)) = word.Look
key (line.Do (op.Set x v)) = word.Set
key (line.Do op.Here) = word.Here
key (line.Do (op.Goto a)) = word.Goto
key (line.Do op.Back) = word.Back
key (line.Do (op.Peek a x)) = word.Peek

abbrev pub pair : List ℕ → List ℕ → List ℕ
pair s t = s ++ (bytes "," ++ t)

abbrev pub operands : Line → List ℕ
operands (line.Vars n) = decimal n
operands (line.Nodes n) = decimal n
operands (line.Room n) = decimal n
operands (line.Top (Some v)) = whole v
operands (line.Top None) = bytes "none"
operands (line.Do (op.Bind x v)) = pair (decimal x) (whole v)
operands (line.Do (op.Wind p q)) = pair (decimal p) (decimal q)
operands (line.Do (op.Look x)) = decimal x
operands (line.Do (op.Set x v)) = pair (decimal x) (whole v)
operands (line.Do op.Here) = bytes "now"
operands (line.Do (op.Goto a)) = decimal a
operands (line.Do op.Back) = bytes "1"
operands (line.Do (op.Peek a x)) = pair (decimal a) (decimal x)

abbrev pub written : Line → List ℕ
written l = text (key l) ++ operands l

-- ---- the ranges of its numbers
abbrev pub InRange : Line → Type 0
InRange (line.Vars n) = (1 ≤ n) × (n ≤ max_vars)
InRange (line.Nodes n) = (1 ≤ n) × (n ≤ max_nodes)
InRange (line.Room n) = n < max_nodes
InRange (line.Top (Some v)) = IsValue v
InRange (line.Top None) = Unit {0}
InRange (line.Do (op.Bind x v)) = (x ≤ max_number) × IsValue v
InRange (line.Do (op.Wind p q)) = (p ≤ max_number) × (q ≤ max_number)
InRange (line.Do (op.Look x)) = x ≤ max_number
InRange (line.Do (op.Set x v)) = (x ≤ max_number) × IsValue v
InRange (line.Do op.Here) = Unit {0}
InRange (line.Do (op.Goto a)) = a ≤ max_number
InRange (line.Do op.Back) = Unit {0}
InRange (line.Do (op.Peek a x)) = (a ≤ max_number) × (x ≤ max_number)

-- s is the text of the line l, and its numbers are in range
pub record Good (s : List ℕ) (l : Line) : Type 0 where
  pub text : s ≡ written l
  pub range : InRange l

-- s begins with the line l and its LF, its numbers are in range, and the two take n bytes
pub record Leads (s : List ℕ) (a : Line × ℕ) : Type 0 where
  pub rest : List ℕ
  pub text : s ≡ written a.0 ++ (bytes "\n" ++ rest)
  pub range : InRange a.0
  pub size : a.1 ≡ length (written a.0) + 1

-- ---- what the parts of the reader promise
-- i is the first place of b in s, or the length where b does not stand there
pub record FirstAt (b : ℕ) (s : List ℕ) (i : ℕ) : Type 0 where
  pub inside : i ≤ length s
  pub before : (k : ℕ) → k < i → get_or s k 0 ≡ b → ⊥
  pub here : i < length s → get_or s i 0 ≡ b

-- s is a number in range, a comma and a value
pub record Pair (s : List ℕ) (a : ℕ × ℤ) : Type 0 where
  pub text : s ≡ pair (decimal a.0) (whole a.1)
  pub first : a.0 ≤ max_number
  pub second : IsValue a.1

-- l is a line of the key word w, which so many numbers follow, with the operands s, in range
pub record Says (count : ℕ) (w : Word) (s : List ℕ) (l : Line) : Type 0 where
  pub word : key l ≡ w
  pub follow : keys.numbers w ≡ count
  pub text : s ≡ operands l
  pub range : InRange l
