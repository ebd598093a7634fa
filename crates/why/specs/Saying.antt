-- What is printed of a card and its question, the whole of it (document 02, W7): what the card prints, then why its last peek found what it
-- found, from the store that the card leaves; of a card that asks nothing one line. Assumes nothing: these are definitions.
use Rattle.std.specs.Prelude.{◌≡◌, List, ◌++◌, ℕ, length, Result, Ok, Err}
use Rattle.promises.specs.Answers.{Numbers}
use Rattle.promises.specs.Promises.{PeekPromise}
use Rattle.print.specs.Printed.{bad_line}
use Rattle.play.specs.Output.{Leaves}
use Rattle.why.specs.Asking.{peek, bad, Asks}
use Rattle.why.specs.Explained.{why_text}

pub data Says (card : List ℕ) : List ℕ → Type 0 where
  nothing : (n : ℕ) → Asks card (bad n) → Says card (bad_line n)
  reasons : (a x : ℕ) {text s : List ℕ} (answer : Numbers) → Asks card (peek a x) → Leaves card text s → PeekPromise s a x s answer
      → Says card (text ++ why_text answer.code s a x)

-- the text is the rest of the output behind the place at
pub record Ends (card : List ℕ) (at : ℕ) (text : List ℕ) : Type 0 where
  pub before : List ℕ
  pub place : length before ≡ at
  pub says : Says card (before ++ text)

-- all was handed on, and it is the whole output; or a write failed
abbrev pub AllSaid : {E : Type 0} → List ℕ → Result ℕ E → Type 0
AllSaid card (Ok n) = (text : List ℕ) × Says card text × (n ≡ length text)
AllSaid card (Err error) = Unit {0}
