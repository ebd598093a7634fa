-- What a card prints, the whole of it (document 01, "The card"): for each operation its line, then a line an event; of a card that is no
-- good its one line. Assumes nothing: these are definitions, and that what leaves a store is printed.
use Rattle.std.specs.Prelude.{◌≡◌, List, [], ◌∷◌, ◌++◌, ℕ, zero, suc, ◌+◌, ◌*◌, ◌≤◌, length, ℤ, Option}
use Rattle.layout.specs.Limits.{event_size, size_of}
use Rattle.layout.specs.Bytes.{part}
use Rattle.layout.specs.Events.{event_in}
use Rattle.layout.specs.Bytes.{Bytes}
use Rattle.promises.specs.Answers.{Numbers}
use Rattle.promises.specs.Promises.{OpenPromise}
use Rattle.text.specs.declared.line.Op.{Op}
use Rattle.print.specs.declared.Report.{Report}
use Rattle.print.specs.Printed.{op_line, event_line, bad_line}
use Rattle.card.specs.Cards.{Passes, StopsAt}
use Rattle.card.specs.Tops.{cell_b}
use Rattle.card.specs.Running.{Ran}

-- ---- one operation
-- the line of the event in its bytes
unfoldable pub event_text : List ℕ → List ℕ
event_text p = event_line (event_in p).entering (event_in p).thunk (event_in p).place

-- the lines of so many events of the trace t, from the event i on
unfoldable pub events_text : List ℕ → ℕ → ℕ → List ℕ
events_text t i zero = []
events_text t i (suc n) = event_text (part t (event_size * i) event_size) ++ events_text t (i + 1) n

-- the line of an operation, then a line an event of the trace that it left
unfoldable pub op_text : Report → List ℕ → List ℕ
op_text r t = op_line r ++ events_text t 0 r.events

-- ---- operations one after the other: from the store s and the trace t, with k operations before them, os are run until rest is left,
-- and print the text; what a call leaves is bytes, as memory is
pub data Runs : ℕ → List Op → List ℕ → List ℕ → List ℕ → ℕ → List Op → List ℕ → List ℕ → Type 0 where
  stay : {k : ℕ} {os : List Op} {s t : List ℕ} → Runs k os s t [] k os s t
  step : {k k' : ℕ} {o : Op} {os rest : List Op} {s t s' t' s'' t'' text : List ℕ} {r : Report} → Ran (k + 1) o s t s' t' r → Bytes s'
      → Runs (k + 1) os s' t' text k' rest s'' t'' → Runs k (o ∷ os) s t (op_text r t' ++ text) k' rest s'' t''

-- ---- a whole card
-- its top values as top cells, one behind the other
unfoldable pub tops_b : List (Option ℤ) → List ℕ
tops_b [] = []
tops_b (c ∷ cs) = cell_b c ++ tops_b cs

-- a good card's operations begin with the store s as open leaves it in a buffer that is long enough, and a trace t of the card's room
pub record Begins (card : List ℕ) (ops : List Op) (s t : List ℕ) : Type 0 where
  pub good : Passes card
  pub operations : ops ≡ good.1.whole.ops
  pub buffer : List ℕ
  pub long : size_of good.1.whole.vars good.1.whole.nodes ≤ length buffer
  pub answer : Numbers
  pub opened : OpenPromise good.1.whole.vars good.1.whole.nodes (tops_b good.1.whole.tops) buffer s answer
  pub room : length t ≡ event_size * good.1.whole.room

-- the text is what the card prints until the operations rest are left; with none left it is the whole output
pub data Prints (card : List ℕ) : List Op → List ℕ → Type 0 where
  bad : (n : ℕ) → StopsAt card n → Prints card [] (bad_line n)
  good : {k : ℕ} {ops rest : List Op} {s t s' t' text : List ℕ} → Begins card ops s t → Runs 0 ops s t text k rest s' t' → Prints card rest text

-- the text is the card's whole output, and s the store as the last operation left it; a card that is no good leaves any
pub data Leaves (card : List ℕ) : List ℕ → List ℕ → Type 0 where
  refused : {s : List ℕ} (n : ℕ) → StopsAt card n → Leaves card (bad_line n) s
  finished : {k : ℕ} {ops : List Op} {s t s' t' text : List ℕ} → Begins card ops s t → Runs 0 ops s t text k [] s' t' → Leaves card text s'

pub leaves_prints : {card text s : List ℕ} → Leaves card text s → Prints card [] text
leaves_prints (refused n h) = bad n h
leaves_prints (finished b r) = good b r

-- the text stands in the card's output, from the place at on
pub record Stands (card : List ℕ) (at : ℕ) (text : List ℕ) : Type 0 where
  pub before : List ℕ
  pub behind : List ℕ
  pub rest : List Op
  pub place : length before ≡ at
  pub prints : Prints card rest (before ++ (text ++ behind))
