-- How far the run of a card has come, and what the functions that fill a page say of it. Assumes nothing: these are definitions.
use Rattle.std.specs.Prelude.{◌≡◌, ◌⊎◌, List, [], ◌++◌, map, ℕ, ◌+◌, ◌-◌, ◌*◌, ◌≤◌, ◌<◌, length, take, drop, Option, None, Some, Result, Ok, Err}
use Rattle.layout.specs.Limits.{max_vars, max_nodes, bare_size, event_size, size_of}
use Rattle.layout.specs.Bytes.{part}
use Rattle.text.specs.declared.line.Op.{Op}
use Rattle.text.specs.declared.line.Line.{Line}
use Rattle.text.specs.declared.line.Line.TheVariants.{Top, Do}
use Rattle.text.specs.Every.{All}
use Rattle.text.specs.Limits.{max_bytes}
use Rattle.text.specs.Lines.{InRange}
use Rattle.card.specs.Cards.{Passes, text}
use Rattle.print.specs.Writing.{Wrote}
use Rattle.play.specs.declared.reading.Heads.{Heads}
use Rattle.play.specs.declared.progress.Progress.{Progress}
use Rattle.play.specs.Output.{event_text, events_text, Runs, Begins, Prints, Leaves}

-- the bytes of a page
abbrev pub page_bytes : ℕ
page_bytes = 4096

-- ---- reading: the lines ls stand in the card from the place at to its end
pub record Ahead (card : List ℕ) (at : ℕ) (ls : List Line) : Type 0 where
  pub inside : at ≤ length card
  pub bytes : drop at card ≡ text ls
  pub range : All InRange ls

-- the headings were read, and the lines ls stand behind them
abbrev pub Reads : List ℕ → ℕ → ℕ → ℕ → List Line → Option Heads → Type 0
Reads card v n m ls (Some h) = (h.vars ≡ v) × (h.nodes ≡ n) × (h.room ≡ m) × Ahead card h.at ls
Reads card v n m ls None = ⊥

-- ---- running: the operations so far print the text, and then the lines of the events that are not yet told
pub record SoFar (card text : List ℕ) (p : Progress) (s t : List ℕ) : Type 0 where
  pub ops : List Op
  pub store : List ℕ
  pub trace : List ℕ
  pub begins : Begins card ops store trace
  pub rest : List Op
  pub ahead : Ahead card p.at (map Do rest)
  pub runs : Runs 0 ops store trace (text ++ events_text t p.told p.left) p.number rest s t

-- no line is left to be printed
abbrev pub Ended : List ℕ → Progress → Type 0
Ended card p = (length card ≤ p.at) × (p.left ≡ 0)

-- the events that are left stand in the trace, and the numbers stay within the card
pub record Ready (card t : List ℕ) (p : Progress) : Type 0 where
  pub short : length card ≤ max_bytes
  pub few : length t < event_size * max_nodes
  pub inside : p.at ≤ length card
  pub counted : p.number ≤ p.at
  pub events : event_size * (p.told + p.left) ≤ length t

-- at most so many lines are still to be printed
abbrev pub to_go : List ℕ → Progress → ℕ
to_go card p = (length card - p.at) * max_nodes + p.left

-- the next event's line was put on the page
pub record Told (p : Progress) (t page : List ℕ) (q : Progress) (page' : List ℕ) : Type 0 where
  pub progress : q ≡ record { at = p.at; number = p.number; told = p.told + 1; left = p.left - 1; used = q.used }
  pub wrote : Wrote page p.used (event_text (part t (event_size * p.told) event_size)) page' q.used

-- one line was put on the page, the next of the card's output
pub record Puts (card : List ℕ) (p : Progress) (s t page : List ℕ) (q : Progress) (s' t' page' : List ℕ) : Type 0 where
  pub ready : Ready card t' q
  pub less : to_go card q < to_go card p
  pub within : q.used ≤ length page
  pub line : List ℕ
  pub wrote : Wrote page p.used line page' q.used
  pub next : (text : List ℕ) → SoFar card text p s t → SoFar card (text ++ line) q s' t'

-- the page was filled from its front with the next lines of the card's output
pub record Fills (card : List ℕ) (p : Progress) (s t : List ℕ) (q : Progress) (s' t' page : List ℕ) : Type 0 where
  pub ready : Ready card t' q
  pub less : Ended card p ⊎ (to_go card q < to_go card p)
  pub within : q.used ≤ length page
  pub next : (text : List ℕ) → SoFar card text p s t → SoFar card (text ++ take q.used page) q s' t'

-- ---- writing
-- what is behind the headings may begin, on buffers of these lengths
pub record Begun (card : List ℕ) (h : Heads) (tops store trace : ℕ) : Type 0 where
  pub good : Passes card
  pub vars : h.vars ≡ good.1.whole.vars
  pub nodes : h.nodes ≡ good.1.whole.nodes
  pub room : h.room ≡ good.1.whole.room
  pub ahead : Ahead card h.at (map Top good.1.whole.tops ++ map Do good.1.whole.ops)
  pub tops_long : bare_size * max_vars ≤ tops
  pub store_long : size_of max_vars max_nodes ≤ store
  pub trace_long : event_size * max_nodes ≤ trace + event_size

-- handed on up to the place n, or lost
abbrev pub HandedOn : {E : Type 0} → ℕ → Result ℕ E → Type 0
HandedOn n (Ok m) = m ≡ n
HandedOn n (Err error) = Unit {0}

-- all was handed on, and it is the card's whole output; or a write failed
abbrev pub AllOf : {E : Type 0} → List ℕ → Result ℕ E → Type 0
AllOf card (Ok n) = (text : List ℕ) × Prints card [] text × (n ≡ length text)
AllOf card (Err error) = Unit {0}

-- no card prints more bytes: a page for each operation and each event that the longest card can have
abbrev pub most_bytes : ℕ
most_bytes = 137447337984

-- .. and it leaves the store s
abbrev pub AllLeft : {E : Type 0} → List ℕ → List ℕ → Result ℕ E → Type 0
AllLeft card s (Ok n) = (text : List ℕ) × Leaves card text s × (n ≡ length text) × (n ≤ most_bytes)
AllLeft card s (Err error) = Unit {0}
