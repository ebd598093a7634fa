-- Each promise implies that the numbers of the answer, the events and the meaning are those of the rules' `act`, at the V and
-- N of the store and the room of the trace (sound stores; any other is refused). From document 01, "What each call does" and
-- "The numbers a call can give back". Assumes nothing.
use Rattle.std.specs.Prelude.{◌≡◌, ℕ, length}
use mathlib.Core.List.{List, [], ◌∷◌}
use Rattle.rules.specs.Store.{Deep}
use Rattle.rules.specs.Moves.{Event}
use Rattle.rules.specs.World.{World}
use Rattle.rules.specs.Act.{Call, code_of, out_of, moves_of, by_of, Outcome, act}
use Rattle.layout.specs.Sound.{Sound}
use Rattle.layout.specs.Becomes.{Sized, Kept}
use Rattle.layout.specs.Events.{bit, told}
use Rattle.promises.specs.Answers.{Numbers}
use Rattle.promises.specs.Promises.{world, room_for}
use Rattle.demands.specs.Tests.{size_at, traced_by, handed_by}

-- what `act` does to the meaning of s, with room for as many events as t has
unfoldable pub acted : Call → List ℕ → List ℕ → Outcome (World Deep)
acted c s t = act (size_at s) (room_for t) c (world s)

-- an event in an answer: whether it is an entering, and its thunk; 0 where there is none
abbrev pub enters_in : List Event → ℕ
enters_in [] = 0
enters_in (e ∷ es) = bit e.entering

abbrev pub thunk_in : List Event → ℕ
thunk_in [] = 0
thunk_in (e ∷ es) = e.thunk

-- document 01's numbers for what `act` gives, with what a step hands over (document 02, W5)
unfoldable pub numbers_of : Call → Outcome (World Deep) → Numbers
numbers_of c r = record {
  code = code_of r.answer;
  out = out_of r.answer;
  moves = moves_of r.answer;
  events = length r.events;
  by = by_of r.answer;
  event = enters_in (handed_by c r.events);
  thunk = thunk_in (handed_by c r.events);
}

-- the size, the length and the bytes past the size stay; so do the walk's two numbers but for begin, step and drop
abbrev pub Keeps : Call → List ℕ → List ℕ → Type 0
Keeps (Call.ask q) s s' = Kept s s'
Keeps (Call.make k) s s' = Kept s s'
Keeps (Call.set x v) s s' = Kept s s'
Keeps (Call.switch g) s s' = Kept s s'
Keeps (Call.stride k) s s' = Sized s s'

pub record AsAct (c : Call) (s t s' t' : List ℕ) (n : Numbers) : Type 0 where
  pub answer : n ≡ numbers_of c (acted c s t)
  pub events : t' ≡ told (traced_by c (acted c s t).events) t
  pub meaning : world s' ≡ (acted c s t).after
  pub sound : Sound s'
  pub kept : Keeps c s s'
