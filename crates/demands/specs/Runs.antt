-- Calls one after the other on an opened store, each keeping its promise: whatever the promises allow, the numbers and the
-- events are those of the rules' `run` on the deep store with the top values. From document 01, "The card" without the text.
-- Assumes nothing.
use Rattle.std.specs.Prelude.{◌≡◌, ℕ, ◌*◌, List, [], ◌∷◌, length, take}
use Rattle.rules.specs.Act.{Call, code_of, out_of, moves_of, by_of, Line}
use Rattle.layout.specs.Limits.{event_size}
use Rattle.layout.specs.Events.{events_b}
use Rattle.promises.specs.Answers.{Numbers}
use Rattle.promises.specs.Promises.{room_for}
use Rattle.promises.specs.Calls.{Promised}
use Rattle.demands.specs.Tests.{traced_by, handed_by}
use Rattle.demands.specs.AsAct.{enters_in, thunk_in}

-- what one call gave back: its numbers, and the bytes of its events
pub record Said : Type 0 where
  pub numbers : Numbers
  pub events : List ℕ

-- how many events a call with these numbers wrote to the trace: a step's is in its answer
abbrev pub written : Call → Numbers → ℕ
written (Call.ask q) n = n.events
written (Call.make k) n = n.events
written (Call.set x v) n = n.events
written (Call.switch g) n = n.events
written (Call.stride k) n = 0

-- a run of calls from the store s, each with a trace for so many events
pub data Session (events : ℕ) : List ℕ → List Call → List Said → Type 0 where
  over : {s : List ℕ} → Session events s [] []
  next : {s : List ℕ} {c : Call} {cs : List Call} {rs : List Said} (t s' t' : List ℕ) (n : Numbers) → room_for t ≡ events → Promised c s t s' t' n
      → Session events s' cs rs → Session events s (c ∷ cs) (record { numbers = n; events = take (event_size * written c n) t' } ∷ rs)

-- what the rules say of it
unfoldable pub said_of : Call → Line → Said
said_of c l = record {
  numbers = record {
    code = code_of l.answer;
    out = out_of l.answer;
    moves = moves_of l.answer;
    events = length l.events;
    by = by_of l.answer;
    event = enters_in (handed_by c l.events);
    thunk = thunk_in (handed_by c l.events);
  };
  events = events_b (traced_by c l.events);
}

unfoldable pub said_by : List Call → List Line → List Said
said_by [] ls = []
said_by (c ∷ cs) [] = []
said_by (c ∷ cs) (l ∷ ls) = said_of c l ∷ said_by cs ls
