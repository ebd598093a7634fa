-- The trace's bytes (document 01, "Trace"): an event in five bytes, and events from the buffer's start with the rest as it was.
-- Assumes nothing: these are definitions.
use Rattle.std.specs.Prelude.{Bool, true, false, ℕ, ◌*◌, ◌/◌, ◌%◌, List, [], ◌∷◌, ◌++◌, eqb, length, drop, get_or}
use Rattle.rules.specs.Moves.{Event, route, trace}
use Rattle.layout.specs.declared.Event as Read
use Rattle.layout.specs.Limits.{event_size}
use Rattle.layout.specs.Bytes.{u16}
use Rattle.layout.specs.Records.{focus}
use Rattle.layout.specs.View.{view}

-- 0 leaving or 1 entering; postlude or prelude; place
abbrev pub bit : Bool → ℕ
bit true = 1
bit false = 0

unfoldable pub event_d : ℕ → ℕ → ℕ → List ℕ
event_d d thunk place = d ∷ thunk % 256 ∷ thunk / 256 ∷ place % 256 ∷ place / 256 ∷ []

unfoldable pub event_b : Event → List ℕ
event_b e = event_d (bit e.entering) e.thunk e.place

-- the event in its bytes
unfoldable pub event_in : List ℕ → Read.Event
event_in p = record { entering = eqb (get_or p 0 0) 1; thunk = u16 p 1; place = u16 p 3 }

unfoldable pub events_b : List Event → List ℕ
events_b [] = []
events_b (e ∷ es) = event_b e ++ events_b es

-- the trace after the events es were written: bytes after them keep their contents
unfoldable pub told : List Event → List ℕ → List ℕ
told es t = events_b es ++ drop (event_size * length es) t

-- the events of a switch from the environment g to a, and from the focus to a
abbrev pub events_from : List ℕ → ℕ → ℕ → List Event
events_from s g a = trace (view s).tree (route (view s).tree g a)

abbrev pub events_to : List ℕ → ℕ → List Event
events_to s a = events_from s (focus s) a
