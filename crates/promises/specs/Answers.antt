-- Document 01, "The numbers a call can give back": the number and the values of every answer; document 02, W2: the decider of a
-- value; W5: what a step hands over; W7: what an environment is. Assumes nothing: these are definitions.
use Rattle.std.specs.Prelude.{ℕ, List, [], ◌∷◌, ℤ, pos, length, Result, Ok, Err, Some, None}
use Rattle.std.specs.Prelude as prelude
use Rattle.std.proofs.Math.Option.{Option, none, some}
use Rattle.rules.specs.Tree.{What, blank, top, binding, wind}
use Rattle.rules.specs.Values.{Cell, unbound, value}
use Rattle.rules.specs.Moves.{Event}
use Rattle.layout.specs.Events.{bit}
use Rattle.promises.specs.declared.Answer.{Answer}
use Rattle.promises.specs.declared.Answer.TheVariants.{Opened, Number, Made, Value, Switched, Stepped}
use Rattle.promises.specs.declared.Refusal.{Refusal}
use Rattle.promises.specs.declared.Refusal.TheVariants.{Setup, Damaged, NoVariable, NoEnvironment, Unbound, Full, TraceRoom, Top, Walking, NotWalking}
use Rattle.promises.specs.declared.Handed.{Handed}
use Rattle.promises.specs.declared.Flat.{Flat}
use Rattle.promises.specs.declared.Environment.{Environment}
use Rattle.promises.specs.declared.Environment.TheVariants as environment
use Rattle.promises.specs.declared.Told.{Told}
use Rattle.rules.specs.Refusals.{setup, damaged, no_variable, no_environment, no_value, full, trace_room, at_top, walking, not_walking}

-- the number of the answer, the answer itself, the moves, the number of events; for a value the number of the environment whose
-- binding decides it, 0 for the top value; for a step that hands an event over 1 for entering or 0 for leaving, and the thunk
pub record Numbers : Type 0 where
  pub code : ℕ
  pub out : ℤ
  pub moves : ℕ
  pub events : ℕ
  pub by : Option ℕ
  pub event : ℕ
  pub thunk : ℕ

-- a refusal answers 0 beside its number
abbrev pub refusal : ℕ → Numbers
refusal n = record { code = n; out = pos 0; moves = 0; events = 0; by = none; event = 0; thunk = 0 }

abbrev pub done : ℤ → ℕ → ℕ → Numbers
done o m e = record { code = 0; out = o; moves = m; events = e; by = none; event = 0; thunk = 0 }

abbrev pub seen : ℤ → ℕ → Numbers
seen v by = record { code = 0; out = v; moves = 0; events = 0; by = some by; event = 0; thunk = 0 }

-- a step with its moves, at the focus f, and the event that it hands over, if any
abbrev pub handing : ℕ → ℕ → List Event → Numbers
handing f m [] = done (pos f) m 0
handing f m (e ∷ es) = record { code = 0; out = pos f; moves = m; events = length (e ∷ es); by = none; event = bit e.entering; thunk = e.thunk }

-- .. as the code has it
abbrev pub stepped : ℕ → ℕ → prelude.Option Handed → Numbers
stepped f m None = done (pos f) m 0
stepped f m (Some e) = record { code = 0; out = pos f; moves = m; events = 1; by = none; event = bit e.entering; thunk = e.thunk }

-- the number of each refusal
abbrev pub number_of : Refusal → ℕ
number_of Setup = setup
number_of Damaged = damaged
number_of NoVariable = no_variable
number_of NoEnvironment = no_environment
number_of Unbound = no_value
number_of Full = full
number_of TraceRoom = trace_room
number_of Top = at_top
number_of Walking = walking
number_of NotWalking = not_walking

unfoldable pub numbers : Result Answer Refusal → Numbers
numbers (Ok Opened) = done (pos 0) 0 0
numbers (Ok (Number n)) = done (pos n) 0 0
numbers (Ok (Made m)) = done (pos m.node) 0 m.events
numbers (Ok (Value v)) = seen v.value v.by
numbers (Ok (Switched w)) = done (pos w.focus) w.moves w.events
numbers (Ok (Stepped w)) = stepped w.focus w.moves w.handed
numbers (Err r) = refusal (number_of r)

-- the same with the decider as the code has it, if there is one
abbrev pub decider : Option ℕ → prelude.Option ℕ
decider none = None
decider (some n) = Some n

unfoldable pub flat : Numbers → Flat
flat n = record { out = n.out; code = n.code; moves = n.moves; events = n.events; by = decider n.by; event = n.event; thunk = n.thunk }

-- ---- what an environment is: its kind 1 the top, 2 a binding, 3 a wind, its parent p, and what it binds or which thunks it has
-- a refusal tells nothing beside its number
abbrev pub untold : ℕ → Told
untold n = record { value = pos 0; code = n; kind = 0; parent = 0; first = 0; second = 0; state = 0 }

abbrev pub tell_binding : ℕ → ℕ → Cell → Told
tell_binding p x unbound = record { value = pos 0; code = 0; kind = 2; parent = p; first = x; second = 0; state = 0 }
tell_binding p x (value v) = record { value = v; code = 0; kind = 2; parent = p; first = x; second = 0; state = 1 }

-- `own x` is the value of x there, for a binding of x its own value; a blank number is no environment
abbrev pub telling : What → ℕ → (ℕ → Cell) → Told
telling blank p own = untold no_environment
telling top p own = record { value = pos 0; code = 0; kind = 1; parent = 0; first = 0; second = 0; state = 0 }
telling (binding x) p own = tell_binding p x (own x)
telling (wind pre post) p own = record { value = pos 0; code = 0; kind = 3; parent = p; first = pre; second = post; state = 0 }

-- the cell of a binding's own value, as the code has it
abbrev pub own_cell : prelude.Option ℤ → Cell
own_cell None = unbound
own_cell (Some v) = value v

-- the numbers of what the code tells of an environment, or of a refusal
unfoldable pub numbers_told : Result Environment Refusal → Told
numbers_told (Ok environment.Top) = record { value = pos 0; code = 0; kind = 1; parent = 0; first = 0; second = 0; state = 0 }
numbers_told (Ok (environment.Binding x v p)) = tell_binding p x (own_cell v)
numbers_told (Ok (environment.Wind pre post p)) = record { value = pos 0; code = 0; kind = 3; parent = p; first = pre; second = post; state = 0 }
numbers_told (Err r) = untold (number_of r)
