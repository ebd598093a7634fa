-- One step of a walk, over the bytes of the store: it makes moves up to the next event and hands that event over with the focus at
-- its place, or says that the walk is done. For leaving, the node has been left already; for entering, not yet. The proof
-- stands in proofs/OneStep.antt.
-- From document 02, W5. Assumes nothing.
use Rattle.std.specs.Prelude.{◌≡◌, ◌≢◌, false, ℕ, zero, suc, ℤ, pos}
use Rattle.std.proofs.Math.Option.{some}
use mathlib.Core.List.{List, [], ◌∷◌, ◌++◌, map}
use Rattle.std.proofs.Math.ListN.{length}
use Rattle.rules.specs.Tree.{wind}
use Rattle.rules.specs.Moves.{Move, left, entered, Moves, route, Event}
use Rattle.rules.specs.Stops.{owed}
use Rattle.layout.specs.Limits.{none_n}
use Rattle.layout.specs.Records.{focus, target, handed}
use Rattle.layout.specs.View.{view, or_none}
use Rattle.layout.specs.Sound.{Sound}
use Rattle.layout.specs.Becomes.{Sized}
use Rattle.layout.specs.Events.{bit}
use Rattle.promises.specs.Answers.{Numbers}

-- an event as an answer hands it over: 1 for entering or 0 for leaving, the thunk, and the focus, its place
pub record Heard : Type 0 where
  pub enters : ℕ
  pub thunk : ℕ
  pub focus : ℤ

abbrev pub heard_in : ℕ → Numbers → List Heard
heard_in zero n = []
heard_in (suc k) n = record { enters = n.event; thunk = n.thunk; focus = n.out } ∷ []

abbrev pub heard_as : Event → Heard
heard_as e = record { enters = bit e.entering; thunk = e.thunk; focus = pos e.place }

-- the events still to be handed over on the way to a: those of the winds to be left and entered, but for one whose entering was
-- handed over already
abbrev pub owed_at : List ℕ → ℕ → List Event
owed_at s a = owed (view s).tree (focus s) a (or_none (handed s))

-- one event: 1 for entering or 0 for leaving, and the thunk
abbrev pub Tells : Numbers → ℕ → ℕ → Type 0
Tells n enters thunk = (n.events ≡ 1) × (n.event ≡ enters) × (n.thunk ≡ thunk)

-- where a step from s to s' stops, by the moves ms
pub data Stopped (s s' : List ℕ) (n : Numbers) (ms : List Move) : Type 0 where
  -- done: no event, the focus is the target, and no walk is under way
  says_done : n.events ≡ 0 → focus s' ≡ target s → target s' ≡ none_n → handed s' ≡ none_n → Stopped s s' n ms
  -- the postlude of a child of the focus, which its last move left
  leaving : (w pre post : ℕ) (before : List Move) → (view s).tree.what w ≡ wind pre post → (view s).tree.up w ≡ some (focus s') → (view s').mode w ≡ false
      → ms ≡ before ++ left w ∷ [] → Tells n 0 post → target s' ≡ target s → handed s' ≡ none_n → Stopped s s' n ms
  -- the prelude of a child of the focus, which is not entered yet and is noted in the header
  entering : (w pre post : ℕ) → (view s).tree.what w ≡ wind pre post → (view s).tree.up w ≡ some (focus s') → (view s').mode w ≡ false
      → Tells n 1 pre → target s' ≡ target s → handed s' ≡ w → Stopped s s' n ms

pub record OneStep (s t s' t' : List ℕ) (n : Numbers) : Type 0 where
  -- the first moves of the way to the target, each leading from one store to the next; it answers their number and the focus
  pub moves : List Move
  pub leads : Moves (view s) moves (view s')
  pub counted : n.moves ≡ length moves
  pub replies : n.out ≡ pos (focus s')
  pub on_way : route (view s).tree (focus s) (target s) ≡ moves ++ route (view s).tree (focus s') (target s)
  -- a wind that was handed over before is entered first
  pub enters_first_lem : handed s ≢ none_n → (more : List Move) × (moves ≡ entered (handed s) ∷ more)
  pub stops : Stopped s s' n moves
  -- no event is passed over: its event, if any, is the next of those owed
  pub events : List Event
  pub hands : heard_in n.events n ≡ map heard_as events
  pub owes : owed_at s (target s) ≡ events ++ owed_at s' (target s)
  -- the store is sound, of the same size; nothing is written to the trace
  pub sound : Sound s'
  pub size : Sized s s'
  pub untraced : t' ≡ t
