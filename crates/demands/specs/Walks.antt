-- A walk in steps, over the bytes of the store: one finished walk's calls together, from its begin to the step that says done, with
-- the host's looks, peeks, fars, sets and heres between; a walk that is under way; begin and drop. The calls are a run (`Doors`), each
-- keeping its promise. `Along` and `Finished` of proofs/ have the proofs, `Demands` the demand.
-- From document 02, W5, with demand 3's words. Assumes nothing: these are definitions.
use Rattle.std.specs.Prelude.{◌≡◌, ◌≢◌, Bool, true, false, ℕ, suc, ◌+◌, ◌≤◌, List, [], ◌∷◌, ◌++◌, map, reverse, ℤ, pos, length}
use Rattle.std.specs.Bool.{xor}
use Rattle.rules.specs.Basic.{on, Once}
use Rattle.rules.specs.Apart.{apart}
use Rattle.rules.specs.Tree.{path}
use Rattle.rules.specs.Values.{value}
use Rattle.rules.specs.Store.{move_to}
use Rattle.rules.specs.Far.{Chain}
use Rattle.rules.specs.Moves.{Move, left, entered, node_of, route, Event, trace}
use Rattle.rules.specs.Act.{Call, stride, step, drop}
use Rattle.rules.specs.Runs.{replay}
use Rattle.rules.specs.Deeds.{Deed, moves, sets, Deeds, moves_in}
use Rattle.rules.specs.Thunks as thunks
use Rattle.rules.specs.Thunks.{Aside}
use Rattle.layout.specs.Limits.{none_n}
use Rattle.layout.specs.Records.{focus, target, handed}
use Rattle.layout.specs.View.{view}
use Rattle.layout.specs.Sound.{Sound}
use Rattle.layout.specs.Becomes.{Sized}
use Rattle.layout.specs.Bytes.{Bytes}
use Rattle.layout.specs.Events.{told, events_to}
use Rattle.promises.specs.Answers.{Numbers}
use Rattle.promises.specs.Promises.{meaning, at, DoneWith, BeginPromise}
use Rattle.demands.specs.Tests.{size_at}
use Rattle.demands.specs.Held.{Held, WayOf}
use Rattle.demands.specs.OneStep.{Heard, heard_in, heard_as, owed_at}
use Rattle.demands.specs.Doors.{Step, Run, over, next, answered, marks}

-- every store of a run is bytes
abbrev pub InBytes : {s v : List ℕ} {qs : List Step} → Run s qs v → Type 0
InBytes (over {s = s}) = Bytes s
InBytes (next {s = s} u e p r) = Bytes s × InBytes r

-- ==== the calls of a walk, from the first after its begin: steps that hand an event over, what stands between them (all but a
-- step and a drop; what a walk bars is refused), and the step that says done
abbrev pub calling : Call → ℕ → List ℕ → List ℕ → Numbers → Step
calling c f t t' n = record { call = c; place = f; lent = t; traced = t'; numbers = n }

pub data Finishes : List Step → Type 0 where
  says_done : {f : ℕ} {t t' : List ℕ} {n : Numbers} → n.code ≡ 0 → n.events ≡ 0 → Finishes (calling (stride step) f t t' n ∷ [])
  hands_over : {f : ℕ} {t t' : List ℕ} {n : Numbers} {qs : List Step} → n.code ≡ 0 → n.events ≡ 1 → Finishes qs → Finishes (calling (stride step) f t t' n ∷ qs)
  meanwhile : {q : Step} {qs : List Step} → Aside q.call → Finishes qs → Finishes (q ∷ qs)

-- the moves that the answers report, added up; how many of the calls are steps
abbrev pub reported : List Step → ℕ
reported [] = 0
reported (q ∷ qs) = q.numbers.moves + reported qs

abbrev pub steps : List Step → ℕ
steps [] = 0
steps (q ∷ qs) = thunks.is_step q.call + steps qs

-- the events that the answers hand over
abbrev pub heard : List Step → List Heard
heard [] = []
heard (q ∷ qs) = heard_in q.numbers.events q.numbers ++ heard qs

-- no call wrote to the trace lent to it
abbrev pub Untraced : List Step → Type 0
Untraced [] = Unit {0}
Untraced (q ∷ qs) = (q.traced ≡ q.lent) × Untraced qs

-- the sets that were answered
abbrev pub sets_if : Bool → Call → List Deed
sets_if true (Call.set x v) = sets x (value v) ∷ []
sets_if true (Call.ask q) = []
sets_if true (Call.make k) = []
sets_if true (Call.switch g) = []
sets_if true (stride k) = []
sets_if false c = []

-- the list of what the calls did, one after the other: as many moves as a call reports, and its set
pub data InTurn : List Step → List Deed → Type 0 where
  no_call : InTurn [] []
  call : {q : Step} {qs : List Step} {ds : List Deed} (ms : List Move) → q.numbers.moves ≡ length ms → InTurn qs ds
      → InTurn (q ∷ qs) (map moves ms ++ sets_if (answered q) q.call ++ ds)

-- a begin to a that was answered, from s to s₁
pub record Begun (s : List ℕ) (a : ℕ) (s₁ : List ℕ) : Type 0 where
  pub numbers : Numbers
  pub promised : BeginPromise s a s₁ numbers
  pub answered : numbers.code ≡ 0

-- ==== demand 3 of one finished walk: begun in s to a, by these calls, done in s'
pub record WalkedInSteps (s : List ℕ) (a : ℕ) (qs : List Step) (s' : List ℕ) : Type 0 where
  -- one list of moves and sets, the calls' in turn, each leading from one store to the next, from the store at the begin to the store
  -- when it is done; every one of them, outside the walk, is one sound buffer of this size
  pub deeds : List Deed
  pub in_turn : InTurn qs deeds
  pub leads : Deeds (view s) deeds (view s')
  pub held : WayOf (Held s) leads
  -- exactly the nodes on one path to the top and not on the other's, each once
  pub exactly : (n : ℕ) → on n (map node_of (moves_in deeds)) ≡ xor (on n (path (view s).tree (focus s))) (on n (path (view s).tree a))
  pub once : Once (map node_of (moves_in deeds))
  -- the steps report that number together, and no chain of parent-or-child steps is shorter
  pub counted : reported qs ≡ length (moves_in deeds)
  pub shortest : (k : ℕ) → Chain (view s).tree (focus s) a k → reported qs ≤ k
  -- left from the inside out, then entered from the outside in
  pub order : moves_in deeds
      ≡ map left (apart (path (view s).tree (focus s)) (path (view s).tree a))
      ++ map entered (reverse (apart (path (view s).tree a) (path (view s).tree (focus s))))
  -- the events handed over are the winds among them, in that order, each with the focus at its place
  pub events : List Event
  pub winds : events
      ≡ trace (view s).tree (map left (apart (path (view s).tree (focus s)) (path (view s).tree a)))
      ++ trace (view s).tree (map entered (reverse (apart (path (view s).tree a) (path (view s).tree (focus s)))))
  pub handed : heard qs ≡ map heard_as events
  -- .. and nothing is written to a trace
  pub untraced : Untraced qs
  -- one step more than events
  pub one_more : steps qs ≡ suc (length events)
  -- the focus is the target, and no walk is under way
  pub arrives : focus s' ≡ a
  pub over : target s' ≡ none_n
  -- the values are the deep rule's, with each set taken at its place
  pub values : meaning s' ≡ move_to a (replay (size_at s) (marks qs) (meaning s))
  -- the store is sound, of the same size, and no byte past the size changed
  pub sound : Sound s'
  pub size : Sized s s'

-- ==== with no set between, the store, every byte, the moves and the events are those of a goto from s to sg with room enough in tg
abbrev pub NoSet : List Step → Type 0
NoSet [] = Unit {0}
NoSet (q ∷ qs) = ((x : ℕ) (v : ℤ) → q.call ≢ Call.set x v) × NoSet qs

pub record AsGoto (qs : List Step) (s' tg sg tg' : List ℕ) (m : Numbers) : Type 0 where
  pub done : m.code ≡ 0
  pub every_byte : s' ≡ sg
  pub moves : reported qs ≡ m.moves
  pub events : List Event
  pub handed : heard qs ≡ map heard_as events
  pub traced : tg' ≡ told events tg
  pub counted : m.events ≡ length events

-- ==== a walk that is not dropped: no call is a drop
abbrev pub NoDrop : List Step → Type 0
NoDrop [] = Unit {0}
NoDrop (q ∷ qs) = (q.call ≢ stride drop) × NoDrop qs

-- ==== a walk that is still under way in u, and may be dropped there: the moves made are the first of goto's, as many as reported,
-- and the events handed over the first of goto's
abbrev pub UnderWay : {s v : List ℕ} {qs : List Step} → Run s qs v → Type 0
UnderWay (over {s = s}) = target s ≢ none_n
UnderWay (next {s = s} u e p r) = (target s ≢ none_n) × UnderWay r

pub record SoFar (s : List ℕ) (a : ℕ) (qs : List Step) (u : List ℕ) : Type 0 where
  pub target : target u ≡ a
  pub moves : List Move
  pub first_moves : route (view s).tree (focus s) a ≡ moves ++ route (view u).tree (focus u) a
  pub counted : reported qs ≡ length moves
  pub events : List Event
  pub first_events : events_to s a ≡ events ++ owed_at u a
  pub handed : heard qs ≡ map heard_as events

-- ==== begin and drop make no move: they answer the focus, alter no value and write nothing to a trace. The store is sound, and the
-- target is then a (65,535 for none), with no wind handed over
pub record Stands (s t s' t' : List ℕ) (a : ℕ) (n : Numbers) : Type 0 where
  pub answer : DoneWith n (pos (focus s)) 0 0
  pub sound : Sound s'
  pub target : target s' ≡ a
  pub handed : handed s' ≡ none_n
  pub stays : focus s' ≡ focus s
  pub seen : view s' ≡ view s
  pub values : (b x : ℕ) → at s' b x ≡ at s b x
  pub size : Sized s s'
  pub untraced : t' ≡ t
