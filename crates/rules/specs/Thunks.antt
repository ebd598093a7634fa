-- The calls of one finished walk, and what they do together: begun, then steps, and between them whatever the host calls but a
-- drop, up to the step that says done.
-- From document 02, W5, with demand 3's facts. proofs/OneWalk has the proof. Assumes nothing.
use Rattle.std.specs.Prelude.{◌≡◌, ◌⊎◌, List, [], ◌∷◌, ◌++◌, map, ℕ, suc, ◌+◌, ◌≤◌, length}
use Rattle.std.specs.Bool.{xor}
use Rattle.std.proofs.Math.Option.{none}
use Rattle.rules.specs.Basic.{on, Once}
use Rattle.rules.specs.Tree.{path}
use Rattle.rules.specs.Values.{value}
use Rattle.rules.specs.Store.{Deep, Sound, shallow, move_to}
use Rattle.rules.specs.World.{World}
use Rattle.rules.specs.Far.{Chain}
use Rattle.rules.specs.Moves.{node_of, route, Event, trace}
use Rattle.rules.specs.Act.{Call, stride, begin, step, drop, Free, Barred, Size, Shown, shown, goal_of, leg_of, Answer, done, refused, moves_of, act}
use Rattle.rules.specs.Places.{Due, due_in, AllPlaced}
use Rattle.rules.specs.Runs.{Asked, after, leaves, marks, replay}
use Rattle.rules.specs.Deeds.{Deed, moves, sets, Deeds, moves_in}

-- ---- the calls of one walk, from the first after its begin
abbrev pub asked : Call → ℕ → Asked
asked c room = record { call = c; room = room }

-- what may stand between the steps: all but a step and a drop; what the walk bars is refused
abbrev pub Aside : Call → Type 0
Aside c = Free c ⊎ Barred c

-- a step that hands an event over; what stands between; the step that says done
pub data Finishes (z : Size) : List Asked → World Deep → Type 0 where
  says_done : {w : World Deep} {room : ℕ} → (act z room (stride step) w).events ≡ [] → Finishes z (asked (stride step) room ∷ []) w
  hands_over : {w : World Deep} {room : ℕ} {qs : List Asked} {e : Event} {es : List Event} → (act z room (stride step) w).events ≡ e ∷ es
      → Finishes z qs (act z room (stride step) w).after → Finishes z (asked (stride step) room ∷ qs) w
  meanwhile : {w : World Deep} {c : Call} {room : ℕ} {qs : List Asked} → Aside c
      → Finishes z qs (act z room c w).after → Finishes z (asked c room ∷ qs) w

-- ---- what they do together
-- a call's moves and sets; a new node is neither, and no walk lets one be made
abbrev pub deeds_of : Call → Shown → List Deed
deeds_of (Call.ask q) d = []
deeds_of (Call.make n) d = []
deeds_of (Call.set x v) d = sets x (value v) ∷ []
deeds_of (Call.switch g) d = map moves (route d.tree d.focus (goal_of g d))
deeds_of (stride s) d = map moves (leg_of s d).moves

abbrev pub if_done : Answer → List Deed → List Deed
if_done (done o m) ds = ds
if_done (refused n) ds = []

unfoldable pub deeds : Size → List Asked → World Deep → List Deed
deeds z [] w = []
deeds z (q ∷ qs) w =
    if_done (act z q.room q.call w).answer (deeds_of q.call (shown w)) ++ deeds z qs (after z q w)

-- the events, each with the store at which it is handed over
unfoldable pub handed_over : Size → List Asked → World Deep → List Due
handed_over z [] w = []
handed_over z (q ∷ qs) w =
    map (due_in (shallow (after z q w).store)) (act z q.room q.call w).events
    ++ handed_over z qs (after z q w)

-- the moves that the answers report, added up
unfoldable pub reported : Size → List Asked → World Deep → ℕ
reported z [] w = 0
reported z (q ∷ qs) w = moves_of (act z q.room q.call w).answer + reported z qs (after z q w)

abbrev pub is_step : Call → ℕ
is_step (Call.ask q) = 0
is_step (Call.make n) = 0
is_step (Call.set x v) = 0
is_step (Call.switch g) = 0
is_step (stride (begin a)) = 0
is_step (stride step) = 1
is_step (stride drop) = 0

abbrev pub steps : List Asked → ℕ
steps [] = 0
steps (q ∷ qs) = is_step q.call + steps qs

-- ---- demand 3 of one finished walk: from w, begun to a as w₁, by these calls
pub record Together (z : Size) (w : World Deep) (a : ℕ) (w₁ : World Deep) (qs : List Asked) : Type 0 where
  pub arrives : (leaves z qs w₁).store.focus ≡ a
  pub over : (leaves z qs w₁).walk ≡ none
  -- each move and set leads from one store to the next, from the store at the begin to the store when it is done
  pub leads : Deeds (shallow w.store) (deeds z qs w₁) (shallow (leaves z qs w₁).store)
  -- exactly the nodes on one path to the top and not on the other, each once
  pub exactly : (n : ℕ) → on n (map node_of (moves_in (deeds z qs w₁))) ≡ xor (on n (path w.store.tree w.store.focus)) (on n (path w.store.tree a))
  pub once : Once (map node_of (moves_in (deeds z qs w₁)))
  -- the steps report their number, and no chain of parent-or-child steps is shorter
  pub counted : reported z qs w₁ ≡ length (moves_in (deeds z qs w₁))
  pub shortest : (k : ℕ) → Chain w.store.tree w.store.focus a k → reported z qs w₁ ≤ k
  -- goto's moves and goto's events, each handed over with the focus at its place; one step more than events
  pub order : moves_in (deeds z qs w₁) ≡ route w.store.tree w.store.focus a
  pub told : map (λ (u : Due). u.event) (handed_over z qs w₁) ≡ trace w.store.tree (moves_in (deeds z qs w₁))
  pub placed : AllPlaced (handed_over z qs w₁)
  pub one_more : steps qs ≡ suc (length (handed_over z qs w₁))
  -- the values are the deep rule's, with each set taken at its place
  pub values : (leaves z qs w₁).store ≡ move_to a (replay z (marks z qs w₁) w.store)
  pub sound : Sound (shallow (leaves z qs w₁).store)
