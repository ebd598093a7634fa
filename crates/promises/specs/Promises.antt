-- What each call promises, for all arguments and all memory lent: document 01, "What each call does" and "The numbers a
-- call can give back". s and t are the store and the trace at entry, s' and t' at exit, n the numbers of the answer.
-- Assumes nothing: these are definitions.
use Rattle.std.specs.Prelude.{◌≡◌, ◌≢◌, true, ℕ, ◌/◌, ◌≤◌, ◌<◌, List, [], ◌∷◌, ℤ, pos, length}
use Rattle.std.proofs.Math.Option.{none}
use Rattle.std.proofs.Math.ListN as lists
use Rattle.rules.specs.Basic.{or_top}
use Rattle.rules.specs.Tree.{binding, wind}
use Rattle.rules.specs.Values.{Cell, unbound, value}
use Rattle.rules.specs.Store.{Deep, home}
use Rattle.rules.specs.Far.{Between}
use Rattle.rules.specs.Moves.{Move, Moves, Event}
use Rattle.rules.specs.World.{World}
use Rattle.rules.specs.Act.{Stride, begin, step, drop, shown, leg_of, walk_by}
use Rattle.rules.specs.Calls.{value_at, decided_by}
use Rattle.rules.specs.Refusals.{setup, damaged, no_variable, no_environment, no_value, full, trace_room, at_top, walking, not_walking}
use Rattle.rules.specs.Effects.{NewNode, SetTo}
use Rattle.rules.specs.Demands.{Switched}
use Rattle.layout.specs.Limits.{none_n, event_size, size_of}
use Rattle.layout.specs.Records.{vars, room, focus, target, ProperCell, top_c}
use Rattle.layout.specs.View.{as_cell, view, walk_of}
use Rattle.layout.specs.Sound.{Sound}
use Rattle.layout.specs.Made.{IsMade, next_of, IsFull}
use Rattle.layout.specs.Becomes.{Sized, Kept}
use Rattle.layout.specs.Opening.{OpenFits}
use Rattle.layout.specs.Events.{told}
use Rattle.layout.specs.Events.{events_to}
use Rattle.promises.specs.declared.Told.{Told}
use Rattle.promises.specs.Answers.{Numbers, refusal, done, seen, handing, untold, telling}
use Rattle.promises.specs.Tables.{Row, row, First}

-- what a store means: the deep store of TR397's Figure 2, with the top values
unfoldable pub meaning : List ℕ → Deep
meaning s = home (view s)

-- .. and the walk that is under way, if any
unfoldable pub world : List ℕ → World Deep
world s = record { store = meaning s; walk = walk_of s }

-- the value of x at a
unfoldable pub at : List ℕ → ℕ → ℕ → Cell
at s a x = value_at (meaning s) a x

-- the number of the environment whose binding decides x at a, by the deep rule; 0 for the top value
unfoldable pub by_at : List ℕ → ℕ → ℕ → ℕ
by_at s a x = decided_by (meaning s).tree a x

-- how many events a trace has room for
unfoldable pub room_for : List ℕ → ℕ
room_for t = length t / event_size

-- the numbers are the table's; a refusal answers 0 beside its number and changes nothing; done is as said
pub record Answers (rows : List Row) (n : Numbers) (Same Done : Type 0) : Type 0 where
  pub first : First rows n.code
  pub refused : 1 ≤ n.code → (n ≡ refusal n.code) × Same
  pub done : n.code ≡ 0 → Done

-- done, with this answer, these moves and so many events
abbrev pub DoneWith : Numbers → ℤ → ℕ → ℕ → Type 0
DoneWith n o m e = n ≡ done o m e

-- done, with the value of x at a and the number of its decider
abbrev pub Shows : List ℕ → ℕ → ℕ → Numbers → Type 0
Shows s a x n = (v : ℤ) × (n ≡ seen v (by_at s a x)) × (at s a x ≡ value v)

-- ---- the conditions
abbrev pub damaged_row : List ℕ → Row
damaged_row s = row damaged (Sound s → ⊥)

abbrev pub variable_row : List ℕ → ℕ → Row
variable_row s x = row no_variable (vars s ≤ x)

abbrev pub environment_row : List ℕ → ℕ → Row
environment_row s a = row no_environment (IsMade s a → ⊥)

-- x has no value at a
abbrev pub value_row : List ℕ → ℕ → ℕ → Row
value_row s a x = row no_value (at s a x ≡ unbound)

abbrev pub full_row : List ℕ → Row
full_row s = row full (IsFull s)

-- the events exceed the room
abbrev pub room_row : List ℕ → List Event → Row
room_row t es = row trace_room (room_for t < length es)

abbrev pub top_row : List ℕ → Row
top_row s = row at_top (focus s ≡ 0)

-- a walk is under way; none is (document 02, W5)
abbrev pub walking_row : List ℕ → Row
walking_row s = row walking (target s ≢ none_n)

abbrev pub not_walking_row : List ℕ → Row
not_walking_row s = row not_walking (target s ≡ none_n)

-- ---- open
pub record Openable (v n : ℕ) (tops s : List ℕ) : Type 0 where
  pub fits : OpenFits v n tops
  pub proper : (x : ℕ) → x < v → ProperCell (top_c tops x)
  pub long : size_of v n ≤ length s

-- only the top is made and is the focus; every variable has its top cell; the rest of the buffer is as it was
pub record Opened (v n : ℕ) (tops s s' : List ℕ) (out : Numbers) : Type 0 where
  pub answer : DoneWith out (pos 0) 0 0
  pub sound : Sound s'
  pub vars : vars s' ≡ v
  pub nodes : room s' ≡ n
  pub only_top : (a : ℕ) → IsMade s' a → a ≡ 0
  pub focus : focus s' ≡ 0
  pub walk : walk_of s' ≡ none
  pub values : (x : ℕ) → x < v → at s' 0 x ≡ as_cell (top_c tops x)
  pub long : length s' ≡ length s
  pub past : lists.drop (size_of v n) s' ≡ lists.drop (size_of v n) s

pub record OpenPromise (v n : ℕ) (tops s s' : List ℕ) (out : Numbers) : Type 0 where
  pub answers : Answers (row setup (Openable v n tops s → ⊥) ∷ []) out (s' ≡ s) (Opened v n tops s s' out)

-- ---- look, peek, here, far: a value with its decider, the focus or a number, and no byte of the store changed
pub record LookPromise (s : List ℕ) (x : ℕ) (s' : List ℕ) (n : Numbers) : Type 0 where
  pub same : s' ≡ s
  pub answers : Answers (damaged_row s ∷ variable_row s x ∷ value_row s (focus s) x ∷ []) n (Unit {0}) (Shows s (focus s) x n)

pub record PeekPromise (s : List ℕ) (a x : ℕ) (s' : List ℕ) (n : Numbers) : Type 0 where
  pub same : s' ≡ s
  pub answers : Answers (damaged_row s ∷ variable_row s x ∷ environment_row s a ∷ value_row s a x ∷ []) n (Unit {0}) (Shows s a x n)

pub record HerePromise (s s' : List ℕ) (n : Numbers) : Type 0 where
  pub same : s' ≡ s
  pub answers : Answers (damaged_row s ∷ []) n (Unit {0}) (DoneWith n (pos (focus s)) 0 0)

-- how far a and b are apart: demand 3's number, with nothing moved
abbrev pub FarDone : List ℕ → ℕ → ℕ → Numbers → Type 0
FarDone s a b n = (k : ℕ) × DoneWith n (pos k) 0 0 × Between (view s).tree a b k

pub record FarPromise (s : List ℕ) (a b : ℕ) (s' : List ℕ) (n : Numbers) : Type 0 where
  pub same : s' ≡ s
  pub answers : Answers (damaged_row s ∷ environment_row s a ∷ environment_row s b ∷ []) n (Unit {0}) (FarDone s a b n)

-- ---- tell (document 02, W7): what the environment a is, and its parent; a binding decides its own variable, so its own value is
-- the value at a
abbrev pub tells : List ℕ → ℕ → Told
tells s a = telling ((view s).tree.what a) (or_top ((view s).tree.up a)) (at s a)

pub record TellPromise (s : List ℕ) (a : ℕ) (s' : List ℕ) (n : Told) : Type 0 where
  pub same : s' ≡ s
  pub first : First (damaged_row s ∷ environment_row s a ∷ []) n.code
  pub refused : 1 ≤ n.code → n ≡ untold n.code
  pub done : n.code ≡ 0 → n ≡ tells s a

-- ---- the calls that change the store leave a sound store of the same size, and no byte past the size changed
pub record SetDone (s : List ℕ) (x : ℕ) (v : ℤ) (s' : List ℕ) (n : Numbers) : Type 0 where
  pub answer : DoneWith n (pos (focus s)) 0 0
  pub sound : Sound s'
  pub kept : Kept s s'
  pub effect : SetTo (meaning s) (meaning s') x (value v)

pub record SetPromise (s : List ℕ) (x : ℕ) (v : ℤ) (s' : List ℕ) (n : Numbers) : Type 0 where
  pub answers : Answers (damaged_row s ∷ variable_row s x ∷ value_row s (focus s) x ∷ []) n (s' ≡ s) (SetDone s x v s' n)

-- a new node, number = made, child of the focus, becomes the focus; every other environment is as it was
pub record BindDone (s : List ℕ) (x : ℕ) (v : ℤ) (s' : List ℕ) (n : Numbers) : Type 0 where
  pub answer : DoneWith n (pos (next_of s)) 0 0
  pub sound : Sound s'
  pub kept : Kept s s'
  pub new : NewNode (meaning s) (meaning s') (next_of s) (binding x)
  pub own : at s' (next_of s) x ≡ value v
  pub rest : (y : ℕ) → y ≢ x → at s' (next_of s) y ≡ at s (focus s) y

pub record BindPromise (s : List ℕ) (x : ℕ) (v : ℤ) (s' : List ℕ) (n : Numbers) : Type 0 where
  pub answers : Answers (damaged_row s ∷ walking_row s ∷ variable_row s x ∷ full_row s ∷ []) n (s' ≡ s) (BindDone s x v s' n)

-- one trace event, entering p at the focus
abbrev pub entering : List ℕ → ℕ → List Event
entering s p = record { entering = true; thunk = p; place = focus s } ∷ []

pub record WindDone (s t : List ℕ) (p q : ℕ) (s' t' : List ℕ) (n : Numbers) : Type 0 where
  pub answer : DoneWith n (pos (next_of s)) 0 1
  pub sound : Sound s'
  pub kept : Kept s s'
  pub new : NewNode (meaning s) (meaning s') (next_of s) (wind p q)
  pub rest : (y : ℕ) → at s' (next_of s) y ≡ at s (focus s) y
  pub trace : t' ≡ told (entering s p) t

pub record WindPromise (s t : List ℕ) (p q : ℕ) (s' t' : List ℕ) (n : Numbers) : Type 0 where
  pub answers : Answers (damaged_row s ∷ walking_row s ∷ full_row s ∷ room_row t (entering s p) ∷ []) n ((s' ≡ s) × (t' ≡ t)) (WindDone s t p q s' t' n)

-- ---- goto and back: demand 3, by a list of moves from the store at entry to the store at exit
pub record SwitchDone (s t : List ℕ) (a : ℕ) (s' t' : List ℕ) (n : Numbers) : Type 0 where
  pub moves : List Move
  pub events : List Event
  pub answer : DoneWith n (pos a) (length moves) (length events)
  pub sound : Sound s'
  pub kept : Kept s s'
  pub switched : Switched (view s) (view s') a moves (length moves) events
  pub trace : t' ≡ told events t

-- what both say: the events exceed the room, or the switch is made
abbrev pub Switches : List ℕ → List ℕ → ℕ → List ℕ → List ℕ → List Row → Numbers → Type 0
Switches s t a s' t' rows n = Answers rows n ((s' ≡ s) × (t' ≡ t)) (SwitchDone s t a s' t' n)

-- the focus's parent
unfoldable pub parent_at : List ℕ → ℕ
parent_at s = or_top ((view s).tree.up (focus s))

pub record GotoPromise (s t : List ℕ) (a : ℕ) (s' t' : List ℕ) (n : Numbers) : Type 0 where
  pub answers : Switches s t a s' t' (damaged_row s ∷ walking_row s ∷ environment_row s a ∷ room_row t (events_to s a) ∷ []) n

pub record BackPromise (s t s' t' : List ℕ) (n : Numbers) : Type 0 where
  pub answers : Switches s t (parent_at s) s' t' (damaged_row s ∷ walking_row s ∷ room_row t (events_to s (parent_at s)) ∷ top_row s ∷ []) n

-- ---- begin, step, drop (document 02, W5): a step goes the walk's leg up to its next event, begin and drop make no move; the focus
-- is answered, and the walk is as the stride leaves it
pub record StrideDone (k : Stride) (s s' : List ℕ) (n : Numbers) : Type 0 where
  pub answer : n ≡ handing (focus s') (length (leg_of k (shown (world s))).moves) (leg_of k (shown (world s))).events
  pub sound : Sound s'
  pub size : Sized s s'
  pub moved : Moves (view s) (leg_of k (shown (world s))).moves (view s')
  pub walk : walk_of s' ≡ walk_by k (shown (world s))

pub record BeginPromise (s : List ℕ) (a : ℕ) (s' : List ℕ) (n : Numbers) : Type 0 where
  pub answers : Answers (damaged_row s ∷ walking_row s ∷ environment_row s a ∷ []) n (s' ≡ s) (StrideDone (begin a) s s' n)

pub record StepPromise (s s' : List ℕ) (n : Numbers) : Type 0 where
  pub answers : Answers (damaged_row s ∷ not_walking_row s ∷ []) n (s' ≡ s) (StrideDone step s s' n)

pub record DropPromise (s s' : List ℕ) (n : Numbers) : Type 0 where
  pub answers : Answers (damaged_row s ∷ not_walking_row s ∷ []) n (s' ≡ s) (StrideDone drop s s' n)
