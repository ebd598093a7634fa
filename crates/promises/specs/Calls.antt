-- The calls on a store under one name, so that what holds of all of them is said once: each call's promise, its table, and
-- what it says of a call that is done. Open and tell stand alone. From document 01, "What each call does". Assumes nothing.
use Rattle.std.specs.Prelude.{◌≡◌, true, false, ℕ, ◌≤◌, List, [], ◌∷◌, map, pos, length}
use Rattle.rules.specs.Tree.{binds}
use Rattle.rules.specs.Moves.{Event, wind_event}
use Rattle.rules.specs.Act.{Ask, Child, Goal, Stride, Call, what_of, own_of, Ground, grounds}
use Rattle.rules.specs.Effects.{NewNode}
use Rattle.layout.specs.Records.{focus}
use Rattle.layout.specs.Sound.{Sound}
use Rattle.layout.specs.Becomes.{Kept}
use Rattle.layout.specs.Made.{next_of}
use Rattle.layout.specs.Events.{told, events_to}
use Rattle.promises.specs.Answers.{Numbers}
use Rattle.promises.specs.Tables.{Row}
use Rattle.promises.specs.Promises.{meaning, at, Answers, damaged_row, variable_row, environment_row, value_row, full_row, room_row, top_row, walking_row, not_walking_row, DoneWith, Shows, LookPromise, PeekPromise, HerePromise, FarDone, FarPromise, SetDone, SetPromise, BindPromise, WindPromise, SwitchDone, parent_at, GotoPromise, BackPromise, StrideDone, BeginPromise, StepPromise, DropPromise}

-- what is promised of the call c from the store s and the trace t to s' and t', with the numbers n; where no trace is lent,
-- none changes
abbrev pub Promised : Call → List ℕ → List ℕ → List ℕ → List ℕ → Numbers → Type 0
Promised (Call.ask (Ask.look x)) s t s' t' n = LookPromise s x s' n × (t' ≡ t)
Promised (Call.ask Ask.here) s t s' t' n = HerePromise s s' n × (t' ≡ t)
Promised (Call.ask (Ask.peek a x)) s t s' t' n = PeekPromise s a x s' n × (t' ≡ t)
Promised (Call.ask (Ask.far a b)) s t s' t' n = FarPromise s a b s' n × (t' ≡ t)
Promised (Call.make (Child.bind x v)) s t s' t' n = BindPromise s x v s' n × (t' ≡ t)
Promised (Call.make (Child.wind p q)) s t s' t' n = WindPromise s t p q s' t' n
Promised (Call.set x v) s t s' t' n = SetPromise s x v s' n × (t' ≡ t)
Promised (Call.switch (Goal.goto a)) s t s' t' n = GotoPromise s t a s' t' n
Promised (Call.switch Goal.back) s t s' t' n = BackPromise s t s' t' n
Promised (Call.stride (Stride.begin a)) s t s' t' n = BeginPromise s a s' n × (t' ≡ t)
Promised (Call.stride Stride.step) s t s' t' n = StepPromise s s' n × (t' ≡ t)
Promised (Call.stride Stride.drop) s t s' t' n = DropPromise s s' n × (t' ≡ t)

-- ---- the same, as one statement: the rows below Damaged, and what is done
-- the place that a switch goes to
abbrev pub goal_at : Goal → List ℕ → ℕ
goal_at (Goal.goto a) s = a
goal_at Goal.back s = parent_at s

-- the events that a call that is done writes to the trace: a step's is in its answer
abbrev pub events_in : Call → List ℕ → List Event
events_in (Call.ask q) s = []
events_in (Call.make k) s = wind_event true (what_of k) (focus s)
events_in (Call.set x v) s = []
events_in (Call.switch g) s = events_to s (goal_at g s)
events_in (Call.stride k) s = []

-- the row of a ground, for a call with these events
abbrev pub row_at : List ℕ → List ℕ → List Event → Ground → Row
row_at s t es (Ground.unknown x) = variable_row s x
row_at s t es (Ground.unmade a) = environment_row s a
row_at s t es (Ground.valueless x) = value_row s (focus s) x
row_at s t es (Ground.valueless_at a x) = value_row s a x
row_at s t es Ground.no_space = full_row s
row_at s t es Ground.no_room = room_row t es
row_at s t es Ground.no_parent = top_row s
row_at s t es Ground.mid_walk = walking_row s
row_at s t es Ground.no_walk = not_walking_row s

abbrev pub table : Call → List ℕ → List ℕ → List Row
table c s t = map (row_at s t (events_in c s)) (grounds c)

-- what an ask answers
abbrev pub AskDone : Ask → List ℕ → Numbers → Type 0
AskDone (Ask.look x) s n = Shows s (focus s) x n
AskDone Ask.here s n = DoneWith n (pos (focus s)) 0 0
AskDone (Ask.peek a x) s n = Shows s a x n
AskDone (Ask.far a b) s n = FarDone s a b n

-- what BindDone and WindDone say, of any new node
pub record MakeDone (k : Child) (s t s' t' : List ℕ) (n : Numbers) : Type 0 where
  pub answer : DoneWith n (pos (next_of s)) 0 (length (events_in (Call.make k) s))
  pub sound : Sound s'
  pub kept : Kept s s'
  pub new : NewNode (meaning s) (meaning s') (next_of s) (what_of k)
  pub own : (x : ℕ) → binds (what_of k) x ≡ true → at s' (next_of s) x ≡ own_of k
  pub rest : (y : ℕ) → binds (what_of k) y ≡ false → at s' (next_of s) y ≡ at s (focus s) y
  pub trace : t' ≡ told (events_in (Call.make k) s) t

abbrev pub Done : Call → List ℕ → List ℕ → List ℕ → List ℕ → Numbers → Type 0
Done (Call.ask q) s t s' t' n = AskDone q s n × (s' ≡ s) × (t' ≡ t)
Done (Call.make k) s t s' t' n = MakeDone k s t s' t' n
Done (Call.set x v) s t s' t' n = SetDone s x v s' n × (t' ≡ t)
Done (Call.switch g) s t s' t' n = SwitchDone s t (goal_at g s) s' t' n
Done (Call.stride k) s t s' t' n = StrideDone k s s' n × (t' ≡ t)

abbrev pub Called : Call → List ℕ → List ℕ → List ℕ → List ℕ → Numbers → Type 0
Called c s t s' t' n = Answers (damaged_row s ∷ table c s t) n ((s' ≡ s) × (t' ≡ t)) (Done c s t s' t' n)

-- ---- a number is 0, or a refusal's
pub data Code (n : Numbers) : Type 0 where
  is_done_lem : n.code ≡ 0 → Code n
  is_refused : 1 ≤ n.code → Code n
