-- The owner's three demands, over the bytes of store and trace: in the owner's order and words, each from the promises that
-- the calls keep (crate `promises`, Promises). s and t are the store and the trace at entry, s' and t' at exit, n the
-- numbers of the answer; `Promised c` is the promise of the call c. That a call ends for all arguments and all memory lent is
-- what its promise, which asks for nothing, is proved of. These are the statements; their proofs stand in proofs/Demands.antt.
-- From document 01. Assumes that lent memory holds bytes.
use Rattle.std.specs.Prelude.{◌≡◌, ◌⊎◌, ◌≢◌, ℕ, ◌≤◌, ◌<◌, List, [], ◌∷◌, ◌++◌, map, reverse, pos, length}
use Rattle.std.proofs.Math.ListN as lists
use Rattle.rules.specs.Basic.{or_top}
use Rattle.rules.specs.Apart.{apart}
use Rattle.rules.specs.Tree.{binding, path}
use Rattle.rules.specs.Values.{value, Cell, unbound}
use Rattle.rules.specs.Moves.{Move, left, entered, Event, trace}
use Rattle.rules.specs.Meaning.{Means}
use Rattle.rules.specs.Refusals.{setup, no_value, damaged, no_line, not_walking}
use Rattle.rules.specs.Act.{Stride, begin, step, drop, Call, stride, Free}
use Rattle.rules.specs.Effects.{Effect}
use Rattle.rules.specs.Demands.{Switched}
use Rattle.rules.specs.Places.{InPlace}
use Rattle.layout.specs.Limits.{none_n, size_of}
use Rattle.layout.specs.Records.{vars, room, focus, target, handed}
use Rattle.layout.specs.View.{view}
use Rattle.layout.specs.Sound.{Sound}
use Rattle.layout.specs.Made.{IsMade}
use Rattle.layout.specs.Events.{told, events_to}
use Rattle.layout.specs.Bytes.{Bytes}
use Rattle.layout.specs.Opening.{top_cells}
use Rattle.promises.specs.declared.Told.{Told}
use Rattle.promises.specs.Answers.{Numbers, refusal, seen, untold, telling}
use Rattle.promises.specs.Tables.{Row, row, First, Lowest}
use Rattle.promises.specs.Promises.{meaning, world, at, by_at, room_for, damaged_row, Openable, OpenPromise, DoneWith, parent_at, GotoPromise, BackPromise, LookPromise, PeekPromise, FarDone, FarPromise, environment_row, TellPromise}
use Rattle.promises.specs.Calls.{Promised, table, AskDone}
use Rattle.demands.specs.Tests.{size_at}
use Rattle.demands.specs.AsAct.{Keeps, AsAct}
use Rattle.demands.specs.Held.{Held, Way}
use Rattle.demands.specs.Doors.{Step, Run}
use Rattle.demands.specs.OneStep.{OneStep}
use Rattle.demands.specs.Walks.{InBytes, calling, Finishes, steps, Begun, WalkedInSteps, NoSet, AsGoto, NoDrop, UnderWay, SoFar, Stands}

-- ==== 1. Every call ends with one of the numbered answers. A refusal comes exactly under its stated condition and changes
-- no byte.
-- the conditions of each call, with their numbers: Setup for open, Damaged and the call's own rows for the others
abbrev pub open_conditions : ℕ → ℕ → List ℕ → List ℕ → List Row
open_conditions v n tops s = row setup (Openable v n tops s → ⊥) ∷ []

abbrev pub conditions : Call → List ℕ → List ℕ → List Row
conditions c s t = damaged_row s ∷ table c s t

abbrev pub tell_conditions : List ℕ → ℕ → List Row
tell_conditions s a = damaged_row s ∷ environment_row s a ∷ []

-- 0, or a number of the store's table (9 is the card program's)
abbrev pub InTable : ℕ → Type 0
InTable k = (k ≤ not_walking) × (k ≢ no_line)

pub record Answered (rows : List Row) (Rise : Type 0) (code : ℕ) (Nothing Unchanged : Type 0) : Type 0 where
  pub numbered : InTable code
  -- 0 exactly where no condition holds, else the first number whose condition holds, which is the lowest where they rise
  pub exactly : First rows code
  pub lowest : Rise → Lowest rows code
  -- a refusal answers 0 beside its number, and no byte differs afterwards
  pub nothing : 1 ≤ code → Nothing
  pub no_byte : 1 ≤ code → Unchanged

pub record Demand1 : Type 0 where
  pub opening : (v k : ℕ) (tops s s' : List ℕ) (n : Numbers) → OpenPromise v k tops s s' n → Answered (open_conditions v k tops s) (Unit {0}) n.code (n ≡ refusal n.code) (s' ≡ s)
  -- the numbers rise for the calls that a walk leaves free, and outside a walk for all; a walk's own come first (document 02, W5)
  pub calls : (c : Call) (s t s' t' : List ℕ) (n : Numbers) → Promised c s t s' t' n
      → Answered (conditions c s t) (Free c ⊎ (target s ≡ none_n)) n.code (n ≡ refusal n.code) ((s' ≡ s) × (t' ≡ t))
  -- tell (document 02, W7) tells nothing beside a refusal
  pub telling : (s : List ℕ) (a : ℕ) (s' : List ℕ) (n : Told) → TellPromise s a s' n → Answered (tell_conditions s a) (Unit {0}) n.code (n ≡ untold n.code) (s' ≡ s)

-- ==== 2. Opening makes the sound store. From any sound store every call answers and leaves what TR397's deep-binding rule
-- says, with top values and set as document 01 adds them, and the store stays sound. Cells show the focus, reading from afar
-- is right in every environment, a switch alters no environment's value of any variable.
pub record OpensSound (v k : ℕ) (tops s s' : List ℕ) (n : Numbers) : Type 0 where
  pub done : n ≡ refusal 0
  pub sound : Sound s'
  pub vars : vars s' ≡ v
  pub nodes : room s' ≡ k
  pub only_top : (a : ℕ) → IsMade s' a → a ≡ 0
  pub focus : focus s' ≡ 0
  -- outside a walk (document 02, W5)
  pub outside : (target s' ≡ none_n) × (handed s' ≡ none_n)
  -- every variable has the value of its top cell, and past V there is none
  pub values : (a x : ℕ) → at s' a x ≡ top_cells v tops x
  pub rest : (length s' ≡ length s) × (lists.drop (size_of v k) s' ≡ lists.drop (size_of v k) s)

-- what a done call answers: an ask what it asks of the store (look and peek the deep rule's value and decider, here the
-- focus), which stays as it is; the others the focus that they leave
abbrev pub Replies : Call → List ℕ → List ℕ → Numbers → Type 0
Replies (Call.ask q) s s' n = AskDone q s n × (s' ≡ s)
Replies (Call.make k) s s' n = n.out ≡ pos (focus s')
Replies (Call.set x v) s s' n = n.out ≡ pos (focus s')
Replies (Call.switch g) s s' n = n.out ≡ pos (focus s')
Replies (Call.stride k) s s' n = n.out ≡ pos (focus s')

pub record ByTheRule (c : Call) (s t s' t' : List ℕ) (n : Numbers) : Type 0 where
  -- the store stays sound, of the same size, and no byte past the size changes; nor does the walk's target, or the wind handed
  -- over, but by begin, step and drop
  pub sound : Sound s'
  pub kept : Keeps c s s'
  -- it is not refused as Damaged
  pub answers : n.code ≢ damaged
  -- document 01's three sentences: a binding that is out stores its own value, one that is in the value at its parent, and
  -- the cells show the focus
  pub means : Means (view s') (meaning s')
  -- what a done call answers, and what it changes: of every environment the value of every variable, before and after
  -- (a switch, a begin, a step, a drop: none; the focus is then where it says)
  pub replies : n.code ≡ 0 → Replies c s s' n
  pub changes : n.code ≡ 0 → Effect (size_at s) c (world s) (meaning s')
  -- all of it, refused or done: the numbers, the events and the meaning are `act`'s
  pub acts : AsAct c s t s' t' n

-- the numbers of a cell that was read: its value with this decider, or that it has none
abbrev pub read_as : Cell → ℕ → Numbers
read_as unbound by = refusal no_value
read_as (value v) by = seen v by

pub record Demand2 : Type 0 where
  pub opening : (v k : ℕ) (tops s s' : List ℕ) (n : Numbers) → Openable v k tops s → OpenPromise v k tops s s' n → OpensSound v k tops s s' n
  pub calls : (c : Call) (s t s' t' : List ℕ) (n : Numbers) → Sound s → Promised c s t s' t' n → ByTheRule c s t s' t' n
  -- the cells show the focus: of every variable, look gives the deep rule's value there, and its decider
  pub cells : (s : List ℕ) (x : ℕ) (s' : List ℕ) (n : Numbers) → Sound s → x < vars s → LookPromise s x s' n → n ≡ read_as (at s (focus s) x) (by_at s (focus s) x)
  -- reading from afar is right in every environment, and its decider too
  pub afar : (s : List ℕ) (a x : ℕ) (s' : List ℕ) (n : Numbers) → Sound s → x < vars s → IsMade s a → PeekPromise s a x s' n → n ≡ read_as (at s a x) (by_at s a x)
  -- tell (document 02, W7) says of every environment what it is in the deep store, and its parent, with no byte changed; of a
  -- binding, which decides its own variable, the value is its own
  pub tell : (s : List ℕ) (a : ℕ) (s' : List ℕ) (n : Told) → Sound s → IsMade s a → TellPromise s a s' n
      → (n ≡ telling ((meaning s).tree.what a) (or_top ((meaning s).tree.up a)) (at s a)) × (s' ≡ s)
  pub own : (s : List ℕ) (a x : ℕ) → Sound s → (meaning s).tree.what a ≡ binding x → (at s a x ≡ (meaning s).own.stored a) × (by_at s a x ≡ a)
  -- a switch alters no environment's value of any variable
  pub goto : (s t : List ℕ) (a : ℕ) (s' t' : List ℕ) (n : Numbers) → GotoPromise s t a s' t' n → (b x : ℕ) → at s' b x ≡ at s b x
  pub back : (s t s' t' : List ℕ) (n : Numbers) → BackPromise s t s' t' n → (b x : ℕ) → at s' b x ≡ at s b x
  -- .. nor does a begin, a step or a drop (document 02, W5)
  pub stride : (k : Stride) (s t s' t' : List ℕ) (n : Numbers) → Promised (Call.stride k) s t s' t' n → (b x : ℕ) → at s' b x ≡ at s b x

-- ==== 3. A switch moves exactly the nodes on one path to the top and not on the other's, each once, reports that number, and
-- no chain of parent-or-child steps is shorter. The trace holds the winds among them, left from the inside out, then entered
-- from the outside in.
pub record Walked (s t : List ℕ) (a : ℕ) (s' t' : List ℕ) (n : Numbers) : Type 0 where
  pub moves : List Move
  pub events : List Event
  -- the moves lead from the store at entry to the store at exit: exactly those nodes, each once, as many as reported, none fewer
  pub switched : Switched (view s) (view s') a moves n.moves events
  -- every store on the way is one sound buffer of this size
  pub held : Way (Held s) switched.moves
  -- the winds among them, in that order, from the start of the trace, and their number reported; the rest of it as it was
  pub winds : events
      ≡ trace (view s).tree (map left (apart (path (view s).tree (focus s)) (path (view s).tree a)))
      ++ trace (view s).tree (map entered (reverse (apart (path (view s).tree a) (path (view s).tree (focus s)))))
  pub traced : t' ≡ told events t
  pub counted : n.events ≡ length events
  -- each event is told at the focus that the walk has reached when it is due, its wind left already or not yet entered; so a
  -- thunk that saves its place and is resumed there moves nothing
  pub placed : InPlace (view s) moves events

-- the trace has room for the events of a switch from the focus to a
abbrev pub Enough : List ℕ → List ℕ → ℕ → Type 0
Enough s t a = length (events_to s a) ≤ room_for t

pub record Demand3 : Type 0 where
  -- a sound store outside a walk, both environments made, room enough: the switch is done, and this is how it went
  pub goto : (s t : List ℕ) (a : ℕ) (s' t' : List ℕ) (n : Numbers) → Bytes s → Sound s → target s ≡ none_n → IsMade s a → Enough s t a
      → GotoPromise s t a s' t' n → (n.code ≡ 0) × Walked s t a s' t' n
  -- .. and to the focus's parent, from anywhere but the top
  pub back : (s t s' t' : List ℕ) (n : Numbers) → Bytes s → Sound s → target s ≡ none_n → focus s ≢ 0 → Enough s t (parent_at s)
      → BackPromise s t s' t' n → (n.code ≡ 0) × Walked s t (parent_at s) s' t' n
  -- so went every goto and every back that answers 0
  pub went : (s t : List ℕ) (a : ℕ) (s' t' : List ℕ) (n : Numbers) → Bytes s → GotoPromise s t a s' t' n → n.code ≡ 0 → Walked s t a s' t' n
  pub went_back : (s t s' t' : List ℕ) (n : Numbers) → Bytes s → BackPromise s t s' t' n → n.code ≡ 0 → Walked s t (parent_at s) s' t' n
  -- far tells that number of any two environments, with nothing moved (document 02, W3)
  pub far : (s : List ℕ) (a b : ℕ) (s' : List ℕ) (n : Numbers) → Sound s → IsMade s a → IsMade s b → FarPromise s a b s' n → FarDone s a b n × (s' ≡ s)
  -- .. and of the focus and a target, what a goto there reports
  pub as_far : (s t : List ℕ) (a : ℕ) (s' t' s'' : List ℕ) (n m : Numbers) → GotoPromise s t a s' t' n → n.code ≡ 0 → FarPromise s (focus s) a s'' m → m.out ≡ pos n.moves
  -- resumed where the focus is: done with no move and no event, and no byte differs
  pub resumed : (s t s' t' : List ℕ) (n : Numbers) → Bytes s → Bytes s' → Sound s → target s ≡ none_n → GotoPromise s t (focus s) s' t' n
      → DoneWith n (pos (focus s)) 0 0 × (s' ≡ s) × (t' ≡ t)

-- .. and of one finished walk's calls together (document 02, W5): begun in s to a, as s₁; then these calls, steps and what the host
-- calls between them; done in s'. `OneStep` says how a step went, `Walks` what a walk's calls are and
-- how they went together
pub record Demand3InSteps : Type 0 where
  -- a sound store outside a walk and an environment: the walk is begun. It makes no move
  pub begun : (s t s' t' : List ℕ) (a : ℕ) (n : Numbers) → Sound s → target s ≡ none_n → IsMade s a → Promised (stride (begin a)) s t s' t' n
      → (n.code ≡ 0) × Stands s t s' t' a n
  -- each further call makes moves up to the next event and hands that event over with the focus at its place, or says that the walk
  -- is done; for leaving, the node has been left already; for entering, not yet
  pub one_step : (s t s' t' : List ℕ) (n : Numbers) → Sound s → target s ≢ none_n → Promised (stride step) s t s' t' n → (n.code ≡ 0) × OneStep s t s' t' n
  -- one list of moves and sets: demand 3's nodes, each once, as many as the steps report together, no chain shorter; the events in
  -- their order, each with the focus at its place; the values with each set taken at its place
  pub together : (s : List ℕ) (a : ℕ) (s₁ : List ℕ) (qs : List Step) (s' : List ℕ) → Begun s a s₁ → (run : Run s₁ qs s') → Finishes qs → Bytes s → InBytes run
      → WalkedInSteps s a qs s'
  -- with no set between: every byte, the moves and the events are those of a goto with room enough
  pub as_goto : (s : List ℕ) (a : ℕ) (s₁ : List ℕ) (qs : List Step) (s' : List ℕ) → Begun s a s₁ → Run s₁ qs s' → Finishes qs → NoSet qs
      → (tg sg tg' : List ℕ) (m : Numbers) → Bytes s' → Bytes sg → Enough s tg a → GotoPromise s tg a sg tg' m → AsGoto qs s' tg sg tg' m
  -- a walk of e events that isn't dropped is done at its step e + 1: e steps, whatever stands between them, and one more
  pub ends : (s : List ℕ) (a : ℕ) (s₁ : List ℕ) (qs : List Step) (u : List ℕ) → Begun s a s₁ → Run s₁ qs u → NoDrop qs → steps qs ≡ length (events_to s a)
      → (t v t' : List ℕ) (m : Numbers) → Promised (stride step) u t v t' m
      → Finishes (qs ++ calling (stride step) (focus u) t t' m ∷ []) × (m.code ≡ 0) × (m.events ≡ 0)
  -- still under way: the moves made and the events handed over are the first of goto's
  pub so_far : (s : List ℕ) (a : ℕ) (s₁ : List ℕ) (qs : List Step) (u : List ℕ) → Begun s a s₁ → (run : Run s₁ qs u) → UnderWay run → SoFar s a qs u
  -- dropped anywhere: a sound store outside a walk, the focus where it stands, no value altered
  pub dropped : (s t s' t' : List ℕ) (n : Numbers) → Sound s → target s ≢ none_n → Promised (stride drop) s t s' t' n → (n.code ≡ 0) × Stands s t s' t' none_n n
