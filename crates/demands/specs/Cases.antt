-- Document 01, "On both sides of the edges": the store's part of (a) to (l) as rows of one table. Each row says what the
-- promises allow for those inputs: any outcome that they allow has these numbers and these events. What the card program does
-- with them, (i)'s other half and (k)'s printed text, is not here.
-- Assumes nothing. Rows over V=256 and N=2,048 are by law; the others are computed by the rules' `run`.
use Rattle.std.specs.Prelude.{◌≡◌, true, false, ℕ, ◌*◌, ◌≤◌, ◌<◌, List, [], ◌∷◌, ◌++◌, ℤ, pos, negsuc, length, take}
use Rattle.std.proofs.Math.Option.{none}
use Prim.Native.String.{String}
use Rattle.rules.specs.Moves.{Event}
use Rattle.rules.specs.Refusals.{setup, damaged, no_variable, no_environment, no_value, full, trace_room, at_top, walking, not_walking}
use Rattle.rules.specs.Act.{look, here, peek, bind, wind, goto, back, begin, step, drop, Call, ask, make, set, switch, stride}
use Rattle.layout.specs.Limits.{max_vars, max_nodes, bare_size, size_of}
use Rattle.layout.specs.Records.{blank_cell, ProperCell, top_c}
use Rattle.layout.specs.Sound.{Sound}
use Rattle.layout.specs.Events.{events_b}
use Rattle.promises.specs.Answers.{Numbers, refusal, done, seen}
use Rattle.promises.specs.Promises.{Opened, OpenPromise, BindPromise}
use Rattle.promises.specs.Calls.{Promised}
use Rattle.demands.specs.Runs.{Said, Session}

-- ---- the rows
pub record Case : Type 1 where
  pub name : String
  pub says : Type 0

abbrev row : String → Type 0 → Case
row n c = record { name = n; says = c }

abbrev pub All : List Case → Type 0
All [] = Unit {0}
All (c ∷ cs) = c.says × All cs

-- top cells for v variables: 5v bytes, each cell proper
pub record Tops (v : ℕ) (tops : List ℕ) : Type 0 where
  pub long : length tops ≡ bare_size * v
  pub proper : (x : ℕ) → x < v → ProperCell (top_c tops x)

-- v variables and k environments open, and make a sound store; or are refused as Setup, with no byte changed
abbrev pub Opens : ℕ → ℕ → Type 0
Opens v k = (tops s s' : List ℕ) (n : Numbers) → Tops v tops → size_of v k ≤ length s → OpenPromise v k tops s s' n → (n ≡ refusal 0) × Sound s'

abbrev pub OpensNot : ℕ → ℕ → Type 0
OpensNot v k = (tops s s' : List ℕ) (n : Numbers) → OpenPromise v k tops s s' n → (n ≡ refusal setup) × (s' ≡ s)

-- a store opened for one environment refuses its first bind as Full, with no byte changed
abbrev pub FirstBindFull : Type 0
FirstBindFull =
    (v : ℕ) (tops s s' : List ℕ) (n : Numbers) → Opened v 1 tops s s' n
    → (x : ℕ) (w : ℤ) (s'' : List ℕ) (m : Numbers) → x < v → BindPromise s' x w s'' m → (m ≡ refusal full) × (s'' ≡ s')

-- V=1, N=4 in a buffer of so many bytes
abbrev pub OpensIn : ℕ → Type 0
OpensIn l = (tops s s' : List ℕ) (n : Numbers) → Tops 1 tops → length s ≡ l → OpenPromise 1 4 tops s s' n → (n ≡ refusal 0) × Sound s'

abbrev pub OpensNotIn : ℕ → Type 0
OpensNotIn l = (tops s s' : List ℕ) (n : Numbers) → length s ≡ l → OpenPromise 1 4 tops s s' n → (n ≡ refusal setup) × (s' ≡ s)

-- .. and once opened, lent with so many to any call, it is refused as Damaged, with no byte changed
abbrev pub LentShort : ℕ → Type 0
LentShort l =
    (tops s s' : List ℕ) (n : Numbers) → Opened 1 4 tops s s' n
    → (c : Call) (t s'' t'' : List ℕ) (m : Numbers) → Promised c (take l s') t s'' t'' m → (m ≡ refusal damaged) × (s'' ≡ take l s') × (t'' ≡ t)

-- opened with these top cells, and with a trace for so many events, these calls give back just this
abbrev pub Gives : ℕ → ℕ → ℕ → List ℕ → List Call → List Said → Type 0
Gives v k events tops cs said =
    (s s' : List ℕ) (n : Numbers) (rs : List Said) → size_of v k ≤ length s → OpenPromise v k tops s s' n → Session events s' cs rs → (n ≡ refusal 0) × (rs ≡ said)

-- what a call gives back: done with a number, with a value and its decider, after moves; or refused
abbrev ok : ℕ → List Event → Said
ok n es = record { numbers = done (pos n) 0 (length es); events = events_b es }

abbrev val : ℤ → ℕ → Said
val v by = record { numbers = seen v by; events = [] }

abbrev went : ℕ → ℕ → List Event → Said
went n moves es = record { numbers = done (pos n) moves (length es); events = events_b es }

abbrev no : ℕ → Said
no k = record { numbers = refusal k; events = [] }

abbrev enters : ℕ → ℕ → Event
enters thunk place = record { entering = true; thunk = thunk; place = place }

abbrev leaves : ℕ → ℕ → Event
leaves thunk place = record { entering = false; thunk = thunk; place = place }

-- a top cell of value 1
abbrev pub one : List ℕ
one = 1 ∷ 1 ∷ 0 ∷ 0 ∷ 0 ∷ []

-- the least value
abbrev least : ℤ
least = negsuc 2147483647

abbrev pub table : List Case
table =
    row "(a) V=256 opens" ((k : ℕ) → 1 ≤ k → k ≤ max_nodes → Opens 256 k)
    ∷ row "(a) V=257 is 1" ((k : ℕ) → OpensNot 257 k)
    ∷ row "(b) N=1 opens" ((v : ℕ) → 1 ≤ v → v ≤ max_vars → Opens v 1)
    ∷ row "(b) its first bind is 6" FirstBindFull
    ∷ row "(c) N=2,048 opens" ((v : ℕ) → 1 ≤ v → v ≤ max_vars → Opens v 2048)
    ∷ row "(c) N=2,049 is 1" ((v : ℕ) → OpensNot v 2049)
    ∷ row "(d) for V=1, N=4 a buffer of 73 opens" (OpensIn 73)
    ∷ row "(d) a buffer of 72 is 1" (OpensNotIn 72)
    ∷ row "(d) an opened store lent with 72 is 2" (LentShort 72)
    ∷ row "(e) x=V-1 is good" (Gives 2 4 0 (one ++ one) (ask (look 1) ∷ make (bind 1 (pos 5)) ∷ set 1 (pos 6) ∷ ask (peek 0 1) ∷ [])
    (val (pos 1) 0 ∷ ok 1 [] ∷ ok 1 [] ∷ val (pos 1) 0 ∷ []))
    ∷ row "(e) x=V is 3" (Gives 2 4 0 (one ++ one) (ask (look 2) ∷ make (bind 2 (pos 5)) ∷ set 2 (pos 6) ∷ ask (peek 0 2) ∷ [])
    (no no_variable ∷ no no_variable ∷ no no_variable ∷ no no_variable ∷ []))
    ∷ row "(f) goto made-1 is good, made is 4" (Gives 1 4 0 one (make (bind 0 (pos 7)) ∷ switch (goto 1) ∷ switch (goto 2) ∷ [])
    (ok 1 [] ∷ went 1 0 [] ∷ no no_environment ∷ []))
    ∷ row "(g) two winds to leave with room for two" (Gives 1 4 2 one (make (wind 1 2) ∷ make (wind 3 4) ∷ switch (goto 0) ∷ ask here ∷ [])
    (ok 1 (enters 1 0 ∷ []) ∷ ok 2 (enters 3 1 ∷ []) ∷ went 0 2 (leaves 4 1 ∷ leaves 2 0 ∷ []) ∷ ok 0 [] ∷ []))
    ∷ row "(g) room for one is 7, focus unmoved" (Gives 1 4 1 one (make (wind 1 2) ∷ make (wind 3 4) ∷ switch (goto 0) ∷ ask here ∷ [])
    (ok 1 (enters 1 0 ∷ []) ∷ ok 2 (enters 3 1 ∷ []) ∷ no trace_room ∷ ok 2 [] ∷ []))
    ∷ row "(h) back at the top is 8 even with no room" (Gives 1 4 0 one (switch back ∷ []) (no at_top ∷ []))
    ∷ row "(i) the least value comes back" (Gives 1 4 0 one (make (bind 0 least) ∷ ask (look 0) ∷ []) (ok 1 [] ∷ val least 1 ∷ []))
    ∷ row "(j) peek with both numbers too large is 3" (Gives 1 4 0 one (ask (peek 9 9) ∷ []) (no no_variable ∷ []))
    ∷ row "(k) the card" (Gives 1 4 2 one (make (bind 0 (negsuc 0)) ∷ make (wind 10 11) ∷ make (bind 0 (pos 1)) ∷ switch (goto 0) ∷ switch (goto 3) ∷ ask (look 0) ∷ ask (peek 1 0) ∷ make (bind 0 (pos 5)) ∷ [])
    (ok 1 [] ∷ ok 2 (enters 10 1 ∷ []) ∷ ok 3 [] ∷ went 0 3 (leaves 11 1 ∷ []) ∷ went 3 3 (enters 10 1 ∷ []) ∷ val (pos 1) 3 ∷ val (negsuc 0) 1 ∷ no full ∷ []))
    ∷ row "(l) no top value: 5; bound and looked up; 5 again" (Gives 1 4 0 blank_cell (ask (look 0) ∷ make (bind 0 (pos 3)) ∷ ask (look 0) ∷ switch back ∷ ask (look 0) ∷ [])
    (no no_value ∷ ok 1 [] ∷ val (pos 3) 1 ∷ went 0 1 [] ∷ no no_value ∷ []))
    ∷ []

-- .. and a walk in steps (document 02, W5), with the top value 1, a wind with prelude 10 and postlude 11 below the top and a binding
-- of 5 below that. What a step hands over: 1 for entering or 0 for leaving, and the thunk, with the focus
abbrev hands : ℕ → ℕ → ℕ → ℕ → Said
hands n moves enters thunk = record { numbers = record { code = 0; out = pos n; moves = moves; events = 1; by = none; event = enters; thunk = thunk }; events = [] }

abbrev pub inside : List Call → List Call
inside cs = make (wind 10 11) ∷ make (bind 0 (pos 5)) ∷ cs

abbrev pub walk_table : List Case
walk_table =
    row "(W5) out: the wind is left, then its postlude runs; done at the second step; no third"
    (Gives 1 4 1 one (inside (stride (begin 0) ∷ stride step ∷ ask (look 0) ∷ stride step ∷ stride step ∷ []))
    (ok 1 (enters 10 0 ∷ []) ∷ ok 2 [] ∷ ok 2 [] ∷ hands 0 2 0 11 ∷ val (pos 1) 0 ∷ ok 0 [] ∷ no not_walking ∷ []))
    ∷ row "(W5) in: the prelude runs before the wind is entered; a set there is the top's"
    (Gives 1 4 1 one (inside (switch (goto 0) ∷ stride (begin 2) ∷ stride step ∷ set 0 (pos 9) ∷ stride step ∷ ask (look 0) ∷ ask (peek 0 0) ∷ []))
    (ok 1 (enters 10 0 ∷ []) ∷ ok 2 [] ∷ went 0 2 (leaves 11 0 ∷ []) ∷ ok 0 [] ∷ hands 0 0 1 10 ∷ ok 0 [] ∷ went 2 2 [] ∷ val (pos 5) 2 ∷ val (pos 9) 0 ∷ []))
    ∷ row "(W5) during a walk bind, goto, back and a second begin are 10; dropped, it stays there"
    (Gives 1 4 1 one (inside (stride (begin 0) ∷ stride step ∷ make (bind 9 (pos 0)) ∷ switch (goto 9) ∷ switch back ∷ stride (begin 9) ∷ stride drop ∷ stride drop ∷ stride (begin 9) ∷ []))
    (ok 1 (enters 10 0 ∷ []) ∷ ok 2 [] ∷ ok 2 [] ∷ hands 0 2 0 11 ∷ no walking ∷ no walking ∷ no walking ∷ no walking ∷ ok 0 [] ∷ no not_walking ∷ no no_environment ∷ []))
    ∷ []
