-- A switch on bytes, told before it is made: its moves, its events, and where the way of the target to the top meets that of
-- the focus. Assumes nothing: these are definitions.
use Rattle.std.specs.Prelude.{◌≡◌, ◌⊎◌, true, cond, ℕ, ◌+◌, ◌*◌, List, [], ◌∷◌, ◌++◌, length}
use Rattle.std.proofs.Math.Option.{none}
use Rattle.rules.specs.Basic.{on}
use Rattle.rules.specs.Tree.{Tree, path}
use Rattle.rules.specs.Far.{far}
use Rattle.rules.specs.Moves.{Event, left, entered, event_of}
use Rattle.layout.specs.Limits.{event_size}
use Rattle.layout.specs.Bytes.{splice}
use Rattle.layout.specs.Records.{focus}
use Rattle.layout.specs.View.{view}
use Rattle.layout.specs.Events.{events_b, events_to}
use Rattle.layout.specs.Made.{IsMade}

-- how many moves from the environment g to a, and from the focus to a
abbrev pub moves_from : List ℕ → ℕ → ℕ → ℕ
moves_from s g a = far (view s).tree g a

abbrev pub moves_to : List ℕ → ℕ → ℕ
moves_to s a = moves_from s (focus s) a

-- the events of leaving and of entering the node n: one for a wind, else none
abbrev pub left_events : List ℕ → ℕ → List Event
left_events s n = event_of (view s).tree (left n)

abbrev pub entered_events : List ℕ → ℕ → List Event
entered_events s n = event_of (view s).tree (entered n)

-- the first of p that is on q, else the top
abbrev pub first_on : List ℕ → List ℕ → ℕ
first_on [] q = 0
first_on (n ∷ p) q = cond (on n q) n (first_on p q)

-- the first node from a up, a itself first, that is on the way from f to the top, else the top
unfoldable pub meet : Tree → ℕ → ℕ → ℕ
meet t f a = first_on (path t a) (path t f)

abbrev pub meeting : List ℕ → ℕ → ℕ
meeting s a = meet (view s).tree (focus s) a

-- m is the top, or on the way from g to the top
abbrev pub Over : Tree → ℕ → ℕ → Type 0
Over t m g = (t.up m ≡ none) ⊎ (on m (path t g) ≡ true)

-- an environment that the focus's way goes through
pub record OnWay (s : List ℕ) (m : ℕ) : Type 0 where
  pub made : IsMade s m
  pub over : Over (view s).tree m (focus s)

-- a climb from the target a has come to c, over nodes that are out: so many moves and events lie behind it
pub record Climbing (s : List ℕ) (a c moves events : ℕ) : Type 0 where
  pub made : IsMade s c
  pub moved : moves + moves_to s c ≡ moves_to s a
  pub told : events + length (events_to s c) ≡ length (events_to s a)
  pub same : meeting s c ≡ meeting s a

-- ---- events in the trace
-- the trace t with the events es from the number k on
unfoldable pub told_at : ℕ → List Event → List ℕ → List ℕ
told_at k es t = splice t (event_size * k) (event_size * length es) (events_b es)

-- the entering events down to a, told backward as far as c
pub record Entering (s : List ℕ) (a c e : ℕ) (t₀ t : List ℕ) : Type 0 where
  pub made : IsMade s c
  pub same : meeting s c ≡ meeting s a
  pub rest : List Event
  pub all : events_to s a ≡ events_to s c ++ rest
  pub count : e ≡ length (events_to s c)
  pub bytes : t ≡ told_at e rest t₀
