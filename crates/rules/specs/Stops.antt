-- Where a step of a walk stops, and what it hands over there: its moves and its event are the first of those that are left.
-- From document 02, W5; the way to the target is `Way`'s. Assumes nothing.
use Rattle.std.specs.Prelude.{◌≡◌, ◌≢◌, ℕ, ◌≤◌}
use Rattle.std.proofs.Math.Option.{Option, none, some}
use mathlib.Core.List.{List, [], ◌∷◌, ◌++◌}
use Rattle.std.proofs.Math.ListN.{length}
use Rattle.rules.specs.Tree.{blank, Tree}
use Rattle.rules.specs.Moves.{Move, left, entered, route, Event, event_of, trace}
use Rattle.rules.specs.Leg.{Leg, end_of, Handed}

-- ---- the events that are still to be handed over
abbrev pub owed : Tree → ℕ → ℕ → Option ℕ → List Event
owed t f a none = trace t (route t f a)
owed t f a (some c) = trace t (route t c a)

abbrev pub AllAt : ℕ → List Event → Type 0
AllAt g [] = Unit {0}
AllAt g (e ∷ es) = (e.place ≡ g) × AllAt g es

-- what a leg that ends at g hands over: nothing; or the postlude of a wind that its last move left; or the prelude of a wind
-- that it did not enter. Both winds are children of g
pub data Hands (t : Tree) (g : ℕ) (l : Leg) : Type 0 where
  nothing : l.events ≡ [] → l.handed ≡ none → Hands t g l
  leaving : (n : ℕ) (pre : List Move) → t.up n ≡ some g → l.events ≡ event_of t (left n) → l.moves ≡ pre ++ left n ∷ [] → l.handed ≡ none → Hands t g l
  entering : (n : ℕ) → t.up n ≡ some g → l.events ≡ event_of t (entered n) → l.handed ≡ some n → Hands t g l

-- a leg from f towards a, that ends at g
pub record Stepped (t : Tree) (f a : ℕ) (h : Option ℕ) (l : Leg) (g : ℕ) : Type 0 where
  pub ends : end_of t f l.moves ≡ g
  pub made : t.what g ≢ blank
  -- its moves are the first of the way, and its event the first of those owed
  pub joins : route t f a ≡ l.moves ++ route t g a
  pub owes : owed t f a h ≡ l.events ++ owed t g a l.handed
  pub one : length l.events ≤ 1
  pub places : AllAt g l.events
  pub hands : Hands t g l
  pub sound : Handed t g a l.handed
  -- with no event to hand over it has arrived
  pub arrives : l.events ≡ [] → (g ≡ a) × (l.handed ≡ none)
