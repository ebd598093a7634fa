-- A step of a walk, as the code takes it (document 02, W5): the first wind on the focus's way up to the meeting point is left; where
-- there is none, the outermost wind on the target's way down from there is to be entered; else the target is reached. Parts of a step
-- one after the other, with the moves made and the walk's two numbers, and what the step leaves. Assumes nothing: these are definitions.
use Rattle.std.specs.Prelude.{◌≡◌, ℕ, List, [], ◌∷◌, ◌++◌, Option, None, Some, IfSome}
use Rattle.std.proofs.Math.Option as maybe
use Rattle.rules.specs.Tree.{Tree}
use Rattle.rules.specs.Moves.{Move, entered, Moves, Event, route, trace, is_wind}
use Rattle.rules.specs.Leg.{Leg, up_to}
use Rattle.layout.specs.Limits.{none_n}
use Rattle.layout.specs.Records as records
use Rattle.layout.specs.Records.{focus, target, handed, parent_n}
use Rattle.layout.specs.View.{view, or_none}
use Rattle.layout.specs.Sound.{Whole}
use Rattle.layout.specs.Made.{IsMade}
use Rattle.layout.specs.Becomes.{Sized}
use Rattle.layout.specs.Routes.{meeting}

-- s became t by the moves ms, with the target a and the wind c in the header
pub record Moved (s t : List ℕ) (ms : List Move) (a c : ℕ) : Type 0 where
  pub whole : Whole t
  pub size : Sized s t
  pub moves : Moves (view s) ms (view t)
  pub target : target t ≡ a
  pub handed : handed t ≡ c

-- ---- the wind whose entering was handed over is entered, if there is one
abbrev pub enters_first : maybe.Option ℕ → List Move
enters_first maybe.none = []
enters_first (maybe.some c) = entered c ∷ []

-- s became u by the leg l
pub data Goes (s u : List ℕ) (l : Leg) : Type 0 where
  goes_on_lem : (c : ℕ) (e : Event) → l.events ≡ e ∷ [] → l.handed ≡ or_none c → Moved s u l.moves (target s) c → Goes s u l
  arrives : l.events ≡ [] → Moved s u l.moves none_n none_n → Goes s u l

abbrev pub leg_from : List ℕ → ℕ → Leg
leg_from s a = up_to (view s).tree (route (view s).tree (focus s) a)

-- the wind w, left or entered, is the first of the moves ms
pub record WindAt (t : Tree) (move : ℕ → Move) (ms : List Move) (w : ℕ) : Type 0 where
  pub pre : List Move
  pub post : List Move
  pub split : ms ≡ pre ++ move w ∷ post
  pub quiet : trace t pre ≡ []
  pub wind : is_wind (t.what w) ≡ 1

-- the first wind of the moves ms, where it is left or entered, if there is one
abbrev pub FirstWind : Tree → (ℕ → Move) → List Move → Option ℕ → Type 0
FirstWind t move ms None = trace t ms ≡ []
FirstWind t move ms (Some w) = WindAt t move ms w

-- where the focus is when the wind w's event is due: at its parent
abbrev pub place_of : List ℕ → ℕ → ℕ
place_of s w = parent_n (records.node_of s w)

-- a step may stop at the wind w's parent, whose way meets the focus's at m
pub record StopsAt (s : List ℕ) (w m : ℕ) : Type 0 where
  pub made : IsMade s (place_of s w)
  pub met : meeting s (place_of s w) ≡ m

-- the climb from the target a has come to c, over nodes that are out; o is the last wind passed, if there was one
pub record Above (s : List ℕ) (a c : ℕ) (o : Option ℕ) : Type 0 where
  pub made : IsMade s c
  pub same : meeting s c ≡ meeting s a
  pub passed : List Move
  pub way : route (view s).tree (focus s) a ≡ route (view s).tree (focus s) c ++ passed
  pub first : FirstWind (view s).tree entered passed o
  pub stop : IfSome o (λ w. StopsAt s w (meeting s a))
