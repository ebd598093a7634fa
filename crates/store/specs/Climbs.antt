-- A climb from an environment up to another on its path, state by state. Assumes nothing: these are definitions.
use Rattle.std.specs.Prelude.{◌≡◌, ◌≢◌, ℕ, Option, MatchOption}
use Rattle.std.specs.Iterator.{Count, at_most}
use Rattle.layout.specs.View.{view}
use Rattle.layout.specs.Sound.{Whole}
use Rattle.layout.specs.Made.{IsMade}
use Rattle.layout.specs.Legs.{place_of}
use Rattle.layout.specs.Routes.{OnWay, Over, moves_from}
use Rattle.store.specs.declared.path.Way.{Way}

-- a climb may go on while its end lies on the way
abbrev pub Climbs : Way → Type 0
Climbs w = Whole w.s.now × (IsMade w.s.now w.at × (OnWay w.s.now w.end × Over (view w.s.now).tree w.end w.at))

-- it gives the environment where it is, and goes to the parent, up to its end
abbrev pub Gives : Way → Option ℕ → Way → Type 0
Gives w r v =
    (v.s.now ≡ w.s.now) × (v.end ≡ w.end) × MatchOption r (w.at ≡ w.end) (λ n. (n ≡ w.at) × (n ≢ w.end) × (v.at ≡ place_of w.s.now n))

abbrev pub ahead : Way → Count
ahead w = at_most (moves_from w.s.now w.at w.end)
