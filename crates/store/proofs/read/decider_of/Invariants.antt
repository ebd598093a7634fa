-- Every node passed binds another variable or none, so the decider where the climb is is the decider at a.
use Rattle.std.proofs.Common.{◌≡◌}
use Rattle.rules.specs.Calls.{decider_at}
use Rattle.layout.specs.View.{view}
use Rattle.layout.specs.Made.{IsMade}
use Rattle.store.proofs.read.decider_of.Given as goal

abbrev pub invariant-loop-n : goal.invariant-loop-n
invariant-loop-n l =
    (goal.iterator-loop-n).can_next l.n-iterator × (goal.iterator-loop-n).is_finite l.n-iterator
    × (l.n-iterator.s.now ≡ l.s) × (l.n-iterator.end ≡ 0) × IsMade l.s l.n-iterator.at × (decider_at (view l.s).tree l.n-iterator.at l.x ≡ decider_at (view l.s).tree l.a l.x)
