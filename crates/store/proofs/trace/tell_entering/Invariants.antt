-- The events to be told are those that remain up to where the climb is, and then those told so far.
use Rattle.std.proofs.Common.{◌≡◌}
use Rattle.layout.specs.Routes.{Entering}
use Rattle.store.proofs.trace.tell_entering.Given as goal

abbrev pub invariant-loop-n : goal.invariant-loop-n
invariant-loop-n l =
    (goal.iterator-loop-n).can_next l.n-iterator × (goal.iterator-loop-n).is_finite l.n-iterator
    × (l.n-iterator.s.now ≡ l.s) × (l.n-iterator.end ≡ l.meet) × Entering l.s l.a l.n-iterator.at l.e l.initial.t l.t
