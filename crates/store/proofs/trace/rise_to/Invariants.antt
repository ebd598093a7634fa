-- What lies behind the climb and what remains up to the meeting point are together what the focus has.
use Rattle.std.proofs.Common.{◌≡◌}
use Rattle.layout.proofs.RouteLaws.{Rising}
use Rattle.store.proofs.trace.rise_to.Given as goal

abbrev pub invariant-loop-n : goal.invariant-loop-n
invariant-loop-n l =
    (goal.iterator-loop-n).can_next l.n-iterator × (goal.iterator-loop-n).is_finite l.n-iterator
    × (l.n-iterator.s.now ≡ l.s) × (l.n-iterator.end ≡ l.meet) × Rising l.s l.meet l.n-iterator.at l.moves l.events
