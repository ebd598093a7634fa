-- The events told so far, and those that remain from where the climb is to the meeting point, are together the events to be told.
use Rattle.std.proofs.Common.{◌≡◌}
use Rattle.layout.proofs.TellLaws.{Leaving}
use Rattle.store.proofs.trace.tell_leaving.Given as goal

abbrev pub invariant-loop-n : goal.invariant-loop-n
invariant-loop-n l =
    (goal.iterator-loop-n).can_next l.n-iterator × (goal.iterator-loop-n).is_finite l.n-iterator
    × (l.n-iterator.s.now ≡ l.s) × (l.n-iterator.end ≡ l.meet) × Leaving l.s l.meet l.n-iterator.at l.e l.initial.t l.t
