-- No wind was passed on the way up from the focus.
use Rattle.std.proofs.Common.{◌≡◌}
use Rattle.layout.proofs.StopLaws.{Below}
use Rattle.store.proofs.stride.first_left.Given as goal

abbrev pub invariant-loop-n : goal.invariant-loop-n
invariant-loop-n l =
    (goal.iterator-loop-n).can_next l.n-iterator × (goal.iterator-loop-n).is_finite l.n-iterator
    × (l.n-iterator.s.now ≡ l.s) × (l.n-iterator.end ≡ l.meet) × Below l.s l.meet l.n-iterator.at
