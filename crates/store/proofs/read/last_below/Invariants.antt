-- What is left of the climb, with what was seen, gives what the whole climb gives.
use Rattle.std.proofs.Common.{◌≡◌}
use Rattle.layout.proofs.Reading.{Seeks}
use Rattle.store.proofs.read.last_below.Given as goal

abbrev pub invariant-loop-n : goal.invariant-loop-n
invariant-loop-n l =
    (goal.iterator-loop-n).can_next l.n-iterator × (goal.iterator-loop-n).is_finite l.n-iterator
    × (l.n-iterator.s.now ≡ l.s) × (l.n-iterator.end ≡ l.stop) × Seeks l.s l.stop l.x l.n-iterator.at l.seen
