-- The loop's invariant: so many bytes have been read, and their number is v. Assumes nothing.
use Rattle.std.proofs.Common.{◌≤◌}
use Rattle.text.proofs.Reading.{Sofar}
use Rattle.text.proofs.decimal.read_natural.Given as goal

abbrev pub invariant-loop-b : goal.invariant-loop-b
invariant-loop-b l = Sofar l.s l.v l.b-index × (l.v ≤ l.most)
