-- After x turns the first x cells are new and the rest is as it was.
use Rattle.std.proofs.Common.{◌≡◌}
use Rattle.layout.specs.Records.{with_cells}
use Rattle.layout.specs.Writes.{cells_b}
use Rattle.store.proofs.opening.put_cells.Given as goal

abbrev pub invariant-loop-x : goal.invariant-loop-x
invariant-loop-x l = l.s ≡ with_cells l.initial.s l.x (cells_b l.x l.tops)
