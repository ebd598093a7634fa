-- The lent part becomes the cell's record in the store (`lent_at`).
use Rattle.layout.proofs.Bytes.{lent_at}
use Rattle.layout.specs.Records.{with_cell, whole_c}
use Rattle.store.proofs.records.new_cell.Goals as goal

pub returns : goal.returns
unfolding with_cell
returns c =
    let c' = c.args.c in
    lent_at (λ p. whole_c c') _ _ _ _ _ c.cell_at-a.ensures c.put_cell.ensures
