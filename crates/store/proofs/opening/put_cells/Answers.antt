use Rattle.std.proofs.Common.{◌∙◌, arith}
use Rattle.layout.specs.Records.{with_cell, whole_c}
use Rattle.layout.proofs.PlaceLaws.{cells_none, cells_more}
use Rattle.store.proofs.opening.put_cells.Goals as goal

pub loop-x-init : goal.loop-x-init
loop-x-init c = cells_none _ c.args.tops.now

pub loop-x-preserved : goal.loop-x-preserved
loop-x-preserved c =
    let args = c.args in
    let x = c.loop-x.x in
    c.new_cell.ensures
    ∙ (λ i. with_cell (c.loop-x.invariant i) x (whole_c (c.top_cell.ensures i)))
    ∙ cells_more args.s.now args.tops.now x (omega arith)
