-- What is done to the lent part is done to the node's record in the store (`lent_at`).
use Rattle.std.proofs.Common.{◌∙◌}
use Rattle.layout.proofs.Bytes.{lent_at}
use Rattle.layout.specs.Records.{with_node, node_b}
use Rattle.store.proofs.records.set_node.Goals as goal

pub returns : goal.returns
unfolding with_node
returns c =
    let p = c.args.p in
    lent_at (λ q. node_b p.kind p.parent p.var p.post p.cell p.depth) _ _ _ _ _ c.node_at-a.ensures (c.copy_from_slice.ensures.after ∙ c.node_bytes.ensures)
