-- What is done to the lent part is done to the node's record in the store (`lent_at`).
use Rattle.layout.proofs.Bytes.{lent_at}
use Rattle.layout.specs.Records.{with_node, node_of, turn_n}
use Rattle.store.proofs.records.turn_at.Goals as goal

pub returns : goal.returns
unfolding with_node node_of
returns c =
    let k = c.args.k in
    lent_at (λ p. turn_n p k) _ _ _ _ _ c.node_at-a.ensures c.turn_node.ensures
