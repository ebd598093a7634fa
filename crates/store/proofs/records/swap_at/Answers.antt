-- What is done to the lent part is done to the node's record in the store (`lent_at`).
use mathlib.Core.Path.{ap, ◌∙◌}
use Rattle.layout.proofs.Bytes.{seen_at, lent_at}
use Rattle.layout.specs.Records.{with_node, node_of, stored_n, swap_n}
use Rattle.store.proofs.records.swap_at.Goals as goal

pub returns : goal.returns
unfolding with_node node_of
returns c =
    let args = c.args in
    let at = c.node_at-a.ensures in
    let e = c.swap_node.ensures in
    (e.0 ∙ ap stored_n (seen_at _ _ _ _ at), lent_at (λ p. swap_n p args.k args.c) _ _ _ _ _ at e.1)
