-- The chunk with the number n behind the cells is the node's record.
use Rattle.std.proofs.Common.{◌≡◌, ◌+◌, ◌*◌, ◌∙◌, ap, [], ℕ, arith}
use Rattle.layout.proofs.Bytes.{seen_chunk}
use Rattle.layout.specs.Bytes.{part}
use Rattle.layout.specs.Limits.{node_size, node_at}
use Rattle.layout.specs.Records.{vars, node_of}
use Rattle.store.proofs.records.node.Goals as goal

pub returns : goal.returns
unfolding node_of
returns c =
    let s = c.args.s.now in
    let at : c.node_at.result + node_size * c.args.n ≡ node_at (vars s) c.args.n = omega (arith, c.node_at.ensures) in
    rw (c.as_chunks.ensures.front, c.from.ensures)
    (seen_chunk s c.node_at.result node_size _ c.args.n [] (omega arith) ∙ ap (λ (a : ℕ). part s a node_size) at)
