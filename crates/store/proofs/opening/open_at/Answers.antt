-- Header, cells and nodes are each put in their place of the whole; the three in a row are the opened store.
use mathlib.Core.Path.{◌≡◌, ap, ◌∙◌}
use mathlib.Core.List.{◌++◌}
use Prim.Native.Nat.{◌-◌, ◌*◌}
use native.Mathlib.Omega.{arith}
use lib.ListN.{length, take, drop}
use Rattle.layout.specs.Limits.{node_size, cell_at}
use Rattle.layout.specs.Bytes.{splice}
use Rattle.layout.specs.Records.{with_cells, with_nodes}
use Rattle.layout.specs.Writes.{cells_b, nodes_b}
use Rattle.layout.proofs.PlaceLaws.{written}
use Rattle.store.proofs.opening.open_at.Goals as goal

pub returns : goal.returns
unfolding with_nodes splice
returns c =
    let s = c.args.s.now in
    let tops = c.args.tops.now in
    let v = c.args.v in
    let n = c.args.n in
    let node = c.put_nodes in
    let cell = c.put_cells in
    let a = c.size_of-a.result in
    let k = c.size_of-e.result - a in
    let at : a ≡ cell_at v = omega arith in
    let count : k ≡ node_size * n = omega arith in
    let long : length (take k (drop a cell.new.s)) ≡ node_size * n = omega arith in
    let nodes = node.ensures ∙ ap nodes_b long in
    (λ i. take (at i) (cell.ensures i) ++ (nodes i ++ drop (count i) (drop (at i) (cell.ensures i))))
    ∙ ap (λ t. with_nodes (with_cells t v (cells_b v tops)) v n (nodes_b (node_size * n))) c.put_head.ensures
    ∙ written s tops v n
