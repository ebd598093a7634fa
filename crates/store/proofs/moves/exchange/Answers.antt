-- `exchange` meets its contract: the chain of its calls is `swap_b`.
use mathlib.Core.Path.{ap, ◌∙◌}
use mathlib.Core.List.{List}
use Prim.Native.Nat.{ℕ}
use native.Mathlib.Omega.{arith}
use Rattle.layout.specs.Records.{cell_of, with_cell, bare_c, put_c, node_of, with_node, swap_n}
use Rattle.layout.specs.Writes.{swap_b}
use Rattle.layout.proofs.WalkLaws.{swapped_fits}
use Rattle.store.proofs.moves.exchange.Goals as goal

pub set_cell-requires : goal.set_cell-requires
set_cell-requires c =
    let k = swapped_fits _ _ _ _ _ c.requires.0 c.requires.1.0 c.swap_at-d.ensures.1 in
    (k.0, omega arith)

pub returns : goal.returns
unfolding swap_b
returns c =
    let s = c.args.s.now in
    let n = c.args.n in
    let x = c.var_of-x.ensures in
    let was = c.bare_of-c.ensures ∙ ap bare_c (c.cell.ensures ∙ ap (cell_of s) x) in
    let t = c.swap_at-d.ensures.1 ∙ ap (λ (d : List ℕ). with_node s n (swap_n (node_of s n) c.args.k d)) was in
    let d = c.swap_at-d.ensures.0 in
    c.set_cell.ensures ∙ (λ i. with_cell (t i) (x i) (put_c (cell_of (t i) (x i)) (d i)))
