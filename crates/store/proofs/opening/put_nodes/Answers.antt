-- The bytes are cleared, and the first node becomes the top: the rest are blanks.
use mathlib.Core.Path.{◌≡◌, sym, ap, ◌∙◌}
use mathlib.Core.List.{List}
use Prim.Native.Nat.{ℕ, ◌+◌, ◌-◌, ◌≤◌}
use native.Mathlib.Omega.{arith}
use lib.ListN.{set, replicate, replicate-append-replicate}
use Rattle.layout.specs.Limits.{node_size}
use Rattle.layout.specs.Records.{turn_n, top_node}
use Rattle.layout.specs.Writes.{nodes_b}
use Rattle.store.proofs.opening.put_nodes.Goals as goal

written : (n : ℕ) → node_size ≤ n → turn_n (replicate n 0) 1 ≡ nodes_b n
unfolding turn_n nodes_b top_node
written n h =
    let e : n ≡ node_size + (n - node_size) = omega arith in
    ap (λ (m : ℕ). set (replicate m 0) 0 1) e
    ∙ ap (λ (p : List ℕ). set p 0 1) (sym (replicate-append-replicate node_size (n - node_size) 0))

pub returns : goal.returns
returns c =
    let cleared = c.fill.ensures.after (λ y e. e) in
    c.turn_node.ensures ∙ ap (λ p. turn_n p 1) cleared ∙ written _ c.requires
