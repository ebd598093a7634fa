-- `grow` meets its contract: the chain of its calls is `grow_b`.
use Rattle.std.proofs.Common.{◌≡◌, ◌∙◌, ◌+◌, arith}
use Rattle.layout.specs.Records.{with_focus, with_made, with_node, node_b}
use Rattle.layout.specs.Made.{next_of}
use Rattle.layout.specs.Writes.{depth_under, grow_b}
use Rattle.layout.proofs.SoundLaws.{sound_fit}
use Rattle.layout.proofs.WalkLaws.{made_room, focus_made}
use Rattle.layout.proofs.GrowLaws.{space_left, under_is, under_small}
use Rattle.store.proofs.made.grow.Goals as goal

pub depth_of-depth-requires : goal.depth_of-depth-requires
depth_of-depth-requires c =
    let ok = c.requires.0 in
    rw c.focus_of-parent.ensures (sound_fit _ ok, made_room _ ok _ (focus_made _ ok))

pub overflow_add-depth : goal.overflow_add-depth
overflow_add-depth c =
    let depth : c.depth_of-depth.result + 1 ≡ depth_under c.args.s.now =
    under_is _ c.requires.0 _ _ c.focus_of-parent.ensures c.depth_of-depth.ensures in
    record { fits = omega (arith, depth, under_small _ c.requires.0) }

pub set_node-requires : goal.set_node-requires
unfolding next_of
set_node-requires c =
    let (ok, space) = c.requires in
    (sound_fit _ ok, rw c.next_of-n.ensures (space_left _ ok space))

pub overflow_add-n : goal.overflow_add-n
unfolding next_of
overflow_add-n c =
    let (ok, space) = c.requires in
    record { fits = omega (arith, c.next_of-n.ensures, space_left _ ok space, (sound_fit _ ok).n) }

pub returns : goal.returns
unfolding grow_b next_of
returns c =
    let depth : c.depth_of-depth.result + 1 ≡ depth_under c.args.s.now =
    under_is _ c.requires.0 _ _ c.focus_of-parent.ensures c.depth_of-depth.ensures in
    let args = c.args in
    let n = c.next_of-n.ensures in
    let f = c.focus_of-parent.ensures in
    let t = c.set_node.ensures ∙ (λ i. with_node args.s.now (n i) (node_b args.kind (f i) args.var args.post args.cell (depth i))) in
    let u = c.set_made.ensures ∙ (λ i. with_made (t i) (n i + 1)) in
    (n, c.set_focus.ensures ∙ (λ i. with_focus (u i) (n i)))
