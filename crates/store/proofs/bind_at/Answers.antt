-- `bind_at` writes a binding that stores the cell of its variable, and then the cell. Assumes nothing.
use mathlib.Core.List.{List}
use mathlib.Core.Path.{◌∙◌}
use mir.Syntax.{w32}
use mir.ValLaws.{to_z-of_z}
use Rattle.layout.specs.Records.{focus, bare_c, value_c, node_b}
use Rattle.layout.specs.Writes.{depth_under, grow_b}
use Prim.Native.Nat.{ℕ}
use mathlib.Core.Path.{ap}
use native.Mathlib.Omega.{arith}
use Rattle.layout.specs.Writes.{set_b, bind_b}
use Rattle.layout.proofs.RecordLaws.{node_length}
use Rattle.layout.proofs.SoundLaws.{sound_fit}
use Rattle.layout.proofs.GrowLaws.{grown_fit, grown_vars}
use Rattle.promises.specs.declared.Answer.TheVariants.{Made}
use Rattle.store.proofs.bind_at.Goals as goal

pub cell-requires : goal.cell-requires
cell-requires c = (sound_fit _ c.requires.0, c.requires.1.0)

pub set_cell-requires : goal.set_cell-requires
set_cell-requires c =
    let s = c.args.s.now in
    let p = node_b 3 (focus s) c.args.x 0 c.bare_of-c.result (depth_under s) in
    let long = node_length 3 (focus s) c.args.x 0 c.bare_of-c.result (depth_under s) in
    rw c.grow-n.ensures.1 (grown_fit s c.requires.0 c.requires.1.1 p long, omega (arith, c.requires.1.0, grown_vars s c.requires.0 c.requires.1.1 p long))

pub returns : goal.returns
unfolding bind_b set_b
returns c =
    let s = c.args.s.now in
    let x = c.args.x in
    let bare = c.bare_of-c.ensures ∙ ap bare_c c.cell.ensures in
    let node = c.grow-n.ensures.1 ∙ ap (λ (d : List ℕ). grow_b s (node_b 3 (focus s) x 0 d (depth_under s))) bare in
    let new = c.value_cell.ensures ∙ ap value_c (to_z-of_z w32 c.args.v c.ranges.v) in (
      ap (λ (n : ℕ). Made (record { node = n; events = 0 })) c.grow-n.ensures.0,
      c.set_cell.ensures ∙ rw (node, new),
    )
