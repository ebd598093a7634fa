-- `set_at` writes the cell of x, and no other byte. Assumes nothing.
use mathlib.Core.List.{List}
use Prim.Native.Nat.{ℕ}
use mathlib.Core.Path.{◌∙◌}
use mir.Syntax.{w32}
use mir.ValLaws.{to_z-of_z}
use Rattle.layout.specs.Records.{with_cell, cell_of, put_c, value_c}
use mathlib.Core.Path.{ap}
use Rattle.layout.specs.Writes.{set_b}
use Rattle.layout.proofs.SoundLaws.{sound_fit}
use Rattle.promises.specs.declared.Answer.TheVariants.{Number}
use Rattle.store.proofs.set_at.Goals as goal

pub set_cell-requires : goal.set_cell-requires
set_cell-requires c = (sound_fit _ c.requires.0, c.requires.1)

pub returns : goal.returns
unfolding set_b
returns c =
    let s = c.args.s.now in
    let x = c.args.x in
    let same = to_z-of_z w32 c.args.v c.ranges.v in (
      ap Number c.focus_of-f.ensures,
      c.set_cell.ensures ∙ ap (λ (d : List ℕ). with_cell s x (put_c (cell_of s x) d)) (c.value_cell.ensures ∙ ap value_c same),
    )
