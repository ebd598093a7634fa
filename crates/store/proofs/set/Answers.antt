-- `set` keeps its promise: the cell shows whether x has a value at the focus, and takes the new one. Assumes nothing.
use mathlib.Core.Path.{◌≡◌, refl, ap, ◌∙◌}
use mir.Syntax.{w32}
use mir.ValLaws.{to_z-of_z}
use native.Mathlib.Omega.{arith}
use Rattle.layout.specs.Records.{bare_c, cell_of}
use Rattle.layout.proofs.SoundLaws.{sound_fit}
use Rattle.store.proofs.Keeps.{handed_on, set_damaged, set_unknown, set_unbound, set_done_keeps}
use Rattle.store.proofs.set.Goals as goal

pub returns-in_err-sound : goal.returns-in_err-sound
returns-in_err-sound c = let (e, applies) = c.in_err-sound.ensures in rw (handed_on c.from_residual.result c.from_residual.ensures e) (set_damaged _ _ _ applies)

pub returns-in_err-y : goal.returns-in_err-y
returns-in_err-y c = let (e, applies) = c.in_err-y.ensures in rw (handed_on c.from_residual-in_err-y.result c.from_residual-in_err-y.ensures e) (set_unknown _ _ _ c.in_ok-sound.ensures applies)

pub cell-requires : goal.cell-requires
cell-requires c = (sound_fit _ c.in_ok-sound.ensures.whole, omega (arith, c.in_ok-y.ensures.0, c.in_ok-y.ensures.1))

pub returns-in_err-value : goal.returns-in_err-value
returns-in_err-value c =
    let (e, applies) = c.in_err-value.ensures in
    let shown : c.bare_of.result ≡ bare_c (cell_of c.args.s.now c.args.x) = c.bare_of.ensures ∙ ap bare_c (c.cell.ensures ∙ ap (cell_of c.args.s.now) c.in_ok-y.ensures.0) in
    rw (handed_on c.from_residual-in_err-value.result c.from_residual-in_err-value.ensures e) (set_unbound _ _ _ c.in_ok-sound.ensures c.in_ok-y.ensures.1 (rw shown at applies))

pub returns : goal.returns
returns c =
    let (x-is, known) = c.in_ok-y.ensures in
    let shown : c.bare_of.result ≡ bare_c (cell_of c.args.s.now c.args.x) = c.bare_of.ensures ∙ ap bare_c (c.cell.ensures ∙ ap (cell_of c.args.s.now) x-is) in
    let e = c.set_at.ensures in
    rw (e.0, e.1, x-is, to_z-of_z w32 c.args.v c.ranges.v) (set_done_keeps _ _ _ c.in_ok-sound.ensures known (rw shown at c.in_ok-value.ensures) c.ranges.v _ refl)
