-- `look` keeps its promise: the cell of x shows the value at the focus, and the climb from there finds its decider. Assumes nothing.
use mathlib.Core.Path.{ap, ◌∙◌}
use mathlib.Core.List.{List}
use Prim.Native.Nat.{ℕ}
use native.Mathlib.Omega.{arith}
use Rattle.layout.specs.Records.{bare_c, cell_of}
use Rattle.layout.specs.View.{as_cell}
use Rattle.layout.proofs.SoundLaws.{sound_fit}
use Rattle.layout.proofs.WalkLaws.{focus_made}
use Rattle.store.specs.Cells.{of_cell}
use Rattle.store.proofs.Keeps.{handed_on, look_damaged, look_unknown, look_shown}
use Rattle.store.proofs.look.Goals as goal

pub returns-in_err-sound : goal.returns-in_err-sound
returns-in_err-sound c = let (e, applies) = c.in_err-sound.ensures in rw (handed_on c.from_residual.result c.from_residual.ensures e) (look_damaged _ _ applies)

pub returns-in_err-y : goal.returns-in_err-y
returns-in_err-y c = let (e, applies) = c.in_err-y.ensures in rw (handed_on c.from_residual-in_err-y.result c.from_residual-in_err-y.ensures e) (look_unknown _ _ c.in_ok-sound.ensures applies)

pub decider_of-by-requires : goal.decider_of-by-requires
decider_of-by-requires c = let whole = c.in_ok-sound.ensures.whole in (whole, rw c.focus_of-f.ensures (focus_made _ whole))

pub cell-requires : goal.cell-requires
cell-requires c = (sound_fit _ c.in_ok-sound.ensures.whole, omega (arith, c.in_ok-y.ensures.0, c.in_ok-y.ensures.1))

pub returns : goal.returns
returns c =
    let s = c.args.s.now in
    let (x-is, known) = c.in_ok-y.ensures in
    let by = c.decider_of-by in
    let cell = c.answered.ensures ∙ ap (λ (b : List ℕ). of_cell (as_cell b) by.result) (c.bare_of.ensures ∙ ap bare_c (c.cell.ensures ∙ ap (cell_of s) x-is)) in
    rw cell (look_shown _ _ c.in_ok-sound.ensures known by.result (rw (c.focus_of-f.ensures, x-is) at by.ensures.0))
