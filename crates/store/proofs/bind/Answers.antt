-- `bind` keeps its promise: refused row by row, else the bytes are those of a new binding. Assumes nothing.
use mathlib.Core.Path.{refl}
use mir.Syntax.{w32}
use mir.ValLaws.{to_z-of_z}
use Rattle.store.proofs.Keeps.{handed_on, bind_damaged, bind_walking, bind_unknown, bind_full, bind_done}
use Rattle.store.proofs.bind.Goals as goal

pub returns-in_err-sound : goal.returns-in_err-sound
returns-in_err-sound c = let (e, applies) = c.in_err-sound.ensures in rw (handed_on c.from_residual.result c.from_residual.ensures e) (bind_damaged _ _ _ applies)

pub returns-in_err-rest : goal.returns-in_err-rest
returns-in_err-rest c = let (e, applies) = c.in_err-rest.ensures in rw (handed_on c.from_residual-in_err-rest.result c.from_residual-in_err-rest.ensures e) (bind_walking _ _ _ c.in_ok-sound.ensures applies)

pub returns-in_err-y : goal.returns-in_err-y
returns-in_err-y c = let (e, applies) = c.in_err-y.ensures in rw (handed_on c.from_residual-in_err-y.result c.from_residual-in_err-y.ensures e) (bind_unknown _ _ _ c.in_ok-sound.ensures c.in_ok-rest.ensures applies)

pub returns-in_err-space : goal.returns-in_err-space
returns-in_err-space c = let (e, applies) = c.in_err-space.ensures in rw (handed_on c.from_residual-in_err-space.result c.from_residual-in_err-space.ensures e) (bind_full _ _ _ c.in_ok-sound.ensures c.in_ok-rest.ensures c.in_ok-y.ensures.1 applies)

pub returns : goal.returns
returns c =
    let (x-is, known) = c.in_ok-y.ensures in
    let e = c.bind_at.ensures in
    rw (e.0, e.1, x-is, to_z-of_z w32 c.args.v c.ranges.v)
    (bind_done _ _ _ c.in_ok-sound.ensures c.in_ok-rest.ensures known c.in_ok-space.ensures c.ranges.v _ refl)
