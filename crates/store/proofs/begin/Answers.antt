-- `begin` keeps its promise: refused row by row, else the target is written. Assumes nothing.
use native.Mathlib.Omega.{arith}
use Rattle.layout.proofs.SoundLaws.{sound_fit}
use Rattle.store.proofs.Keeps.{handed_on}
use Rattle.store.proofs.Strides.{begin_damaged, begin_walking, begin_unmade, begin_done}
use Rattle.store.proofs.begin.Goals as goal

pub returns-in_err-sound : goal.returns-in_err-sound
returns-in_err-sound c = let (e, applies) = c.in_err-sound.ensures in rw (handed_on c.from_residual.result c.from_residual.ensures e) (begin_damaged _ _ applies)

pub returns-in_err-rest : goal.returns-in_err-rest
returns-in_err-rest c = let (e, applies) = c.in_err-rest.ensures in rw (handed_on c.from_residual-in_err-rest.result c.from_residual-in_err-rest.ensures e) (begin_walking _ _ c.in_ok-sound.ensures applies)

pub returns-in_err-b : goal.returns-in_err-b
returns-in_err-b c = let (e, applies) = c.in_err-b.ensures in rw (handed_on c.from_residual-in_err-b.result c.from_residual-in_err-b.ensures e) (begin_unmade _ _ c.in_ok-sound.ensures c.in_ok-rest.ensures applies)

pub set_target-requires : goal.set_target-requires
set_target-requires c =
    omega (arith, (sound_fit _ c.in_ok-sound.ensures.whole).long)

pub returns : goal.returns
returns c =
    let (a-is, made) = c.in_ok-b.ensures in
    rw (c.set_target.ensures, a-is) (begin_done _ _ c.in_ok-sound.ensures c.in_ok-rest.ensures made _ c.focus_of-f.ensures)
