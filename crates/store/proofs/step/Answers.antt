-- `step` keeps its promise: refused row by row, else the walk's leg is gone. Assumes nothing.
use Rattle.store.proofs.Keeps.{handed_on}
use Rattle.store.proofs.Strides.{step_damaged, step_rests}
use Rattle.store.proofs.step.Goals as goal

pub returns-in_err-sound : goal.returns-in_err-sound
returns-in_err-sound c = let (e, applies) = c.in_err-sound.ensures in rw (handed_on c.from_residual.result c.from_residual.ensures e) (step_damaged _ applies)

pub returns-in_err-walk : goal.returns-in_err-walk
returns-in_err-walk c = let (e, applies) = c.in_err-walk.ensures in rw (handed_on c.from_residual-in_err-walk.result c.from_residual-in_err-walk.ensures e) (step_rests _ c.in_ok-sound.ensures applies)
