-- `drop` keeps its promise: refused row by row, else the walk's two numbers are written. Assumes nothing.
use Rattle.store.proofs.Keeps.{handed_on}
use Rattle.store.proofs.Strides.{drop_damaged, drop_rests, drop_done}
use Rattle.store.proofs.drop.Goals as goal

pub returns-in_err-sound : goal.returns-in_err-sound
returns-in_err-sound c = let (e, applies) = c.in_err-sound.ensures in rw (handed_on c.from_residual.result c.from_residual.ensures e) (drop_damaged _ applies)

pub returns-in_err-walk : goal.returns-in_err-walk
returns-in_err-walk c = let (e, applies) = c.in_err-walk.ensures in rw (handed_on c.from_residual-in_err-walk.result c.from_residual-in_err-walk.ensures e) (drop_rests _ c.in_ok-sound.ensures applies)

pub returns : goal.returns
returns c = rw c.end.ensures (drop_done _ c.in_ok-sound.ensures c.in_ok-walk.ensures _ c.focus_of-f.ensures)
