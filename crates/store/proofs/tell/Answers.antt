-- `tell` keeps its promise: refused row by row, else the environment is told as it is. Assumes nothing.
use Rattle.store.proofs.Keeps.{handed_on}
use Rattle.store.proofs.Tells.{tell_damaged, tell_unmade, tell_done}
use Rattle.store.proofs.tell.Goals as goal

pub returns-in_err-sound : goal.returns-in_err-sound
returns-in_err-sound c = let (e, applies) = c.in_err-sound.ensures in rw (handed_on c.from_residual.result c.from_residual.ensures e) (tell_damaged _ _ applies)

pub returns-in_err-n : goal.returns-in_err-n
returns-in_err-n c = let (e, applies) = c.in_err-n.ensures in rw (handed_on c.from_residual-in_err-n.result c.from_residual-in_err-n.ensures e) (tell_unmade _ _ c.in_ok-sound.ensures applies)

pub returns : goal.returns
returns c = let (a-is, made) = c.in_ok-n.ensures in tell_done _ _ c.in_ok-sound.ensures made (rw a-is at c.environment-2.ensures)
