-- `here` keeps its promise: Damaged where the store is not sound, else the focus. Assumes nothing.
use Rattle.store.proofs.Keeps.{handed_on, here_damaged, here_done}
use Rattle.store.proofs.here.Goals as goal

pub returns-in_err-sound : goal.returns-in_err-sound
returns-in_err-sound c = let (e, applies) = c.in_err-sound.ensures in rw (handed_on c.from_residual.result c.from_residual.ensures e) (here_damaged _ applies)

pub returns : goal.returns
returns c = here_done _ c.in_ok-sound.ensures c.focus_of.result c.focus_of.ensures
