-- `goto` keeps its promise: refused row by row, else it is the switch. Assumes nothing.
use Rattle.store.proofs.Keeps.{handed_on, goto_damaged, goto_walking, goto_unmade}
use Rattle.store.proofs.goto.Goals as goal

pub returns-in_err-sound : goal.returns-in_err-sound
returns-in_err-sound c = let (e, applies) = c.in_err-sound.ensures in rw (handed_on c.from_residual.result c.from_residual.ensures e) (goto_damaged _ _ _ applies)

pub returns-in_err-rest : goal.returns-in_err-rest
returns-in_err-rest c = let (e, applies) = c.in_err-rest.ensures in rw (handed_on c.from_residual-in_err-rest.result c.from_residual-in_err-rest.ensures e) (goto_walking _ _ _ c.in_ok-sound.ensures applies)

pub returns-in_err-b : goal.returns-in_err-b
returns-in_err-b c = let (e, applies) = c.in_err-b.ensures in rw (handed_on c.from_residual-in_err-b.result c.from_residual-in_err-b.ensures e) (goto_unmade _ _ _ c.in_ok-sound.ensures c.in_ok-rest.ensures applies)
