-- `far` keeps its promise: refused row by row, else what was found is the distance. Assumes nothing.
use Rattle.store.proofs.Keeps.{handed_on, far_damaged, far_unmade, far_unmade_2, far_done}
use Rattle.store.proofs.far.Goals as goal

pub returns-in_err-sound : goal.returns-in_err-sound
returns-in_err-sound c = let (e, applies) = c.in_err-sound.ensures in rw (handed_on c.from_residual.result c.from_residual.ensures e) (far_damaged _ _ _ applies)

pub returns-in_err-c : goal.returns-in_err-c
returns-in_err-c c = let (e, applies) = c.in_err-c.ensures in rw (handed_on c.from_residual-in_err-c.result c.from_residual-in_err-c.ensures e) (far_unmade _ _ _ c.in_ok-sound.ensures applies)

pub returns-in_err-d : goal.returns-in_err-d
returns-in_err-d c = let (e, applies) = c.in_err-d.ensures in rw (handed_on c.from_residual-in_err-d.result c.from_residual-in_err-d.ensures e) (far_unmade_2 _ _ _ c.in_ok-sound.ensures c.in_ok-c.ensures.1 applies)

pub returns : goal.returns
returns c =
    let (a-is, made) = c.in_ok-c.ensures in
    let (b-is, made') = c.in_ok-d.ensures in
    far_done _ _ _ c.in_ok-sound.ensures made made' _ (rw (a-is, b-is) at c.between.ensures)
