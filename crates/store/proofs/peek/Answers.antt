-- `peek` keeps its promise: refused row by row, else what was found is the value at a and its decider. Assumes nothing.
use Rattle.store.proofs.Keeps.{handed_on, peek_damaged, peek_unknown, peek_unmade, peek_shown}
use Rattle.store.proofs.peek.Goals as goal

pub returns-in_err-sound : goal.returns-in_err-sound
returns-in_err-sound c = let (e, applies) = c.in_err-sound.ensures in rw (handed_on c.from_residual.result c.from_residual.ensures e) (peek_damaged _ _ _ applies)

pub returns-in_err-y : goal.returns-in_err-y
returns-in_err-y c = let (e, applies) = c.in_err-y.ensures in rw (handed_on c.from_residual-in_err-y.result c.from_residual-in_err-y.ensures e) (peek_unknown _ _ _ c.in_ok-sound.ensures applies)

pub returns-in_err-b : goal.returns-in_err-b
returns-in_err-b c = let (e, applies) = c.in_err-b.ensures in rw (handed_on c.from_residual-in_err-b.result c.from_residual-in_err-b.ensures e) (peek_unmade _ _ _ c.in_ok-sound.ensures c.in_ok-y.ensures.1 applies)

pub returns : goal.returns
returns c =
    let (x-is, known) = c.in_ok-y.ensures in
    let (a-is, made) = c.in_ok-b.ensures in
    rw c.answered.ensures (peek_shown _ _ _ c.in_ok-sound.ensures known made (rw (x-is, a-is) at c.find-found.ensures))
