-- `why::why` meets its contract. Assumes nothing.
use Rattle.why.proofs.why.Goals as goal

pub answer-requires : goal.answer-requires
answer-requires g c = c.in-Ok.ensures

pub refuse-requires : goal.refuse-requires
refuse-requires g c = c.in-Err.ensures
