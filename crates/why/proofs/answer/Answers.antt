-- `why::answer` meets its contract. Assumes nothing.
use Rattle.why.proofs.Answering.{answer_ends}
use Rattle.why.proofs.answer.Goals as goal

pub hand-requires : goal.hand-requires
hand-requires g c = answer_ends _ _ c.play_in.result _ _ _ c.requires c.in_ok-n.was c.play_in.ensures c.explain-k.ensures.explains c.explain-k.ensures.upper_bound
