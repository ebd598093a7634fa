-- `why::explain::Lines::put_lost` meets its contract. Assumes nothing.
use Rattle.play.proofs.Texts.{front}
use Rattle.why.proofs.Chain.{adds_same}
use Rattle.why.proofs.Ending.{lost_added}
use Rattle.why.proofs.explain.Lines.put_lost.Goals as goal

pub returns : goal.returns
returns c = lost_added c.put_chain.ensures (adds_same (front c.put_unbound-k.ensures.wrote) c.put.ensures)
