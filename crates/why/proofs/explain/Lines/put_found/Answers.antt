-- `why::explain::Lines::put_found` meets its contract. Assumes nothing.
use Rattle.play.proofs.Texts.{front}
use Rattle.why.proofs.Chain.{adds_same}
use Rattle.why.proofs.Ending.{found_added}
use Rattle.why.proofs.explain.Lines.put_found.Goals as goal

pub returns : goal.returns
returns c =
    found_added c.args.x c.put_chain-next.ensures c.put_behind.ensures.wrote c.top_value.ensures
    (adds_same (front c.put_top_value-k.ensures.wrote) c.put.ensures)
