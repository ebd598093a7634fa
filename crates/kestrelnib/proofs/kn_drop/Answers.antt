-- `kn_drop` hands over: what it answers are the numbers of the answer of `drop`. Assumes nothing.
use Rattle.promises.specs.Answers.{numbers}
use Rattle.kestrelnib.proofs.kn_drop.Goals as goal

pub returns : goal.returns
returns c = let call = c.drop in (numbers call.result, c.numbered.ensures, call.ensures)
