-- `kn_step` hands over: what it answers are the numbers of the answer of `step`. Assumes nothing.
use Rattle.promises.specs.Answers.{numbers}
use Rattle.kestrelnib.proofs.kn_step.Goals as goal

pub returns : goal.returns
returns c = let call = c.step in (numbers call.result, c.numbered.ensures, call.ensures)
