-- `play::progress::Progress::fill` meets its contract. Assumes nothing.
use borrow.Author.Rules.{rules}
use Rattle.play.proofs.Stepping.{filling_more}
use Rattle.play.proofs.progress.Progress.fill.Goals as goal

pub loop-self-preserved : goal.loop-self-preserved
loop-self-preserved c = (filling_more c.loop-self.invariant.0 c.put_next.ensures (search rules), search rules, search rules)
