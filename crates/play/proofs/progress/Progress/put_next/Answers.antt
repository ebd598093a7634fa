-- `play::progress::Progress::put_next` meets its contract. Assumes nothing.
use borrow.Author.Rules.{rules}
use Rattle.play.proofs.Stepping.{told_puts}
use Rattle.play.proofs.progress.Progress.put_next.Goals as goal

pub returns-then-self-gt0 : goal.returns-then-self-gt0
returns-then-self-gt0 c = told_puts c.requires.0 c.requires.2 _ c.if-self-gt0.true c.put_next_event.ensures (search rules)
