-- `play::progress::Progress::put_next_op` meets its contract. Assumes nothing.
use Rattle.std.proofs.Common.{arith}
use borrow.Author.Rules.{rules}
use Rattle.play.proofs.Lines.{within}
use Rattle.play.proofs.Running.{no_other}
use Rattle.play.proofs.Stepping.{stopped_puts, op_puts}
use Rattle.play.proofs.progress.Progress.put_next_op.Goals as goal

pub returns-in_default : goal.returns-in_default
returns-in_default c =
    rw c.stop.ensures (stopped_puts c.requires.0 c.requires.3 _ c.requires.2 (λ x f. no_other f c.requires.2 c.line_at.ensures (λ o n e. grind arith)))

pub overflow_add-self : goal.overflow_add-self
overflow_add-self c =
    let m = within c.args.card.now c.args.self.now.at c.in-Some-Do-default.ensures c.requires.0.inside in
    record { fits = omega (arith, m.1, c.requires.0.short) }

pub returns : goal.returns
returns c =
    let run = c.run-report in
    op_puts c.requires.0 c.requires.3 c.in-Some-Do-default.ensures c.in-Some-Do-default.field-0-0-is c.requires.2 c.requires.1 run.ensures.ran
    (λ i. (c.type_inv.store i).fits) run.ensures.event_size_in_bounds (search rules) c.put_report-self.ensures (search rules)
