-- `why::asked::last_asks` meets its contract. The loop's invariant: some lines were read, and the last of them asks this. Assumes nothing.
use mathlib.Core.Path.{sym, subst}
use native.Mathlib.Omega.{arith}
use Rattle.why.proofs.Asking.{Reading, reading_none, reading_ends, never_missing, further, reading_more}
use Rattle.why.proofs.asked.last_asks.Goals as goal

pub loop-at-init : goal.loop-at-init
loop-at-init c = (c.requires, reading_none c.requires _)

pub returns-in_default : goal.returns-in_default
returns-in_default c = absurd (never_missing c.loop-at.invariant.1 c.loop-at-test.true c.in_default.ensures)

pub overflow_add-at : goal.overflow_add-at
overflow_add-at c = let m = further c.loop-at.invariant.1 c.loop-at-test.true c.in-Some.ensures in record { fits = omega (arith, m.1, c.loop-at.invariant.0.0) }

pub overflow_add-lines : goal.overflow_add-lines
overflow_add-lines c = record { fits = omega (arith, c.loop-at.invariant.1.low, c.loop-at-test.true, c.loop-at.invariant.0.0) }

pub loop-at-smaller : goal.loop-at-smaller
loop-at-smaller c = let m = further c.loop-at.invariant.1 c.loop-at-test.true c.in-Some.ensures in omega (arith, m.0, m.1)

pub loop-at-preserved : goal.loop-at-preserved
loop-at-preserved c = (c.loop-at.invariant.0, subst (Reading _ _ _ _) (sym c.asked_by-last.ensures) (reading_more c.loop-at.invariant.1 c.loop-at-test.true c.in-Some.ensures))

pub returns : goal.returns
returns c = reading_ends c.loop-at.invariant.1 c.loop-at-test.false
