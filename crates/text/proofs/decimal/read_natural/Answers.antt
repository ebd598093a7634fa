-- `text::decimal::read_natural` meets its contract. Assumes nothing.
use Rattle.std.proofs.Common.{refl, sym, ◌∙◌, arith}
use Rattle.text.specs.Finds.{got, gone}
use Rattle.text.proofs.Reading.{ill, start, more, stuck, done}
use Rattle.text.proofs.decimal.read_natural.Goals as goal

pub returns-then-begins_ill : goal.returns-then-begins_ill
returns-then-begins_ill c = ill _ (sym c.begins_ill.ensures ∙ c.if-begins_ill.true)

pub loop-b-init : goal.loop-b-init
loop-b-init c = (start _ (sym c.begins_ill.ensures ∙ c.if-begins_ill.false), omega arith)

pub returns-in_err-v : goal.returns-in_err-v
returns-in_err-v c = rw c.from_residual.ensures (stuck c.loop-b.invariant.0 c.loop-b-test.true (λ w. gone c.in_err-v.ensures refl))

pub loop-b-preserved : goal.loop-b-preserved
loop-b-preserved c = let g = got c.in_ok-v.ensures refl in (more c.loop-b.invariant.0 c.loop-b-test.true g, g.high)

pub returns : goal.returns
returns c = rw c.then_some.ensures (done c.loop-b.invariant.0 c.loop-b-test.false c.loop-b.invariant.1)
