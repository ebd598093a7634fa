-- `play::reading::read_tops` meets its contract. The loop's invariant: the first top values are cells, the others ahead. Assumes nothing.
use mathlib.Core.Path.{sym, ◌∙◌}
use native.Mathlib.Omega.{arith}
use Rattle.play.proofs.Lines.{within}
use Rattle.play.proofs.Tops.{taken_none, no_other, taken_more, taken_all}
use Rattle.play.proofs.reading.read_tops.Goals as goal

pub loop-x-init : goal.loop-x-init
loop-x-init c = (c.requires, λ cs ls e a. taken_none c.args.tops.now a)

pub returns-in_default : goal.returns-in_default
returns-in_default c = λ cs ls e a. absurd (no_other (c.loop-x.invariant.1 cs ls e a) (omega (arith, c.loop-x-test.true, e)) c.line_at.ensures (λ v n q. grind arith))

pub returns-in_default-2 : goal.returns-in_default-2
returns-in_default-2 c = λ cs ls e a. absurd (no_other (c.loop-x.invariant.1 cs ls e a) (omega (arith, c.loop-x-test.true, e)) c.line_at.ensures (λ v n q. grind arith))

pub returns : goal.returns
returns c = λ cs ls e a. taken_all (c.loop-x.invariant.1 cs ls e a) (e ∙ sym c.loop-x.auto.tops) (omega (arith, c.loop-x-test.false, c.loop-x.auto.tops))

pub overflow_add-at : goal.overflow_add-at
overflow_add-at c =
    let m = within c.args.card.now c.loop-x.at c.in-Some-Top-default.ensures c.loop-x.invariant.0 in
    record { fits = omega (arith, m.1) }

pub loop-x-preserved : goal.loop-x-preserved
loop-x-preserved c =
    let m = within c.args.card.now c.loop-x.at c.in-Some-Top-default.ensures c.loop-x.invariant.0 in (
      m.1,
      λ cs ls e a. taken_more (c.loop-x.invariant.1 cs ls e a) (omega (arith, c.loop-x-test.true, e)) _ c.in-Some-Top-default.ensures
          c.in-Some-Top-default.field-0-0-is (omega (arith, c.loop-x-test.true, c.loop-x.auto.tops)) (c.copy_from_slice.ensures.after ∙ c.bare.ensures),
    )
