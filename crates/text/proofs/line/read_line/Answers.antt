-- `text::line::read_line` meets its contract. Assumes nothing.
use Rattle.std.proofs.Common.{sym, ◌∙◌, ◌≡◌, arith}
use Rattle.text.specs.Keys.{numbers}
use Rattle.text.proofs.Operands.{inside, by_word, no_word, two_at_most}
use Rattle.text.proofs.line.read_line.Goals as goal

pub returns-in_err-key : goal.returns-in_err-key
returns-in_err-key c = rw c.from_residual.ensures (no_word c.in_err-key.ensures)

pub slice_bounds-operands-start : goal.slice_bounds-operands-start
slice_bounds-operands-start c = inside c.in_ok-key.ensures

pub returns-in-0 : goal.returns-in-0
returns-in-0 c = by_word c.in_ok-key.ensures (rw (sym c.in_ok-key.ensures.entry.numbers ∙ c.in-0.is) c.read_fixed.ensures)

pub returns-in-1 : goal.returns-in-1
returns-in-1 c = by_word c.in_ok-key.ensures (rw (sym c.in_ok-key.ensures.entry.numbers ∙ c.in-1.is) c.read_one.ensures)

pub returns-in_default : goal.returns-in_default
returns-in_default c =
    let two : numbers c.in_ok-key.key.word ≡ 2 = omega (arith, two_at_most c.in_ok-key.key.word, c.in_ok-key.ensures.entry.numbers) in
    by_word c.in_ok-key.ensures (rw two c.read_two.ensures)
