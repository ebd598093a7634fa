-- `play::write_pages` meets its contract. The loop's invariant: what was handed on is what was printed so far. Assumes nothing.
use mathlib.Core.Path.{sym}
use Rattle.play.proofs.Stepping.{writing_more, page_fits, page_stands, all_printed, output_fits}
use borrow.Author.Rules.{rules}
use Rattle.play.proofs.write_pages.Goals as goal

pub hand-requires : goal.hand-requires
hand-requires g c =
    let f = c.fill.ensures in
    let goes = c.is_ended.ensures.fails c.loop-page-test.true in
    (page_stands f goes (search rules) c.loop-page.invariant.0, page_fits f goes (search rules) c.loop-page.invariant.0 c.requires.0)

pub loop-page-preserved : goal.loop-page-preserved
loop-page-preserved g c =
    let goes = c.is_ended.ensures.fails c.loop-page-test.true in
    (writing_more c.fill.ensures goes (search rules) c.loop-page.invariant.0 c.in_ok-done.ensures, search rules, search rules, search rules)

pub returns : goal.returns
returns g c = (c.loop-page.invariant.0.before, all_printed c.loop-page.invariant.0.so_far (c.is_ended.ensures.holds c.loop-page-test.false), sym c.loop-page.invariant.0.count, output_fits c.loop-page.invariant.0 c.requires.0)
