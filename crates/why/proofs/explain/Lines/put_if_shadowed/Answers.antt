-- `why::explain::Lines::put_if_shadowed` meets its contract: the line that is put says what the binding holds. Assumes nothing.
use Rattle.std.proofs.Common.{rules}
use mathlib.Core.Path.{ap, ◌∙◌}
use Rattle.print.specs.Explaining.{shadowed_line}
use Rattle.play.proofs.Texts.{front}
use Rattle.why.proofs.Telling.{shadowed_own}
use Rattle.why.proofs.Chain.{adds_same}
use Rattle.why.proofs.explain.Lines.put_if_shadowed.Goals as goal

pub returns-in-Binding-clause-wrote : goal.returns-in-Binding-clause-wrote
returns-in-Binding-clause-wrote c = λ w p own e.
    let line = shadowed_own c.args.n c.args.x c.in-Binding.parent c.in-Binding.value w p own (search rules) in
    adds_same (front c.put_shadowed-k.ensures.wrote ∙ ap (shadowed_line c.args.n) c.held_by.ensures ∙ line) c.put.ensures
