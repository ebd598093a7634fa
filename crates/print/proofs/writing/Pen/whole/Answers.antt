-- `print::writing::Pen::whole` meets its contract: the sign where the value is below 0, and the value without it. Assumes nothing.
use mathlib.Core.Path.{ap, ◌∙◌}
use mathlib.Core.List.{◌∷◌}
use Prim.Native.Nat.{ℕ}
use Rattle.text.specs.Decimal.{decimal}
use Rattle.print.specs.Writing.{adds_then}
use Rattle.print.proofs.Signs.{whole_up, whole_down}
use Rattle.print.proofs.Buffer.{retold}
use Rattle.print.proofs.writing.Pen.whole.Goals.{then-v-lt0, else-v-lt0}
use Rattle.print.proofs.writing.Pen.whole.Goals as goal

pub returns-clause-adds : goal.returns-clause-adds
returns-clause-adds c =
    let e = c.unsigned_abs.ensures.value in
    elim c.if-v-lt0.branch [
      | then-v-lt0 w ↦ retold (ap (λ (n : ℕ). 45 ∷ decimal n) e ∙ whole_down c.args.v c.ranges.v w.if-v-lt0.true)
          (adds_then w.text.ensures (rw w.self-is at c.natural.ensures.adds))
      | else-v-lt0 w ↦ retold (ap decimal e ∙ whole_up c.args.v c.ranges.v w.if-v-lt0.false) (rw w.self-is at c.natural.ensures.adds)
    ]
