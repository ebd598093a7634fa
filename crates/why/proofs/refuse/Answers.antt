-- `why::refuse` meets its contract. Assumes nothing.
use mathlib.Core.Path.{refl, sym, subst}
use mathlib.Core.List.{[]}
use native.Mathlib.Omega.{arith}
use Rattle.play.proofs.Texts.{line_long, front}
use Rattle.why.specs.Saying.{Says, nothing}
use Rattle.why.proofs.refuse.Goals as goal

pub hand-requires : goal.hand-requires
hand-requires g c =
    let line = c.put_bad-n.ensures in (
      record { before = []; place = refl; says = subst (Says c.args.card.now) (sym (front line.wrote)) (nothing c.args.line c.requires) },
      omega (arith, line_long line.wrote, line.upper_bound),
    )
