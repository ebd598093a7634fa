-- `play::refuse` meets its contract. Assumes nothing.
use mathlib.Core.Path.{ap}
use native.Mathlib.Omega.{arith}
use lib.ListN.{length}
use Rattle.play.specs.Output.{refused}
use Rattle.play.proofs.Texts.{line_long, front}
use Rattle.play.proofs.Stepping.{bad_stands, handed_all}
use Rattle.play.proofs.refuse.Goals as goal

pub hand-requires : goal.hand-requires
hand-requires g c = (bad_stands c.args.line c.requires (front c.put_bad-n.ensures.wrote), omega (arith, line_long c.put_bad-n.ensures.wrote, c.put_bad-n.ensures.upper_bound))

pub returns : goal.returns
returns g c = λ s. handed_all c.hand.result c.hand.ensures (omega (arith, ap length (front c.put_bad-n.ensures.wrote))) (omega (arith, line_long c.put_bad-n.ensures.wrote, c.put_bad-n.ensures.upper_bound)) (refused c.args.line c.requires)
