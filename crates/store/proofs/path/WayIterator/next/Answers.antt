-- Short of the end there is a parent, and the end is on its way too.
use Rattle.std.proofs.Common.{arith}
use Rattle.layout.proofs.Reading.{fit_made}
use Rattle.layout.proofs.RouteLaws.{risen}
use Rattle.store.proofs.path.WayIterator.next.Goals as goal

pub parent_of-self-requires : goal.parent_of-self-requires
parent_of-self-requires c = fit_made _ c.requires.0 _ c.requires.1.0

pub returns-clause-goes : goal.returns-clause-goes
returns-clause-goes c =
    let (ok, (made, (way, over))) = c.requires in
    let up = risen _ ok _ way _ made over c.if-self.false _ c.parent_of-self.ensures in
    let moves = up.moves in
    record { on = λ _. ((ok, (up.made, (way, up.over))), tt, omega (arith, moves)); keeps = (ok, (up.made, (way, up.over))); rests = λ _. tt }
