-- `tell` meets its contract: the entering events, and the leaving ones before them, are the switch's.
use native.Mathlib.Omega.{arith}
use Rattle.layout.proofs.RouteLaws.{meeting_on_way}
use Rattle.layout.proofs.TellLaws.{rest_fits, all_told}
use Rattle.store.proofs.trace.tell.Goals as goal

pub tell_leaving-requires : goal.tell_leaving-requires
tell_leaving-requires c =
    let ((ok, made), (meets, count)) = c.requires.whole in
    let fits = rest_fits _ ok _ _ _ _ (rw count at c.requires.events_in_bounds) c.tell_entering.ensures in
    record { whole = (ok, rw meets (meeting_on_way _ ok _ made)); meet_in_bounds = omega (arith, fits, c.tell_entering.auto.t) }

pub returns : goal.returns
returns c =
    let ((ok, made), (meets, count)) = c.requires.whole in
    all_told _ ok _ _ _ _ (rw count at c.requires.events_in_bounds) c.tell_entering.ensures _ c.tell_leaving.ensures
