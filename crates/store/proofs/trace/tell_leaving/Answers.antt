-- The events told so far, and those that remain from where the climb is to the meeting point, are together the events to be told.
use Rattle.std.proofs.Common.{◌≡◌}
use Rattle.layout.specs.Records.{focus}
use Rattle.layout.proofs.WalkLaws.{focus_made}
use Rattle.layout.proofs.TellLaws.{leaving_start, leaving_length, leaving_room, leaving_step, leaving_end}
use Rattle.store.proofs.Ways.{started, gone, arrived}
use Rattle.store.proofs.trace.tell_leaving.Goals as goal

pub loop-n-init : goal.loop-n-init
loop-n-init c =
    let (ok, way) = c.requires.whole in
    let same : c.into_iter-n-iterator.result.s.now ≡ c.args.s.now = cc in
    let from : c.into_iter-n-iterator.result.at ≡ focus c.args.s.now = cc in
    let end : c.into_iter-n-iterator.result.end ≡ c.args.meet = cc in
    (started _ _ c.into_iter-n-iterator.result same end _ from ok (focus_made _ ok) way way.over, tt, same, end, leaving_start _ ok _ way _ _ from)

pub tell_left-e-requires : goal.tell_left-e-requires
tell_left-e-requires c =
    let (ok, way) = c.requires.whole in
    let (can, finite, same, end, at) = c.loop-n.invariant in
    let g = gone _ _ c.loop-n.n-iterator same end c.next.new.self _ c.in-Some.ensures.steps in
    rw g.here record { whole = (ok, at.made); n_in_bounds = leaving_room _ ok _ way _ _ _ _ c.requires.meet_in_bounds at g.short _ g.up }

pub loop-n-preserved : goal.loop-n-preserved
loop-n-preserved c =
    let (ok, way) = c.requires.whole in
    let (can, finite, same, end, at) = c.loop-n.invariant in
    let g = gone _ _ c.loop-n.n-iterator same end c.next.new.self _ c.in-Some.ensures.steps in
    let (count, told) = rw g.here at c.tell_left-e.ensures in
    (c.in-Some.ensures.goes.keeps, tt, g.still, g.stays, leaving_step _ ok _ way _ _ _ _ c.requires.meet_in_bounds at g.short _ g.up _ _ count told)

pub shape_of-t : goal.shape_of-t
shape_of-t c =
    let (ok, way) = c.requires.whole in
    leaving_length _ ok _ way _ _ _ _ c.requires.meet_in_bounds c.loop-n.invariant.4

pub returns : goal.returns
returns c =
    let (ok, way) = c.requires.whole in
    let (can, finite, same, end, at) = c.loop-n.invariant in
    leaving_end _ ok _ way _ _ _ _ c.requires.meet_in_bounds at (arrived c.args.s.now _ c.loop-n.n-iterator same end c.next.new.self c.in-None.ensures.steps)
