-- The events to be told are those that remain up to where the climb is, and then those told so far.
use Rattle.std.proofs.Common.{◌≡◌, sym, ◌∙◌}
use Rattle.layout.proofs.WalkLaws.{made_seen}
use Rattle.layout.proofs.RouteLaws.{proper, meeting_on_way, meet_under}
use Rattle.layout.proofs.TellLaws.{entering_start, entering_length, entering_room, entering_step, entering_end}
use Rattle.store.proofs.Ways.{started, gone, arrived}
use Rattle.store.proofs.trace.tell_entering.Goals as goal

pub loop-n-init : goal.loop-n-init
loop-n-init c =
    let ((ok, made), (meets, count)) = c.requires.whole in
    let same : c.into_iter-n-iterator.result.s.now ≡ c.args.s.now = cc in
    let from : c.into_iter-n-iterator.result.at ≡ c.args.a = cc in
    let end : c.into_iter-n-iterator.result.end ≡ c.args.meet = cc in
    (started _ _ c.into_iter-n-iterator.result same end _ from ok made (rw meets (meeting_on_way _ ok _ made)) (rw meets (meet_under _ (proper _ ok) _ _ (made_seen _ ok _ made))), tt, same, end, rw from (entering_start _ ok _ _ _ made count))

pub tell_entered-e-requires : goal.tell_entered-e-requires
tell_entered-e-requires c =
    let ((ok, made), (meets, count)) = c.requires.whole in
    let (can, finite, same, end, at) = c.loop-n.invariant in
    let g = gone _ _ c.loop-n.n-iterator same end c.next.new.self _ c.in-Some.ensures.steps in
    let (own, room) = entering_room _ ok _ _ _ _ _ (rw count at c.requires.events_in_bounds) at (λ z. g.short (z ∙ sym meets)) _ g.up in
    rw g.here record { whole = (ok, at.made); n_len_bound = (own, room) }

pub loop-n-preserved : goal.loop-n-preserved
loop-n-preserved c =
    let ((ok, made), (meets, count)) = c.requires.whole in
    let (can, finite, same, end, at) = c.loop-n.invariant in
    let g = gone _ _ c.loop-n.n-iterator same end c.next.new.self _ c.in-Some.ensures.steps in
    let (left, told) = rw g.here at c.tell_entered-e.ensures in
    (c.in-Some.ensures.goes.keeps, tt, g.still, g.stays, entering_step _ ok _ _ _ _ _ (rw count at c.requires.events_in_bounds) at (λ z. g.short (z ∙ sym meets)) _ g.up _ _ left told)

pub shape_of-t : goal.shape_of-t
shape_of-t c =
    let ((ok, made), (meets, count)) = c.requires.whole in
    entering_length _ ok _ _ _ _ _ (rw count at c.requires.events_in_bounds) c.loop-n.invariant.4

pub returns : goal.returns
returns c =
    let ((ok, made), (meets, count)) = c.requires.whole in
    let (can, finite, same, end, at) = c.loop-n.invariant in
    entering_end _ ok _ _ _ _ _ (rw count at c.requires.events_in_bounds) at _ (arrived c.args.s.now _ c.loop-n.n-iterator same end c.next.new.self c.in-None.ensures.steps)
