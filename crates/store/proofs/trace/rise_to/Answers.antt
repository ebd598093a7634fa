-- What lies behind the climb and what remains up to the meeting point are together what the focus has.
use Rattle.std.proofs.Common.{◌≡◌, refl, arith}
use Rattle.layout.specs.Records.{focus}
use Rattle.layout.proofs.Reading.{fit_made}
use Rattle.layout.proofs.WalkLaws.{focus_made}
use Rattle.layout.proofs.RouteLaws.{few_moves, few_events, rising_start, rising_up, rising_end}
use Rattle.store.proofs.Ways.{started, gone, arrived}
use Rattle.store.proofs.trace.rise_to.Goals as goal

pub loop-n-init : goal.loop-n-init
loop-n-init c =
    let (ok, way) = c.requires in
    let same : c.into_iter-n-iterator.result.s.now ≡ c.args.s.now = cc in
    let from : c.into_iter-n-iterator.result.at ≡ focus c.args.s.now = cc in
    let end : c.into_iter-n-iterator.result.end ≡ c.args.meet = cc in
    (started _ _ c.into_iter-n-iterator.result same end _ from ok (focus_made _ ok) way way.over, tt, same, end, rising_start _ ok _ way _ from)

pub overflow_add-moves : goal.overflow_add-moves
overflow_add-moves c = record { fits = omega (arith, c.loop-n.invariant.4.moved, few_moves _ c.requires.0 c.args.meet) }

pub wind_bit-events-requires : goal.wind_bit-events-requires
wind_bit-events-requires c = rw c.in-Some.ensures.steps.2.0 (fit_made _ c.requires.0 _ c.loop-n.invariant.4.made)

pub overflow_add-events : goal.overflow_add-events
overflow_add-events c = record { fits = omega (arith, c.loop-n.invariant.4.told, few_events _ c.requires.0 c.args.meet) }

pub loop-n-preserved : goal.loop-n-preserved
loop-n-preserved c =
    let (ok, way) = c.requires in
    let (can, finite, same, end, at) = c.loop-n.invariant in
    let g = gone _ _ c.loop-n.n-iterator same end c.next.new.self _ c.in-Some.ensures.steps in
    (c.in-Some.ensures.goes.keeps, tt, g.still, g.stays, rising_up _ ok _ way _ _ _ at g.short _ _ (rw g.here at c.wind_bit-events.ensures.0) g.up)

pub returns : goal.returns
returns c =
    let (ok, way) = c.requires in
    let (can, finite, same, end, at) = c.loop-n.invariant in
    (refl, rising_end _ ok _ way _ _ _ at (arrived c.args.s.now _ c.loop-n.n-iterator same end c.next.new.self c.in-None.ensures.steps))
