-- No wind was passed on the way up from the focus.
use Rattle.std.proofs.Common.{◌≡◌, refl}
use Rattle.rules.specs.Moves.{left, route}
use Rattle.layout.specs.Records.{focus}
use Rattle.layout.specs.View.{view}
use Rattle.layout.specs.Legs.{WindAt, place_of, StopsAt}
use Rattle.layout.proofs.Reading.{fit_made}
use Rattle.layout.proofs.WalkLaws.{focus_made}
use Rattle.layout.proofs.StopLaws.{below_start, below_wind, below_stops, below_plain, below_end}
use Rattle.store.proofs.Ways.{started, gone, arrived}
use Rattle.store.proofs.stride.first_left.Goals as goal

pub loop-n-init : goal.loop-n-init
loop-n-init c =
    let (ok, way) = c.requires in
    let same : c.into_iter-n-iterator.result.s.now ≡ c.args.s.now = cc in
    let from : c.into_iter-n-iterator.result.at ≡ focus c.args.s.now = cc in
    let end : c.into_iter-n-iterator.result.end ≡ c.args.meet = cc in
    (started _ _ c.into_iter-n-iterator.result same end _ from ok (focus_made _ ok) way way.over, tt, same, end, rw from (below_start _ ok _ way))

pub kind_of-requires : goal.kind_of-requires
kind_of-requires c = rw c.in-Some.ensures.steps.2.0 (fit_made _ c.requires.0 _ c.loop-n.invariant.4.made)

pub returns-then-is_wind : goal.returns-then-is_wind
returns-then-is_wind c =
    let (ok, way) = c.requires in
    let (can, finite, same, end, at) = c.loop-n.invariant in
    let g = gone _ _ c.loop-n.n-iterator same end c.next.new.self _ c.in-Some.ensures.steps in
    let wind = rw (c.kind_of.ensures, g.here) at c.if-is_wind.ensures in
    let s = c.args.s.now in
    let first : WindAt (view s).tree left (route (view s).tree (focus s) c.args.meet) c.in-Some.n = rw g.here (below_wind _ ok _ way _ at g.short _ g.up wind) in
    let stop : StopsAt s c.in-Some.n (place_of s c.in-Some.n) = rw g.here (below_stops _ ok _ way _ at g.short _ refl) in
    record { first_wind = first; stops = stop }

pub loop-n-preserved : goal.loop-n-preserved
loop-n-preserved c =
    let (ok, way) = c.requires in
    let (can, finite, same, end, at) = c.loop-n.invariant in
    let g = gone _ _ c.loop-n.n-iterator same end c.next.new.self _ c.in-Some.ensures.steps in
    (c.in-Some.ensures.goes.keeps, tt, g.still, g.stays, below_plain _ ok _ way _ at g.short _ g.up (rw (c.kind_of.ensures, g.here) at c.if-is_wind.ensures))

pub returns-clause-first_wind : goal.returns-clause-first_wind
returns-clause-first_wind c =
    let (ok, way) = c.requires in
    let (can, finite, same, end, at) = c.loop-n.invariant in
    below_end _ ok _ way _ at (arrived c.args.s.now _ c.loop-n.n-iterator same end c.next.new.self c.in-None.ensures.steps)
