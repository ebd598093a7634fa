-- What is left of the climb, with what was seen, gives what the whole climb gives.
use Rattle.std.proofs.Common.{◌≡◌, Some}
use Rattle.layout.specs.Records.{focus}
use Rattle.layout.proofs.WalkLaws.{focus_made}
use Rattle.layout.proofs.Reading.{ahead_on_way, seeks_start, seeks_up, seeks_done}
use Rattle.store.proofs.Ways.{started, gone, arrived}
use Rattle.store.proofs.read.last_below.Goals as goal

pub loop-n-init : goal.loop-n-init
loop-n-init c =
    let (ok, ahead) = c.requires in
    let way = ahead_on_way _ ok _ ahead in
    let same : c.into_iter-n-iterator.result.s.now ≡ c.args.s.now = cc in
    let from : c.into_iter-n-iterator.result.at ≡ focus c.args.s.now = cc in
    let end : c.into_iter-n-iterator.result.end ≡ c.args.stop = cc in
    (started _ _ c.into_iter-n-iterator.result same end _ from ok (focus_made _ ok) way way.over, tt, same, end, rw from (seeks_start _ ok _ _ ahead))

pub binds-requires : goal.binds-requires
binds-requires c = (c.requires.0, rw c.in-Some.ensures.steps.2.0 c.loop-n.invariant.4.here)

pub loop-n-preserved-then-binds : goal.loop-n-preserved-then-binds
loop-n-preserved-then-binds c =
    let ok = c.requires.0 in
    let (can, finite, same, end, at) = c.loop-n.invariant in
    let g = gone _ _ c.loop-n.n-iterator same end c.next.new.self _ c.in-Some.ensures.steps in
    let binds = rw g.here at c.if-binds.ensures in
    (c.in-Some.ensures.goes.keeps, tt, g.still, g.stays, rw (g.up, g.here) (seeks_up _ ok (Some c.loop-n.n-iterator.at) at g.short at.here (rw (← binds))))

pub loop-n-preserved : goal.loop-n-preserved
loop-n-preserved c =
    let ok = c.requires.0 in
    let (can, finite, same, end, at) = c.loop-n.invariant in
    let g = gone _ _ c.loop-n.n-iterator same end c.next.new.self _ c.in-Some.ensures.steps in
    let binds = rw g.here at c.if-binds.ensures in
    (c.in-Some.ensures.goes.keeps, tt, g.still, g.stays, rw g.up (seeks_up _ ok _ at g.short at.last (rw (← binds))))

pub returns : goal.returns
returns c =
    let ok = c.requires.0 in
    let (can, finite, same, end, at) = c.loop-n.invariant in
    let there = arrived c.args.s.now _ c.loop-n.n-iterator same end c.next.new.self c.in-None.ensures.steps in
    (seeks_done _ ok (rw there at at), at.last)
