-- Every node passed binds another variable or none, so the decider where the climb is is the decider at a.
use Rattle.std.proofs.Common.{◌≡◌, ◌≤◌, sym, ◌∙◌, arith, inl}
use Rattle.layout.specs.Deciders.{binder_of}
use Rattle.layout.proofs.Reading.{top_made, top_up, up_made, top_on_way, binder_inner, decider_top, decider_here, decider_up}
use Rattle.store.proofs.Ways.{started, gone, arrived}
use Rattle.store.proofs.read.decider_of.Goals as goal

pub loop-n-init : goal.loop-n-init
loop-n-init c =
    let (ok, made) = c.requires in
    let same : c.into_iter-n-iterator.result.s.now ≡ c.args.s.now = cc in
    let from : c.into_iter-n-iterator.result.at ≡ c.args.a = cc in
    let end : c.into_iter-n-iterator.result.end ≡ 0 = cc in
    (started _ _ c.into_iter-n-iterator.result same end _ from ok made (top_on_way _ ok) (inl (top_up _ ok)), tt, same, end, rw from made, rw from)

pub binds-requires : goal.binds-requires
binds-requires c =
    let here = c.in-Some.ensures.steps.2.0 in
    (c.requires.0, rw here c.loop-n.invariant.4)

pub returns-then-binds : goal.returns-then-binds
returns-then-binds c =
    let ok = c.requires.0 in
    let (can, finite, same, end, made, was) = c.loop-n.invariant in
    let g = gone _ _ c.loop-n.n-iterator same end c.next.new.self _ c.in-Some.ensures.steps in
    let inner : 1 ≤ c.loop-n.n-iterator.at = let short = g.short in omega arith in
    let here = sym (rw g.here at c.if-binds.ensures) in
    rw g.here (binder_inner _ inner ∙ sym (decider_here _ ok _ _ inner made here) ∙ was, made)

pub loop-n-preserved : goal.loop-n-preserved
loop-n-preserved c =
    let ok = c.requires.0 in
    let (can, finite, same, end, made, was) = c.loop-n.invariant in
    let g = gone _ _ c.loop-n.n-iterator same end c.next.new.self _ c.in-Some.ensures.steps in
    let inner : 1 ≤ c.loop-n.n-iterator.at = let short = g.short in omega arith in
    let other = sym (rw g.here at c.if-binds.ensures) in
    (c.in-Some.ensures.goes.keeps, tt, g.still, g.stays, rw g.up (up_made _ ok _ inner made), rw g.up (sym (decider_up _ ok _ _ inner made other) ∙ was))

pub returns : goal.returns
unfolding binder_of
returns c =
    let ok = c.requires.0 in
    let (can, finite, same, end, made, was) = c.loop-n.invariant in
    let top = arrived c.args.s.now _ c.loop-n.n-iterator same end c.next.new.self c.in-None.ensures.steps in
    (sym (decider_top _ ok _) ∙ (rw top at was), top_made _ ok)
