-- The loop's invariant: the climb has come to an environment that is still d deep or deeper, and so much nearer to all that are no
-- deeper. The measure is its depth.
use mathlib.Core.Path.{◌≡◌, subst, ◌∙◌}
use Prim.Native.Nat.{ℕ, ◌<◌, ◌≤◌}
use native.Mathlib.Omega.{arith}
use Rattle.layout.proofs.SoundLaws.{sound_fit}
use Rattle.layout.proofs.WalkLaws.{made_room}
use Rattle.layout.specs.Lifts.{depth_at, Lifted}
use Rattle.layout.proofs.FarLaws.{depth_is, lifted_start, lifted_up}
use Rattle.store.proofs.apart.lift.Goals as goal

pub loop-at-init : goal.loop-at-init
loop-at-init c = let (ok, (made, deep)) = c.requires in (lifted_start _ ok _ made, deep)

pub depth_of-requires : goal.depth_of-requires
depth_of-requires c = let (ok, rest) = c.requires in (sound_fit _ ok, made_room _ ok _ c.loop-at.invariant.0.made)

pub parent_of-at-requires : goal.parent_of-at-requires
parent_of-at-requires c =
    let (ok, rest) = c.requires in
    (sound_fit _ ok, made_room _ ok _ c.loop-at.invariant.0.made)

pub loop-at-smaller : goal.loop-at-smaller
loop-at-smaller c =
    let tested : c.depth_of.result ≡ depth_at c.args.s.now c.loop-at.at = c.depth_of.ensures ∙ depth_is _ c.requires.0 _ c.loop-at.invariant.0.made in
    let above : let s = c.args.s.now in let p = c.parent_of-at.result in Lifted s c.args.a (depth_at s p) p × ((c.args.d ≤ depth_at s p) × (depth_at s p < depth_at s c.loop-at.at)) =
    let s = c.args.s.now in
    let (ok, rest) = c.requires in
    let deep = tested in
    let (l, below) = lifted_up s ok c.args.a c.args.d c.loop-at.at c.loop-at.invariant.0 (omega arith) in
    rw c.parent_of-at.ensures (l, (omega arith, omega arith)) in
    above.1.1

pub loop-at-preserved : goal.loop-at-preserved
loop-at-preserved c =
    let tested : c.depth_of.result ≡ depth_at c.args.s.now c.loop-at.at = c.depth_of.ensures ∙ depth_is _ c.requires.0 _ c.loop-at.invariant.0.made in
    let above : let s = c.args.s.now in let p = c.parent_of-at.result in Lifted s c.args.a (depth_at s p) p × ((c.args.d ≤ depth_at s p) × (depth_at s p < depth_at s c.loop-at.at)) =
    let s = c.args.s.now in
    let (ok, rest) = c.requires in
    let deep = tested in
    let (l, below) = lifted_up s ok c.args.a c.args.d c.loop-at.at c.loop-at.invariant.0 (omega arith) in
    rw c.parent_of-at.ensures (l, (omega arith, omega arith)) in
    (above.0, above.1.0)

pub returns : goal.returns
returns c =
    let tested : c.depth_of.result ≡ depth_at c.args.s.now c.loop-at.at = c.depth_of.ensures ∙ depth_is _ c.requires.0 _ c.loop-at.invariant.0.made in
    let s = c.args.s.now in
    let deep = tested in
    let e : depth_at s c.loop-at.at ≡ c.args.d = omega arith in
    subst (λ (d : ℕ). Lifted s c.args.a d c.loop-at.at) e c.loop-at.invariant.0
