-- The loop's invariant: the two climbs are equally deep, and what was passed and what is left are together the distance of a and b.
-- The measure is what is left.
use Prim.Native.Nat.{◌+◌, ◌<◌}
use native.Mathlib.Omega.{arith}
use Rattle.layout.proofs.SoundLaws.{sound_fit}
use Rattle.layout.proofs.WalkLaws.{made_room}
use Rattle.layout.specs.Routes.{moves_from}
use Rattle.layout.proofs.RouteLaws.{few_between}
use Rattle.layout.proofs.FarLaws.{Nearing, nearing_start, nearing_up, nearing_end}
use Rattle.store.proofs.apart.passed.Goals as goal

pub loop-at-init : goal.loop-at-init
loop-at-init c = let (ok, (made, made')) = c.requires.whole in nearing_start _ ok _ _ made made' c.requires.a_value

pub parent_of-at-requires : goal.parent_of-at-requires
parent_of-at-requires c =
    let ok = c.requires.whole.0 in
    (sound_fit _ ok, made_room _ ok _ c.loop-at.invariant.made)

pub parent_of-to-requires : goal.parent_of-to-requires
parent_of-to-requires c =
    let ok = c.requires.whole.0 in
    (sound_fit _ ok, made_room _ ok _ c.loop-at.invariant.made')

pub overflow_add-n : goal.overflow_add-n
overflow_add-n c =
    let above : let s = c.args.s.now in let p = c.parent_of-at.result in let q = c.parent_of-to.result in Nearing s c.args.a c.args.b p q (c.loop-at.n + 2) × (moves_from s p q < moves_from s c.loop-at.at c.loop-at.to) =
    rw (c.parent_of-at.ensures, c.parent_of-to.ensures)
    (nearing_up c.args.s.now c.requires.whole.0 c.args.a c.args.b c.loop-at.at c.loop-at.to c.loop-at.n c.loop-at.invariant c.loop-at-test.true) in
    omega (arith, above.0.left, few_between _ c.requires.whole.0 c.args.a c.args.b)

pub loop-at-smaller : goal.loop-at-smaller
loop-at-smaller c =
    let above : let s = c.args.s.now in let p = c.parent_of-at.result in let q = c.parent_of-to.result in Nearing s c.args.a c.args.b p q (c.loop-at.n + 2) × (moves_from s p q < moves_from s c.loop-at.at c.loop-at.to) =
    rw (c.parent_of-at.ensures, c.parent_of-to.ensures)
    (nearing_up c.args.s.now c.requires.whole.0 c.args.a c.args.b c.loop-at.at c.loop-at.to c.loop-at.n c.loop-at.invariant c.loop-at-test.true) in
    above.1

pub loop-at-preserved : goal.loop-at-preserved
loop-at-preserved c =
    let above : let s = c.args.s.now in let p = c.parent_of-at.result in let q = c.parent_of-to.result in Nearing s c.args.a c.args.b p q (c.loop-at.n + 2) × (moves_from s p q < moves_from s c.loop-at.at c.loop-at.to) =
    rw (c.parent_of-at.ensures, c.parent_of-to.ensures)
    (nearing_up c.args.s.now c.requires.whole.0 c.args.a c.args.b c.loop-at.at c.loop-at.to c.loop-at.n c.loop-at.invariant c.loop-at-test.true) in
    above.0

pub returns : goal.returns
returns c = nearing_end _ c.requires.whole.0 _ _ _ _ _ c.loop-at.invariant c.loop-at-test.false
