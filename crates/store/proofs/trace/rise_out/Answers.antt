-- `rise_out` meets its contract. The loop's invariant: what lies behind the climb and what remains are together what the
-- target has. The measure is the distance that remains.
use mathlib.Core.Path.{◌≡◌, sym, ap, ◌∙◌}
use mathlib.Core.Bool.{true, false}
use native.Mathlib.Omega.{arith}
use Rattle.layout.specs.Records.{node_of, kind_n}
use Rattle.layout.specs.Kinds.{is_out}
use Rattle.layout.proofs.SoundLaws.{sound_fit}
use Rattle.layout.proofs.WalkLaws.{made_room}
use Rattle.layout.proofs.RouteLaws.{few_moves, few_events, climbing_start, climbing_up, climbing_less, climbing_end}
use Rattle.store.proofs.trace.rise_out.Goals as goal

pub loop-moves-init : goal.loop-moves-init
loop-moves-init c = let (ok, made) = c.requires in climbing_start _ ok _ made

pub kind_of-requires : goal.kind_of-requires
kind_of-requires c = let (ok, made) = c.requires in (sound_fit _ ok, made_room _ ok _ c.loop-moves.invariant.made)

pub overflow_add-moves : goal.overflow_add-moves
overflow_add-moves c = omega (arith, c.loop-moves.invariant.moved, few_moves _ c.requires.0 c.args.a)

pub wind_bit-events-requires : goal.wind_bit-events-requires
wind_bit-events-requires c = let (ok, made) = c.requires in (sound_fit _ ok, made_room _ ok _ c.loop-moves.invariant.made)

pub overflow_add-events : goal.overflow_add-events
overflow_add-events c = omega (arith, c.loop-moves.invariant.told, few_events _ c.requires.0 c.args.a)

pub parent_of-at-requires : goal.parent_of-at-requires
parent_of-at-requires c = let (ok, made) = c.requires in (sound_fit _ ok, made_room _ ok _ c.loop-moves.invariant.made)

pub loop-moves-smaller : goal.loop-moves-smaller
loop-moves-smaller c =
    let tested : c.is_out.result ≡ is_out (kind_n (node_of c.args.s.now c.loop-moves.at)) = c.is_out.ensures ∙ ap is_out c.kind_of.ensures in
    let out : is_out (kind_n (node_of c.args.s.now c.loop-moves.at)) ≡ true = sym tested ∙ c.loop-moves-test.true in
    climbing_less _ c.requires.0 _ _ _ _ c.loop-moves.invariant out _ c.parent_of-at.ensures

pub loop-moves-preserved : goal.loop-moves-preserved
loop-moves-preserved c =
    let tested : c.is_out.result ≡ is_out (kind_n (node_of c.args.s.now c.loop-moves.at)) = c.is_out.ensures ∙ ap is_out c.kind_of.ensures in
    let out : is_out (kind_n (node_of c.args.s.now c.loop-moves.at)) ≡ true = sym tested ∙ c.loop-moves-test.true in
    climbing_up _ c.requires.0 _ _ _ _ c.loop-moves.invariant out _ _ c.wind_bit-events.ensures.0 c.parent_of-at.ensures

pub returns : goal.returns
returns c =
    let tested : c.is_out.result ≡ is_out (kind_n (node_of c.args.s.now c.loop-moves.at)) = c.is_out.ensures ∙ ap is_out c.kind_of.ensures in
    let inside : is_out (kind_n (node_of c.args.s.now c.loop-moves.at)) ≡ false = sym tested ∙ c.loop-moves-test.false in
    (c.loop-moves.invariant, climbing_end _ c.requires.0 _ _ _ _ c.loop-moves.invariant inside)
