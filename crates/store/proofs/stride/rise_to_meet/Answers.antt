-- The loop's invariant: the way to the target is the way to where the climb has come, then what it passed. The measure is the
-- distance that remains.
use Rattle.store.proofs.stride.rise_to_meet.Goals.{then-is_wind, else-is_wind}
use Rattle.std.proofs.Common.{◌≡◌, sym, ap, ◌∙◌, true, false}
use Rattle.layout.specs.Records.{node_of, kind_n}
use Rattle.layout.specs.Kinds.{is_out}
use Rattle.layout.proofs.Reading.{fit_made}
use Rattle.layout.proofs.StopLaws.{above_wind, above_plain, above_less, above_end}
use Rattle.store.proofs.stride.rise_to_meet.Goals as goal

pub kind_of-requires : goal.kind_of-requires
kind_of-requires c = fit_made _ c.requires.0 _ c.loop-wind.invariant.made

pub kind_of-requires-in-loop-wind : goal.kind_of-requires-in-loop-wind
kind_of-requires-in-loop-wind c = fit_made _ c.requires.0 _ c.loop-wind.invariant.made

pub parent_of-at-requires : goal.parent_of-at-requires
parent_of-at-requires c = fit_made _ c.requires.0 _ c.loop-wind.invariant.made

pub loop-wind-smaller : goal.loop-wind-smaller
loop-wind-smaller c =
    let out : is_out (kind_n (node_of c.args.s.now c.loop-wind.at)) ≡ true = sym (c.is_out.ensures ∙ ap is_out c.kind_of.ensures) ∙ c.loop-wind-test.true in
    above_less _ c.requires.0 _ _ _ c.loop-wind.invariant out _ c.parent_of-at.ensures

pub loop-wind-preserved : goal.loop-wind-preserved
loop-wind-preserved c =
    let out : is_out (kind_n (node_of c.args.s.now c.loop-wind.at)) ≡ true = sym (c.is_out.ensures ∙ ap is_out c.kind_of.ensures) ∙ c.loop-wind-test.true in
    elim c.if-is_wind.branch [
      | then-is_wind w ↦ rw w.wind-is (above_wind _ c.requires.0 _ _ _ c.loop-wind.invariant out _ c.parent_of-at.ensures (rw c.kind_of-in-loop-wind.ensures at w.if-is_wind.ensures))
      | else-is_wind w ↦ rw w.wind-is (above_plain _ c.requires.0 _ _ _ c.loop-wind.invariant out _ c.parent_of-at.ensures (rw c.kind_of-in-loop-wind.ensures at w.if-is_wind.ensures))
    ]

pub returns : goal.returns
returns c =
    let inside : is_out (kind_n (node_of c.args.s.now c.loop-wind.at)) ≡ false = sym (c.is_out.ensures ∙ ap is_out c.kind_of.ensures) ∙ c.loop-wind-test.false in
    (c.loop-wind.invariant, above_end _ c.requires.0 _ _ _ c.loop-wind.invariant inside)
