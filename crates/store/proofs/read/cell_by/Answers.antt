-- By the mode of the decider: out, it stores its own value; else the last binding below it does, or the cell.
use Rattle.layout.specs.Records.{bare_c, stored_n}
use Rattle.layout.specs.Kinds.{is_out}
use Rattle.layout.specs.View.{as_cell}
use Rattle.layout.proofs.SoundLaws.{sound_fit}
use Rattle.layout.proofs.Reading.{fit_made, stored_proper, cell_proper, not_out_ahead, peek_out, peek_some, peek_none}
use Prim.Native.Nat.{ℕ}
use mathlib.Core.Bool.{Bool}
use mathlib.Core.Path.{◌≡◌, sym, ap, ◌∙◌}
use Rattle.store.proofs.read.cell_by.Goals as goal

out-by : {k l : ℕ} {b d : Bool} → k ≡ l → b ≡ is_out k → b ≡ d → is_out l ≡ d
out-by p q r = ap is_out (sym p) ∙ sym q ∙ r

pub kind_of-requires : goal.kind_of-requires
kind_of-requires c = fit_made _ c.requires.0 _ c.requires.1.0

pub node-requires : goal.node-requires
node-requires c = fit_made _ c.requires.0 _ c.requires.1.0

pub returns-then-is_out : goal.returns-then-is_out
returns-then-is_out c =
    let out = out-by c.kind_of.ensures c.is_out.ensures c.if-is_out.true in
    let stored = c.stored_of.ensures ∙ ap stored_n c.node.ensures in (
      ap as_cell stored ∙ sym (peek_out _ c.requires.0 c.args.d c.args.x c.requires.1.0 out),
      rw stored (stored_proper _ c.requires.0 _ c.requires.1.0),
    )

pub last_below-requires : goal.last_below-requires
last_below-requires c =
    let out = out-by c.kind_of.ensures c.is_out.ensures c.if-is_out.false in
    (c.requires.0, not_out_ahead _ c.requires.0 _ c.requires.1.0 out)

pub cell-requires : goal.cell-requires
cell-requires c = (sound_fit _ c.requires.0, c.requires.1.1)

pub node-requires-in-Some : goal.node-requires-in-Some
node-requires-in-Some c = fit_made _ c.requires.0 _ c.in-Some.ensures.1

pub returns-in-Some : goal.returns-in-Some
returns-in-Some c =
    let out = out-by c.kind_of.ensures c.is_out.ensures c.if-is_out.false in
    let stored = c.stored_of-in-Some.ensures ∙ ap stored_n c.node-in-Some.ensures in
    let (last, made) = c.in-Some.ensures in (
      ap as_cell stored ∙ sym (peek_some _ c.requires.0 _ _ _ c.requires.1.0 out made last),
      rw stored (stored_proper _ c.requires.0 _ made),
    )

pub returns-in-None : goal.returns-in-None
returns-in-None c =
    let out = out-by c.kind_of.ensures c.is_out.ensures c.if-is_out.false in
    let bare = c.bare_of.ensures ∙ ap bare_c c.cell.ensures in (
      ap as_cell bare ∙ sym (peek_none _ c.requires.0 _ _ c.requires.1.0 out c.requires.1.1 c.in-None.ensures.0),
      rw bare (cell_proper _ c.requires.0 _ c.requires.1.1),
    )
