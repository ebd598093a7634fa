-- `walk` meets its contract. What the calls come to is said in WalkLaws, which is handed what they ensure: each answer says first that
-- the target is not the focus (`apart`) and that what is left to walk to is nearer (`nearer`).
use Rattle.std.proofs.Common.{◌≡◌, sym, ap, ◌∙◌, ◌≢◌, arith}
use Rattle.layout.specs.Records.{focus, node_of, kind_n}
use Rattle.layout.specs.Kinds.{is_out}
use Rattle.layout.proofs.SoundLaws.{sound_fit}
use Rattle.layout.proofs.WalkLaws.{made_room, way_here, in_turns, Nearer, outward, inward, near_sound, near_made, near_falls, near_here, near_turns, near_entered}
use Rattle.store.proofs.moves.+walk.Goals.{then-is_out, else-is_out}
use Rattle.store.proofs.moves.+walk.Goals as goal

pub returns-then-a-focus_of : goal.returns-then-a-focus_of
returns-then-a-focus_of t c =
    let (ok, made) = c.requires in
    way_here _ ok _ made (c.if-a-focus_of.true ∙ c.focus_of.ensures)

-- The target is made, so its record can be read: the kind in it says whether the target is out, and the parent in it is where a
-- walk to a target that is out goes first.
pub kind_of-requires : goal.kind_of-requires
kind_of-requires t c =
    let (ok, made) = c.requires in
    (sound_fit _ ok, made_room _ ok _ made)

pub parent_of-to-requires : goal.parent_of-to-requires
parent_of-to-requires t c =
    let (ok, made) = c.requires in
    (sound_fit _ ok, made_room _ ok _ made)

-- A target that is in lies on the focus's path. The two differ here, so the focus lies below the target: it has a parent, and can
-- be left.
pub leave-requires : goal.leave-requires
leave-requires t c =
    let (ok, made) = c.requires in
    let apart : c.args.a ≢ focus c.args.s.now = λ e. c.if-a-focus_of.false (e ∙ sym c.focus_of.ensures) in
    let tested : c.is_out.result ≡ is_out (kind_n (node_of c.args.s.now c.args.a)) = c.is_out.ensures ∙ ap is_out c.kind_of.ensures in
    in_turns _ ok _ made apart (sym tested ∙ c.if-is_out.false)

pub walk-requires : goal.walk-requires
walk-requires t c =
    let (ok, made) = c.requires in
    let apart : c.args.a ≢ focus c.args.s.now = λ e. c.if-a-focus_of.false (e ∙ sym c.focus_of.ensures) in
    let tested : c.is_out.result ≡ is_out (kind_n (node_of c.args.s.now c.args.a)) = c.is_out.ensures ∙ ap is_out c.kind_of.ensures in
    let nearer : Nearer c.args.s.now c.args.a c.if-is_out.s c.if-is_out.to = elim c.if-is_out.branch [
      | then-is_out w ↦ outward (sym tested ∙ w.if-is_out.true) (w.to-is ∙ w.parent_of-to.ensures) w.s-is
      | else-is_out w ↦ inward (sym tested ∙ w.if-is_out.false) w.to-is (w.s-is ∙ w.leave.ensures)
    ] in
    (omega (arith, near_falls _ ok _ made apart _ _ nearer, c.decreases), (near_sound _ ok _ made apart _ _ nearer, near_made _ ok _ made apart _ _ nearer))

-- Behind the call the focus is the target or its parent. Where it is not the target, the target is out, and a child of the focus:
-- it can be entered.
pub enter-requires : goal.enter-requires
enter-requires t c =
    let (ok, made) = c.requires in
    let apart : c.args.a ≢ focus c.args.s.now = λ e. c.if-a-focus_of.false (e ∙ sym c.focus_of.ensures) in
    let tested : c.is_out.result ≡ is_out (kind_n (node_of c.args.s.now c.args.a)) = c.is_out.ensures ∙ ap is_out c.kind_of.ensures in
    let nearer : Nearer c.args.s.now c.args.a c.if-is_out.s c.if-is_out.to = elim c.if-is_out.branch [
      | then-is_out w ↦ outward (sym tested ∙ w.if-is_out.true) (w.to-is ∙ w.parent_of-to.ensures) w.s-is
      | else-is_out w ↦ inward (sym tested ∙ w.if-is_out.false) w.to-is (w.s-is ∙ w.leave.ensures)
    ] in
    near_turns _ ok _ made apart _ _ _ c.walk.ensures nearer (λ e. c.if-focus_of-a.true (c.focus_of-2.ensures ∙ e))

pub returns-then-focus_of-a : goal.returns-then-focus_of-a
returns-then-focus_of-a t c =
    let (ok, made) = c.requires in
    let apart : c.args.a ≢ focus c.args.s.now = λ e. c.if-a-focus_of.false (e ∙ sym c.focus_of.ensures) in
    let tested : c.is_out.result ≡ is_out (kind_n (node_of c.args.s.now c.args.a)) = c.is_out.ensures ∙ ap is_out c.kind_of.ensures in
    let nearer : Nearer c.args.s.now c.args.a c.if-is_out.s c.if-is_out.to = elim c.if-is_out.branch [
      | then-is_out w ↦ outward (sym tested ∙ w.if-is_out.true) (w.to-is ∙ w.parent_of-to.ensures) w.s-is
      | else-is_out w ↦ inward (sym tested ∙ w.if-is_out.false) w.to-is (w.s-is ∙ w.leave.ensures)
    ] in
    near_entered _ ok _ made apart _ _ _ c.walk.ensures nearer (λ e. c.if-focus_of-a.true (c.focus_of-2.ensures ∙ e)) _ c.enter.ensures

pub returns-else-focus_of-a : goal.returns-else-focus_of-a
returns-else-focus_of-a t c =
    let (ok, made) = c.requires in
    let apart : c.args.a ≢ focus c.args.s.now = λ e. c.if-a-focus_of.false (e ∙ sym c.focus_of.ensures) in
    let tested : c.is_out.result ≡ is_out (kind_n (node_of c.args.s.now c.args.a)) = c.is_out.ensures ∙ ap is_out c.kind_of.ensures in
    let nearer : Nearer c.args.s.now c.args.a c.if-is_out.s c.if-is_out.to = elim c.if-is_out.branch [
      | then-is_out w ↦ outward (sym tested ∙ w.if-is_out.true) (w.to-is ∙ w.parent_of-to.ensures) w.s-is
      | else-is_out w ↦ inward (sym tested ∙ w.if-is_out.false) w.to-is (w.s-is ∙ w.leave.ensures)
    ] in
    near_here _ ok _ made apart _ _ _ c.walk.ensures nearer (sym c.focus_of-2.ensures ∙ c.if-focus_of-a.false)
