-- Each test that fails refutes its clause; where none fails, the target's lift decides.
use Rattle.store.proofs.check.handed_ok.Goals.{then-not-is_made-via-then-not-is_made, then-not-is_made-via-else-not-is_made+then-not-is_wind, then-not-is_made-via-else-not-is_made+else-not-is_wind+then-parent_of-focus_of}
use Rattle.std.proofs.Common.{◌≡◌, sym, subst, ◌∙◌, arith, eqb, leb}
use Rattle.std.proofs.lemmas.Bool.{lt-leb}
use Rattle.layout.specs.Records.{focus, node_of, kind_n, parent_n}
use Rattle.layout.specs.Kinds.{IsWind}
use Rattle.layout.specs.Lifts.{depth_at, Lifted}
use Rattle.layout.proofs.Reading.{fit_made}
use Rattle.layout.proofs.FarLaws.{depth_is}
use Rattle.layout.proofs.CheckLaws.{says_not, says_map, says_eq}
use Rattle.layout.proofs.HandedLaws.{handed_made, handed_wind, handed_parent, handed_deep, handed_says}
use Rattle.store.proofs.check.handed_ok.Goals as goal

pub kind_of-requires : goal.kind_of-requires
kind_of-requires c = fit_made _ c.requires.0 _ c.if-not-is_made.ensures

pub parent_of-requires : goal.parent_of-requires
parent_of-requires c = fit_made _ c.requires.0 _ c.if-not-is_made.ensures

pub returns-then-not-is_made : goal.returns-then-not-is_made
returns-then-not-is_made c =
    let ok = c.requires.0 in
    elim c.then-not-is_made.branch [
      | then-not-is_made-via-then-not-is_made w ↦ λ h. w.if-not-is_made.ensures (handed_made _ ok _ _ h)
      | then-not-is_made-via-else-not-is_made+then-not-is_wind w ↦
          let made = w.if-not-is_made.ensures in
          handed_wind _ ok _ _ made (rw w.kind_of.ensures at (w.if-not-is_wind.ensures))
      | then-not-is_made-via-else-not-is_made+else-not-is_wind+then-parent_of-focus_of w ↦
          let made = w.if-not-is_made.ensures in
          λ h. w.if-parent_of-focus_of.true (w.parent_of.ensures ∙ handed_parent _ ok _ _ made h ∙ sym w.focus_of.ensures)
    ]

pub depth_of-d-requires : goal.depth_of-d-requires
depth_of-d-requires c = fit_made _ c.requires.0 _ c.if-not-is_made.ensures

pub depth_of-requires : goal.depth_of-requires
depth_of-requires c = fit_made _ c.requires.0 _ c.requires.1

pub lift-requires : goal.lift-requires
lift-requires c =
    let (ok, target) = c.requires in
    let deep : c.depth_of.result ≡ depth_at c.args.s.now c.args.a = c.depth_of.ensures ∙ depth_is _ ok _ target in
    (ok, (target, omega (arith, deep, c.if-d-depth_of.true)))

pub returns-then-d-depth_of : goal.returns-then-d-depth_of
returns-then-d-depth_of c =
    let ok = c.requires.0 in
    let made = c.if-not-is_made.ensures in
    let wind : IsWind (kind_n (node_of c.args.s.now c.args.c)) = rw c.kind_of.ensures at c.if-not-is_wind.ensures in
    let child : parent_n (node_of c.args.s.now c.args.c) ≡ focus c.args.s.now = sym c.parent_of.ensures ∙ c.if-parent_of-focus_of.false ∙ c.focus_of.ensures in
    let deep : c.depth_of-d.result ≡ depth_at c.args.s.now c.args.c = c.depth_of-d.ensures ∙ depth_is _ ok _ made in
    let lifted = subst (λ d. Lifted c.args.s.now c.args.a d c.lift.result) deep c.lift.ensures in
    let (to, from) = handed_says _ ok _ _ made wind child _ lifted in
    says_map (eqb c.lift.result c.args.c) to from (says_eq c.lift.result c.args.c)

pub returns-else-d-depth_of : goal.returns-else-d-depth_of
returns-else-d-depth_of c =
    let (ok, target) = c.requires in
    let made = c.if-not-is_made.ensures in
    let deep : c.depth_of-d.result ≡ depth_at c.args.s.now c.args.c = c.depth_of-d.ensures ∙ depth_is _ ok _ made in
    let deep-2 : c.depth_of.result ≡ depth_at c.args.s.now c.args.a = c.depth_of.ensures ∙ depth_is _ ok _ target in
    says_not (leb c.depth_of-d.result c.depth_of.result) (lt-leb _ _ c.if-d-depth_of.false) (handed_deep _ ok _ _ (omega (arith, deep, deep-2, c.if-d-depth_of.false)))
