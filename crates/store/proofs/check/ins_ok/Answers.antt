-- Where the focus is out the clause fails; else it holds just where as many are in as the focus is deep (`modes_right`).
use Rattle.std.proofs.Common.{◌≡◌, sym, ap, ◌∙◌, arith, List, ℕ, eqb, not}
use Rattle.rules.proofs.Basic.{clash}
use Rattle.layout.specs.Records.{focus, kind_n, depth_n}
use Rattle.layout.specs.Kinds.{is_out}
use Rattle.layout.specs.Fields.{fields_of, nodes}
use Rattle.layout.specs.Sound.{Headed}
use Rattle.layout.proofs.SoundLaws.{headed_fit}
use Rattle.layout.proofs.Laws.{node_in, OfBuffer, of_buffer}
use Rattle.layout.proofs.CheckLaws.{says_map, says_eq, says_not, modes_right, ins_focus}
use Rattle.store.proofs.check.ins_ok.Goals as goal

buffer : (s : List ℕ) → Headed s → OfBuffer (fields_of s)
buffer s h = of_buffer s (headed_fit s h)

pub node-p-requires : goal.node-p-requires
node-p-requires c = (headed_fit _ c.requires.headed, omega arith)

pub returns-then-not-is_out : goal.returns-then-not-is_out
unfolding fields_of
returns-then-not-is_out c =
    let s = c.args.s.now in
    let f = fields_of s in
    let ((shape, rise), all) = c.requires.shape in
    let looked : c.node-p.result.now ≡ nodes s (focus s) = c.node-p.ensures ∙ sym (node_in _ _ (omega arith)) ∙ ap (nodes _) c.focus_of.ensures in
    let deep = c.depth_in.ensures ∙ ap depth_n looked in
    let inside = sym (c.is_out.ensures ∙ ap is_out (c.kind_in.ensures ∙ ap kind_n looked)) ∙ c.if-not-is_out.true in
    says_map (eqb c.depth_in.result c.args.all) (λ e. modes_right f (buffer s c.requires.headed) shape rise (inside, sym deep ∙ e ∙ all))
    (λ i. deep ∙ (ins_focus f (buffer s c.requires.headed) shape i).1 ∙ sym all) (says_eq c.depth_in.result c.args.all)

pub returns-else-not-is_out : goal.returns-else-not-is_out
unfolding fields_of
returns-else-not-is_out c =
    let s = c.args.s.now in
    let looked : c.node-p.result.now ≡ nodes s (focus s) = c.node-p.ensures ∙ sym (node_in _ _ (omega arith)) ∙ ap (nodes _) c.focus_of.ensures in
    let out = c.is_out.ensures ∙ ap is_out (c.kind_in.ensures ∙ ap kind_n looked) in
    says_not (not c.is_out.result) (ap not c.if-not-is_out.false) (λ i. clash c.if-not-is_out.false (out ∙ (ins_focus (fields_of s) (buffer s c.requires.headed) c.requires.shape.0.0 i).0))
