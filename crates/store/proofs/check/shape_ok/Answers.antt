-- Each test that fails refutes its clause; where the first three hold, the last one decides.
use Rattle.store.proofs.check.shape_ok.Goals.{then-not-cells_ok-via-then-not-cells_ok, then-not-cells_ok-via-else-not-cells_ok+then-not-top_ok, then-not-cells_ok-via-else-not-cells_ok+else-not-top_ok+then-not-blanks_ok}
use Rattle.std.proofs.Common.{◌≡◌, sym, ◌∙◌, arith}
use Rattle.layout.specs.Sound.{Shape}
use Rattle.layout.specs.Records.{top_node}
use Rattle.layout.specs.Fields.{fields_of}
use Rattle.layout.specs.Checks.{InnersOk}
use Rattle.layout.proofs.SoundLaws.{shape_inners, shape_blanks, shape_by_numbers}
use Rattle.layout.proofs.Laws.{node_in}
use Rattle.layout.proofs.CheckLaws.{says_with_map, counted_all}
use Rattle.store.proofs.check.shape_ok.Goals as goal

pub returns-then-not-cells_ok : goal.returns-then-not-cells_ok
unfolding fields_of
returns-then-not-cells_ok c =
    let s = c.args.s.now in
    λ ok. elim c.then-not-cells_ok.branch [
      | then-not-cells_ok-via-then-not-cells_ok w ↦ w.if-not-cells_ok.ensures ok.0.cells
      | then-not-cells_ok-via-else-not-cells_ok+then-not-top_ok w ↦
          w.if-not-top_ok.ensures (w.node.ensures ∙ sym (node_in s 0 (omega arith)) ∙ ok.0.top)
      | then-not-cells_ok-via-else-not-cells_ok+else-not-top_ok+then-not-blanks_ok w ↦
          w.if-not-blanks_ok.ensures (shape_blanks _ ok.0)
    ]

pub returns : goal.returns
unfolding fields_of
returns c =
    let s = c.args.s.now in
    let f = fields_of s in
    let is_top : f.node 0 ≡ top_node = node_in s 0 (omega arith) ∙ sym c.node.ensures ∙ c.if-not-top_ok.ensures in
    let cells = c.if-not-cells_ok.ensures in
    let blanks = c.if-not-blanks_ok.ensures in
    let all : InnersOk f → Shape f = λ inners. shape_by_numbers f c.requires.head cells is_top inners blanks in
    says_with_map c.nodes_ok.result (λ n. (all n.0, n.1)) (λ ok. (shape_inners f ok.0, ok.1)) (λ k. counted_all f _ k is_top) c.nodes_ok.ensures
