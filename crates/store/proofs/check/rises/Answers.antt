-- A node that is out says nothing of its parent; for one that is in, the parent's mode decides.
use Rattle.std.proofs.Common.{◌≡◌, sym, ap, ◌∙◌, arith, ℕ, Bool, true, false, not}
use Rattle.rules.proofs.Basic.{clash}
use Rattle.layout.specs.Records.{kind_n, parent_n}
use Rattle.layout.specs.Kinds.{is_in, is_out}
use Rattle.layout.specs.Fields.{fields_of, nodes}
use Rattle.layout.specs.Sound.{Says}
use Rattle.layout.proofs.SoundLaws.{headed_fit}
use Rattle.layout.proofs.Laws.{node_in}
use Rattle.layout.proofs.CheckLaws.{says_so}
use Rattle.store.proofs.check.rises.Goals as goal

-- for a node that is in, the parent's mode decides
decides : (b : Bool) {m o : Bool} → m ≡ true → b ≡ o → Says (not b) (m ≡ true → o ≡ false)
decides true e q = λ h. clash (sym q) (h e)
decides false e q = λ _. sym q

pub kind_of-requires : goal.kind_of-requires
kind_of-requires c = (headed_fit _ c.requires.0, omega arith)

pub returns-then-not-is_in : goal.returns-then-not-is_in
unfolding fields_of
returns-then-not-is_in c =
    let mode : c.is_in.result ≡ is_in (kind_n (nodes c.args.s.now c.args.n)) = c.is_in.ensures ∙ ap is_in (c.kind_of.ensures ∙ ap kind_n (sym (node_in _ _ (omega arith)))) in
    says_so (not c.is_in.result) (ap not c.if-not-is_in.true) (λ e. clash e (sym mode ∙ c.if-not-is_in.true))

pub parent_of-requires : goal.parent_of-requires
parent_of-requires c = (headed_fit _ c.requires.0, omega arith)

pub kind_of-requires-else-not-is_in : goal.kind_of-requires-else-not-is_in
kind_of-requires-else-not-is_in c =
    let up : c.parent_of.result ≡ parent_n (nodes c.args.s.now c.args.n) = c.parent_of.ensures ∙ ap parent_n (sym (node_in _ _ (omega arith))) in
    (headed_fit _ c.requires.0, omega (arith, up))

pub returns-else-not-is_in : goal.returns-else-not-is_in
unfolding fields_of
returns-else-not-is_in c =
    let s = c.args.s.now in
    let mode : c.is_in.result ≡ is_in (kind_n (nodes s c.args.n)) = c.is_in.ensures ∙ ap is_in (c.kind_of.ensures ∙ ap kind_n (sym (node_in _ _ (omega arith)))) in
    let up : c.parent_of.result ≡ parent_n (nodes s c.args.n) = c.parent_of.ensures ∙ ap parent_n (sym (node_in _ _ (omega arith))) in
    let out = c.is_out.ensures ∙ ap is_out (c.kind_of-else-not-is_in.ensures ∙ ap kind_n (sym (node_in s c.parent_of.result (omega (arith, up)))) ∙ ap (λ (n : ℕ). kind_n (nodes s n)) up) in
    decides c.is_out.result (sym mode ∙ c.if-not-is_in.false) out
