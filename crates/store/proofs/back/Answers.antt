-- `back` keeps its promise: at the top refused, else it is the switch to the focus's parent. Assumes nothing.
use mathlib.Core.Path.{◌≡◌, sym, ap, ◌∙◌}
use mathlib.Core.Logic.{◌≢◌}
use native.Mathlib.Omega.{arith}
use Rattle.layout.specs.Records.{target, focus, node_of, parent_n}
use Rattle.layout.specs.Limits.{none_n}
use Rattle.layout.specs.Sound.{Sound}
use Rattle.layout.specs.Made.{IsMade}
use Rattle.layout.proofs.WalkLaws.{focus_made}
use Rattle.layout.proofs.Reading.{fit_made, up_made}
use Rattle.promises.specs.Promises.{parent_at}
use Rattle.store.proofs.Keeps.{handed_on, back_damaged, back_walking, back_top, back_switched, parent_at_lem}
use Rattle.store.proofs.back.Goals as goal

pub returns-in_err-sound : goal.returns-in_err-sound
returns-in_err-sound c = let (e, applies) = c.in_err-sound.ensures in rw (handed_on c.from_residual.result c.from_residual.ensures e) (back_damaged _ _ applies)

pub returns-in_err-rest : goal.returns-in_err-rest
returns-in_err-rest c = let (e, applies) = c.in_err-rest.ensures in rw (handed_on c.from_residual-in_err-rest.result c.from_residual-in_err-rest.ensures e) (back_walking _ _ c.in_ok-sound.ensures applies)

pub returns-then-f-eq0 : goal.returns-then-f-eq0
returns-then-f-eq0 c =
    let ok : Sound c.args.s.now = c.in_ok-sound.ensures in
    let out : target c.args.s.now ≡ none_n = c.in_ok-rest.ensures in
    back_top _ _ ok out (sym c.focus_of-f.ensures ∙ c.if-f-eq0.true)

pub parent_of-up-requires : goal.parent_of-up-requires
parent_of-up-requires c =
    let ok : Sound c.args.s.now = c.in_ok-sound.ensures in
    rw c.focus_of-f.ensures (fit_made _ ok.whole _ (focus_made _ ok.whole))

pub switch_to-requires : goal.switch_to-requires
switch_to-requires c =
    let ok : Sound c.args.s.now = c.in_ok-sound.ensures in
    let out : target c.args.s.now ≡ none_n = c.in_ok-rest.ensures in
    let below : focus c.args.s.now ≢ 0 = λ e. c.if-f-eq0.false (c.focus_of-f.ensures ∙ e) in
    let up-is-parent : c.parent_of-up.result ≡ parent_at c.args.s.now =
    let s = c.args.s.now in
    c.parent_of-up.ensures ∙ ap (λ n. parent_n (node_of s n)) c.focus_of-f.ensures ∙ sym (parent_at_lem s ok.whole below) in
    let parent-is-made : IsMade c.args.s.now (parent_at c.args.s.now) =
    let s = c.args.s.now in
    let low = below in
    rw (parent_at_lem s ok.whole low) (up_made s ok.whole (focus s) (omega arith) (focus_made s ok.whole)) in
    (ok, (out, rw up-is-parent parent-is-made))

pub returns : goal.returns
returns c =
    let ok : Sound c.args.s.now = c.in_ok-sound.ensures in
    let out : target c.args.s.now ≡ none_n = c.in_ok-rest.ensures in
    let under : focus c.args.s.now ≢ 0 = λ e. c.if-f-eq0.false (c.focus_of-f.ensures ∙ e) in
    let up-is-parent : c.parent_of-up.result ≡ parent_at c.args.s.now =
    let s = c.args.s.now in
    c.parent_of-up.ensures ∙ ap (λ n. parent_n (node_of s n)) c.focus_of-f.ensures ∙ sym (parent_at_lem s ok.whole under) in
    back_switched _ _ ok out under c.parent_of-up.result up-is-parent c.switch_to.ensures
