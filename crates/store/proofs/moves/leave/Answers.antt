-- `leave` meets its contract: the chain of its calls is `leave_b`, since the turned node keeps its parent.
use mathlib.Core.Path.{ap, ap₂, ◌∙◌}
use Prim.Native.Nat.{ℕ}
use native.Mathlib.Omega.{arith}
use Rattle.layout.specs.Records.{with_focus, node_of, kind_n, parent_n}
use Rattle.layout.specs.Kinds.{left_kind}
use Rattle.layout.specs.Writes.{turn_b, move_b}
use Rattle.layout.proofs.WalkLaws.{Turned, turned}
use Rattle.store.proofs.moves.leave.Goals as goal

pub turn-requires : goal.turn-requires
turn-requires c =
    rw c.focus_of-f.ensures c.requires

pub parent_of-up-requires : goal.parent_of-up-requires
parent_of-up-requires c =
    let after_turn : Turned c.args.s.now c.turn.new.s c.focus_of-f.result =
    rw c.turn.ensures (turned _ _ _ (rw c.focus_of-f.ensures c.requires)) in
    let t = after_turn in (t.fit, t.below)

pub set_focus-requires : goal.set_focus-requires
set_focus-requires c =
    let after_turn : Turned c.args.s.now c.turn.new.s c.focus_of-f.result =
    rw c.turn.ensures (turned _ _ _ (rw c.focus_of-f.ensures c.requires)) in
    let t = after_turn in omega arith

pub returns : goal.returns
unfolding move_b
returns c =
    let after_turn : Turned c.args.s.now c.turn.new.s c.focus_of-f.result =
    rw c.turn.ensures (turned _ _ _ (rw c.focus_of-f.ensures c.requires)) in
    let s = c.args.s.now in
    let f = c.focus_of-f.ensures in
    let t = after_turn in
    c.set_focus.ensures
    ∙ ap₂ with_focus
    (c.turn.ensures ∙ ap₂ (turn_b s) f (ap left_kind (c.kind_of-k.ensures ∙ ap (λ (n : ℕ). kind_n (node_of s n)) f)))
    (c.parent_of-up.ensures ∙ t.parent ∙ ap (λ (n : ℕ). parent_n (node_of s n)) f)
