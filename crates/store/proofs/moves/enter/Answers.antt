-- `enter` meets its contract: the chain of its calls is `enter_b`.
use mathlib.Core.Path.{ap, ◌∙◌}
use mathlib.Core.List.{List}
use Prim.Native.Nat.{ℕ, ◌+◌}
use Rattle.layout.specs.Records.{with_focus}
use Rattle.layout.specs.Writes.{turn_b, move_b}
use Rattle.store.proofs.moves.enter.Goals as goal

pub returns : goal.returns
unfolding move_b
returns c =
    let s = c.args.s.now in
    c.set_focus.ensures
    ∙ ap (λ (b : List ℕ). with_focus b c.args.n) (c.turn.ensures ∙ ap (λ (k : ℕ). turn_b s c.args.n (k + 1)) c.kind_of-k.ensures)
