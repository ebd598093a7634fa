-- `turn` meets its contract: the ranges of the match are those of `by_kind`, and a node that turns is of kind 2 to 5.
use mathlib.Core.Path.{sym, ◌∙◌}
use native.Mathlib.Omega.{arith}
use Rattle.layout.proofs.NodeKinds.{kind_binding, kind_wind, node_low, node_high}
use Rattle.layout.specs.Writes.{turn_b}
use Rattle.store.proofs.moves.turn.Goals as goal

pub exchange-requires : goal.exchange-requires
exchange-requires c = let p = c.requires in (p.fit, (p.below, p.var (omega arith)))

pub returns-then-was-lt2 : goal.returns-then-was-lt2
returns-then-was-lt2 c = absurd (omega (arith, node_low _ c.requires.node))

pub returns-in-2-to-3 : goal.returns-in-2-to-3
unfolding turn_b
returns-in-2-to-3 c = c.exchange.ensures ∙ sym (kind_binding _ _ _ _ _ (omega arith))

pub returns-in-4-to-5 : goal.returns-in-4-to-5
unfolding turn_b
returns-in-4-to-5 c = c.turn_at.ensures ∙ sym (kind_wind _ _ _ _ _ (omega arith))

pub returns-else-was-lt6 : goal.returns-else-was-lt6
returns-else-was-lt6 c = absurd (omega (arith, node_high _ c.requires.node))
