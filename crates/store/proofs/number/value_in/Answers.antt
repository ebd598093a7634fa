-- A bare cell with state 0 has no value; any other has the value in its bytes. Assumes nothing.
use mathlib.Core.Path.{sym, ap, ◌∙◌}
use lib.IntN.{ℤ}
use mir.Syntax.{w32}
use mir.ValLaws.{to_z-of_z}
use borrow.Author.Tests.{eq-eqb, ne_eqb}
use Rattle.rules.specs.Values.{value}
use Rattle.layout.specs.View.{as_cell}
use Rattle.store.proofs.number.value_in.Goals as goal

pub returns-then-c-eq0 : goal.returns-then-c-eq0
unfolding as_cell
returns-then-c-eq0 c = rw (eq-eqb _ _ c.if-c-eq0.true)

pub returns : goal.returns
unfolding as_cell
returns c =
    let read = to_z-of_z w32 c.value_of.result (record { sfits = c.value_of.type_inv }) ∙ c.value_of.ensures in
    rw (ne_eqb _ _ c.if-c-eq0.false) (ap (λ (v : ℤ). value v) (sym read))
