use mathlib.Core.Logic.{inl, inr, ⊎_elim}
use mathlib.Core.Path.{ap, sym}
use borrow.Author.Tests.{ne_eqb}
use Rattle.layout.specs.Kinds.{is_in}
use Rattle.store.proofs.kinds.is_in.Goals as goal

pub returns-in-3 : goal.returns-in-3
unfolding is_in
returns-in-3 c = ⊎_elim (λ e. sym (ap is_in e)) (λ e. sym (ap is_in e)) c.in-3.is

pub returns-in_default : goal.returns-in_default
unfolding is_in
returns-in_default c = rw (ne_eqb _ 3 (λ e. c.in_default.in_default-own.rest.1 (inl e)), ne_eqb _ 5 (λ e. c.in_default.in_default-own.rest.1 (inr e)))
