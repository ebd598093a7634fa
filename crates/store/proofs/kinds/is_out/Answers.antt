-- `is_out` meets its contract: by cases on the kind.
use mathlib.Core.Logic.{⊎_elim, inl, inr}
use borrow.Author.Tests.{ne_eqb}
use Rattle.layout.specs.Kinds.{is_out}
use Rattle.store.proofs.kinds.is_out.Goals as goal

pub returns-in-2 : goal.returns-in-2
unfolding is_out
returns-in-2 c = ⊎_elim (λ e. rw e) (λ e. rw e) c.in-2.is

pub returns-in_default : goal.returns-in_default
unfolding is_out
returns-in_default c = rw (ne_eqb _ _ (λ e. c.in_default.in_default-own.rest.1 (inl e)), ne_eqb _ _ (λ e. c.in_default.in_default-own.rest.1 (inr e)))
