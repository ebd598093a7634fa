-- By the kind: a binding binds its variable, and no other node binds any.
use Rattle.layout.proofs.Reading.{fit_made, binds_yes, binds_low, binds_high}
use mathlib.Core.Path.{sym, ap, ◌∙◌}
use native.Mathlib.Omega.{arith}
use lib.Dec.{eqb}
use Rattle.store.proofs.read.binds.Goals as goal

pub kind_of-requires : goal.kind_of-requires
kind_of-requires c = fit_made _ c.requires.0 _ c.requires.1

pub var_of-requires : goal.var_of-requires
var_of-requires c = fit_made _ c.requires.0 _ c.requires.1

pub returns-in-2-to-3 : goal.returns-in-2-to-3
returns-in-2-to-3 c =
    let kind = c.kind_of.ensures in
    ap (λ v. eqb v c.args.x) c.var_of.ensures
    ∙ sym (binds_yes _ c.requires.0 c.args.n c.args.x c.requires.1 (omega arith))

pub returns-in_default : goal.returns-in_default
returns-in_default c =
    let kind = c.kind_of.ensures in
    sym (binds_low _ c.requires.0 c.args.n c.args.x c.requires.1 (omega arith))

pub returns-in_default-2 : goal.returns-in_default-2
returns-in_default-2 c =
    let kind = c.kind_of.ensures in
    sym (binds_high _ c.requires.0 c.args.n c.args.x c.requires.1 (omega arith))
