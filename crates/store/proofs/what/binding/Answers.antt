-- A binding is told by its record, and its own value as it is found from there.
use mathlib.Core.Path.{sym, ◌∙◌}
use native.Mathlib.Omega.{arith}
use Rattle.layout.proofs.Reading.{fit_made, up_under, binding_is}
use Rattle.store.proofs.Tells.{tells_binding}
use Rattle.store.proofs.what.binding.Goals as goal

pub var_of-x-requires : goal.var_of-x-requires
var_of-x-requires c = let (ok, (made, is)) = c.requires in fit_made _ ok _ made

pub find-found-requires : goal.find-found-requires
find-found-requires c =
    let (ok, (made, is)) = c.requires in
    (ok, (made, rw c.var_of-x.ensures (binding_is _ ok _ made is).1))

pub parent_of-parent-requires : goal.parent_of-parent-requires
parent_of-parent-requires c = let (ok, (made, is)) = c.requires in fit_made _ ok _ made

pub returns : goal.returns
returns c =
    let (ok, (made, is)) = c.requires in
    let up = c.parent_of-parent.ensures in
    let x = c.var_of-x.ensures in
    tells_binding _ _ _ ((binding_is _ ok _ made is).0 ∙ rw (← x)) (up_under _ ok _ made (omega (arith, is.0)) ∙ sym up) c.find-found.ensures c.value_in.ensures
