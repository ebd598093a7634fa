-- A wind is told by its record: its parent and its thunks.
use native.Mathlib.Omega.{arith}
use Rattle.layout.proofs.Reading.{fit_made, up_under, wind_is}
use Rattle.store.proofs.Tells.{tells_wind}
use Rattle.store.proofs.what.wind.Goals as goal

pub parent_of-requires : goal.parent_of-requires
parent_of-requires c = let (ok, (made, is)) = c.requires in fit_made _ ok _ made

pub var_of-requires : goal.var_of-requires
var_of-requires c = let (ok, (made, is)) = c.requires in fit_made _ ok _ made

pub post_of-requires : goal.post_of-requires
post_of-requires c = let (ok, (made, is)) = c.requires in fit_made _ ok _ made

pub returns : goal.returns
returns c =
    let (ok, (made, is)) = c.requires in
    rw (c.parent_of.ensures, c.var_of.ensures, c.post_of.ensures)
    (tells_wind _ _ (wind_is _ ok _ made is) (up_under _ ok _ made (omega (arith, is.0))))
