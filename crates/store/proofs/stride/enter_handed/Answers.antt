-- With no wind in the header nothing is done; else it is cleared, and document 01's walk enters the wind.
use Rattle.layout.specs.Limits.{none_n}
use Rattle.layout.proofs.StrideLaws.{is_none, is_some, handed_written}
use Rattle.layout.proofs.LegLaws.{none_entered, handed_is_made, handed_entered}
use Rattle.store.proofs.stride.enter_handed.Goals as goal

pub returns-in_default-clause-moved : goal.returns-in_default-clause-moved
returns-in_default-clause-moved c =
    let (ok, walking) = c.requires in
    none_entered _ ok.whole (is_none _ c.in_default.ensures)

pub walk-requires : goal.walk-requires
walk-requires c =
    let (ok, walking) = c.requires in
    let (is, there) = is_some _ c.in-Some.ensures in
    rw (c.set_handed.ensures, is) ((handed_written _ ok.whole none_n).whole, handed_is_made _ ok walking there)

pub returns-clause-moved : goal.returns-clause-moved
returns-clause-moved c =
    let (ok, walking) = c.requires in
    let (is, there) = is_some _ c.in-Some.ensures in
    let went = rw (c.set_handed.ensures, is) at c.walk.ensures in
    handed_entered _ ok walking there _ went
