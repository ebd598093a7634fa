-- `open` keeps its promise: Setup where it is not openable, else the bytes of an opened store. Assumes nothing.
use mathlib.Core.Bool.{not}
use mathlib.Core.Path.{ap}
use native.Mathlib.Omega.{arith}
use Rattle.layout.proofs.CheckLaws.{held, refuted}
use Rattle.store.proofs.Keeps.{open_setup, open_done}
use Rattle.store.proofs.open.Goals as goal

pub returns-in_default : goal.returns-in_default
returns-in_default c = open_setup _ _ _ _ (λ o. c.in_default.ensures (omega (arith, o.fits.vars_high)))

pub returns-in_default-try_from : goal.returns-in_default-try_from
returns-in_default-try_from c = open_setup _ _ _ _ (λ o. c.in_default-try_from.ensures (omega (arith, o.fits.room_high)))

pub returns-then-not-openable : goal.returns-then-not-openable
returns-then-not-openable c =
    let v-is = c.in-Ok.ensures.1 in
    let n-is = c.in-Ok-try_from.ensures.1 in
    let no = refuted c.openable.result (ap not c.if-not-openable.true) c.openable.ensures in
    open_setup _ _ _ _ (rw (v-is, n-is) at no)

pub open_at-requires : goal.open_at-requires
open_at-requires c =
    let ok = held c.openable.result (ap not c.if-not-openable.false) c.openable.ensures in
    (ok.fits, ok.long)

pub returns : goal.returns
returns c =
    let v-is = c.in-Ok.ensures.1 in
    let n-is = c.in-Ok-try_from.ensures.1 in
    let ok = held c.openable.result (ap not c.if-not-openable.false) c.openable.ensures in
    rw (c.open_at.ensures, v-is, n-is) (open_done _ _ _ _ (rw (v-is, n-is) at ok))
