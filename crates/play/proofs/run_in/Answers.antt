-- `play::run_in` meets its contract. Assumes nothing.
use mathlib.Core.Path.{refl}
use Prim.Native.Nat.{◌*◌}
use native.Mathlib.Omega.{arith}
use lib.ListN.{take}
use lib.Seq.{length-take-le}
use Rattle.layout.specs.Limits.{bare_size, event_size}
use Rattle.play.proofs.Beginning.{vars_few, room_few, started}
use Rattle.play.proofs.run_in.Goals as goal

pub write_pages-requires : goal.write_pages-requires
write_pages-requires g c =
    let cells = length-take-le (bare_size * c.args.heads.vars) c.args.tops.now (omega (arith, vars_few c.requires, c.requires.tops_long)) in
    let room = length-take-le (event_size * c.args.heads.room) c.args.trace.now (omega (arith, room_few c.requires, c.requires.trace_long)) in
    started c.requires (take (bare_size * c.args.heads.vars) c.args.tops.now) c.read_tops-at.new.tops _ c.args.store.now c.«open».new.s _ c.read_tops-at.result
    c.read_tops-at.ensures cells c.read_tops-at.auto.tops c.«open».ensures refl room
