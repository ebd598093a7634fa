-- Each number's high byte is its quotient by 256.
use Rattle.std.proofs.Common.{arith, ◌<◌}
use Rattle.layout.specs.Records.{node_b}
use Rattle.layout.proofs.Bytes.{high_byte}
use Rattle.store.proofs.records.node_bytes.Goals as goal

pub returns : goal.returns
unfolding node_b
returns c =
    let n = c.args.n in
    let fits = c.well_formed in
    let p : n.parent < 65536 = omega arith in
    let v : n.var < 65536 = omega arith in
    let q : n.post < 65536 = omega arith in
    let d : n.depth < 65536 = omega arith in
    rw (c.to_le_bytes.ensures, c.to_le_bytes-2.ensures, c.to_le_bytes-3.ensures, c.to_le_bytes-4.ensures, high_byte n.parent p, high_byte n.var v, high_byte n.post q, high_byte n.depth d)
