-- `text::line::read_one` meets its contract. Assumes nothing.
use Rattle.std.proofs.Common.{◌≡◌, arith, option_map}
use Rattle.std.proofs.lemmas.Grind.{common_steps}
use Rattle.text.specs.declared.keys.Word.TheVariants.{Vars, Nodes, Room, Look, Goto}
use Rattle.text.proofs.Operands.{said, make, between, below, up_to_lem}
use Rattle.text.proofs.line.read_one.Goals as goal

pub returns-in-Vars : goal.returns-in-Vars
returns-in-Vars c =
    let e : c.map.result ≡ option_map (make Vars) c.read_natural.result = grind (arith, common_steps) in
    rw (e, c.in-Vars.is) (said Vars (between c.read_natural.ensures))

pub returns-in-Nodes : goal.returns-in-Nodes
returns-in-Nodes c =
    let e : c.map-in-Nodes.result ≡ option_map (make Nodes) c.read_natural-in-Nodes.result = grind (arith, common_steps) in
    rw (e, c.in-Nodes.is) (said Nodes (between c.read_natural-in-Nodes.ensures))

pub returns-in-Room : goal.returns-in-Room
returns-in-Room c =
    let e : c.map-in-Room.result ≡ option_map (make Room) c.read_natural-in-Room.result = grind (arith, common_steps) in
    rw (e, c.in-Room.is) (said Room (below c.read_natural-in-Room.ensures))

pub returns-in-Look : goal.returns-in-Look
returns-in-Look c =
    let e : c.map-in-Look.result ≡ option_map (make Look) c.read_natural-in-Look.result = grind (arith, common_steps) in
    rw (e, c.in-Look.is) (said Look (up_to_lem c.read_natural-in-Look.ensures))

pub returns-in-Goto : goal.returns-in-Goto
returns-in-Goto c =
    let e : c.map-in-Goto.result ≡ option_map (make Goto) c.read_natural-in-Goto.result = grind (arith, common_steps) in
    rw (e, c.in-Goto.is) (said Goto (up_to_lem c.read_natural-in-Goto.ensures))
