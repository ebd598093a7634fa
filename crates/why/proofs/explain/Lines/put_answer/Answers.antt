-- `why::explain::Lines::put_answer` meets its contract. Assumes nothing.
use Rattle.std.proofs.Common.{rules, inl, inr, arith}
use Rattle.why.proofs.Chain.{adds_none, adds_same}
use Rattle.why.proofs.Climb.{fits}
use Rattle.why.proofs.Peeking.{done_code, lost_code, refused_code, other_code, good, text_found, text_lost, text_none}
use Rattle.why.proofs.explain.Lines.put_answer.Goals as goal

pub put_found-requires : goal.put_found-requires
put_found-requires c =
    let g = good c.in-Ok.ensures (inl (done_code c.in-Ok.field-0)) in
    (g.sound, g.variable, g.environment, omega (arith, c.requires, fits c.args.s.now g.sound.whole c.args.a g.environment))

pub put_lost-requires : goal.put_lost-requires
put_lost-requires c =
    let g = good (rw c.in-Err-Unbound.field-0-is at c.in-Err-Unbound.ensures) (inr lost_code) in
    (g.sound, g.environment, omega (arith, c.requires, fits c.args.s.now g.sound.whole c.args.a g.environment))

pub returns-in-Ok : goal.returns-in-Ok
returns-in-Ok c = record { answer = _; peeked = c.in-Ok.ensures; adds = adds_same (text_found c.in-Ok.ensures (done_code c.in-Ok.field-0)) c.put_found.ensures }

pub returns-in-Err-Unbound : goal.returns-in-Err-Unbound
returns-in-Err-Unbound c =
    let peek = rw c.in-Err-Unbound.field-0-is at c.in-Err-Unbound.ensures in
    record { answer = _; peeked = peek; adds = adds_same (text_lost peek lost_code) c.put_lost.ensures }

pub returns-in-Err : goal.returns-in-Err
returns-in-Err c =
    let other = other_code c.in-Err.field-0 (search rules) in
    record { answer = _; peeked = c.in-Err.ensures; adds = adds_same (text_none c.in-Err.ensures (refused_code c.in-Err.field-0) other) (adds_none c.args.self.now) }
