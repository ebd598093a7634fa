-- `why::explain::top_value` meets its contract. Assumes nothing.
use Rattle.std.proofs.Common.{rules}
use Rattle.why.proofs.Peeking.{top_seen, top_unseen, top_refused}
use Rattle.why.proofs.explain.top_value.Goals as goal

pub returns-in-Ok-Value : goal.returns-in-Ok-Value
returns-in-Ok-Value c =
    let seen = top_seen c.requires.0 c.requires.1 c.in-Ok-Value.seen (rw c.in-Ok-Value.field-0-is at c.in-Ok-Value.ensures) in search rules

pub returns-in-Ok : goal.returns-in-Ok
returns-in-Ok c = top_unseen c.requires.0 c.requires.1 c.in-Ok.field-0 (search rules) c.in-Ok.ensures

pub returns-in-Err : goal.returns-in-Err
returns-in-Err c = top_refused c.requires.0 c.requires.1 c.in-Err.field-0 c.in-Err.ensures
