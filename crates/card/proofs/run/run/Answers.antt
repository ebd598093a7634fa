-- `card::run::run` meets its contract: the report is that of the call's answer. Assumes nothing.
use Rattle.card.specs.Roomy.{ran}
use Rattle.card.proofs.run.run.Goals as goal

pub returns : goal.returns
returns c =
    let done = ran _ _ _ _ _ _ c.call.result _ c.reported.ensures c.call.ensures in
    record { ran = done.0; event_size_in_bounds = done.1 }
