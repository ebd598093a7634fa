-- `note` meets its contract: the part that was lent comes back as the event.
use Rattle.std.proofs.Common.{◌∙◌, refl}
use Rattle.layout.proofs.Bytes.{lent_at}
use Rattle.layout.specs.Events.{bit, event_d}
use Rattle.store.proofs.records.note.Goals as goal

pub returns : goal.returns
returns c =
    let e = c.args.e in
    lent_at (λ p. event_d (bit e.entering) e.thunk e.place) _ _ _ _ _ refl (c.copy_from_slice.ensures.after ∙ c.event_bytes.ensures)
