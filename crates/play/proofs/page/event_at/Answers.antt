-- `play::page::event_at` meets its contract. Assumes nothing.
use Rattle.std.proofs.Common.{◌∙◌, ◌*◌}
use Rattle.layout.specs.Limits.{event_size}
use Rattle.layout.proofs.Bytes.{seen}
use Rattle.play.proofs.page.event_at.Goals as goal

pub returns : goal.returns
returns c = c.copy_from_slice.ensures.after ∙ seen c.args.trace.now (event_size * c.args.i) event_size
