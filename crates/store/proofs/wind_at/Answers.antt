-- `wind_at` writes the event of entering at the focus, and then the node. Assumes nothing.
use Prim.Native.Nat.{ℕ, ◌*◌}
use mathlib.Core.Path.{sym, ap, ◌∙◌}
use Rattle.layout.specs.Limits.{event_size}
use Rattle.layout.specs.Bytes.{splice}
use Rattle.layout.specs.Records.{focus}
use Rattle.layout.specs.Writes.{wind_b}
use Rattle.layout.specs.Events.{event_d}
use Rattle.layout.proofs.EventLaws.{told_first, told_entered}
use Rattle.promises.specs.declared.Answer.TheVariants.{Made}
use Rattle.promises.specs.Promises.{entering}
use Rattle.store.proofs.wind_at.Goals as goal

pub returns : goal.returns
unfolding wind_b
returns c =
    let s = c.args.s.now in record {
      value = ap (λ (n : ℕ). Made (record { node = n; events = 1 })) c.grow-n.ensures.0;
      s_after = (
        c.grow-n.ensures.1,
        c.note.ensures ∙ ap (λ (f : ℕ). splice c.args.t.now (event_size * 0) event_size (event_d 1 c.args.p f)) c.focus_of.ensures
            ∙ sym (told_first (entering s c.args.p) c.args.t.now ∙ told_entered 0 c.args.p (focus s) c.args.t.now),
      );
    }
