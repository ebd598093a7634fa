-- `play::page::put_told` meets its contract. Assumes nothing.
use mathlib.Core.Path.{◌≡◌, ap, ◌∙◌}
use mathlib.Core.List.{List}
use Prim.Native.Nat.{ℕ}
use native.Mathlib.Omega.{arith}
use Rattle.layout.specs.declared.Event.{Event}
use Rattle.layout.specs.Events.{event_in}
use Rattle.print.specs.Printed.{event_line}
use Rattle.print.proofs.Buffer.{reworded}
use Rattle.play.specs.Output.{event_text}
use Rattle.play.proofs.Texts.{line_long, front}
use Rattle.play.proofs.page.put_told.Goals as goal

the-line : (e : Event) (p q : List ℕ) → e ≡ event_in q → q ≡ p → event_line e.entering e.thunk e.place ≡ event_text p
unfolding event_text
the-line e p q f g = ap (λ (x : Event). event_line x.entering x.thunk x.place) (f ∙ ap event_in g)

pub returns : goal.returns
returns c =
    let line = c.put_event-end.ensures in
    let is = front line.wrote ∙ ap (event_line _ _) c.from.ensures ∙ the-line _ _ _ c.event_in-event.ensures c.event_at.ensures in
    reworded is (c.put_line.ensures.roomy (omega (arith, line_long line.wrote, line.upper_bound, c.requires.1)))
