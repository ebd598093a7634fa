-- Its numbers one by one are the header.
use mathlib.Core.Path.{ap, ◌∙◌}
use mathlib.Core.List.{List}
use Prim.Native.Nat.{ℕ}
use Rattle.layout.specs.Limits.{none_n}
use Rattle.layout.specs.Records.{with_head}
use Rattle.layout.proofs.PlaceLaws.{header_put}
use Rattle.store.proofs.opening.put_head.Goals as goal

pub returns : goal.returns
returns c =
    let two = c.set_room.ensures ∙ ap (λ (b : List ℕ). with_head b 1 c.args.n) c.set_vars.ensures in
    let three = c.set_made.ensures ∙ ap (λ (b : List ℕ). with_head b 2 1) two in
    let four = c.set_focus.ensures ∙ ap (λ (b : List ℕ). with_head b 3 0) three in
    let five = c.set_target.ensures ∙ ap (λ (b : List ℕ). with_head b 4 none_n) four in
    c.set_handed.ensures ∙ ap (λ (b : List ℕ). with_head b 5 none_n) five
    ∙ header_put c.args.s.now c.args.v c.args.n 1 0 none_n none_n c.requires
