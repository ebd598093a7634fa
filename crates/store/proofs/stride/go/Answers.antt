-- The moves by the depths (`moves_depth`), and the walk's own promise.
use Rattle.std.proofs.Common.{◌≡◌, ap, ◌∙◌, arith, ◌+◌, ◌-◌, ◌*◌, ℕ, List}
use Rattle.layout.specs.Records.{focus, node_of, depth_n}
use Rattle.layout.specs.Sound.{Whole}
use Rattle.layout.specs.Made.{IsMade}
use Rattle.layout.specs.Routes.{moves_to, meeting}
use Rattle.layout.proofs.Reading.{fit_made}
use Rattle.layout.proofs.WalkLaws.{focus_made}
use Rattle.layout.proofs.RouteLaws.{meeting_on_way}
use Rattle.layout.proofs.FarLaws.{depth_is, depth_small, moves_depth}
use Rattle.layout.proofs.LegLaws.{moved_walk}
use Rattle.store.proofs.stride.go.Goals as goal

-- the depths read tell the moves
module _ (s : List ℕ) (ok : Whole s) (to : ℕ) (made : IsMade s to) {f m d e h : ℕ} (from : f ≡ focus s) (met : m ≡ meeting s to)
    (one : d ≡ depth_n (node_of s f)) (two : e ≡ depth_n (node_of s to)) (three : h ≡ depth_n (node_of s m)) where
  counted : moves_to s to + 2 * h ≡ d + e
  counted =
      let first = one ∙ ap (λ n. depth_n (node_of s n)) from ∙ depth_is s ok (focus s) (focus_made s ok) in
      let second = two ∙ depth_is s ok to made in
      let third = three ∙ ap (λ n. depth_n (node_of s n)) met ∙ depth_is s ok (meeting s to) (meeting_on_way s ok to made).made in
      omega (arith, first, second, third, moves_depth s ok to made)

pub depth_of-requires : goal.depth_of-requires
depth_of-requires c = let ok = c.requires.0 in rw c.focus_of-f.ensures (fit_made _ ok _ (focus_made _ ok))

pub depth_of-requires-2 : goal.depth_of-requires-2
depth_of-requires-2 c = let (ok, (made, met)) = c.requires in fit_made _ ok _ made

pub depth_of-requires-3 : goal.depth_of-requires-3
depth_of-requires-3 c = let (ok, (made, met)) = c.requires in rw met (fit_made _ ok _ (meeting_on_way _ ok _ made).made)

pub overflow_add-moves : goal.overflow_add-moves
overflow_add-moves c =
    let (ok, (made, met)) = c.requires in
    let depth : c.depth_of.result ≡ depth_n (node_of c.args.s.now (focus c.args.s.now)) = c.depth_of.ensures ∙ ap (λ n. depth_n (node_of c.args.s.now n)) c.focus_of-f.ensures in
    record { fits = omega (arith, depth, c.depth_of-2.ensures, depth_small _ ok _ (focus_made _ ok), depth_small _ ok _ made) }

pub overflow_mul-moves : goal.overflow_mul-moves
overflow_mul-moves c =
    let (ok, (made, met)) = c.requires in
    let depth : c.depth_of-3.result ≡ depth_n (node_of c.args.s.now (meeting c.args.s.now c.args.to)) = c.depth_of-3.ensures ∙ ap (λ n. depth_n (node_of c.args.s.now n)) met in
    record { fits = omega (arith, depth, depth_small _ ok _ (meeting_on_way _ ok _ made).made) }

pub overflow_sub-moves : goal.overflow_sub-moves
overflow_sub-moves c =
    let (ok, (made, met)) = c.requires in
    omega (arith, counted _ ok _ made c.focus_of-f.ensures met c.depth_of.ensures c.depth_of-2.ensures c.depth_of-3.ensures)

pub returns : goal.returns
returns c =
    let s = c.args.s.now in
    let (ok, (made, met)) = c.requires in
    let moves : c.depth_of.result + c.depth_of-2.result - 2 * c.depth_of-3.result ≡ moves_to s c.args.to = omega (arith, counted s ok _ made c.focus_of-f.ensures met c.depth_of.ensures c.depth_of-2.ensures c.depth_of-3.ensures) in
    record { value = cc; moved = moved_walk _ ok made c.walk.ensures }
