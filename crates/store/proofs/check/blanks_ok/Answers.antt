-- The bytes from the first blank node to the size are zero just where every node from made on is blank.
use mathlib.Core.Path.{◌≡◌, subst}
use Prim.Native.Nat.{ℕ}
use native.Mathlib.Omega.{arith}
use Rattle.layout.specs.Limits.{node_at}
use Rattle.layout.specs.Records.{vars, room, made}
use Rattle.layout.specs.Sound.{Says}
use Rattle.layout.specs.Fields.{fields_of}
use Rattle.layout.proofs.SoundLaws.{headed_fit}
use Rattle.layout.specs.Bytes.{Zeros}
use Rattle.layout.proofs.PlaceLaws.{zeros_blanks, blanks_zeros}
use Rattle.layout.proofs.CheckLaws.{says_map, lent_zeros}
use Rattle.store.proofs.check.blanks_ok.Goals as goal

pub slice_bounds-zeros-start : goal.slice_bounds-zeros-start
unfolding fields_of
slice_bounds-zeros-start c = omega arith

pub slice_bounds-zeros-end : goal.slice_bounds-zeros-end
slice_bounds-zeros-end c = omega arith

pub returns : goal.returns
unfolding fields_of
returns c =
    let s = c.args.s.now in
    let fit = headed_fit s c.requires in
    let r = c.zeros.result in
    let a = c.node_at-a.result in
    let e = c.node_at-e.result in
    let ea : a ≡ node_at (vars s) (made s) = omega arith in
    let ee : e ≡ node_at (vars s) (room s) = omega arith in
    let from = subst (λ (x : ℕ). Says r (Zeros s x e)) ea (lent_zeros s a e (omega arith) (omega arith) r c.zeros.ensures) in
    says_map r (zeros_blanks s (made s) fit) (blanks_zeros s (made s) fit) (subst (λ (x : ℕ). Says r (Zeros s (node_at (vars s) (made s)) x)) ee from)
