-- `text::decimal::read_whole` meets its contract. Assumes nothing.
use Rattle.std.proofs.Common.{refl, ◌≡◌, get_or, rules}
use Rattle.text.proofs.Signed.{no_first, minus_none, minus_some, plain_none, plain_some}
use Rattle.text.proofs.decimal.read_whole.Goals as goal
use Rattle.text.proofs.decimal.read_whole.Goals.{in_default-via-then-s-lt1, in_default-via-else-s-lt1+in_default-1}

pub returns-in_ok-read_natural-in-45 : goal.returns-in_ok-read_natural-in-45
returns-in_ok-read_natural-in-45 c =
    let e : get_or c.args.s.now 0 0 ≡ 45 = search rules in
    minus_some c.in-45.len_at_least e c.in_ok-read_natural-in-45.ensures refl c.checked_sub_unsigned.ensures

pub returns-in_err-read_natural-in-45 : goal.returns-in_err-read_natural-in-45
returns-in_err-read_natural-in-45 c =
    let e : get_or c.args.s.now 0 0 ≡ 45 = search rules in
    rw c.from_residual.ensures (minus_none c.in-45.len_at_least e c.in_err-read_natural-in-45.ensures refl)

pub returns-in_ok-read_natural-in_default : goal.returns-in_ok-read_natural-in_default
returns-in_ok-read_natural-in_default c =
    let n : get_or c.args.s.now 0 0 ≡ 45 → ⊥ = elim c.in_default.branch [ in_default-via-then-s-lt1 w ↦ search (rules, no_first) | in_default-via-else-s-lt1+in_default-1 w ↦ search rules ] in
    plain_some n c.in_ok-read_natural-in_default.ensures refl c.checked_add_unsigned.ensures

pub returns-in_err-read_natural-in_default : goal.returns-in_err-read_natural-in_default
returns-in_err-read_natural-in_default c =
    let n : get_or c.args.s.now 0 0 ≡ 45 → ⊥ = elim c.in_default.branch [ in_default-via-then-s-lt1 w ↦ search (rules, no_first) | in_default-via-else-s-lt1+in_default-1 w ↦ search rules ] in
    rw c.from_residual-in_err-read_natural-in_default.ensures (plain_none n c.in_err-read_natural-in_default.ensures refl)
