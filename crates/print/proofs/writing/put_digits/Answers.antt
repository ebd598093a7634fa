-- `print::writing::put_digits` meets its contract: each turn writes the last digit of the rest. Assumes nothing.
use borrow.Author.Rules.{rules}
use mathlib.Core.Path.{◌≡◌, ◌∙◌}
use mathlib.Core.List.{List, [], append-nil}
use Prim.Native.Nat.{ℕ, ◌+◌, ◌-◌, ◌<◌, ◌≤◌, ◌/◌, ◌%◌}
use native.Mathlib.Omega.{arith}
use lib.ListN.{length, set, length-set, drop_of_length-le}
use Rattle.text.specs.Decimal.{digit, decimal}
use Rattle.text.specs.DecimalLaws.{decimal_split}
use Rattle.print.proofs.Digits.{only_digit, one_place, more_places, some_place}
use Rattle.print.proofs.Buffer.{finished, stored_last}
use Rattle.print.proofs.writing.put_digits.Goals as goal

-- the last digit of m is written at p: the digits of what is left are still to be written, or none
module _ (out : List ℕ) (m p : ℕ) (e : p + 1 ≡ length (decimal m)) (g : p < length out) where
  one_less : 10 ≤ m → finished (set out p (digit (m % 10))) (decimal (m / 10)) ≡ finished out (decimal m)
  one_less h =
      let f : length (decimal m) ≡ length (decimal (m / 10)) + 1 = more_places m h in
      rw (decimal_split m h) (stored_last out (decimal (m / 10)) (digit (m % 10)) p (omega arith) g)

  none_left : m / 10 ≡ 0 → finished (set out p (digit (m % 10))) [] ≡ finished out (decimal m)
  none_left h =
      let f : length (decimal m) ≡ 1 = one_place m h in
      rw (only_digit m h) (stored_last out [] (digit (m % 10)) p (omega arith) g)

pub loop-rest-init : goal.loop-rest-init
loop-rest-init c = (search rules, search rules, let h : length c.args.out.now ≤ length (decimal c.args.n) = search rules in rw (drop_of_length-le c.args.out.now h) (append-nil _))

pub overflow_sub-p : goal.overflow_sub-p
overflow_sub-p c = omega (arith, some_place c.loop-rest.rest)

pub bounds-out-p : goal.bounds-out-p
bounds-out-p c = omega (arith, some_place c.loop-rest.rest)

pub returns-then-rest-eq0 : goal.returns-then-rest-eq0
returns-then-rest-eq0 c =
    let turn = c.loop-rest in
    let room : 0 < length (decimal turn.rest) = some_place turn.rest in
    let last = none_left turn.out turn.rest (turn.p - 1) (omega arith) (omega arith) (search rules) in
    rw c.glyph.ensures (last ∙ turn.invariant.2)

pub loop-rest-preserved : goal.loop-rest-preserved
loop-rest-preserved c =
    let turn = c.loop-rest in
    let room : 0 < length (decimal turn.rest) = some_place turn.rest in
    let less = one_less turn.out turn.rest (turn.p - 1) (omega arith) (omega arith) (search rules) in
    (omega (arith, more_places turn.rest (search rules)), simp length-set (search rules), rw c.glyph.ensures (less ∙ turn.invariant.2))
