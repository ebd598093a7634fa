-- `card::check::check` meets its contract. The loop's invariant: the verdict on the rest is the verdict on the whole. Assumes nothing.
use mathlib.Core.Bool.{not}
use borrow.Author.Rules.{rules}
use borrow.Author.Tests.{not-true, not-false}
use mathlib.Core.Path.{◌≡◌, refl, ap}
use mathlib.Core.List.{List, []}
use Prim.Native.Nat.{ℕ, ◌<◌}
use native.Mathlib.Omega.{arith}
use lib.ListN.{length, drop, length-drop, drop_of_length-le}
use lib.Seq.{drop-drop}
use Rattle.text.specs.Finds.{got}
use Rattle.card.proofs.Rest.{at_place, further}
use Rattle.card.proofs.Following.{none_follows, other_follows, follows, early, ends, too_long, checked}
use Rattle.card.proofs.check.check.Goals as goal

some_left : (s : List ℕ) (at : ℕ) → at < length s → drop at s ≡ [] → ⊥
some_left s at h e = omega (arith, ap length e, length-drop at s)

pub returns-then-card-gt-BYTES : goal.returns-then-card-gt-BYTES
returns-then-card-gt-BYTES c = too_long c.if-card-gt-BYTES.true

pub loop-at-init : goal.loop-at-init
loop-at-init c = (search rules, search rules, λ r j. j)

pub returns-in_default : goal.returns-in_default
returns-in_default c =
    checked _ (search rules)
    (c.loop-at.invariant.2 _
    (none_follows (some_left c.args.card.now c.loop-at.at c.loop-at-test.true)
    (at_place c.args.card.now c.loop-at.at c.in_default.ensures)))

pub returns-then-not-may_stand : goal.returns-then-not-may_stand
returns-then-not-may_stand c =
    checked _ (search rules)
    (c.loop-at.invariant.2 _
    (other_follows (some_left c.args.card.now c.loop-at.at c.loop-at-test.true)
    (at_place c.args.card.now c.loop-at.at c.in-Some.ensures)
    (c.may_stand.ensures.fails (not-true _ (ap not c.if-not-may_stand.true)))))

pub ops_from-ops-requires : goal.ops_from-ops-requires
ops_from-ops-requires c = (got (at_place c.args.card.now c.loop-at.at c.in-Some.ensures) refl).range

pub overflow_add-at : goal.overflow_add-at
overflow_add-at c =
    let m = further c.args.card.now c.loop-at.at (search rules) (at_place c.args.card.now c.loop-at.at c.in-Some.ensures) in
    record { fits = omega (arith, m.1) }

pub loop-at-smaller : goal.loop-at-smaller
loop-at-smaller c =
    let m = further c.args.card.now c.loop-at.at (search rules) (at_place c.args.card.now c.loop-at.at c.in-Some.ensures) in
    omega (arith, m.0, m.1)

pub loop-at-preserved : goal.loop-at-preserved
loop-at-preserved c =
    let f = at_place c.args.card.now c.loop-at.at c.in-Some.ensures in
    let m = further c.args.card.now c.loop-at.at (search rules) f in (
      m.1,
      omega (arith, m.0),
      λ r j. c.loop-at.invariant.2 r
          (follows f (c.may_stand.ensures.holds (not-false _ (ap not c.if-not-may_stand.false)))
          (rw (← c.ops_from-ops.ensures, drop-drop c.in-Some.n c.loop-at.at c.args.card.now) j)),
    )

pub returns-then-lines-ops : goal.returns-then-lines-ops
returns-then-lines-ops c =
    checked _ (search rules) (c.loop-at.invariant.2 _ (early c.if-lines-ops.true (drop_of_length-le c.args.card.now c.loop-at-test.false)))

pub returns : goal.returns
returns c =
    checked _ (search rules) (c.loop-at.invariant.2 _ (ends c.if-lines-ops.false (drop_of_length-le c.args.card.now c.loop-at-test.false)))
