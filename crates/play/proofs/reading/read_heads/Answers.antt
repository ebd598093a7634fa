-- `play::reading::read_heads` meets its contract. Assumes nothing.
use Rattle.std.proofs.Common.{Some, ◌≡◌, sym, subst, ◌∙◌, List, ◌∷◌, ℕ, ◌≤◌, length, drop, arith}
use native.Mathlib.Nat.{zero-add}
use Rattle.text.specs.declared.line.Line.{Line}
use Rattle.text.specs.declared.line.Line.TheVariants.{Vars, Nodes, Room}
use Rattle.text.specs.Finds.{Finds}
use Rattle.text.specs.Lines.{Leads}
use Rattle.play.specs.Steps.{Ahead}
use Rattle.play.proofs.Lines.{within, is_missing, is_found}
use Rattle.play.proofs.reading.read_heads.Goals as goal

-- ---- a heading has one number
vars-inj : (x y : ℕ) → Vars x ≡ Vars y → x ≡ y
vars-inj x y e = cc

nodes-inj : (x y : ℕ) → Nodes x ≡ Nodes y → x ≡ y
nodes-inj x y e = cc

room-inj : (x y : ℕ) → Room x ≡ Room y → x ≡ y
room-inj x y e = cc

-- the first line read is the first ahead
first : (card : List ℕ) {l x : Line} {n : ℕ} {ls : List Line} → Finds (Leads (drop 0 card)) (Some (l, n)) → Ahead card 0 (x ∷ ls)
    → (l ≡ x) × Ahead card n ls
first card {n = n} {ls = ls} f a =
    let q = is_found card 0 f a in
    (q.0, subst (λ (k : ℕ). Ahead card k ls) (zero-add n) q.1)

-- .. and ends within the card
first-within : (card : List ℕ) {l : Line} {n : ℕ} → Finds (Leads (drop 0 card)) (Some (l, n)) → n ≤ length card
first-within card {n = n} f = subst (λ (k : ℕ). k ≤ length card) (zero-add n) (within card 0 f (omega arith)).1

pub returns-in_err-vars : goal.returns-in_err-vars
returns-in_err-vars c = λ v n m ls a. rw c.from_residual.ensures (is_missing c.args.card.now 0 c.in_err-vars.ensures a)

pub returns-in_default : goal.returns-in_default
returns-in_default c = λ v n m ls a.
    let e : c.in_ok-vars.field-0.0 ≡ Vars v = (first c.args.card.now c.in_ok-vars.ensures a).0 in
    grind arith

pub returns-in_err-nodes : goal.returns-in_err-nodes
returns-in_err-nodes c = λ v n m ls a.
    let one = first c.args.card.now c.in_ok-vars.ensures a in
    rw c.from_residual-in_err-nodes.ensures (is_missing c.args.card.now _ c.in_err-nodes.ensures one.1)

pub returns-in_default-2 : goal.returns-in_default-2
returns-in_default-2 c = λ v n m ls a.
    let one = first c.args.card.now c.in_ok-vars.ensures a in
    let e : c.in_ok-nodes.field-0.0 ≡ Nodes n = (is_found c.args.card.now _ c.in_ok-nodes.ensures one.1).0 in
    grind arith

pub overflow_add-a : goal.overflow_add-a
overflow_add-a c =
    let one = first-within c.args.card.now c.in_ok-vars.ensures in
    record { fits = omega (arith, within c.args.card.now _ c.in_ok-nodes.ensures one) }

pub returns-in_err-room : goal.returns-in_err-room
returns-in_err-room c = λ v n m ls a.
    let one = first c.args.card.now c.in_ok-vars.ensures a in
    let two = is_found c.args.card.now _ c.in_ok-nodes.ensures one.1 in
    rw c.from_residual-in_err-room.ensures (is_missing c.args.card.now _ c.in_err-room.ensures two.1)

pub returns-in_default-3 : goal.returns-in_default-3
returns-in_default-3 c = λ v n m ls a.
    let one = first c.args.card.now c.in_ok-vars.ensures a in
    let two = is_found c.args.card.now _ c.in_ok-nodes.ensures one.1 in
    let e : c.in_ok-room.field-0.0 ≡ Room m = (is_found c.args.card.now _ c.in_ok-room.ensures two.1).0 in
    grind arith

pub overflow_add-result-2 : goal.overflow_add-result-2
overflow_add-result-2 c =
    let one = first-within c.args.card.now c.in_ok-vars.ensures in
    let two = (within c.args.card.now _ c.in_ok-nodes.ensures one).1 in
    record { fits = omega (arith, within c.args.card.now _ c.in_ok-room.ensures two) }

pub returns : goal.returns
returns c = λ v n m ls a.
    let one = first c.args.card.now c.in_ok-vars.ensures a in
    let two = is_found c.args.card.now _ c.in_ok-nodes.ensures one.1 in
    let three = is_found c.args.card.now _ c.in_ok-room.ensures two.1 in (
      vars-inj _ v (sym c.in-Vars-default.is-0 ∙ one.0),
      nodes-inj _ n (sym c.in-Nodes-default.is-0 ∙ two.0),
      room-inj _ m (sym c.in-Room-default.is-0 ∙ three.0),
      three.1,
    )
