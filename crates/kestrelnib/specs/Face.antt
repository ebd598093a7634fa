-- What crosses to C: the structs' fields are document 01's numbers, and what is told of an environment; the limits by their place. Assumes nothing.
use Rattle.std.specs.Prelude.{◌≡◌, ℕ, [], ◌∷◌, get_or}
use Rattle.std.proofs.Common.{sym, ap, ◌∙◌}
use Rattle.rules.specs.Basic.{or_top}
use Rattle.layout.specs.Limits.{max_vars, max_nodes, header, cell_size, node_size, event_size}
use Rattle.promises.specs.Answers.{Numbers}
use Rattle.promises.specs.declared.Told.{Told}
use Rattle.kestrelnib.specs.declared.Reply.{Reply}
use Rattle.kestrelnib.specs.declared.Env.{Env}

-- `by` is 0 where there is none: on a refusal, and from calls that answer no value; so are `thunk` and `event` where no event is
-- handed over
unfoldable pub reply_of : Numbers → Reply
reply_of n = record { out = n.out; code = n.code; moves = n.moves; events = n.events; by = or_top n.by; thunk = n.thunk; event = n.event }

-- the reply r hands over numbers of which P holds
abbrev pub Hands : Reply → (Numbers → Type 0) → Type 0
Hands r P = (n : Numbers) × (r ≡ reply_of n) × P n

-- where the store's promise leaves no choice, neither does what is handed over: one reply, and what else is one
pub hands_one : {P Q : Numbers → Type 0} {Same : Type 0} {r q : Reply} → ((n m : Numbers) → P n → Q m → (n ≡ m) × Same) → Hands r P → Hands q Q → (r ≡ q) × Same
hands_one one (n, e, p) (m, f, q) = let (same, rest) = one n m p q in (e ∙ ap reply_of same ∙ sym f, rest)

-- what the fields of an environment's struct tell, each the field of its name
unfoldable pub told_of : Env → Told
told_of r = record { value = r.value; code = r.code; kind = r.kind; parent = r.parent; first = r.first; second = r.second; state = r.state }

-- two that tell the same are one
pub told_once : {r q : Env} → told_of r ≡ told_of q → r ≡ q
unfolding told_of
told_once e = ap (λ (t : Told). record { value = t.value; code = t.code; kind = t.kind; parent = t.parent; first = t.first; second = t.second; state = t.state }) e

-- most variables, most environments; bytes of the header, of a cell, of a node, of an event; 0 past these
unfoldable pub limit : ℕ → ℕ
limit n = get_or (max_vars ∷ max_nodes ∷ header ∷ cell_size ∷ node_size ∷ event_size ∷ []) n 0
