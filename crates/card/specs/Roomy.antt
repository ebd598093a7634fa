-- The run of an operation from its call's promise; a call that is no stride of a walk hands no event over, and its events are within
-- the room of the trace that it was lent. Assumes nothing.
use Rattle.std.specs.Prelude.{◌≡◌, refl, false, List, [], ℕ, ◌*◌, ◌≤◌, length, Result}
use Rattle.std.proofs.Common.{ap, arith}
use Rattle.rules.proofs.Basic.{clash}
use Rattle.rules.specs.Moves.{Event}
use Rattle.rules.specs.Act.{Call}
use Rattle.rules.proofs.Demands.{act_roomy}
use Rattle.layout.specs.Limits.{event_size}
use Rattle.promises.specs.declared.Answer.{Answer}
use Rattle.promises.specs.declared.Refusal.{Refusal}
use Rattle.promises.specs.Answers.{Numbers, numbers, flat}
use Rattle.promises.specs.Promises.{world, room_for}
use Rattle.promises.specs.Calls.{Promised, Called, Code, is_done_lem, is_refused}
use Rattle.promises.proofs.Calls.{called, code_of_lem, done_sound}
use Rattle.demands.specs.Tests.{size_at, handed_by}
use Rattle.demands.specs.AsAct.{acted, numbers_of, enters_in, thunk_in}
use Rattle.demands.proofs.AsAct.{as_act}
use Rattle.text.specs.declared.line.Op.{Op}
use Rattle.print.specs.declared.Report.{Report}
use Rattle.card.specs.Running.{call_of, is_stride, no_stride, Unhanded, shown, Ran, report_of, shows, plainly}

none_handed : (c : Call) (es : List Event) → is_stride c ≡ false → handed_by c es ≡ []
none_handed (Call.ask q) es h = refl
none_handed (Call.make k) es h = refl
none_handed (Call.set x v) es h = refl
none_handed (Call.switch g) es h = refl
none_handed (Call.stride k) es h = clash refl h

-- no event is handed over, and no more are told than the trace has room for
roomy : (c : Call) (s t s' t' : List ℕ) (n : Numbers) → is_stride c ≡ false → Promised c s t s' t' n → Unhanded n × (n.events * event_size ≤ length t)
unfolding acted numbers_of room_for
roomy c s t s' t' n h p = go (called c s t s' t' n p) (code_of_lem n)
  where
    go : Called c s t s' t' n → Code n → Unhanded n × (n.events * event_size ≤ length t)
    go q (is_refused r) = rw (q.refused r).0 ((refl, refl), omega arith)
    go q (is_done_lem e) =
        let told : n ≡ numbers_of c (acted c s t) = (as_act c s t s' t' n (done_sound q e) q).answer in
        let none : handed_by c (acted c s t).events ≡ [] = none_handed c (acted c s t).events h in
        rw told ((ap enters_in none, ap thunk_in none), omega (arith, act_roomy (size_at s) (room_for t) c (world s) (λ is. clash (ap is_stride is) h)))

-- the report of the call's answer
pub ran : (k : ℕ) (o : Op) (s t s' t' : List ℕ) (a : Result Answer Refusal) (r : Report) → r ≡ report_of k (flat (numbers a)) → Promised (call_of o) s t s' t' (numbers a)
    → Ran k o s t s' t' r × (r.events * event_size ≤ length t)
unfolding report_of flat
ran k o s t s' t' a r e p =
    let (none, room) = roomy (call_of o) s t s' t' (numbers a) (no_stride o) p in
    let q : Promised (call_of o) s t s' t' (shown (report_of k (flat (numbers a)))) = rw (shows k a none) p in
    rw e (record { number = refl; call = q; plain = plainly k a }, room)
