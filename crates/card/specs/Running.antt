-- What the run of one operation does: the call that it stands for, and what is printed of the answer (document 01, "The card").
-- Assumes nothing: these are definitions, and that a report shows its answer's numbers.
use Rattle.std.specs.Prelude.{◌≡◌, Bool, List, ℤ, pos, Option, Some, None, Result, Ok, Err}
use Rattle.std.proofs.Math.Path.{refl, sym}
use Rattle.std.proofs.Common.{◌∙◌, arith}
use Rattle.std.proofs.Math.Bool.{true, false}
use Rattle.std.proofs.Math.Option as maybe
use Prim.Native.Nat.{ℕ, zero, suc}
use Rattle.rules.specs.Act.{Ask, Child, Goal, Call}
use Rattle.promises.specs.declared.Answer.{Answer}
use Rattle.promises.specs.declared.Refusal.{Refusal}
use Rattle.promises.specs.declared.Handed.{Handed}
use Rattle.promises.specs.declared.Flat.{Flat}
use Rattle.promises.specs.Answers.{Numbers, stepped, numbers, decider, flat}
use Rattle.text.specs.declared.line.Op.{Op}
use Rattle.print.specs.declared.Out.{Out}
use Rattle.print.specs.declared.Out.TheVariants.{Number, Value}
use Rattle.print.specs.declared.Report.{Report}
use Rattle.print.specs.Printed.{by_of}
use Rattle.promises.specs.Calls.{Promised}

-- the call that an operation stands for
abbrev pub call_of : Op → Call
call_of (Op.Bind x v) = Call.make (Child.bind x v)
call_of (Op.Wind p q) = Call.make (Child.wind p q)
call_of (Op.Look x) = Call.ask (Ask.look x)
call_of (Op.Set x v) = Call.set x v
call_of Op.Here = Call.ask Ask.here
call_of (Op.Goto a) = Call.switch (Goal.goto a)
call_of Op.Back = Call.switch Goal.back
call_of (Op.Peek a x) = Call.ask (Ask.peek a x)

-- no operation begins a walk, goes on with one or drops one (document 02, W5)
abbrev pub is_stride : Call → Bool
is_stride (Call.ask q) = false
is_stride (Call.make k) = false
is_stride (Call.set x v) = false
is_stride (Call.switch g) = false
is_stride (Call.stride k) = true

pub no_stride : (o : Op) → is_stride (call_of o) ≡ false
no_stride (Op.Bind x v) = refl
no_stride (Op.Wind p q) = refl
no_stride (Op.Look x) = refl
no_stride (Op.Set x v) = refl
no_stride Op.Here = refl
no_stride (Op.Goto a) = refl
no_stride Op.Back = refl
no_stride (Op.Peek a x) = refl

-- ---- the numbers that a report shows; `none` stands for the 0 beside a refusal's number, and for nothing else; no event is
-- handed over
abbrev pub out_of : Option Out → ℤ
out_of None = pos 0
out_of (Some (Number v)) = v
out_of (Some (Value v by)) = v

abbrev pub shown : Report → Numbers
shown r = record { code = r.code; out = out_of r.out; moves = r.moves; events = r.events; by = by_of r.out; event = 0; thunk = 0 }

abbrev pub Plain : ℕ → Option Out → Type 0
Plain zero None = ⊥
Plain zero (Some o) = Unit {0}
Plain (suc k) None = Unit {0}
Plain (suc k) (Some o) = ⊥

-- the operation o with the number k, run from the store s and the trace t to s' and t', with the report r
pub record Ran (k : ℕ) (o : Op) (s t s' t' : List ℕ) (r : Report) : Type 0 where
  pub number : r.op ≡ k
  pub call : Promised (call_of o) s t s' t' (shown r)
  pub plain : Plain r.code r.out

-- ---- the report of an answer's numbers
unfoldable pub out_by : ℕ → ℤ → Option ℕ → Option Out
out_by zero v (Some by) = Some (Value v by)
out_by zero v None = Some (Number v)
out_by (suc k) v by = None

unfoldable pub report_of : ℕ → Flat → Report
report_of op n = record { op = op; code = n.code; out = out_by n.code n.out n.by; moves = n.moves; events = n.events }

-- beside a refusal's number stands nothing
refused_plain : (a : Result Answer Refusal) (k : ℕ) → (numbers a).code ≡ suc k → ((numbers a).out ≡ pos 0) × ((numbers a).by ≡ maybe.none)
unfolding numbers
refused_plain (Ok Answer.Opened) k e = absurd (omega arith)
refused_plain (Ok (Answer.Number n)) k e = absurd (omega arith)
refused_plain (Ok (Answer.Made m)) k e = absurd (omega arith)
refused_plain (Ok (Answer.Value v)) k e = absurd (omega arith)
refused_plain (Ok (Answer.Switched w)) k e = absurd (omega arith)
refused_plain (Ok (Answer.Stepped w)) k e = go w.handed e
  where
    go : (h : Option Handed) → (stepped w.focus w.moves h).code ≡ suc k → ((stepped w.focus w.moves h).out ≡ pos 0) × ((stepped w.focus w.moves h).by ≡ maybe.none)
    go None e = absurd (omega arith)
    go (Some h) e = absurd (omega arith)
refused_plain (Err r) k e = (refl, refl)

-- no event is handed over
abbrev pub Unhanded : Numbers → Type 0
Unhanded n = (n.event ≡ 0) × (n.thunk ≡ 0)

-- it shows the answer's numbers where no event is handed over, and none beside a refusal alone
module _ (op : ℕ) (a : Result Answer Refusal) where
  abbrev n : Numbers
  n = numbers a

  out_shown : (c : ℕ) → n.code ≡ c → (b : maybe.Option ℕ) → n.by ≡ b → (out_of (out_by c n.out (decider b)) ≡ n.out) × (by_of (out_by c n.out (decider b)) ≡ b)
  unfolding out_by
  out_shown zero e maybe.none f = (refl, refl)
  out_shown zero e (maybe.some by) f = (refl, refl)
  out_shown (suc k) e b f = let (o, y) = refused_plain a k e in (sym o, sym y ∙ f)

  pub shows : Unhanded n → shown (report_of op (flat n)) ≡ n
  unfolding report_of flat
  shows (e, f) = let (o, y) = out_shown n.code refl n.by refl in λ i. record { code = n.code; out = o i; moves = n.moves; events = n.events; by = y i; event = sym e i; thunk = sym f i }

  pub plainly : Plain (report_of op (flat n)).code (report_of op (flat n)).out
  unfolding report_of flat out_by
  plainly = go n.code n.by
    where
      go : (c : ℕ) (b : maybe.Option ℕ) → Plain c (out_by c n.out (decider b))
      go zero (maybe.some by) = tt
      go zero maybe.none = tt
      go (suc k) b = tt
