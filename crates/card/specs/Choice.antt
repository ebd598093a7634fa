-- The promises leave no choice: two outcomes that one allows coincide. Assumes nothing.
use Rattle.std.specs.Prelude.{◌≡◌, refl, List, [], ◌∷◌, ◌++◌, ℕ, zero, suc, ◌≤◌, ◌<◌, length, take, drop, Option, Some, None, Result, Ok, Err}
use Rattle.std.proofs.Common.{sym, ap, subst, ◌∙◌, append_assoc, arith, take-append-drop, length-take-le}
use Rattle.std.proofs.Math.Decide.{dec_lt}
use Rattle.text.specs.declared.line.Line.{Line}
use Rattle.text.specs.Limits.{max_bytes}
use Rattle.text.specs.Lines.{written}
use Rattle.card.specs.declared.check.BadLine.{BadLine}
use Rattle.layout.specs.Bytes.{Bytes}
use Rattle.demands.proofs.NoChoice.{no_choice}
use Rattle.text.specs.declared.line.Op.{Op}
use Rattle.text.specs.Decimal.{whole}
use Rattle.promises.specs.Answers.{Numbers}
use Rattle.print.specs.declared.Out.{Out}
use Rattle.print.specs.declared.Out.TheVariants.{Number, Value}
use Rattle.print.specs.declared.Report.{Report}
use Rattle.print.specs.Printed.{out_text, by_of, by_text, op_line}
use Rattle.card.specs.Cards.{Whole, Made, Opens, Breaks, text, ruling, StopsAt, Checked}
use Rattle.card.specs.Running.{call_of, out_of, shown, Plain, Ran}

text_append : (ls ms : List Line) → text (ls ++ ms) ≡ text ls ++ text ms
text_append [] ms = refl
text_append (l ∷ ls) ms =
    ap (λ (t : List ℕ). written l ++ (10 ∷ t)) (text_append ls ms) ∙ sym (append_assoc (written l) (10 ∷ text ls) (text ms))

-- fewer first lines begin it too
opens_fewer : {K : List Line → Type 0} {s : List ℕ} {m : ℕ} (k : ℕ) → k ≤ m → Opens K s m → Opens K s k
opens_fewer {K} {s} {m} k h o =
    record {
      first = take k o.first;
      more = drop k o.first ++ o.more;
      rest = text (drop k o.first) ++ o.rest;
      whole = subst K (ap (λ (l : List Line). l ++ o.more) (sym parts) ∙ append_assoc (take k o.first) (drop k o.first) o.more) o.whole;
      count = length-take-le k o.first (omega (arith, o.count));
      bytes = o.bytes
          ∙ ap (λ (t : List ℕ). t ++ o.rest) (ap text (sym parts) ∙ text_append (take k o.first) (drop k o.first))
          ∙ append_assoc (text (take k o.first)) (text (drop k o.first)) o.rest;
    }
  where
    parts : take k o.first ++ drop k o.first ≡ o.first
    parts = take-append-drop k o.first

-- a text breaks at one line alone
breaks_one : {K : List Line → Type 0} {s : List ℕ} (n m : ℕ) → Breaks K s n → Breaks K s m → n ≡ m
breaks_one {K} {s} n m f g = go (dec_lt n m) (dec_lt m n)
  where
    go : Dec (n < m) → Dec (m < n) → n ≡ m
    go (yes h) d = absurd (f.here (opens_fewer (suc n) h g.before))
    go (no h) (yes d) = absurd (g.here (opens_fewer (suc m) d f.before))
    go (no h) (no d) = omega arith

-- check: one verdict for each card
module _ (s : List ℕ) where
  good_or_stops : (n : ℕ) → StopsAt s n → (length s ≤ max_bytes) × Made Whole s → ⊥
  good_or_stops zero h g = omega (arith, g.0)
  good_or_stops (suc n) h g = h.1.bad g.1

  stops_one : (n m : ℕ) → StopsAt s n → StopsAt s m → n ≡ m
  stops_one zero zero h g = refl
  stops_one zero (suc m) h g = absurd (omega (arith, g.0))
  stops_one (suc n) zero h g = absurd (omega (arith, h.0))
  stops_one (suc n) (suc m) h g = ap suc (breaks_one n m h.1 g.1)

  pub checked_one : (r q : Result (Unit {0}) BadLine) → Checked s (ruling r) → Checked s (ruling q) → r ≡ q
  checked_one (Ok u) (Ok v) f g = refl
  checked_one (Ok u) (Err b) f g = absurd (good_or_stops b.0 (g.bad refl) (f.good refl))
  checked_one (Err a) (Ok v) f g = absurd (good_or_stops a.0 (f.bad refl) (g.good refl))
  checked_one (Err a) (Err b) f g = ap (λ (n : ℕ). Err (record { 0 = n })) (stops_one a.0 b.0 (f.bad refl) (g.bad refl))

-- ---- run: one line, one store and one trace
out_text_lem : (o : Option Out) → Plain 0 o → out_text o ≡ whole (out_of o)
unfolding whole
out_text_lem None p = absurd p
out_text_lem (Some (Number v)) p = refl
out_text_lem (Some (Value v by)) p = refl

out_one : (c : ℕ) (a b : Option Out) → Plain c a → Plain c b → out_of a ≡ out_of b → out_text a ≡ out_text b
out_one zero a b p q e = out_text_lem a p ∙ ap whole e ∙ sym (out_text_lem b q)
out_one (suc c) None None p q e = refl
out_one (suc c) None (Some o) p q e = absurd q
out_one (suc c) (Some o) b p q e = absurd p

line_one : (r q : Report) → r.op ≡ q.op → shown r ≡ shown q → Plain r.code r.out → Plain q.code q.out → op_line r ≡ op_line q
unfolding op_line
line_one r q o e p p' =
    let code : r.code ≡ q.code = ap (λ (n : Numbers). n.code) e in
    let moves : r.moves ≡ q.moves = ap (λ (n : Numbers). n.moves) e in
    let events : r.events ≡ q.events = ap (λ (n : Numbers). n.events) e in
    let out : out_text r.out ≡ out_text q.out = out_one q.code r.out q.out (rw code at p) p' (ap (λ (n : Numbers). n.out) e) in
    let by : by_text (by_of r.out) ≡ by_text (by_of q.out) = ap (λ (n : Numbers). by_text n.by) e in
    rw (o, code, out, moves, events, by)

pub ran_one : (k : ℕ) (o : Op) (s t s' t' s'' t'' : List ℕ) (r q : Report) → Bytes s' → Bytes s'' → Ran k o s t s' t' r → Ran k o s t s'' t'' q
    → (op_line r ≡ op_line q) × (s' ≡ s'') × (t' ≡ t'')
ran_one k o s t s' t' s'' t'' r q b b' f g =
    let (e, bytes, events) = no_choice s t s' t' s'' t'' (shown r) (shown q) b b' (call_of o) f.call g.call in
    (line_one r q (f.number ∙ sym g.number) e f.plain g.plain, bytes, events)
