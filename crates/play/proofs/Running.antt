-- The run of a card goes on by a line: an event's, or the next operation's. Assumes nothing.
use Rattle.std.specs.Prelude.{Option, None, Some}
use mathlib.Core.Path.{◌≡◌, refl, sym, ap, subst, ◌∙◌}
use mathlib.Core.List.{List, [], ◌∷◌, ◌++◌, map, append_assoc, append-nil}
use Prim.Native.Nat.{ℕ, zero, suc, ◌+◌, ◌-◌, ◌*◌, ◌<◌}
use native.Mathlib.Omega.{arith}
use lib.ListN.{length, drop}
use Rattle.layout.specs.Limits.{event_size}
use Rattle.layout.specs.Bytes.{part}
use Rattle.layout.specs.Bytes.{Bytes}
use Rattle.text.specs.declared.line.Op.{Op}
use Rattle.text.specs.declared.line.Line.{Line}
use Rattle.text.specs.declared.line.Line.TheVariants.{Do}
use Rattle.text.specs.Finds.{Finds}
use Rattle.text.specs.Lines.{Leads}
use Rattle.print.specs.declared.Report.{Report}
use Rattle.print.specs.Printed.{op_line}
use Rattle.card.specs.Running.{Ran}
use Rattle.play.specs.declared.progress.Progress.{Progress}
use Rattle.play.specs.Output.{event_text, events_text, op_text, Runs, stay, step}
use Rattle.play.specs.Steps.{Ahead, SoFar}
use Rattle.play.proofs.Lines.{at_end, is_missing, is_found}

-- ---- one operation more
pub runs_more : {k k' : ℕ} {o : Op} {os rest : List Op} {s t s' t' s'' t'' text : List ℕ} {r : Report} → Runs k os s t text k' (o ∷ rest) s' t'
    → Ran (k' + 1) o s' t' s'' t'' r → Bytes s'' → Runs k os s t (text ++ op_text r t'') (k' + 1) rest s'' t''
runs_more {t'' = t''} {r = r} stay q b = rw (← append-nil (op_text r t'')) (step q b stay)
runs_more {t'' = t''} {r = r} (step {t' = u} {text = x} {r = p} f a g) q b = rw (append_assoc (op_text p u) x (op_text r t'')) (step f a (runs_more g q b))

-- ---- one event more
events_next : (t : List ℕ) (i n : ℕ) → 0 < n → events_text t i n ≡ event_text (part t (event_size * i) event_size) ++ events_text t (i + 1) (n - 1)
unfolding events_text
events_next t i zero h = absurd (omega arith)
events_next t i (suc n) h = let e : suc n - 1 ≡ n = omega arith in rw e

pub events_none : (t : List ℕ) (i n : ℕ) → n ≡ 0 → events_text t i n ≡ []
unfolding events_text
events_none t i zero h = refl
events_none t i (suc n) h = absurd (omega arith)

op_line_lem : (text : List ℕ) (r : Report) (t : List ℕ) → text ++ op_text r t ≡ (text ++ op_line r) ++ events_text t 0 r.events
unfolding op_text
op_line_lem text r t = sym (append_assoc text (op_line r) (events_text t 0 r.events))

do_inj : {o q : Op} → Do o ≡ Do q → o ≡ q
do_inj {o} {q} e = cc

module _ {card : List ℕ} {text : List ℕ} {p : Progress} {s t : List ℕ} (f : SoFar card text p s t) where
  pub tell_next : (u : ℕ) → 0 < p.left → SoFar card (text ++ event_text (part t (event_size * p.told) event_size)) (record { at = p.at; number = p.number; told = p.told + 1; left = p.left - 1; used = u }) s t
  tell_next u h =
      record {
        ops = f.ops;
        store = f.store;
        trace = f.trace;
        begins = f.begins;
        rest = f.rest;
        ahead = f.ahead;
        runs = subst (λ (x : List ℕ). Runs 0 f.ops f.store f.trace x p.number f.rest s t) e f.runs;
      }
    where
      e : text ++ events_text t p.told p.left ≡ (text ++ event_text (part t (event_size * p.told) event_size)) ++ events_text t (p.told + 1) (p.left - 1)
      e =
          ap (λ (x : List ℕ). text ++ x) (events_next t p.told p.left h)
          ∙ sym (append_assoc text (event_text (part t (event_size * p.told) event_size)) (events_text t (p.told + 1) (p.left - 1)))

  -- the line at the place is the next operation's
  module _ (some_left : p.at < length card) where
    never_missing : Finds (Leads (drop p.at card)) None → ⊥
    never_missing found = go f.rest f.ahead
      where
        go : (os : List Op) → Ahead card p.at (map Do os) → ⊥
        go [] a = at_end a some_left
        go (o ∷ os) a = is_missing card p.at found a

    is_op : {l : Line} {n : ℕ} → Finds (Leads (drop p.at card)) (Some (l, n)) → (o : Op) × (l ≡ Do o)
    is_op {l} {n} found = go f.rest f.ahead
      where
        go : (os : List Op) → Ahead card p.at (map Do os) → (o : Op) × (l ≡ Do o)
        go [] a = absurd (at_end a some_left)
        go (o ∷ os) a = (o, (is_found card p.at found a).0)

    -- so no other answer comes
    pub no_other : {r : Option (Line × ℕ)} → Finds (Leads (drop p.at card)) r → ((o : Op) (n : ℕ) → r ≡ Some (Do o, n) → ⊥) → ⊥
    no_other {r} found h = go r found h
      where
        go : (r : Option (Line × ℕ)) → Finds (Leads (drop p.at card)) r → ((o : Op) (n : ℕ) → r ≡ Some (Do o, n) → ⊥) → ⊥
        go None found h = never_missing found
        go (Some a) found h = let (o, e) = is_op found in h o a.1 (ap (λ (l : Line). Some (l, a.1)) e)

    module _ {l : Line} {n : ℕ} {o : Op} {s' t' : List ℕ} {r : Report}
        (found : Finds (Leads (drop p.at card)) (Some (l, n))) (is : l ≡ Do o) (none_left : p.left ≡ 0)
        (ran : Ran (p.number + 1) o s t s' t' r) (memory : Bytes s') where
      pub run_next : (u : ℕ) → SoFar card (text ++ op_line r) (record { at = p.at + n; number = p.number + 1; told = 0; left = r.events; used = u }) s' t'
      run_next u = go f.rest f.ahead f.runs
        where
          line : text ++ events_text t p.told p.left ≡ text
          line = ap (λ (x : List ℕ). text ++ x) (events_none t p.told p.left none_left) ∙ append-nil text

          go : (os : List Op) → Ahead card p.at (map Do os)
              → Runs 0 f.ops f.store f.trace (text ++ events_text t p.told p.left) p.number os s t
              → SoFar card (text ++ op_line r) (record { at = p.at + n; number = p.number + 1; told = 0; left = r.events; used = u }) s' t'
          go [] a g = absurd (at_end a some_left)
          go (x ∷ os) a g =
              let same : o ≡ x = do_inj (sym is ∙ (is_found card p.at found a).0) in
              record {
                ops = f.ops;
                store = f.store;
                trace = f.trace;
                begins = f.begins;
                rest = os;
                ahead = (is_found card p.at found a).1;
                runs = subst (λ (x : List ℕ). Runs 0 f.ops f.store f.trace x (p.number + 1) os s' t') (op_line_lem text r t')
                    (runs_more (subst (λ (y : List ℕ). Runs 0 f.ops f.store f.trace y p.number (x ∷ os) s t) line g)
                    (subst (λ (y : Op). Ran (p.number + 1) y s t s' t' r) same ran) memory);
              }
