-- What operations print leaves no choice: from one store and one trace they print one text. Assumes nothing.
use Rattle.std.specs.Prelude.{◌≡◌, refl, List, [], ◌∷◌, ◌++◌, ℕ, ◌+◌}
use Rattle.std.proofs.Common.{ap}
use Rattle.layout.specs.Bytes.{Bytes}
use Rattle.promises.specs.Answers.{Numbers}
use Rattle.demands.proofs.NoChoice.{no_choice}
use Rattle.text.specs.declared.line.Op.{Op}
use Rattle.print.specs.declared.Report.{Report}
use Rattle.card.specs.Running.{call_of, shown, Ran}
use Rattle.card.specs.Choice.{ran_one}
use Rattle.play.specs.Output.{events_text, op_text, Runs, stay, step}

-- one operation: its text, the store and the trace
text_one : (k : ℕ) (o : Op) (s t s' t' s'' t'' : List ℕ) (r q : Report) → Bytes s' → Bytes s'' → Ran k o s t s' t' r → Ran k o s t s'' t'' q
    → (op_text r t' ≡ op_text q t'') × (s' ≡ s'') × (t' ≡ t'')
unfolding op_text
text_one k o s t s' t' s'' t'' r q b b' f g =
    let (line, store, trace) = ran_one k o s t s' t' s'' t'' r q b b' f g in
    let numbers : shown r ≡ shown q = (no_choice s t s' t' s'' t'' (shown r) (shown q) b b' (call_of o) f.call g.call).0 in
    let events : r.events ≡ q.events = ap (λ (n : Numbers). n.events) numbers in
    ((λ i. line i ++ events_text (trace i) 0 (events i)), store, trace)

pub runs_one : {k k' k'' : ℕ} {os : List Op} {s t s' t' s'' t'' x y : List ℕ} → Runs k os s t x k' [] s' t' → Runs k os s t y k'' [] s'' t'' → x ≡ y
runs_one stay stay = refl
runs_one {k = k} {k'' = k''} {os = o ∷ os} {s = s} {t = t} {s'' = s''} {t'' = t''} (step {s' = u} {t' = v} {text = x} {r = r} f b g) (step {s' = u'} {t' = v'} {text = y} {r = q} f' b' g') =
    let (line, store, trace) = text_one (k + 1) o s t u v u' v' r q b b' f f' in
    let same : Runs (k + 1) os u v y k'' [] s'' t'' = rw (store, trace) g' in
    let rest : x ≡ y = runs_one g same in
    (λ i. line i ++ rest i)
