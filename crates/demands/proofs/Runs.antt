-- What is proved of specs/Runs.antt, whose head says it in words. Assumes nothing.
use Rattle.std.specs.Prelude.{◌≡◌, refl, ℕ, ◌*◌, List, ◌∷◌, length, take}
use Rattle.std.proofs.Common.{sym, ap, ◌∙◌}
use Rattle.rules.specs.Values.{Cell}
use Rattle.rules.specs.Store.{Deep, home}
use Rattle.rules.specs.Calls.{value_at, open_deep}
use Rattle.rules.proofs.Calls.{open_values, home_open}
use Rattle.rules.specs.World.{World, alone}
use Rattle.rules.specs.Moves.{Event}
use Rattle.rules.specs.Act.{Call, Outcome, act, run}
use Rattle.rules.proofs.Agree.{open_ranked}
use Rattle.rules.specs.Effects.{SameDeep}
use Rattle.layout.specs.Limits.{event_size}
use Rattle.layout.specs.Fields.{fields_of}
use Rattle.layout.specs.View.{view_f, view}
use Rattle.layout.specs.Sound.{Sound}
use Rattle.layout.specs.Events.{events_b}
use Rattle.layout.specs.Opening.{top_cells}
use Rattle.promises.specs.Answers.{Numbers}
use Rattle.promises.specs.Promises.{meaning, world, at, Opened}
use Rattle.promises.proofs.Calls.{called}
use Rattle.demands.specs.Tests.{size_at, traced_by}
use Rattle.demands.proofs.Plain.{deep_one, plain_meaning}
use Rattle.demands.specs.AsAct.{acted, numbers_of, AsAct}
use Rattle.demands.proofs.AsAct.{keeps_size, as_act}
use Rattle.demands.proofs.NeverRead.{told_take, written_as, opened_what, opened_up, opened_value}
use Rattle.demands.specs.Runs.{Said, Session, over, next, said_of, said_by, written}

pub session_run : {events : ℕ} {s : List ℕ} {cs : List Call} {rs : List Said} → Sound s → Session events s cs rs → rs ≡ said_by cs (run (size_at s) events cs (world s))
unfolding run said_by said_of acted numbers_of size_at
session_run ok over = refl
session_run {events} {s} ok (next {c = c} {cs = cs} {rs = rs} t s' t' n e p r) =
    let a : AsAct c s t s' t' n = as_act c s t s' t' n ok (called c s t s' t' n p) in
    let now : Outcome (World Deep) = act (size_at s) events c (world s) in
    let same : acted c s t ≡ now = ap (λ (k : ℕ). act (size_at s) k c (world s)) e in
    let numbers : n ≡ numbers_of c now = a.answer ∙ ap (numbers_of c) same in
    let es : List Event = traced_by c (acted c s t).events in
    let count : written c n ≡ length es = written_as c n (acted c s t) a.answer in
    let told_as : take (event_size * written c n) t' ≡ events_b (traced_by c now.events) =
    ap (λ (k : ℕ). take (event_size * k) t') count ∙ ap (take (event_size * length es)) a.events
    ∙ told_take es t ∙ ap (λ (o : Outcome (World Deep)). events_b (traced_by c o.events)) same in
    let left : world s' ≡ now.after = a.meaning ∙ ap (λ (o : Outcome (World Deep)). o.after) same in
    let k = keeps_size c s s' a.kept in
    let size : size_at s' ≡ size_at s = λ i. record { vars = k.vars i; nodes = k.room i } in
    let rest : rs ≡ said_by cs (run (size_at s) events cs now.after) = session_run a.sound r ∙ (λ i. said_by cs (run (size i) events cs (left i))) in
    λ i. record { numbers = numbers i; events = told_as i } ∷ rest i

open_value : (cells : ℕ → Cell) (a x : ℕ) → value_at (open_deep (λ m. 0) cells) a x ≡ cells x
open_value cells a x = ap (λ (d : Deep). value_at d a x) (sym (home_open (λ m. 0) cells)) ∙ open_values (λ m. 0) cells a x

same : (v k : ℕ) (tops s s' : List ℕ) (n : Numbers) → Opened v k tops s s' n → SameDeep (meaning s') (open_deep (λ m. 0) (top_cells v tops))
unfolding meaning home at view view_f fields_of
same v k tops s s' n o = record {
  focus = o.focus;
  kinds = opened_what v k tops s s' n o;
  parents = opened_up v k tops s s' n o;
  values = λ a x. opened_value v k tops s s' n o a x ∙ sym (open_value (top_cells v tops) a x);
}

-- an opened store means the deep store with the top values
pub opened_means : (v k : ℕ) (tops s s' : List ℕ) (n : Numbers) → Opened v k tops s s' n → meaning s' ≡ open_deep (λ m. 0) (top_cells v tops)
opened_means v k tops s s' n o = deep_one s' o.sound (open_deep (λ m. 0) (top_cells v tops)) (same v k tops s s' n o) open_ranked (plain_meaning s' o.sound) (λ m h. refl)

-- so the numbers and the events of a run on it are the rules'
pub opened_session : (v k events : ℕ) (tops s s' : List ℕ) (n : Numbers) (cs : List Call) (rs : List Said) → Opened v k tops s s' n → Session events s' cs rs
    → rs ≡ said_by cs (run (record { vars = v; nodes = k }) events cs (alone (open_deep (λ m. 0) (top_cells v tops))))
unfolding size_at world
opened_session v k events tops s s' n cs rs o r =
    session_run o.sound r ∙ (λ i. said_by cs (run (record { vars = o.vars i; nodes = o.nodes i }) events cs (record { store = opened_means v k tops s s' n o i; walk = o.walk i })))
