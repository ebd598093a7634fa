-- What is proved of specs/Pairs.antt, whose head says it in words. Assumes nothing.
use Rattle.std.specs.Prelude.{◌≡◌, refl, ◌≢◌, Bool, true, false, ℕ, zero, suc, List, [], ◌∷◌, map, pos}
use Rattle.std.proofs.Common.{sym, ap, ◌∙◌, arith}
use Rattle.rules.specs.Basic.{upd}
use Rattle.rules.proofs.Basic.{clash}
use Rattle.rules.specs.Tree.{path}
use Rattle.rules.specs.Far.{far}
use Rattle.rules.specs.Moves.{route}
use Rattle.rules.specs.Values.{Cell, value}
use Rattle.rules.specs.Store.{Deep}
use Rattle.rules.specs.Calls.{open_deep, decider_at, decided_by, value_at}
use Rattle.rules.specs.Refusals.{first}
use Rattle.rules.specs.World.{World, alone}
use Rattle.rules.specs.Act.{Stride, begin, drop, Call, make, set, switch, stride, Size, is_made, next_number, is_full, shown, is_walking, events_of, rows, answer_of, changed, walk_after, outcome, act}
use Rattle.rules.specs.Runs as runs
use Rattle.rules.specs.Runs.{Asked, leaves, Stand, stands}
use Rattle.rules.specs.Doors.{by_switch}
use Rattle.layout.specs.Bytes.{part}
use Rattle.layout.specs.Records.{focus, bits_c, bare_c, top_c}
use Rattle.layout.specs.View.{as_cell}
use Rattle.layout.specs.Opening.{top_cells}
use Rattle.promises.specs.Answers.{Numbers}
use Rattle.promises.specs.Promises.{world, room_for, Opened}
use Rattle.demands.specs.Tests.{size_at}
use Rattle.demands.proofs.Tests.{no_walk_lem}
use Rattle.demands.specs.Cases.{one}
use Rattle.demands.proofs.Runs.{opened_means}
use Rattle.demands.specs.Doors.{Step, Run, NoWalk, NoBegin, marks, ends, same, other_more, asked, stand_of, RunActs}
use Rattle.demands.proofs.Doors.{run_acts, ends_at, w4}
use Rattle.demands.specs.Pairs.{Given, making, born, to, inside_out, outside, inside, round, begun, Pairs}

-- ---- what such a run comes to, computed
abbrev size : Size
size = record { vars = 1; nodes = 4 }

abbrev start : World Deep
start = alone (open_deep (λ m. 0) (top_cells 1 one))

abbrev asks : List Call → List Asked
asks cs = map (λ c. record { call = c; room = 0 }) cs

made_asks : (cs : List Call) (g : ℕ → Given) → map asked (making cs g) ≡ asks cs
unfolding room_for
made_asks [] g = refl
made_asks (c ∷ cs) g = ap (λ (qs : List Asked). record { call = c; room = 0 } ∷ qs) (made_asks cs (λ i. g (suc i)))

record Comes (cs : List Call) (g : ℕ → Given) (s₁ : List ℕ) : Type 0 where
  means : world s₁ ≡ leaves size (asks cs) start
  marked : marks (making cs g) ≡ runs.marks size (asks cs) start
  stood : map stand_of (making cs g) ≡ stands size (asks cs) start
  ends : (leaves size (asks cs) start).store.focus ≡ focus s₁

comes : (s₀ s : List ℕ) (n : Numbers) → Opened 1 4 one s₀ s n → (cs : List Call) (g : ℕ → Given) (s₁ : List ℕ) → Run s (making cs g) s₁ → Comes cs g s₁
unfolding size_at world
comes s₀ s n o cs g s₁ r =
    let a : RunActs s s₁ (making cs g) = run_acts s s₁ (making cs g) r o.sound in
    let z : size_at s ≡ size = λ i. record { vars = o.vars i; nodes = o.nodes i } in
    let q = made_asks cs g in
    let w : world s ≡ start = λ i. record { store = opened_means 1 4 one s₀ s n o i; walk = o.walk i } in
    record {
      means = a.meaning ∙ (λ i. leaves (z i) (q i) (w i));
      marked = a.marked ∙ (λ i. runs.marks (z i) (q i) (w i));
      stood = a.stood ∙ (λ i. stands (z i) (q i) (w i));
      ends = sym (λ i. (leaves (z i) (q i) (w i)).store.focus) ∙ ends_at s s₁ (making cs g) a;
    }

abbrev is_begin : Call → Bool
is_begin (Call.ask q) = false
is_begin (make k) = false
is_begin (set x v) = false
is_begin (switch g) = false
is_begin (stride (begin a)) = true
is_begin (stride Stride.step) = false
is_begin (stride drop) = false

-- a call that is no begin
no_start : (c : Call) → is_begin c ≡ false → (a : ℕ) → c ≢ stride (begin a)
no_start c h a e = clash (ap is_begin e) h

-- runs of the pair that meets all
none_begun : (s₀ s : List ℕ) (n : Numbers) → Opened 1 4 one s₀ s n → (s₁ : List ℕ) (qs : List Step) (r : Run s qs s₁) → NoBegin qs → NoWalk r
none_begun s₀ s n o s₁ qs r k = w4.no_begin s s₁ qs r o.sound (no_walk_lem s o.walk) k

-- the value of variable 0 at the environment 1
abbrev value_of : World Deep → Cell
value_of w = value_at w.store 1 0

abbrev walks_in : World Deep → Bool
walks_in w = is_walking w.walk

abbrev place : ℕ → List Stand → ℕ
place i [] = 0
place zero (p ∷ ps) = p.place
place (suc i) (p ∷ ps) = place i ps

abbrev done : ℕ → List Stand → Bool
done i [] = false
done zero (p ∷ ps) = p.answered
done (suc i) (p ∷ ps) = done i ps

pub pairs : Pairs
unfolding leaves runs.marks stands act outcome rows answer_of events_of changed walk_after shown is_made next_number is_full first upd path route far value_at decider_at decided_by top_cells as_cell top_c bare_c bits_c part
pairs = record {
  set_elsewhere = λ s₀ s n o g h s₁ s₂ r q.
      let a = comes s₀ s n o inside_out g s₁ r in
      let b = comes s₀ s n o outside h s₂ q in
      (sym a.ends ∙ b.ends, λ e. let z : value (pos 7) ≡ value (pos 5) = ap value_of (sym a.means ∙ ap world e ∙ b.means) in let y : ◌≡◌ {A = ℕ} 0 1 = cc in omega arith);
  ends_elsewhere = λ s₀ s n o g h s₁ s₂ r q.
      let a = comes s₀ s n o (born ∷ []) g s₁ r in
      let b = comes s₀ s n o (born ∷ to 0 ∷ []) h s₂ q in
      (a.marked ∙ sym b.marked, λ e. let z : ◌≡◌ {A = ℕ} 1 0 = a.ends ∙ ap focus e ∙ sym b.ends in omega arith);
  walk_begun = λ s₀ s n o g h s₁ s₂ r q.
      let a = comes s₀ s n o (born ∷ []) g s₁ r in
      let b = comes s₀ s n o begun h s₂ q in
      (a.marked ∙ sym b.marked, sym a.ends ∙ b.ends, λ e. clash (ap walks_in (sym a.means ∙ ap world e ∙ b.means)) refl);
  met = λ s₀ s n o g h s₁ s₂ r q.
      let a = comes s₀ s n o inside g s₁ r in
      let b = comes s₀ s n o round h s₂ q in
      let at : (g 1).place ≡ (h 3).place = ap (place 1) a.stood ∙ sym (ap (place 3) b.stood) in
      let born_at : (g 0).place ≡ (h 0).place = ap (place 0) a.stood ∙ sym (ap (place 0) b.stood) in (
        none_begun s₀ s n o s₁ (making inside g) r (no_start born refl, (no_start (set 0 (pos 7)) refl, tt)),
        none_begun s₀ s n o s₂ (making round h) q (no_start born refl, (no_start (to 0) refl, (no_start (to 1) refl, (no_start (set 0 (pos 7)) refl, tt)))),
        a.marked ∙ sym b.marked,
        same refl refl (λ _. born_at) (other_more by_switch (ap (done 1) b.stood) (other_more by_switch (ap (done 2) b.stood) (same refl refl (λ _. at) ends))),
        sym a.ends ∙ b.ends,
      );
}
