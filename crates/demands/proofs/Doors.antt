-- What is proved of specs/Doors.antt, whose head says it in words. Assumes that what a run leaves is bytes, as memory is.
use Rattle.std.specs.Prelude.{◌≡◌, ◌&&◌, ℕ}
use Rattle.std.proofs.Math.Path.{refl, sym, ap, subst}
use Rattle.std.proofs.Common.{◌∙◌}
use Rattle.std.proofs.Math.Bool.{true}
use Rattle.std.proofs.Math.Option.{none}
use mathlib.Core.List.{List, [], ◌∷◌, ◌++◌, map}
use Rattle.std.proofs.Math.Dec.{eqb}
use Rattle.rules.specs.Store.{Deep, home}
use Rattle.rules.specs.World.{World}
use Rattle.rules.specs.Act.{Size, act}
use Rattle.rules.specs.Runs as runs
use Rattle.rules.proofs.Runs as runs_proved
use Rattle.rules.specs.Runs.{Asked, after, leaves, is_mark, is_done, mark_if, marks_of, stands, Outside}
use Rattle.rules.proofs.Runs.{done_code, no_begin_outside}
use Rattle.rules.specs.Doors as doors
use Rattle.rules.proofs.Doors.{marks_same}
use Rattle.layout.specs.Limits.{none_n}
use Rattle.layout.specs.Records.{vars, room, focus, target}
use Rattle.layout.specs.Fields.{fields_of}
use Rattle.layout.specs.View.{view_f, view}
use Rattle.layout.specs.Sound.{Sound}
use Rattle.layout.specs.Becomes.{Sized}
use Rattle.layout.proofs.WalkLaws.{sized_self, sized_then}
use Rattle.layout.specs.Bytes.{Bytes}
use Rattle.layout.proofs.Same.{same_whole}
use Rattle.promises.specs.Answers.{Numbers}
use Rattle.promises.specs.Promises.{meaning, world, room_for}
use Rattle.promises.specs.Calls.{Promised}
use Rattle.promises.proofs.Calls.{called}
use Rattle.demands.proofs.Tests as tests_proved
use Rattle.demands.specs.Tests.{size_at}
use Rattle.demands.proofs.Tests.{no_walk_lem}
use Rattle.demands.specs.AsAct.{acted, numbers_of, AsAct}
use Rattle.demands.proofs.AsAct.{keeps_size, as_act}
use Rattle.demands.proofs.NeverRead.{same_world}
use Rattle.demands.specs.Doors.{Step, Run, over, next, NoWalk, NoBegin, answered, marks, Extra, ends, same, one_more, other_more, W4, asked, stand_of, RunActs}

-- one call of it
module _ (s u : List ℕ) (q : Step) (ok : Sound s) (p : Promised q.call s q.lent u q.traced q.numbers) where
  pub acts : AsAct q.call s q.lent u q.traced q.numbers
  acts = as_act q.call s q.lent u q.traced q.numbers ok (called q.call s q.lent u q.traced q.numbers p)

  pub one_left : world u ≡ after (size_at s) (asked q) (world s)
  unfolding acted
  one_left = acts.meaning

  pub one_done : answered q ≡ is_done (act (size_at s) (room_for q.lent) q.call (world s)).answer
  unfolding acted numbers_of
  one_done =
      ap (λ (m : Numbers). eqb m.code 0) acts.answer
      ∙ done_code (size_at s) (room_for q.lent) q.call (world s)

  pub one_size : size_at u ≡ size_at s
  unfolding size_at
  one_size = let k = keeps_size q.call s u acts.kept in λ i. record { vars = k.vars i; nodes = k.room i }

  one_stand : focus s ≡ q.place → stand_of q ≡ record { place = (world s).store.focus; answered = is_done (act (size_at s) (room_for q.lent) q.call (world s)).answer }
  unfolding world meaning home view view_f fields_of
  one_stand e = λ i. record { place = sym e i; answered = one_done i }

  one_mark : focus s ≡ q.place → mark_if (is_mark q.call && answered q) q.call q.place ≡ marks_of (size_at s) (asked q) (world s)
  unfolding world meaning home view view_f fields_of
  one_mark e = λ i. mark_if (is_mark q.call && one_done i) q.call (sym e i)

pub run_acts : (s v : List ℕ) (qs : List Step) → Run s qs v → Sound s → RunActs s v qs
unfolding leaves runs.marks stands
run_acts s v [] over ok = record { meaning = refl; sound = ok; size = sized_self s; marked = refl; stood = refl }
run_acts s v (q ∷ qs) (next u e p r) ok =
    let a = acts s u q ok p in
    let rest : RunActs u v qs = run_acts u v qs r a.sound in
    let size = one_size s u q ok p in
    let left = one_left s u q ok p in
    record {
      meaning = rest.meaning ∙ (λ i. leaves (size i) (map asked qs) (left i));
      sound = rest.sound;
      size = sized_then (keeps_size q.call s u a.kept) rest.size;
      marked = λ i. one_mark s u q ok p e i ++ (rest.marked ∙ (λ j. runs.marks (size j) (map asked qs) (left j))) i;
      stood = λ i. one_stand s u q ok p e i ∷ (rest.stood ∙ (λ j. stands (size j) (map asked qs) (left j))) i;
    }

-- ==== proofs of W4
-- a walk by the header is a walk of the world
off_walk : (s : List ℕ) → target s ≡ none_n → (world s).walk ≡ none
unfolding world
off_walk s e = tests_proved.off_walk s e

on_walk : (s : List ℕ) → (world s).walk ≡ none → target s ≡ none_n
unfolding world
on_walk s e = no_walk_lem s e

outside : (s v : List ℕ) (qs : List Step) (run : Run s qs v) → Sound s → NoWalk run → Outside (size_at s) (map asked qs) (world s)
outside s v [] over ok n = off_walk s n
outside s v (q ∷ qs) (next u e p r) ok (n, ns) =
    let rest : Outside (size_at u) (map asked qs) (world u) = outside u v qs r (acts s u q ok p).sound ns in
    (off_walk s n, subst (λ (w : World Deep). Outside (size_at s) (map asked qs) w) (one_left s u q ok p) (subst (λ (z : Size). Outside z (map asked qs) (world u)) (one_size s u q ok p) rest))

begins_none : (s v : List ℕ) (qs : List Step) (run : Run s qs v) → Sound s → target s ≡ none_n → NoBegin qs → NoWalk run
begins_none s v [] over ok out n = out
begins_none s v (q ∷ qs) (next u e p r) ok out (n, ns) =
    let left : Outside (size_at s) (asked q ∷ []) (world s) = no_begin_outside (size_at s) (asked q ∷ []) (world s) (n, tt) (off_walk s out) in
    (out, begins_none u v qs r (acts s u q ok p).sound (on_walk u (ap (λ (w : World Deep). w.walk) (one_left s u q ok p) ∙ left.1)) ns)

-- two stores that a store may become, of equal meaning, are one
pub bytes_one : (s s₁ s₂ : List ℕ) → Bytes s₁ → Bytes s₂ → Sound s₁ → Sound s₂ → Sized s s₁ → Sized s s₂ → world s₁ ≡ world s₂ → s₁ ≡ s₂
bytes_one s s₁ s₂ b₁ b₂ ok₁ ok₂ k₁ k₂ e =
    let v : vars s₁ ≡ vars s₂ = k₁.vars ∙ sym k₂.vars in
    let r : room s₁ ≡ room s₂ = k₁.room ∙ sym k₂.room in
    same_whole s₁ s₂ v r (same_world s₁ s₂ ok₁ ok₂ b₁ b₂ v r e) (k₁.past ∙ sym k₂.past)

-- where the runs end is where the rules' runs do
pub ends_at : (s s₁ : List ℕ) (qs : List Step) → RunActs s s₁ qs → (leaves (size_at s) (map asked qs) (world s)).store.focus ≡ focus s₁
unfolding world meaning home view view_f fields_of
ends_at s s₁ qs a = ap (λ (w : World Deep). w.store.focus) (sym a.meaning)

unmarked : (s s₁ s₂ : List ℕ) (r₁ r₂ : List Step) (run₁ : Run s r₁ s₁) (run₂ : Run s r₂ s₂) → NoWalk run₁ → NoWalk run₂ → Sound s → Bytes s₁ → Bytes s₂
    → marks r₁ ≡ marks r₂ → focus s₁ ≡ focus s₂ → s₁ ≡ s₂
unmarked s s₁ s₂ r₁ r₂ run₁ run₂ out₁ out₂ ok b₁ b₂ e f =
    let a₁ = run_acts s s₁ r₁ run₁ ok in
    let a₂ = run_acts s s₂ r₂ run₂ ok in
    let foci = ends_at s s₁ r₁ a₁ ∙ f ∙ sym (ends_at s s₂ r₂ a₂) in
    let left = runs_proved.no_trace (size_at s) (world s) (map asked r₁) (map asked r₂) (outside s s₁ r₁ run₁ ok out₁) (outside s s₂ r₂ run₂ ok out₂) (sym a₁.marked ∙ e ∙ a₂.marked) foci in
    bytes_one s s₁ s₂ b₁ b₂ a₁.sound a₂.sound a₁.size a₂.size (a₁.meaning ∙ left ∙ sym a₂.meaning)

-- the owner's relation, as the rules have it: the two runs are at s and at u, stores of one size
module _ (z : Size) where
  moved : (w w' u u' : World Deep) (qs rs : List Asked) → w ≡ w' → u ≡ u' → doors.Extra z w qs u rs → doors.Extra z w' qs u' rs
  moved w w' u u' qs rs f g x = subst (λ (k : World Deep). doors.Extra z k qs u' rs) f (subst (λ (k : World Deep). doors.Extra z w qs k rs) g x)

  left_at : (s u : List ℕ) (q : Step) (ok : Sound s) (p : Promised q.call s q.lent u q.traced q.numbers) → size_at s ≡ z
      → world u ≡ after z (asked q) (world s)
  left_at s u q ok p e = one_left s u q ok p ∙ ap (λ (k : Size). after k (asked q) (world s)) e

  done_at : (s u : List ℕ) (q : Step) (ok : Sound s) (p : Promised q.call s q.lent u q.traced q.numbers) → size_at s ≡ z
      → answered q ≡ true → is_done (act z (room_for q.lent) q.call (world s)).answer ≡ true
  done_at s u q ok p e d = ap (λ (k : Size). is_done (act k (room_for q.lent) q.call (world s)).answer) (sym e) ∙ sym (one_done s u q ok p) ∙ d

  beside : (s s' u u' : List ℕ) (qs rs : List Step) → Run s qs s' → Run u rs u' → Sound s → Sound u → size_at s ≡ z → size_at u ≡ z → Extra qs rs
      → doors.Extra z (world s) (map asked qs) (world u) (map asked rs)
  unfolding world meaning home view view_f fields_of
  beside s s' u u' [] [] over over ok ok' e e' ends = doors.ends
  beside s s' u u' (q ∷ qs) (p ∷ ps) (next v f h r) (next w g k l) ok ok' e e' (same c t m x) =
      let a = acts s v q ok h in
      let b = acts u w p ok' k in
      let one : asked q ≡ asked p = λ i. record { call = c i; room = room_for (t i) } in
      let foci : is_mark q.call ≡ true → focus s ≡ focus u = λ y. f ∙ m y ∙ sym g in
      let left : world w ≡ after z (asked q) (world u) = left_at u w p ok' k e' ∙ ap (λ (j : Asked). after z j (world u)) (sym one) in
      let rest = beside v s' w u' qs ps r l a.sound b.sound (one_size s v q ok h ∙ e) (one_size u w p ok' k ∙ e') x in
      subst (λ (j : Asked). doors.Extra z (world s) (asked q ∷ map asked qs) (world u) (j ∷ map asked ps)) one
      (doors.same foci (moved (world v) (after z (asked q) (world s)) (world w) (after z (asked q) (world u)) (map asked qs) (map asked ps) (left_at s v q ok h e) left rest))
  beside s s' u u' (q ∷ qs) ps (next v f h r) l ok ok' e e' (one_more j d x) =
      let a = acts s v q ok h in
      let rest = beside v s' u u' qs ps r l a.sound ok' (one_size s v q ok h ∙ e) e' x in
      doors.one_more j (done_at s v q ok h e d) (moved (world v) (after z (asked q) (world s)) (world u) (world u) (map asked qs) (map asked ps) (left_at s v q ok h e) refl rest)
  beside s s' u u' qs (p ∷ ps) r (next w g k l) ok ok' e e' (other_more j d x) =
      let b = acts u w p ok' k in
      let rest = beside s s' w u' qs ps r l ok b.sound e (one_size u w p ok' k ∙ e') x in
      doors.other_more j (done_at u w p ok' k e' d) (moved (world s) (world s) (world w) (after z (asked p) (world u)) (map asked qs) (map asked ps) refl (left_at u w p ok' k e') rest)

round : (s s₁ s₂ : List ℕ) (r₁ r₂ : List Step) (run₁ : Run s r₁ s₁) (run₂ : Run s r₂ s₂) → NoWalk run₁ → NoWalk run₂ → Sound s → Bytes s₁ → Bytes s₂
    → Extra r₁ r₂ → focus s₁ ≡ focus s₂ → s₁ ≡ s₂
round s s₁ s₂ r₁ r₂ run₁ run₂ out₁ out₂ ok b₁ b₂ x f =
    let a₁ = run_acts s s₁ r₁ run₁ ok in
    let a₂ = run_acts s s₂ r₂ run₂ ok in
    let alike = marks_same (beside (size_at s) s s₁ s s₂ r₁ r₂ run₁ run₂ ok ok refl refl x) refl (outside s s₁ r₁ run₁ ok out₁) (outside s s₂ r₂ run₂ ok out₂) in
    unmarked s s₁ s₂ r₁ r₂ run₁ run₂ out₁ out₂ ok b₁ b₂ (a₁.marked ∙ alike ∙ sym a₂.marked) f

pub w4 : W4
w4 = record { no_trace = unmarked; another_door = round; no_begin = begins_none }
