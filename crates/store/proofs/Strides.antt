-- From what the private functions ensure to what begin, step and drop promise: each way out keeps its promise (document 02, W5).
-- Assumes nothing.
use Rattle.std.specs.Prelude.{Ok, Err, true, false}
use mathlib.Core.Path.{◌≡◌, refl, sym, ap, subst, ◌∙◌}
use mathlib.Core.Logic.{◌≢◌}
use mathlib.Core.Option.{Option, none, some}
use Rattle.std.specs.Prelude.{None, Some}
use Rattle.std.specs.Prelude as answered
use Prim.Native.Nat.{ℕ, ◌+◌, ◌≤◌, ◌<◌}
use native.Mathlib.Omega.{arith}
use mathlib.Core.List.{List, [], ◌∷◌}
use lib.ListN.{length, length-append}
use lib.IntN.{pos}
use Rattle.rules.specs.Store as store
use Rattle.rules.specs.Moves as moves
use Rattle.rules.proofs.Moves as moves_proved
use Rattle.rules.specs.Leg.{Leg, leg_to}
use Rattle.rules.specs.Act.{step, shown, leg_in, leg_of, goes_on, walk_by}
use Rattle.layout.specs.Limits.{none_n}
use Rattle.layout.specs.Records.{focus, target, handed, with_target, with_handed, node_of, var_n, post_n}
use Rattle.layout.specs.Fields.{fields_of}
use Rattle.layout.specs.View.{view, view_f, or_none, walk_of}
use Rattle.layout.specs.Sound.{Whole, Sound}
use Rattle.layout.specs.Made.{IsMade}
use Rattle.layout.specs.Routes.{moves_to}
use Rattle.layout.proofs.WalkLaws.{made_seen}
use Rattle.layout.proofs.StrideLaws.{none_is, some_is, with_target_lem, Rewalked, target_written, handed_written}
use Rattle.layout.proofs.HandedLaws.{under_way_lem, walks, over, rewalked_then, made_some}
use Rattle.layout.specs.Legs.{FirstWind, place_of, Above}
use Rattle.layout.specs.Legs.{Moved, enters_first}
use Rattle.layout.specs.Legs.{Goes, leg_from}
use Rattle.layout.proofs.StepLaws.{moved_focus, moved_by, LegIs, leaves, enters, reaches, gone_on, gone_there, leg_few, leg_is, then_onward, leg_joined, goes_sound}
use Rattle.promises.specs.declared.Step.{Step}
use Rattle.promises.specs.declared.Handed.{Handed}
use Rattle.promises.specs.declared.Answer.TheVariants.{Number, Stepped}
use Rattle.promises.specs.declared.Refusal.TheVariants.{Damaged, NoEnvironment, Walking, NotWalking}
use Rattle.promises.specs.Answers.{Numbers, done, handing, stepped, numbers}
use Rattle.promises.specs.Promises.{meaning, world, damaged_row, environment_row, walking_row, not_walking_row, StrideDone, BeginPromise, StepPromise, DropPromise}
use Rattle.store.proofs.Keeps.{give, skip, finish}

-- the focus, answered with no move
focus_told : {f g : ℕ} → f ≡ g → done (pos f) 0 0 ≡ done (pos g) 0 0
focus_told e = ap (λ (n : ℕ). done (pos n) 0 0) e

-- seen as it was: no move, and the same focus
module _ {s t : List ℕ} {a c : ℕ} (r : Rewalked s t a c) where
  unmoved : moves.Moves (view s) [] (view t)
  unmoved = rw r.seen moves.done

  same_focus : focus t ≡ focus s
  unfolding view view_f fields_of
  same_focus = ap (λ (w : store.Store). w.focus) r.seen

-- ---- the parts of a step: what it answers, where the numbers that are read and counted are those that are meant
stop_told : (s : List ℕ) {p g m : ℕ} → p ≡ g → m ≡ moves_to s p → ◌≡◌ {A = Step} (record { focus = p; moves = m; handed = None }) (record { focus = g; moves = moves_to s g; handed = None })
stop_told s e n = λ i. record { focus = e i; moves = (n ∙ ap (moves_to s) e) i; handed = None }

pub stop_moved : {s u : List ℕ} {p g a c : ℕ} → p ≡ g → Moved s u (moves.route (view s).tree (focus s) p) a c → Moved s u (moves.route (view s).tree (focus s) g) a c
stop_moved {s} {u} {p} {g} {a} {c} e m = subst (λ (n : ℕ). Moved s u (moves.route (view s).tree (focus s) n) a c) e m

-- what is answered where the leg stops at g, and what it leaves
abbrev Stopped : List ℕ → List ℕ → Step → Type 0
Stopped s u r = (numbers (Ok (Stepped r)) ≡ handing (focus u) (length (leg_from s (target s)).moves) (leg_from s (target s)).events) × Goes s u (leg_from s (target s))

module _ {s u : List ℕ} {g b c : ℕ} {h : Option ℕ} (m : Moved s u (moves.route (view s).tree (focus s) g) b c) where
  at_stop : {es : List moves.Event} → LegIs s (target s) g es h → focus u ≡ g
  at_stop is = moved_focus (moved_by is.moves m) ∙ is.stop

  leg_counted : {es : List moves.Event} → LegIs s (target s) g es h → length (leg_from s (target s)).moves ≡ moves_to s g
  leg_counted is = ap length is.moves ∙ moves_proved.route_length (view s).tree (focus s) g

  on_told : {e : moves.Event} → LegIs s (target s) g (e ∷ []) h → (r : Step) → r ≡ record { focus = g; moves = moves_to s g; handed = Some (record { entering = e.entering; thunk = e.thunk }) }
      → numbers (Ok (Stepped r)) ≡ handing (focus u) (length (leg_from s (target s)).moves) (leg_from s (target s)).events
  unfolding numbers
  on_told {e} is r q = ap (λ (n : Step). numbers (Ok (Stepped n))) q ∙ sym (λ i. handing (at_stop is i) (leg_counted is i) (is.events i))

  there_told : LegIs s (target s) g [] h → (r : Step) → r ≡ record { focus = g; moves = moves_to s g; handed = None }
      → numbers (Ok (Stepped r)) ≡ handing (focus u) (length (leg_from s (target s)).moves) (leg_from s (target s)).events
  unfolding numbers
  there_told is r q = ap (λ (n : Step). numbers (Ok (Stepped n))) q ∙ sym (λ i. handing (at_stop is i) (leg_counted is i) (is.events i))

-- by what the two climbs found: the first wind to be left, else the outermost to be entered, else none
module _ (s : List ℕ) (ok : Whole s) (made : IsMade s (target s)) (a m : ℕ) (named : a ≡ target s) where
  above : {o : answered.Option ℕ} → Above s a m o → Above s (target s) m o
  above {o} = subst (λ (n : ℕ). Above s n m o) named

  -- both are made
  pub left_made : {o : answered.Option ℕ} → Above s a m o → (w : ℕ) → FirstWind (view s).tree moves.left (moves.route (view s).tree (focus s) m) (Some w) → IsMade s w
  left_made {o} climbed w first = (leaves s ok (target s) made m o (above climbed) w first).0

  pub entered_made : moves.trace (view s).tree (moves.route (view s).tree (focus s) m) ≡ [] → (w : ℕ) → Above s a m (Some w) → IsMade s w
  entered_made none_left w climbed = (enters s ok (target s) made m none_left w (above climbed)).0

  module _ (u : List ℕ) (r : Step) where
    pub onward_left : {o : answered.Option ℕ} → Above s a m o → (w : ℕ) → FirstWind (view s).tree moves.left (moves.route (view s).tree (focus s) m) (Some w)
        → handed s ≡ none_n → r ≡ record { focus = place_of s w; moves = moves_to s (place_of s w); handed = Some (record { entering = false; thunk = post_n (node_of s w) }) }
        → Moved s u (moves.route (view s).tree (focus s) (place_of s w)) (target s) (handed s) → Stopped s u r
    onward_left {o} climbed w first rest q moved =
        let is = (leaves s ok (target s) made m o (above climbed) w first).1 in
        (on_told moved is r q, gone_on s ok (target s) made is (handed s) (sym (none_is (handed s) rest)) moved)

    module _ (none_left : moves.trace (view s).tree (moves.route (view s).tree (focus s) m) ≡ []) where
      pub onward_entered : (w : ℕ) → Above s a m (Some w) → r ≡ record { focus = place_of s w; moves = moves_to s (place_of s w); handed = Some (record { entering = true; thunk = var_n (node_of s w) }) }
          → Moved s u (moves.route (view s).tree (focus s) (place_of s w)) (target s) w → Stopped s u r
      onward_entered w climbed q moved =
          let (there, is) = enters s ok (target s) made m none_left w (above climbed) in
          (on_told moved is r q, gone_on s ok (target s) made is w (sym (some_is w (made_some s ok w there))) moved)

      pub onward_there : Above s a m None → r ≡ record { focus = a; moves = moves_to s a; handed = None }
          → Moved s u (moves.route (view s).tree (focus s) a) none_n none_n → Stopped s u r
      onward_there climbed q arrived =
          let is = reaches s ok (target s) made m none_left (above climbed) in
          let moved = stop_moved named arrived in
          (there_told moved is r (q ∙ stop_told s named refl), gone_there s ok (target s) made is moved)

-- ---- the whole step: the wind that waited, then onward
-- so many moves more
abbrev more : ℕ → Numbers → Numbers
more k n = record { code = n.code; out = n.out; moves = k + n.moves; events = n.events; by = n.by; event = n.event; thunk = n.thunk }

more_handing : (k f m : ℕ) (es : List moves.Event) → more k (handing f m es) ≡ handing f (k + m) es
more_handing k f m [] = refl
more_handing k f m (e ∷ es) = refl

more_stepped : (k f m : ℕ) (h : answered.Option Handed) → more k (stepped f m h) ≡ stepped f (k + m) h
more_stepped k f m None = refl
more_stepped k f m (Some e) = refl

stepped_moves : (f m : ℕ) (h : answered.Option Handed) → (stepped f m h).moves ≡ m
stepped_moves f m None = refl
stepped_moves f m (Some e) = refl

handing_moves : (f m : ℕ) (es : List moves.Event) → (handing f m es).moves ≡ m
handing_moves f m [] = refl
handing_moves f m (e ∷ es) = refl

pub one_entered : (h : Option ℕ) → length (enters_first h) ≤ 1
one_entered none = omega arith
one_entered (some c) = omega arith

module _ (s : List ℕ) (ok : Sound s) (walking : target s ≢ none_n) (m : List ℕ) (first : Moved s m (enters_first (or_none (handed s))) (target s) none_n) (u : List ℕ) (r : Step) (rest : Stopped m u r) where
  pub rest_few : r.moves < 65535
  unfolding numbers
  rest_few =
      let (whole, (made, none_waits)) = then_onward s ok walking first in
      omega (arith, sym (stepped_moves r.focus r.moves r.handed) ∙ ap (λ (n : Numbers). n.moves) rest.0 ∙ handing_moves (focus u) _ (leg_from m (target m)).events, leg_few m whole (target m) made)

  counted : (k : ℕ) → k ≡ length (enters_first (or_none (handed s)))
      → k + length (leg_from m (target m)).moves ≡ length (leg_to (view s).tree (focus s) (target s) (or_none (handed s))).moves
  counted k e =
      ap (λ (n : ℕ). n + length (leg_from m (target m)).moves) e ∙ sym (length-append (enters_first (or_none (handed s))) (leg_from m (target m)).moves)
      ∙ sym (ap (λ (n : Leg). length n.moves) (leg_is s ok walking first))

  -- the leg that the promise speaks of
  abbrev leg : Leg
  leg = leg_to (view s).tree (focus s) (target s) (or_none (handed s))

  promised_leg : leg_of step (shown (world s)) ≡ leg
  unfolding world shown meaning store.home view view_f walk_of fields_of
  promised_leg = ap (leg_in (view s).tree (focus s)) (with_target_lem (fields_of s) walking)

  promised_walk : walk_by step (shown (world s)) ≡ goes_on leg.events (some (record { target = target s; handed = or_none (handed s) })) leg.handed
  unfolding world shown meaning store.home view view_f walk_of fields_of
  promised_walk = λ i. goes_on (promised_leg i).events (with_target_lem (fields_of s) walking i) (promised_leg i).handed

  pub go_on_done : (k : ℕ) → k ≡ length (enters_first (or_none (handed s)))
      → StrideDone step s u (numbers (Ok (Stepped (record { focus = r.focus; moves = k + r.moves; handed = r.handed }))))
  unfolding numbers
  go_on_done k e =
      let (sound, size, moved, walk) = goes_sound s ok walking (leg_joined s ok walking first rest.1) in
      let events = ap (λ (l : Leg). l.events) (leg_is s ok walking first) in
      record {
        answer = sym (more_stepped k r.focus r.moves r.handed) ∙ ap (more k) rest.0 ∙ more_handing k (focus u) (length (leg_from m (target m)).moves) (leg_from m (target m)).events
            ∙ (λ i. handing (focus u) (counted k e i) (sym events i)) ∙ sym (ap (λ (l : Leg). handing (focus u) (length l.moves) l.events) promised_leg);
        sound = sound;
        size = size;
        moved = subst (λ (l : Leg). moves.Moves (view s) l.moves (view u)) (sym promised_leg) moved;
        walk = walk ∙ sym promised_walk;
      }

handing_code : (f m : ℕ) (es : List moves.Event) → (handing f m es).code ≡ 0
handing_code f m [] = refl
handing_code f m (e ∷ es) = refl

stride_code : {s u : List ℕ} {n : Numbers} → StrideDone step s u n → n.code ≡ 0
stride_code {s} {u} d =
    let l = leg_of step (shown (world s)) in ap (λ (n : Numbers). n.code) d.answer ∙ handing_code (focus u) (length l.moves) l.events

-- ---- begin
module _ (s : List ℕ) (a : ℕ) where
  pub begin_damaged : (Sound s → ⊥) → BeginPromise s a s (numbers (Err Damaged))
  unfolding numbers
  begin_damaged no_store = record { answers = give (damaged_row s) no_store (omega arith) refl }

  pub begin_walking : Sound s → target s ≢ none_n → BeginPromise s a s (numbers (Err Walking))
  unfolding numbers
  begin_walking ok w = record { answers = skip (λ h. h ok) (give (walking_row s) w (omega arith) refl) }

  pub begin_unmade : Sound s → target s ≡ none_n → (IsMade s a → ⊥) → BeginPromise s a s (numbers (Err NoEnvironment))
  unfolding numbers
  begin_unmade ok out h = record { answers = skip (λ h. h ok) (skip (λ h. h out) (give (environment_row s a) h (omega arith) refl)) }

  pub begin_done : Sound s → target s ≡ none_n → IsMade s a → (f : ℕ) → f ≡ focus s → BeginPromise s a (with_target s a) (numbers (Ok (Number f)))
  unfolding numbers fields_of
  begin_done ok out made f e =
      let r = target_written s ok.whole a in
      let d = made_some s ok.whole a made in
      let rest = none_is (handed s) (ok.walk.only out) in
      record {
        answers = skip (λ h. h ok) (skip (λ h. h out) (skip (λ h. h made) (finish refl (record {
          answer = focus_told (e ∙ sym (same_focus r));
          sound = walks r d (made_seen s ok.whole a made) (rw rest tt);
          size = r.size;
          moved = unmoved r;
          walk = rw rest at (under_way_lem r d);
        }))));
      }

-- ---- step
module _ (s : List ℕ) where
  pub step_damaged : (Sound s → ⊥) → StepPromise s s (numbers (Err Damaged))
  unfolding numbers
  step_damaged no_store = record { answers = give (damaged_row s) no_store (omega arith) refl }

  pub step_rests : Sound s → target s ≡ none_n → StepPromise s s (numbers (Err NotWalking))
  unfolding numbers
  step_rests ok out = record { answers = skip (λ h. h ok) (give (not_walking_row s) out (omega arith) refl) }

-- ---- drop
module _ (s : List ℕ) where
  pub drop_damaged : (Sound s → ⊥) → DropPromise s s (numbers (Err Damaged))
  unfolding numbers
  drop_damaged no_store = record { answers = give (damaged_row s) no_store (omega arith) refl }

  pub drop_rests : Sound s → target s ≡ none_n → DropPromise s s (numbers (Err NotWalking))
  unfolding numbers
  drop_rests ok out = record { answers = skip (λ h. h ok) (give (not_walking_row s) out (omega arith) refl) }

  pub drop_done : Sound s → target s ≢ none_n → (f : ℕ) → f ≡ focus s → DropPromise s (with_handed (with_target s none_n) none_n) (numbers (Ok (Number f)))
  unfolding numbers
  drop_done ok walking f e =
      let first = target_written s ok.whole none_n in
      let r = rewalked_then first (handed_written (with_target s none_n) first.whole none_n) in
      let (sound, none_left) = over r first.target refl in
      record {
        answers = skip (λ h. h ok) (skip walking (finish refl (record {
          answer = focus_told (e ∙ sym (same_focus r));
          sound = sound;
          size = r.size;
          moved = unmoved r;
          walk = none_left;
        })));
      }
