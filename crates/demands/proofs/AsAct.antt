-- What is proved of specs/AsAct.antt, whose head says it in words. Assumes nothing.
use Rattle.std.specs.Prelude.{◌≡◌, refl, ℕ, zero, suc, ◌≤◌, pos, length}
use Rattle.std.proofs.Common.{sym, ◌∙◌, arith}
use Rattle.std.proofs.Math.Path.{ap, subst}
use Rattle.std.proofs.Math.Option.{none, some}
use mathlib.Core.List.{List, [], ◌∷◌}
use Rattle.rules.specs.Store.{Store, Deep, home, goto}
use Rattle.rules.specs.Far.{far}
use Rattle.rules.proofs.Route.{between_far}
use Rattle.rules.specs.Moves.{Event}
use Rattle.rules.proofs.Moves.{moves_tree}
use Rattle.rules.proofs.Stops.{moves_end, moves_goto}
use Rattle.rules.specs.Calls.{value_at}
use Rattle.rules.proofs.Calls.{goto_values}
use Rattle.rules.specs.Refusals.{damaged, first}
use Rattle.rules.specs.World.{World}
use Rattle.rules.specs.Act.{Ask, Stride, Call, Size, shown, leg_of, stop_of, rows, events_of, answer_of, changed, walk_after, becomes, Outcome, outcome, act, refused, value_in}
use Rattle.rules.specs.Effects.{SameDeep, Effect}
use Rattle.rules.proofs.Effects.{act_effect, effect_determined}
use Rattle.rules.proofs.Demands.{switched_count, switched_events}
use Rattle.layout.specs.Records.{focus}
use Rattle.layout.specs.Fields.{fields_of}
use Rattle.layout.specs.View.{view_f, view, walk_of}
use Rattle.layout.specs.Sound.{Sound}
use Rattle.layout.specs.Made.{next_of}
use Rattle.layout.specs.Becomes.{Sized}
use Rattle.layout.specs.Events.{events_b, told, events_to}
use Rattle.layout.proofs.SoundLaws.{sound_view}
use Rattle.layout.proofs.WalkLaws.{sized_self, kept_self}
use Rattle.layout.proofs.StrideLaws.{kept_walk}
use Rattle.promises.specs.Answers.{Numbers, done, seen, handing}
use Rattle.promises.specs.Promises.{meaning, world, at, by_at, room_for, Shows, FarDone, SwitchDone, StrideDone}
use Rattle.promises.specs.Calls.{goal_at, events_in, table, AskDone, Done, Called, Code, is_done_lem, is_refused}
use Rattle.promises.proofs.Calls.{code_of_lem, table_above, sound_first, done_leaves}
use Rattle.demands.specs.Tests.{size_at, traced_by, handed_by, refused_as}
use Rattle.demands.proofs.Tests.{first_says, next_made, seen_numbered, goal_same, events_same, table_says}
use Rattle.demands.proofs.Plain.{deep_one, plain_meaning, plain_changed, ranked_changed}
use Rattle.demands.specs.AsAct.{acted, enters_in, thunk_in, numbers_of, Keeps, AsAct}

-- ---- what stays
pub keeps_size : (c : Call) (s s' : List ℕ) → Keeps c s s' → Sized s s'
keeps_size (Call.ask q) s s' k = k.size
keeps_size (Call.make n) s s' k = k.size
keeps_size (Call.set x v) s s' k = k.size
keeps_size (Call.switch g) s s' k = k.size
keeps_size (Call.stride n) s s' k = k

pub keeps_self : (c : Call) (s : List ℕ) → Keeps c s s
keeps_self (Call.ask q) s = kept_self s
keeps_self (Call.make n) s = kept_self s
keeps_self (Call.set x v) s = kept_self s
keeps_self (Call.switch g) s = kept_self s
keeps_self (Call.stride n) s = sized_self s

done_keeps : (c : Call) (s t s' t' : List ℕ) (n : Numbers) → Done c s t s' t' n → Keeps c s s'
done_keeps (Call.ask q) s t s' t' n (d, e, f) = rw e (kept_self s)
done_keeps (Call.make k) s t s' t' n d = d.kept
done_keeps (Call.set x v) s t s' t' n (d, e) = d.kept
done_keeps (Call.switch g) s t s' t' n d = d.kept
done_keeps (Call.stride k) s t s' t' n (d, e) = d.size

-- ---- what a done call changes is the rules' effect of it
module _ (s t s' t' : List ℕ) (n : Numbers) (ok : Sound s) where
  -- a stride stops at the end of its leg
  pub stride_stops : (k : Stride) → StrideDone k s s' n → focus s' ≡ stop_of k (shown (world s))
  unfolding shown world meaning home view view_f fields_of
  stride_stops k d = moves_end d.moved

  pub done_effect : (c : Call) → Done c s t s' t' n → Effect (size_at s) c (world s) (meaning s')
  unfolding world meaning home at view view_f fields_of
  done_effect (Call.ask q) (d, e, f) = ap meaning e
  done_effect (Call.make k) d =
      let here : (x : ℕ) → at s' (meaning s').focus x ≡ at s' (next_of s) x = λ x. ap (λ (a : ℕ). at s' a x) d.new.focus in
      rw (next_made s ok) (d.new, λ x h. here x ∙ d.own x h, λ y h. here y ∙ d.rest y h)
  done_effect (Call.set x v) (d, e) = d.effect
  done_effect (Call.switch g) d =
      rw (goal_same s ok g) (record { tree = moves_tree d.switched.moves; focus = d.switched.arrives; values = d.switched.alters_nothing })
  done_effect (Call.stride k) (d, e) =
      let there : view s' ≡ goto (view s').focus (view s) = moves_goto d.moved (sound_view s ok.whole) in
      record {
        tree = moves_tree d.moved;
        focus = stride_stops k d;
        values = λ a x. ap (λ (v : Store). value_at (home v) a x) there ∙ goto_values (view s').focus (view s) a x;
      }

-- ---- all of it
pub told_none : (t : List ℕ) → told [] t ≡ t
unfolding told events_b
told_none t = refl

-- what `act` gives to a call that k refuses, and to one that nothing refuses
abbrev refused_by : ℕ → List ℕ → Outcome (World Deep)
refused_by k s = record { answer = refused k; events = []; after = world s }

abbrev unrefused : Call → List ℕ → Outcome (World Deep)
unrefused c s = record { answer = answer_of (size_at s) c (shown (world s)); events = events_of c (shown (world s)); after = becomes (size_at s) c (world s) }

module _ (c : Call) (s t : List ℕ) where
  acted_refused : (k : ℕ) → first (rows (size_at s) (room_for t) c (shown (world s))) ≡ some k → acted c s t ≡ refused_by k s
  unfolding acted act outcome
  acted_refused k e = rw e

  acted_done : first (rows (size_at s) (room_for t) c (shown (world s))) ≡ none → acted c s t ≡ unrefused c s
  unfolding acted act outcome
  acted_done e = rw e

-- the numbers of a step, by what it hands over
pub handing_is : (f m : ℕ) (es : List Event) → handing f m es ≡ record { code = 0; out = pos f; moves = m; events = length es; by = none; event = enters_in es; thunk = thunk_in es }
handing_is f m [] = refl
handing_is f m (e ∷ es) = refl

-- the numbers and the events of a done call
module _ (s t s' t' : List ℕ) (n : Numbers) (ok : Sound s) where
  switch_numbers : (a : ℕ) (d : SwitchDone s t a s' t' n) → n ≡ done (pos a) (far (view s).tree (focus s) a) (length (events_to s a))
  unfolding view view_f fields_of
  switch_numbers a d =
      let w = d.switched in
      d.answer
      ∙ (λ i. done (pos a) (switched_count (view s) (view s') a d.moves (length d.moves) d.events (sound_view s ok.whole) w i)
      (length (switched_events (view s) (view s') a d.moves (length d.moves) d.events (sound_view s ok.whole) w i)))

  switch_events : (a : ℕ) (d : SwitchDone s t a s' t' n) → t' ≡ told (events_to s a) t
  unfolding view view_f fields_of
  switch_events a d =
      d.trace ∙ ap (λ (es : List Event). told es t) (switched_events (view s) (view s') a d.moves (length d.moves) d.events (sound_view s ok.whole) d.switched)

  value_numbers : (a x : ℕ) → Shows s a x n → n ≡ seen (value_in (at s a x)) (by_at s a x)
  value_numbers a x (v, e, f) = rw f e

  far_numbers : (a b : ℕ) → FarDone s a b n → n ≡ done (pos (far (view s).tree a b)) 0 0
  far_numbers a b (k, e, f) = e ∙ ap (λ (m : ℕ). done (pos m) 0 0) (between_far (view s).tree (sound_view s ok.whole).proper a b k f)

  ask_numbers : (q : Ask) → AskDone q s n → n ≡ numbers_of (Call.ask q) (unrefused (Call.ask q) s)
  unfolding numbers_of answer_of events_of shown world meaning home at by_at view view_f fields_of
  ask_numbers (Ask.look x) d = value_numbers (focus s) x d
  ask_numbers Ask.here d = d
  ask_numbers (Ask.peek a x) d = value_numbers a x d
  ask_numbers (Ask.far a b) d = far_numbers a b d

  done_numbers : (c : Call) → Done c s t s' t' n → n ≡ numbers_of c (unrefused c s)
  unfolding numbers_of answer_of events_of shown world meaning home view view_f fields_of
  done_numbers (Call.ask q) (d, e, f) = ask_numbers q d
  done_numbers (Call.make k) d = d.answer ∙ ap (λ (m : ℕ). done (pos m) 0 (length (events_in (Call.make k) s))) (sym (next_made s ok))
  done_numbers (Call.set x v) (d, e) = d.answer
  done_numbers (Call.switch g) d = rw (goal_same s ok g) (switch_numbers (goal_at g s) d)
  done_numbers (Call.stride k) (d, e) =
      let l = leg_of k (shown (world s)) in
      d.answer ∙ ap (λ (f : ℕ). handing f (length l.moves) l.events) (stride_stops s t s' t' n ok k d) ∙ handing_is (stop_of k (shown (world s))) (length l.moves) l.events

  done_trace : (c : Call) → Done c s t s' t' n → t' ≡ told (events_in c s) t
  done_trace (Call.ask q) (d, e, f) = f ∙ sym (told_none t)
  done_trace (Call.make k) d = d.trace
  done_trace (Call.set x v) (d, e) = e ∙ sym (told_none t)
  done_trace (Call.switch g) d = switch_events (goal_at g s) d
  done_trace (Call.stride k) (d, e) = e ∙ sym (told_none t)

  -- the walk
  done_walk : (c : Call) → Done c s t s' t' n → walk_of s' ≡ walk_after c (shown (world s))
  unfolding walk_after shown world
  done_walk (Call.ask q) (d, e, f) = ap walk_of e
  done_walk (Call.make k) d = kept_walk d.kept
  done_walk (Call.set x v) (d, e) = kept_walk d.kept
  done_walk (Call.switch g) d = kept_walk d.kept
  done_walk (Call.stride k) (d, e) = d.walk

  -- the meaning
  done_meaning : (c : Call) → first (rows (size_at s) (room_for t) c (shown (world s))) ≡ none → Done c s t s' t' n → meaning s' ≡ changed (size_at s) c (world s)
  unfolding world meaning home acted
  done_meaning c none_applies d =
      let z : Size = size_at s in
      let w = sound_view s ok.whole in
      let acts : Effect z c (world s) (changed z c (world s)) =
      subst (λ (o : Outcome (World Deep)). Effect z c (world s) o.after.store) (acted_done c s t none_applies) (act_effect z (world s) w.proper w.focus_made (seen_numbered s ok) (room_for t) c none_applies) in
      let same : SameDeep (meaning s') (changed z c (world s)) =
      effect_determined z c (world s) (meaning s') (changed z c (world s)) (done_effect s t s' t' n ok c d) acts in
      let ok' : Sound s' = (done_leaves c s t s' t' n ok d).0 in
      deep_one s' ok' (changed z c (world s)) same (ranked_changed s ok c)
      (plain_meaning s' ok') (plain_changed z (world s) (plain_meaning s ok) c)

-- with no event nothing is told, and nothing handed over
pub traced_none : (c : Call) → traced_by c [] ≡ []
traced_none (Call.ask q) = refl
traced_none (Call.make k) = refl
traced_none (Call.set x v) = refl
traced_none (Call.switch g) = refl
traced_none (Call.stride k) = refl

handed_none : (c : Call) → handed_by c [] ≡ []
handed_none (Call.ask q) = refl
handed_none (Call.make k) = refl
handed_none (Call.set x v) = refl
handed_none (Call.switch g) = refl
handed_none (Call.stride k) = refl

pub as_act : (c : Call) (s t s' t' : List ℕ) (n : Numbers) → Sound s → Called c s t s' t' n → AsAct c s t s' t' n
unfolding numbers_of world
as_act c s t s' t' n ok p = go (code_of_lem n)
  where
    low : first (rows (size_at s) (room_for t) c (shown (world s))) ≡ refused_as n.code
    low = first_says damaged (table c s t) (rows (size_at s) (room_for t) c (shown (world s))) (table_above c s t) (table_says s ok t c) n.code (sound_first p ok)

    is_some : (k : ℕ) → 1 ≤ k → refused_as k ≡ some k
    is_some zero h = absurd (omega arith)
    is_some (suc k) h = refl

    go : Code n → AsAct c s t s' t' n
    go (is_refused h) =
        let (e, (same, kept)) = p.refused h in
        let r : acted c s t ≡ refused_by n.code s = acted_refused c s t n.code (low ∙ is_some n.code h) in
        record {
          answer = e ∙ rw (handed_none c) refl ∙ ap (numbers_of c) (sym r);
          events = kept ∙ sym (told_none t) ∙ ap (λ (es : List Event). told es t) (sym (traced_none c)) ∙ ap (λ (o : Outcome (World Deep)). told (traced_by c o.events) t) (sym r);
          meaning = ap world same ∙ ap (λ (o : Outcome (World Deep)). o.after) (sym r);
          sound = rw same ok;
          kept = rw same (keeps_self c s);
        }
    go (is_done_lem e) =
        let d : Done c s t s' t' n = p.done e in
        let none_applies = low ∙ ap refused_as e in
        let r : acted c s t ≡ unrefused c s = acted_done c s t none_applies in
        record {
          answer = done_numbers s t s' t' n ok c d ∙ ap (numbers_of c) (sym r);
          events = done_trace s t s' t' n ok c d ∙ ap (λ (es : List Event). told es t) (sym (events_same s ok c)) ∙ ap (λ (o : Outcome (World Deep)). told (traced_by c o.events) t) (sym r);
          meaning = (λ i. record { store = done_meaning s t s' t' n ok c none_applies d i; walk = done_walk s t s' t' n ok c d i }) ∙ ap (λ (o : Outcome (World Deep)). o.after) (sym r);
          sound = (done_leaves c s t s' t' n ok d).0;
          kept = done_keeps c s t s' t' n d;
        }
