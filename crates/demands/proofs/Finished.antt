-- A finished walk's calls together: on bytes as the rules have it (`OneWalk`, `Ending`), with the events as the answers hand them over.
-- From document 02, W5, with demand 3's words. Assumes that lent memory holds bytes.
use Rattle.std.specs.Prelude.{◌≡◌, refl, true}
use Rattle.std.proofs.Math.Path.{sym, ap}
use Rattle.std.proofs.Common.{subst, ◌∙◌, arith}
use Rattle.std.proofs.Math.Option.{Option, none, some}
use Prim.Native.Nat.{ℕ, suc, ◌≤◌}
use mathlib.Core.List.{List, [], ◌∷◌, ◌++◌, map, map-append, append-nil}
use Rattle.std.proofs.Math.ListN.{length}
use Rattle.std.proofs.lemmas.List.{length-map}
use Rattle.rules.proofs.Basic.{clash}
use Rattle.rules.specs.Store.{Deep, home, shallow, move_to}
use Rattle.rules.proofs.Store.{shallow_home}
use Rattle.rules.specs.Moves.{route, Event, trace}
use Rattle.rules.proofs.Moves.{trace_order}
use Rattle.rules.specs.World.{Walk, World}
use Rattle.rules.specs.Stops.{owed}
use Rattle.rules.proofs.Route.{route_self}
use Rattle.rules.specs.Refusals.{first}
use Rattle.rules.specs.Act.{Goal, Call, stride, begin, step, Size, shown, is_walking, rows, answer_of, Outcome, outcome, act}
use Rattle.rules.specs.Agree as agree
use Rattle.rules.specs.Agree.{held as held_in}
use Rattle.rules.specs.Demands.{refusal_of}
use Rattle.rules.specs.Places.{Due}
use Rattle.rules.specs.Runs as runs
use Rattle.rules.specs.Runs.{Asked, after, leaves, Mark, replay}
use Rattle.rules.specs.Deeds.{Deed, Deeds}
use Rattle.rules.proofs.Steps.{begin_answered, goto_answered, act_step}
use Rattle.rules.specs.Thunks as thunks
use Rattle.rules.specs.Thunks.{Aside, Together}
use Rattle.rules.proofs.Going.{aside_walk, goes_on_lem}
use Rattle.rules.specs.OneWalk as onewalk
use Rattle.rules.proofs.OneWalk.{walk_together, walk_is_goto}
use Rattle.rules.specs.Ending as ending
use Rattle.rules.proofs.Ending.{walk_finishes}
use Rattle.layout.specs.Limits.{none_n}
use Rattle.layout.specs.Records.{vars, focus, target, handed}
use Rattle.layout.specs.Fields.{fields_of}
use Rattle.layout.specs.View.{view_f, view}
use Rattle.layout.specs.Sound.{Sound}
use Rattle.layout.specs.Bytes.{Bytes}
use Rattle.layout.specs.Events.{told, events_to}
use Rattle.layout.proofs.SoundLaws.{sound_view}
use Rattle.layout.proofs.StrideLaws.{none_is}
use Rattle.layout.proofs.WalkLaws.{sized_then, kept_self}
use Rattle.promises.specs.Answers.{Numbers}
use Rattle.promises.specs.Promises.{meaning, world, room_for, GotoPromise}
use Rattle.promises.specs.Calls.{Promised}
use Rattle.promises.proofs.Calls.{done_sound}
use Rattle.demands.specs.Tests.{size_at}
use Rattle.demands.proofs.Tests.{no_walk_lem}
use Rattle.demands.specs.AsAct.{acted}
use Rattle.demands.proofs.AsAct.{keeps_size}
use Rattle.demands.specs.Held.{SetsFit}
use Rattle.demands.proofs.Held.{held_with_sets}
use Rattle.demands.specs.OneStep.{owed_at}
use Rattle.demands.specs.Doors.{Step, Run, over, next, marks, asked, RunActs}
use Rattle.demands.proofs.Doors.{run_acts, acts, one_left, bytes_one}
use Rattle.demands.specs.Walks.{AsGoto, Begun, Finishes, InBytes, InTurn, NoDrop, NoSet, SoFar, UnderWay, WalkedInSteps, calling, hands_over, meanwhile, reported, says_done, steps}
use Rattle.demands.proofs.Along.{kept_world, code_none, nil, given, one_moves, one_events, one_code, one_answered, onward, backward, reports, steps_as, turned, sets_fit, AllOn, aimed, all_on, done_on, begun_there, begun_on, all_owed}

-- it finishes
finishes : (s v : List ℕ) (qs : List Step) → Run s qs v → Sound s → Finishes qs → thunks.Finishes (size_at s) (map asked qs) (world s)
finishes s v [] _ ok f = elim f [ ]
finishes s v (q ∷ []) (next u e p r) ok (says_done c n) = thunks.says_done (nil _ (sym (one_events s u q ok p) ∙ n))
finishes s v (q ∷ qs) (next u e p r) ok (hands_over c n f) =
    go (given s u q ok p).events refl (sym (one_events s u q ok p) ∙ n)
    (onward s u q ok p (λ z w. thunks.Finishes z (map asked qs) w) (finishes u v qs r (acts s u q ok p).sound f))
  where
    go : (es : List Event) → (given s u q ok p).events ≡ es → length (given s u q ok p).events ≡ 1
        → thunks.Finishes (size_at s) (map asked qs) (after (size_at s) (asked q) (world s)) → thunks.Finishes (size_at s) (map asked (q ∷ qs)) (world s)
    go [] h k rest = absurd (omega (arith, ap length h))
    go (x ∷ es) h k rest = thunks.hands_over h rest
finishes s v (q ∷ qs) (next u e p r) ok (meanwhile h f) =
    thunks.meanwhile h (onward s u q ok p (λ z w. thunks.Finishes z (map asked qs) w) (finishes u v qs r (acts s u q ok p).sound f))

still_walks : (s u : List ℕ) (q : Step) (ok : Sound s) (p : Promised q.call s q.lent u q.traced q.numbers) → is_walking (after (size_at s) (asked q) (world s)).walk ≡ true
    → is_walking (world u).walk ≡ true
still_walks s u q ok p h = ap (λ (w : World Deep). is_walking w.walk) (one_left s u q ok p) ∙ h

-- ---- what the rules say of a finished walk is so of its bytes
no_sets_asked : (qs : List Step) → NoSet qs → onewalk.NoSet (map asked qs)
no_sets_asked [] h = tt
no_sets_asked (q ∷ qs) (h, hs) = (h, no_sets_asked qs hs)

no_drops_asked : (qs : List Step) → NoDrop qs → ending.NoDrop (map asked qs)
no_drops_asked [] h = tt
no_drops_asked (q ∷ qs) (h, hs) = (h, no_drops_asked qs hs)

-- one step more
run_then : {s v w t t' : List ℕ} {n : Numbers} {qs : List Step} → Run s qs v → Promised (stride step) v t w t' n → Run s (qs ++ calling (stride step) (focus v) t t' n ∷ []) w
run_then {w = w} over p = next w refl p over
run_then (next u e k r) p = next u e k (run_then r p)

-- the first call of a finished walk
data FirstCall (z : Size) (q : Asked) (qs : List Asked) (w : World Deep) : Type 0 where
  last_step : q.call ≡ stride step → qs ≡ [] → (act z q.room (stride step) w).events ≡ [] → FirstCall z q qs w
  a_step : q.call ≡ stride step → (e : Event) (es : List Event) → (act z q.room (stride step) w).events ≡ e ∷ es → thunks.Finishes z qs (act z q.room (stride step) w).after → FirstCall z q qs w
  between : Aside q.call → thunks.Finishes z qs (after z q w) → FirstCall z q qs w

first_call : {z : Size} {q : Asked} {qs : List Asked} {w : World Deep} → thunks.Finishes z (q ∷ qs) w → FirstCall z q qs w
first_call (thunks.says_done h) = last_step refl refl h
first_call (thunks.hands_over {e = e} {es = es} h f) = a_step refl e es h f
first_call (thunks.meanwhile h f) = between h f

-- a step of a walk is answered, and hands over one event at most
step_answered : (z : Size) (room : ℕ) (w : World Deep) → is_walking w.walk ≡ true → refusal_of (act z room (stride step) w).answer ≡ none
unfolding act outcome rows shown first answer_of
step_answered z room w i = rw i

one_at_most : (z : Size) (room : ℕ) (d : Deep) (o : Option Walk) → agree.Kept z (held_in (record { store = d; walk = o })) → is_walking o ≡ true
    → length (act z room (stride step) (record { store = d; walk = o })).events ≤ 1
unfolding held_in shallow
one_at_most z room d none kept i = clash i refl
one_at_most z room d (some k) kept i = (act_step z room d k kept.well.sound kept.walk).at_most_one

none_asked : (qs : List Step) → map asked qs ≡ [] → qs ≡ []
none_asked [] h = refl
none_asked (q ∷ qs) h = absurd (omega (arith, ap length h))

finished : (s v : List ℕ) (qs : List Step) → Run s qs v → (ok : Sound s) → is_walking (world s).walk ≡ true → thunks.Finishes (size_at s) (map asked qs) (world s) → Finishes qs
finished s v [] _ ok i fin = elim fin [ ]
finished s v (q ∷ qs) (next u e p r) ok i fin = go (first_call fin) (λ w f. finished u v qs r (acts s u q ok p).sound (still_walks s u q ok p w) (backward s u q ok p (λ z w. thunks.Finishes z (map asked qs) w) f))
  where
    as_step : q.call ≡ stride step → given s u q ok p ≡ act (size_at s) (room_for q.lent) (stride step) (world s)
    as_step c = ap (λ (k : Call). act (size_at s) (room_for q.lent) k (world s)) c

    code : q.call ≡ stride step → q.numbers.code ≡ 0
    code c = one_code s u q ok p ∙ code_none (given s u q ok p).answer (ap (λ (o : Outcome (World Deep)). refusal_of o.answer) (as_step c) ∙ step_answered (size_at s) (room_for q.lent) (world s) i)

    go : FirstCall (size_at s) (asked q) (map asked qs) (world s)
        → (is_walking (after (size_at s) (asked q) (world s)).walk ≡ true → thunks.Finishes (size_at s) (map asked qs) (after (size_at s) (asked q) (world s)) → Finishes qs) → Finishes (q ∷ qs)
    go (between h f) ih = meanwhile h (ih (ap is_walking (aside_walk (size_at s) (room_for q.lent) q.call (world s) h i) ∙ i) f)
    go (last_step c l h) ih =
        let count : q.numbers.events ≡ 0 = one_events s u q ok p ∙ ap (λ (o : Outcome (World Deep)). length o.events) (as_step c) ∙ ap length h in
        subst (λ (rs : List Step). Finishes (q ∷ rs)) (sym (none_asked qs l)) (subst (λ (k : Call). Finishes (calling k q.place q.lent q.traced q.numbers ∷ [])) (sym c) (says_done (code c) count))
    go (a_step c x es h f) ih =
        let many : q.numbers.events ≡ length (act (size_at s) (room_for q.lent) (stride step) (world s)).events = one_events s u q ok p ∙ ap (λ (o : Outcome (World Deep)). length o.events) (as_step c) in
        let one : q.numbers.events ≡ 1 = omega (arith, many, ap length h, one_at_most (size_at s) (room_for q.lent) (world s).store (world s).walk (kept_world s ok) i) in
        let on_then = ap (λ (o : Outcome (World Deep)). is_walking o.after.walk) (as_step c) ∙ goes_on_lem (size_at s) (room_for q.lent) (world s).store (world s).walk i x es h in
        let rest : Finishes qs = ih on_then (subst (λ (w : World Deep). thunks.Finishes (size_at s) (map asked qs) w) (ap (λ (o : Outcome (World Deep)). o.after) (sym (as_step c))) f) in
        subst (λ (k : Call). Finishes (calling k q.place q.lent q.traced q.numbers ∷ qs)) (sym c) (hands_over (code c) one rest)

-- the last call of a finished walk, a step, says done
some_call : {qs : List Step} → Finishes qs → 1 ≤ length qs
some_call (says_done c e) = omega arith
some_call (hands_over c e f) = omega arith
some_call (meanwhile h f) = omega arith

last_says : (f : ℕ) (t t' : List ℕ) (n : Numbers) (qs : List Step) → Finishes (qs ++ calling (stride step) f t t' n ∷ []) → (n.code ≡ 0) × (n.events ≡ 0)
last_says g t t' n [] (says_done c e) = (c, e)
last_says g t t' n [] (hands_over c e f) = absurd (omega (arith, some_call f))
last_says g t t' n [] (meanwhile h f) = absurd (omega (arith, some_call f))
last_says g t t' n (q ∷ []) (hands_over c e f) = last_says g t t' n [] f
last_says g t t' n (q ∷ []) (meanwhile h f) = last_says g t t' n [] f
last_says g t t' n (q ∷ p ∷ qs) (hands_over c e f) = last_says g t t' n (p ∷ qs) f
last_says g t t' n (q ∷ p ∷ qs) (meanwhile h f) = last_says g t t' n (p ∷ qs) f

-- ---- the theorem
module _ (s : List ℕ) (a : ℕ) (s₁ : List ℕ) (qs : List Step) (s' : List ℕ) (start : Begun s a s₁) (run : Run s₁ qs s') where
  ok : Sound s
  ok = done_sound start.promised.answers start.answered

  begun : Promised (stride (begin a)) s [] s₁ [] start.numbers
  begun = (start.promised, refl)

  abbrev b : Step
  b = calling (stride (begin a)) (focus s) [] [] start.numbers

  ok₁ : Sound s₁
  ok₁ = (acts s s₁ b ok begun).sound

  acted_all : RunActs s₁ s' qs
  acted_all = run_acts s₁ s' qs run ok₁

  is_begun : refusal_of (act (size_at s) (room_for []) (stride (begin a)) (world s)).answer ≡ none
  is_begun = one_answered s s₁ b ok begun start.answered

  -- what the rules say of the whole run, from s
  from : (P : Size → World Deep → Type 0) → P (size_at s₁) (world s₁) → P (size_at s) (act (size_at s) (room_for []) (stride (begin a)) (world s)).after
  from P h = onward s s₁ b ok begun P h

  to : (P : Size → World Deep → Type 0) → P (size_at s) (act (size_at s) (room_for []) (stride (begin a)) (world s)).after → P (size_at s₁) (world s₁)
  to P h = backward s s₁ b ok begun P h

  begun_walks : is_walking (world s₁).walk ≡ true
  begun_walks =
      ap (λ (w : World Deep). is_walking w.walk) (one_left s s₁ b ok begun ∙ (begin_answered (size_at s) (room_for []) a (world s) is_begun).2)

  out : target s ≡ none_n
  unfolding world
  out = no_walk_lem s (begin_answered (size_at s) (room_for []) a (world s) is_begun).0

  seen_as : (u : List ℕ) → Sound u → shallow (world u).store ≡ view u
  unfolding world meaning
  seen_as u k = shallow_home (view u) (sound_view u k.whole)

  module _ (fin : Finishes qs) where
    together : Together (size_at s) (world s) a (act (size_at s) (room_for []) (stride (begin a)) (world s)).after (map asked qs)
    together =
        walk_together (size_at s) (room_for []) a (world s) (map asked qs) (kept_world s ok) is_begun
        (from (λ z w. thunks.Finishes z (map asked qs) w) (finishes s₁ s' qs run ok₁ fin))

    abbrev all : List Deed
    all = thunks.deeds (size_at s) (map asked qs) (act (size_at s) (room_for []) (stride (begin a)) (world s)).after

    abbrev dues : List Due
    dues = thunks.handed_over (size_at s) (map asked qs) (act (size_at s) (room_for []) (stride (begin a)) (world s)).after

    ends : leaves (size_at s) (map asked qs) (act (size_at s) (room_for []) (stride (begin a)) (world s)).after ≡ world s'
    ends = from (λ z w. leaves z (map asked qs) w ≡ world s') (sym acted_all.meaning)

    count : reported qs ≡ thunks.reported (size_at s) (map asked qs) (act (size_at s) (room_for []) (stride (begin a)) (world s)).after
    count = from (λ z w. reported qs ≡ thunks.reported z (map asked qs) w) (reports s₁ s' qs run ok₁)

    -- its calls one by one
    by_call : AllOn s₁ a qs s'
    by_call = aimed (begun_there s a s₁ start).target (done_on s₁ s' qs run ok₁ (begun_on s a s₁ start) fin)

    at_end : focus s' ≡ a
    unfolding world meaning home view view_f fields_of
    at_end = ap (λ (w : World Deep). w.store.focus) (sym ends) ∙ together.arrives

    no_more : target s' ≡ none_n
    unfolding world
    no_more = no_walk_lem s' (ap (λ (w : World Deep). w.walk) (sym ends) ∙ together.over)

    -- all that was owed was handed over
    all_events : by_call.es ≡ events_to s a
    unfolding fields_of
    all_events =
        let none_left : owed_at s' a ≡ [] =
        (λ i. owed (view s').tree (at_end i) a (none_is (handed s') (acted_all.sound.walk.only no_more) i)) ∙ ap (trace (view s').tree) (route_self (view s').tree (sound_view s' acted_all.sound.whole).proper a) in
        sym (append-nil by_call.es) ∙ ap (λ (l : List Event). by_call.es ++ l) (sym none_left) ∙ sym by_call.owes ∙ all_owed s a s₁ start

    -- .. as the rules have them
    same_events : map (λ (u : Due). u.event) dues ≡ events_to s a
    unfolding world meaning home view view_f fields_of
    same_events = together.told ∙ ap (trace (view s).tree) together.order

    ways : Deeds (view s) all (view s')
    ways = rw (seen_as s ok, ends, seen_as s' acted_all.sound) at together.leads

    turn : InTurn qs all
    turn = from (λ z w. InTurn qs (thunks.deeds z (map asked qs) w)) (turned s₁ s' qs run ok₁)

    fitting : InBytes run → SetsFit (vars s) all
    fitting bytes =
        let k = keeps_size (stride (begin a)) s s₁ (acts s s₁ b ok begun).kept in
        subst (λ (m : ℕ). SetsFit m all) k.vars (sets_fit s₁ s' qs run ok₁ bytes all turn)

    pub walked_in_steps : Bytes s → InBytes run → WalkedInSteps s a qs s'
    unfolding world meaning home view view_f fields_of route
    walked_in_steps bytes bytes' = record {
      deeds = all;
      leads = ways;
      held = held_with_sets s ok out s (record { sound = ok.whole; seen = refl; kept = kept_self s }) bytes ways (fitting bytes');
      in_turn = turn;
      exactly = together.exactly;
      once = together.once;
      counted = count ∙ together.counted;
      shortest = λ k c. rw count (together.shortest k c);
      order = together.order;
      events = by_call.es;
      winds = all_events ∙ trace_order (view s).tree (focus s) a;
      handed = by_call.hears;
      untraced = by_call.untraced;
      one_more = steps_as qs ∙ together.one_more ∙ ap suc (sym (length-map dues (λ (u : Due). u.event)) ∙ ap length (same_events ∙ sym all_events));
      arrives = at_end;
      over = no_more;
      values = ap (λ (w : World Deep). w.store) (sym ends) ∙ together.values
          ∙ ap (λ (ms : List Mark). move_to a (replay (size_at s) ms (meaning s))) (sym (from (λ z w. marks qs ≡ runs.marks z (map asked qs) w) acted_all.marked));
      sound = acted_all.sound;
      size = sized_then (keeps_size (stride (begin a)) s s₁ (acts s s₁ b ok begun).kept) acted_all.size;
    }

    -- ---- with no set it is a goto
    pub walked_as_goto : NoSet qs → (tg sg tg' : List ℕ) (m : Numbers) → Bytes s' → Bytes sg → length (events_to s a) ≤ room_for tg → GotoPromise s tg a sg tg' m
        → AsGoto qs s' tg sg tg' m
    unfolding world meaning home view view_f fields_of acted
    walked_as_goto none_set tg sg tg' m b' bg enough p =
        let g : Step = calling (Call.switch (Goal.goto a)) (focus s) tg tg' m in
        let (is_left, is_count, is_told) =
        walk_is_goto (size_at s) (room_for []) a (world s) (map asked qs) (kept_world s ok) is_begun (from (λ z w. thunks.Finishes z (map asked qs) w) (finishes s₁ s' qs run ok₁ fin)) (no_sets_asked qs none_set) (room_for tg) enough in
        let w = acts s sg g ok p in
        let answered_as : refusal_of (given s sg g ok p).answer ≡ none =
        goto_answered (size_at s) (room_for tg) a (world s) (begin_answered (size_at s) (room_for []) a (world s) is_begun).0 (begin_answered (size_at s) (room_for []) a (world s) is_begun).1 enough in
        record {
          done = one_code s sg g ok p ∙ code_none (given s sg g ok p).answer answered_as;
          every_byte = bytes_one s s' sg b' bg acted_all.sound w.sound (sized_then (keeps_size (stride (begin a)) s s₁ (acts s s₁ b ok begun).kept) acted_all.size) w.kept.size
              (sym ends ∙ is_left ∙ sym (one_left s sg g ok p));
          moves = count ∙ is_count ∙ sym (one_moves s sg g ok p);
          events = by_call.es;
          handed = by_call.hears;
          traced = w.events ∙ ap (λ (es : List Event). told es tg) (sym is_told ∙ same_events ∙ sym all_events);
          counted = one_events s sg g ok p ∙ ap length (sym is_told ∙ same_events ∙ sym all_events);
        }

  -- ---- done at the step after the last event
  module _ (none_dropped : NoDrop qs) (many : steps qs ≡ length (events_to s a)) (tl v tl' : List ℕ) (m : Numbers) (last : Promised (stride step) s' tl v tl' m) where
    abbrev lastly : Step
    lastly = calling (stride step) (focus s') tl tl' m

    -- .. so with them the walk is finished
    pub walk_ends : Finishes (qs ++ lastly ∷ []) × (m.code ≡ 0) × (m.events ≡ 0)
    unfolding world meaning home view view_f fields_of
    walk_ends =
        let fin : thunks.Finishes (size_at s) (map asked qs ++ asked lastly ∷ []) (act (size_at s) (room_for []) (stride (begin a)) (world s)).after =
        walk_finishes (size_at s) (room_for []) a (world s) (map asked qs) (room_for tl) (kept_world s ok) is_begun (no_drops_asked qs none_dropped) (sym (steps_as qs) ∙ many) in
        let all_run : Run s₁ (qs ++ lastly ∷ []) v = run_then run last in
        let done_then : Finishes (qs ++ lastly ∷ []) = finished s₁ v (qs ++ lastly ∷ []) all_run ok₁ begun_walks (to (λ z w. thunks.Finishes z (map asked (qs ++ lastly ∷ [])) w) (rw (map-append asked qs (lastly ∷ [])) fin)) in
        let (c, e) = last_says (focus s') tl tl' m qs done_then in
        (done_then, c, e)

-- ---- still under way
pub walked_so_far : (s : List ℕ) (a : ℕ) (s₁ : List ℕ) (qs : List Step) (u : List ℕ) → Begun s a s₁ → (run : Run s₁ qs u) → UnderWay run → SoFar s a qs u
unfolding view view_f fields_of
walked_so_far s a s₁ qs u start run h =
    let b = begun_there s a s₁ start in
    let (w₁, end) = all_on s₁ u qs run b.sound h in
    let w : AllOn s₁ a qs u = aimed b.target w₁ in
    record {
      target = end ∙ b.target;
      moves = w.ms;
      first_moves = sym (λ i. route (b.seen i).tree (b.seen i).focus a) ∙ w.way;
      counted = w.count;
      events = w.es;
      first_events = sym (all_owed s a s₁ start) ∙ w.owes;
      handed = w.hears;
    }
