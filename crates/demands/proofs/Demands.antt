-- What is proved of specs/Demands.antt, whose head says it in words. Assumes that lent memory holds bytes.
use Rattle.std.specs.Prelude.{◌≡◌, refl, ◌⊎◌, ◌≢◌, ℕ, ◌≤◌, ◌<◌, List, [], ◌∷◌, map, ℤ, pos, length}
use Rattle.std.proofs.Common.{sym, ap, ◌∙◌, inl, inr, arith}
use Rattle.std.proofs.Math.Decide.{ℕ_discrete}
use Rattle.rules.specs.Basic.{or_top}
use Rattle.rules.proofs.Basic.{clash}
use Rattle.rules.specs.Apart.{apart}
use Rattle.rules.specs.Tree.{binding}
use Rattle.rules.specs.Calls.{decided_by}
use Rattle.rules.proofs.Calls.{own_decides, own_value}
use Rattle.rules.specs.Values.{unbound}
use Rattle.rules.specs.Store.{home}
use Rattle.rules.specs.Moves.{Event, route, trace}
use Rattle.rules.proofs.Moves.{trace_order}
use Rattle.rules.proofs.Meaning.{home_means}
use Rattle.rules.specs.Refusals.{setup, no_environment, no_value, damaged, no_line}
use Rattle.rules.specs.Act.{Ask, Goal, Stride, Call, shown, leg_of, Ground, grounds}
use Rattle.rules.proofs.Demands.{ground_known, switched_determined, switched_count, target_made}
use Rattle.rules.proofs.Route.{between_far}
use Rattle.rules.proofs.Places.{moves_placed, resumes}
use Rattle.layout.specs.Limits.{none_n}
use Rattle.layout.specs.Records.{vars, focus, target}
use Rattle.layout.specs.Fields.{fields_of}
use Rattle.layout.specs.View.{view_f, view}
use Rattle.layout.specs.Sound.{Sound}
use Rattle.layout.specs.Made.{IsMade}
use Rattle.layout.specs.Events.{told, events_to}
use Rattle.layout.proofs.SoundLaws.{sound_view}
use Rattle.layout.proofs.RouteLaws.{events_none}
use Rattle.layout.proofs.WalkLaws.{kept_self, focus_made, seen_made}
use Rattle.layout.proofs.Reading.{binding_up}
use Rattle.layout.specs.Bytes.{Bytes}
use Rattle.layout.proofs.Same.{becomes_one}
use Rattle.promises.specs.declared.Told.{Told}
use Rattle.promises.specs.Answers.{Numbers, refusal, done, seen, telling}
use Rattle.promises.specs.Tables.{Row, First, Applies, Lowest}
use Rattle.promises.proofs.Tables.{first_exact, first_lowest, applies_above}
use Rattle.promises.specs.Promises.{meaning, world, at, by_at, room_for, Answers, Shows, damaged_row, walking_row, Openable, Opened, OpenPromise, DoneWith, SwitchDone, parent_at, GotoPromise, BackPromise, LookPromise, PeekPromise, FarDone, FarPromise, TellPromise}
use Rattle.promises.specs.Calls.{Promised, events_in, row_at, table, Done, Called, Code, is_done_lem, is_refused}
use Rattle.promises.proofs.Calls.{called, done_sound, code_of_lem, opens, number_same, table_above, called_lowest, sound_first, tell_made}
use Rattle.demands.specs.Tests.{size_at}
use Rattle.demands.proofs.Tests.{no_walk_lem}
use Rattle.demands.specs.AsAct.{AsAct}
use Rattle.demands.proofs.AsAct.{as_act, handing_is, done_effect, told_none}
use Rattle.demands.proofs.NeverRead.{opened_value}
use Rattle.demands.proofs.Held.{switch_held}
use Rattle.demands.proofs.OneStep.{steps_on}
use Rattle.demands.proofs.Along.{begins, drops}
use Rattle.demands.proofs.Finished.{walked_in_steps, walked_as_goto, walk_ends, walked_so_far}
use Rattle.demands.specs.Demands.{conditions, InTable, Answered, Demand1, OpensSound, Replies, ByTheRule, read_as, Demand2, Walked, Enough, Demand3, Demand3InSteps}

-- ==== proofs of 1
-- every number of a table is one of the store's
abbrev AllIn : List Row → Type 0
AllIn [] = Unit {0}
AllIn (r ∷ rs) = InTable r.number × AllIn rs

applies_in : (rs : List Row) → AllIn rs → (n : ℕ) → Applies rs n → InTable n
applies_in [] h n a = absurd a
applies_in (r ∷ rs) h n (inl (e, w)) = rw e at h.0
applies_in (r ∷ rs) h n (inr a) = applies_in rs h.1 n a

table_in : (s t : List ℕ) (es : List Event) (gs : List Ground) → AllIn (map (row_at s t es) gs)
table_in s t es [] = tt
table_in s t es (g ∷ gs) =
    let (known, above, low) = ground_known (size_at s) (room_for t) es (shown (world s)) g in (
      rw (number_same s t es (size_at s) (room_for t) es (shown (world s)) g) (low, λ e. clash (rw e at known) refl),
      table_in s t es gs,
    )

answered : {rows : List Row} {Rise : Type 0} {code : ℕ} {Nothing Unchanged : Type 0} → AllIn rows → (Rise → Lowest rows code) → First rows code → (1 ≤ code → Nothing × Unchanged)
    → Answered rows Rise code Nothing Unchanged
answered {rows} {Rise} {code} known low first refused = record {
  numbered = go (first_exact rows code first);
  exactly = first;
  lowest = low;
  nothing = λ h. (refused h).0;
  no_byte = λ h. (refused h).1;
}
  where
    go : (code ≡ 0) ⊎ Applies rows code → InTable code
    go (inl e) = (omega arith, λ z. omega arith)
    go (inr w) = applies_in rows known code w

-- a number below 9
below_line : (k : ℕ) → k < no_line → InTable k
below_line k h = (omega arith, λ e. omega arith)

pub demand_1 : Demand1
demand_1 = record {
  opening = λ v k tops s s' n p. answered (below_line setup (omega arith), tt) (λ _. first_lowest _ (omega arith, tt) n.code p.answers.first) p.answers.first p.answers.refused;
  calls = λ c s t s' t' n p.
      let q = called c s t s' t' n p in
      answered (below_line damaged (omega arith), table_in s t (events_in c s) (grounds c)) (called_lowest c s t s' t' n q) q.first q.refused;
  telling = λ s a s' n p.
      answered (below_line damaged (omega arith), (below_line no_environment (omega arith), tt))
      (λ _. first_lowest _ (omega arith, (omega arith, tt)) n.code p.first) p.first (λ h. (p.refused h, p.same));
}

-- ==== proofs of 2
out_is : {n : Numbers} {o : ℤ} {m e : ℕ} → DoneWith n o m e → n.out ≡ o
out_is h = ap (λ (k : Numbers). k.out) h

done_replies : (c : Call) (s t s' t' : List ℕ) (n : Numbers) → Done c s t s' t' n → Replies c s s' n
unfolding meaning home view view_f fields_of
done_replies (Call.ask q) s t s' t' n (d, e, f) = (d, e)
done_replies (Call.make k) s t s' t' n d = out_is d.answer ∙ ap pos (sym d.new.focus)
done_replies (Call.set x v) s t s' t' n (d, e) = out_is d.answer ∙ ap pos (sym d.effect.focus)
done_replies (Call.switch g) s t s' t' n d = out_is d.answer ∙ ap pos (sym d.switched.arrives)
done_replies (Call.stride k) s t s' t' n (d, e) = ap (λ (m : Numbers). m.out) (d.answer ∙ handing_is (focus s') _ (leg_of k (shown (world s))).events)

opens_sound : (v k : ℕ) (tops s s' : List ℕ) (n : Numbers) → Openable v k tops s → OpenPromise v k tops s s' n → OpensSound v k tops s s' n
unfolding fields_of
opens_sound v k tops s s' n can p =
    let o : Opened v k tops s s' n = opens v k tops s s' n p can in
    let out : target s' ≡ none_n = no_walk_lem s' o.walk in
    record {
      done = o.answer;
      sound = o.sound;
      vars = o.vars;
      nodes = o.nodes;
      only_top = o.only_top;
      focus = o.focus;
      outside = (out, o.sound.walk.only out);
      values = opened_value v k tops s s' n o;
      rest = (o.long, o.past);
    }

-- a call whose only rows that may apply ask for the value of x at a
module _ (s : List ℕ) (a x : ℕ) (n : Numbers) where
  read : Shows s a x n → n ≡ read_as (at s a x) (by_at s a x)
  read (v, e, f) = rw f e

  unread : n ≡ refusal n.code → (no_value ≡ n.code) × (at s a x ≡ unbound) → n ≡ read_as (at s a x) (by_at s a x)
  unread e (f, g) = rw (g, f) e

looks : (s : List ℕ) (x : ℕ) (s' : List ℕ) (n : Numbers) → Sound s → x < vars s → LookPromise s x s' n → n ≡ read_as (at s (focus s) x) (by_at s (focus s) x)
looks s x s' n ok known p = go (code_of_lem n)
  where
    valued : First (conditions (Call.ask (Ask.look x)) s []) n.code → 1 ≤ n.code → (no_value ≡ n.code) × (at s (focus s) x ≡ unbound)
    valued (inl (e, bad)) h = absurd (bad ok)
    valued (inr (a, inl (e, far))) h = absurd (omega arith)
    valued (inr (a, inr (b, inl w))) h = w
    valued (inr (a, inr (b, inr (c, e)))) h = absurd (omega arith)

    go : Code n → n ≡ read_as (at s (focus s) x) (by_at s (focus s) x)
    go (is_done_lem e) = read s (focus s) x n (p.answers.done e)
    go (is_refused h) = unread s (focus s) x n (p.answers.refused h).0 (valued p.answers.first h)

peeks : (s : List ℕ) (a x : ℕ) (s' : List ℕ) (n : Numbers) → Sound s → x < vars s → IsMade s a → PeekPromise s a x s' n → n ≡ read_as (at s a x) (by_at s a x)
peeks s a x s' n ok known made p = go (code_of_lem n)
  where
    valued : First (conditions (Call.ask (Ask.peek a x)) s []) n.code → 1 ≤ n.code → (no_value ≡ n.code) × (at s a x ≡ unbound)
    valued (inl (e, bad)) h = absurd (bad ok)
    valued (inr (b, inl (e, far))) h = absurd (omega arith)
    valued (inr (b, inr (c, inl (e, un)))) h = absurd (un made)
    valued (inr (b, inr (c, inr (d, inl w)))) h = w
    valued (inr (b, inr (c, inr (d, inr (f, e))))) h = absurd (omega arith)

    go : Code n → n ≡ read_as (at s a x) (by_at s a x)
    go (is_done_lem e) = read s a x n (p.answers.done e)
    go (is_refused h) = unread s a x n (p.answers.refused h).0 (valued p.answers.first h)

unaltered : {rows : List Row} (s t : List ℕ) (a : ℕ) (s' t' : List ℕ) (n : Numbers)
    → Answers rows n ((s' ≡ s) × (t' ≡ t)) (SwitchDone s t a s' t' n) → (b x : ℕ) → at s' b x ≡ at s b x
unfolding at meaning
unaltered s t a s' t' n p b x = go (code_of_lem n)
  where
    go : Code n → at s' b x ≡ at s b x
    go (is_done_lem e) = (p.done e).switched.alters_nothing b x
    go (is_refused h) = ap (λ (u : List ℕ). at u b x) (p.refused h).1.0

stride_unaltered : (k : Stride) (s t s' t' : List ℕ) (n : Numbers) → Promised (Call.stride k) s t s' t' n → (b x : ℕ) → at s' b x ≡ at s b x
unfolding at world
stride_unaltered k s t s' t' n p b x = go (code_of_lem n)
  where
    q : Called (Call.stride k) s t s' t' n
    q = called (Call.stride k) s t s' t' n p

    go : Code n → at s' b x ≡ at s b x
    go (is_done_lem e) = (done_effect s t s' t' n (done_sound q e) (Call.stride k) (q.done e)).values b x
    go (is_refused h) = ap (λ (u : List ℕ). at u b x) (q.refused h).1.0

-- a sound store is not refused as Damaged: every other number is above it
undamaged : (c : Call) (s t : List ℕ) (k : ℕ) → First (table c s t) k → k ≢ damaged
undamaged c s t k f e = go (first_exact (table c s t) k f)
  where
    go : (k ≡ 0) ⊎ Applies (table c s t) k → ⊥
    go (inl z) = omega arith
    go (inr a) = omega (arith, applies_above damaged (table c s t) (table_above c s t) k a)

by_the_rule : (c : Call) (s t s' t' : List ℕ) (n : Numbers) → Sound s → Called c s t s' t' n → ByTheRule c s t s' t' n
unfolding meaning
by_the_rule c s t s' t' n ok p =
    let a : AsAct c s t s' t' n = as_act c s t s' t' n ok p in
    record {
      sound = a.sound;
      kept = a.kept;
      answers = undamaged c s t n.code (sound_first p ok);
      means = home_means (view s') (sound_view s' a.sound.whole);
      replies = λ e. done_replies c s t s' t' n (p.done e);
      changes = λ e. done_effect s t s' t' n ok c (p.done e);
      acts = a;
    }

tells_deep : (s : List ℕ) (a : ℕ) (s' : List ℕ) (n : Told) → Sound s → IsMade s a → TellPromise s a s' n
    → (n ≡ telling ((meaning s).tree.what a) (or_top ((meaning s).tree.up a)) (at s a)) × (s' ≡ s)
unfolding meaning home
tells_deep s a s' n ok made p = (tell_made s a s' n p ok made, p.same)

own_told : (s : List ℕ) (a x : ℕ) → Sound s → (meaning s).tree.what a ≡ binding x → (at s a x ≡ (meaning s).own.stored a) × (by_at s a x ≡ a)
unfolding at by_at decided_by meaning home
own_told s a x ok is =
    let (p, up) = binding_up s ok.whole a x is in
    let proper = (sound_view s ok.whole).proper in
    (own_value (home (view s)) proper a p x up is, ap or_top (own_decides (view s).tree proper a p x up is))

pub demand_2 : Demand2
demand_2 = record {
  opening = opens_sound;
  calls = λ c s t s' t' n ok p. by_the_rule c s t s' t' n ok (called c s t s' t' n p);
  cells = looks;
  afar = peeks;
  tell = tells_deep;
  own = own_told;
  goto = λ s t a s' t' n p. unaltered s t a s' t' n p.answers;
  back = λ s t s' t' n p. unaltered s t (parent_at s) s' t' n p.answers;
  stride = stride_unaltered;
}

-- ==== proofs of 3
walked : (s t : List ℕ) (a : ℕ) (s' t' : List ℕ) (n : Numbers) → Bytes s → Sound s → target s ≡ none_n → SwitchDone s t a s' t' n → Walked s t a s' t' n
unfolding route view view_f fields_of
walked s t a s' t' n b ok out d =
    let w = d.switched in
    let count : n.moves ≡ length d.moves = ap (λ (k : Numbers). k.moves) d.answer in
    record {
      moves = d.moves;
      events = d.events;
      switched = record {
        arrives = w.arrives;
        moves = w.moves;
        exactly = w.exactly;
        once = w.once;
        counted = count;
        shortest = λ k c. omega (arith, w.shortest k c);
        order = w.order;
        told = w.told;
        alters_nothing = w.alters_nothing;
        sound = w.sound;
      };
      held = switch_held s t a s' t' n ok out b d;
      winds = w.told ∙ ap (trace (view s).tree) w.order ∙ trace_order (view s).tree (focus s) a;
      traced = d.trace;
      counted = ap (λ (k : Numbers). k.events) d.answer;
      placed = rw w.told (moves_placed (sound_view s ok.whole) w.moves);
    }

stays : (s t s' t' : List ℕ) (n : Numbers) → Bytes s → Bytes s' → Sound s → SwitchDone s t (focus s) s' t' n → DoneWith n (pos (focus s)) 0 0 × (s' ≡ s) × (t' ≡ t)
unfolding view view_f fields_of
stays s t s' t' n b b' ok d =
    let (seen, moves, count, events) = switched_determined (view s) (view s') (view s) (focus s) d.moves [] (length d.moves) 0 d.events [] (sound_view s ok.whole) d.switched (resumes (view s) (sound_view s ok.whole)) in (
      d.answer ∙ (λ i. done (pos (focus s)) (length (moves i)) (length (events i))),
      becomes_one b' b (record { sound = d.sound.whole; seen = seen; kept = d.kept }) (record { sound = ok.whole; seen = refl; kept = kept_self s }),
      d.trace ∙ ap (λ (es : List Event). told es t) events ∙ told_none t,
    )

resumed_there : (s t s' t' : List ℕ) (n : Numbers) → Bytes s → Bytes s' → Sound s → target s ≡ none_n → GotoPromise s t (focus s) s' t' n
    → DoneWith n (pos (focus s)) 0 0 × (s' ≡ s) × (t' ≡ t)
resumed_there s t s' t' n b b' ok out p = go p.answers.first
  where
    no_event : length (events_to s (focus s)) ≡ 0
    no_event = ap length (events_none (view s).tree (sound_view s ok.whole).proper (focus s))

    go : First (conditions (Call.switch (Goal.goto (focus s))) s t) n.code → DoneWith n (pos (focus s)) 0 0 × (s' ≡ s) × (t' ≡ t)
    go (inl (e, bad)) = absurd (bad ok)
    go (inr (x, inl (e, on))) = absurd (on out)
    go (inr (x, inr (o, inl (e, un)))) = absurd (un (focus_made s ok.whole))
    go (inr (x, inr (o, inr (y, inl (e, w))))) = absurd (omega (arith, no_event))
    go (inr (x, inr (o, inr (y, inr (z, e))))) = stays s t s' t' n b b' ok (p.answers.done e)

-- a call that a walk bars and that answers 0 was made outside one
was_outside : {rows : List Row} {s : List ℕ} {n : Numbers} {Same Done : Type 0} → Answers (damaged_row s ∷ walking_row s ∷ rows) n Same Done → n.code ≡ 0 → target s ≡ none_n
was_outside {rows} {s} {n} a e = go a.first (ℕ_discrete (target s) none_n)
  where
    go : First (damaged_row s ∷ walking_row s ∷ rows) n.code → Dec (target s ≡ none_n) → target s ≡ none_n
    go f (yes out) = out
    go (inl (k, bad)) (no on) = absurd (omega arith)
    go (inr (x, inl (k, w))) (no on) = absurd (omega arith)
    go (inr (x, inr (off, f))) (no on) = absurd (off on)

-- every goto and every back that answers 0
gone : (s t : List ℕ) (a : ℕ) (s' t' : List ℕ) (n : Numbers) → Bytes s → GotoPromise s t a s' t' n → n.code ≡ 0 → Walked s t a s' t' n
gone s t a s' t' n b p e = walked s t a s' t' n b (done_sound p.answers e) (was_outside p.answers e) (p.answers.done e)

gone_back : (s t s' t' : List ℕ) (n : Numbers) → Bytes s → BackPromise s t s' t' n → n.code ≡ 0 → Walked s t (parent_at s) s' t' n
gone_back s t s' t' n b p e = walked s t (parent_at s) s' t' n b (done_sound p.answers e) (was_outside p.answers e) (p.answers.done e)

-- with room enough and both made, no condition holds
goes : (s t : List ℕ) (a : ℕ) (s' t' : List ℕ) (n : Numbers) → Bytes s → Sound s → target s ≡ none_n → IsMade s a → Enough s t a
    → GotoPromise s t a s' t' n → (n.code ≡ 0) × Walked s t a s' t' n
goes s t a s' t' n b ok out made enough p = let e = go p.answers.first in (e, gone s t a s' t' n b p e)
  where
    go : First (conditions (Call.switch (Goal.goto a)) s t) n.code → n.code ≡ 0
    go (inl (e, bad)) = absurd (bad ok)
    go (inr (x, inl (e, on))) = absurd (on out)
    go (inr (x, inr (o, inl (e, un)))) = absurd (un made)
    go (inr (x, inr (o, inr (y, inl (e, w))))) = absurd (omega (arith, enough))
    go (inr (x, inr (o, inr (y, inr (z, e))))) = e

goes_back : (s t s' t' : List ℕ) (n : Numbers) → Bytes s → Sound s → target s ≡ none_n → focus s ≢ 0 → Enough s t (parent_at s)
    → BackPromise s t s' t' n → (n.code ≡ 0) × Walked s t (parent_at s) s' t' n
goes_back s t s' t' n b ok out below enough p = let e = go p.answers.first in (e, gone_back s t s' t' n b p e)
  where
    go : First (conditions (Call.switch Goal.back) s t) n.code → n.code ≡ 0
    go (inl (e, bad)) = absurd (bad ok)
    go (inr (x, inl (e, on))) = absurd (on out)
    go (inr (x, inr (o, inl (e, w)))) = absurd (omega (arith, enough))
    go (inr (x, inr (o, inr (y, inl (e, top))))) = absurd (below top)
    go (inr (x, inr (o, inr (y, inr (z, e))))) = e

-- far, of two that are made, is done
tells : (s : List ℕ) (a b : ℕ) (s' : List ℕ) (n : Numbers) → Sound s → IsMade s a → IsMade s b → FarPromise s a b s' n → FarDone s a b n × (s' ≡ s)
tells s a b s' n ok made made' p = (go p.answers.first, p.same)
  where
    go : First (conditions (Call.ask (Ask.far a b)) s []) n.code → FarDone s a b n
    go (inl (e, bad)) = absurd (bad ok)
    go (inr (x, inl (e, un))) = absurd (un made)
    go (inr (x, inr (y, inl (e, un)))) = absurd (un made')
    go (inr (x, inr (y, inr (z, e)))) = p.answers.done e

-- from the focus to the target of a goto that is done it tells the goto's moves: both are the distance
goto_far : (s t : List ℕ) (a : ℕ) (s' t' s'' : List ℕ) (n m : Numbers) → GotoPromise s t a s' t' n → n.code ≡ 0 → FarPromise s (focus s) a s'' m → m.out ≡ pos n.moves
unfolding view view_f fields_of
goto_far s t a s' t' s'' n m p e q =
    let ok : Sound s = done_sound p.answers e in
    let d : SwitchDone s t a s' t' n = p.answers.done e in
    let w = sound_view s ok.whole in
    let count = switched_count (view s) (view s') a d.moves (length d.moves) d.events w d.switched in
    let made : IsMade s a = seen_made s ok.whole a (target_made (view s) (view s') a d.moves (length d.moves) d.events w d.switched) in
    let (k, told_as, apart) = (tells s (focus s) a s'' m ok (focus_made s ok.whole) made q).0 in
    out_is told_as ∙ ap pos (between_far (view s).tree w.proper (focus s) a k apart ∙ sym count ∙ sym (ap (λ (o : Numbers). o.moves) d.answer))

pub demand_3 : Demand3
demand_3 = record { goto = goes; back = goes_back; went = gone; went_back = gone_back; far = tells; as_far = goto_far; resumed = resumed_there }

pub demand_3_in_steps : Demand3InSteps
demand_3_in_steps = record {
  begun = begins;
  one_step = steps_on;
  together = λ s a s₁ qs s' start run fin. walked_in_steps s a s₁ qs s' start run fin;
  as_goto = λ s a s₁ qs s' start run fin. walked_as_goto s a s₁ qs s' start run fin;
  ends = λ s a s₁ qs u start run none_dropped many. walk_ends s a s₁ qs u start run none_dropped many;
  so_far = walked_so_far;
  dropped = drops;
}
