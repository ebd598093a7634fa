-- A walk's calls one by one: what each begin, step and drop of a run on bytes does, and what stands between them. So the moves made are
-- the first of the way to the target, and the events handed over the first of those owed.
-- From document 02, W5. Assumes that lent memory holds bytes.
use Rattle.std.specs.Prelude.{◌≡◌, refl, ◌≢◌, ◌⊎◌, Bool, true, false, ℕ, ◌+◌, ◌≤◌, ◌<◌, pos, eqb}
use Rattle.std.proofs.Math.Path.{sym, ap}
use Rattle.std.proofs.Common.{subst, ◌∙◌, inl, inr, arith, eqb-true, length-append}
use Rattle.std.proofs.Math.Option.{Option, none, some}
use Rattle.std.proofs.Math.Decide.{dec_le}
use mathlib.Core.List.{List, [], ◌∷◌, ◌++◌, map, map-append, append_assoc, append-nil}
use Rattle.std.proofs.Math.ListN.{length}
use Rattle.rules.specs.Basic.{on}
use Rattle.rules.proofs.Basic.{clash, some≢none}
use Rattle.rules.specs.Tree.{Tree}
use Rattle.rules.specs.Values.{value}
use Rattle.rules.specs.Store as store
use Rattle.rules.specs.Store.{Deep, home}
use Rattle.rules.specs.Moves.{Move, Moves, route, Event}
use Rattle.rules.proofs.Moves.{moves_tree, route_length}
use Rattle.rules.specs.World.{World}
use Rattle.rules.specs.Leg.{Leg, arrived}
use Rattle.rules.specs.Stops.{owed}
use Rattle.rules.proofs.Grounds.{each_call}
use Rattle.rules.specs.Refusals.{first}
use Rattle.rules.specs.Act.{Stride, Call, stride, begin, step, drop, Free, Barred, Needing, steps as needs_step, drops as needs_drop, Size, shown, goal_of, leg_of, is_walking, rows, Answer, done, refused, code_of, moves_of, answer_of, events_of, becomes, Outcome, outcome, act}
use Rattle.rules.specs.Agree as agree
use Rattle.rules.specs.Agree.{held as held_in}
use Rattle.rules.proofs.Agree.{held_meaning}
use Rattle.rules.specs.Demands.{refusal_of}
use Rattle.rules.proofs.Demands.{moves_determine}
use Rattle.rules.specs.Calls.{value_at}
use Rattle.rules.specs.Runs.{after, is_done}
use Rattle.rules.specs.Deeds.{Deed, moves, sets}
use Rattle.rules.specs.Thunks as thunks
use Rattle.rules.specs.Thunks.{Aside, deeds_of, if_done}
use Rattle.rules.proofs.Going.{aside_walk, quiet, held_sound}
use Rattle.layout.specs.Limits.{none_n}
use Rattle.layout.specs.Records.{vars, focus, target, handed}
use Rattle.layout.specs.Fields.{fields_of}
use Rattle.layout.specs.View.{view_f, view, or_none, walk_of}
use Rattle.layout.specs.Sound.{Sound}
use Rattle.layout.specs.Made.{IsMade}
use Rattle.layout.specs.Bytes.{Bytes}
use Rattle.layout.specs.Events.{told, events_to}
use Rattle.layout.proofs.SoundLaws.{sound_view, sound_ranked}
use Rattle.layout.proofs.StrideLaws.{none_is, walk_once}
use Rattle.promises.specs.Answers.{Numbers, done as done_with, handing}
use Rattle.promises.specs.Promises.{meaning, world, at, room_for, damaged_row, variable_row, value_row, environment_row, walking_row, not_walking_row, StrideDone}
use Rattle.promises.specs.Tables.{First}
use Rattle.promises.specs.Calls.{Promised}
use Rattle.demands.specs.Tests.{size_at, traced_by}
use Rattle.demands.proofs.Tests.{seen_numbered, no_walk_lem, off_walk, walk_is, none_of, is_walking_lem}
use Rattle.demands.specs.AsAct.{acted, numbers_of}
use Rattle.demands.proofs.AsAct.{keeps_size, told_none, traced_none}
use Rattle.demands.specs.Held.{SetsFit}
use Rattle.demands.proofs.Held.{set_fits}
use Rattle.demands.specs.OneStep.{heard_in, heard_as, owed_at, Stopped}
use Rattle.demands.proofs.OneStep.{steps_on}
use Rattle.demands.specs.Doors.{Step, Run, over, next, answered, asked}
use Rattle.demands.proofs.Doors.{acts, one_left, one_done, one_size}
use Rattle.demands.specs.Walks.{Begun, Finishes, InBytes, InTurn, no_call, call, Stands, UnderWay, Untraced, calling, hands_over, heard, meanwhile, reported, says_done, sets_if, steps}

-- ---- a sound store is a world that the rules keep
pub kept_world : (s : List ℕ) → Sound s → agree.Kept (size_at s) (held_in (world s))
unfolding world meaning view view_f walk_of
kept_world s ok =
    let w = sound_view s ok.whole in
    rw (held_meaning (record { store = view s; walk = walk_of s }) w)
    (record { well = record { sound = w; numbers = seen_numbered s ok; depths = sound_ranked s ok.whole }; walk = ok.walk.walking })

-- an answered call is one that `act` answers
done_answered : (r : Answer) → is_done r ≡ true → refusal_of r ≡ none
done_answered (done o m) h = refl
done_answered (refused n) h = clash h refl

pub code_none : (r : Answer) → refusal_of r ≡ none → code_of r ≡ 0
code_none (done o m) h = refl
code_none (refused n) h = some≢none refl h

lt_of : (a b : ℕ) → (a ≤ b → ⊥) → b < a
lt_of a b h = go (dec_le a b)
  where
    go : Dec (a ≤ b) → b < a
    go (yes k) = absurd (h k)
    go (no k) = omega arith

no_code : {n : ℕ} → n ≡ 0 → eqb n 0 ≡ true
no_code e = rw e refl

pub nil : (es : List Event) → length es ≡ 0 → es ≡ []
nil [] h = refl
nil (e ∷ es) h = absurd (omega arith)

-- ---- one call of a run: what `act` gives is in its numbers
module _ (s u : List ℕ) (q : Step) (ok : Sound s) (p : Promised q.call s q.lent u q.traced q.numbers) where
  abbrev pub given : Outcome (World Deep)
  given = act (size_at s) (room_for q.lent) q.call (world s)

  pub one_numbers : q.numbers ≡ numbers_of q.call given
  unfolding acted
  one_numbers = (acts s u q ok p).answer

  pub one_moves : q.numbers.moves ≡ moves_of given.answer
  unfolding numbers_of
  one_moves = ap (λ (n : Numbers). n.moves) one_numbers

  pub one_events : q.numbers.events ≡ length given.events
  unfolding numbers_of
  one_events = ap (λ (n : Numbers). n.events) one_numbers

  pub one_code : q.numbers.code ≡ code_of given.answer
  unfolding numbers_of
  one_code = ap (λ (n : Numbers). n.code) one_numbers

  pub one_answered : q.numbers.code ≡ 0 → refusal_of given.answer ≡ none
  one_answered e = done_answered given.answer (sym (one_done s u q ok p) ∙ no_code e)

  -- what is said of the rest of the run, from u, as the rules have it from s
  pub onward : (P : Size → World Deep → Type 0) → P (size_at u) (world u) → P (size_at s) (after (size_at s) (asked q) (world s))
  onward P h = subst (λ (w : World Deep). P (size_at s) w) (one_left s u q ok p) (subst (λ (z : Size). P z (world u)) (one_size s u q ok p) h)

  pub backward : (P : Size → World Deep → Type 0) → P (size_at s) (after (size_at s) (asked q) (world s)) → P (size_at u) (world u)
  backward P h = subst (λ (z : Size). P z (world u)) (sym (one_size s u q ok p)) (subst (λ (w : World Deep). P (size_at s) w) (sym (one_left s u q ok p)) h)

-- ---- the run as the rules have it
pub reports : (s v : List ℕ) (qs : List Step) → Run s qs v → Sound s → reported qs ≡ thunks.reported (size_at s) (map asked qs) (world s)
unfolding thunks.reported
reports s v [] over ok = refl
reports s v (q ∷ qs) (next u e p r) ok =
    let rest = reports u v qs r (acts s u q ok p).sound in
    λ i. one_moves s u q ok p i + onward s u q ok p (λ z w. reported qs ≡ thunks.reported z (map asked qs) w) rest i

pub steps_as : (qs : List Step) → steps qs ≡ thunks.steps (map asked qs)
steps_as [] = refl
steps_as (q ∷ qs) = ap (λ (k : ℕ). thunks.is_step q.call + k) (steps_as qs)

-- what one call did: its moves and its set
record Did (c : Call) (ds : List Deed) (r : Answer) : Type 0 where
  ms : List Move
  count : moves_of r ≡ length ms
  is : if_done r ds ≡ map moves ms ++ sets_if (is_done r) c

did_done : (z : Size) (c : Call) (w : World Deep) → Did c (deeds_of c (shown w)) (answer_of z c (shown w))
unfolding answer_of
did_done z (Call.ask q) w = record { ms = []; count = refl; is = refl }
did_done z (Call.make k) w = record { ms = []; count = refl; is = refl }
did_done z (Call.set x v) w = record { ms = []; count = refl; is = refl }
did_done z (Call.switch g) w = record { ms = route (shown w).tree (shown w).focus (goal_of g (shown w)); count = sym (route_length (shown w).tree (shown w).focus (goal_of g (shown w))); is = sym (append-nil _) }
did_done z (stride k) w = record { ms = (leg_of k (shown w)).moves; count = refl; is = sym (append-nil _) }

did : (z : Size) (room : ℕ) (c : Call) (w : World Deep) → Did c (deeds_of c (shown w)) (act z room c w).answer
unfolding act outcome
did z room c w = go (first (rows z room c (shown w)))
  where
    go : (o : Option ℕ) → Did c (deeds_of c (shown w)) (outcome o (answer_of z c (shown w)) (events_of c (shown w)) w (becomes z c w)).answer
    go none = did_done z c w
    go (some n) = record { ms = []; count = refl; is = refl }

pub turned : (s v : List ℕ) (qs : List Step) → Run s qs v → Sound s → InTurn qs (thunks.deeds (size_at s) (map asked qs) (world s))
unfolding thunks.deeds
turned s v [] over ok = no_call
turned s v (q ∷ qs) (next u e p r) ok =
    let d = did (size_at s) (room_for q.lent) q.call (world s) in
    let rest = onward s u q ok p (λ z w. InTurn qs (thunks.deeds z (map asked qs) w)) (turned u v qs r (acts s u q ok p).sound) in
    let is = d.is ∙ ap (λ (b : Bool). map moves d.ms ++ sets_if b q.call) (sym (one_done s u q ok p)) in
    subst (λ (ds : List Deed). InTurn (q ∷ qs) ds)
    (ap (λ (ds : List Deed). ds ++ thunks.deeds (size_at s) (map asked qs) (after (size_at s) (asked q) (world s))) (sym is))
    (call d.ms (one_moves s u q ok p ∙ d.count) rest)

-- .. set values
first_bytes : {s v : List ℕ} {qs : List Step} (r : Run s qs v) → InBytes r → Bytes s
first_bytes over b = b
first_bytes (next u e p r) b = b.0

set_fitting : (s u t t' : List ℕ) (n : Numbers) (c : Call) → Bytes u → Promised c s t u t' n → (a : Bool) → eqb n.code 0 ≡ a → (ds : List Deed) → SetsFit (vars s) ds
    → SetsFit (vars s) (sets_if a c ++ ds)
set_fitting s u t t' n (Call.ask q) b p true h ds f = f
set_fitting s u t t' n (Call.make k) b p true h ds f = f
set_fitting s u t t' n (Call.switch g) b p true h ds f = f
set_fitting s u t t' n (stride k) b p true h ds f = f
set_fitting s u t t' n c b p false h ds f = f
set_fitting s u t t' n (Call.set x z) b p true h ds f = go p.0.answers.first
  where
    code : n.code ≡ 0
    code = eqb-true n.code 0 h

    go : First (damaged_row s ∷ variable_row s x ∷ value_row s (focus s) x ∷ []) n.code → SetsFit (vars s) (sets x (value z) ∷ ds)
    go (inl (k, bad)) = absurd (omega (arith, code))
    go (inr (o, inl (k, w))) = absurd (omega (arith, code))
    go (inr (o, inr (known, rest))) =
        let inside : x < vars s = lt_of (vars s) x known in
        (inside, set_fits s u x z n b inside (p.0.answers.done code), f)

moves_fit : (k : ℕ) (ms : List Move) (xs ds : List Deed) → SetsFit k (xs ++ ds) → SetsFit k (map moves ms ++ xs ++ ds)
moves_fit k [] xs ds f = f
moves_fit k (m ∷ ms) xs ds f = moves_fit k ms xs ds f

pub sets_fit : (s v : List ℕ) (qs : List Step) (r : Run s qs v) → Sound s → InBytes r → (ds : List Deed) → InTurn qs ds → SetsFit (vars s) ds
sets_fit s v [] over ok b ds no_call = tt
sets_fit s v (q ∷ qs) (next u e p r) ok (b, bs) _ (call {ds = ds} ms n rest) =
    let k = keeps_size q.call s u (acts s u q ok p).kept in
    moves_fit (vars s) ms (sets_if (answered q) q.call) ds
    (set_fitting s u q.lent q.traced q.numbers q.call (first_bytes r bs) p (answered q) refl ds
    (subst (λ (m : ℕ). SetsFit m ds) k.vars (sets_fit u v qs r (acts s u q ok p).sound bs ds rest)))

-- ---- begin and drop
stands : (k : Stride) (s t s' t' : List ℕ) (a : ℕ) (n : Numbers) → StrideDone k s s' n → leg_of k (shown (world s)) ≡ arrived → target s' ≡ a → handed s' ≡ none_n → t' ≡ t
    → Stands s t s' t' a n
unfolding at meaning view view_f fields_of
stands k s t s' t' a n d none_gone to_a no_wind e =
    let seen : view s' ≡ view s = moves_determine d.moved (rw none_gone Moves.done) in
    let stays : focus s' ≡ focus s = ap (λ (v : store.Store). v.focus) seen in
    record {
      answer = d.answer ∙ ap (λ (l : Leg). handing (focus s') (length l.moves) l.events) none_gone ∙ ap (λ (f : ℕ). done_with (pos f) 0 0) stays;
      sound = d.sound;
      target = to_a;
      handed = no_wind;
      stays = stays;
      seen = seen;
      values = λ b x. ap (λ (v : store.Store). value_at (home v) b x) seen;
      size = d.size;
      untraced = e;
    }

-- a walk is under way
pub drops : (s t s' t' : List ℕ) (n : Numbers) → Sound s → target s ≢ none_n → Promised (stride drop) s t s' t' n → (n.code ≡ 0) × Stands s t s' t' none_n n
unfolding fields_of
drops s t s' t' n ok on (p, e) = go p.answers.first
  where
    go : First (damaged_row s ∷ not_walking_row s ∷ []) n.code → (n.code ≡ 0) × Stands s t s' t' none_n n
    go (inl (k, bad)) = absurd (bad ok)
    go (inr (x, inl (k, out))) = absurd (on out)
    go (inr (x, inr (y, c))) =
        let d = p.answers.done c in
        let out : target s' ≡ none_n = no_walk_lem s' d.walk in
        (c, stands drop s t s' t' none_n n d refl out (d.sound.walk.only out) e)

begun_stands : (s t s' t' : List ℕ) (a : ℕ) (n : Numbers) → t' ≡ t → StrideDone (begin a) s s' n → Stands s t s' t' a n
begun_stands s t s' t' a n e d = let (to_a, no_wind) = walk_is s' a none d.walk in stands (begin a) s t s' t' a n d refl to_a (none_of (handed s') no_wind) e

-- none is, and a is made
pub begins : (s t s' t' : List ℕ) (a : ℕ) (n : Numbers) → Sound s → target s ≡ none_n → IsMade s a → Promised (stride (begin a)) s t s' t' n → (n.code ≡ 0) × Stands s t s' t' a n
begins s t s' t' a n ok out made (p, e) = go p.answers.first
  where
    go : First (damaged_row s ∷ walking_row s ∷ environment_row s a ∷ []) n.code → (n.code ≡ 0) × Stands s t s' t' a n
    go (inl (k, bad)) = absurd (bad ok)
    go (inr (x, inl (k, on))) = absurd (on out)
    go (inr (x, inr (y, inl (k, un)))) = absurd (un made)
    go (inr (x, inr (y, inr (z, c)))) = (c, begun_stands s t s' t' a n e (p.answers.done c))

-- ---- a walk, call by call
-- one call of it, from s to u: the first of the moves and of the events that are left
record OneOn (s t u t' : List ℕ) (n : Numbers) : Type 0 where
  ms : List Move
  way : route (view s).tree (focus s) (target s) ≡ ms ++ route (view u).tree (focus u) (target s)
  count : n.moves ≡ length ms
  es : List Event
  owes : owed_at s (target s) ≡ es ++ owed_at u (target s)
  hears : heard_in n.events n ≡ map heard_as es
  untraced : t' ≡ t

-- the walk goes on where a step hands an event over, and where the target still stands
hands_on : {s u : List ℕ} {n : Numbers} {ms : List Move} → Stopped s u n ms → n.events ≡ 1 → target u ≡ target s
hands_on (Stopped.says_done e there out no_wind) one = absurd (omega (arith, e))
hands_on (Stopped.leaving w p q before is up mode ms told aims no_wind) one = aims
hands_on (Stopped.entering w p q is up mode told aims noted) one = aims

aims_on : {s u : List ℕ} {n : Numbers} {ms : List Move} → Stopped s u n ms → target u ≢ none_n → target u ≡ target s
aims_on (Stopped.says_done e there out no_wind) on = absurd (on out)
aims_on (Stopped.leaving w p q before is up mode ms told aims no_wind) on = aims
aims_on (Stopped.entering w p q is up mode told aims noted) on = aims

module _ (s u t t' : List ℕ) (n : Numbers) (ok : Sound s) (on : target s ≢ none_n) where
  step_on : Promised (stride step) s t u t' n → OneOn s t u t' n
  step_on p =
      let (c, o) = steps_on s t u t' n ok on p in
      record {
        ms = o.moves;
        way = o.on_way ∙ sym (ap (λ (x : Tree). o.moves ++ route x (focus u) (target s)) (moves_tree o.leads));
        count = o.counted;
        es = o.events;
        owes = o.owes;
        hears = o.hands;
        untraced = o.untraced;
      }

  -- what stands between leaves the walk as it is
  module _ (c : Call) (p : Promised c s t u t' n) (h : Aside c) where
    abbrev q : Step
    q = calling c (focus s) t t' n

    same_walk : (target u ≡ target s) × (handed u ≡ handed s)
    unfolding world
    same_walk = walk_once (acts s u q ok p).sound ok (ap (λ (w : World Deep). w.walk) (one_left s u q ok p) ∙ aside_walk (size_at s) (room_for t) c (world s) h (is_walking_lem s on))

    aside_on : OneOn s t u t' n
    unfolding world meaning home view view_f fields_of acted
    aside_on =
        let k = quiet (size_at s) (room_for t) (world s) (held_sound (size_at s) (world s) (kept_world s ok)) c h (is_walking_lem s on) in
        let tree : (view u).tree ≡ (view s).tree = ap (λ (w : World Deep). w.store.tree) (one_left s u q ok p) ∙ k.tree in
        let foc : focus u ≡ focus s = ap (λ (w : World Deep). w.store.focus) (one_left s u q ok p) ∙ k.focus in
        record {
          ms = [];
          way = sym (λ j. route (tree j) (foc j) (target s));
          count = one_moves s u q ok p ∙ k.count;
          es = [];
          owes = sym (λ j. owed (tree j) (foc j) (target s) (or_none (same_walk.1 j)));
          hears = ap (λ (m : ℕ). heard_in m n) (one_events s u q ok p ∙ ap length k.events);
          untraced = (acts s u q ok p).events ∙ ap (λ (es : List Event). told (traced_by c es) t) k.events ∙ ap (λ (es : List Event). told es t) (traced_none c) ∙ told_none t;
        }

  -- any call after which the target still stands
  one_on : target u ≢ none_n → (c : Call) → Promised c s t u t' n → Free c ⊎ (Barred c ⊎ Needing c) → OneOn s t u t' n × (target u ≡ target s)
  one_on still c p (inl f) = (aside_on c p (inl f), (same_walk c p (inl f)).0)
  one_on still c p (inr (inl b)) = (aside_on c p (inr b), (same_walk c p (inr b)).0)
  one_on still (stride step) p (inr (inr needs_step)) = (step_on p, aims_on (steps_on s t u t' n ok on p).1.stops still)
  one_on still (stride drop) p (inr (inr needs_drop)) = let (c, o) = drops s t u t' n ok on p in absurd (still o.target)
  one_on still (Call.ask _) p (inr (inr x5)) = elim x5 [ ]
  one_on still (Call.make _) p (inr (inr x6)) = elim x6 [ ]
  one_on still (Call.set _ _) p (inr (inr x8)) = elim x8 [ ]
  one_on still (Call.switch _) p (inr (inr x8)) = elim x8 [ ]
  one_on still (stride (begin _)) p (inr (inr x11)) = elim x11 [ ]

-- all of them, from any store of it
pub record AllOn (s : List ℕ) (a : ℕ) (qs : List Step) (u : List ℕ) : Type 0 where
  pub ms : List Move
  pub way : route (view s).tree (focus s) a ≡ ms ++ route (view u).tree (focus u) a
  pub count : reported qs ≡ length ms
  pub es : List Event
  pub owes : owed_at s a ≡ es ++ owed_at u a
  pub hears : heard qs ≡ map heard_as es
  pub untraced : Untraced qs

none_on : (s : List ℕ) (a : ℕ) → AllOn s a [] s
none_on s a = record { ms = []; way = refl; count = refl; es = []; owes = refl; hears = refl; untraced = tt }

more_on : (s u v : List ℕ) (q : Step) (qs : List Step) → OneOn s q.lent u q.traced q.numbers → AllOn u (target s) qs v → AllOn s (target s) (q ∷ qs) v
more_on s u v q qs o w = record {
  ms = o.ms ++ w.ms;
  way = o.way ∙ ap (λ (l : List Move). o.ms ++ l) w.way ∙ sym (append_assoc o.ms w.ms _);
  count = (λ i. o.count i + w.count i) ∙ sym (length-append o.ms w.ms);
  es = o.es ++ w.es;
  owes = o.owes ∙ ap (λ (l : List Event). o.es ++ l) w.owes ∙ sym (append_assoc o.es w.es _);
  hears = (λ i. o.hears i ++ w.hears i) ∙ sym (map-append heard_as o.es w.es);
  untraced = (o.untraced, w.untraced);
}

pub aimed : {u v : List ℕ} {qs : List Step} {a b : ℕ} → a ≡ b → AllOn u a qs v → AllOn u b qs v
aimed {u} {v} {qs} e w = subst (λ (a : ℕ). AllOn u a qs v) e w

-- while it is under way
first_on : {s v : List ℕ} {qs : List Step} (r : Run s qs v) → UnderWay r → target s ≢ none_n
first_on over h = h
first_on (next u e p r) h = h.0

pub all_on : (s v : List ℕ) (qs : List Step) (r : Run s qs v) → Sound s → UnderWay r → AllOn s (target s) qs v × (target v ≡ target s)
all_on s v [] over ok h = (none_on s (target s), refl)
all_on s v (q ∷ qs) (next u e p r) ok (on, h) =
    let (o, aims) = one_on s u q.lent q.traced q.numbers ok on (first_on r h) q.call p (each_call q.call) in
    let (w, end) = all_on u v qs r (acts s u q ok p).sound h in
    (more_on s u v q qs o (aimed aims w), end ∙ aims)

-- up to the step that says done
pub done_on : (s v : List ℕ) (qs : List Step) → Run s qs v → Sound s → target s ≢ none_n → Finishes qs → AllOn s (target s) qs v
done_on s v [] _ ok on f = elim f [ ]
done_on s v (q ∷ []) (next u e p over) ok on (says_done {f} {t} {t'} {n} c k) = more_on s u v q [] (step_on s u t t' n ok on p) (none_on u (target s))
done_on s v (q ∷ qs) (next u e p r) ok on (hands_over {f} {t} {t'} {n} c k fin) =
    let aims : target u ≡ target s = hands_on (steps_on s t u t' n ok on p).1.stops k in
    more_on s u v q qs (step_on s u t t' n ok on p) (aimed aims (done_on u v qs r (acts s u q ok p).sound (λ z. on (sym aims ∙ z)) fin))
done_on s v (q ∷ qs) (next u e p r) ok on (meanwhile h fin) =
    let aims = (same_walk s u q.lent q.traced q.numbers ok on q.call p h).0 in
    more_on s u v q qs (aside_on s u q.lent q.traced q.numbers ok on q.call p h) (aimed aims (done_on u v qs r (acts s u q ok p).sound (λ z. on (sym aims ∙ z)) fin))

-- ---- a begun walk: the store is seen as it was, and all of goto's events are owed
module _ (s : List ℕ) (a : ℕ) (s₁ : List ℕ) (start : Begun s a s₁) where
  pub begun_there : Stands s [] s₁ [] a start.numbers
  begun_there = begun_stands s [] s₁ [] a start.numbers refl (start.promised.answers.done start.answered)

  pub begun_on : target s₁ ≢ none_n
  begun_on e = clash (ap is_walking (start.promised.answers.done start.answered).walk) (ap is_walking (off_walk s₁ e))

  pub all_owed : owed_at s₁ a ≡ events_to s a
  unfolding view view_f fields_of
  all_owed =
      let same : view s₁ ≡ view s = begun_there.seen in
      (λ i. owed (same i).tree (same i).focus a (or_none (handed s₁))) ∙ ap (owed (view s).tree (focus s) a) (none_is (handed s₁) begun_there.handed)
