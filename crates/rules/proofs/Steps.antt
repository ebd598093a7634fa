-- What is proved of specs/Steps.antt, whose head says it in words. Assumes nothing.
use Rattle.std.specs.Prelude.{◌≡◌, ◌≢◌, true, false, List, [], ◌∷◌, ℕ, ◌≤◌, length}
use Rattle.std.proofs.Math.Path.{refl}
use Rattle.std.proofs.Common.{sym, ap, ◌∙◌, le-ltb}
use Rattle.std.proofs.Math.Option.{Option, none, some}
use Rattle.std.proofs.lemmas.Bool.{not-false}
use Rattle.rules.proofs.Basic.{clash, some≢none}
use Rattle.rules.specs.Tree.{blank}
use Rattle.rules.specs.Store.{Store, Deep, Sound, shallow, goto as switch, move_to}
use Rattle.rules.proofs.Store.{home_shallow}
use Rattle.rules.specs.World.{Walk, World, alone}
use Rattle.rules.specs.Moves.{Move, route, Event, trace}
use Rattle.rules.proofs.Moves.{route_length}
use Rattle.rules.specs.Leg.{Leg, leg_to, stop_to, Walking}
use Rattle.rules.specs.Stops.{Stepped}
use Rattle.rules.proofs.Stops.{stepped, leg_way, leg_route}
use Rattle.rules.specs.Refusals.{walking, not_walking, first}
use Rattle.rules.proofs.Refusals.{none_given}
use Rattle.rules.specs.Act.{Ask, Goal, Stride, Call, stride, begin, step, drop, Free, asks, sets, Barred, Needing, steps, drops, Size, shown, is_made, leg_of, is_walking, rows, a_number, Answer, done, refused, answer_of, events_of, changed, goes_on, walk_after, becomes, Outcome, outcome, act}
use Rattle.rules.proofs.Grounds.{barred_first}
use Rattle.rules.specs.Demands.{refusal_of, Switched}
use Rattle.rules.proofs.Demands.{answers_done, goto_switches, moves_determine}
use Rattle.rules.specs.Steps.{with_walk, under_way, fresh, answers_focus, OneStep}

-- ---- refusals
module _ (z : Size) (room : ℕ) where
  -- Walking comes before all of a call's own
  pub walking_refused : (c : Call) (w : World Deep) → Barred c → is_walking w.walk ≡ true → (act z room c w).answer ≡ refused walking
  unfolding act outcome rows shown first
  walking_refused c w b i = rw ((barred_first z room c (shown w) b).1, i)

  pub not_walking_refused : (c : Call) (w : World Deep) → Needing c → is_walking w.walk ≡ false → (act z room c w).answer ≡ refused not_walking
  unfolding act outcome rows shown first
  not_walking_refused (stride step) w steps i = rw i
  not_walking_refused (stride drop) w drops i = rw i
  not_walking_refused (Call.ask _) w x3 i = elim x3 [ ]
  not_walking_refused (Call.make _) w x4 i = elim x4 [ ]
  not_walking_refused (Call.set _ _) w x6 i = elim x6 [ ]
  not_walking_refused (Call.switch _) w x6 i = elim x6 [ ]
  not_walking_refused (stride (begin _)) w x10 i = elim x10 [ ]

module _ (z : Size) (room : ℕ) (c : Call) (w : World Deep) where
  -- a call that is refused does nothing
  pub act_refused : (n : ℕ) → (act z room c w).answer ≡ refused n → act z room c w ≡ record { answer = refused n; events = []; after = w }
  unfolding act outcome
  act_refused n h = go (first (rows z room c (shown w))) h
    where
      go : (o : Option ℕ) → (outcome o (answer_of z c (shown w)) (events_of c (shown w)) w (becomes z c w)).answer ≡ refused n
          → outcome o (answer_of z c (shown w)) (events_of c (shown w)) w (becomes z c w) ≡ record { answer = refused n; events = []; after = w }
      go none e = some≢none (ap refusal_of e) (answers_done z c (shown w))
      go (some m) e = λ i. record { answer = e i; events = []; after = w }

  -- a call that is answered does all that `Act` says of it
  pub act_done : refusal_of (act z room c w).answer ≡ none
      → (first (rows z room c (shown w)) ≡ none)
      × (act z room c w ≡ record { answer = answer_of z c (shown w); events = events_of c (shown w); after = becomes z c w })
  unfolding act outcome
  act_done h = go (first (rows z room c (shown w))) refl h
    where
      w₁ : World Deep
      w₁ = becomes z c w

      go : (o : Option ℕ) → first (rows z room c (shown w)) ≡ o → refusal_of (outcome o (answer_of z c (shown w)) (events_of c (shown w)) w w₁).answer ≡ none
          → (first (rows z room c (shown w)) ≡ none) × (outcome o (answer_of z c (shown w)) (events_of c (shown w)) w w₁ ≡ record { answer = answer_of z c (shown w); events = events_of c (shown w); after = w₁ })
      go none e q = (e, refl)
      go (some n) e q = some≢none refl q

-- all three answer the focus, a step also its moves
pub stride_answers : (z : Size) (room : ℕ) (s : Stride) (w : World Deep) → refusal_of (act z room (stride s) w).answer ≡ none
    → (act z room (stride s) w).answer ≡ done (a_number (act z room (stride s) w).after.store.focus) (length (leg_of s (shown w)).moves)
unfolding answer_of changed
stride_answers z room s w h = rw (act_done z room (stride s) w h).1

same_but_walk : (w : World Deep) (o : Option ℕ) (a : Answer) (d : Deep)
    → outcome o a [] w (record { store = d; walk = w.walk }) ≡ with_walk w.walk (outcome o a [] (alone w.store) (alone d))
unfolding outcome
same_but_walk w none a d = refl
same_but_walk w (some n) a d = refl

pub as_ever : (z : Size) (room : ℕ) (c : Call) (w : World Deep) → Free c → act z room c w ≡ with_walk w.walk (act z room c (alone w.store))
unfolding act rows shown answer_of events_of changed walk_after
as_ever z room (Call.ask (Ask.look x)) w asks = same_but_walk w _ _ _
as_ever z room (Call.ask Ask.here) w asks = same_but_walk w _ _ _
as_ever z room (Call.ask (Ask.peek a x)) w asks = same_but_walk w _ _ _
as_ever z room (Call.ask (Ask.far a b)) w asks = same_but_walk w _ _ _
as_ever z room (Call.set x v) w sets = same_but_walk w _ _ _
as_ever z room (Call.make _) w x'' = elim x'' [ ]
as_ever z room (Call.switch _) w x3 = elim x3 [ ]
as_ever z room (stride _) w x4 = elim x4 [ ]

pub begun : (z : Size) (room a : ℕ) (d : Deep) → is_made d.tree a ≡ true → act z room (stride (begin a)) (alone d) ≡ answers_focus (alone d) (under_way d (fresh a))
unfolding act outcome rows shown first answer_of events_of changed walk_after
begun z room a d h = rw h

-- a begin that is answered was outside a walk, and its target is made
pub begin_answered : (z : Size) (room a : ℕ) (w : World Deep) → refusal_of (act z room (stride (begin a)) w).answer ≡ none
    → (w.walk ≡ none) × (is_made w.store.tree a ≡ true) × ((act z room (stride (begin a)) w).after ≡ under_way w.store (fresh a))
unfolding rows shown changed walk_after
begin_answered z room a w h =
    let given = act_done z room (stride (begin a)) w h in
    (off w.walk (none_given _ _ given.0).0, not-false _ (none_given _ _ (none_given _ _ given.0).1).0, ap (λ (r : Outcome (World Deep)). r.after) given.1)
  where
    off : (o : Option Walk) → is_walking o ≡ false → o ≡ none
    off none e = refl
    off (some k) e = clash refl e

-- a goto to a made target outside a walk is answered where its trace has room
pub goto_answered : (z : Size) (room a : ℕ) (w : World Deep) → w.walk ≡ none → is_made w.store.tree a ≡ true
    → length (trace w.store.tree (route w.store.tree w.store.focus a)) ≤ room → refusal_of (act z room (Call.switch (Goal.goto a)) w).answer ≡ none
unfolding act outcome rows events_of shown first answer_of
goto_answered z room a w out made fits = rw (out, made, le-ltb room (length (trace w.store.tree (route w.store.tree w.store.focus a))) fits)

pub dropped : (z : Size) (room : ℕ) (d : Deep) (k : Walk) → act z room (stride drop) (under_way d k) ≡ answers_focus (under_way d k) (alone d)
unfolding act outcome rows shown first answer_of events_of changed walk_after
dropped z room d k = refl

switched_by : (s s' : Store) (l : ℕ) (ms : List Move) → Sound s → s.tree.what l ≢ blank → s' ≡ switch l s → ms ≡ route s.tree s.focus l
    → Switched s s' l ms (length ms) (trace s.tree ms)
switched_by s s' l ms ok made e q = rw (e, q, route_length s.tree s.focus l) (goto_switches s l ok made)

pub act_step : (z : Size) (room : ℕ) (d : Deep) (k : Walk) → Sound (shallow d) → Walking d.tree d.focus (some k)
    → OneStep d k (leg_to d.tree d.focus k.target k.handed) (act z room (stride step) (under_way d k))
unfolding act outcome rows shown first answer_of events_of changed walk_after switch shallow
act_step z room d k ok (made, handed) = record {
  answered = refl;
  switches = switched_by (shallow d) (shallow (move_to n d)) n l.moves ok s.made (ap (λ (v : Deep). shallow (move_to n v)) (sym (home_shallow d))) (leg_route (shallow d) ok k.target k.handed made handed);
  on_way = leg_way (shallow d) ok k.target k.handed made handed;
  keeps = refl;
  events = refl;
  at_most_one = s.one;
  placed = s.places;
  hands = s.hands;
  says_done = λ q. (λ i. record { store = move_to ((s.arrives q).0 i) d; walk = goes_on (q i) (some k) l.handed });
  goes_on_lem = λ e es q. ap (λ (v : List Event). goes_on v (some k) l.handed) q;
}
  where
    l : Leg
    l = leg_to d.tree d.focus k.target k.handed

    n : ℕ
    n = stop_to d.tree d.focus k.target k.handed

    s : Stepped d.tree d.focus k.target k.handed l n
    s = stepped (shallow d) ok k.target k.handed made handed

-- the statement leaves no choice
pub step_determined : (d : Deep) (k : Walk) (l : Leg) (r r' : Outcome (World Deep)) → OneStep d k l r → OneStep d k l r' → r ≡ r'
unfolding shallow
step_determined d k l r r' s s' =
    λ i. record { answer = (s.answered ∙ ap (λ (n : ℕ). done (a_number n) (length l.moves)) focus ∙ sym s'.answered) i; events = (s.events ∙ sym s'.events) i; after = afters l.events refl i }
  where
    focus : r.after.store.focus ≡ r'.after.store.focus
    focus = ap (λ (u : Store). u.focus) (moves_determine s.switches.moves s'.switches.moves)

    store : r.after.store ≡ r'.after.store
    store = s.keeps ∙ ap (λ (n : ℕ). move_to n d) focus ∙ sym s'.keeps

    afters : (es : List Event) → l.events ≡ es → r.after ≡ r'.after
    afters [] q = s.says_done (s.events ∙ q) ∙ sym (s'.says_done (s'.events ∙ q))
    afters (e ∷ es) q = λ i. record { store = store i; walk = (s.goes_on_lem e es (s.events ∙ q) ∙ sym (s'.goes_on_lem e es (s'.events ∙ q))) i }
