-- What is proved of specs/OneWalk.antt, whose head says it in words. Assumes nothing.
use Rattle.std.specs.Prelude.{◌≡◌, refl, ◌≢◌, Bool, true, false, ◌&&◌, List, ◌∷◌, ◌++◌, map, ℕ, ◌≤◌, ℤ, length}
use Rattle.std.proofs.Math.Path.{sym, ap}
use Rattle.std.proofs.Common.{◌∙◌, inl, inr}
use Rattle.std.proofs.Math.Option.{none}
use Rattle.rules.specs.Tree.{Tree, Proper, path}
use Rattle.rules.proofs.Tree.{path_once}
use Rattle.rules.specs.Store.{Deep, move_to}
use Rattle.rules.specs.World.{World}
use Rattle.rules.specs.Far.{far as distance}
use Rattle.rules.proofs.Far.{far_least}
use Rattle.rules.specs.Moves.{route, trace}
use Rattle.rules.proofs.Moves.{route_nodes, route_once, route_length}
use Rattle.rules.specs.Stops.{owed}
use Rattle.rules.specs.Refusals.{first}
use Rattle.rules.specs.Act.{Ask, Goal, Call, stride, begin, Free, asks, sets, Barred, Size, shown, is_walking, rows, moves_of, answer_of, events_of, changed, walk_after, becomes, Outcome, outcome, act}
use Rattle.rules.specs.Agree.{Kept, held}
use Rattle.rules.proofs.Agree.{act_keeps}
use Rattle.rules.specs.Demands.{refusal_of}
use Rattle.rules.specs.Places.{Due}
use Rattle.rules.specs.Runs.{Asked, leaves, is_mark, mark_if, marks, replay}
use Rattle.rules.proofs.Runs.{run_means}
use Rattle.rules.specs.Steps.{under_way, fresh}
use Rattle.rules.proofs.Steps.{walking_refused, act_done, begin_answered, goto_answered}
use Rattle.rules.specs.Deeds.{moves_in}
use Rattle.rules.specs.Thunks.{asked, Aside, Finishes, says_done, hands_over, meanwhile, deeds, handed_over, reported, Together}
use Rattle.rules.specs.Going.{Going, target_of, handed_of}
use Rattle.rules.proofs.Going.{aside_walk, held_sound, proper_held, kept_all, goes_on_lem, under_way_lem}
use Rattle.rules.specs.OneWalk.{NoSet}

-- ---- the theorem
module _ (z : Size) (room a : ℕ) (w : World Deep) (qs : List Asked) (kept : Kept z (held w)) (yes_begun : refusal_of (act z room (stride (begin a)) w).answer ≡ none)
    (finishes : Finishes z qs (act z room (stride (begin a)) w).after) where
  w₁ : World Deep
  w₁ = (act z room (stride (begin a)) w).after

  is : w₁ ≡ under_way w.store (fresh a)
  unfolding w₁
  is = (begin_answered z room a w yes_begun).2

  kept₁ : Kept z (held w₁)
  unfolding w₁
  kept₁ = act_keeps z room (stride (begin a)) w kept

  g : Going z qs w₁
  unfolding w₁
  g = under_way_lem finishes (ap (λ (u : World Deep). is_walking u.walk) is) kept₁

  all : moves_in (deeds z qs w₁) ≡ route w.store.tree w.store.focus a
  all = g.joins ∙ (λ i. route (is i).store.tree (is i).store.focus (target_of (is i).walk))

  there : (leaves z qs w₁).store.focus ≡ a
  there = g.arrives ∙ ap (λ (u : World Deep). target_of u.walk) is

  count_is : reported z qs w₁ ≡ distance w.store.tree w.store.focus a
  count_is = g.counted ∙ ap length all ∙ route_length w.store.tree w.store.focus a

  told_is : map (λ (u : Due). u.event) (handed_over z qs w₁) ≡ trace w.store.tree (route w.store.tree w.store.focus a)
  told_is = g.told ∙ (λ i. owed (is i).store.tree (is i).store.focus (target_of (is i).walk) (handed_of (is i).walk))

  pub walk_together : Together z w a (act z room (stride (begin a)) w).after qs
  unfolding w₁ route
  walk_together = record {
    arrives = there;
    over = g.over;
    leads = rw (ap (λ (u : World Deep). u.store) is) at g.leads;
    exactly = λ n. rw all (route_nodes (path t f) (path t a) n);
    once = rw all (route_once (path t f) (path t a) (path_once t proper f) (path_once t proper a));
    counted = g.counted;
    shortest = λ k c. rw count_is (far_least t proper c);
    order = all;
    told = told_is ∙ ap (trace t) (sym all);
    placed = g.placed;
    one_more = g.stepped;
    values = run_means z qs w₁ ∙ (λ i. move_to (there i) (replay z (marks z qs w₁) (is i).store));
    sound = held_sound z _ (kept_all z qs w₁ kept₁);
  }
    where
      t : Tree
      t = w.store.tree

      f : ℕ
      f = w.store.focus

      proper : Proper t
      proper = proper_held z w kept

-- a call of a walk other than set leaves the marks' work as it is
Still : Size → List Asked → World Deep → Type 0
Still z qs w = (d : Deep) (a : ℕ) → move_to a (replay z (marks z qs w) d) ≡ move_to a d

still_free : (z : Size) (c : Call) (room : ℕ) (qs : List Asked) (w : World Deep) → Free c → ((x : ℕ) (v : ℤ) → c ≢ Call.set x v)
    → Still z qs (act z room c w).after → Still z (asked c room ∷ qs) w
unfolding Still marks replay act outcome rows shown first answer_of changed
still_free z (Call.ask (Ask.look x)) room qs w asks n s d a = s d a
still_free z (Call.ask Ask.here) room qs w asks n s d a = s (move_to w.store.focus d) a
still_free z (Call.ask (Ask.peek b x)) room qs w asks n s d a = s d a
still_free z (Call.ask (Ask.far b c)) room qs w asks n s d a = s d a
still_free z (Call.set x v) room qs w sets n s d a = absurd (n x v refl)
still_free z (Call.make _) room qs w x4 n s d a = elim x4 [ ]
still_free z (Call.switch _) room qs w x5 n s d a = elim x5 [ ]
still_free z (stride _) room qs w x6 n s d a = elim x6 [ ]

still_barred : (z : Size) (c : Call) (room : ℕ) (qs : List Asked) (w : World Deep) → Barred c → is_walking w.walk ≡ true
    → Still z qs (act z room c w).after → Still z (asked c room ∷ qs) w
unfolding Still marks
still_barred z c room qs w b i s d a = rw (walking_refused z room c w b i) (go (is_mark c))
  where
    go : (m : Bool) → move_to a (replay z (mark_if (m && false) c w.store.focus ++ marks z qs (act z room c w).after) d) ≡ move_to a d
    go true = s d a
    go false = s d a

still : {z : Size} {qs : List Asked} {w : World Deep} → Finishes z qs w → is_walking w.walk ≡ true → NoSet qs → Still z qs w
unfolding Still marks replay
still (says_done q) i (not_set, others) = λ d a. refl
still {z} (hands_over {w = w} {room = room} {e = e} {es = es} q r) i (not_set, others) = still r (goes_on_lem z room w.store w.walk i e es q) others
still {z} (meanwhile {w = w} {c = c} {room = room} {qs = qs} h r) i (not_set, others) =
    let rest : Still z qs (act z room c w).after = still r (ap is_walking (aside_walk z room c w h i) ∙ i) others in
    go h rest
  where
    go : Aside c → Still z qs (act z room c w).after → Still z (asked c room ∷ qs) w
    go (inl f) s = still_free z c room qs w f not_set s
    go (inr b) s = still_barred z c room qs w b i s

module _ (z : Size) (room a : ℕ) (w : World Deep) (qs : List Asked) (kept : Kept z (held w)) (yes_begun : refusal_of (act z room (stride (begin a)) w).answer ≡ none)
    (finishes : Finishes z qs (act z room (stride (begin a)) w).after) (no_set : NoSet qs) where
  -- the world, the moves and the events of a goto whose trace has room
  pub walk_is_goto : (room' : ℕ) → length (trace w.store.tree (route w.store.tree w.store.focus a)) ≤ room'
      → (leaves z qs (act z room (stride (begin a)) w).after ≡ (act z room' (Call.switch (Goal.goto a)) w).after)
      × (reported z qs (act z room (stride (begin a)) w).after ≡ moves_of (act z room' (Call.switch (Goal.goto a)) w).answer)
      × (map (λ (u : Due). u.event) (handed_over z qs (act z room (stride (begin a)) w).after) ≡ (act z room' (Call.switch (Goal.goto a)) w).events)
  unfolding Still changed walk_after answer_of events_of shown w₁
  walk_is_goto room' fits = (
    (λ i. record { store = stores i; walk = (t.over ∙ sym out) i }) ∙ ap (λ (r : Outcome (World Deep)). r.after) (sym went),
    count_is z room a w qs kept yes_begun finishes ∙ ap (λ (r : Outcome (World Deep)). moves_of r.answer) (sym went),
    told_is z room a w qs kept yes_begun finishes ∙ ap (λ (r : Outcome (World Deep)). r.events) (sym went),
  )
    where
      t : Together z w a (act z room (stride (begin a)) w).after qs
      t = walk_together z room a w qs kept yes_begun finishes

      out : w.walk ≡ none
      out = (begin_answered z room a w yes_begun).0

      stores : (leaves z qs (act z room (stride (begin a)) w).after).store ≡ move_to a w.store
      stores = t.values ∙ still finishes (ap (λ (u : World Deep). is_walking u.walk) (begin_answered z room a w yes_begun).2) no_set w.store a

      went : act z room' (Call.switch (Goal.goto a)) w ≡ record { answer = answer_of z (Call.switch (Goal.goto a)) (shown w); events = events_of (Call.switch (Goal.goto a)) (shown w); after = becomes z (Call.switch (Goal.goto a)) w }
      went = (act_done z room' (Call.switch (Goal.goto a)) w (goto_answered z room' a w out (begin_answered z room a w yes_begun).1 fits)).1
