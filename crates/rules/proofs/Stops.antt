-- What is proved of specs/Stops.antt, whose head says it in words. Assumes nothing.
use Rattle.std.specs.Prelude.{◌≡◌, ◌≢◌, Bool, true, false, ℕ, zero, suc, ◌≤◌}
use Rattle.std.proofs.Math.Path.{refl, ap}
use Rattle.std.proofs.Common.{sym, ◌∙◌, le_refl}
use Rattle.std.proofs.Math.Option.{Option, none, some}
use mathlib.Core.List.{List, [], ◌∷◌, ◌++◌}
use native.Mathlib.Omega.{arith}
use Rattle.std.proofs.Math.ListN.{length, length-append}
use Rattle.rules.specs.Basic.{on, or_top}
use Rattle.rules.specs.Tree.{What, blank, top, binding, wind, Tree, Proper, path}
use Rattle.rules.proofs.Tree.{off_parent}
use Rattle.rules.specs.Store.{Store, Sound, leave, goto}
use Rattle.rules.proofs.Store.{leave_at, goto_focus, goto_here, goto_goto, leave_goto, enter_goto}
use Rattle.rules.specs.Far.{far}
use Rattle.rules.specs.Moves.{Move, left, entered, node_of, Moves, done, move, after, route, Event, wind_event, event_of, trace, is_wind}
use Rattle.rules.proofs.Moves.{moves_tree, moves_sound, left_parent, route_length, length_event}
use Rattle.rules.proofs.Walk.{goto_moves}
use Rattle.rules.specs.Route.{Next, there, leaves, enters}
use Rattle.rules.proofs.Route.{next, enter_first, first_far, made_child, moves_forced, route_self}
use Rattle.rules.specs.Way.{OnWay}
use Rattle.rules.proofs.Way.{passed_on_way}
use Rattle.rules.specs.Leg.{Leg, going, handing, or_go_on, up_to, leg_to, end_of, stop_to, Handed}
use Rattle.rules.specs.Stops.{owed, AllAt, Hands, nothing, leaving, entering, Stepped}

-- ---- a child of the focus is out: a wind that has been left, or that is yet to be entered
pub child_out : (s : Store) → Sound s → (n : ℕ) → s.tree.up n ≡ some s.focus → s.mode n ≡ false
child_out s ok n u = ok.modes n ∙ off_parent s.tree ok.proper n s.focus u

wind_at : (e : Bool) (w : What) (p : ℕ) → AllAt p (wind_event e w p)
wind_at e blank p = tt
wind_at e top p = tt
wind_at e (binding x) p = tt
wind_at e (wind a b) p = (refl, tt)

wind_one : (w : What) → is_wind w ≤ 1
wind_one blank = omega arith
wind_one top = omega arith
wind_one (binding x) = omega arith
wind_one (wind a b) = le_refl 1

no_cons : {A : Type 0} (es : List Event) (e : Event) (r : List Event) → es ≡ e ∷ r → es ≡ [] → A
no_cons es e r p q = absurd (let z : ◌≡◌ {A = ℕ} 0 1 = cc in omega arith)

module _ (t : Tree) (ok : Proper t) (a : ℕ) where
  -- one move m from f to p, then the leg from there
  gone : (f p : ℕ) (m : Move) (h : Option ℕ) (l : Leg) (g : ℕ) → route t f a ≡ m ∷ route t p a → ((ms : List Move) → end_of t f (m ∷ ms) ≡ end_of t p ms)
      → owed t f a h ≡ trace t (route t p a) → Stepped t p a none l g → Stepped t f a h (going m l) g
  gone f p m h l g first ends_m none_told s = record {
    ends = ends_m l.moves ∙ s.ends;
    made = s.made;
    joins = first ∙ ap (λ (ms : List Move). m ∷ ms) s.joins;
    owes = none_told ∙ s.owes;
    one = s.one;
    places = s.places;
    hands = gone_hands s.hands;
    sound = s.sound;
    arrives = s.arrives;
  }
    where
      gone_hands : Hands t g l → Hands t g (going m l)
      gone_hands (nothing e q) = nothing e q
      gone_hands (leaving n pre u e q r) = leaving n (m ∷ pre) u e (ap (λ (ms : List Move). m ∷ ms) q) r
      gone_hands (entering n u e r) = entering n u e r

  one_event : (m : Move) → length (event_of t m) ≤ 1
  one_event m = omega (arith, length_event t m, wind_one (t.what (node_of m)))

  -- a wind is left, and its postlude handed over
  hands_left : (f p : ℕ) → t.up f ≡ some p → route t f a ≡ left f ∷ route t p a → (e : Event) (es : List Event) → event_of t (left f) ≡ e ∷ es
      → Stepped t f a none (handing t (left f)) p
  hands_left f p u first e es q = record {
    ends = ap or_top u;
    made = ok.made_up f p u;
    joins = first;
    owes = ap (trace t) first;
    one = one_event (left f);
    places = rw u (wind_at false (t.what f) p);
    hands = leaving f [] u refl refl refl;
    sound = tt;
    arrives = λ r. no_cons _ e es q r;
  }

  -- a wind is to be entered, and its prelude handed over
  hands_entered : (f c : ℕ) → t.what f ≢ blank → t.up c ≡ some f → on c (path t a) ≡ true → route t f a ≡ entered c ∷ route t c a
      → (e : Event) (es : List Event) → event_of t (entered c) ≡ e ∷ es → Stepped t f a none (handing t (entered c)) f
  hands_entered f c mf u o first e es q = record {
    ends = refl;
    made = mf;
    joins = refl;
    owes = ap (trace t) first;
    one = one_event (entered c);
    places = rw u (wind_at true (t.what c) f);
    hands = entering c u refl refl;
    sound = (u, o, omega (arith, wind_one (t.what c), length_event t (entered c), ap length q));
    arrives = λ r. no_cons _ e es q r;
  }

  Up : ℕ → Type 0
  Up f = (g : ℕ) × Stepped t f a none (up_to t (route t f a)) g

  up_at : (f : ℕ) → t.what f ≢ blank → f ≡ a → Up f
  unfolding Up
  up_at f mf e =
      let none_left : route t f a ≡ [] = rw e (route_self t ok a) in (
        f,
        rw none_left record {
          ends = refl;
          made = mf;
          joins = refl;
          owes = refl;
          one = omega arith;
          places = tt;
          hands = nothing refl refl;
          sound = tt;
          arrives = λ q. (e, refl);
        },
      )

  up_left : (f p : ℕ) → t.up f ≡ some p → route t f a ≡ left f ∷ route t p a → Up p → Up f
  unfolding Up
  up_left f p u first (g, s) = rw first (go (event_of t (left f)) refl)
    where
      ends_left : (ms : List Move) → end_of t f (left f ∷ ms) ≡ end_of t p ms
      ends_left ms = ap (λ (o : Option ℕ). end_of t (or_top o) ms) u

      go : (es : List Event) → event_of t (left f) ≡ es
          → (n : ℕ) × Stepped t f a none (or_go_on es (handing t (left f)) (going (left f) (up_to t (route t p a)))) n
      go [] q = (g, gone f p (left f) none (up_to t (route t p a)) g first ends_left (ap (trace t) first ∙ ap (λ (es : List Event). es ++ trace t (route t p a)) q) s)
      go (e ∷ es) q = (p, hands_left f p u first e es q)

  up_entered : (f c : ℕ) → t.what f ≢ blank → t.up c ≡ some f → on c (path t a) ≡ true → route t f a ≡ entered c ∷ route t c a → Up c → Up f
  unfolding Up
  up_entered f c mf u o first (g, s) = rw first (go (event_of t (entered c)) refl)
    where
      go : (es : List Event) → event_of t (entered c) ≡ es
          → (n : ℕ) × Stepped t f a none (or_go_on es (handing t (entered c)) (going (entered c) (up_to t (route t c a)))) n
      go [] q = (g, gone f c (entered c) none (up_to t (route t c a)) g first (λ ms. refl) (ap (trace t) first ∙ ap (λ (es : List Event). es ++ trace t (route t c a)) q) s)
      go (e ∷ es) q = (f, hands_entered f c mf u o first e es q)

  up_to_lem : (k f : ℕ) → t.what f ≢ blank → t.what a ≢ blank → far t f a ≡ k → Up f
  up_to_lem zero f mf ma h = go (next t ok f a mf ma)
    where
      go : Next t f a → Up f
      go (there e) = up_at f mf e
      go (leaves p e o r) = absurd (omega (arith, first_far t ok f a p (left f) r))
      go (enters c e o r) = absurd (omega (arith, first_far t ok f a c (entered c) r))
  up_to_lem (suc k) f mf ma h = go (next t ok f a mf ma) (λ g mg. up_to_lem k g mg ma)
    where
      go : Next t f a → ((g : ℕ) → t.what g ≢ blank → far t g a ≡ k → Up g) → Up f
      go (there e) ih = up_at f mf e
      go (leaves p u o r) ih = up_left f p u r (ih p (ok.made_up f p u) (omega (arith, first_far t ok f a p (left f) r)))
      go (enters c u o r) ih = up_entered f c mf u o r (ih c (made_child t ok c f u) (omega (arith, first_far t ok f a c (entered c) r)))

  -- the leg of every step, from any focus with any wind handed over
  pub leg_steps : (f : ℕ) (h : Option ℕ) → t.what f ≢ blank → t.what a ≢ blank → Handed t f a h
      → Stepped t f a h (leg_to t f a h) (stop_to t f a h)
  unfolding leg_to Up
  leg_steps f none mf ma h = at_end f (up_to t (route t f a)) (up_to_lem (far t f a) f mf ma refl)
    where
      at_end : (f : ℕ) (l : Leg) → (g : ℕ) × Stepped t f a none l g → Stepped t f a none l (end_of t f l.moves)
      at_end f l (g, s) = rw s.ends s
  leg_steps f (some c) mf ma (u, o, w) = at_end (up_to_lem (far t c a) c (made_child t ok c f u) ma refl)
    where
      at_end : (g : ℕ) × Stepped t c a none (up_to t (route t c a)) g
          → Stepped t f a (some c) (going (entered c) (up_to t (route t c a))) (end_of t c (up_to t (route t c a)).moves)
      at_end (g, s) = rw s.ends (gone f c (entered c) (some c) (up_to t (route t c a)) g (enter_first t ok c f a u o) (λ ms. refl) refl s)

-- ---- as code finds it: moves with no event are made, up to the first that has one
module _ (t : Tree) where
  no_event : (m : Move) (ms : List Move) → trace t (m ∷ ms) ≡ [] → (event_of t m ≡ []) × (trace t ms ≡ [])
  no_event m ms h = go (event_of t m) refl h
    where
      go : (es : List Event) → event_of t m ≡ es → es ++ trace t ms ≡ [] → (event_of t m ≡ []) × (trace t ms ≡ [])
      go [] e q = (e, q)
      go (x ∷ es) e q = no_cons _ x _ refl q

  pub up_to_none : (ms : List Move) → trace t ms ≡ [] → up_to t ms ≡ record { moves = ms; events = []; handed = none }
  up_to_none [] h = refl
  up_to_none (m ∷ ms) h =
      ap (λ (es : List Event). or_go_on es (handing t m) (going m (up_to t ms))) (no_event m ms h).0 ∙ ap (going m) (up_to_none ms (no_event m ms h).1)

  pub up_to_first : (pre : List Move) (m : Move) (ms : List Move) (e : Event) (es : List Event) → trace t pre ≡ [] → event_of t m ≡ e ∷ es
      → up_to t (pre ++ m ∷ ms) ≡ record { moves = pre ++ (handing t m).moves; events = (handing t m).events; handed = (handing t m).handed }
  up_to_first [] m ms e es h q = ap (λ (v : List Event). or_go_on v (handing t m) (going m (up_to t ms))) q
  up_to_first (p ∷ pre) m ms e es h q =
      ap (λ (v : List Event). or_go_on v (handing t p) (going p (up_to t (pre ++ m ∷ ms)))) (no_event p pre h).0
      ∙ ap (going p) (up_to_first pre m ms e es (no_event p pre h).1 q)

-- ---- the leg is the switch to its end, so document 01's walk makes its moves
moves_split : {s s' : Store} (ms ms' : List Move) → Moves s (ms ++ ms') s' → (s₁ : Store) × Moves s ms s₁ × Moves s₁ ms' s'
moves_split {s} [] ms' r = (s, done, r)
moves_split {s = s} {s' = s'} (m ∷ ms) ms' (move h r) = let (s₁, x, y) = moves_split {s = after m s} ms ms' r in (s₁, move h x, y)

pub moves_end : {s s' : Store} {ms : List Move} → Moves s ms s' → s'.focus ≡ end_of s.tree s.focus ms
moves_end done = refl
moves_end (move {s = s} {m = left n} {ms = ms} h r) =
    moves_end r ∙ (λ i. end_of (moves_tree (move {s = s} {m = left n} h done) i) (sym (left_parent s n h) i) ms)
moves_end (move {m = entered n} h r) = moves_end r

pub moves_goto : {s s' : Store} {ms : List Move} → Moves s ms s' → Sound s → s' ≡ goto s'.focus s
moves_goto (done {s = s}) ok = sym (goto_here s ok)
moves_goto (move {s = s} {s' = s'} {m = left n} h r) ok = moves_goto r (moves_sound (move {m = left n} h done) ok) ∙ go (s.tree.up s.focus) refl
  where
    go : (o : Option ℕ) → s.tree.up s.focus ≡ o → goto s'.focus (leave s) ≡ goto s'.focus s
    go none e = absurd (h.1 (rw h.0 e))
    go (some p) e = ap (goto s'.focus) (leave_at p s e ∙ leave_goto s ok p e) ∙ goto_goto s'.focus p s
moves_goto (move {s = s} {s' = s'} {m = entered n} h r) ok =
    moves_goto r (moves_sound (move {m = entered n} h done) ok)
    ∙ ap (goto s'.focus) (enter_goto s ok n h (made_child s.tree ok.proper n s.focus h)) ∙ goto_goto s'.focus n s

module _ (s : Store) (ok : Sound s) (a : ℕ) (h : Option ℕ) (ma : s.tree.what a ≢ blank) (is : Handed s.tree s.focus a h) where
  pub stepped : Stepped s.tree s.focus a h (leg_to s.tree s.focus a h) (stop_to s.tree s.focus a h)
  stepped = leg_steps s.tree ok.proper a s.focus h ok.focus_made ma is

  -- the leg, then the rest of the way
  split : (s₁ : Store) × Moves s (leg_to s.tree s.focus a h).moves s₁ × Moves s₁ (route s.tree (stop_to s.tree s.focus a h) a) (goto a s)
  split =
      moves_split (leg_to s.tree s.focus a h).moves (route s.tree (stop_to s.tree s.focus a h) a)
      (rw stepped.joins at (goto_moves (far s.tree s.focus a) a s ok ma refl))

  pub leg_moves : Moves s (leg_to s.tree s.focus a h).moves (goto (stop_to s.tree s.focus a h) s)
  leg_moves = let (s₁, x, y) = split in rw (moves_goto x ok ∙ ap (λ (g : ℕ). goto g s) (moves_end x)) at x

  pub leg_way : OnWay s.tree s.focus (stop_to s.tree s.focus a h) a
  leg_way = let (s₁, x, y) = split in rw (moves_end x) at (passed_on_way s s₁ a _ _ ok ma stepped.joins x y)

  pub leg_route : (leg_to s.tree s.focus a h).moves ≡ route s.tree s.focus (stop_to s.tree s.focus a h)
  unfolding OnWay
  leg_route =
      rw goto_focus at (moves_forced leg_moves ok (rw goto_focus (omega (
        arith,
        leg_way,
        ap length stepped.joins,
        length-append (leg_to s.tree s.focus a h).moves (route s.tree (stop_to s.tree s.focus a h) a),
        route_length s.tree s.focus a,
        route_length s.tree (stop_to s.tree s.focus a h) a,
      ))))
