-- What is proved of specs/Agree.antt, whose head says it in words. Assumes nothing.
use Rattle.std.specs.Prelude.{◌≡◌, ◌≢◌, true, false, List, [], ◌∷◌}
use Rattle.std.proofs.Math.Path.{refl, ap, fun_ext}
use Rattle.std.proofs.Common.{sym, ◌∙◌, le_refl, arith, eq-eqb, ne_eqb}
use Rattle.std.proofs.Math.Option.{Option, none, some}
use Prim.Native.Nat.{ℕ, suc, ◌≤◌, ◌<◌}
use Rattle.std.proofs.Math.Decide.{ℕ_discrete}
use Rattle.std.proofs.lemmas.Bool.{eqb-false, not-false}
use Rattle.rules.specs.Basic.{upd, or_top}
use Rattle.rules.proofs.Basic.{upd_same, upd_other, clash, some≢none}
use Rattle.rules.specs.Tree.{What, blank, top, binding, Tree, Proper, Ranked}
use Rattle.rules.specs.Values.{Cell, value}
use Rattle.rules.specs.Store.{Store, Deep, Sound, home, shallow, goto}
use Rattle.rules.proofs.Store.{home_shallow, shallow_home, goto_sound, goto_tree, home_goto}
use Rattle.rules.specs.World.{Walk, World, around}
use Rattle.rules.specs.Moves.{Event}
use Rattle.rules.specs.Leg.{leg_to, end_of, stop_to, Walking}
use Rattle.rules.proofs.Stops.{leg_steps}
use Rattle.rules.specs.Grow.{grow, Growable}
use Rattle.rules.proofs.Grow.{grow_ranked}
use Rattle.rules.specs.Calls.{make, make_deep, open_tree}
use Rattle.rules.proofs.Calls.{look_right, peek_shows, set_sound, home_set, make_sound, home_make}
use Rattle.rules.proofs.Modes.{count_le, count_below}
use Rattle.rules.specs.Refusals.{first}
use Rattle.rules.proofs.Refusals.{none_given}
use Rattle.rules.specs.Act.{Child, Goal, Stride, Call, Barred, makes, switches, Size, not_blank, is_made, next_number, is_full, Shown, shown, what_of, own_of, goal_of, leg_in, stop_of, is_none, is_walking, rows, events_of, Answer, answer_of, changed, goes_on, walk_by, walk_after, Outcome, outcome, act}
use Rattle.rules.proofs.Grounds.{barred_first}
use Rattle.rules.specs.Agree.{shown_by, operate, act_on, meaning, Numbered, Well, Kept, Agrees, held}

-- ---- a held world shows what its meaning shows
pub shown_home : (h : World Store) → Sound h.store → shown_by h ≡ shown (meaning h)
unfolding shown_by shown home
shown_home h ok = λ i. record {
  tree = h.store.tree;
  focus = h.store.focus;
  looked = fun_ext (look_right h.store ok) i;
  peeked = fun_ext (λ a. fun_ext (λ x. peek_shows h.store ok a x)) i;
  walk = h.walk;
}

pub is_made_lem : (t : Tree) (a : ℕ) → is_made t a ≡ true → t.what a ≢ blank
unfolding is_made
is_made_lem t a h e = clash h (ap not_blank e)

pub made_is : (t : Tree) (a : ℕ) → t.what a ≢ blank → is_made t a ≡ true
unfolding is_made
made_is t a h = go (t.what a) refl
  where
    go : (w : What) → t.what a ≡ w → not_blank w ≡ true
    go blank e = absurd (h e)
    go top e = refl
    go (binding x) e = refl
    go (What.wind p q) e = refl

-- the next number where just the numbers below k are made
pub next_is : (z : Size) (t : Tree) (k : ℕ) → k ≤ z.nodes → ((n : ℕ) → n < k → t.what n ≢ blank) → ((n : ℕ) → k ≤ n → t.what n ≡ blank) → next_number z t ≡ k
unfolding next_number is_made
next_is z t k h below beyond = count_below (is_made t) k z.nodes h (λ n l. made_is t n (below n l)) (λ n l. ap not_blank (beyond n l))

pub numbered : (z : Size) (t : Tree) (k : ℕ) → k ≤ z.nodes → ((n : ℕ) → n < k → t.what n ≢ blank) → ((n : ℕ) → k ≤ n → t.what n ≡ blank)
    → Numbered z t
numbered z t k h below beyond =
    let e : next_number z t ≡ k = next_is z t k h below beyond in
    record { first = λ n l. below n (omega arith); rest = λ n l. beyond n (omega arith) }

pub open_numbered : (z : Size) → 0 < z.nodes → Numbered z (open_tree (λ n. 0))
open_numbered z h = numbered z (open_tree (λ n. 0)) 1 h below beyond
  where
    below : (n : ℕ) → n < 1 → (open_tree (λ k. 0)).what n ≢ blank
    below n l e = let q : top ≡ blank = (rw (eq-eqb n 0 (omega arith)) at e) in let z : ◌≡◌ {A = ℕ} 0 1 = cc in omega arith

    beyond : (n : ℕ) → 1 ≤ n → (open_tree (λ k. 0)).what n ≡ blank
    beyond n l = rw (ne_eqb n 0 (λ e. omega arith))

pub open_ranked : Ranked (open_tree (λ n. 0))
open_ranked = record { at_top = λ a e. refl; below = λ a p e. some≢none e refl }

next_le : (z : Size) (t : Tree) → next_number z t ≤ z.nodes
unfolding next_number
next_le z t = count_le (is_made t) z.nodes

module _ (z : Size) (t : Tree) (by : Numbered z t) where
  -- the next number may become a child of any made node
  pub growable : (f : ℕ) (w : What) → Proper t → t.what f ≢ blank → w ≢ blank → Growable t (next_number z t) f w (suc (t.rank f))
  growable f w ok made is = record { proper = ok; fresh = by.rest (next_number z t) (le_refl _); made = made; is = is; higher = le_refl _ }

  pub grow_numbered : (f : ℕ) (w : What) → w ≢ blank → is_full z t ≡ false → Numbered z (grow (next_number z t) f w (suc (t.rank f)) t)
  unfolding is_full
  grow_numbered f w is h = numbered z _ (suc m) room below beyond
    where
      m : ℕ
      m = next_number z t

      room : suc m ≤ z.nodes
      room = omega (arith, next_le z t, eqb-false m z.nodes h)

      below : (n : ℕ) → n < suc m → upd t.what m w n ≢ blank
      below n l = go (ℕ_discrete n m)
        where
          go : Dec (n ≡ m) → upd t.what m w n ≢ blank
          go (yes e) = rw (e, upd_same t.what m w) is
          go (no e) = rw (upd_other t.what m n w e) (by.first n (omega arith))

      beyond : (n : ℕ) → suc m ≤ n → upd t.what m w n ≡ blank
      beyond n l = upd_other t.what m n w (λ e. omega arith) ∙ by.rest n (omega arith)

pub not_blank_lem : (w : What) → not_blank w ≡ true → w ≢ blank
not_blank_lem w h e = clash h (ap not_blank e)

-- two outcomes that differ only in what they leave
module _ {S S' : Type 0} (o : Option ℕ) (a : Answer) (es : List Event) (s s₁ : S) (d d₁ : S') where
  same_answer : (outcome o a es s s₁).answer ≡ (outcome o a es d d₁).answer
  unfolding outcome
  same_answer = go o
    where
      go : (p : Option ℕ) → (outcome p a es s s₁).answer ≡ (outcome p a es d d₁).answer
      go none = refl
      go (some n) = refl

  same_events : (outcome o a es s s₁).events ≡ (outcome o a es d d₁).events
  unfolding outcome
  same_events = go o
    where
      go : (p : Option ℕ) → (outcome p a es s s₁).events ≡ (outcome p a es d d₁).events
      go none = refl
      go (some n) = refl

  -- what holds of the store before and, where nothing refuses, of the store after, holds of what is left
  left_has : (P : S → Type 0) → P s → (o ≡ none → P s₁) → P (outcome o a es s s₁).after
  unfolding outcome
  left_has P before after = go o refl
    where
      go : (p : Option ℕ) → o ≡ p → P (outcome p a es s s₁).after
      go none e = after e
      go (some n) e = before

  same_after : (f : S → S') → f s ≡ d → f s₁ ≡ d₁ → f (outcome o a es s s₁).after ≡ (outcome o a es d d₁).after
  unfolding outcome
  same_after f p q = go o
    where
      go : (p : Option ℕ) → f (outcome p a es s s₁).after ≡ (outcome p a es d d₁).after
      go none = q
      go (some n) = p

-- a new node
pub new_is : (n : Child) → not_blank (what_of n) ≡ true
new_is (Child.bind x v) = refl
new_is (Child.wind p q) = refl

module _ (z : Size) (s : Store) (ok : Well z s) (w : What) (v : Cell) (is : not_blank w ≡ true) where
  abbrev m : ℕ
  m = next_number z s.tree

  abbrev r : ℕ
  r = suc (s.tree.rank s.focus)

  can : Growable s.tree m s.focus w r
  can = growable z s.tree ok.numbers s.focus w ok.sound.proper ok.sound.focus_made (not_blank_lem w is)

  made_well : is_full z s.tree ≡ false → Well z (make m w v r s)
  made_well h = record {
    sound = make_sound v s ok.sound can;
    numbers = grow_numbered z s.tree ok.numbers s.focus w (not_blank_lem w is) h;
    depths = grow_ranked can ok.depths refl;
  }

  made_means : home (make m w v r s) ≡ make_deep m w v r (home s)
  made_means = home_make v s ok.sound can

-- the place that a switch goes to, where nothing refuses it, is made
parent_made : (s : Store) → Sound s → is_none (s.tree.up s.focus) ≡ false → s.tree.what (or_top (s.tree.up s.focus)) ≢ blank
parent_made s ok h = go (s.tree.up s.focus) refl
  where
    go : (o : Option ℕ) → s.tree.up s.focus ≡ o → s.tree.what (or_top o) ≢ blank
    go none e = clash refl (rw e at h)
    go (some p) e = ok.proper.made_up s.focus p e

pub goal_made : (z : Size) (room : ℕ) (h : World Store) → Sound h.store → (g : Goal)
    → first (rows z room (Call.switch g) (shown_by h)) ≡ none → h.store.tree.what (goal_of g (shown_by h)) ≢ blank
unfolding rows shown_by
goal_made z room h ok (Goal.goto a) e = is_made_lem h.store.tree a (not-false _ (none_given _ _ (none_given _ _ e).1).0)
goal_made z room h ok Goal.back e = parent_made h.store ok (none_given _ _ (none_given _ _ (none_given _ _ e).1).1).0

went_well : (z : Size) (s : Store) → Well z s → (a : ℕ) → s.tree.what a ≢ blank → Well z (goto a s)
went_well z s ok a made = record { sound = goto_sound a s ok.sound made; numbers = rw goto_tree ok.numbers; depths = rw goto_tree ok.depths }

-- a walk that is not under way is sound
off_walk : (t : Tree) (f : ℕ) (o : Option Walk) → is_walking o ≡ false → Walking t f o
off_walk t f none e = tt
off_walk t f (some k) e = clash refl e

-- a step ends at a made environment, and its walk is sound there
module _ (t : Tree) (ok : Proper t) (f : ℕ) (made : t.what f ≢ blank) where
  step_made : (o : Option Walk) → Walking t f o → t.what (end_of t f (leg_in t f o).moves) ≢ blank
  step_made none h = made
  step_made (some k) h = (leg_steps t ok k.target f k.handed made h.0 h.1).made

  step_walk : (o : Option Walk) → Walking t f o → Walking t (end_of t f (leg_in t f o).moves) (goes_on (leg_in t f o).events o (leg_in t f o).handed)
  step_walk none h = tt
  step_walk (some k) h = go (leg_to t f k.target k.handed).events
    where
      go : (es : List Event) → Walking t (stop_to t f k.target k.handed) (goes_on es (some k) (leg_to t f k.target k.handed).handed)
      go [] = tt
      go (e ∷ es) = (h.0, (leg_steps t ok k.target f k.handed made h.0 h.1).sound)

module _ (z : Size) (room : ℕ) (h : World Store) (kept : Kept z h) where
  open kept use {well as ok, walk}

  -- a new node that nothing refuses has space
  has_space : (n : Child) → first (rows z room (Call.make n) (shown_by h)) ≡ none → is_full z h.store.tree ≡ false
  unfolding rows shown_by
  has_space (Child.bind x v) e = (none_given _ _ (none_given _ _ (none_given _ _ e).1).1).0
  has_space (Child.wind p q) e = (none_given _ _ (none_given _ _ e).1).0

  -- a stride stops at a made environment, and a walk that it leaves under way is sound there
  stop_made : (s : Stride) → h.store.tree.what (stop_of s (shown_by h)) ≢ blank
  unfolding shown_by
  stop_made (Stride.begin a) = ok.sound.focus_made
  stop_made Stride.step = step_made h.store.tree ok.sound.proper h.store.focus ok.sound.focus_made h.walk walk
  stop_made Stride.drop = ok.sound.focus_made

  stop_walk : (s : Stride) → first (rows z room (Call.stride s) (shown_by h)) ≡ none → Walking h.store.tree (stop_of s (shown_by h)) (walk_by s (shown_by h))
  unfolding rows shown_by
  stop_walk (Stride.begin a) e = (is_made_lem h.store.tree a (not-false _ (none_given _ _ (none_given _ _ e).1).0), tt)
  stop_walk Stride.step e = step_walk h.store.tree ok.sound.proper h.store.focus ok.sound.focus_made h.walk walk
  stop_walk Stride.drop e = tt

  -- a call that a walk bars is outside one where nothing refuses it
  outside : (c : Call) → Barred c → first (rows z room c (shown_by h)) ≡ none → is_walking h.walk ≡ false
  unfolding rows shown_by
  outside c b e = (none_given _ _ (rw (barred_first z room c (shown_by h) b).1 at e)).0

  -- what every call that nothing refuses leaves: its meaning is what `act` leaves
  operate_means : (c : Call) → home (operate z c h) ≡ changed z c (meaning h)
  unfolding operate changed home
  operate_means (Call.ask q) = refl
  operate_means (Call.make n) = made_means z h.store ok (what_of n) (own_of n) (new_is n)
  operate_means (Call.set x v) = home_set x (value v) h.store ok.sound
  operate_means (Call.switch g) = ap (λ (a : ℕ). home (goto a h.store)) (ap (goal_of g) (shown_home h ok.sound)) ∙ home_goto (goal_of g (shown (meaning h))) h.store
  operate_means (Call.stride s) = ap (λ (a : ℕ). home (goto a h.store)) (ap (stop_of s) (shown_home h ok.sound)) ∙ home_goto (stop_of s (shown (meaning h))) h.store

  -- .. it is sound, and its numbers and depths are in order
  operate_well : (c : Call) → first (rows z room c (shown_by h)) ≡ none → Well z (operate z c h)
  unfolding operate
  operate_well (Call.ask q) e = ok
  operate_well (Call.make n) e = made_well z h.store ok (what_of n) (own_of n) (new_is n) (has_space n e)
  operate_well (Call.set x v) e = record { sound = set_sound x (value v) h.store ok.sound; numbers = ok.numbers; depths = ok.depths }
  operate_well (Call.switch g) e = went_well z h.store ok (goal_of g (shown_by h)) (goal_made z room h ok.sound g e)
  operate_well (Call.stride s) e = went_well z h.store ok (stop_of s (shown_by h)) (stop_made s)

  -- .. and its walk is sound
  operate_walk : (c : Call) → first (rows z room c (shown_by h)) ≡ none → Walking (operate z c h).tree (operate z c h).focus (walk_after c (shown_by h))
  unfolding operate walk_after shown_by goto shallow home
  operate_walk (Call.ask q) e = walk
  operate_walk (Call.make n) e = off_walk _ _ h.walk (outside (Call.make n) makes e)
  operate_walk (Call.set x v) e = walk
  operate_walk (Call.switch g) e = off_walk _ _ h.walk (outside (Call.switch g) switches e)
  operate_walk (Call.stride s) e = stop_walk s e

  -- `act` on the meaning, by what the held world shows
  act_shown : (c : Call)
      → act z room c (meaning h) ≡ outcome (first (rows z room c (shown_by h))) (answer_of z c (shown_by h)) (events_of c (shown_by h)) (meaning h) (record { store = changed z c (meaning h); walk = walk_after c (shown_by h) })
  unfolding act
  act_shown c =
      ap (λ (v : Shown). outcome (first (rows z room c v)) (answer_of z c v) (events_of c v) (meaning h) (record { store = changed z c (meaning h); walk = walk_after c v })) (sym (shown_home h ok.sound))

  pub agrees : (c : Call) → Agrees z room c h
  unfolding act_on
  agrees c = record {
    answers = same_answer o a es h h₁ (meaning h) w₁ ∙ ap (λ (r : Outcome (World Deep)). r.answer) (sym (act_shown c));
    events = same_events o a es h h₁ (meaning h) w₁ ∙ ap (λ (r : Outcome (World Deep)). r.events) (sym (act_shown c));
    means = same_after o a es h h₁ (meaning h) w₁ meaning refl (ap (around h₁) (operate_means c)) ∙ ap (λ (r : Outcome (World Deep)). r.after) (sym (act_shown c));
    kept = left_has o a es h h₁ h h (λ (k : World Store). Kept z k) kept (λ e. record { well = operate_well c e; walk = operate_walk c e });
  }
    where
      o : Option ℕ
      o = first (rows z room c (shown_by h))

      a : Answer
      a = answer_of z c (shown_by h)

      es : List Event
      es = events_of c (shown_by h)

      h₁ : World Store
      h₁ = record { store = operate z c h; walk = walk_after c (shown_by h) }

      w₁ : World Deep
      w₁ = record { store = changed z c (meaning h); walk = walk_after c (shown_by h) }

pub held_meaning : (h : World Store) → Sound h.store → held (meaning h) ≡ h
unfolding held
held_meaning h ok = ap (around h) (shallow_home h.store ok)

pub meaning_held : (w : World Deep) → meaning (held w) ≡ w
unfolding held
meaning_held w = ap (around w) (home_shallow w.store)

pub act_keeps : (z : Size) (room : ℕ) (c : Call) (w : World Deep) → Kept z (held w) → Kept z (held (act z room c w).after)
act_keeps z room c w kept =
    let r : Agrees z room c (held w) = agrees z room (held w) kept c in
    rw (ap (λ (u : World Deep). (act z room c u).after) (sym (meaning_held w)) ∙ sym r.means, held_meaning (act_on z room c (held w)).after r.kept.well.sound) r.kept
