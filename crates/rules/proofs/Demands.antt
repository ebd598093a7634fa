-- What is proved of specs/Demands.antt, whose head says it in words. Assumes nothing.
use Rattle.std.specs.Prelude.{◌≡◌, refl, ◌≢◌, ◌⊎◌, Bool, true, false, cond, not, ℕ, suc, ◌≤◌, ◌<◌, length}
use Rattle.std.proofs.Common.{sym, ap, ◌∙◌, inl, inr, arith, ltb-false}
use Rattle.std.proofs.Math.Option.{Option, none, some}
use mathlib.Core.List.{List, [], ◌∷◌, ◌++◌, map}
use Rattle.rules.proofs.Basic.{upd_same, some≢none}
use Rattle.rules.specs.Tree.{blank, Tree, Proper, path}
use Rattle.rules.proofs.Tree.{path_once}
use Rattle.rules.specs.Values.{Cell}
use Rattle.rules.specs.Store.{Store, Deep, Sound, goto, home}
use Rattle.rules.proofs.Store.{goto_focus, goto_sound}
use Rattle.rules.specs.World.{World}
use Rattle.rules.specs.Far.{far, Between}
use Rattle.rules.proofs.Far.{far_least}
use Rattle.rules.specs.Moves.{Move, entered, Moves, done, move, route, Event, event_of, trace}
use Rattle.rules.proofs.Moves.{moves_tree, moves_sound, moves_chain, route_nodes, route_once, route_length}
use Rattle.rules.specs.Walk.{refocus}
use Rattle.rules.proofs.Walk.{refocus_goto, goto_moves}
use Rattle.rules.proofs.Route.{far_chain, moves_forced, far_between}
use Rattle.rules.specs.Calls.{make_deep}
use Rattle.rules.proofs.Calls.{goto_values}
use Rattle.rules.specs.Refusals.{damaged, no_environment, walking, not_walking, Row, row, NoneApply, First, first, Rising, Lowest}
use Rattle.rules.proofs.Refusals.{first_right, first_one, first_append, rising_low, lowest_behind, first_lowest, none_given}
use Rattle.rules.specs.Act.{Ask, Child, Goal, Stride, Call, Free, Barred, Needing, steps, drops, Size, is_walking, is_made, a_number, Shown, shown, what_of, goal_of, Ground, grounds, row_of, rows, Answer, Outcome, outcome, answer_of, events_of, changed, walk_after, becomes, act}
use Rattle.rules.proofs.Grounds.{each_call, free_rise, barred_first}
use Rattle.rules.specs.Agree.{meaning}
use Rattle.rules.proofs.Agree.{shown_home, is_made_lem, goal_made}
use Rattle.rules.specs.Demands.{refusal_of, Known, Answered, Switched, SwitchesAs}

AllKnown : List Row → Type 0
AllKnown [] = Unit {0}
AllKnown (r ∷ rs) = Known (some r.number) × AllKnown rs

-- a ground's number is one of these, above Damaged and at most the last
module _ (z : Size) (room : ℕ) (es : List Event) (d : Shown) where
  pub ground_known : (g : Ground) → Known (some (row_of z room es d g).number) × (damaged < (row_of z room es d g).number) × ((row_of z room es d g).number ≤ not_walking)
  ground_known (Ground.unknown x) = (refl, omega arith, omega arith)
  ground_known (Ground.unmade a) = (refl, omega arith, omega arith)
  ground_known (Ground.valueless x) = (refl, omega arith, omega arith)
  ground_known (Ground.valueless_at a x) = (refl, omega arith, omega arith)
  ground_known Ground.no_space = (refl, omega arith, omega arith)
  ground_known Ground.no_room = (refl, omega arith, omega arith)
  ground_known Ground.no_parent = (refl, omega arith, omega arith)
  ground_known Ground.mid_walk = (refl, omega arith, omega arith)
  ground_known Ground.no_walk = (refl, omega arith, omega arith)

  all_known : (gs : List Ground) → AllKnown (map (row_of z room es d) gs)
  unfolding AllKnown
  all_known [] = tt
  all_known (g ∷ gs) = ((ground_known g).0, all_known gs)

rows_known : (z : Size) (room : ℕ) (c : Call) (d : Shown) → AllKnown (rows z room c d)
unfolding rows
rows_known z room c d = all_known z room (events_of c d) d (grounds c)

first_known : (rs : List Row) (n : ℕ) → AllKnown rs → first rs ≡ some n → Known (some n)
unfolding AllKnown first
first_known [] n k h = some≢none h refl
first_known (r ∷ rs) n k h = go r.applies h (first_known rs n k.1)
  where
    go : (b : Bool) → cond b (some r.number) (first rs) ≡ some n → (first rs ≡ some n → Known (some n)) → Known (some n)
    go true q ih = let same : r.number ≡ n = cc in rw same at k.0
    go false q ih = ih q

pub given_known : (z : Size) (room : ℕ) (c : Call) (d : Shown) (n : ℕ) → first (rows z room c d) ≡ some n → Known (some n)
given_known z room c d n h = first_known (rows z room c d) n (rows_known z room c d) h

-- what a call that nothing refuses answers is never a refusal
pub answers_done : (z : Size) (c : Call) (v : Shown) → refusal_of (answer_of z c v) ≡ none
unfolding answer_of
answers_done z (Call.ask q) d = refl
answers_done z (Call.make n) d = refl
answers_done z (Call.set x v) d = refl
answers_done z (Call.switch g) d = refl
answers_done z (Call.stride s) d = refl

pub act_answers : (z : Size) (room : ℕ) (c : Call) (w : World Deep) → Answered z room c w (act z room c w)
unfolding act outcome
act_answers z room c w = go (first rs) refl (first_right rs)
  where
    v : Shown
    v = shown w

    rs : List Row
    rs = rows z room c v

    low : (o : Option ℕ) → first rs ≡ o → (ws qs : List Row) → rs ≡ ws ++ qs → NoneApply ws → Rising qs → Lowest qs o
    low o e ws qs split off up =
        let is : o ≡ first qs = sym e ∙ ap first split ∙ first_append ws qs off in
        first_lowest qs up o (rw is (first_right qs))

    go : (o : Option ℕ) → first rs ≡ o → First rs o → Answered z room c w (outcome o (answer_of z c v) (events_of c v) w (becomes z c w))
    go (some n) e h = record { exactly = h; lowest = low (some n) e; known = given_known z room c v n e; unchanged = (refl, refl) }
    go none e h = record { exactly = rw (answers_done z c v) h; lowest = rw (answers_done z c v) (low none e); known = rw (answers_done z c v) tt; unchanged = rw (answers_done z c v) tt }

-- document 01's "the lowest number that applies": of a free call always, of every call outside a walk
pub free_lowest : (z : Size) (room : ℕ) (c : Call) (w : World Deep) → Free c → Lowest (rows z room c (shown w)) (refusal_of (act z room c w).answer)
free_lowest z room c w f = (act_answers z room c w).lowest [] (rows z room c (shown w)) refl tt (rising_low (suc damaged) (rows z room c (shown w)) (free_rise z room c (shown w) f))

pub outside_lowest : (z : Size) (room : ℕ) (c : Call) (w : World Deep) → is_walking w.walk ≡ false → Lowest (rows z room c (shown w)) (refusal_of (act z room c w).answer)
unfolding rows shown
outside_lowest z room c w out = go c (each_call c)
  where
    walk_row : Row
    walk_row = row walking (is_walking w.walk)

    go : (c : Call) → Free c ⊎ (Barred c ⊎ Needing c) → Lowest (rows z room c (shown w)) (refusal_of (act z room c w).answer)
    go c (inl f) = free_lowest z room c w f
    go c (inr (inl b)) =
        let (gs, is, up) = barred_first z room c (shown w) b in
        let own : List Row = map (row_of z room (events_of c (shown w)) (shown w)) gs in
        let split : rows z room c (shown w) ≡ walk_row ∷ own = ap (map (row_of z room (events_of c (shown w)) (shown w))) is in
        let low : Lowest own (refusal_of (act z room c w).answer) = (act_answers z room c w).lowest (walk_row ∷ []) own split (out, tt) (rising_low (suc damaged) own up) in
        rw split (lowest_behind walk_row own (refusal_of (act z room c w).answer) out low)
    go (Call.stride Stride.step) (inr (inr steps)) = (act_answers z room (Call.stride Stride.step) w).lowest [] _ refl tt (omega arith, tt)
    go (Call.stride Stride.drop) (inr (inr drops)) = (act_answers z room (Call.stride Stride.drop) w).lowest [] _ refl tt (omega arith, tt)
    go (Call.ask _) (inr (inr x4)) = elim x4 [ ]
    go (Call.make _) (inr (inr x5)) = elim x5 [ ]
    go (Call.set _ _) (inr (inr x7)) = elim x7 [ ]
    go (Call.switch _) (inr (inr x7)) = elim x7 [ ]
    go (Call.stride (Stride.begin _)) (inr (inr x10)) = elim x10 [ ]

-- two outcomes that it allows give the same number
pub answered_determined : (z : Size) (room : ℕ) (c : Call) (w : World Deep) (r r' : Outcome (World Deep))
    → Answered z room c w r → Answered z room c w r' → refusal_of r.answer ≡ refusal_of r'.answer
answered_determined z room c w r r' h k = first_one (rows z room c (shown w)) (refusal_of r.answer) (refusal_of r'.answer) h.exactly k.exactly

-- no more events are told than there is room for; a step needs none
roomy : (z : Size) (room : ℕ) (c : Call) (d : Shown) → c ≢ Call.stride Stride.step → first (rows z room c d) ≡ none → length (events_of c d) ≤ room
unfolding rows events_of
roomy z room (Call.ask q) d h e = omega arith
roomy z room (Call.make (Child.bind x v)) d h e = omega arith
roomy z room (Call.make (Child.wind p q)) d h e = ltb-false _ _ (none_given _ _ (none_given _ _ (none_given _ _ e).1).1).0
roomy z room (Call.set x v) d h e = omega arith
roomy z room (Call.switch (Goal.goto a)) d h e = ltb-false _ _ (none_given _ _ (none_given _ _ (none_given _ _ e).1).1).0
roomy z room (Call.switch Goal.back) d h e = ltb-false _ _ (none_given _ _ (none_given _ _ e).1).0
roomy z room (Call.stride (Stride.begin a)) d h e = omega arith
roomy z room (Call.stride Stride.step) d h e = absurd (h refl)
roomy z room (Call.stride Stride.drop) d h e = omega arith

pub act_roomy : (z : Size) (room : ℕ) (c : Call) (w : World Deep) → c ≢ Call.stride Stride.step → length (act z room c w).events ≤ room
unfolding act outcome
act_roomy z room c w h = go (first (rows z room c (shown w))) refl
  where
    go : (o : Option ℕ) → first (rows z room c (shown w)) ≡ o → length (outcome o (answer_of z c (shown w)) (events_of c (shown w)) w (becomes z c w)).events ≤ room
    go none e = roomy z room c (shown w) h e
    go (some n) e = omega arith

pub goto_switches : (s : Store) (l : ℕ) → Sound s → s.tree.what l ≢ blank
    → Switched s (goto l s) l (route s.tree s.focus l) (far s.tree s.focus l) (trace s.tree (route s.tree s.focus l))
unfolding route
goto_switches s l ok made = record {
  arrives = goto_focus l s;
  moves = goto_moves (far s.tree s.focus l) l s ok made refl;
  exactly = route_nodes (path s.tree s.focus) (path s.tree l);
  once = route_once (path s.tree s.focus) (path s.tree l) (path_once s.tree ok.proper s.focus) (path_once s.tree ok.proper l);
  counted = sym (route_length s.tree s.focus l);
  shortest = λ k c. far_least s.tree ok.proper c;
  order = refl;
  told = refl;
  alters_nothing = goto_values l s;
  sound = goto_sound l s ok made;
}

pub act_switches : (z : Size) (room : ℕ) (g : Goal) (h : World Store) → Sound h.store → refusal_of (act z room (Call.switch g) (meaning h)).answer ≡ none
    → SwitchesAs h.store (goal_of g (shown (meaning h))) (act z room (Call.switch g) (meaning h))
unfolding act outcome answer_of events_of shown home
act_switches z room g h ok = go (first rs) refl
  where
    v : Shown
    v = shown (meaning h)

    rs : List Row
    rs = rows z room (Call.switch g) v

    made : first rs ≡ none → h.store.tree.what (goal_of g v) ≢ blank
    made = rw (shown_home h ok) at (goal_made z room h ok g)

    result : Option ℕ → Outcome (World Deep)
    result o = outcome o (answer_of z (Call.switch g) v) (events_of (Call.switch g) v) (meaning h) (becomes z (Call.switch g) (meaning h))

    go : (o : Option ℕ) → first rs ≡ o → refusal_of (result o).answer ≡ none → SwitchesAs h.store (goal_of g v) (result o)
    go none e q = goto_switches h.store (goal_of g v) ok (made e)
    go (some n) e q = some≢none refl q

-- what `act` answers to far is demand 3's number for the two (document 02, W3)
pub act_far : (z : Size) (room : ℕ) (w : World Deep) (a b : ℕ) → Proper w.store.tree → refusal_of (act z room (Call.ask (Ask.far a b)) w).answer ≡ none
    → (k : ℕ) × ((act z room (Call.ask (Ask.far a b)) w).answer ≡ Answer.done (a_number k) 0) × Between w.store.tree a b k
unfolding act outcome answer_of events_of changed walk_after rows shown first
act_far z room w a b ok h = go (is_made t a) (is_made t b) refl refl h
  where
    t : Tree
    t = w.store.tree

    answer : Bool → Bool → Answer
    answer p q = (outcome (cond (not p) (some no_environment) (cond (not q) (some no_environment) none)) (Answer.done (a_number (far t a b)) 0) [] w w).answer

    go : (p q : Bool) → is_made t a ≡ p → is_made t b ≡ q → refusal_of (answer p q) ≡ none
        → (k : ℕ) × (answer p q ≡ Answer.done (a_number k) 0) × Between t a b k
    go true true e f k = (far t a b, refl, far_between t ok a b (is_made_lem t a e) (is_made_lem t b f))
    go true false e f k = some≢none refl k
    go false q e f k = some≢none refl k

-- making a node tells what entering it tells
pub new_told : (n : Child) (m r : ℕ) (c : Cell) (w : World Deep) → events_of (Call.make n) (shown w) ≡ event_of (make_deep m (what_of n) c r w.store).tree (entered m)
unfolding events_of shown
new_told n m r c w = rw (upd_same w.store.tree.what m (what_of n), upd_same w.store.tree.up m (some w.store.focus))

-- TR397's walk, with the distance as its fuel, is that switch
pub walk_switches : (s : Store) (l : ℕ) → Sound s → s.tree.what l ≢ blank → refocus (far s.tree s.focus l) l s ≡ goto l s
walk_switches s l ok made = refocus_goto (far s.tree s.focus l) l s ok made refl

-- ---- the statement leaves no choice; `moves`, `arrives`, `counted`, `shortest` and `told` are enough
pub moves_determine : {s s₁ s₂ : Store} {ms : List Move} → Moves s ms s₁ → Moves s ms s₂ → s₁ ≡ s₂
moves_determine done done = refl
moves_determine (move h r) (move k q) = moves_determine r q

module _ (s s' : Store) (l : ℕ) (ms : List Move) (count : ℕ) (events : List Event) (ok : Sound s) (w : Switched s s' l ms count events) where
  pub target_made : s.tree.what l ≢ blank
  target_made = rw (moves_tree w.moves, w.arrives) at (moves_sound w.moves ok).focus_made

  -- the count is the distance
  pub switched_count : count ≡ far s.tree s.focus l
  switched_count =
      let least : far s.tree s.focus l ≤ length ms = far_least s.tree ok.proper (rw w.arrives at (moves_chain w.moves)) in
      let most : count ≤ far s.tree s.focus l = w.shortest _ (far_chain s.tree ok.proper _ s.focus l ok.focus_made target_made refl) in
      omega (arith, w.counted)

  pub switched_route : ms ≡ route s.tree s.focus l
  switched_route = rw w.arrives at (moves_forced w.moves ok (rw w.arrives (sym w.counted ∙ switched_count)))

  -- the store is the switch's
  pub switched_goto : s' ≡ goto l s
  switched_goto = moves_determine w.moves (rw (← switched_route) at (goto_moves (far s.tree s.focus l) l s ok target_made refl))

  pub switched_events : events ≡ trace s.tree (route s.tree s.focus l)
  switched_events = w.told ∙ ap (trace s.tree) switched_route

pub switched_determined : (s s₁ s₂ : Store) (l : ℕ) (ms₁ ms₂ : List Move) (n₁ n₂ : ℕ) (e₁ e₂ : List Event) → Sound s
    → Switched s s₁ l ms₁ n₁ e₁ → Switched s s₂ l ms₂ n₂ e₂ → (s₁ ≡ s₂) × (ms₁ ≡ ms₂) × (n₁ ≡ n₂) × (e₁ ≡ e₂)
switched_determined s s₁ s₂ l ms₁ ms₂ n₁ n₂ e₁ e₂ ok a b = (
  switched_goto s s₁ l ms₁ n₁ e₁ ok a ∙ sym (switched_goto s s₂ l ms₂ n₂ e₂ ok b),
  switched_route s s₁ l ms₁ n₁ e₁ ok a ∙ sym (switched_route s s₂ l ms₂ n₂ e₂ ok b),
  switched_count s s₁ l ms₁ n₁ e₁ ok a ∙ sym (switched_count s s₂ l ms₂ n₂ e₂ ok b),
  switched_events s s₁ l ms₁ n₁ e₁ ok a ∙ sym (switched_events s s₂ l ms₂ n₂ e₂ ok b),
)
