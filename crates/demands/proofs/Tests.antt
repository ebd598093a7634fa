-- What is proved of specs/Tests.antt, whose head says it in words. Assumes nothing.
use Rattle.std.specs.Prelude.{◌≡◌, ◌≢◌, Bool, true, false, not, cond, ℕ, zero, suc, ◌≤◌, leb, length}
use Rattle.std.proofs.Math.Path.{refl, ap}
use Rattle.std.proofs.Common.{sym, ◌∙◌, inl, inr, arith, leb-true, leb-false}
use Rattle.std.proofs.Math.Option.{Option, none, some}
use Rattle.std.proofs.Math.Decide.{ℕ_discrete}
use mathlib.Core.List.{List, [], ◌∷◌, map}
use Rattle.rules.proofs.Basic.{clash, some≢none}
use Rattle.rules.specs.Tree.{blank, Tree}
use Rattle.rules.specs.Values.{Cell, unbound, value}
use Rattle.rules.specs.Store.{home}
use Rattle.rules.specs.Moves.{Event}
use Rattle.rules.specs.World.{Walk}
use Rattle.rules.specs.Refusals as refusals
use Rattle.rules.specs.Refusals.{first}
use Rattle.rules.specs.Act.{Goal, Stride, Call, is_made, next_number, is_full, shown, goal_of, is_unbound, is_none, is_walking, Ground, grounds, row_of, rows, events_of}
use Rattle.rules.specs.Agree.{Numbered}
use Rattle.rules.proofs.Agree.{numbered, next_is, is_made_lem, made_is}
use Rattle.layout.specs.Limits.{none_n}
use Rattle.layout.specs.Records.{vars, room, made, focus, target, handed}
use Rattle.layout.specs.Fields.{fields_of}
use Rattle.layout.specs.View.{what_n, tree_f, view_f, view, or_none, walk_of}
use Rattle.layout.specs.Sound.{Says, Sound}
use Rattle.layout.specs.Made.{IsMade, next_of, IsFull}
use Rattle.layout.proofs.Laws.{of_buffer}
use Rattle.layout.proofs.SoundLaws.{what_blank, blank_node_lem, sound_fit, sound_view}
use Rattle.layout.proofs.CheckLaws.{says_eq, says_lt}
use Rattle.layout.proofs.StrideLaws.{none_is, some_is, no_target, with_target_lem}
use Rattle.layout.proofs.WalkLaws.{made_seen, seen_made, focus_made}
use Rattle.layout.specs.Events.{events_to}
use Rattle.layout.proofs.Reading.{top_up}
use Rattle.promises.specs.Tables as tables
use Rattle.promises.specs.Tables.{First, Above}
use Rattle.promises.specs.Promises.{meaning, world, at, room_for, parent_at}
use Rattle.promises.specs.Calls.{goal_at, events_in, row_at, table}
use Rattle.demands.specs.Tests.{size_at, traced_by, RowSays, TableSays, refused_as}

-- a row and its test with the same number
row : {n : ℕ} {b : Bool} {W : Type 0} → Says b W → RowSays (tables.row n W) (refusals.row n b)
row h = record { number = refl; says = h }

refused_as_lem : (c : ℕ) → 1 ≤ c → refused_as c ≡ some c
refused_as_lem zero h = absurd (omega arith)
refused_as_lem (suc k) h = refl

-- the first that applies, in both: no row's number is 0
pub first_says : (k : ℕ) (rs : List tables.Row) (qs : List refusals.Row) → Above k rs → TableSays rs qs → (c : ℕ) → First rs c → first qs ≡ refused_as c
unfolding first
first_says k [] [] up h c e = rw e
first_says k [] (q ∷ qs) up h c f = absurd h
first_says k (r ∷ rs) [] up h c f = absurd h
first_says k (r ∷ rs) (q ∷ qs) up (h, hs) c (inl (e, w)) = go q.applies h.says
  where
    go : (b : Bool) → Says b r.when → cond b (some q.number) (first qs) ≡ refused_as c
    go true z = ap some (sym h.number ∙ e) ∙ sym (refused_as_lem c (omega (arith, up.0)))
    go false z = absurd (z w)
first_says k (r ∷ rs) (q ∷ qs) up (h, hs) c (inr (never, f)) = go q.applies h.says (first_says k rs qs up.1 hs c f)
  where
    go : (b : Bool) → Says b r.when → first qs ≡ refused_as c → cond b (some q.number) (first qs) ≡ refused_as c
    go true z ih = absurd (never z)
    go false z ih = ih

-- ---- the conditions, tested on the meaning
says_le : (a b : ℕ) → Says (leb a b) (a ≤ b)
says_le a b = go (leb a b) refl
  where
    go : (t : Bool) → leb a b ≡ t → Says t (a ≤ b)
    go true e = leb-true a b e
    go false e = λ h. omega (arith, leb-false a b e)

says_unbound : (c : Cell) → Says (is_unbound c) (c ≡ unbound)
says_unbound unbound = refl
says_unbound (value v) = λ e. let z : ◌≡◌ {A = ℕ} 0 1 = cc in omega arith

-- a walk is under way where the header names its target
says_walking : (s : List ℕ) → Says (is_walking (walk_of s)) (target s ≢ none_n)
unfolding walk_of fields_of
says_walking s = go (ℕ_discrete (target s) none_n)
  where
    go : Dec (target s ≡ none_n) → Says (is_walking (walk_of s)) (target s ≢ none_n)
    go (yes e) = rw (no_target (fields_of s) e) (λ k. k e)
    go (no k) = rw (with_target_lem (fields_of s) k) k

says_outside : (s : List ℕ) → Says (not (is_walking (walk_of s))) (target s ≡ none_n)
unfolding walk_of fields_of
says_outside s = go (ℕ_discrete (target s) none_n)
  where
    go : Dec (target s ≡ none_n) → Says (not (is_walking (walk_of s))) (target s ≡ none_n)
    go (yes e) = rw (no_target (fields_of s) e) e
    go (no k) = rw (with_target_lem (fields_of s) k) k

pub is_walking_lem : (s : List ℕ) → target s ≢ none_n → is_walking (world s).walk ≡ true
unfolding world walk_of fields_of
is_walking_lem s k = ap is_walking (with_target_lem (fields_of s) k)

pub off_walk : (s : List ℕ) → target s ≡ none_n → walk_of s ≡ none
unfolding walk_of fields_of
off_walk s e = no_target (fields_of s) e

pub no_walk_lem : (s : List ℕ) → walk_of s ≡ none → target s ≡ none_n
no_walk_lem s e = rw e at (says_outside s)

-- the two numbers by the walk that is under way
pub walk_is : (s : List ℕ) (a : ℕ) (o : Option ℕ) → walk_of s ≡ some (record { target = a; handed = o }) → (target s ≡ a) × (or_none (handed s) ≡ o)
unfolding walk_of fields_of
walk_is s a o e = go (ℕ_discrete (target s) none_n)
  where
    go : Dec (target s ≡ none_n) → (target s ≡ a) × (or_none (handed s) ≡ o)
    go (yes out) = absurd (let f : none ≡ some (record { target = a; handed = o }) = sym (no_target (fields_of s) out) ∙ e in let z : ◌≡◌ {A = ℕ} 0 1 = cc in omega arith)
    go (no on) =
        let f : ◌≡◌ {A = Option Walk} (some (record { target = target s; handed = or_none (handed s) })) (some (record { target = a; handed = o })) = sym (with_target_lem (fields_of s) on) ∙ e in
        (ap target_in f, ap handed_in f)
      where
        target_in : Option Walk → ℕ
        target_in none = 0
        target_in (some k) = k.target

        handed_in : Option Walk → Option ℕ
        handed_in none = none
        handed_in (some k) = k.handed

-- a number in the header, or none
pub none_of : (n : ℕ) → or_none n ≡ none → n ≡ none_n
none_of n e = go (ℕ_discrete n none_n)
  where
    go : Dec (n ≡ none_n) → n ≡ none_n
    go (yes h) = h
    go (no h) = some≢none (some_is n h) e

pub some_of : (n m : ℕ) → or_none n ≡ some m → n ≡ m
some_of n m e = go (ℕ_discrete n none_n)
  where
    go : Dec (n ≡ none_n) → n ≡ m
    go (yes h) = some≢none e (none_is n h)
    go (no h) = let same : some n ≡ some m = sym (some_is n h) ∙ e in cc

module _ (s : List ℕ) (ok : Sound s) where
  abbrev seen : Tree
  seen = (view s).tree

  beyond_made : (n : ℕ) → made s ≤ n → seen.what n ≡ blank
  unfolding view view_f tree_f fields_of
  beyond_made n h = ap what_n (blank_node_lem (fields_of s) (of_buffer s (sound_fit s ok.whole)) ok.whole.fields.shape n h) ∙ what_blank

  made_fits : made s ≤ room s
  unfolding fields_of
  made_fits = ok.whole.fields.shape.head.made_high

  -- the next number is made
  pub next_made : next_number (size_at s) seen ≡ next_of s
  unfolding IsMade next_of size_at
  next_made = next_is (size_at s) seen (made s) made_fits (λ n l. made_seen s ok.whole n l) beyond_made

  pub seen_numbered : Numbered (size_at s) seen
  unfolding IsMade size_at view view_f tree_f
  seen_numbered = numbered (size_at s) seen (made s) made_fits (λ n l. made_seen s ok.whole n l) beyond_made

  says_unmade : (a : ℕ) → Says (not (is_made seen a)) (IsMade s a → ⊥)
  says_unmade a = go (is_made seen a) refl
    where
      go : (b : Bool) → is_made seen a ≡ b → Says (not b) (IsMade s a → ⊥)
      go true e = λ k. k (seen_made s ok.whole a (is_made_lem seen a e))
      go false e = λ h. clash (made_is seen a (made_seen s ok.whole a h)) e

  says_full : Says (is_full (size_at s) seen) (IsFull s)
  unfolding is_full IsFull size_at next_of
  says_full = rw next_made (says_eq (made s) (room s))

  says_top : Says (is_none (seen.up (focus s))) (focus s ≡ 0)
  says_top = go (seen.up (focus s)) refl
    where
      go : (o : Option ℕ) → seen.up (focus s) ≡ o → Says (is_none o) (focus s ≡ 0)
      go none e = (sound_view s ok.whole).proper.one_top (focus s) (made_seen s ok.whole (focus s) (focus_made s ok.whole)) e
      go (some p) e = λ z. some≢none (rw z at e) (top_up s ok.whole)

  pub goal_same : (g : Goal) → goal_of g (shown (world s)) ≡ goal_at g s
  unfolding shown world meaning home parent_at view view_f fields_of
  goal_same (Goal.goto a) = refl
  goal_same Goal.back = refl

  -- what `act` tells the trace
  pub events_same : (c : Call) → traced_by c (events_of c (shown (world s))) ≡ events_in c s
  unfolding events_of shown world meaning home view view_f fields_of
  events_same (Call.ask q) = refl
  events_same (Call.make n) = refl
  events_same (Call.set x v) = refl
  events_same (Call.switch g) = ap (events_to s) (goal_same g)
  events_same (Call.stride k) = refl

  ground_says : (t : List ℕ) (es : List Event) (g : Ground) → RowSays (row_at s t es g) (row_of (size_at s) (room_for t) es (shown (world s)) g)
  unfolding shown world meaning home at size_at view view_f fields_of
  ground_says t es (Ground.unknown x) = row (says_le (vars s) x)
  ground_says t es (Ground.unmade a) = row (says_unmade a)
  ground_says t es (Ground.valueless x) = row (says_unbound (at s (focus s) x))
  ground_says t es (Ground.valueless_at a x) = row (says_unbound (at s a x))
  ground_says t es Ground.no_space = row says_full
  ground_says t es Ground.no_room = row (says_lt (room_for t) (length es))
  ground_says t es Ground.no_parent = row says_top
  ground_says t es Ground.mid_walk = row (says_walking s)
  ground_says t es Ground.no_walk = row (says_outside s)

  grounds_say : (t : List ℕ) (es : List Event) (gs : List Ground) → TableSays (map (row_at s t es) gs) (map (row_of (size_at s) (room_for t) es (shown (world s))) gs)
  grounds_say t es [] = tt
  grounds_say t es (g ∷ gs) = (ground_says t es g, grounds_say t es gs)

  pub table_says : (t : List ℕ) (c : Call) → TableSays (table c s t) (rows (size_at s) (room_for t) c (shown (world s)))
  unfolding rows events_of
  table_says t (Call.ask q) = grounds_say t [] (grounds (Call.ask q))
  table_says t (Call.make k) = rw (events_same (Call.make k)) (grounds_say t (events_in (Call.make k) s) (grounds (Call.make k)))
  table_says t (Call.set x v) = grounds_say t [] (grounds (Call.set x v))
  table_says t (Call.switch g) = rw (events_same (Call.switch g)) (grounds_say t (events_in (Call.switch g) s) (grounds (Call.switch g)))
  table_says t (Call.stride (Stride.begin a)) = grounds_say t [] (grounds (Call.stride (Stride.begin a)))
  table_says t (Call.stride Stride.step) = grounds_say t [] (grounds (Call.stride Stride.step))
  table_says t (Call.stride Stride.drop) = grounds_say t [] (grounds (Call.stride Stride.drop))
