-- Climbing from a target to its parent, and from the focus to its parent: what becomes of the moves and events that remain.
-- Assumes nothing.
use Rattle.std.specs.Prelude.{◌≡◌, ◌≢◌, ◌⊎◌, Bool, true, false, cond, ◌||◌, ℕ, zero, suc, ◌+◌, ◌≤◌, ◌<◌, leb, eqb, length}
use Rattle.std.proofs.Math.Path.{refl, ap}
use Rattle.std.proofs.Common.{sym, ◌∙◌, inl, inr, le_refl, arith, length-append, leb-true}
use Rattle.std.proofs.Math.Option.{Option, none, some}
use mathlib.Core.List.{List, [], ◌∷◌, ◌++◌, append-nil, map}
use Rattle.std.proofs.lemmas.List.{length-map}
use Rattle.rules.specs.Basic.{on}
use Rattle.rules.proofs.Basic.{clash, on_head, on_cases}
use Rattle.rules.specs.Apart.{apart}
use Rattle.rules.proofs.Apart.{apart_self}
use Rattle.rules.specs.Tree.{What, blank, top, binding, wind, Tree, Proper, climb, path}
use Rattle.rules.proofs.Tree.{downward, path_top, path_up, on_path_up, on_path_rank}
use Rattle.rules.specs.Far.{far}
use Rattle.rules.proofs.Far.{far_lift, far_sym, far_self}
use Rattle.rules.specs.Moves.{Event, left, entered, node_of, event_of, route, trace, is_wind, winds}
use Rattle.rules.proofs.Moves.{route_left, route_entered, route_length, trace_append, length_event, length_trace}
use Rattle.layout.specs.Records as records
use Rattle.layout.specs.Records.{made, focus, kind_n, parent_n, var_n, post_n, depth_n}
use Rattle.layout.specs.Kinds.{by_kind, within, is_out, IsWind}
use Rattle.layout.specs.Fields.{fields_of, nodes}
use Rattle.layout.specs.View.{what_n, tree_f, view_f, view}
use Rattle.layout.specs.Sound.{Whole}
use Rattle.layout.specs.Made.{IsMade}
use Rattle.layout.proofs.Laws.{node_in, of_buffer}
use Rattle.layout.proofs.SoundLaws.{sound_fit, sound_view, depth_few}
use Rattle.layout.proofs.WalkLaws.{made_seen, seen_made, made_room, focus_made, seen_focus, out_up, in_above, parent_seen, parent_made}
use Rattle.layout.specs.Routes.{first_on, meet, Over, moves_from, moves_to, left_events, entered_events, meeting, OnWay, Climbing}
use Rattle.layout.specs.Events.{events_from, events_to}

on_more : (n m : ℕ) (l : List ℕ) → on n l ≡ true → on n (m ∷ l) ≡ true
on_more n m l h = go (eqb n m) h
  where
    go : (b : Bool) {c : Bool} → c ≡ true → (b || c) ≡ true
    go true e = refl
    go false e = e

-- ---- on the tree
module _ (t : Tree) (ok : Proper t) where
  -- a node that is not on the other way: its moves come last, or first
  pub events_entered : (f c p : ℕ) → t.up c ≡ some p → on c (path t f) ≡ false → trace t (route t f c) ≡ trace t (route t f p) ++ event_of t (entered c)
  unfolding route
  events_entered f c p e h =
      rw (path_up t ok c p e, route_entered c (path t f) (path t p) h, trace_append t (route t f p) (entered c ∷ []))
      (ap (λ (l : List Event). trace t (route t f p) ++ l) (append-nil (event_of t (entered c))))

  pub moves_entered : (f c p : ℕ) → t.up c ≡ some p → on c (path t f) ≡ false → far t f c ≡ suc (far t f p)
  moves_entered f c p e h = far_sym t ok f c ∙ far_lift t ok c f p e h ∙ ap suc (far_sym t ok p f)

  pub events_left : (g m p : ℕ) → t.up g ≡ some p → on g (path t m) ≡ false → trace t (route t g m) ≡ event_of t (left g) ++ trace t (route t p m)
  unfolding route
  events_left g m p e h = rw (path_up t ok g p e, route_left g (path t p) (path t m) h)

  pub events_none : (m : ℕ) → trace t (route t m m) ≡ []
  unfolding route
  events_none m = rw apart_self

  -- ---- the meeting point
  module _ (f : ℕ) where
    pub meet_on : (a : ℕ) → on a (path t f) ≡ true → meet t f a ≡ a
    unfolding meet
    meet_on a h = go (t.up a) refl
      where
        go : (o : Option ℕ) → t.up a ≡ o → first_on (path t a) (path t f) ≡ a
        go none e = clash h (on_path_up t ok f a e)
        go (some p) e = rw (path_up t ok a p e, h)

    pub meet_top : (a : ℕ) → t.what a ≢ blank → t.up a ≡ none → meet t f a ≡ a
    unfolding meet
    meet_top a made e = rw (path_top t ok a e) (sym (ok.one_top a made e))

    pub meet_up : (a p : ℕ) → t.up a ≡ some p → on a (path t f) ≡ false → meet t f a ≡ meet t f p
    unfolding meet
    meet_up a p e h = rw (path_up t ok a p e, h)

    -- a target that is not the meeting point has a parent, and is not on the way of f
    pub below_meet : (a : ℕ) → t.what a ≢ blank → a ≢ meet t f a → (p : ℕ) × (t.up a ≡ some p) × (on a (path t f) ≡ false)
    below_meet a made d = go (t.up a) refl (on a (path t f)) refl
      where
        go : (o : Option ℕ) → t.up a ≡ o → (b : Bool) → on a (path t f) ≡ b → (p : ℕ) × (t.up a ≡ some p) × (on a (path t f) ≡ false)
        go none e b h = absurd (d (sym (meet_top a made e)))
        go (some p) e true h = absurd (d (sym (meet_on a h)))
        go (some p) e false h = (p, e, h)

    pub meet_over : (a : ℕ) → t.what a ≢ blank → (t.what (meet t f a) ≢ blank) × Over t (meet t f a) f
    meet_over = downward t ok (λ a. t.what a ≢ blank → (t.what (meet t f a) ≢ blank) × Over t (meet t f a) f)
        (λ a e made. rw (meet_top a made e) (made, inl e)) up_one
      where
        up_one : (a p : ℕ) → t.up a ≡ some p → (t.what p ≢ blank → (t.what (meet t f p) ≢ blank) × Over t (meet t f p) f)
            → t.what a ≢ blank → (t.what (meet t f a) ≢ blank) × Over t (meet t f a) f
        up_one a p e ih made = go (on a (path t f)) refl
          where
            go : (b : Bool) → on a (path t f) ≡ b → (t.what (meet t f a) ≢ blank) × Over t (meet t f a) f
            go true h = rw (meet_on a h) (made, inr h)
            go false h = rw (meet_up a p e h) (ih (ok.made_up a p e))

  -- the meeting point is on the way of a too
  pub meet_under : (f a : ℕ) → t.what a ≢ blank → Over t (meet t f a) a
  meet_under f = downward t ok (λ a. t.what a ≢ blank → Over t (meet t f a) a) (λ a e made. rw (meet_top f a made e) (inl e)) up_one
    where
      up_one : (a p : ℕ) → t.up a ≡ some p → (t.what p ≢ blank → Over t (meet t f p) p) → t.what a ≢ blank → Over t (meet t f a) a
      up_one a p e ih made = go (on a (path t f)) refl
        where
          further : Over t (meet t f p) p → Over t (meet t f p) a
          further (inl u) = inl u
          further (inr h) = inr (rw (path_up t ok a p e) (on_more (meet t f p) a (path t p) h))

          go : (b : Bool) → on a (path t f) ≡ b → Over t (meet t f a) a
          go true h = rw (meet_on f a h) (inr (rw (path_up t ok a p e) (on_head a (path t p))))
          go false h = rw (meet_up f a p e h) (further (ih (ok.made_up a p e)))

  -- a node below m has a parent below or at m, and is not on the way of m
  pub below_over : (m g : ℕ) → t.what m ≢ blank → t.what g ≢ blank → Over t m g → g ≢ m → (p : ℕ) × (t.up g ≡ some p) × (on g (path t m) ≡ false) × Over t m p
  below_over m g mm mg over d = go (t.up g) refl over
    where
      go : (o : Option ℕ) → t.up g ≡ o → Over t m g → (p : ℕ) × (t.up g ≡ some p) × (on g (path t m) ≡ false) × Over t m p
      go none e (inl u) = absurd (d (ok.one_top g mg e ∙ sym (ok.one_top m mm u)))
      go none e (inr h) = clash h (rw (path_top t ok g e))
      go (some p) e (inl u) = (p, e, rw (path_top t ok m u), inl u)
      go (some p) e (inr h) = up_one (on_cases m g (path t p) (rw (path_up t ok g p e) at h))
        where
          off : on m (path t p) ≡ true → (b : Bool) → on g (path t m) ≡ b → b ≡ false
          off q true k = absurd (omega (arith, on_path_rank t ok m g k, on_path_rank t ok p m q, ok.falls g p e))
          off q false k = refl

          up_one : (m ≡ g) ⊎ (on m (path t p) ≡ true) → (p : ℕ) × (t.up g ≡ some p) × (on g (path t m) ≡ false) × Over t m p
          up_one (inl q) = absurd (d (sym q))
          up_one (inr q) = (p, e, off q (on g (path t m)) refl, inr q)

-- ---- a switch is short: no more moves than the two ranks, no more events than moves
climb_short : (t : Tree) (n a : ℕ) → length (climb t n a) ≤ n
climb_short t zero a = le_refl 0
climb_short t (suc n) a = go (t.up a) (climb_short t n)
  where
    go : (o : Option ℕ) → ((p : ℕ) → length (climb t n p) ≤ n) → length {A = ℕ} (elim o [ none ↦ [] | some p ↦ a ∷ climb t n p ]) ≤ suc n
    go none ih = omega arith
    go (some p) ih = omega (arith, ih p)

apart_short : (p q : List ℕ) → length (apart p q) ≤ length p
apart_short [] q = le_refl 0
apart_short (n ∷ p) q = go (on n q) (apart_short p q)
  where
    go : (b : Bool) → length (apart p q) ≤ length p → length (cond b (apart p q) (n ∷ apart p q)) ≤ suc (length p)
    go true ih = omega arith
    go false ih = omega arith

pub moves_short : (t : Tree) (a b : ℕ) → far t a b ≤ t.rank a + t.rank b
unfolding far path
moves_short t a b =
    omega (arith, apart_short (path t a) (path t b), apart_short (path t b) (path t a), climb_short t (t.rank a) a, climb_short t (t.rank b) b)

winds_short : (t : Tree) (l : List ℕ) → winds t l ≤ length l
winds_short t [] = le_refl 0
winds_short t (n ∷ l) = go (t.what n) (winds_short t l)
  where
    go : (w : What) → winds t l ≤ length l → is_wind w + winds t l ≤ suc (length l)
    go blank ih = omega arith
    go top ih = omega arith
    go (binding x) ih = omega arith
    go (wind p q) ih = omega arith

pub events_short : (t : Tree) (a b : ℕ) → length (trace t (route t a b)) ≤ far t a b
events_short t a b = omega (arith, length_trace t (route t a b), winds_short t (map node_of (route t a b)), length-map (route t a b) node_of, route_length t a b)

-- ---- on bytes
-- a climb from the focus to m has come to g
pub record Rising (s : List ℕ) (m g moves events : ℕ) : Type 0 where
  pub made : IsMade s g
  pub over : Over (view s).tree m g
  pub moved : moves + moves_from s g m ≡ moves_to s m
  pub told : events + length (events_from s g m) ≡ length (events_to s m)

within_low : (lo k hi : ℕ) → within lo k hi ≡ true → lo ≤ k
within_low lo k hi e = go (leb lo k) refl e
  where
    go : (b : Bool) → leb lo k ≡ b → cond b (leb k hi) false ≡ true → lo ≤ k
    go true q h = leb-true lo k q
    go false q h = clash h refl

within_high : (lo k hi : ℕ) → within lo k hi ≡ true → k ≤ hi
within_high lo k hi e = go (leb lo k) e
  where
    go : (b : Bool) → cond b (leb k hi) false ≡ true → k ≤ hi
    go true h = leb-true k hi h
    go false h = clash h refl

-- a record of a kind that is no wind's has no events
wind_or_plain : (p : List ℕ) → IsWind (kind_n p) ⊎ (is_wind (what_n p) ≡ 0)
unfolding what_n by_kind
wind_or_plain p = go (within 2 (kind_n p) 3) (within 4 (kind_n p) 5) refl (eqb (kind_n p) 1)
  where
    go : (b w : Bool) → within 4 (kind_n p) 5 ≡ w → (o : Bool) → IsWind (kind_n p) ⊎ (is_wind (cond b (binding (var_n p)) (cond w (wind (var_n p) (post_n p)) (cond o top blank))) ≡ 0)
    go true w e o = inr refl
    go false true e o = inl (within_low 4 (kind_n p) 5 e, within_high 4 (kind_n p) 5 e)
    go false false e true = inr refl
    go false false e false = inr refl

pub plain : (p : List ℕ) → (IsWind (kind_n p) → ⊥) → is_wind (what_n p) ≡ 0
plain p h = go (wind_or_plain p)
  where
    go : IsWind (kind_n p) ⊎ (is_wind (what_n p) ≡ 0) → is_wind (what_n p) ≡ 0
    go (inl is) = absurd (h is)
    go (inr e) = e

pub wind_kind : (p : List ℕ) → is_wind (what_n p) ≡ 1 → IsWind (kind_n p)
wind_kind p e = go (wind_or_plain p)
  where
    go : IsWind (kind_n p) ⊎ (is_wind (what_n p) ≡ 0) → IsWind (kind_n p)
    go (inl is) = is
    go (inr z) = absurd (omega (arith, z, e))

module _ (s : List ℕ) (ok : Whole s) where
  abbrev t : Tree
  t = (view s).tree

  pub proper : Proper t
  proper = (sound_view s ok).proper

  pub what_node : (n : ℕ) → IsMade s n → t.what n ≡ what_n (records.node_of s n)
  unfolding view view_f tree_f fields_of
  what_node n h = ap what_n (node_in s n (made_room s ok n h))

  -- a node that is out is not on the focus's way
  pub out_off : (c : ℕ) → IsMade s c → is_out (kind_n (records.node_of s c)) ≡ true → on c (path t (focus s)) ≡ false
  out_off c h out = rw (seen_focus s ok) at (sym ((sound_view s ok).modes c) ∙ (out_up s ok c h out).1)

  -- any other is the meeting point of its own way
  pub in_meets : (c : ℕ) → IsMade s c → is_out (kind_n (records.node_of s c)) ≡ false → meeting s c ≡ c
  in_meets c h i = go (in_above s ok c h i)
    where
      go : (t.up c ≡ none) ⊎ ((view s).mode c ≡ true) → meeting s c ≡ c
      go (inl u) = meet_top t proper (focus s) c (made_seen s ok c h) u
      go (inr m) = meet_on t proper (focus s) c (rw (seen_focus s ok) at (sym ((sound_view s ok).modes c) ∙ m))

  pub meeting_on_way : (a : ℕ) → IsMade s a → OnWay s (meeting s a)
  meeting_on_way a h =
      let (m, o) = meet_over t proper (focus s) a (made_seen s ok a h) in
      record { made = seen_made s ok (meeting s a) m; over = o }

  -- between two environments there are at most 4,096 moves, and as few events
  pub few_between : (a b : ℕ) → moves_from s a b ≤ 4096
  unfolding view view_f tree_f fields_of
  few_between a b = omega (arith, moves_short t a b, few a, few b, ok.fields.shape.head)
    where
      few : (n : ℕ) → depth_n (nodes s n) ≤ made s
      few n = depth_few (fields_of s) (of_buffer s (sound_fit s ok)) ok.fields.shape n

  pub few_moves : (a : ℕ) → moves_to s a ≤ 4096
  few_moves a = few_between (focus s) a

  pub few_events : (a : ℕ) → length (events_to s a) ≤ 4096
  few_events a = omega (arith, few_moves a, events_short t (focus s) a)

  -- ---- the climb from the target
  pub climbing_start : (a : ℕ) → IsMade s a → Climbing s a a 0 0
  climbing_start a h = record { made = h; moved = omega arith; told = omega arith; same = refl }

  module _ (a c moves events : ℕ) (at : Climbing s a c moves events) where
    pub climbing_up : is_out (kind_n (records.node_of s c)) ≡ true → (w p : ℕ) → w ≡ is_wind (what_n (records.node_of s c)) → p ≡ parent_n (records.node_of s c) → Climbing s a p (moves + 1) (events + w)
    climbing_up out w p f e =
        let up : t.up c ≡ some p = (out_up s ok c at.made out).0 ∙ ap some (sym e) in
        let off : on c (path t (focus s)) ≡ false = out_off c at.made out in
        let one = moves_entered t proper (focus s) c p up off in
        let all = ap length (events_entered t proper (focus s) c p up off) ∙ length-append (events_to s p) (entered_events s c) in
        let bit = length_event t (entered c) ∙ ap is_wind (what_node c at.made) in
        record {
          made = parent_made s ok c p up;
          moved = omega (arith, at.moved);
          told = omega (arith, at.told);
          same = sym (meet_up t proper (focus s) c p up off) ∙ at.same;
        }

    pub climbing_less : is_out (kind_n (records.node_of s c)) ≡ true → (p : ℕ) → p ≡ parent_n (records.node_of s c) → moves_to s p < moves_to s c
    climbing_less out p e =
        omega (arith, moves_entered t proper (focus s) c p ((out_up s ok c at.made out).0 ∙ ap some (sym e)) (out_off c at.made out))

    pub climbing_end : is_out (kind_n (records.node_of s c)) ≡ false → c ≡ meeting s a
    climbing_end i = sym (in_meets c at.made i) ∙ at.same

  -- ---- the climb from the focus to m: g, below m, has come to its parent p
  module _ (m : ℕ) (way : OnWay s m) (g : ℕ) (below : IsMade s g) (under : Over t m g) (d : g ≢ m) (p : ℕ) (named : p ≡ parent_n (records.node_of s g)) where
    pub record Risen : Type 0 where
      pub made : IsMade s p
      pub over : Over t m p
      pub moves : moves_from s g m ≡ suc (moves_from s p m)
      pub events : events_from s g m ≡ left_events s g ++ events_from s p m

    pub risen : Risen
    risen =
        let (q, u, o, v) = below_over t proper m g (made_seen s ok m way.made) (made_seen s ok g below) under d in
        let same : q ≡ p = sym (parent_seen s ok g q u) ∙ sym named in
        let up : t.up g ≡ some p = u ∙ ap some same in
        record { made = parent_made s ok g p up; over = rw same at v; moves = far_lift t proper g m p up o; events = events_left t proper g m p up o }

  module _ (m : ℕ) (way : OnWay s m) where
    pub rising_start : (g : ℕ) → g ≡ focus s → Rising s m g 0 0
    rising_start g e = rw e record { made = focus_made s ok; over = way.over; moved = omega arith; told = omega arith }

    module _ (g moves events : ℕ) (at : Rising s m g moves events) where
      pub rising_up : g ≢ m → (w p : ℕ) → w ≡ is_wind (what_n (records.node_of s g)) → p ≡ parent_n (records.node_of s g) → Rising s m p (moves + 1) (events + w)
      rising_up d w p f e =
          let r = risen m way g at.made at.over d p e in
          let all = ap length r.events ∙ length-append (left_events s g) (events_from s p m) in
          let bit = length_event t (left g) ∙ ap is_wind (what_node g at.made) in
          record { made = r.made; over = r.over; moved = omega (arith, at.moved, r.moves); told = omega (arith, at.told) }

      pub rising_less : g ≢ m → (p : ℕ) → p ≡ parent_n (records.node_of s g) → moves_from s p m < moves_from s g m
      rising_less d p e = omega (arith, (risen m way g at.made at.over d p e).moves)

      pub rising_end : g ≡ m → (moves ≡ moves_to s m) × (events ≡ length (events_to s m))
      rising_end e =
          let none : moves_from s g m ≡ 0 = rw e (far_self t proper m) in
          let empty : length (events_from s g m) ≡ 0 = rw e (ap length (events_none t proper m)) in
          (omega (arith, at.moved), omega (arith, at.told))
