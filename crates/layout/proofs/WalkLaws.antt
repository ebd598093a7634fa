-- The walk's three ways on bytes (TR397, Figure 4): the target is the focus; it is out; it is in or the top. Each law says
-- what the calls of one way come to together. No place of the layout stands here. Assumes nothing.
use Rattle.std.specs.Prelude.{◌≡◌, ◌≢◌, ◌⊎◌, ℕ, ◌<◌, List, length}
use Rattle.std.proofs.Math.Path.{refl, ap}
use Rattle.std.proofs.Common.{sym, ◌∙◌, inl, inr, arith}
use Rattle.std.proofs.Math.Bool.{true, false}
use Rattle.std.proofs.Math.Option.{none, some}
use Rattle.std.proofs.lemmas.Bool.{not-true, not-false}
use Rattle.rules.specs.Basic.{on}
use Rattle.rules.proofs.Basic.{upd_same, clash, some≢none}
use Rattle.rules.specs.Tree.{blank, Tree, path}
use Rattle.rules.proofs.Tree.{off_parent}
use Rattle.rules.specs.Store as store
use Rattle.rules.specs.Store.{goto}
use Rattle.rules.proofs.Store.{goto_focus, goto_tree, goto_sound, goto_here}
use Rattle.rules.specs.Walk.{Turn, arrived, outside, above}
use Rattle.rules.proofs.Walk.{turn, goto_out, goto_in, far_out, far_in}
use Rattle.layout.specs.Limits.{node_size}
use Rattle.layout.specs.Records.{vars, room, made, focus, node_of, with_node, kind_n, parent_n, swap_n}
use Rattle.layout.specs.Kinds.{is_in, is_out, IsNode}
use Rattle.layout.proofs.NodeKinds.{kind_binding, kind_wind, node_kind, out_not_in}
use Rattle.layout.specs.Fields.{Fields, fields_of, nodes, Fit, vars_f, room_f}
use Rattle.layout.specs.View.{what_n, up_n, tree_f, view_f, view}
use Rattle.layout.specs.Sound.{Whole}
use Rattle.layout.specs.Writes.{turn_b, leave_b, enter_b, Turns}
use Rattle.layout.specs.Made.{IsMade}
use Rattle.layout.specs.Becomes.{Sized, Kept, Becomes}
use Rattle.layout.specs.Routes.{moves_to}
use Rattle.layout.proofs.Laws.{of_buffer, node_in, Wrote, wrote_node, wrote_fit, fields_vars, fields_room}
use Rattle.layout.proofs.RecordLaws.{swap_length, turn_same, swap_same}
use Rattle.layout.proofs.SoundLaws.{Place, is_top, is_inner, is_blank, place, what_blank, up_top, out_top, up_inner, blank_node_lem, not_blank_lem, sound_fit, sound_view, shape_inners}
use Rattle.layout.proofs.MoveLaws.{wrote_swap, wrote_wind, sound_turns, inner, leave_becomes, enter_becomes}

-- ---- one after the other
pub sized_self : (s : List ℕ) → Sized s s
sized_self s = record { vars = refl; room = refl; long = refl; past = refl }

pub sized_then : {s t u : List ℕ} → Sized s t → Sized t u → Sized s u
sized_then a b = record { vars = b.vars ∙ a.vars; room = b.room ∙ a.room; long = b.long ∙ a.long; past = b.past ∙ a.past }

pub kept_self : (s : List ℕ) → Kept s s
kept_self s = record { size = sized_self s; target = refl; handed = refl }

pub kept_then : {s t u : List ℕ} → Kept s t → Kept t u → Kept s u
kept_then a b = record { size = sized_then a.size b.size; target = b.target ∙ a.target; handed = b.handed ∙ a.handed }

pub becomes_then : {s t u : List ℕ} {v w x : store.Store} → Becomes s t v → Becomes t u w → w ≡ x → Becomes s u x
becomes_then a b e = record { sound = b.sound; seen = b.seen ∙ e; kept = kept_then a.kept b.kept }

-- ---- the exchange: with a binding's stored cell changed, the buffer still fits
pub swapped_fits : (s t : List ℕ) (n k : ℕ) (c : List ℕ) → Fit s → n < room s → t ≡ with_node s n (swap_n (node_of s n) k c) → Fit t × (vars t ≡ vars s)
unfolding fields_of
swapped_fits s t n k c fit below e =
    let long : length (swap_n (node_of s n) k c) ≡ node_size = swap_length (node_of s n) k c ∙ ap length (sym (node_in s n below)) ∙ (of_buffer s fit).node_long n in
    let w = wrote_node s n (swap_n (node_of s n) k c) fit below long in
    rw e (wrote_fit w refl refl fit, fields_vars (with_node s n (swap_n (node_of s n) k c)) w.fields)

-- ---- a turn: the buffer still fits, and the node keeps its parent
pub record Turned (s t : List ℕ) (n : ℕ) : Type 0 where
  pub fit : Fit t
  pub below : n < room t
  pub parent : parent_n (node_of t n) ≡ parent_n (node_of s n)

turned_from : {s t : List ℕ} {f : Fields} (n : ℕ) → Wrote s t f → vars_f f ≡ vars s → room_f f ≡ room s → Fit s → n < room s → parent_n (f.node n) ≡ parent_n (nodes s n) → Turned s t n
unfolding fields_of
turned_from {s} {t} n w v r fit below same =
    let rooms = fields_room t w.fields in
    let inside : n < room t = omega arith in
    record {
      fit = wrote_fit w v r fit;
      below = inside;
      parent = ap parent_n (sym (node_in t n inside)) ∙ ap (λ (g : Fields). parent_n (g.node n)) w.fields ∙ same ∙ ap parent_n (node_in s n below);
    }

pub turned : (s : List ℕ) (n k : ℕ) → Turns s n → Turned s (turn_b s n k) n
unfolding turn_b fields_of
turned s n k h = go h.node
  where
    long : length (nodes s n) ≡ node_size
    long = (of_buffer s h.fit).node_long n

    go : IsNode (kind_n (node_of s n)) → Turned s (turn_b s n k) n
    go (inl b) =
        rw (kind_binding (kind_n (node_of s n)) _ _ _ _ b)
        (turned_from n (wrote_swap s n k h.fit h.below (rw (node_in s n h.below) (h.var b))) refl refl h.fit h.below
        (ap parent_n (upd_same (nodes s) n _) ∙ (swap_same k _ (nodes s n) long).parent))
    go (inr b) =
        rw (kind_wind (kind_n (node_of s n)) _ _ _ _ b)
        (turned_from n (wrote_wind s n k h.fit h.below) refl refl h.fit h.below
        (ap parent_n (upd_same (nodes s) n _) ∙ (turn_same k (nodes s n) long).parent))

module _ (s : List ℕ) (ok : Whole s) where
  abbrev seen : store.Store
  seen = view s

  -- an environment is a node that is not blank
  pub made_seen : (a : ℕ) → IsMade s a → seen.tree.what a ≢ blank
  unfolding IsMade view view_f tree_f fields_of
  made_seen a h = not_blank_lem (fields_of s) (of_buffer s (sound_fit s ok)) ok.fields.shape a h

  pub seen_made : (a : ℕ) → seen.tree.what a ≢ blank → IsMade s a
  unfolding IsMade view view_f tree_f fields_of
  seen_made a h = go (place (made s) a)
    where
      go : Place (made s) a → a < made s
      go (is_top e) = omega (arith, ok.fields.shape.head.made_low)
      go (is_inner l k) = k
      go (is_blank b) = absurd (h (ap what_n (blank_node_lem (fields_of s) (of_buffer s (sound_fit s ok)) ok.fields.shape a b) ∙ what_blank))

  pub made_room : (a : ℕ) → IsMade s a → a < room s
  unfolding IsMade fields_of
  made_room a h = omega (arith, ok.fields.shape.head.made_high)

  pub focus_made : IsMade s (focus s)
  unfolding IsMade fields_of
  focus_made = ok.fields.shape.head.focus_made

  pub seen_focus : seen.focus ≡ focus s
  unfolding view view_f fields_of
  seen_focus = refl

  -- a node that is out has the parent that its record names, and its mode is false; any other is the top, or in
  pub out_up : (a : ℕ) → IsMade s a → is_out (kind_n (node_of s a)) ≡ true → (seen.tree.up a ≡ some (parent_n (node_of s a))) × (seen.mode a ≡ false)
  unfolding IsMade view view_f tree_f fields_of
  out_up a h e = rw (← (node_in s a (made_room a h))) (go (place (made s) a))
    where
      out : is_out (kind_n (nodes s a)) ≡ true
      out = rw (node_in s a (made_room a h)) e

      go : Place (made s) a → (up_n (nodes s a) ≡ some (parent_n (nodes s a))) × (is_in (kind_n (nodes s a)) ≡ false)
      go (is_top z) = clash out (rw z (ap (λ (p : List ℕ). is_out (kind_n p)) ok.fields.shape.top ∙ out_top))
      go (is_inner l k) =
          let o = shape_inners (fields_of s) ok.fields.shape a l k in
          (up_inner (fields_of s) (of_buffer s (sound_fit s ok)) ok.fields.shape a l k, not-true _ (sym (out_not_in _ (node_kind _ o.node)) ∙ out))
      go (is_blank b) = absurd (omega arith)

  pub in_above : (a : ℕ) → IsMade s a → is_out (kind_n (node_of s a)) ≡ false → (seen.tree.up a ≡ none) ⊎ (seen.mode a ≡ true)
  unfolding IsMade view view_f tree_f fields_of
  in_above a h e = go (place (made s) a)
    where
      not_out : is_out (kind_n (nodes s a)) ≡ false
      not_out = rw (node_in s a (made_room a h)) e

      go : Place (made s) a → (up_n (nodes s a) ≡ none) ⊎ (is_in (kind_n (nodes s a)) ≡ true)
      go (is_top z) = inl (rw z (ap up_n ok.fields.shape.top ∙ up_top))
      go (is_inner l k) = let o = shape_inners (fields_of s) ok.fields.shape a l k in inr (not-false _ (sym (out_not_in _ (node_kind _ o.node)) ∙ not_out))
      go (is_blank b) = absurd (omega arith)

  -- the parent that a node's record names
  pub parent_seen : (a p : ℕ) → seen.tree.up a ≡ some p → parent_n (node_of s a) ≡ p
  unfolding IsMade
  parent_seen a p e = let (l, h, q, m) = inner s ok a p e in ap parent_n (sym (node_in s a (made_room a h))) ∙ q

  pub parent_made : (a p : ℕ) → seen.tree.up a ≡ some p → IsMade s p
  unfolding IsMade
  parent_made a p e = (inner s ok a p e).3

  pub turns : (a p : ℕ) → seen.tree.up a ≡ some p → Turns s a
  turns a p e = let (l, h, q, m) = inner s ok a p e in sound_turns s ok a l h

-- ---- the walk's three ways; its measure is the distance that remains, `moves_to`
module _ (s : List ℕ) (ok : Whole s) (a : ℕ) (made : IsMade s a) where
  -- the target is the focus
  pub way_here : a ≡ focus s → Becomes s s (goto a (view s))
  way_here e = record { sound = ok; seen = sym (rw (e, ← (seen_focus s ok)) (goto_here (view s) (sound_view s ok))); kept = kept_self s }

  -- ---- the target is out: the walk to its parent p, then a is entered
  module _ (out : is_out (kind_n (node_of s a)) ≡ true) (p : ℕ) (named : p ≡ parent_n (node_of s a)) where
    up : (view s).tree.up a ≡ some p
    up = (out_up s ok a made out).0 ∙ ap some (sym named)

    off : on a (path (view s).tree (view s).focus) ≡ false
    off = sym ((sound_view s ok).modes a) ∙ (out_up s ok a made out).1

    out_made : IsMade s p
    out_made = parent_made s ok a p up

    out_falls : moves_to s p < moves_to s a
    out_falls = omega (arith, rw (seen_focus s ok) at (far_out (view s) (sound_view s ok) a (made_seen s ok a made) p up off))

    module _ (t : List ℕ) (walked : Becomes s t (goto p (view s))) where
      up_then : (view t).tree.up a ≡ some (focus t)
      up_then =
          ap (λ (w : store.Store). w.tree.up a) walked.seen ∙ ap (λ (w : Tree). w.up a) (goto_tree p (view s)) ∙ up
          ∙ ap some (sym (sym (seen_focus t walked.sound) ∙ ap (λ (w : store.Store). w.focus) walked.seen ∙ goto_focus p (view s)))

      out_then : (view t).mode a ≡ false
      out_then =
          ap (λ (w : store.Store). w.mode a) walked.seen
          ∙ (goto_sound p (view s) (sound_view s ok) (made_seen s ok p out_made)).modes a
          ∙ rw (goto_tree, goto_focus) (off_parent (view s).tree (sound_view s ok).proper a p up)

      out_turns : Turns t a
      out_turns = turns t walked.sound a (focus t) up_then

      way_out : (u : List ℕ) → u ≡ enter_b t a → Becomes s u (goto a (view s))
      way_out u e =
          rw e
          (becomes_then walked (enter_becomes t walked.sound a up_then out_then)
          (ap (store.enter a) walked.seen ∙ sym (goto_out (view s) (sound_view s ok) a (made_seen s ok a made) p up)))

  -- ---- the target is in or the top: the focus is left, then the walk goes on
  module _ (d : a ≢ focus s) (inside : is_out (kind_n (node_of s a)) ≡ false) where
    -- the focus has a parent, and lies on no path of a
    record Above : Type 0 where
      p : ℕ
      up : (view s).tree.up (focus s) ≡ some p
      off : on (focus s) (path (view s).tree a) ≡ false

    above_focus : Above
    above_focus = go (turn (view s) (sound_view s ok) a (made_seen s ok a made)) (in_above s ok a made inside)
      where
        go : Turn (view s) a → ((view s).tree.up a ≡ none) ⊎ ((view s).mode a ≡ true) → Above
        go (arrived e) h = absurd (d (e ∙ seen_focus s ok))
        go (outside p e m k o) (inl h) = some≢none e h
        go (outside p e m k o) (inr h) = clash h m
        go (above p e h k o) i = record { p = p; up = rw (seen_focus s ok) at e; off = rw (seen_focus s ok) at o }

    pub in_turns : Turns s (focus s)
    in_turns = turns s ok (focus s) above_focus.p above_focus.up

    module _ (t : List ℕ) (left : t ≡ leave_b s) where
      left_becomes : Becomes s t (store.leave_to above_focus.p (view s))
      left_becomes = rw left (leave_becomes s ok above_focus.p above_focus.up)

      in_sound : Whole t
      in_sound = left_becomes.sound

      in_made : IsMade t a
      in_made = seen_made t in_sound a (rw left_becomes.seen (made_seen s ok a made))

      in_falls : moves_to t a < moves_to s a
      in_falls =
          rw (← (seen_focus t in_sound), left_becomes.seen)
          (omega (arith, rw (seen_focus s ok) at (far_in (view s) (sound_view s ok) a (made_seen s ok a made) above_focus.p (rw (← (seen_focus s ok)) at above_focus.up) (rw (← (seen_focus s ok)) at above_focus.off))))

      way_in : (u : List ℕ) → Becomes t u (goto a (view t)) → Becomes s u (goto a (view s))
      way_in u walked =
          becomes_then left_becomes walked
          (ap (goto a) left_becomes.seen ∙ sym (goto_in (view s) (sound_view s ok) a (made_seen s ok a made) above_focus.p (rw (← (seen_focus s ok)) at above_focus.up)))

-- ---- the three together, as the code has them: first the focus is left, or the target is its parent; then the walk; then, where
-- that did not end at the target, the target is entered
pub data Nearer (s : List ℕ) (a : ℕ) (t : List ℕ) (to : ℕ) : Type 0 where
  outward : is_out (kind_n (node_of s a)) ≡ true → to ≡ parent_n (node_of s a) → t ≡ s → Nearer s a t to
  inward : is_out (kind_n (node_of s a)) ≡ false → to ≡ a → t ≡ leave_b s → Nearer s a t to

-- a walk ends at its target
walked_focus : (t u : List ℕ) (to : ℕ) → Becomes t u (goto to (view t)) → focus u ≡ to
walked_focus t u to w = sym (seen_focus u w.sound) ∙ ap (λ (v : store.Store). v.focus) w.seen ∙ goto_focus to (view t)

module _ (s : List ℕ) (ok : Whole s) (a : ℕ) (made : IsMade s a) (d : a ≢ focus s) (t : List ℕ) (to : ℕ) where
  pub near_sound : Nearer s a t to → Whole t
  near_sound (outward o e f) = rw f ok
  near_sound (inward i e f) = in_sound s ok a made d i t f

  pub near_made : Nearer s a t to → IsMade t to
  near_made (outward o e f) = rw f (out_made s ok a made o to e)
  near_made (inward i e f) = rw e (in_made s ok a made d i t f)

  pub near_falls : Nearer s a t to → moves_to t to < moves_to s a
  near_falls (outward o e f) = rw f (out_falls s ok a made o to e)
  near_falls (inward i e f) = rw e (in_falls s ok a made d i t f)

  module _ (u : List ℕ) (walked : Becomes t u (goto to (view t))) where
    -- at the target: it was in
    pub near_here : Nearer s a t to → focus u ≡ a → Becomes s u (goto a (view s))
    near_here (outward o e f) h =
        let loop : a ≡ parent_n (node_of s a) = sym h ∙ walked_focus t u to walked ∙ e in
        absurd (omega (arith, (sound_view s ok).proper.falls a a ((out_up s ok a made o).0 ∙ ap some (sym loop))))
    near_here (inward i e f) h = way_in s ok a made d i t f u (rw e at walked)

    -- at its parent: it was out
    pub near_turns : Nearer s a t to → focus u ≢ a → Turns u a
    near_turns (outward o e f) h = out_turns s ok a made o to e u (rw f at walked)
    near_turns (inward i e f) h = absurd (h (walked_focus t u to walked ∙ e))

    pub near_entered : Nearer s a t to → focus u ≢ a → (v : List ℕ) → v ≡ enter_b u a → Becomes s v (goto a (view s))
    near_entered (outward o e f) h = way_out s ok a made o to e u (rw f at walked)
    near_entered (inward i e f) h = absurd (h (walked_focus t u to walked ∙ e))
