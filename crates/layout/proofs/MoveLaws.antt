-- A move on bytes is the rules' move of the view: leaving the focus, and entering a child of it. The store stays sound.
-- No place of the layout stands here. Assumes nothing.
use Rattle.std.specs.Prelude.{◌≡◌, ◌≢◌, ◌⊎◌, false}
use Rattle.std.proofs.Math.Path.{refl, ap, subst, fun_ext}
use Rattle.std.proofs.Common.{sym, ◌∙◌, inl, inr, arith}
use Rattle.std.proofs.Math.Bool.{true}
use Rattle.std.proofs.Math.Option.{some}
use Prim.Native.Nat.{ℕ, ◌≤◌, ◌<◌}
use Rattle.std.proofs.Math.Decide.{ℕ_discrete}
use mathlib.Core.List.{List}
use Rattle.std.proofs.Math.ListN.{length}
use Rattle.rules.specs.Basic.{upd}
use Rattle.rules.proofs.Basic.{upd_same, upd_other, upd_id, clash, on_head, some≢none}
use Rattle.rules.specs.Tree.{blank, binding, wind, path}
use Rattle.rules.proofs.Tree.{path_up}
use Rattle.rules.specs.Values.{Cell, Values, exchange}
use Rattle.rules.specs.Store as store
use Rattle.rules.proofs.Store.{leave_sound, enter_sound}
use Rattle.layout.specs.Limits.{cell_size, node_size}
use Rattle.layout.specs.Records.{vars, room, made, focus, target, handed, with_focus, blank_cell, ProperCell, cell_of, bare_c, put_c, node_of, with_node, with_cell, kind_n, parent_n, var_n, stored_n, depth_n, turn_n, swap_n}
use Rattle.layout.specs.Kinds.{is_in, left_kind, entered_kind, Node, binding_out, binding_in, wind_out, wind_in, IsBinding, IsWind, IsNode}
use Rattle.layout.proofs.NodeKinds.{kind_binding, kind_wind, node_kind, not_both}
use Rattle.layout.specs.Fields.{Fields, cells, nodes, fields_of, Fit, vars_f, room_f, made_f, focus_f, target_f, handed_f}
use Rattle.layout.specs.View.{as_cell, what_n, up_n, tree_f, view_f, view}
use Rattle.layout.specs.Sound.{NodeOk, depth_above, HeadOk, Shape, Whole}
use Rattle.layout.specs.Writes.{swap_b, turn_b, move_b, leave_b, enter_b, Turns}
use Rattle.layout.specs.Becomes.{Becomes}
use Rattle.layout.proofs.Laws.{OfBuffer, of_buffer, node_in, cell_in, Wrote, node_f, cell_f, focus_to, fields_number, fields_vars, fields_room, wrote_node, wrote_cell, wrote_focus, wrote_fit, then}
use Rattle.layout.proofs.RecordLaws.{put_length, turn_length, swap_length, bare_length, stored_length, bare_put, SameNode, turn_kind, turn_same, turn_stored, swap_kind, swap_same, swap_stored}
use Rattle.layout.proofs.SoundLaws.{what_binding, what_wind, up_node, inner_up, sound_fit, sound_view, shape_inners, parents_made, shape_blanks, shape_by_numbers}

-- ---- functions through a change at one place
module _ {B : Type 0} (h : List ℕ → B) (g : ℕ → List ℕ) (n : ℕ) (p : List ℕ) where
  pub through : ◌≡◌ {A = ℕ → B} (λ m. h (upd g n p m)) (upd (λ m. h (g m)) n (h p))
  through = fun_ext λ m. go m (ℕ_discrete m n)
    where
      go : (m : ℕ) → Dec (m ≡ n) → h (upd g n p m) ≡ upd (λ (m : ℕ). h (g m)) n (h p) m
      go m (yes e) = rw (e, upd_same, upd_same)
      go m (no e) = ap h (upd_other g n m p e) ∙ sym (upd_other (λ (m : ℕ). h (g m)) n m (h p) e)

  pub unseen : h p ≡ h (g n) → ◌≡◌ {A = ℕ → B} (λ m. h (upd g n p m)) (λ m. h (g m))
  unseen e = through ∙ upd_id (λ (m : ℕ). h (g m)) n (h p) (sym e)

-- ---- two kinds of one node: both a binding's, or both a wind's
abbrev pub Alike : ℕ → ℕ → Type 0
Alike k l = (IsBinding k × IsBinding l) ⊎ (IsWind k × IsWind l)

alike_node : {k l : ℕ} → Alike k l → IsNode k
alike_node (inl (a, b)) = inl a
alike_node (inr (a, b)) = inr a

alike_binding : {k l : ℕ} → Alike k l → IsBinding k → IsBinding l
alike_binding (inl (a, b)) z = b
alike_binding (inr (a, b)) z = absurd (not_both z a)

same_what : (p q : List ℕ) → SameNode p q → Alike (kind_n p) (kind_n q) → what_n p ≡ what_n q
same_what p q s (inl (a, b)) = what_binding p a ∙ ap binding s.var ∙ sym (what_binding q b)
same_what p q s (inr (a, b)) = what_wind p a ∙ (λ i. wind (s.var i) (s.post i)) ∙ sym (what_wind q b)

same_up : (p q : List ℕ) → SameNode p q → Alike (kind_n p) (kind_n q) → up_n p ≡ up_n q
same_up p q s (inl (a, b)) = up_node p (inl a) ∙ ap some s.parent ∙ sym (up_node q (inl b))
same_up p q s (inr (a, b)) = up_node p (inr a) ∙ ap some s.parent ∙ sym (up_node q (inr b))

-- ---- a turn of the node n, on fields
abbrev swap_f : Fields → ℕ → ℕ → Fields
swap_f f n k = cell_f (var_n (f.node n)) (put_c (f.cell (var_n (f.node n))) (stored_n (f.node n))) (node_f n (swap_n (f.node n) k (bare_c (f.cell (var_n (f.node n))))) f)

abbrev wind_f : Fields → ℕ → ℕ → Fields
wind_f f n k = node_f n (turn_n (f.node n) k) f

-- what a turn to the kind k with the new focus g leaves, seen as a store
abbrev turned : Fields → ℕ → ℕ → ℕ → store.Store
turned f n k g = record {
  tree = (view_f f).tree;
  focus = g;
  values = exchange (what_n (f.node n)) n (view_f f).values;
  mode = upd (view_f f).mode n (is_in k);
}

module _ (f : Fields) (buffer : OfBuffer f) (n k g : ℕ) where
  abbrev x : ℕ
  x = var_n (f.node n)

  abbrev was : List ℕ
  was = f.node n

  -- what is seen with a node p in place of n that is of kind k and else as it was, and with these cells and values
  turned_seen : (p : List ℕ) (cs : ℕ → List ℕ) (v : Values) → SameNode p was → Alike (kind_n p) (kind_n was) → kind_n p ≡ k
      → ◌≡◌ {A = ℕ → Cell} (λ y. as_cell (bare_c (cs y))) v.cell → ◌≡◌ {A = ℕ → Cell} (λ m. as_cell (stored_n (upd f.node n p m))) v.stored
      → view_f (focus_to g (record { head = f.head; cell = cs; node = upd f.node n p })) ≡ record { tree = (view_f f).tree; focus = g; values = v; mode = upd (view_f f).mode n (is_in k) }
  unfolding view_f tree_f
  turned_seen p cs v same alike kind cell stored = λ i. record {
    tree = record { what = unseen what_n f.node n p (same_what p was same alike) i; up = unseen up_n f.node n p (same_up p was same alike) i; rank = unseen depth_n f.node n p same.depth i };
    focus = g;
    values = record { cell = cell i; stored = stored i };
    mode = (through (λ (q : List ℕ). is_in (kind_n q)) f.node n p ∙ ap (λ (l : ℕ). upd (λ (m : ℕ). is_in (kind_n (f.node m))) n (is_in l)) kind) i;
  }

  swapped_seen : IsBinding (kind_n was) → IsBinding k → view_f (focus_to g (swap_f f n k)) ≡ turned f n k g
  unfolding view_f tree_f
  swapped_seen a b =
      let long : length was ≡ node_size = buffer.node_long n in
      let p : List ℕ = swap_n was k (bare_c (f.cell x)) in
      let kind : kind_n p ≡ k = swap_kind k (bare_c (f.cell x)) was long in
      let stored : stored_n p ≡ bare_c (f.cell x) = swap_stored k was (bare_c (f.cell x)) long (bare_length (f.cell x)) in
      let bare : bare_c (put_c (f.cell x) (stored_n was)) ≡ stored_n was = bare_put (f.cell x) (stored_n was) (buffer.cell_long x) (stored_length was) in
      rw (what_binding was a)
      (turned_seen p (upd f.cell x (put_c (f.cell x) (stored_n was))) (exchange (binding x) n (view_f f).values) (swap_same k (bare_c (f.cell x)) was long) (inl (rw kind b, a)) kind
      (through (λ (q : List ℕ). as_cell (bare_c q)) f.cell x (put_c (f.cell x) (stored_n was)) ∙ ap (λ (c : List ℕ). upd (λ (y : ℕ). as_cell (bare_c (f.cell y))) x (as_cell c)) bare)
      (through (λ (q : List ℕ). as_cell (stored_n q)) f.node n p ∙ ap (λ (c : List ℕ). upd (λ (m : ℕ). as_cell (stored_n (f.node m))) n (as_cell c)) stored))

  wound_seen : IsWind (kind_n was) → IsWind k → view_f (focus_to g (wind_f f n k)) ≡ turned f n k g
  unfolding view_f tree_f
  wound_seen a b =
      let long : length was ≡ node_size = buffer.node_long n in
      let p : List ℕ = turn_n was k in
      let kind : kind_n p ≡ k = turn_kind k was long in
      rw (what_wind was a)
      (turned_seen p f.cell (view_f f).values (turn_same k was long) (inr (rw kind b, a)) kind refl
      (unseen (λ (q : List ℕ). as_cell (stored_n q)) f.node n p (ap as_cell (turn_stored k was long))))

  -- ---- the shape is kept
  module _ (ok : Shape f) (inner : 1 ≤ n) (below : n < made_f f) (goal : g < made_f f) where
    head_kept : HeadOk (vars_f f) (room_f f) (made_f f) (focus_f f) → HeadOk (vars_f f) (room_f f) (made_f f) g
    head_kept h = record {
      vars_low = h.vars_low;
      vars_high = h.vars_high;
      room_low = h.room_low;
      room_high = h.room_high;
      made_low = h.made_low;
      made_high = h.made_high;
      focus_made = goal;
    }

    -- a node p in place of n, as good as it was
    nodes_kept : (p : List ℕ) → depth_n p ≡ depth_n was → NodeOk (vars_f f) n (depth_n (f.node (parent_n p))) p
        → (m : ℕ) → 1 ≤ m → m < made_f f → NodeOk (vars_f f) m (depth_above (node_f n p f) m) (upd f.node n p m)
    nodes_kept p deep h m a b = subst (λ (d : ℕ). NodeOk (vars_f f) m d (upd f.node n p m)) (sym (depths _)) (go (ℕ_discrete m n))
      where
        depths : (k : ℕ) → depth_n (upd f.node n p k) ≡ depth_n (f.node k)
        depths k = ap (λ (g : ℕ → ℕ). g k) (unseen depth_n f.node n p deep)

        go : Dec (m ≡ n) → NodeOk (vars_f f) m (depth_n (f.node (parent_n (upd f.node n p m)))) (upd f.node n p m)
        go (yes e) = rw (e, upd_same) h
        go (no e) = rw (upd_other f.node n m p e) (shape_inners f ok m a b)

    cells_kept : (y : ℕ) (c : List ℕ) → ProperCell (bare_c c) → (z : ℕ) → z < vars_f f → ProperCell (bare_c (upd f.cell y c z))
    cells_kept y c h z l = go (ℕ_discrete z y)
      where
        go : Dec (z ≡ y) → ProperCell (bare_c (upd f.cell y c z))
        go (yes e) = rw (e, upd_same) h
        go (no e) = rw (upd_other f.cell y z c e) (ok.cells z l)

    -- with a node p in place of n that is else as it was, and with these cells
    turned_shape : (p : List ℕ) (cs : ℕ → List ℕ) → SameNode p was → Alike (kind_n p) (kind_n was) → (IsBinding (kind_n p) → ProperCell (stored_n p)) → (IsWind (kind_n p) → stored_n p ≡ blank_cell)
        → ((y : ℕ) → y < vars_f f → ProperCell (bare_c (cs y))) → Shape (focus_to g (record { head = f.head; cell = cs; node = upd f.node n p }))
    turned_shape p cs same alike stored still proper =
        let o = shape_inners f ok n inner below in
        shape_by_numbers (focus_to g (record { head = f.head; cell = cs; node = upd f.node n p })) (head_kept ok.head) proper
        (upd_other f.node n 0 p (λ e. omega arith) ∙ ok.top)
        (nodes_kept p same.depth record {
          node = alike_node alike;
          parent = omega (arith, same.parent, o.parent);
          depth = same.depth ∙ rw (← same.parent) at o.depth;
          var = λ z. omega (arith, same.var, o.var (alike_binding alike z));
          zero = λ z. same.post ∙ o.zero (alike_binding alike z);
          stored = stored;
          still = still;
        })
        (λ m l h. upd_other f.node n m p (λ e. omega arith) ∙ shape_blanks f ok m l h)

    swapped_shape : IsBinding (kind_n was) → IsBinding k → Shape (focus_to g (swap_f f n k))
    swapped_shape a b =
        let long : length was ≡ node_size = buffer.node_long n in
        let p : List ℕ = swap_n was k (bare_c (f.cell x)) in
        let kind : kind_n p ≡ k = swap_kind k (bare_c (f.cell x)) was long in
        let stored : stored_n p ≡ bare_c (f.cell x) = swap_stored k was (bare_c (f.cell x)) long (bare_length (f.cell x)) in
        let bare : bare_c (put_c (f.cell x) (stored_n was)) ≡ stored_n was = bare_put (f.cell x) (stored_n was) (buffer.cell_long x) (stored_length was) in
        let o = shape_inners f ok n inner below in
        turned_shape p (upd f.cell x (put_c (f.cell x) (stored_n was))) (swap_same k (bare_c (f.cell x)) was long) (inl (rw kind b, a))
        (λ z. rw stored (ok.cells x (o.var a))) (λ z. absurd (not_both b (rw kind at z)))
        (cells_kept x (put_c (f.cell x) (stored_n was)) (rw bare (o.stored a)))

    wound_shape : IsWind (kind_n was) → IsWind k → Shape (focus_to g (wind_f f n k))
    wound_shape a b =
        let long : length was ≡ node_size = buffer.node_long n in
        let p : List ℕ = turn_n was k in
        let kind : kind_n p ≡ k = turn_kind k was long in
        turned_shape p f.cell (turn_same k was long) (inr (rw kind b, a))
        (λ z. absurd (not_both (rw kind at z) b)) (λ z. turn_stored k was long ∙ (shape_inners f ok n inner below).still a) ok.cells

-- ---- a turn, on bytes
pub wrote_swap : (s : List ℕ) (n k : ℕ) → Fit s → n < room s → var_n (nodes s n) < vars s → Wrote s (swap_b s n k) (swap_f (fields_of s) n k)
unfolding swap_b fields_of
wrote_swap s n k fit below known =
    let e : nodes s n ≡ node_of s n = node_in s n below in
    let x : ℕ = var_n (nodes s n) in
    let p : List ℕ = swap_n (nodes s n) k (bare_c (cells s x)) in
    let t : List ℕ = with_node s n p in
    let long : length p ≡ node_size = swap_length (nodes s n) k (bare_c (cells s x)) ∙ (of_buffer s fit).node_long n in
    let w : Wrote s t (node_f n p (fields_of s)) = wrote_node s n p fit below long in
    let fit' : Fit t = wrote_fit w refl refl fit in
    let numbers = fields_vars t w.fields in
    let known' : x < vars t = omega arith in
    let same : cell_of t x ≡ cells s x = sym (cell_in t x known') ∙ ap (λ (f : Fields). f.cell x) w.fields in
    let c : List ℕ = put_c (cells s x) (stored_n (nodes s n)) in
    let long' : length c ≡ cell_size = put_length (cells s x) (stored_n (nodes s n)) ∙ (of_buffer s fit).cell_long x in
    let all : Wrote s (with_cell t x c) (cell_f x c (node_f n p (fields_of s))) =
    subst (λ (g : Fields). Wrote s (with_cell t x c) (cell_f x c g)) w.fields (then w (wrote_cell t x c fit' known' long')) in
    rw (← e, ← (cell_in s x known), same) all

pub wrote_wind : (s : List ℕ) (n k : ℕ) → Fit s → n < room s → Wrote s (with_node s n (turn_n (node_of s n) k)) (wind_f (fields_of s) n k)
unfolding fields_of
wrote_wind s n k fit below =
    rw (← (node_in s n below))
    (wrote_node s n (turn_n (nodes s n) k) fit below (turn_length (nodes s n) k ∙ (of_buffer s fit).node_long n))

-- ---- from fields that were written to the store that they are seen as
pub becomes : {s t : List ℕ} {f : Fields} (w : store.Store) → Whole s → Wrote s t f → vars_f f ≡ vars s → room_f f ≡ room s → target_f f ≡ target s → handed_f f ≡ handed s → Shape f
    → view_f f ≡ w → store.Sound w → Becomes s t w
unfolding view view_f
becomes {s} {t} {f} w ok wrote v r a c shape seen sound =
    let fit : Fit t = wrote_fit wrote v r (sound_fit s ok) in
    let ins : store.Sound (view_f f) = rw seen sound in
    record {
      sound = record { long = fit.long; fields = rw wrote.fields (record { shape = shape; ins = ins.modes }) };
      seen = ap view_f wrote.fields ∙ seen;
      kept = record {
        size = record { vars = fields_vars t wrote.fields ∙ v; room = fields_room t wrote.fields ∙ r; long = wrote.long; past = wrote.rest };
        target = fields_number t wrote.fields 4 ∙ a;
        handed = fields_number t wrote.fields 5 ∙ c;
      };
    }

module _ (s : List ℕ) (ok : Whole s) (n : ℕ) (inner : 1 ≤ n) (below : n < made s) where
  shape : Shape (fields_of s)
  shape = ok.fields.shape

  node_ok : NodeOk (vars s) n (depth_above (fields_of s) n) (nodes s n)
  unfolding fields_of
  node_ok = shape_inners (fields_of s) shape n inner below

  in_room : n < room s
  unfolding fields_of
  in_room = omega (arith, shape.head.made_high)

  -- the node n can be turned
  pub sound_turns : Turns s n
  sound_turns =
      let o = rw (node_in s n in_room) at node_ok in
      record { fit = sound_fit s ok; below = in_room; node = o.node; var = o.var }

  -- a turn to a kind alike, with a made focus, is the exchange of the rules
  turn_becomes : (k g : ℕ) → Alike (kind_n (nodes s n)) k → g < made s → store.Sound (turned (fields_of s) n k g) → Becomes s (move_b s n k g) (turned (fields_of s) n k g)
  unfolding move_b turn_b fields_of
  turn_becomes k g (inl (a, b)) goal sound =
      let fit : Fit s = sound_fit s ok in
      let w : Wrote s (swap_b s n k) (swap_f (fields_of s) n k) = wrote_swap s n k fit in_room (node_ok.var a) in
      let fit' : Fit (swap_b s n k) = wrote_fit w refl refl fit in
      let all : Wrote s (move_b s n k g) (focus_to g (swap_f (fields_of s) n k)) =
      rw (kind_binding (kind_n (node_of s n)) _ _ _ _ (rw (node_in s n in_room) at a))
      (subst (λ (f : Fields). Wrote s (with_focus (swap_b s n k) g) (focus_to g f)) w.fields (then w (wrote_focus (swap_b s n k) g fit'))) in
      becomes (turned (fields_of s) n k g) ok all refl refl refl refl
      (swapped_shape (fields_of s) (of_buffer s fit) n k g shape inner below goal a b)
      (swapped_seen (fields_of s) (of_buffer s fit) n k g a b) sound
  turn_becomes k g (inr (a, b)) goal sound =
      let fit : Fit s = sound_fit s ok in
      let w : Wrote s (with_node s n (turn_n (node_of s n) k)) (wind_f (fields_of s) n k) = wrote_wind s n k fit in_room in
      let fit' : Fit (with_node s n (turn_n (node_of s n) k)) = wrote_fit w refl refl fit in
      let all : Wrote s (move_b s n k g) (focus_to g (wind_f (fields_of s) n k)) =
      rw (kind_wind (kind_n (node_of s n)) _ _ _ _ (rw (node_in s n in_room) at a))
      (subst (λ (f : Fields). Wrote s (with_focus (with_node s n (turn_n (node_of s n) k)) g) (focus_to g f)) w.fields (then w (wrote_focus (with_node s n (turn_n (node_of s n) k)) g fit'))) in
      becomes (turned (fields_of s) n k g) ok all refl refl refl refl
      (wound_shape (fields_of s) (of_buffer s fit) n k g shape inner below goal a b)
      (wound_seen (fields_of s) (of_buffer s fit) n k g a b) sound

-- ---- in and out
in_left : (k : ℕ) → Node k → is_in k ≡ true → Alike k (left_kind k) × (is_in (left_kind k) ≡ false)
unfolding is_in
in_left _ binding_out h = clash h refl
in_left _ binding_in h = (inl (omega arith, omega arith), refl)
in_left _ wind_out h = clash h refl
in_left _ wind_in h = (inr (omega arith, omega arith), refl)

out_entered : (k : ℕ) → Node k → is_in k ≡ false → Alike k (entered_kind k) × (is_in (entered_kind k) ≡ true)
unfolding is_in
out_entered _ binding_out h = (inl (omega arith, omega arith), refl)
out_entered _ binding_in h = clash refl h
out_entered _ wind_out h = (inr (omega arith, omega arith), refl)
out_entered _ wind_in h = clash refl h

-- ---- the two moves
module _ (s : List ℕ) (ok : Whole s) where
  abbrev seen : store.Store
  seen = view s

  -- a node with a parent is an inner one, and its parent is made
  pub inner : (n p : ℕ) → seen.tree.up n ≡ some p → (1 ≤ n) × (n < made s) × (parent_n (nodes s n) ≡ p) × (p < made s)
  unfolding view view_f tree_f fields_of
  inner n p e =
      let (l, h, q) = inner_up (fields_of s) (of_buffer s (sound_fit s ok)) ok.fields.shape n p e in
      (l, h, q, omega (arith, parents_made (fields_of s) ok.fields.shape n l h))

  kind_of : (n : ℕ) → 1 ≤ n → n < made s → Node (kind_n (nodes s n))
  kind_of n l h = node_kind (kind_n (nodes s n)) (node_ok s ok n l h).node

  pub leave_becomes : (p : ℕ) → seen.tree.up (focus s) ≡ some p → Becomes s (leave_b s) (store.leave_to p seen)
  unfolding view view_f fields_of tree_f
  leave_becomes p e =
      let f : ℕ = focus s in
      let (l, h, q, m) = inner f p e in
      let on_path : is_in (kind_n (nodes s f)) ≡ true = (sound_view s ok).modes f ∙ rw (path_up seen.tree (sound_view s ok).proper f p e) (on_head f (path seen.tree p)) in
      let (alike, out) = in_left (kind_n (nodes s f)) (kind_of f l h) on_path in
      let same : nodes s f ≡ node_of s f = node_in s f (in_room s ok f l h) in
      let sound : store.Sound (turned (fields_of s) f (left_kind (kind_n (nodes s f))) p) = rw out (leave_sound seen (sound_view s ok) p e) in
      let r = turn_becomes s ok f l h (left_kind (kind_n (nodes s f))) p alike m sound in
      let bytes : move_b s f (left_kind (kind_n (nodes s f))) p ≡ leave_b s =
      ap (λ (w : List ℕ). move_b s f (left_kind (kind_n w)) p) same
      ∙ ap (move_b s f (left_kind (kind_n (node_of s f)))) (sym q ∙ ap parent_n same) in
      subst (λ (t : List ℕ). Becomes s t (store.leave_to p seen)) bytes (rw out at r)

  pub enter_becomes : (c : ℕ) → seen.tree.up c ≡ some (focus s) → seen.mode c ≡ false → Becomes s (enter_b s c) (store.enter c seen)
  unfolding view view_f fields_of tree_f
  enter_becomes c e out =
      let (l, h, q, m) = inner c (focus s) e in
      let (alike, entered) = out_entered (kind_n (nodes s c)) (kind_of c l h) out in
      let same : nodes s c ≡ node_of s c = node_in s c (in_room s ok c l h) in
      let made : seen.tree.what c ≢ blank = λ z. some≢none e ((sound_view s ok).proper.blank_up c z) in
      let sound : store.Sound (turned (fields_of s) c (entered_kind (kind_n (nodes s c))) c) = rw entered (enter_sound seen (sound_view s ok) c e made) in
      let r = turn_becomes s ok c l h (entered_kind (kind_n (nodes s c))) c alike h sound in
      let bytes : move_b s c (entered_kind (kind_n (nodes s c))) c ≡ enter_b s c = ap (λ (w : List ℕ). move_b s c (entered_kind (kind_n w)) c) same in
      subst (λ (t : List ℕ). Becomes s t (store.enter c seen)) bytes (rw entered at r)
