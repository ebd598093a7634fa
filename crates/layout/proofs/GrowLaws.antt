-- Set, bind and wind on bytes are the rules' set and make of the view, and the store stays sound.
-- No place of the layout stands here. Assumes nothing.
use Rattle.std.specs.Prelude.{◌≡◌, ◌≢◌, ℤ}
use Rattle.std.proofs.Math.Path.{refl, ap, subst}
use Rattle.std.proofs.Common.{sym, ◌∙◌, SFits}
use Rattle.std.proofs.Math.Logic.{inl, inr}
use Rattle.std.proofs.Math.Bool.{true}
use Rattle.std.proofs.Math.Option.{some}
use Prim.Native.Nat.{ℕ, suc, ◌+◌, ◌≤◌, ◌<◌}
use native.Mathlib.Omega.{arith}
use Rattle.std.proofs.Math.Decide.{ℕ_discrete}
use mathlib.Core.List.{List}
use Rattle.std.proofs.Math.ListN.{length}
use Rattle.std.specs.Int.{w32}
use Rattle.rules.specs.Basic.{upd}
use Rattle.rules.proofs.Basic.{upd_same, upd_other}
use Rattle.rules.specs.Tree.{What, blank, binding, wind}
use Rattle.rules.specs.Values.{Cell, unbound, value, Values}
use Rattle.rules.specs.Store as store
use Rattle.rules.specs.Grow.{grow, Growable}
use Rattle.rules.specs.Calls.{set_cell, make}
use Rattle.rules.proofs.Calls.{set_sound, make_binding, make_sound}
use Rattle.layout.specs.Limits.{node_size}
use Rattle.layout.specs.Records.{vars, room, made, focus, with_focus, with_made, blank_cell, ProperCell, value_c, bare_c, put_c, node_of, with_node, kind_n, parent_n, var_n, stored_n, depth_n, node_b}
use Rattle.layout.specs.Kinds.{is_in, IsBinding, IsWind}
use Rattle.layout.proofs.NodeKinds.{not_both}
use Rattle.layout.specs.Fields.{Fields, cells, nodes, fields_of, Fit}
use Rattle.layout.specs.View.{as_cell, what_n, up_n, tree_f, view_f, view}
use Rattle.layout.specs.Sound.{NodeOk, depth_above, Shape, Whole}
use Rattle.layout.specs.Writes.{depth_under, set_b, grow_b, bind_b, wind_b}
use Rattle.layout.specs.Made.{next_of, IsFull}
use Rattle.layout.specs.Becomes.{Becomes}
use Rattle.layout.proofs.Laws.{of_buffer, node_in, cell_in, Wrote, node_f, cell_f, made_to, focus_to, fields_vars, wrote_node, wrote_cell, wrote_made, wrote_focus, wrote_fit, then}
use Rattle.layout.proofs.RecordLaws.{put_length, bare_length, value_length, node_length, bare_put, node_kind, node_parent, node_var, node_post, node_stored, node_depth, as_blank, as_value}
use Rattle.layout.proofs.SoundLaws.{what_binding, what_wind, what_blank, up_node, blank_node_lem, not_blank_lem, depth_few, sound_fit, sound_view, shape_inners, parents_made, shape_blanks, shape_by_numbers}
use Rattle.layout.proofs.MoveLaws.{through, becomes}

-- ---- the depth of a child of the focus, as the code finds it; it fits in two bytes
pub under_is : (s : List ℕ) → Whole s → (f d : ℕ) → f ≡ focus s → d ≡ depth_n (node_of s f) → d + 1 ≡ depth_under s
unfolding depth_under fields_of
under_is s ok f d e h =
    let same = node_in s (focus s) (omega (arith, ok.fields.shape.head.focus_made, ok.fields.shape.head.made_high)) in
    omega (arith, ap depth_n same, ap (λ (n : ℕ). depth_n (node_of s n)) e)

pub under_small : (s : List ℕ) → Whole s → depth_under s < 65536
unfolding depth_under fields_of
under_small s ok =
    let few = depth_few (fields_of s) (of_buffer s (sound_fit s ok)) ok.fields.shape (focus s) in
    omega (arith, few, ok.fields.shape.head)

-- ---- the cell of x takes the value v
module _ (s : List ℕ) (fit : Fit s) (x : ℕ) (known : x < vars s) (v : ℤ) where
  abbrev taken : List ℕ
  taken = put_c (cells s x) (value_c v)

  taken_bare : bare_c taken ≡ value_c v
  unfolding fields_of
  taken_bare = bare_put (cells s x) (value_c v) ((of_buffer s fit).cell_long x) (value_length v)

  wrote_set : Wrote s (set_b s x v) (cell_f x taken (fields_of s))
  unfolding set_b fields_of
  wrote_set =
      rw (← (cell_in s x known))
      (wrote_cell s x taken fit known (put_length (cells s x) (value_c v) ∙ (of_buffer s fit).cell_long x))

proper_value : (v : ℤ) → ProperCell (value_c v)
unfolding value_c
proper_value v = inr refl

-- cells with a value in place of one are proper, and are seen so
put_proper : (g : ℕ → List ℕ) (n x : ℕ) (c : List ℕ) → ((y : ℕ) → y < n → ProperCell (bare_c (g y))) → ProperCell (bare_c c)
    → (y : ℕ) → y < n → ProperCell (bare_c (upd g x c y))
put_proper g n x c h p y l = go (ℕ_discrete y x)
  where
    go : Dec (y ≡ x) → ProperCell (bare_c (upd g x c y))
    go (yes e) = rw (e, upd_same) p
    go (no e) = rw (upd_other g x y c e) (h y l)

module _ (s : List ℕ) (ok : Whole s) (x : ℕ) (known : x < vars s) (v : ℤ) (fits : SFits w32 v) where
  cells_seen : ◌≡◌ {A = ℕ → Cell} (λ y. as_cell (bare_c (upd (cells s) x (taken s (sound_fit s ok) x known v) y))) (upd (λ y. as_cell (bare_c (cells s y))) x (value v))
  cells_seen =
      through (λ (q : List ℕ). as_cell (bare_c q)) (cells s) x (taken s (sound_fit s ok) x known v)
      ∙ ap (λ (c : Cell). upd (λ y. as_cell (bare_c (cells s y))) x c) (ap as_cell (taken_bare s (sound_fit s ok) x known v) ∙ as_value v fits)

  pub set_becomes : Becomes s (set_b s x v) (set_cell x (value v) (view s))
  unfolding view view_f fields_of
  set_becomes =
      let sh : Shape (fields_of s) = ok.fields.shape in
      becomes (set_cell x (value v) (view s)) ok (wrote_set s (sound_fit s ok) x known v) refl refl refl refl
      (record {
        head = sh.head;
        cells = put_proper (cells s) (vars s) x _ sh.cells (rw (taken_bare s (sound_fit s ok) x known v) (proper_value v));
        top = sh.top;
        nodes = sh.nodes;
        no_gap = sh.no_gap;
      })
      (λ i. record {
        tree = tree_f (nodes s);
        focus = focus s;
        values = record { cell = cells_seen i; stored = λ n. as_cell (stored_n (nodes s n)) };
        mode = λ n. is_in (kind_n (nodes s n));
      })
      (set_sound x (value v) (view s) (sound_view s ok))

-- ---- a new node p, number = made
module _ (s : List ℕ) (ok : Whole s) (space : made s < room s) (p : List ℕ) (long : length p ≡ node_size) where
  abbrev m : ℕ
  m = made s

  -- with the cells c
  abbrev grown_with : (ℕ → List ℕ) → Fields
  grown_with c = record { head = (focus_to m (made_to (m + 1) (fields_of s))).head; cell = c; node = upd (nodes s) m p }

  wrote_grow : Wrote s (grow_b s p) (grown_with (cells s))
  unfolding grow_b fields_of
  wrote_grow =
      let fit : Fit s = sound_fit s ok in
      let t : List ℕ = with_node s m p in
      let a : Wrote s t (node_f m p (fields_of s)) = wrote_node s m p fit space long in
      let fit₁ : Fit t = wrote_fit a refl refl fit in
      let b : Wrote s (with_made t (m + 1)) (made_to (m + 1) (node_f m p (fields_of s))) =
      subst (λ (f : Fields). Wrote s (with_made t (m + 1)) (made_to (m + 1) f)) a.fields (then a (wrote_made t (m + 1) fit₁)) in
      let fit₂ : Fit (with_made t (m + 1)) = wrote_fit b refl refl fit in
      subst (λ (f : Fields). Wrote s (with_focus (with_made t (m + 1)) m) (focus_to m f)) b.fields (then b (wrote_focus (with_made t (m + 1)) m fit₂))

  grown_shape : parent_n p < m → NodeOk (vars s) m (depth_n (nodes s (parent_n p))) p → (c : ℕ → List ℕ) → ((y : ℕ) → y < vars s → ProperCell (bare_c (c y))) → Shape (grown_with c)
  unfolding fields_of
  grown_shape below good c proper =
      let sh : Shape (fields_of s) = ok.fields.shape in
      shape_by_numbers (grown_with c)
      (record {
        vars_low = sh.head.vars_low;
        vars_high = sh.head.vars_high;
        room_low = sh.head.room_low;
        room_high = sh.head.room_high;
        made_low = omega arith;
        made_high = omega arith;
        focus_made = omega arith;
      })
      proper
      (upd_other (nodes s) m 0 p (λ e. omega (arith, sh.head.made_low)) ∙ sh.top)
      (λ n l h. node n l h (ℕ_discrete n m))
      (λ n l h. upd_other (nodes s) m n p (λ e. omega arith) ∙ shape_blanks (fields_of s) sh n (omega arith) h)
    where
      -- a made node is as it was
      old : (n : ℕ) → n < m → upd (nodes s) m p n ≡ nodes s n
      old n h = upd_other (nodes s) m n p (λ e. omega arith)

      node : (n : ℕ) → 1 ≤ n → n < m + 1 → Dec (n ≡ m) → NodeOk (vars s) n (depth_above (grown_with c) n) (upd (nodes s) m p n)
      node n l h (yes e) = rw (e, upd_same, old (parent_n p) below) good
      node n l h (no e) = rw (old n (omega arith), old (parent_n (nodes s n)) (parents_made (fields_of s) ok.fields.shape n l (omega arith)))
          (shape_inners (fields_of s) ok.fields.shape n l (omega arith))

  -- the tree has one node more, in
  grown_seen : (c : ℕ → List ℕ) (w : What) → what_n p ≡ w → up_n p ≡ some (focus s) → depth_n p ≡ depth_under s → is_in (kind_n p) ≡ true
      → view_f (grown_with c) ≡ record {
        tree = grow m (focus s) w (depth_under s) (view s).tree;
        focus = m;
        values = record { cell = λ y. as_cell (bare_c (c y)); stored = upd (view s).values.stored m (as_cell (stored_n p)) };
        mode = upd (view s).mode m true;
      }
  unfolding view view_f tree_f fields_of
  grown_seen c w what up depth inside = λ i. record {
    tree = record {
      what = (through what_n (nodes s) m p ∙ ap (upd (λ n. what_n (nodes s n)) m) what) i;
      up = (through up_n (nodes s) m p ∙ ap (upd (λ n. up_n (nodes s n)) m) up) i;
      rank = (through depth_n (nodes s) m p ∙ ap (upd (λ n. depth_n (nodes s n)) m) depth) i;
    };
    focus = m;
    values = record { cell = λ y. as_cell (bare_c (c y)); stored = through (λ (q : List ℕ). as_cell (stored_n q)) (nodes s) m p i };
    mode = (through (λ (q : List ℕ). is_in (kind_n q)) (nodes s) m p ∙ ap (upd (λ n. is_in (kind_n (nodes s n))) m) inside) i;
  }

pub is_binding : {w : What} (n : ℕ) → w ≡ binding n → w ≢ blank
is_binding n e z = let y : ◌≡◌ {A = ℕ} 0 1 = cc in omega arith

pub is_wind_lem : {w : What} (p q : ℕ) → w ≡ wind p q → w ≢ blank
is_wind_lem p q e z = let y : ◌≡◌ {A = ℕ} 0 1 = cc in omega arith

-- not full: there is a number left
pub space_left : (s : List ℕ) → Whole s → (IsFull s → ⊥) → made s < room s
unfolding IsFull fields_of
space_left s ok h = go (ℕ_discrete (made s) (room s))
  where
    go : Dec (made s ≡ room s) → made s < room s
    go (yes e) = absurd (h e)
    go (no e) = omega (arith, ok.fields.shape.head.made_high)

module _ (s : List ℕ) (ok : Whole s) (space : IsFull s → ⊥) where
  -- the grown bytes have the same size
  pub grown_fit : (p : List ℕ) → length p ≡ node_size → Fit (grow_b s p)
  unfolding fields_of
  grown_fit p long = wrote_fit (wrote_grow s ok (space_left s ok space) p long) refl refl (sound_fit s ok)

  pub grown_vars : (p : List ℕ) → length p ≡ node_size → vars (grow_b s p) ≡ vars s
  unfolding fields_of
  grown_vars p long = fields_vars (grow_b s p) (wrote_grow s ok (space_left s ok space) p long).fields

  -- the next number may become a child of the focus
  pub can_grow : (w : What) → w ≢ blank → Growable (view s).tree (next_of s) (focus s) w (depth_under s)
  unfolding view view_f tree_f fields_of next_of depth_under
  can_grow w is = record {
    proper = (sound_view s ok).proper;
    fresh = ap what_n (blank_node_lem (fields_of s) (of_buffer s (sound_fit s ok)) ok.fields.shape (made s) (omega arith)) ∙ what_blank;
    made = not_blank_lem (fields_of s) (of_buffer s (sound_fit s ok)) ok.fields.shape (focus s) ok.fields.shape.head.focus_made;
    is = is;
    higher = omega arith;
  }

  -- ---- a wind
  pub wind_becomes : (a b : ℕ) → Becomes s (wind_b s a b) (make (next_of s) (wind a b) unbound (depth_under s) (view s))
  unfolding wind_b next_of fields_of is_in view view_f depth_under
  wind_becomes a b =
      let p : List ℕ = node_b 5 (focus s) a b blank_cell (depth_under s) in
      let room_left = space_left s ok space in
      let long : length p ≡ node_size = node_length 5 (focus s) a b blank_cell (depth_under s) in
      let kind : kind_n p ≡ 5 = node_kind 5 (focus s) a b blank_cell (depth_under s) in
      let up : parent_n p ≡ focus s = node_parent 5 (focus s) a b blank_cell (depth_under s) in
      let below : parent_n p < made s = omega (arith, ok.fields.shape.head.focus_made) in
      let depth : depth_n p ≡ depth_under s = node_depth 5 (focus s) a b blank_cell (depth_under s) in
      let stored : stored_n p ≡ blank_cell = node_stored 5 (focus s) a b blank_cell (depth_under s) refl in
      let is : IsWind (kind_n p) = omega arith in
      let what : what_n p ≡ wind a b = what_wind p is ∙ (λ i. wind (node_var 5 (focus s) a b blank_cell (depth_under s) i) (node_post 5 (focus s) a b blank_cell (depth_under s) i)) in
      let good : NodeOk (vars s) (made s) (depth_n (nodes s (parent_n p))) p = record {
        node = inr is;
        parent = below;
        depth = depth ∙ ap (λ (n : ℕ). suc (depth_n (nodes s n))) (sym up);
        var = λ z. absurd (not_both z is);
        zero = λ z. absurd (not_both z is);
        stored = λ z. absurd (not_both z is);
        still = λ z. stored;
      } in
      becomes (make (made s) (wind a b) unbound (depth_under s) (view s)) ok (wrote_grow s ok room_left p long) refl refl refl refl
      (grown_shape s ok room_left p long below good (cells s) ok.fields.shape.cells)
      (grown_seen s ok room_left p long (cells s) (wind a b) what (up_node p (inr is) ∙ ap some up) depth (inside kind) ∙ (rw (stored, as_blank, upd_same (view s).tree.what (made s) (wind a b))))
      (make_sound unbound (view s) (sound_view s ok) (can_grow (wind a b) (is_wind_lem a b refl)))
    where
      inside : {k : ℕ} → k ≡ 5 → is_in k ≡ true
      inside e = rw e

  -- ---- a binding: the new node stores the cell of its variable, and the cell takes the value
  pub bind_becomes : (x : ℕ) → x < vars s → (v : ℤ) → SFits w32 v → Becomes s (bind_b s x v) (make (next_of s) (binding x) (value v) (depth_under s) (view s))
  unfolding bind_b next_of fields_of is_in view view_f depth_under
  bind_becomes x known v fits =
      let f : ℕ = focus s in
      let c : List ℕ = bare_c (cells s x) in
      let p : List ℕ = node_b 3 f x 0 c (depth_under s) in
      let room_left = space_left s ok space in
      let fit : Fit s = sound_fit s ok in
      let long : length p ≡ node_size = node_length 3 f x 0 c (depth_under s) in
      let kind : kind_n p ≡ 3 = node_kind 3 f x 0 c (depth_under s) in
      let up : parent_n p ≡ f = node_parent 3 f x 0 c (depth_under s) in
      let below : parent_n p < made s = omega (arith, ok.fields.shape.head.focus_made) in
      let depth : depth_n p ≡ depth_under s = node_depth 3 f x 0 c (depth_under s) in
      let var : var_n p ≡ x = node_var 3 f x 0 c (depth_under s) in
      let stored : stored_n p ≡ c = node_stored 3 f x 0 c (depth_under s) (bare_length (cells s x)) in
      let is : IsBinding (kind_n p) = omega arith in
      let what : what_n p ≡ binding x = what_binding p is ∙ ap binding var in
      let good : NodeOk (vars s) (made s) (depth_n (nodes s (parent_n p))) p = record {
        node = inl is;
        parent = below;
        depth = depth ∙ ap (λ (n : ℕ). suc (depth_n (nodes s n))) (sym up);
        var = λ z. omega arith;
        zero = λ z. node_post 3 f x 0 c (depth_under s);
        stored = λ z. rw stored (ok.fields.shape.cells x known);
        still = λ z. absurd (not_both is z);
      } in
      let t : List ℕ = grow_b s p in
      let w : Wrote s t (grown_with s ok room_left p long (cells s)) = wrote_grow s ok room_left p long in
      let fit' : Fit t = wrote_fit w refl refl fit in
      let numbers = fields_vars t w.fields in
      let known' : x < vars t = omega arith in
      let q : List ℕ = taken s fit x known v in
      let all : Wrote s (set_b t x v) (grown_with s ok room_left p long (upd (cells s) x q)) =
      subst (λ (g : Fields). Wrote s (set_b t x v) (cell_f x (put_c (g.cell x) (value_c v)) g)) w.fields (then w (wrote_set t fit' x known' v)) in
      let bytes : set_b t x v ≡ bind_b s x v = ap (λ (d : List ℕ). set_b (grow_b s (node_b 3 f x 0 (bare_c d) (depth_under s))) x v) (cell_in s x known) in
      subst (λ (u : List ℕ). Becomes s u (make (made s) (binding x) (value v) (depth_under s) (view s))) bytes
      (becomes (make (made s) (binding x) (value v) (depth_under s) (view s)) ok all refl refl refl refl
      (grown_shape s ok room_left p long below good (upd (cells s) x q) (put_proper (cells s) (vars s) x q ok.fields.shape.cells (rw (taken_bare s fit x known v) (proper_value v))))
      (grown_seen s ok room_left p long (upd (cells s) x q) (binding x) what (up_node p (inl is) ∙ ap some up) depth (inside kind)
      ∙ rw (stored, cells_seen s ok x known v fits) (ap with_values (sym (make_binding (made s) x (value v) (depth_under s) (view s)))))
      (make_sound (value v) (view s) (sound_view s ok) (can_grow (binding x) (is_binding x refl))))
    where
      inside : {k : ℕ} → k ≡ 3 → is_in k ≡ true
      inside e = rw e

      with_values : Values → store.Store
      with_values d = record { tree = grow (made s) (focus s) (binding x) (depth_under s) (view s).tree; focus = made s; values = d; mode = upd (view s).mode (made s) true }
