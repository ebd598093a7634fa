-- When two buffers are the same bytes: sound buffers of one V and N that are seen as the same store, or that mean the same,
-- have the same bytes up to the size. Memory holds bytes, so each number of a buffer is below 256.
-- From document 01, "How much a promise has to say" (two outcomes coincide). Assumes nothing.
use Rattle.std.proofs.Math.Path.{◌≡◌, refl, sym, ap, fun_ext}
use Rattle.std.proofs.Common.{◌∙◌, inl, inr, take-append-drop, length-take, ext_get_or, get_or-take, length-take-le, take-take}
use Rattle.std.specs.Prelude.{◌≢◌, Bool, true, false, ℕ, zero, suc, ◌+◌, ◌≤◌, ◌<◌, List, [], ◌∷◌, ◌++◌, take, drop}
use Rattle.std.proofs.Math.Option.{some}
use native.Mathlib.Omega.{arith}
use Rattle.std.proofs.Math.Decide.{dec_lt}
use Rattle.std.proofs.Math.ListN.{length}
use Rattle.rules.specs.Basic.{on}
use Rattle.rules.proofs.Basic.{eqb_self}
use Rattle.rules.specs.Tree.{top, binding, wind, path, What, blank, Proper}
use Rattle.rules.proofs.Tree.{path_up, ranks_once}
use Rattle.rules.specs.Values.{unbound}
use Rattle.rules.specs.Store as store
use Rattle.rules.specs.Store.{home}
use Rattle.rules.specs.Calls.{decider_at, value_at}
use Rattle.rules.proofs.Calls.{look_right}
use Rattle.rules.proofs.Meaning.{home_means}
use Rattle.rules.specs.Effects.{SameDeep}
use Rattle.layout.specs.Limits.{cell_size, node_size, size_of}
use Rattle.layout.specs.Bytes.{part, Bytes, BytesTo}
use Rattle.layout.specs.Records.{head_of, head_b, vars, room, made, focus, target, handed, cell_of, bare_c, whole_c, node_of, kind_n, parent_n, var_n, post_n, stored_n, depth_n, node_b}
use Rattle.layout.specs.Kinds.{is_in, Node, binding_out, binding_in, wind_out, wind_in, IsBinding, IsWind, IsNode}
use Rattle.layout.proofs.NodeKinds.{node_kind}
use Rattle.layout.specs.Fields.{cells, nodes, fields_of, past}
use Rattle.layout.specs.View.{as_cell, what_n, up_n, tree_f, view_f, view, walk_f, walk_of}
use Rattle.layout.specs.Sound.{NodeOk, depth_above, Whole, Sound}
use Rattle.layout.specs.Events.{bit}
use Rattle.layout.specs.Made.{IsMade}
use Rattle.layout.specs.Becomes.{Becomes}
use Rattle.layout.proofs.Laws.{of_buffer, node_in, cell_in, node_past, cell_past}
use Rattle.layout.proofs.RecordLaws.{bare_length, stored_length, cell_again, node_again, bare_bytes, stored_bytes, cell_once, as_blank}
use Rattle.layout.proofs.PlaceLaws.{head_said, cell_bytes, node_bytes, alike_number, alike_cell, alike_node, at_each}
use Rattle.layout.proofs.OpenLaws.{stored_top, stored_blank}
use Rattle.layout.proofs.SoundLaws.{what_binding, what_wind, up_node, Place, is_top, is_inner, is_blank, place, blank_node_lem, sound_fit, sound_view, sound_ranked, up_inner, what_top, what_blank, shape_inners, shape_blanks}
use Rattle.layout.proofs.WalkLaws.{made_seen, seen_made}
use Rattle.layout.specs.Agreeing.{AgreeTo}

-- ---- an inner node is what it is seen as
-- its kind: a binding's or a wind's, and in or out
kind_binding : (k : ℕ) → Node k → IsBinding k → k ≡ 2 + bit (is_in k)
unfolding is_in
kind_binding _ binding_out h = refl
kind_binding _ binding_in h = refl
kind_binding _ wind_out h = absurd (omega arith)
kind_binding _ wind_in h = absurd (omega arith)

kind_wind : (k : ℕ) → Node k → IsWind k → k ≡ 4 + bit (is_in k)
unfolding is_in
kind_wind _ binding_out h = absurd (omega arith)
kind_wind _ binding_in h = absurd (omega arith)
kind_wind _ wind_out h = refl
kind_wind _ wind_in h = refl

-- two nodes of a store that are seen alike
pub record SeenAlike (p q : List ℕ) : Type 0 where
  pub what : what_n p ≡ what_n q
  pub up : up_n p ≡ up_n q
  pub depth : depth_n p ≡ depth_n q
  pub mode : is_in (kind_n p) ≡ is_in (kind_n q)
  pub stored : as_cell (stored_n p) ≡ as_cell (stored_n q)

module _ (v n d e : ℕ) (p q : List ℕ) (op : NodeOk v n d p) (oq : NodeOk v n e q) (lp : length p ≡ node_size) (lq : length q ≡ node_size)
    (bp : BytesTo node_size p) (bq : BytesTo node_size q) (same : SeenAlike p q) where
  -- both bindings, or both winds
  data Both : Type 0 where
    bindings : IsBinding (kind_n p) → IsBinding (kind_n q) → Both
    winds : IsWind (kind_n p) → IsWind (kind_n q) → Both

  both : Both
  both = go op.node oq.node
    where
      go : IsNode (kind_n p) → IsNode (kind_n q) → Both
      go (inl a) (inl b) = bindings a b
      go (inr a) (inr b) = winds a b
      go (inl a) (inr b) =
          let e : binding (var_n p) ≡ wind (var_n q) (post_n q) = sym (what_binding p a) ∙ same.what ∙ what_wind q b in
          absurd (let y : ◌≡◌ {A = ℕ} 0 1 = cc in omega arith)
      go (inr a) (inl b) =
          let e : binding (var_n q) ≡ wind (var_n p) (post_n p) = sym (what_binding q b) ∙ sym same.what ∙ what_wind p a in
          absurd (let y : ◌≡◌ {A = ℕ} 0 1 = cc in omega arith)

  parents : parent_n p ≡ parent_n q
  parents =
      let e : some (parent_n p) ≡ some (parent_n q) = sym (up_node p op.node) ∙ same.up ∙ up_node q oq.node in
      cc

  fields : Both → (kind_n p ≡ kind_n q) × (var_n p ≡ var_n q) × (post_n p ≡ post_n q) × (stored_n p ≡ stored_n q)
  fields (bindings a b) =
      let e : binding (var_n p) ≡ binding (var_n q) = sym (what_binding p a) ∙ same.what ∙ what_binding q b in (
        kind_binding (kind_n p) (node_kind (kind_n p) op.node) a
            ∙ ap (λ (m : Bool). 2 + bit m) same.mode
            ∙ sym (kind_binding (kind_n q) (node_kind (kind_n q) oq.node) b),
        cc,
        op.zero a ∙ sym (oq.zero b),
        cell_once (stored_n p) (stored_n q) (stored_length p) (stored_length q) (stored_bytes p bp) (stored_bytes q bq) (op.stored a) (oq.stored b) same.stored,
      )
  fields (winds a b) =
      let e : wind (var_n p) (post_n p) ≡ wind (var_n q) (post_n q) = sym (what_wind p a) ∙ same.what ∙ what_wind q b in (
        kind_wind (kind_n p) (node_kind (kind_n p) op.node) a
            ∙ ap (λ (m : Bool). 4 + bit m) same.mode
            ∙ sym (kind_wind (kind_n q) (node_kind (kind_n q) oq.node) b),
        cc,
        cc,
        op.still a ∙ sym (oq.still b),
      )

  node_once : p ≡ q
  node_once =
      let (k, v, o, c) = fields both in
      sym (node_again p lp bp) ∙ (λ i. node_b (k i) (parents i) (v i) (o i) (c i) (same.depth i)) ∙ node_again q lq bq

-- ---- two sound buffers that are seen alike
-- as many environments are made
made_once : (s t : List ℕ) → Whole s → Whole t → ((a : ℕ) → (view s).tree.what a ≡ (view t).tree.what a) → made s ≡ made t
unfolding IsMade
made_once s t ok ok' kinds = go (dec_lt (made s) (made t)) (dec_lt (made t) (made s))
  where
    go : Dec (made s < made t) → Dec (made t < made s) → made s ≡ made t
    go (yes l) d = absurd (omega (arith, seen_made s ok (made s) (λ e. made_seen t ok' (made s) l (sym (kinds (made s)) ∙ e))))
    go (no k) (yes l) = absurd (omega (arith, seen_made t ok' (made t) (λ e. made_seen s ok (made t) l (kinds (made t) ∙ e))))
    go (no k) (no l) = omega arith

module _ (s t : List ℕ) (ok : Whole s) (ok' : Whole t) (bytes : Bytes s) (bytes' : Bytes t) (v : vars s ≡ vars t) (r : room s ≡ room t)
    (a : target s ≡ target t) (c : handed s ≡ handed t) (same : view s ≡ view t) where
  makes : made s ≡ made t
  makes = made_once s t ok ok' (λ a. ap (λ (w : store.Store). w.tree.what a) same)

  focuses : focus s ≡ focus t
  unfolding view view_f fields_of
  focuses = ap (λ (w : store.Store). w.focus) same

  -- the header
  heads : head_of s ≡ head_of t
  heads = sym (head_said s bytes (omega (arith, ok.long))) ∙ (λ i. head_b (v i) (r i) (makes i) (focuses i) (a i) (c i)) ∙ head_said t bytes' (omega (arith, ok'.long))

  -- a cell
  same_cell : (x : ℕ) → x < vars s → cell_of s x ≡ cell_of t x
  unfolding view view_f fields_of
  same_cell x h =
      let h' : x < vars t = omega arith in
      let l : length (cells s x) ≡ cell_size = (of_buffer s (sound_fit s ok)).cell_long x in
      let l' : length (cells t x) ≡ cell_size = (of_buffer t (sound_fit t ok')).cell_long x in
      let bare : bare_c (cells s x) ≡ bare_c (cells t x) =
      cell_once (bare_c (cells s x)) (bare_c (cells t x)) (bare_length (cells s x)) (bare_length (cells t x))
      (bare_bytes (cells s x) (cell_bytes s bytes x h)) (bare_bytes (cells t x) (cell_bytes t bytes' x h'))
      (ok.fields.shape.cells x h) (ok'.fields.shape.cells x h') (ap (λ (w : store.Store). w.values.cell x) same) in
      sym (cell_in s x h) ∙ sym (cell_again (cells s x) l) ∙ ap whole_c bare ∙ cell_again (cells t x) l' ∙ cell_in t x h'

  -- a node
  same_node : (n : ℕ) → n < room s → node_of s n ≡ node_of t n
  unfolding view view_f tree_f fields_of
  same_node n h = sym (node_in s n h) ∙ go (place (made s) n) ∙ node_in t n h'
    where
      h' : n < room t
      h' = omega arith

      go : Place (made s) n → nodes s n ≡ nodes t n
      go (is_top e) = rw e (ok.fields.shape.top ∙ sym ok'.fields.shape.top)
      go (is_blank l) = shape_blanks (fields_of s) ok.fields.shape n l h ∙ sym (shape_blanks (fields_of t) ok'.fields.shape n (omega (arith, makes)) h')
      go (is_inner l k) =
          node_once (vars s) n (depth_above (fields_of s) n) (depth_above (fields_of t) n) (nodes s n) (nodes t n) (shape_inners (fields_of s) ok.fields.shape n l k) (rw v (shape_inners (fields_of t) ok'.fields.shape n l (omega (arith, makes))))
          ((of_buffer s (sound_fit s ok)).node_long n) ((of_buffer t (sound_fit t ok')).node_long n)
          (node_bytes s bytes n h) (node_bytes t bytes' n h')
          (record {
            what = ap (λ (w : store.Store). w.tree.what n) same;
            up = ap (λ (w : store.Store). w.tree.up n) same;
            depth = ap (λ (w : store.Store). w.tree.rank n) same;
            mode = ap (λ (w : store.Store). w.mode n) same;
            stored = ap (λ (w : store.Store). w.values.stored n) same;
          })

  pub same_seen : take (size_of (vars s) (room s)) s ≡ take (size_of (vars s) (room s)) t
  same_seen =
      let z = size_of (vars s) (room s) in
      let l : length (take z s) ≡ z = length-take-le z s ok.long in
      let l' : length (take z t) ≡ z = length-take-le z t (omega (arith, ok'.long)) in
      ext_get_or 0 (take z s) (take z t) (l ∙ sym l') (λ i h. get_or-take z s i 0 (omega arith) ∙ at_each s t v heads same_cell same_node i (omega arith) ∙ sym (get_or-take z t i 0 (omega arith)))

-- the bytes up to the size and those past it are all
pub same_whole : (s t : List ℕ) → vars s ≡ vars t → room s ≡ room t → take (size_of (vars s) (room s)) s ≡ take (size_of (vars s) (room s)) t → past s ≡ past t → s ≡ t
unfolding past
same_whole s t v r e q =
    let z = size_of (vars s) (room s) in
    let q' : drop z s ≡ drop z t = q ∙ sym (λ i. drop (size_of (v i) (r i)) t) in
    sym (take-append-drop z s) ∙ (λ i. e i ++ q' i) ∙ take-append-drop z t

-- what is left of s in place of w is one buffer
pub becomes_one : {s t t' : List ℕ} {w : store.Store} → Bytes t → Bytes t' → Becomes s t w → Becomes s t' w → t ≡ t'
becomes_one {s} {t} {t'} b b' h k =
    let v : vars t ≡ vars t' = h.kept.size.vars ∙ sym k.kept.size.vars in
    let r : room t ≡ room t' = h.kept.size.room ∙ sym k.kept.size.room in
    same_whole t t' v r (same_seen t t' h.sound k.sound b b' v r (h.kept.target ∙ sym k.kept.target) (h.kept.handed ∙ sym k.kept.handed) (h.seen ∙ sym k.seen))
    (h.kept.size.past ∙ sym k.kept.size.past)

-- ---- what a store holds besides its meaning is blank
-- a binding's own value is its variable's at itself
pub own_value : (d : store.Deep) → Proper d.tree → (n x p : ℕ) → d.tree.what n ≡ binding x → d.tree.up n ≡ some p → value_at d n x ≡ d.own.stored n
unfolding value_at decider_at
own_value d proper n x p b u = rw (path_up d.tree proper n p u, b, eqb_self x)

module _ (s : List ℕ) (ok : Whole s) where
  -- a binding has a parent
  pub binding_up : (n x : ℕ) → (view s).tree.what n ≡ binding x → (p : ℕ) × ((view s).tree.up n ≡ some p)
  unfolding view view_f tree_f fields_of
  binding_up n x b = go (place (made s) n)
    where
      go : Place (made s) n → (p : ℕ) × (up_n (nodes s n) ≡ some p)
      go (is_inner l k) = (parent_n (nodes s n), up_inner (fields_of s) (of_buffer s (sound_fit s ok)) ok.fields.shape n l k)
      go (is_top e) =
          let z : top ≡ binding x = sym what_top ∙ ap what_n (sym ok.fields.shape.top) ∙ (rw e at b) in
          absurd (let y : ◌≡◌ {A = ℕ} 0 1 = cc in omega arith)
      go (is_blank l) =
          let z : blank ≡ binding x = sym what_blank ∙ ap what_n (sym (blank_node_lem (fields_of s) (of_buffer s (sound_fit s ok)) ok.fields.shape n l)) ∙ b in
          absurd (let y : ◌≡◌ {A = ℕ} 0 1 = cc in omega arith)

  -- any other node stores nothing
  pub others_blank : (n : ℕ) → ((x : ℕ) → (view s).tree.what n ≢ binding x) → (view s).values.stored n ≡ unbound
  unfolding view view_f tree_f fields_of
  others_blank n other = go (place (made s) n)
    where
      node : {d : ℕ} → NodeOk (vars s) n d (nodes s n) → IsNode (kind_n (nodes s n)) → as_cell (stored_n (nodes s n)) ≡ unbound
      node o (inl is) = absurd (other (var_n (nodes s n)) (what_binding (nodes s n) is))
      node o (inr is) = ap as_cell (o.still is) ∙ as_blank

      go : Place (made s) n → as_cell (stored_n (nodes s n)) ≡ unbound
      go (is_top e) = ap (λ (p : List ℕ). as_cell (stored_n p)) (rw e ok.fields.shape.top) ∙ stored_top
      go (is_blank l) = ap (λ (p : List ℕ). as_cell (stored_n p)) (blank_node_lem (fields_of s) (of_buffer s (sound_fit s ok)) ok.fields.shape n l) ∙ stored_blank
      go (is_inner l k) = let o = shape_inners (fields_of s) ok.fields.shape n l k in node o o.node

-- ---- two sound buffers that mean the same are seen alike: the meaning says the cells and what each binding stores, no
-- other node stores anything, and the modes follow from the focus
module _ (s t : List ℕ) (ok : Whole s) (ok' : Whole t) (same : SameDeep (home (view s)) (home (view t))) where
  trees : (view s).tree ≡ (view t).tree
  unfolding home view view_f tree_f
  trees = λ i. record {
    what = fun_ext same.kinds i;
    up = fun_ext same.parents i;
    rank = fun_ext (ranks_once (view s).tree (sound_view s ok).proper (view t).tree (sound_ranked s ok) (sound_ranked t ok') (λ n. sym (same.parents n))) i;
  }

  foci : (view s).focus ≡ (view t).focus
  unfolding home
  foci = same.focus

  seen_cells : (x : ℕ) → (view s).values.cell x ≡ (view t).values.cell x
  seen_cells x =
      look_right (view s) (sound_view s ok) x ∙ same.values (view s).focus x
      ∙ ap (λ (a : ℕ). value_at (home (view t)) a x) foci ∙ sym (look_right (view t) (sound_view t ok') x)

  seen_modes : (n : ℕ) → (view s).mode n ≡ (view t).mode n
  seen_modes n = (sound_view s ok).modes n ∙ (λ i. on n (path (trees i) (foci i))) ∙ sym ((sound_view t ok').modes n)

  binding_stores : (n x p : ℕ) → (view s).tree.what n ≡ binding x → (view s).tree.up n ≡ some p → (view s).values.stored n ≡ (view t).values.stored n
  unfolding home
  binding_stores n x p b u = go ((view s).mode n) refl
    where
      b' : (view t).tree.what n ≡ binding x
      b' = sym (same.kinds n) ∙ b

      u' : (view t).tree.up n ≡ some p
      u' = sym (same.parents n) ∙ u

      go : (m : Bool) → (view s).mode n ≡ m → (view s).values.stored n ≡ (view t).values.stored n
      go true e =
          (home_means (view s) (sound_view s ok)).in_stores_parents n x p b e u ∙ same.values p x
          ∙ sym ((home_means (view t) (sound_view t ok')).in_stores_parents n x p b' (sym (seen_modes n) ∙ e) u')
      go false e =
          (home_means (view s) (sound_view s ok)).out_stores_own n x b e
          ∙ sym (own_value (home (view s)) (sound_view s ok).proper n x p b u) ∙ same.values n x
          ∙ own_value (home (view t)) (sound_view t ok').proper n x p b' u'
          ∙ sym ((home_means (view t) (sound_view t ok')).out_stores_own n x b' (sym (seen_modes n) ∙ e))

  seen_stored : (n : ℕ) → (view s).values.stored n ≡ (view t).values.stored n
  unfolding home
  seen_stored n = go ((view s).tree.what n) refl
    where
      other : ((x : ℕ) → (view s).tree.what n ≢ binding x) → (view s).values.stored n ≡ (view t).values.stored n
      other h = others_blank s ok n h ∙ sym (others_blank t ok' n (λ x e. h x (same.kinds n ∙ e)))

      go : (w : What) → (view s).tree.what n ≡ w → (view s).values.stored n ≡ (view t).values.stored n
      go (binding x) e = let (p, u) = binding_up s ok n x e in binding_stores n x p e u
      go blank e = other (λ x f. let y : ◌≡◌ {A = ℕ} 0 1 = cc in omega arith)
      go top e = other (λ x f. let y : ◌≡◌ {A = ℕ} 0 1 = cc in omega arith)
      go (wind a b) e = other (λ x f. let y : ◌≡◌ {A = ℕ} 0 1 = cc in omega arith)

  pub seen_once : view s ≡ view t
  seen_once = λ i. record {
    tree = trees i;
    focus = foci i;
    values = record { cell = fun_ext seen_cells i; stored = fun_ext seen_stored i };
    mode = fun_ext seen_modes i;
  }

-- the same meaning, so the same bytes up to the size
pub same_meant : (s t : List ℕ) → Whole s → Whole t → Bytes s → Bytes t → vars s ≡ vars t → room s ≡ room t → target s ≡ target t → handed s ≡ handed t → SameDeep (home (view s)) (home (view t))
    → take (size_of (vars s) (room s)) s ≡ take (size_of (vars s) (room s)) t
same_meant s t ok ok' b b' v r a c same = same_seen s t ok ok' b b' v r a c (seen_once s t ok ok' same)

-- ---- two buffers that agree up to the size: no byte past it is read
take_part : (a z : ℕ) (xs : List ℕ) (n : ℕ) → a + n ≤ z → take n (drop a (take z xs)) ≡ take n (drop a xs)
take_part zero z xs n h = take-take n z xs (omega arith)
take_part (suc a) zero xs n h = absurd (omega arith)
take_part (suc a) (suc z) [] n h = refl
take_part (suc a) (suc z) (x ∷ xs) n h = take_part a z xs n (omega arith)

-- a part that lies before z
pub part_take : (xs : List ℕ) (z a n : ℕ) → a + n ≤ z → part (take z xs) a n ≡ part xs a n
unfolding part
part_take xs z a n h = take_part a z xs n h

module _ (s u : List ℕ) (agree : AgreeTo s u) where
  same_part : (a n : ℕ) → a + n ≤ size_of (vars s) (room s) → part s a n ≡ part u a n
  same_part a n h =
      sym (part_take s (size_of (vars s) (room s)) a n h) ∙ ap (λ (l : List ℕ). part l a n) agree
      ∙ part_take u (size_of (vars s) (room s)) a n h

  pub agree_vars : vars s ≡ vars u
  agree_vars = alike_number s u same_part 0

  pub agree_room : room s ≡ room u
  agree_room = alike_number s u same_part 1

  pub agree_fields : fields_of s ≡ fields_of u
  unfolding fields_of
  agree_fields = λ i. record {
    head = fun_ext (alike_number s u same_part) i;
    cell = fun_ext (λ x. cell x (dec_lt x (vars s))) i;
    node = fun_ext (λ n. node n (dec_lt n (room s))) i;
  }
    where
      cell : (x : ℕ) → Dec (x < vars s) → cells s x ≡ cells u x
      cell x (yes h) = cell_in s x h ∙ alike_cell s u same_part x h ∙ sym (cell_in u x (omega (arith, agree_vars)))
      cell x (no h) = cell_past s x (omega arith) ∙ sym (cell_past u x (omega (arith, agree_vars)))

      node : (n : ℕ) → Dec (n < room s) → nodes s n ≡ nodes u n
      node n (yes h) = node_in s n h ∙ alike_node s u same_part n h ∙ sym (node_in u n (omega (arith, agree_room)))
      node n (no h) = node_past s n (omega arith) ∙ sym (node_past u n (omega (arith, agree_room)))

  pub agree_view : view s ≡ view u
  unfolding view
  agree_view = ap view_f agree_fields

  agree_whole : Whole s → Whole u
  agree_whole ok = record {
    long = omega (arith, agree_vars, agree_room, ok.long, length-take (size_of (vars s) (room s)) s, length-take (size_of (vars s) (room s)) u, ap length agree);
    fields = rw (← agree_fields) ok.fields;
  }

  pub agree_sound : Sound s → Sound u
  agree_sound ok = record { whole = agree_whole ok.whole; walk = rw (← agree_fields) ok.walk }

  pub agree_walk : walk_of s ≡ walk_of u
  unfolding walk_of
  agree_walk = ap walk_f agree_fields

  pub agree_back : AgreeTo u s
  agree_back = sym (rw (agree_vars, agree_room) at agree)
