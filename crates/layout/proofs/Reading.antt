-- Reading from afar, on the bytes of a sound store: the climb to the binding that decides, the climb from the focus to the
-- last binding below it, and the cell that holds its own value. The rules say that this cell is the deep rule's value
-- (`peek_shows`); the laws here are what the loops cite. Assumes nothing.
use Rattle.std.specs.Prelude.{◌≡◌, ◌≢◌, ◌⊎◌, Bool, true, false, cond, eqb, length, None, Some, IfSome}
use Rattle.std.specs.Prelude as answered
use Rattle.std.proofs.Math.Path.{refl, sym, ap, subst}
use Rattle.std.proofs.Common.{◌∙◌, ⊎_elim, arith, ne_eqb, le-leb}
use Rattle.std.proofs.Math.Logic.{inl, inr}
use Rattle.std.proofs.Math.Option.{Option, none, some}
use Prim.Native.Nat.{ℕ, zero, suc, ◌≤◌, ◌<◌}
use Rattle.std.proofs.Math.Decide.{ℕ_discrete}
use mathlib.Core.List.{List, [], ◌∷◌}
use Rattle.std.proofs.lemmas.Bool.{lt-leb}
use Rattle.rules.specs.Basic.{on, or_top}
use Rattle.rules.proofs.Basic.{clash, eqb_self, on_cases}
use Rattle.rules.specs.Tree.{What, blank, top, binding, wind, Proper, binds, path}
use Rattle.rules.proofs.Tree.{path_top, path_up}
use Rattle.rules.specs.Values.{value_by, is_at, below, seek, or_seen}
use Rattle.rules.proofs.Values.{seek_below}
use Rattle.rules.specs.Calls.{decider_at, peek_of}
use Rattle.rules.proofs.Calls.{peek_shows}
use Rattle.layout.specs.Records.{vars, room, focus, blank_cell, ProperCell, cell_of, bare_c, node_of, kind_n, parent_n, var_n, post_n, stored_n, top_node}
use Rattle.layout.specs.Kinds.{within, by_kind, is_out, IsBinding, IsWind, IsNode}
use Rattle.layout.specs.Fields.{nodes, fields_of, Fit}
use Rattle.layout.specs.View.{as_cell, as_option, what_n, up_n, tree_f, view_f, view}
use Rattle.layout.specs.Sound.{NodeOk, depth_above, Whole}
use Rattle.layout.specs.Made.{IsMade}
use Rattle.layout.specs.Routes.{OnWay}
use Rattle.layout.proofs.Laws.{node_in, cell_in, of_buffer}
use Rattle.layout.proofs.SoundLaws.{what_binding, what_wind, what_top, up_node, up_top, sound_fit, sound_headed, sound_view, shape_inners, path_made}
use Rattle.layout.proofs.MoveLaws.{inner}
use Rattle.layout.proofs.WalkLaws.{made_seen, made_room, focus_made, out_up, in_above, parent_made}
use Rattle.layout.specs.Deciders.{binder_of, FoundAt, Ahead, last_below}

pub binder_inner : (n : ℕ) → 1 ≤ n → binder_of n ≡ some n
unfolding binder_of
binder_inner zero l = absurd (omega arith)
binder_inner (suc n) l = refl

pub number_of_binder : (n : ℕ) → or_top (binder_of n) ≡ n
unfolding binder_of
number_of_binder zero = refl
number_of_binder (suc n) = refl

pub number_is : (n : ℕ) {o : Option ℕ} → binder_of n ≡ o → n ≡ or_top o
number_is n e = sym (number_of_binder n) ∙ ap or_top e

not_at : (what : ℕ → What) (stop n : ℕ) → n ≢ stop → is_at what (binder_of stop) n ≡ false
unfolding binder_of
not_at what zero n d = refl
not_at what (suc k) n d = ne_eqb (suc k) n (λ e. d (sym e))

-- at n, with `seen` the last binding of x met, if any: what is left of the climb gives what the whole gives
pub record Seeks (s : List ℕ) (stop x n : ℕ) (seen : answered.Option ℕ) : Type 0 where
  pub here : IsMade s n
  pub last : IfSome seen (IsMade s)
  pub ahead : Ahead s stop n
  pub left : seek (view s).tree.what x (binder_of stop) (as_option seen) (path (view s).tree n) ≡ last_below s stop x

-- ---- whether a node binds x, by its kind
binds_binding : (p : List ℕ) (x : ℕ) → IsBinding (kind_n p) → binds (what_n p) x ≡ eqb (var_n p) x
binds_binding p x is = ap (λ (w : What). binds w x) (what_binding p is)

binds_other : (p : List ℕ) (x : ℕ) → within 2 (kind_n p) 3 ≡ false → binds (what_n p) x ≡ false
unfolding what_n by_kind
binds_other p x e = rw e (go (within 4 (kind_n p) 5) (eqb (kind_n p) 1))
  where
    go : (a b : Bool) → binds (cond a (wind (var_n p) (post_n p)) (cond b top blank)) x ≡ false
    go true b = refl
    go false true = refl
    go false false = refl

stored_top : stored_n top_node ≡ blank_cell
unfolding stored_n top_node
stored_top = refl

kind_top : kind_n top_node ≡ 1
unfolding kind_n top_node
kind_top = refl

-- number 0 is the top, and has no parent
pub top_what : (s : List ℕ) → Whole s → (view s).tree.what 0 ≡ top
unfolding view view_f tree_f fields_of
top_what s ok = ap what_n ok.fields.shape.top ∙ what_top

pub top_up : (s : List ℕ) → Whole s → (view s).tree.up 0 ≡ none
unfolding view view_f tree_f fields_of
top_up s ok = ap up_n ok.fields.shape.top ∙ up_top

-- ---- the made nodes of a sound store
module _ (s : List ℕ) (ok : Whole s) where
  pub fit_made : (n : ℕ) → IsMade s n → Fit s × (n < room s)
  fit_made n m = (sound_fit s ok, made_room s ok n m)

  pub top_made : IsMade s 0
  unfolding IsMade
  top_made = omega (arith, (sound_headed s ok).head.made_low)

  node_made : (n : ℕ) → IsMade s n → nodes s n ≡ node_of s n
  node_made n m = node_in s n (made_room s ok n m)

  inner_ok : (n : ℕ) → 1 ≤ n → IsMade s n → NodeOk (vars s) n (depth_above (fields_of s) n) (node_of s n)
  unfolding fields_of IsMade
  inner_ok n l m = subst (NodeOk (vars s) n (depth_above (fields_of s) n)) (node_made n m) (shape_inners (fields_of s) ok.fields.shape n l m)

  top_is : node_of s 0 ≡ top_node
  unfolding fields_of
  top_is = sym (node_made 0 top_made) ∙ ok.fields.shape.top

  proper : Proper (view s).tree
  proper = (sound_view s ok).proper

  -- the parent is the one that the record names
  pub up_is : (n : ℕ) → 1 ≤ n → IsMade s n → (view s).tree.up n ≡ some (parent_n (node_of s n))
  unfolding view view_f tree_f fields_of
  up_is n l m = ap up_n (node_made n m) ∙ up_node (node_of s n) (inner_ok n l m).node

  pub up_made : (n : ℕ) → 1 ≤ n → IsMade s n → IsMade s (parent_n (node_of s n))
  up_made n l m = parent_made s ok n (parent_n (node_of s n)) (up_is n l m)

  what_is : (n : ℕ) → IsMade s n → (view s).tree.what n ≡ what_n (node_of s n)
  unfolding view view_f tree_f fields_of
  what_is n m = ap what_n (node_made n m)

  -- ---- what an environment is, by its kind: a binding and a wind are under their parent, any other is the top
  kind_inner : (n : ℕ) → IsMade s n → 2 ≤ kind_n (node_of s n) → 1 ≤ n
  kind_inner n m h = go (ℕ_discrete n 0)
    where
      go : Dec (n ≡ 0) → 1 ≤ n
      go (yes z) = absurd (omega (arith, ap (λ (k : ℕ). kind_n (node_of s k)) z ∙ ap kind_n top_is ∙ kind_top))
      go (no z) = omega arith

  pub up_under : (n : ℕ) → IsMade s n → 2 ≤ kind_n (node_of s n) → or_top ((view s).tree.up n) ≡ parent_n (node_of s n)
  up_under n m h = ap or_top (up_is n (kind_inner n m h) m)

  pub binding_is : (n : ℕ) → IsMade s n → IsBinding (kind_n (node_of s n)) → ((view s).tree.what n ≡ binding (var_n (node_of s n))) × (var_n (node_of s n) < vars s)
  binding_is n m is = (what_is n m ∙ what_binding (node_of s n) is, (inner_ok n (kind_inner n m is.0) m).var is)

  pub binding_up : (n x : ℕ) → (view s).tree.what n ≡ binding x → (p : ℕ) × ((view s).tree.up n ≡ some p)
  binding_up n x is = go ((view s).tree.up n) refl
    where
      no_blank : (view s).tree.what n ≢ blank
      no_blank e = let z : ◌≡◌ {A = ℕ} 0 1 = cc in omega arith

      no_top : (view s).tree.what n ≢ top
      no_top e = let z : ◌≡◌ {A = ℕ} 0 1 = cc in omega arith

      go : (o : Option ℕ) → (view s).tree.up n ≡ o → (p : ℕ) × ((view s).tree.up n ≡ some p)
      go none e = absurd (no_top (ap (view s).tree.what (proper.one_top n no_blank e) ∙ top_what s ok))
      go (some p) e = (p, e)

  pub wind_is : (n : ℕ) → IsMade s n → IsWind (kind_n (node_of s n)) → (view s).tree.what n ≡ wind (var_n (node_of s n)) (post_n (node_of s n))
  wind_is n m is = what_is n m ∙ what_wind (node_of s n) is

  pub else_top : (n : ℕ) → IsMade s n → (IsNode (kind_n (node_of s n)) → ⊥) → (view s).tree.what n ≡ top
  else_top n m other = go (ℕ_discrete n 0)
    where
      go : Dec (n ≡ 0) → (view s).tree.what n ≡ top
      go (yes z) = ap (view s).tree.what z ∙ top_what s ok
      go (no z) = absurd (other (inner_ok n (omega arith) m).node)

  -- the path of the top and of any other made node
  path_none : path (view s).tree 0 ≡ []
  path_none = path_top (view s).tree proper 0 (top_up s ok)

  path_next : (n : ℕ) → 1 ≤ n → IsMade s n → path (view s).tree n ≡ n ∷ path (view s).tree (parent_n (node_of s n))
  path_next n l m = path_up (view s).tree proper n (parent_n (node_of s n)) (up_is n l m)

  pub path_falls : (n : ℕ) → 1 ≤ n → IsMade s n → length (path (view s).tree (parent_n (node_of s n))) < length (path (view s).tree n)
  path_falls n l m = rw (path_next n l m) (omega arith)

  -- ---- whether the node n binds x
  pub binds_yes : (n x : ℕ) → IsMade s n → IsBinding (kind_n (node_of s n)) → binds ((view s).tree.what n) x ≡ eqb (var_n (node_of s n)) x
  binds_yes n x m is = ap (λ (w : What). binds w x) (what_is n m) ∙ binds_binding (node_of s n) x is

  pub binds_low : (n x : ℕ) → IsMade s n → kind_n (node_of s n) < 2 → binds ((view s).tree.what n) x ≡ false
  binds_low n x m h = ap (λ (w : What). binds w x) (what_is n m) ∙ binds_other (node_of s n) x (rw (lt-leb 2 (kind_n (node_of s n)) h))

  pub binds_high : (n x : ℕ) → IsMade s n → 3 < kind_n (node_of s n) → binds ((view s).tree.what n) x ≡ false
  binds_high n x m h =
      let k : ℕ = kind_n (node_of s n) in
      ap (λ (w : What). binds w x) (what_is n m) ∙ binds_other (node_of s n) x (rw (le-leb 2 k (omega arith), lt-leb k 3 h))

  -- the top is on the way of the focus, and so is what is ahead of it
  pub top_on_way : OnWay s 0
  top_on_way = record { made = top_made; over = inl (top_up s ok) }

  pub ahead_on_way : (stop : ℕ) → Ahead s stop (focus s) → OnWay s stop
  unfolding view view_f fields_of IsMade
  ahead_on_way stop (inl z) = rw z top_on_way
  ahead_on_way stop (inr h) = record { made = path_made (fields_of s) (of_buffer s (sound_fit s ok)) ok.fields.shape (focus s) stop h; over = inr h }

  -- ---- the climb to the decider
  pub decider_top : (x : ℕ) → decider_at (view s).tree 0 x ≡ none
  unfolding decider_at
  decider_top x = rw path_none

  pub decider_here : (n x : ℕ) → 1 ≤ n → IsMade s n → binds ((view s).tree.what n) x ≡ true → decider_at (view s).tree n x ≡ some n
  unfolding decider_at
  decider_here n x l m e = rw (path_next n l m, e)

  pub decider_up : (n x : ℕ) → 1 ≤ n → IsMade s n → binds ((view s).tree.what n) x ≡ false → decider_at (view s).tree n x ≡ decider_at (view s).tree (parent_n (node_of s n)) x
  unfolding decider_at
  decider_up n x l m e = rw (path_next n l m, e)

  -- ---- the climb from the focus
  pub seeks_start : (stop x : ℕ) → Ahead s stop (focus s) → Seeks s stop x (focus s) None
  unfolding last_below
  seeks_start stop x h = record {
    here = focus_made s ok;
    last = tt;
    ahead = h;
    left = seek_below (view s).tree.what x (binder_of stop) none (path (view s).tree (focus s)) ∙ none_seen (below (view s).tree.what x (binder_of stop) (path (view s).tree (focus s)));
  }
    where
      none_seen : (o : Option ℕ) → or_seen (view s).tree.what o none ≡ o
      none_seen none = refl
      none_seen (some n) = refl

  -- short of `stop` there is a node above
  pub seeks_inner : {stop x n : ℕ} {seen : answered.Option ℕ} → Seeks s stop x n seen → n ≢ stop → 1 ≤ n
  seeks_inner {stop} {x} {n} {seen} c d = go (ℕ_discrete n 0) c.ahead
    where
      go : Dec (n ≡ 0) → Ahead s stop n → 1 ≤ n
      go (no z) h = omega arith
      go (yes z) (inl e) = absurd (d (z ∙ sym e))
      go (yes z) (inr e) = clash e (ap (λ (m : ℕ). on stop (path (view s).tree m)) z ∙ ap (on stop) path_none)

  -- one node up
  pub seeks_up : {stop x n : ℕ} {seen : answered.Option ℕ} (next : answered.Option ℕ) → Seeks s stop x n seen → n ≢ stop → IfSome next (IsMade s)
      → cond (binds ((view s).tree.what n) x) (some n) (as_option seen) ≡ as_option next → Seeks s stop x (parent_n (node_of s n)) next
  seeks_up {stop} {x} {n} {seen} next c d m e = record { here = up_made n inner c.here; last = m; ahead = on_ahead c.ahead; left = sym passed ∙ c.left }
    where
      inner : 1 ≤ n
      inner = seeks_inner c d

      on_ahead : Ahead s stop n → Ahead s stop (parent_n (node_of s n))
      on_ahead (inl z) = inl z
      on_ahead (inr h) = go (on_cases stop n (path (view s).tree (parent_n (node_of s n))) (rw (path_next n inner c.here) at h))
        where
          go : (stop ≡ n) ⊎ (on stop (path (view s).tree (parent_n (node_of s n))) ≡ true) → Ahead s stop (parent_n (node_of s n))
          go (inl z) = absurd (d (sym z))
          go (inr k) = inr k

      passed : seek (view s).tree.what x (binder_of stop) (as_option seen) (path (view s).tree n)
          ≡ seek (view s).tree.what x (binder_of stop) (as_option next) (path (view s).tree (parent_n (node_of s n)))
      passed = rw (path_next n inner c.here, not_at (view s).tree.what stop n d, e)

  pub seeks_done : {stop x : ℕ} {seen : answered.Option ℕ} → Seeks s stop x stop seen → as_option seen ≡ last_below s stop x
  seeks_done {stop} {x} {seen} c = sym (go (ℕ_discrete stop 0)) ∙ c.left
    where
      go : Dec (stop ≡ 0) → seek (view s).tree.what x (binder_of stop) (as_option seen) (path (view s).tree stop) ≡ as_option seen
      go (yes z) = rw (z, path_none)
      go (no z) = rw (path_next stop (omega arith) c.here, binder_inner stop (omega arith), eqb_self stop)

  -- ---- the decider's own value
  stored_is : (n : ℕ) → IsMade s n → (view s).values.stored n ≡ as_cell (stored_n (node_of s n))
  unfolding view view_f fields_of
  stored_is n m = ap (λ (p : List ℕ). as_cell (stored_n p)) (node_made n m)

  cell_is : (x : ℕ) → x < vars s → (view s).values.cell x ≡ as_cell (bare_c (cell_of s x))
  unfolding view view_f fields_of
  cell_is x h = ap (λ (p : List ℕ). as_cell (bare_c p)) (cell_in s x h)

  pub cell_proper : (x : ℕ) → x < vars s → ProperCell (bare_c (cell_of s x))
  unfolding fields_of
  cell_proper x h = rw (cell_in s x h) at (ok.fields.shape.cells x h)

  -- a binding's stored cell is proper, a wind's and the top's are blank
  pub stored_proper : (n : ℕ) → IsMade s n → ProperCell (stored_n (node_of s n))
  stored_proper n m = go (ℕ_discrete n 0)
    where
      go : Dec (n ≡ 0) → ProperCell (stored_n (node_of s n))
      go (yes z) = inl (ap (λ (k : ℕ). stored_n (node_of s k)) z ∙ ap stored_n top_is ∙ stored_top)
      go (no z) = by_kind_lem (inner_ok n (omega arith) m)
        where
          by_kind_lem : {e : ℕ} → NodeOk (vars s) n e (node_of s n) → ProperCell (stored_n (node_of s n))
          by_kind_lem o = ⊎_elim (λ is. o.stored is) (λ is. inl (o.still is)) o.node

  -- a made node that is not out is the top, or in
  not_out : (d : ℕ) → IsMade s d → is_out (kind_n (node_of s d)) ≡ false → (d ≡ 0) ⊎ ((view s).mode d ≡ true)
  not_out d m e = ⊎_elim (λ u. inl (proper.one_top d (made_seen s ok d m) u)) (λ h. inr h) (in_above s ok d m e)

  -- so the climb from the focus ends at it, and its value is at the last binding below it
  pub not_out_ahead : (d : ℕ) → IsMade s d → is_out (kind_n (node_of s d)) ≡ false → Ahead s d (focus s)
  unfolding view view_f fields_of
  not_out_ahead d m e = go (not_out d m e)
    where
      go : (d ≡ 0) ⊎ ((view s).mode d ≡ true) → Ahead s d (focus s)
      go (inl z) = inl z
      go (inr h) = inr (sym ((sound_view s ok).modes d) ∙ h)

  peek_in : (d x : ℕ) → IsMade s d → is_out (kind_n (node_of s d)) ≡ false → peek_of (view s) x (binder_of d) ≡ value_by (view s).values x (last_below s d x)
  unfolding last_below binder_of view view_f fields_of
  peek_in zero x m e = refl
  peek_in (suc d) x m e = go (not_out (suc d) m e)
    where
      go : (suc d ≡ 0) ⊎ ((view s).mode (suc d) ≡ true) → peek_of (view s) x (some (suc d)) ≡ value_by (view s).values x (below (view s).tree.what x (some (suc d)) (path (view s).tree (focus s)))
      go (inl z) = absurd (omega arith)
      go (inr h) = rw h

  -- which stores it, and where there is none the cell holds it
  pub peek_some : (d x k : ℕ) → IsMade s d → is_out (kind_n (node_of s d)) ≡ false → IsMade s k → some k ≡ last_below s d x
      → peek_of (view s) x (binder_of d) ≡ as_cell (stored_n (node_of s k))
  peek_some d x k m e h b = peek_in d x m e ∙ ap (value_by (view s).values x) (sym b) ∙ stored_is k h

  pub peek_none : (d x : ℕ) → IsMade s d → is_out (kind_n (node_of s d)) ≡ false → x < vars s → none ≡ last_below s d x
      → peek_of (view s) x (binder_of d) ≡ as_cell (bare_c (cell_of s x))
  peek_none d x m e h b = peek_in d x m e ∙ ap (value_by (view s).values x) (sym b) ∙ cell_is x h

  -- for one that is out, it is its stored cell
  pub peek_out : (d x : ℕ) → IsMade s d → is_out (kind_n (node_of s d)) ≡ true → peek_of (view s) x (binder_of d) ≡ as_cell (stored_n (node_of s d))
  peek_out d x m e =
      let (up, mode) = out_up s ok d m e in
      let (l, h, q, b) = inner s ok d (parent_n (node_of s d)) up in
      rw (binder_inner d l, mode) (stored_is d m)

  -- ---- so what is found is the deep rule's value
  pub found_at : {a x n : ℕ} {c : List ℕ} → binder_of n ≡ decider_at (view s).tree a x → IsMade s n → as_cell c ≡ peek_of (view s) x (binder_of n) → ProperCell c → FoundAt s a x n c
  found_at {a} {x} {n} {c} by made e p = record { by = by; made = made; value = e ∙ ap (peek_of (view s) x) by ∙ peek_shows (view s) (sound_view s ok) a x; proper = p }
