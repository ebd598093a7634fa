-- A sound buffer is seen as a sound store of the rules, with the depth as the rank. Of the laws, `parents_made` alone leans on a
-- parent being below its own number. Assumes nothing.
use Rattle.std.specs.Prelude.{◌≡◌, ◌≢◌, ◌⊎◌, true, ℕ, suc, ◌≤◌, ◌<◌}
use Rattle.std.proofs.Math.Path.{refl, sym, ap}
use Rattle.std.proofs.Common.{◌∙◌, inl, inr, arith}
use Rattle.std.proofs.Math.Bool.{false}
use Rattle.std.proofs.Math.Option.{Option, none, some}
use Rattle.std.proofs.Math.Decide.{ℕ_discrete, dec_lt}
use mathlib.Core.List.{List}
use Rattle.rules.specs.Basic.{on}
use Rattle.rules.proofs.Basic.{clash, some≢none}
use Rattle.rules.specs.Tree.{blank, top, binding, wind, Proper, Ranked, path}
use Rattle.rules.proofs.Tree.{path_once, on_path_up, rank_depth}
use Rattle.rules.proofs.Modes.{count_on, count_le}
use Rattle.rules.specs.Store as store
use Rattle.layout.specs.Bytes.{u16}
use Rattle.layout.specs.Records.{kind_n, parent_n, var_n, post_n, depth_n, top_node, blank_node}
use Rattle.layout.specs.Kinds.{IsBinding, IsWind, IsNode, by_kind, is_in, is_out}
use Rattle.layout.proofs.NodeKinds.{kind_binding, kind_wind, kind_node}
use Rattle.layout.specs.Fields.{Fields, fields_of, Fit, room_f, made_f, focus_f, vars_f}
use Rattle.layout.specs.View.{what_n, up_n, tree_f, view_f, view}
use Rattle.layout.specs.Sound.{NodeOk, depth_above, HeadOk, CellsOk, Shape, Ins, SoundF, Headed, Whole}
use Rattle.layout.proofs.Laws.{OfBuffer, of_buffer}
use Rattle.layout.specs.Checks.{InnersOk, BlanksOk}

-- ---- what a node's record says
pub what_binding : (p : List ℕ) → IsBinding (kind_n p) → what_n p ≡ binding (var_n p)
unfolding what_n
what_binding p is = kind_binding (kind_n p) _ _ _ _ is

pub what_wind : (p : List ℕ) → IsWind (kind_n p) → what_n p ≡ wind (var_n p) (post_n p)
unfolding what_n
what_wind p is = kind_wind (kind_n p) _ _ _ _ is

pub up_node : (p : List ℕ) → IsNode (kind_n p) → up_n p ≡ some (parent_n p)
unfolding up_n
up_node p is = kind_node (kind_n p) _ _ _ is

pub what_top : what_n top_node ≡ top
unfolding what_n top_node kind_n by_kind
what_top = refl

pub up_top : up_n top_node ≡ none
unfolding up_n top_node kind_n by_kind
up_top = refl

pub what_blank : what_n blank_node ≡ blank
unfolding what_n blank_node kind_n by_kind
what_blank = refl

pub up_blank : up_n blank_node ≡ none
unfolding up_n blank_node kind_n by_kind
up_blank = refl

pub depth_top : depth_n top_node ≡ 0
unfolding depth_n top_node u16
depth_top = refl

pub depth_blank : depth_n blank_node ≡ 0
unfolding depth_n blank_node u16
depth_blank = refl

pub in_top : is_in (kind_n top_node) ≡ false
unfolding is_in top_node kind_n
in_top = refl

pub out_top : is_out (kind_n top_node) ≡ false
unfolding is_out kind_n top_node
out_top = refl

pub in_blank : is_in (kind_n blank_node) ≡ false
unfolding is_in blank_node kind_n
in_blank = refl

pub node_not_blank : (p : List ℕ) → IsNode (kind_n p) → what_n p ≢ blank
node_not_blank p (inl is) e = let q = what_binding p is in let z : ◌≡◌ {A = ℕ} 0 1 = cc in omega arith
node_not_blank p (inr is) e = let q = what_wind p is in let z : ◌≡◌ {A = ℕ} 0 1 = cc in omega arith

-- ---- every number is the top, an inner node or a blank
pub data Place (m n : ℕ) : Type 0 where
  is_top : n ≡ 0 → Place m n
  is_inner : 1 ≤ n → n < m → Place m n
  is_blank : m ≤ n → Place m n

pub place : (m n : ℕ) → Place m n
place m n = go (ℕ_discrete n 0) (dec_lt n m)
  where
    go : Dec (n ≡ 0) → Dec (n < m) → Place m n
    go (yes e) d = is_top e
    go (no e) (yes l) = is_inner (omega arith) l
    go (no e) (no l) = is_blank (omega arith)

-- a blank node is no binding and no wind
pub blank_no_node : (p : List ℕ) → p ≡ blank_node → IsNode (kind_n p) → ⊥
blank_no_node p e is = node_not_blank p is (ap what_n e ∙ what_blank)

module _ (f : Fields) where
  pub shape_inners : Shape f → InnersOk f
  shape_inners ok n l h = go (ok.nodes n l (omega (arith, ok.head.made_high)))
    where
      go : (f.node n ≡ blank_node) ⊎ NodeOk (vars_f f) n (depth_above f n) (f.node n) → NodeOk (vars_f f) n (depth_above f n) (f.node n)
      go (inl e) = absurd (omega (arith, (ok.no_gap n l (omega (arith, ok.head.made_high))).0 e))
      go (inr o) = o

  pub parents_made : Shape f → (n : ℕ) → 1 ≤ n → n < made_f f → parent_n (f.node n) < made_f f
  parents_made ok n l h = omega (arith, (shape_inners ok n l h).parent)

  pub shape_blanks : Shape f → BlanksOk f
  shape_blanks ok n h l = (ok.no_gap n (omega (arith, ok.head.made_low)) l).1 h

  pub shape_by_numbers : HeadOk (vars_f f) (room_f f) (made_f f) (focus_f f) → CellsOk f → f.node 0 ≡ top_node → InnersOk f → BlanksOk f → Shape f
  shape_by_numbers head cells zeroth inners blanks =
      record { head = head; cells = cells; top = zeroth; nodes = λ n l h. nodes n l h (dec_lt n (made_f f)); no_gap = λ n l h. (gap n l, λ m. blanks n m h) }
    where
      nodes : (n : ℕ) → 1 ≤ n → n < room_f f → Dec (n < made_f f) → (f.node n ≡ blank_node) ⊎ NodeOk (vars_f f) n (depth_above f n) (f.node n)
      nodes n l h (yes m) = inr (inners n l m)
      nodes n l h (no m) = inl (blanks n (omega arith) h)

      gap : (n : ℕ) → 1 ≤ n → f.node n ≡ blank_node → made_f f ≤ n
      gap n l e = go (dec_lt n (made_f f))
        where
          go : Dec (n < made_f f) → made_f f ≤ n
          go (yes m) = absurd (blank_no_node (f.node n) e (inners n l m).node)
          go (no m) = omega arith

module _ (f : Fields) (buffer : OfBuffer f) (ok : Shape f) where
  -- past made every node is blank, past N too
  pub blank_node_lem : (n : ℕ) → made_f f ≤ n → f.node n ≡ blank_node
  blank_node_lem n h = go (dec_lt n (room_f f))
    where
      go : Dec (n < room_f f) → f.node n ≡ blank_node
      go (yes l) = shape_blanks f ok n h l
      go (no l) = buffer.node_end n (omega arith)

  pub up_inner : (n : ℕ) → 1 ≤ n → n < made_f f → up_n (f.node n) ≡ some (parent_n (f.node n))
  up_inner n l h = up_node (f.node n) (shape_inners f ok n l h).node

  pub not_blank_lem : (n : ℕ) → n < made_f f → what_n (f.node n) ≢ blank
  not_blank_lem n h e = go (place (made_f f) n)
    where
      go : Place (made_f f) n → ⊥
      go (is_top z) =
          let q : top ≡ blank = sym what_top ∙ ap what_n (sym ok.top) ∙ (rw z at e) in
          let y : ◌≡◌ {A = ℕ} 0 1 = cc in omega arith
      go (is_inner l k) = node_not_blank (f.node n) (shape_inners f ok n l k).node e
      go (is_blank b) = omega arith

  -- a node with a parent is an inner one
  pub inner_up : (n p : ℕ) → up_n (f.node n) ≡ some p → (1 ≤ n) × (n < made_f f) × (parent_n (f.node n) ≡ p)
  inner_up n p e = go (place (made_f f) n)
    where
      go : Place (made_f f) n → (1 ≤ n) × (n < made_f f) × (parent_n (f.node n) ≡ p)
      go (is_top z) = some≢none e (ap (λ (m : ℕ). up_n (f.node m)) z ∙ ap up_n ok.top ∙ up_top)
      go (is_inner l k) = (l, k, (let q = up_inner n l k in cc))
      go (is_blank b) = some≢none e (ap up_n (blank_node_lem n b) ∙ up_blank)

  -- a node is one deeper than its parent
  deeper : (n p : ℕ) → up_n (f.node n) ≡ some p → depth_n (f.node n) ≡ suc (depth_n (f.node p))
  deeper n p e = let (l, h, q) = inner_up n p e in (shape_inners f ok n l h).depth ∙ ap (λ (m : ℕ). suc (depth_n (f.node m))) q

  pub shape_proper : Proper (tree_f f.node)
  unfolding tree_f
  shape_proper = record {
    falls = λ a p e. omega (arith, deeper a p e);
    made_up = λ a p e. let (l, h, q) = inner_up a p e in not_blank_lem p (omega (arith, parents_made f ok a l h));
    blank_up = λ a e. no_parent_lem a e (place (made_f f) a);
    one_top = λ a e u. top_only a e u (place (made_f f) a);
  }
    where
      no_parent_lem : (a : ℕ) → what_n (f.node a) ≡ blank → Place (made_f f) a → up_n (f.node a) ≡ none
      no_parent_lem a e (is_top z) = ap (λ (m : ℕ). up_n (f.node m)) z ∙ ap up_n ok.top ∙ up_top
      no_parent_lem a e (is_inner l h) = absurd (not_blank_lem a h e)
      no_parent_lem a e (is_blank b) = ap up_n (blank_node_lem a b) ∙ up_blank

      top_only : (a : ℕ) → what_n (f.node a) ≢ blank → up_n (f.node a) ≡ none → Place (made_f f) a → a ≡ 0
      top_only a e u (is_top z) = z
      top_only a e u (is_inner l h) = some≢none (up_inner a l h) u
      top_only a e u (is_blank b) = absurd (e (ap what_n (blank_node_lem a b) ∙ what_blank))

  pub shape_ranked : Ranked (tree_f f.node)
  unfolding tree_f
  shape_ranked = record { at_top = λ a e. outer a e (place (made_f f) a); below = deeper }
    where
      outer : (a : ℕ) → up_n (f.node a) ≡ none → Place (made_f f) a → depth_n (f.node a) ≡ 0
      outer a e (is_top z) = ap (λ (m : ℕ). depth_n (f.node m)) z ∙ ap depth_n ok.top ∙ depth_top
      outer a e (is_inner l h) = some≢none (up_inner a l h) e
      outer a e (is_blank b) = ap depth_n (blank_node_lem a b) ∙ depth_blank

  -- a path lies among the made nodes
  pub path_made : (a k : ℕ) → on k (path (tree_f f.node) a) ≡ true → k < made_f f
  unfolding tree_f
  path_made a k h = go (up_n (f.node k)) refl
    where
      go : (o : Option ℕ) → up_n (f.node k) ≡ o → k < made_f f
      go none e = clash h (on_path_up (tree_f f.node) shape_proper a k e)
      go (some p) e = (inner_up k p e).1

  -- so no depth exceeds their number
  pub depth_few : (a : ℕ) → depth_n (f.node a) ≤ made_f f
  unfolding tree_f
  depth_few a =
      let t = tree_f f.node in
      omega (arith, rank_depth t shape_proper shape_ranked a, count_on (path t a) (made_f f) (path_once t shape_proper a) (path_made a), count_le (λ k. on k (path t a)) (made_f f))

  -- the top and the blanks are not in, and on no path
  outer_modes : (n : ℕ) → up_n (f.node n) ≡ none → Place (made_f f) n → is_in (kind_n (f.node n)) ≡ on n (path (tree_f f.node) (focus_f f))
  unfolding tree_f
  outer_modes n u q = mode q ∙ sym (on_path_up (tree_f f.node) shape_proper (focus_f f) n u)
    where
      mode : Place (made_f f) n → is_in (kind_n (f.node n)) ≡ false
      mode (is_top z) = ap (λ (m : ℕ). is_in (kind_n (f.node m))) z ∙ ap (λ (p : List ℕ). is_in (kind_n p)) ok.top ∙ in_top
      mode (is_inner l h) = some≢none (up_inner n l h) u
      mode (is_blank b) = ap (λ (p : List ℕ). is_in (kind_n p)) (blank_node_lem n b) ∙ in_blank

  -- so it is the inner nodes' modes that count
  pub modes_by_numbers : ((n : ℕ) → 1 ≤ n → n < made_f f → is_in (kind_n (f.node n)) ≡ on n (path (tree_f f.node) (focus_f f))) → Ins f
  modes_by_numbers inners n = go (place (made_f f) n)
    where
      go : Place (made_f f) n → is_in (kind_n (f.node n)) ≡ on n (path (tree_f f.node) (focus_f f))
      go (is_inner l h) = inners n l h
      go (is_top z) = outer_modes n (ap (λ (m : ℕ). up_n (f.node m)) z ∙ ap up_n ok.top ∙ up_top) (is_top z)
      go (is_blank b) = outer_modes n (ap up_n (blank_node_lem n b) ∙ up_blank) (is_blank b)

-- ---- sound fields are seen as a sound store
pub seen_sound : (f : Fields) → OfBuffer f → SoundF f → store.Sound (view_f f)
unfolding view_f tree_f
seen_sound f buffer ok = record {
  proper = shape_proper f buffer ok.shape;
  focus_made = not_blank_lem f buffer ok.shape (focus_f f) ok.shape.head.focus_made;
  modes = ok.ins;
}

-- ---- of buffers
pub headed_fit : (s : List ℕ) → Headed s → Fit s
headed_fit s h = record { v = h.head.vars_high; n = h.head.room_high; long = h.long }

pub sound_headed : (s : List ℕ) → Whole s → Headed s
unfolding fields_of
sound_headed s h = record { long = h.long; head = h.fields.shape.head }

pub sound_fit : (s : List ℕ) → Whole s → Fit s
sound_fit s h = headed_fit s (sound_headed s h)

pub sound_view : (s : List ℕ) → Whole s → store.Sound (view s)
unfolding view
sound_view s h = seen_sound (fields_of s) (of_buffer s (sound_fit s h)) h.fields

pub sound_ranked : (s : List ℕ) → Whole s → Ranked (view s).tree
unfolding view view_f
sound_ranked s h = shape_ranked (fields_of s) (of_buffer s (sound_fit s h)) h.fields.shape
