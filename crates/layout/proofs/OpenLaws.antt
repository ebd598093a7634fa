-- What open writes is a sound store: V and N as asked, only the top made, the focus at it, the cells those handed in, and the
-- bytes past the size as they were. Assumes nothing.
use Rattle.std.specs.Prelude.{◌≡◌, refl, Bool, true, cond, ℕ, zero, suc, ◌+◌, ◌≤◌, ◌<◌, eqb}
use Rattle.std.proofs.Math.Path.{ap, fun_ext}
use Rattle.std.proofs.Common.{◌∙◌, arith, drop_at, ne_eqb, lt-ltb, le-ltb}
use Rattle.std.proofs.Math.Bool.{false}
use Rattle.std.proofs.Math.Option.{none}
use Rattle.std.proofs.Math.Decide.{dec_lt}
use mathlib.Core.List.{List, ◌++◌}
use Rattle.std.proofs.Math.ListN.{length, length-append}
use Rattle.rules.specs.Tree.{blank, top}
use Rattle.rules.specs.Values.{unbound}
use Rattle.rules.specs.Store.{home}
use Rattle.rules.specs.Calls.{value_at, open_what, opened}
use Rattle.rules.proofs.Calls.{open_values}
use Rattle.layout.specs.Limits.{none_n, size_of}
use Rattle.layout.specs.Opening.{OpenFits, top_cells}
use Rattle.layout.specs.Records.{vars, room, made, focus, target, handed, ProperCell, bare_c, top_c, kind_n, stored_n, depth_n, top_node, blank_node}
use Rattle.layout.specs.Kinds.{is_in}
use Rattle.layout.specs.Fields.{cells, nodes, fields_of, past}
use Rattle.layout.specs.View.{as_cell, what_n, up_n, tree_f, view_f, view, walk_of}
use Rattle.layout.specs.Sound.{Shape, Whole, Sound}
use Rattle.layout.specs.Made.{IsMade}
use Rattle.layout.specs.Writes.{open_b}
use Rattle.layout.proofs.Laws.{node_in, node_past, cell_in, cell_past, of_buffer}
use Rattle.layout.proofs.RecordLaws.{bare_length, bare_whole, as_blank}
use Rattle.layout.proofs.PlaceLaws.{opened_vars, opened_room, opened_made, opened_focus, opened_target, opened_handed, opened_size, opened_cell, opened_top, opened_blank}
use Rattle.layout.proofs.SoundLaws.{what_top, what_blank, up_top, up_blank, in_top, in_blank, depth_top, depth_blank, shape_by_numbers, modes_by_numbers, headed_fit}
use Rattle.layout.proofs.StrideLaws.{no_target, no_walk_lem}

-- ---- an opened store t, with the bytes `rest` past its size
pub record Opens (v n : ℕ) (tops rest t : List ℕ) : Type 0 where
  pub sound : Sound t
  pub vars : vars t ≡ v
  pub room : room t ≡ n
  pub only_top : (a : ℕ) → IsMade t a → a ≡ 0
  pub focus : focus t ≡ 0
  pub values : (a x : ℕ) → x < v → value_at (home (view t)) a x ≡ as_cell (top_c tops x)
  pub seen : view t ≡ opened (λ m. 0) (top_cells v tops)
  pub walk : walk_of t ≡ none
  pub past : past t ≡ rest
  pub long : length t ≡ size_of v n + length rest

pub stored_top : as_cell (stored_n top_node) ≡ unbound
unfolding stored_n top_node
stored_top = as_blank

pub stored_blank : as_cell (stored_n blank_node) ≡ unbound
unfolding stored_n blank_node
stored_blank = as_blank

-- ---- its fields
module _ (v n : ℕ) (tops rest : List ℕ) (ok : OpenFits v n tops) where
  abbrev t : List ℕ
  t = open_b v n tops ++ rest

  vars_is : vars t ≡ v
  vars_is = opened_vars v n tops rest

  room_is : room t ≡ n
  room_is = opened_room v n tops rest

  made_is : made t ≡ 1
  made_is = opened_made v n tops rest

  focus_is : focus t ≡ 0
  focus_is = opened_focus v n tops rest

  target_is : target t ≡ none_n
  target_is = opened_target v n tops rest

  handed_is : handed t ≡ none_n
  handed_is = opened_handed v n tops rest

  size_is : length (open_b v n tops) ≡ size_of v n
  size_is = opened_size v n tops rest ok.room_low

  -- ---- the nodes and the cells as functions
  top_node_lem : nodes t 0 ≡ top_node
  top_node_lem = node_in t 0 (omega (arith, room_is, ok.room_low)) ∙ opened_top v n tops rest

  blank_node_lem : (m : ℕ) → 1 ≤ m → nodes t m ≡ blank_node
  blank_node_lem m l = go (dec_lt m n)
    where
      go : Dec (m < n) → nodes t m ≡ blank_node
      go (yes h) = node_in t m (omega (arith, room_is)) ∙ opened_blank v n tops rest m l h
      go (no h) = node_past t m (omega (arith, room_is))

  -- what is read of a node, where it is a at the top and b at a blank
  by_node : {A : Type 0} (g : List ℕ → A) (a b : A) → g top_node ≡ a → g blank_node ≡ b → (m : ℕ) → g (nodes t m) ≡ cond (eqb m 0) a b
  by_node g a b p q zero = ap g top_node_lem ∙ p
  by_node g a b p q (suc m) = rw (ne_eqb (suc m) 0 (λ e. omega arith)) (ap g (blank_node_lem (suc m) (omega arith)) ∙ q)

  -- where the two are the same
  by_any : {A : Type 0} (g : List ℕ → A) (a : A) → g top_node ≡ a → g blank_node ≡ a → (m : ℕ) → g (nodes t m) ≡ a
  by_any g a p q zero = ap g top_node_lem ∙ p
  by_any g a p q (suc m) = ap g (blank_node_lem (suc m) (omega arith)) ∙ q

  -- its bare cell is the one handed in
  bare_at : (x : ℕ) → x < v → bare_c (cells t x) ≡ top_c tops x
  unfolding top_c
  bare_at x h = ap bare_c (cell_in t x (omega (arith, vars_is)) ∙ opened_cell v n tops rest x h) ∙ bare_whole (top_c tops x) (bare_length _)

  cell_seen : (x : ℕ) → as_cell (bare_c (cells t x)) ≡ top_cells v tops x
  unfolding top_cells bare_c
  cell_seen x = go (dec_lt x v)
    where
      go : Dec (x < v) → as_cell (bare_c (cells t x)) ≡ top_cells v tops x
      go (yes h) = rw (lt-ltb x v h) (ap as_cell (bare_at x h))
      go (no h) = rw (le-ltb x v (omega arith)) (ap (λ (p : List ℕ). as_cell (bare_c p)) (cell_past t x (omega (arith, vars_is))) ∙ as_blank)

  what_cond : (b : Bool) → cond b top blank ≡ open_what b
  what_cond true = refl
  what_cond false = refl

  seen_is : view t ≡ opened (λ m. 0) (top_cells v tops)
  unfolding view view_f tree_f fields_of
  seen_is = λ i. record {
    tree = record {
      what = fun_ext (λ m. by_node what_n top blank what_top what_blank m ∙ what_cond (eqb m 0)) i;
      up = fun_ext (by_any up_n none up_top up_blank) i;
      rank = fun_ext (by_any depth_n 0 depth_top depth_blank) i;
    };
    focus = focus_is i;
    values = record { cell = fun_ext cell_seen i; stored = fun_ext (by_any (λ p. as_cell (stored_n p)) unbound stored_top stored_blank) i };
    mode = fun_ext (by_any (λ p. is_in (kind_n p)) false in_top in_blank) i;
  }

  only_top_is : (a : ℕ) → IsMade t a → a ≡ 0
  unfolding IsMade
  only_top_is a h = omega (arith, made_is)

  values_are : (a x : ℕ) → x < v → value_at (home (view t)) a x ≡ as_cell (top_c tops x)
  unfolding top_cells
  values_are a x h = rw seen_is (open_values (λ m. 0) (top_cells v tops) a x ∙ rw (lt-ltb x v h))

  module _ (proper : (x : ℕ) → x < v → ProperCell (top_c tops x)) where
    cell_proper : (x : ℕ) → x < vars t → ProperCell (bare_c (cells t x))
    cell_proper x h = let k : x < v = omega (arith, vars_is) in rw (bare_at x k) (proper x k)

    long : size_of (vars t) (room t) ≤ length t
    long = rw (vars_is, room_is) (omega (arith, length-append (open_b v n tops) rest, size_is))

    shape : Shape (fields_of t)
    unfolding fields_of
    shape =
        shape_by_numbers (fields_of t)
        (rw (vars_is, room_is, made_is, focus_is) record {
          vars_low = ok.vars_low;
          vars_high = ok.vars_high;
          room_low = ok.room_low;
          room_high = ok.room_high;
          made_low = omega arith;
          made_high = ok.room_low;
          focus_made = omega arith;
        })
        cell_proper top_node_lem (λ m l h. absurd (omega (arith, made_is))) (λ m l h. blank_node_lem m (omega (arith, made_is)))

    whole_is : Whole t
    unfolding fields_of
    whole_is = record {
      long = long;
      fields = record {
        shape = shape;
        ins = modes_by_numbers (fields_of t) (of_buffer t (headed_fit t (record { long = long; head = shape.head }))) shape (λ m l h. absurd (omega (arith, made_is)));
      };
    }

    pub opens : Opens v n tops rest (open_b v n tops ++ rest)
    unfolding past walk_of fields_of
    opens = record {
      sound = record { whole = whole_is; walk = no_walk_lem (fields_of t) target_is handed_is };
      vars = vars_is;
      room = room_is;
      only_top = only_top_is;
      focus = focus_is;
      values = values_are;
      seen = seen_is;
      walk = no_target (fields_of t) target_is;
      past = rw (vars_is, room_is) (drop_at (open_b v n tops) rest (size_of v n) size_is);
      long = length-append (open_b v n tops) rest ∙ ap (λ (k : ℕ). k + length rest) size_is;
    }
