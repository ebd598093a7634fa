-- The way up from an environment of a sound store, by the number of its parent, as the loops go it. Assumes nothing.
use mathlib.Core.Path.{◌≡◌, refl, sym, ap, subst, ◌∙◌}
use mathlib.Core.Bool.{Bool, true, false, cond}
use mathlib.Core.Option.{none, some}
use mathlib.Core.List.{List, [], ◌∷◌}
use Prim.Native.Nat.{ℕ, zero, suc, ◌+◌, ◌*◌, ◌≤◌, ◌<◌}
use native.Mathlib.Omega.{arith}
use native.Mathlib.Decide.{dec_le}
use lib.Dec.{eqb}
use lib.ListN.{length}
use Rattle.rules.specs.Basic.{or_top}
use Rattle.rules.specs.Tree.{blank, top, binding, wind, Proper, path}
use Rattle.rules.proofs.Tree.{path_top, path_up}
use Rattle.rules.specs.Values.{Cell, unbound, value}
use Rattle.layout.specs.Records.{node_of, kind_n, parent_n, var_n, post_n}
use Rattle.layout.specs.Kinds.{within, by_kind}
use Rattle.layout.specs.Fields.{nodes, fields_of}
use Rattle.layout.specs.View.{what_n, up_n, tree_f, view_f, view}
use Rattle.layout.specs.Sound.{Whole}
use Rattle.layout.specs.Made.{IsMade}
use Rattle.layout.proofs.Laws.{node_in}
use Rattle.layout.proofs.SoundLaws.{up_top, sound_view, shape_inners}
use Rattle.layout.proofs.WalkLaws.{made_room}
use Rattle.layout.proofs.Reading.{up_is, up_made}
use Rattle.promises.specs.Answers.{tell_binding, telling}
use Rattle.promises.specs.Promises.{at, tells}
use Rattle.print.specs.Printed.{longest}

-- the parent that is told is the parent, 0 where there is none
binding_parent : (p x : ℕ) (c : Cell) → (tell_binding p x c).parent ≡ p
binding_parent p x unbound = refl
binding_parent p x (value v) = refl

node_parent : (p : List ℕ) (own : ℕ → Cell) → (telling (what_n p) (or_top (up_n p)) own).parent ≡ or_top (up_n p)
unfolding what_n up_n by_kind
node_parent p own = go (within 2 (kind_n p) 3) (within 4 (kind_n p) 5) (eqb (kind_n p) 1)
  where
    go : (a b c : Bool) → (telling (cond a (binding (var_n p)) (cond b (wind (var_n p) (post_n p)) (cond c top blank))) (or_top (cond a (some (parent_n p)) (cond b (some (parent_n p)) (cond c none none)))) own).parent
        ≡ or_top (cond a (some (parent_n p)) (cond b (some (parent_n p)) (cond c none none)))
    go true b c = binding_parent (parent_n p) (var_n p) (own (var_n p))
    go false true c = refl
    go false false true = refl
    go false false false = refl

pub told_parent : (s : List ℕ) (n : ℕ) → (tells s n).parent ≡ or_top ((view s).tree.up n)
unfolding view view_f tree_f fields_of
told_parent s n = node_parent (nodes s n) (at s n)

module _ (s : List ℕ) (ok : Whole s) where
  proper : Proper (view s).tree
  proper = (sound_view s ok).proper

  up_none : (view s).tree.up 0 ≡ none
  unfolding view view_f tree_f fields_of
  up_none = ap up_n ok.fields.shape.top ∙ up_top

  pub path_none : path (view s).tree 0 ≡ []
  path_none = path_top (view s).tree proper 0 up_none

  pub top_parent : (tells s 0).parent ≡ 0
  top_parent = told_parent s 0 ∙ ap or_top up_none

  -- the parent of an environment below the top
  module _ (n : ℕ) (l : 1 ≤ n) (m : IsMade s n) where
    pub parent_is : (tells s n).parent ≡ parent_n (node_of s n)
    parent_is = told_parent s n ∙ ap or_top (up_is s ok n l m)

    pub parent_made : IsMade s (tells s n).parent
    parent_made = subst (IsMade s) (sym parent_is) (up_made s ok n l m)

    pub path_next : path (view s).tree n ≡ n ∷ path (view s).tree (tells s n).parent
    path_next = subst (λ (p : ℕ). path (view s).tree n ≡ n ∷ path (view s).tree p) (sym parent_is) (path_up (view s).tree proper n (parent_n (node_of s n)) (up_is s ok n l m))

    parent_below : (tells s n).parent < n
    unfolding fields_of IsMade
    parent_below = omega (arith, parent_is, ap parent_n (node_in s n (made_room s ok n m)), (shape_inners (fields_of s) ok.fields.shape n l m).parent)

    pub path_less : length (path (view s).tree n) ≡ suc (length (path (view s).tree (tells s n).parent))
    path_less = ap length path_next

  -- a path is no longer than its number, so every explanation fits
  short_next : (n : ℕ) → 1 ≤ n → IsMade s n → length (path (view s).tree (tells s n).parent) ≤ (tells s n).parent → length (path (view s).tree n) ≤ n
  short_next n l m ih = omega (arith, ih, path_less n l m, parent_below n l m)

  path_short : (f n : ℕ) → n ≤ f → IsMade s n → length (path (view s).tree n) ≤ n
  path_short zero n h m = let e : n ≡ 0 = omega arith in rw (e, path_none) (omega arith)
  path_short (suc f) n h m = go (dec_le 1 n) (λ k. path_short f (tells s n).parent k)
    where
      go : Dec (1 ≤ n) → ((tells s n).parent ≤ f → IsMade s (tells s n).parent → length (path (view s).tree (tells s n).parent) ≤ (tells s n).parent) → length (path (view s).tree n) ≤ n
      go (no l) ih = let e : n ≡ 0 = omega arith in rw (e, path_none) (omega arith)
      go (yes l) ih = short_next n l m (ih (omega (arith, parent_below n l m)) (parent_made n l m))

  pub fits : (n : ℕ) → IsMade s n → longest * (length (path (view s).tree n) + 2) ≤ 196704
  unfolding fields_of
  fits n m = omega (arith, path_short n n (omega arith) m, made_room s ok n m, ok.fields.shape.head.room_high)
