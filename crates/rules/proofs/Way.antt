-- What is proved of specs/Way.antt, whose head says it in words. Assumes nothing.
use Rattle.std.specs.Prelude.{◌≡◌, refl, ◌≢◌, Bool, true, false, length}
use Rattle.std.proofs.Common.{sym, ◌∙◌, subst₂, arith, length-append}
use Rattle.std.proofs.Math.Path.{ap}
use mathlib.Core.List.{List, ◌∷◌, ◌++◌}
use Prim.Native.Nat.{ℕ, zero, suc, ◌≤◌}
use Rattle.rules.specs.Basic.{on}
use Rattle.rules.specs.Tree.{blank, Tree, Proper, path}
use Rattle.rules.specs.Store.{Store, Sound, goto}
use Rattle.rules.proofs.Store.{goto_sound, goto_goto, goto_tree, goto_focus}
use Rattle.rules.specs.Far.{far}
use Rattle.rules.proofs.Far.{far_least, far_self}
use Rattle.rules.specs.Moves.{Move, left, entered, route, Moves, trace}
use Rattle.rules.proofs.Moves.{route_length, moves_chain, moves_tree, moves_sound, trace_append}
use Rattle.rules.proofs.Walk.{goto_moves}
use Rattle.rules.specs.Route.{Next, there, leaves, enters}
use Rattle.rules.proofs.Route.{next, leave_first, enter_first, first_far, made_child, far_triangle, route_self}
use Rattle.rules.specs.Way.{OnWay, ByWay}

-- ---- the route by way of m
module _ (t : Tree) (ok : Proper t) where
  route_by_way : (k f m l : ℕ) → t.what f ≢ blank → t.what m ≢ blank → t.what l ≢ blank → far t f m ≡ k → OnWay t f m l
      → route t f l ≡ route t f m ++ route t m l
  unfolding OnWay
  route_by_way zero f m l mf mm ml h w = go (next t ok f m mf mm)
    where
      go : Next t f m → route t f l ≡ route t f m ++ route t m l
      go (there e) = rw (e, route_self t ok m)
      go (leaves p e o r) = absurd (omega (arith, first_far t ok f m p (left f) r))
      go (enters c e o r) = absurd (omega (arith, first_far t ok f m c (entered c) r))
  route_by_way (suc k) f m l mf mm ml h w = go (next t ok f m mf mm) (λ g. route_by_way k g m l)
    where
      join : (g : ℕ) (v : Move) → route t f m ≡ v ∷ route t g m → route t f l ≡ v ∷ route t g l → route t g l ≡ route t g m ++ route t m l
          → route t f l ≡ route t f m ++ route t m l
      join g v p q r = q ∙ ap (λ (ms : List Move). v ∷ ms) r ∙ ap (λ (ms : List Move). ms ++ route t m l) (sym p)

      go : Next t f m
          → ((g : ℕ) → t.what g ≢ blank → t.what m ≢ blank → t.what l ≢ blank → far t g m ≡ k → OnWay t g m l → route t g l ≡ route t g m ++ route t m l)
          → route t f l ≡ route t f m ++ route t m l
      go (there e) ih = absurd (omega (arith, far_self t ok m, ap (λ (a : ℕ). far t a m) e))
      go (leaves p e o r) ih = off (on f (path t l)) refl
        where
          mp : t.what p ≢ blank
          mp = ok.made_up f p e

          off : (b : Bool) → on f (path t l) ≡ b → route t f l ≡ route t f m ++ route t m l
          off true q = absurd (omega (arith, first_far t ok p l f (entered f) (enter_first t ok f p l e q), first_far t ok f m p (left f) r, far_triangle t ok p m l mp mm ml))
          off false q =
              let first : route t f l ≡ left f ∷ route t p l = leave_first t ok f p l e q in
              join p (left f) r first (ih p mp mm ml (omega (arith, first_far t ok f m p (left f) r))
              (omega (arith, first_far t ok f m p (left f) r, first_far t ok f l p (left f) first)))
      go (enters c e o r) ih = off (on c (path t l)) refl
        where
          mc : t.what c ≢ blank
          mc = made_child t ok c f e

          off : (b : Bool) → on c (path t l) ≡ b → route t f l ≡ route t f m ++ route t m l
          off false q = absurd (omega (arith, first_far t ok c l f (left c) (leave_first t ok c f l e q), first_far t ok f m c (entered c) r, far_triangle t ok c m l mc mm ml))
          off true q =
              let first : route t f l ≡ entered c ∷ route t c l = enter_first t ok c f l e q in
              join c (entered c) r first (ih c mc mm ml (omega (arith, first_far t ok f m c (entered c) r))
              (omega (arith, first_far t ok f m c (entered c) r, first_far t ok f l c (entered c) first)))

pub by_way : (s : Store) (m l : ℕ) → Sound s → s.tree.what m ≢ blank → s.tree.what l ≢ blank → OnWay s.tree s.focus m l → ByWay s m l
unfolding OnWay
by_way s m l ok mm ml w = record {
  ends_equal = goto_goto l m s;
  moves_join = joined;
  counts_join = sym w;
  events_join = ap (trace s.tree) joined ∙ trace_append s.tree (route s.tree s.focus m) (route s.tree m l);
  first_part = goto_moves (far s.tree s.focus m) m s ok mm refl;
  second_part = subst₂ (λ (ms : List Move) (s' : Store). Moves (goto m s) ms s') from_m (goto_goto l m s) (goto_moves _ l (goto m s) (goto_sound m s ok mm) (rw goto_tree ml) refl);
}
  where
    from_m : route (goto m s).tree (goto m s).focus l ≡ route s.tree m l
    from_m = rw (goto_tree m s, goto_focus m s)

    joined : route s.tree s.focus l ≡ route s.tree s.focus m ++ route s.tree m l
    joined = route_by_way s.tree ok.proper (far s.tree s.focus m) s.focus m l ok.focus_made mm ml refl w

-- every environment that the route passes is on the way: the focus after a first part of its moves
pub passed_on_way : (s s₁ : Store) (l : ℕ) (ms ms' : List Move) → Sound s → s.tree.what l ≢ blank
    → route s.tree s.focus l ≡ ms ++ ms' → Moves s ms s₁ → Moves s₁ ms' (goto l s) → OnWay s.tree s.focus s₁.focus l
unfolding OnWay
passed_on_way s s₁ l ms ms' ok ml e r r' =
    let same : s₁.tree ≡ s.tree = moves_tree r in
    let made : s.tree.what s₁.focus ≢ blank = rw same at (moves_sound r ok).focus_made in
    let first : far s.tree s.focus s₁.focus ≤ length ms = far_least s.tree ok.proper (moves_chain r) in
    let second : far s.tree s₁.focus l ≤ length ms' = far_least s.tree ok.proper (rw (same, goto_focus l s) at (moves_chain r')) in
    omega (arith, far_triangle s.tree ok.proper s.focus s₁.focus l ok.focus_made made ml, route_length s.tree s.focus l, ap length e, length-append ms ms')
