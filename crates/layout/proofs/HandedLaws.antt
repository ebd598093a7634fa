-- Whether the walk that the header names is sound, as the code finds it (document 02, W5): the wind's record is read, and the
-- target is lifted to its depth. Assumes nothing.
use Rattle.std.specs.Prelude.{◌≡◌, ◌≢◌, ℕ, ◌≤◌, ◌<◌, List}
use Rattle.std.proofs.Common.{sym, ◌∙◌, arith}
use Rattle.std.proofs.Math.Path.{ap, subst}
use Rattle.std.proofs.Math.Option.{Option, none, some}
use Rattle.std.proofs.Math.Decide.{ℕ_discrete}
use Rattle.rules.proofs.Basic.{clash}
use Rattle.rules.specs.Tree.{blank, Tree}
use Rattle.rules.proofs.Tree.{deeper_off}
use Rattle.rules.specs.Moves.{is_wind}
use Rattle.rules.specs.Store as store
use Rattle.rules.specs.Leg.{Handed, Walking}
use Rattle.layout.specs.Limits.{none_n}
use Rattle.layout.specs.Records.{focus, target, handed, node_of, kind_n, parent_n, top_node}
use Rattle.layout.specs.Kinds.{IsWind}
use Rattle.layout.specs.Fields.{fields_of}
use Rattle.layout.specs.View.{what_n, tree_f, view_f, view, or_none, walk_of}
use Rattle.layout.specs.Sound.{Whole, WalkOk, Sound}
use Rattle.layout.specs.Made.{IsMade}
use Rattle.layout.proofs.Laws.{node_in}
use Rattle.layout.proofs.SoundLaws.{what_wind, sound_view}
use Rattle.layout.proofs.MoveLaws.{inner}
use Rattle.layout.proofs.WalkLaws.{sized_then, made_room, made_seen, seen_made}
use Rattle.layout.proofs.Reading.{up_is}
use Rattle.layout.proofs.RouteLaws.{plain}
use Rattle.layout.specs.Lifts.{depth_at, Lifted}
use Rattle.layout.proofs.FarLaws.{lifted_on, on_lifted}
use Rattle.layout.proofs.StrideLaws.{no_target, no_walk_lem, with_target_lem, Rewalked}

pub top_kind : (s : List ℕ) → Whole s → kind_n (node_of s 0) ≡ 1
unfolding fields_of kind_n top_node
top_kind s ok = ap kind_n (sym (node_in s 0 (omega (arith, ok.fields.shape.head.room_low))) ∙ ok.fields.shape.top)

module _ (s : List ℕ) (ok : Whole s) (a c : ℕ) where
  abbrev t : Tree
  t = (view s).tree

  abbrev Is : Type 0
  Is = Handed t (focus s) a (some c)

  -- ---- what fails
  pub handed_made : Is → IsMade s c
  unfolding IsMade
  handed_made (u, o, w) = (inner s ok c (focus s) u).1

  what_is : IsMade s c → t.what c ≡ what_n (node_of s c)
  unfolding view view_f tree_f fields_of
  what_is m = ap what_n (node_in s c (made_room s ok c m))

  pub handed_wind : IsMade s c → (IsWind (kind_n (node_of s c)) → ⊥) → Is → ⊥
  handed_wind m not_wind (u, o, w) = omega (arith, plain (node_of s c) not_wind, sym (ap is_wind (what_is m)) ∙ w)

  pub handed_parent : IsMade s c → Is → parent_n (node_of s c) ≡ focus s
  unfolding IsMade
  handed_parent m (u, o, w) = ap parent_n (sym (node_in s c (made_room s ok c m))) ∙ (inner s ok c (focus s) u).2

  pub handed_deep : depth_at s a < depth_at s c → Is → ⊥
  handed_deep l (u, o, w) = clash o (deeper_off t (sound_view s ok).proper c a (omega arith) (λ e. omega (arith, ap (depth_at s) e)))

  -- ---- what is left to ask of a child of the focus that is a wind
  pub handed_says : IsMade s c → IsWind (kind_n (node_of s c)) → parent_n (node_of s c) ≡ focus s → (r : ℕ) → Lifted s a (depth_at s c) r → (r ≡ c → Is) × (Is → r ≡ c)
  handed_says m is p r l = (λ e. (up, lifted_on s ok a c (focus s) r up l e, ap is_wind (what_is m ∙ what_wind (node_of s c) is)), λ h. on_lifted s ok a c r l h.1)
    where
      -- the top is no wind
      inside : 1 ≤ c
      inside = go (ℕ_discrete c 0)
        where
          go : Dec (c ≡ 0) → 1 ≤ c
          go (yes e) = absurd (omega (arith, top_kind s ok, ap (λ (n : ℕ). kind_n (node_of s n)) e, rw (← (node_in s c (made_room s ok c m))) at is))
          go (no d) = omega arith

      up : t.up c ≡ some (focus s)
      up = up_is s ok c inside m ∙ ap some p

-- ---- the whole clause
module _ (s : List ℕ) (ok : Whole s) where
  -- outside a walk no wind stands in the header
  pub rest_says : target s ≡ none_n → (handed s ≡ none_n → WalkOk (fields_of s)) × (WalkOk (fields_of s) → handed s ≡ none_n)
  unfolding fields_of
  rest_says e = (no_walk_lem (fields_of s) e, λ w. w.only e)

  -- during one the target is made
  pub walking_at : target s ≢ none_n → WalkOk (fields_of s) → ((view s).tree.what (target s) ≢ blank) × Handed (view s).tree (focus s) (target s) (or_none (handed s))
  unfolding view view_f fields_of
  walking_at d w = subst (Walking (tree_f (fields_of s).node) (focus s)) (with_target_lem (fields_of s) d) w.walking

  pub target_made : target s ≢ none_n → WalkOk (fields_of s) → IsMade s (target s)
  target_made d w = seen_made s ok (target s) (walking_at d w).0

  -- .. and the wind decides
  pub walk_says : target s ≢ none_n → IsMade s (target s) → (o : Option ℕ) → or_none (handed s) ≡ o
      → (Handed (view s).tree (focus s) (target s) o → WalkOk (fields_of s)) × (WalkOk (fields_of s) → Handed (view s).tree (focus s) (target s) o)
  unfolding view view_f fields_of
  walk_says d m o e = (
    λ h. record {
      walking = subst (Walking (tree_f (fields_of s).node) (focus s)) (sym (with_target_lem (fields_of s) d)) (made_seen s ok (target s) m, rw e h);
      only = λ z. absurd (d z);
    },
    λ w. rw e at (walking_at d w).1,
  )

-- ---- from the two numbers to the walk that they name
module _ {s t : List ℕ} {a c : ℕ} (r : Rewalked s t a c) where
  pub under_way_lem : a ≢ none_n → walk_of t ≡ some (record { target = a; handed = or_none c })
  unfolding walk_of fields_of
  under_way_lem d =
      with_target_lem (fields_of t) (λ e. d (sym r.target ∙ e))
      ∙ (λ i. some (record { target = r.target i; handed = or_none (r.handed i) }))

  pub walks : a ≢ none_n → (view s).tree.what a ≢ blank → Handed (view s).tree (focus s) a (or_none c) → Sound t
  unfolding view view_f fields_of
  walks d m h =
      let tree : (view t).tree ≡ (view s).tree = ap (λ (w : store.Store). w.tree) r.seen in
      let foc : focus t ≡ focus s = ap (λ (w : store.Store). w.focus) r.seen in
      let made : IsMade t (target t) = rw r.target (seen_made t r.whole a (λ e. m (sym (ap (λ (u : Tree). u.what a) tree) ∙ e))) in
      record {
        whole = r.whole;
        walk = (walk_says t r.whole (λ e. d (sym r.target ∙ e)) made (or_none c) (ap or_none r.handed)).0
            (subst (λ (u : Tree). Handed u (focus t) (target t) (or_none c)) (sym tree) (rw (foc, r.target) h));
      }

  pub over : a ≡ none_n → c ≡ none_n → Sound t × (walk_of t ≡ none)
  unfolding walk_of fields_of
  over e k =
      (record { whole = r.whole; walk = no_walk_lem (fields_of t) (r.target ∙ e) (r.handed ∙ k) }, no_target (fields_of t) (r.target ∙ e))

-- one after the other
pub rewalked_then : {s t u : List ℕ} {a b c d : ℕ} → Rewalked s t a c → Rewalked t u b d → Rewalked s u b d
rewalked_then x y = record { whole = y.whole; seen = y.seen ∙ x.seen; size = sized_then x.size y.size; target = y.target; handed = y.handed }

-- an environment's number is never that of none
pub made_some : (s : List ℕ) → Whole s → (a : ℕ) → IsMade s a → a ≢ none_n
unfolding IsMade fields_of
made_some s ok a m e = omega (arith, ok.fields.shape.head.made_high, ok.fields.shape.head.room_high)

-- the same environments are made
pub still_made : {s t : List ℕ} {b c : ℕ} → Whole s → Rewalked s t b c → (a : ℕ) → IsMade s a → IsMade t a
still_made {s} {t} ok r a m = seen_made t r.whole a (λ e. made_seen s ok a m (sym (ap (λ (w : store.Store). w.tree.what a) r.seen) ∙ e))
