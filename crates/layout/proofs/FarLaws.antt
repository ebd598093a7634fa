-- How far two environments of a sound store are apart, as the code finds it: the deeper one is lifted until both are equally deep,
-- then both are, until they meet. The top is told by its depth. Assumes nothing.
use Rattle.std.specs.Prelude.{◌≡◌, refl, ◌≢◌, true, ℕ, suc, ◌+◌, ◌*◌, ◌-◌, ◌≤◌, ◌<◌, List}
use Rattle.std.proofs.Common.{sym, ◌∙◌, arith}
use Rattle.std.proofs.Math.Path.{ap}
use Rattle.std.proofs.Math.Option.{Option, none, some}
use Rattle.std.proofs.Math.Decide.{ℕ_discrete}
use Rattle.rules.specs.Basic.{or_top, on}
use Rattle.rules.proofs.Basic.{on_head, on_tail, clash, some≢none}
use Rattle.rules.specs.Tree.{blank, Tree, Proper, Ranked, path}
use Rattle.rules.proofs.Tree.{path_up, downward, deeper_off}
use Rattle.rules.specs.Far.{far}
use Rattle.rules.proofs.Far.{far_sym, far_self, far_top, far_lift, far_deeper, far_both}
use Rattle.layout.specs.Records.{focus, node_of, parent_n, depth_n}
use Rattle.layout.specs.Fields.{fields_of}
use Rattle.layout.specs.View.{tree_f, view_f, view}
use Rattle.layout.specs.Sound.{Whole}
use Rattle.layout.specs.Made.{IsMade}
use Rattle.layout.proofs.Laws.{node_in, of_buffer}
use Rattle.layout.proofs.SoundLaws.{sound_fit, sound_view, sound_ranked, depth_few}
use Rattle.layout.proofs.WalkLaws.{made_seen, seen_made, made_room, focus_made}
use Rattle.layout.proofs.Reading.{top_up, up_is, up_made}
use Rattle.layout.proofs.RouteLaws.{moves_entered, meet_top, meet_up, below_meet, meet_over, below_over}
use Rattle.layout.specs.Routes.{meet, Over, moves_from, moves_to, meeting}
use Rattle.layout.specs.Lifts.{depth_at, Lifted}

-- two that are equally deep, and n nearer than a and b
pub record Nearing (s : List ℕ) (a b c e n : ℕ) : Type 0 where
  pub made : IsMade s c
  pub made' : IsMade s e
  pub level : depth_at s c ≡ depth_at s e
  pub left : n + moves_from s c e ≡ moves_from s a b

module _ (s : List ℕ) (ok : Whole s) where
  abbrev t : Tree
  t = (view s).tree

  proper : Proper t
  proper = (sound_view s ok).proper

  ranked : Ranked t
  ranked = sound_ranked s ok

  pub moves_sym : (a b : ℕ) → moves_from s a b ≡ moves_from s b a
  moves_sym a b = far_sym t proper a b

  -- the depth is the one that the record names
  pub depth_is : (a : ℕ) → IsMade s a → depth_n (node_of s a) ≡ depth_at s a
  unfolding view view_f tree_f fields_of
  depth_is a m = ap depth_n (sym (node_in s a (made_room s ok a m)))

  -- and small: two of them, or twice one, are a number of 16 bits
  pub depth_small : (a : ℕ) → IsMade s a → depth_n (node_of s a) ≤ 2048
  unfolding fields_of
  depth_small a m =
      let few = depth_few (fields_of s) (of_buffer s (sound_fit s ok)) ok.fields.shape a in
      omega (arith, few, ok.fields.shape.head, ap depth_n (node_in s a (made_room s ok a m)))

  -- only the top has none above it
  top_depth : depth_at s 0 ≡ 0
  top_depth = ranked.at_top 0 (top_up s ok)

  deep_inner : (a : ℕ) → 1 ≤ depth_at s a → 1 ≤ a
  deep_inner a h = go (ℕ_discrete a 0)
    where
      go : Dec (a ≡ 0) → 1 ≤ a
      go (yes z) = absurd (omega (arith, top_depth, ap (depth_at s) z))
      go (no z) = omega arith

  top_by_depth : (a : ℕ) → IsMade s a → depth_at s a ≡ 0 → t.up a ≡ none
  top_by_depth a m h = go (t.up a) refl
    where
      go : (o : Option ℕ) → t.up a ≡ o → t.up a ≡ none
      go none e = e
      go (some p) e = absurd (omega (arith, ranked.below a p e))

  -- to and from the top it is the depth
  pub from_top : (a b : ℕ) → IsMade s a → depth_at s a ≡ 0 → moves_from s a b ≡ depth_at s b
  from_top a b m h = moves_sym a b ∙ far_top t proper ranked b a (top_by_depth a m h)

  pub to_top : (a b : ℕ) → IsMade s b → depth_at s b ≡ 0 → moves_from s a b ≡ depth_at s a
  to_top a b m h = far_top t proper ranked a b (top_by_depth b m h)

  -- ---- one is lifted
  pub lifted_start : (a : ℕ) → IsMade s a → Lifted s a (depth_at s a) a
  lifted_start a m = record { made = m; deep = refl; nearer = λ b h. omega arith; on_way = λ b h. refl }

  pub lifted_up : (a d c : ℕ) → Lifted s a (depth_at s c) c → d < depth_at s c → Lifted s a (depth_at s (parent_n (node_of s c))) (parent_n (node_of s c)) × (suc (depth_at s (parent_n (node_of s c))) ≡ depth_at s c)
  lifted_up a d c l h =
      let inner = deep_inner c (omega arith) in
      let p = parent_n (node_of s c) in
      let up = up_is s ok c inner l.made in
      let below = ranked.below c p up in (
        record {
          made = up_made s ok c inner l.made;
          deep = refl;
          nearer = λ b k. omega (arith, l.nearer b (omega arith), far_deeper t proper c b p up (omega arith));
          on_way = λ b k. l.on_way b (omega arith) ∙ ap (on b) (path_up t proper c p up) ∙ on_tail b c (path t p) (λ e. omega (arith, ap (depth_at s) e));
        },
        sym below,
      )

  pub lifted_apart : (a b c : ℕ) → depth_at s b ≤ depth_at s a → Lifted s a (depth_at s b) c → moves_from s a b ≡ depth_at s a - depth_at s b + moves_from s c b
  lifted_apart a b c h l = omega (arith, l.nearer b (omega arith))

  -- an inner environment is on a's way just where a, lifted to its depth, is it
  pub lifted_on : (a b p c : ℕ) → t.up b ≡ some p → Lifted s a (depth_at s b) c → c ≡ b → on b (path t a) ≡ true
  lifted_on a b p c up l e = l.on_way b (omega arith) ∙ ap (λ (n : ℕ). on b (path t n)) e ∙ rw (path_up t proper b p up) (on_head b (path t p))

  pub on_lifted : (a b c : ℕ) → Lifted s a (depth_at s b) c → on b (path t a) ≡ true → c ≡ b
  on_lifted a b c l h = go (ℕ_discrete c b)
    where
      go : Dec (c ≡ b) → c ≡ b
      go (yes e) = e
      go (no d) = clash (sym (l.on_way b (omega arith)) ∙ h) (deeper_off t proper b c (omega (arith, l.deep)) (λ e. d (sym e)))

  -- ---- two are
  pub nearing_start : (a b : ℕ) → IsMade s a → IsMade s b → depth_at s a ≡ depth_at s b → Nearing s a b a b 0
  nearing_start a b m m' h = record { made = m; made' = m'; level = h; left = omega arith }

  apart_deep : (a b : ℕ) → IsMade s a → IsMade s b → depth_at s a ≡ depth_at s b → a ≢ b → 1 ≤ depth_at s a
  apart_deep a b m m' h d = go (ℕ_discrete (depth_at s a) 0)
    where
      go : Dec (depth_at s a ≡ 0) → 1 ≤ depth_at s a
      go (no z) = omega arith
      go (yes z) =
          absurd (d (proper.one_top a (made_seen s ok a m) (top_by_depth a m z)
          ∙ sym (proper.one_top b (made_seen s ok b m') (top_by_depth b m' (sym h ∙ z)))))

  pub nearing_up : (a b c e n : ℕ) → Nearing s a b c e n → c ≢ e
      → Nearing s a b (parent_n (node_of s c)) (parent_n (node_of s e)) (n + 2) × (moves_from s (parent_n (node_of s c)) (parent_n (node_of s e)) < moves_from s c e)
  nearing_up a b c e n k d =
      let deep = apart_deep c e k.made k.made' k.level d in
      let inner = deep_inner c deep in
      let inner' = deep_inner e (omega (arith, k.level)) in
      let up = up_is s ok c inner k.made in
      let up' = up_is s ok e inner' k.made' in
      let both = far_both t proper c e (parent_n (node_of s c)) (parent_n (node_of s e)) up up' k.level d in (
        record {
          made = up_made s ok c inner k.made;
          made' = up_made s ok e inner' k.made';
          level = omega (arith, ranked.below c _ up, ranked.below e _ up', k.level);
          left = omega (arith, k.left);
        },
        omega arith,
      )

  pub nearing_end : (a b c e n : ℕ) → Nearing s a b c e n → c ≡ e → n ≡ moves_from s a b
  nearing_end a b c e n k q = omega (arith, k.left, far_self t proper e, ap (λ (x : ℕ). far t x e) q)

  -- ---- from the focus to a, by the depths of both and of where their ways meet
  -- to an environment on g's own way, or to the top
  over_depth : (m : ℕ) → IsMade s m → (g : ℕ) → t.what g ≢ blank → Over t m g → moves_from s g m + depth_at s m ≡ depth_at s g
  over_depth m mm = downward t proper (λ g. t.what g ≢ blank → Over t m g → moves_from s g m + depth_at s m ≡ depth_at s g)
      (λ g e mg o. at_once g (top_is g e mg o)) (λ g p e ih mg o. up_one g p e ih mg o (ℕ_discrete g m))
    where
      at_once : (g : ℕ) → g ≡ m → moves_from s g m + depth_at s m ≡ depth_at s g
      at_once g e = rw e (omega (arith, far_self t proper m))

      top_is : (g : ℕ) → t.up g ≡ none → t.what g ≢ blank → Over t m g → g ≡ m
      top_is g e mg o = go (ℕ_discrete g m)
        where
          go : Dec (g ≡ m) → g ≡ m
          go (yes q) = q
          go (no d) = let (p, u, off, v) = below_over t proper m g (made_seen s ok m mm) mg o d in some≢none u e

      up_one : (g p : ℕ) → t.up g ≡ some p → (t.what p ≢ blank → Over t m p → moves_from s p m + depth_at s m ≡ depth_at s p)
          → t.what g ≢ blank → Over t m g → Dec (g ≡ m) → moves_from s g m + depth_at s m ≡ depth_at s g
      up_one g p e ih mg o (yes q) = at_once g q
      up_one g p e ih mg o (no d) =
          let (q, u, off, v) = below_over t proper m g (made_seen s ok m mm) mg o d in
          let same : q ≡ p = ap or_top (sym u ∙ e) in
          omega (arith, far_lift t proper g m p e off, ih (proper.made_up g p e) (rw same at v), ranked.below g p e)

  pub moves_depth : (a : ℕ) → IsMade s a → moves_to s a + 2 * depth_at s (meeting s a) ≡ depth_at s (focus s) + depth_at s a
  moves_depth a m = go a (made_seen s ok a m)
    where
      f : ℕ
      f = focus s

      -- at the meeting point
      met : (a : ℕ) → t.what a ≢ blank → a ≡ meet t f a → far t f a + 2 * depth_at s (meet t f a) ≡ depth_at s f + depth_at s a
      met a ma e =
          let (mm, o) = meet_over t proper f a ma in
          let deep = over_depth a (seen_made s ok a ma) f (made_seen s ok f (focus_made s ok)) (rw (sym e) at o) in
          omega (arith, deep, ap (depth_at s) e)

      go : (a : ℕ) → t.what a ≢ blank → far t f a + 2 * depth_at s (meet t f a) ≡ depth_at s f + depth_at s a
      go = downward t proper (λ a. t.what a ≢ blank → far t f a + 2 * depth_at s (meet t f a) ≡ depth_at s f + depth_at s a)
          (λ a e ma. met a ma (sym (meet_top t proper f a ma e)))
          (λ a p e ih ma. below a p e ih ma (ℕ_discrete a (meet t f a)))
        where
          below : (a p : ℕ) → t.up a ≡ some p → (t.what p ≢ blank → far t f p + 2 * depth_at s (meet t f p) ≡ depth_at s f + depth_at s p)
              → t.what a ≢ blank → Dec (a ≡ meet t f a) → far t f a + 2 * depth_at s (meet t f a) ≡ depth_at s f + depth_at s a
          below a p e ih ma (yes q) = met a ma q
          below a p e ih ma (no d) =
              let (q, u, off) = below_meet t proper f a ma d in
              omega (arith, moves_entered t proper f a p e off, ap (depth_at s) (meet_up t proper f a p e off), ih (proper.made_up a p e), ranked.below a p e)
