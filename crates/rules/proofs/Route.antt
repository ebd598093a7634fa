-- What is proved of specs/Route.antt, whose head says it in words. Assumes nothing.
use Rattle.std.specs.Prelude.{◌≡◌, refl, ◌≢◌, ◌⊎◌, Bool, true, false, ℕ, zero, suc, ◌+◌, ◌≤◌, length}
use Rattle.std.proofs.Common.{sym, ◌∙◌, inl, inr, arith}
use Rattle.std.proofs.Math.Path.{ap}
use Rattle.std.proofs.Math.Bool.{or-true}
use Rattle.std.proofs.Math.Option.{Option, none, some}
use mathlib.Core.List.{List, [], ◌∷◌, ◌++◌, map, reverse, reverse-append, append_assoc}
use Rattle.std.proofs.Math.Numerals.{unary_clauses}
use Rattle.std.proofs.Math.Decide.{ℕ_discrete}
use Rattle.std.proofs.Math.ListN.{length-map}
use Rattle.rules.specs.Basic.{on, Once}
use Rattle.rules.proofs.Basic.{clash, some≢none, on_head, on_tail, on_more}
use Rattle.rules.proofs.Apart.{apart_self, apart_within, apart_before, on_append}
use Rattle.rules.specs.Tree.{blank, Tree, Proper, path}
use Rattle.rules.proofs.Tree.{path_top, path_up, path_once, path_through, downward}
use Rattle.rules.specs.Store.{Store, Sound, leave, leave_to, enter}
use Rattle.rules.proofs.Store.{leave_at, leave_sound, enter_sound}
use Rattle.rules.specs.Far.{far, Chain, here, rise, sink, Between}
use Rattle.rules.proofs.Far.{far_least, far_self, between_one}
use Rattle.rules.specs.Moves.{Move, left, entered, node_of, route_of, route, Moves, done, move}
use Rattle.rules.proofs.Moves.{route_left, route_nodes, route_once, route_length, moves_chain}
use Rattle.rules.specs.Route.{Next, there, leaves, enters}

-- from a path r to a longer one only entering is left, from the outside in
route_down : (pre r : List ℕ) → Once (pre ++ r) → route_of r (pre ++ r) ≡ map entered (reverse pre)
route_down pre r o = rw (apart_within r (pre ++ r) (λ n k. on_append n pre r ∙ rw k (or-true (on n pre))), apart_before pre r o)

module _ (t : Tree) (ok : Proper t) where
  pub leave_first : (f p l : ℕ) → t.up f ≡ some p → on f (path t l) ≡ false → route t f l ≡ left f ∷ route t p l
  unfolding route
  leave_first f p l e h = rw (path_up t ok f p e) (route_left f (path t p) (path t l) h)

  -- with c on l's path and f its parent, l's path is some nodes, c, and f's path
  pub enter_first : (c f l : ℕ) → t.up c ≡ some f → on c (path t l) ≡ true → route t f l ≡ entered c ∷ route t c l
  unfolding route
  enter_first c f l e h =
      let (pre, q) = path_through t ok c l h in
      let long : path t l ≡ (pre ++ (c ∷ [])) ++ path t f = q ∙ rw (path_up t ok c f e, append_assoc) in
      let one : Once ((pre ++ (c ∷ [])) ++ path t f) = rw long at (path_once t ok l) in
      let two : Once (pre ++ path t c) = rw q at (path_once t ok l) in
      ap (route_of (path t f)) long ∙ route_down (pre ++ (c ∷ [])) (path t f) one ∙ rw reverse-append
      (ap (λ (ms : List Move). entered c ∷ ms) (sym (ap (route_of (path t c)) q ∙ route_down pre (path t c) two)))

  -- f is above l: it is the top, or on l's path; then the node below it towards l
  child : (f : ℕ) → t.what f ≢ blank → (l : ℕ) → t.what l ≢ blank → f ≢ l → (t.up f ≡ none) ⊎ (on f (path t l) ≡ true)
      → (c : ℕ) × (t.up c ≡ some f) × (on c (path t l) ≡ true)
  child f mf = downward t ok (λ l. t.what l ≢ blank → f ≢ l → (t.up f ≡ none) ⊎ (on f (path t l) ≡ true) → (c : ℕ) × (t.up c ≡ some f) × (on c (path t l) ≡ true))
      at_top up_one
    where
      at_top : (l : ℕ) → t.up l ≡ none → t.what l ≢ blank → f ≢ l → (t.up f ≡ none) ⊎ (on f (path t l) ≡ true)
          → (c : ℕ) × (t.up c ≡ some f) × (on c (path t l) ≡ true)
      at_top l e ml d (inl q) = absurd (d (ok.one_top f mf q ∙ sym (ok.one_top l ml e)))
      at_top l e ml d (inr q) = clash q (rw (path_top t ok l e))

      up_one : (l p : ℕ) → t.up l ≡ some p
          → (t.what p ≢ blank → f ≢ p → (t.up f ≡ none) ⊎ (on f (path t p) ≡ true) → (c : ℕ) × (t.up c ≡ some f) × (on c (path t p) ≡ true))
          → t.what l ≢ blank → f ≢ l → (t.up f ≡ none) ⊎ (on f (path t l) ≡ true) → (c : ℕ) × (t.up c ≡ some f) × (on c (path t l) ≡ true)
      up_one l p e ih ml d a = go (ℕ_discrete f p)
        where
          above_p : (t.up f ≡ none) ⊎ (on f (path t l) ≡ true) → (t.up f ≡ none) ⊎ (on f (path t p) ≡ true)
          above_p (inl q) = inl q
          above_p (inr q) = inr (sym (on_tail f l (path t p) d) ∙ ap (on f) (sym (path_up t ok l p e)) ∙ q)

          go : Dec (f ≡ p) → (c : ℕ) × (t.up c ≡ some f) × (on c (path t l) ≡ true)
          go (yes q) = (l, rw q e, rw (path_up t ok l p e) (on_head l (path t p)))
          go (no q) = let (c, u, o) = ih (ok.made_up l p e) q (above_p a) in (c, u, rw (path_up t ok l p e) (on_more c l (path t p) o))

  pub next : (f l : ℕ) → t.what f ≢ blank → t.what l ≢ blank → Next t f l
  next f l mf ml = same (ℕ_discrete f l)
    where
      down : f ≢ l → (t.up f ≡ none) ⊎ (on f (path t l) ≡ true) → Next t f l
      down d a = let (c, u, o) = child f mf l ml d a in enters c u o (enter_first c f l u o)

      off : f ≢ l → (p : ℕ) → t.up f ≡ some p → (b : Bool) → on f (path t l) ≡ b → Next t f l
      off d p e true h = down d (inr h)
      off d p e false h = leaves p e h (leave_first f p l e h)

      up_f : f ≢ l → (o : Option ℕ) → t.up f ≡ o → Next t f l
      up_f d none e = down d (inl e)
      up_f d (some p) e = off d p e (on f (path t l)) refl

      same : Dec (f ≡ l) → Next t f l
      same (yes e) = there e
      same (no d) = up_f d (t.up f) refl

  -- ---- the distance is the length of a chain, so it meets the triangle law
  pub first_far : (f l g : ℕ) (m : Move) → route t f l ≡ m ∷ route t g l → far t f l ≡ suc (far t g l)
  first_far f l g m e = sym (route_length t f l) ∙ ap length e ∙ ap suc (route_length t g l)

  pub made_child : (c f : ℕ) → t.up c ≡ some f → t.what c ≢ blank
  made_child c f u e = some≢none u (ok.blank_up c e)

  pub far_chain : (k f l : ℕ) → t.what f ≢ blank → t.what l ≢ blank → far t f l ≡ k → Chain t f l k
  far_chain zero f l mf ml h = go (next f l mf ml)
    where
      go : Next t f l → Chain t f l 0
      go (there e) = rw e here
      go (leaves p e o r) = absurd (omega (arith, first_far f l p (left f) r))
      go (enters c e o r) = absurd (omega (arith, first_far f l c (entered c) r))
  far_chain (suc k) f l mf ml h = go (next f l mf ml) (λ g. far_chain k g l)
    where
      go : Next t f l → ((g : ℕ) → t.what g ≢ blank → t.what l ≢ blank → far t g l ≡ k → Chain t g l k) → Chain t f l (suc k)
      go (there e) ih = absurd (omega (arith, far_self t ok l, ap (λ (a : ℕ). far t a l) e))
      go (leaves p e o r) ih = rise e (ih p (ok.made_up f p e) ml (omega (arith, first_far f l p (left f) r)))
      go (enters c e o r) ih = sink e (ih c (made_child c f e) ml (omega (arith, first_far f l c (entered c) r)))

chain_append : {t : Tree} {a b c m n : ℕ} → Chain t a b m → Chain t b c n → Chain t a c (n + m)
chain_append here k = simp unary_clauses k
chain_append (rise e r) k = simp unary_clauses (rise e (chain_append r k))
chain_append (sink e r) k = simp unary_clauses (sink e (chain_append r k))

end_made : {t : Tree} {a b n : ℕ} → Chain t a b n → t.what a ≢ blank → ((n ≡ 0) × (a ≡ b)) ⊎ ((t.what a ≢ blank) × (t.what b ≢ blank)) → t.what b ≢ blank
end_made k made (inl (z, e)) = rw e at made
end_made k made (inr (ma, mb)) = mb

module _ (t : Tree) (ok : Proper t) where
  pub far_triangle : (f m l : ℕ) → t.what f ≢ blank → t.what m ≢ blank → t.what l ≢ blank → far t f l ≤ far t f m + far t m l
  far_triangle f m l mf mm ml =
      omega (arith, far_least t ok (chain_append (far_chain t ok (far t f m) f m mf mm refl) (far_chain t ok (far t m l) m l mm ml refl)))

  -- for any two environments: there is a chain of steps as long as their distance, and none is shorter
  pub far_distance : (a b : ℕ) → t.what a ≢ blank → t.what b ≢ blank → Chain t a b (far t a b) × ((n : ℕ) → Chain t a b n → far t a b ≤ n)
  far_distance a b ma mb = (far_chain t ok (far t a b) a b ma mb refl, λ n c. far_least t ok c)

  pub far_between : (a b : ℕ) → t.what a ≢ blank → t.what b ≢ blank → Between t a b (far t a b)
  unfolding route
  far_between a b ma mb = record {
    nodes = (
      map node_of (route t a b),
      route_once (path t a) (path t b) (path_once t ok a) (path_once t ok b),
      route_nodes (path t a) (path t b),
      length-map (route t a b) node_of ∙ route_length t a b,
    );
    reached = (far_distance a b ma mb).0;
    shortest = (far_distance a b ma mb).1;
  }

  -- a chain of steps joins environments, or has no step
  chain_made : {a b n : ℕ} → Chain t a b n → ((n ≡ 0) × (a ≡ b)) ⊎ ((t.what a ≢ blank) × (t.what b ≢ blank))
  chain_made here = inl (refl, refl)
  chain_made (rise {a = a} {b = b} {c = c} e k) = inr (made_child t ok a b e, end_made k (ok.made_up a b e) (chain_made k))
  chain_made (sink {a = a} {b = b} {c = c} e k) = inr (ok.made_up b a e, end_made k (made_child t ok b a e) (chain_made k))

  -- demand 3's number is this one
  pub between_far : (a b k : ℕ) → Between t a b k → k ≡ far t a b
  between_far a b k p = go (chain_made p.reached)
    where
      go : ((k ≡ 0) × (a ≡ b)) ⊎ ((t.what a ≢ blank) × (t.what b ≢ blank)) → k ≡ far t a b
      go (inl (z, e)) = z ∙ sym (ap (λ (n : ℕ). far t n b) e ∙ far_self t ok b)
      go (inr (ma, mb)) = between_one t a b k (far t a b) p (far_between a b ma mb)

  -- there is nothing to do from m to m
  pub route_self : (m : ℕ) → route t m m ≡ []
  unfolding route
  route_self m = rw apart_self

-- ---- no other moves are as few: moves as many as the distance are the route
pub moves_forced : {s s' : Store} {ms : List Move} → Moves s ms s' → Sound s → length ms ≡ far s.tree s.focus s'.focus
    → ms ≡ route s.tree s.focus s'.focus
moves_forced (done {s = s}) ok h = sym (route_self s.tree ok.proper s.focus)
moves_forced (move {s = s} {s' = s'} {m = left n} {ms = ms} h r) ok k = go (s.tree.up s.focus) refl (moves_forced r) (moves_chain r)
  where
    f : ℕ
    f = s.focus

    l : ℕ
    l = s'.focus

    go : (o : Option ℕ) → s.tree.up f ≡ o
        → (Sound (leave s) → length ms ≡ far (leave s).tree (leave s).focus l → ms ≡ route (leave s).tree (leave s).focus l)
        → Chain (leave s).tree (leave s).focus l (length ms) → left n ∷ ms ≡ route s.tree f l
    go none e ih c = absurd (h.1 (rw h.0 e))
    go (some p) e ih c = off (on f (path s.tree l)) refl
      where
        ih_p : Sound (leave_to p s) → length ms ≡ far s.tree p l → ms ≡ route s.tree p l
        ih_p = rw (leave_at p s e) at ih

        near : far s.tree p l ≤ length ms
        near = far_least s.tree ok.proper (rw (leave_at p s e) at c)

        off : (b : Bool) → on f (path s.tree l) ≡ b → left n ∷ ms ≡ route s.tree f l
        off true q = absurd (omega (arith, k, near, first_far s.tree ok.proper p l f (entered f) (enter_first s.tree ok.proper f p l e q)))
        off false q =
            let first : route s.tree f l ≡ left f ∷ route s.tree p l = leave_first s.tree ok.proper f p l e q in
            let rest : ms ≡ route s.tree p l = ih_p (leave_sound s ok p e) (omega (arith, k, first_far s.tree ok.proper f l p (left f) first)) in
            rw h.0 (ap (λ (v : List Move). left f ∷ v) rest ∙ sym first)
moves_forced (move {s = s} {s' = s'} {m = entered c} {ms = ms} h r) ok k = off (on c (path s.tree s'.focus)) refl (moves_forced r)
  where
    f : ℕ
    f = s.focus

    l : ℕ
    l = s'.focus

    made : s.tree.what c ≢ blank
    made = made_child s.tree ok.proper c f h

    near : far s.tree c l ≤ length ms
    near = far_least s.tree ok.proper (moves_chain r)

    off : (b : Bool) → on c (path s.tree l) ≡ b → (Sound (enter c s) → length ms ≡ far s.tree c l → ms ≡ route s.tree c l)
        → entered c ∷ ms ≡ route s.tree f l
    off false q ih = absurd (omega (arith, k, near, first_far s.tree ok.proper c l f (left c) (leave_first s.tree ok.proper c f l h q)))
    off true q ih =
        let first : route s.tree f l ≡ entered c ∷ route s.tree c l = enter_first s.tree ok.proper c f l h q in
        let rest : ms ≡ route s.tree c l = ih (enter_sound s ok c h made) (omega (arith, k, first_far s.tree ok.proper f l c (entered c) first)) in
        ap (λ (v : List Move). entered c ∷ v) rest ∙ sym first
