-- What is proved of specs/Moves.antt, whose head says it in words. Assumes nothing.
use Rattle.std.specs.Prelude.{◌≡◌, refl, Bool, true, false, not, ◌||◌, ◌&&◌, ℕ, suc, length}
use Rattle.std.proofs.Common.{sym, ap, ◌∙◌, length-append}
use Rattle.std.proofs.Math.Bool.{xor}
use Rattle.std.proofs.Math.Option.{Option, none, some}
use mathlib.Core.List.{List, [], ◌∷◌, ◌++◌, map, reverse, reverse-cons, append_assoc}
use Rattle.std.proofs.lemmas.List.{length-map, length-reverse}
use Rattle.rules.specs.Basic.{on, Once, or_top}
use Rattle.rules.proofs.Basic.{some≢none}
use Rattle.rules.specs.Apart.{apart}
use Rattle.rules.proofs.Apart.{on_apart, apart_cons, apart_skip, once_apart, on_append, on_reverse, once_append, once_reverse}
use Rattle.rules.specs.Tree.{What, blank, top, binding, wind, Tree, path}
use Rattle.rules.specs.Store.{Store, Sound, leave}
use Rattle.rules.proofs.Store.{leave_at, leave_sound, enter_sound}
use Rattle.rules.specs.Far.{far, Chain, here, rise, sink}
use Rattle.rules.specs.Moves.{Move, left, entered, node_of, May, after, Moves, done, move, route_of, route, Event, wind_event, event_of, trace, is_wind, winds}

-- ---- laws
-- one more move at the end
pub moves_snoc : {s s' : Store} {ms : List Move} (m : Move) → Moves s ms s' → May s' m → Moves s (ms ++ (m ∷ [])) (after m s')
moves_snoc m done h = move h done
moves_snoc m (move k r) h = move k (moves_snoc m r h)

-- each move is a step, so the moves are a chain of their own length
pub moves_chain : {s s' : Store} {ms : List Move} → Moves s ms s' → Chain s.tree s.focus s'.focus (length ms)
moves_chain done = here
moves_chain (move {s = s} {s' = s'} {m = left n} {ms = ms} h r) = go (s.tree.up s.focus) refl (moves_chain r)
  where
    go : (o : Option ℕ) → s.tree.up s.focus ≡ o → Chain (leave s).tree (leave s).focus s'.focus (length ms)
        → Chain s.tree s.focus s'.focus (suc (length ms))
    go none e k = absurd (h.1 (rw h.0 e))
    go (some p) e k = rise e (rw (leave_at p s e) at k)
moves_chain (move {m = entered n} h r) = sink h (moves_chain r)

-- moves keep the tree, and a sound store sound
pub moves_tree : {s s' : Store} {ms : List Move} → Moves s ms s' → s'.tree ≡ s.tree
moves_tree done = refl
moves_tree (move {s = s} {m = left n} h r) = moves_tree r ∙ go (s.tree.up s.focus) refl
  where
    go : (o : Option ℕ) → s.tree.up s.focus ≡ o → (leave s).tree ≡ s.tree
    go none e = rw (e, leave)
    go (some p) e = rw (leave_at p s e)
moves_tree (move {m = entered n} h r) = moves_tree r

pub moves_sound : {s s' : Store} {ms : List Move} → Moves s ms s' → Sound s → Sound s'
moves_sound done ok = ok
moves_sound (move {s = s} {m = left n} h r) ok = moves_sound r (go (s.tree.up s.focus) refl)
  where
    go : (o : Option ℕ) → s.tree.up s.focus ≡ o → Sound (leave s)
    go none e = absurd (h.1 (rw h.0 e))
    go (some p) e = rw (leave_at p s e) (leave_sound s ok p e)
moves_sound (move {s = s} {m = entered n} h r) ok = moves_sound r (enter_sound s ok n h (λ e. some≢none h (ok.proper.blank_up n e)))

-- the parent of the node left is the new focus
pub left_parent : (s : Store) (n : ℕ) → May s (left n) → or_top (s.tree.up n) ≡ (leave s).focus
left_parent s n h = ap (λ (k : ℕ). or_top (s.tree.up k)) h.0 ∙ go (s.tree.up s.focus) refl
  where
    go : (o : Option ℕ) → s.tree.up s.focus ≡ o → or_top (s.tree.up s.focus) ≡ (leave s).focus
    go none e = absurd (h.1 (rw h.0 e))
    go (some p) e = ap or_top e ∙ ap (λ (u : Store). u.focus) (sym (leave_at p s e))

map_append : (f : ℕ → Move) (l r : List ℕ) → map f (l ++ r) ≡ map f l ++ map f r
map_append f [] r = refl
map_append f (n ∷ l) r = ap (λ (k : List Move). f n ∷ k) (map_append f l r)

-- a node on p alone is left first; a node on q alone is entered last
pub route_left : (n : ℕ) (p q : List ℕ) → on n q ≡ false → route_of (n ∷ p) q ≡ left n ∷ route_of p q
route_left n p q h = rw (apart_cons n p q h, apart_skip n q p h)

pub route_entered : (n : ℕ) (p q : List ℕ) → on n p ≡ false → route_of p (n ∷ q) ≡ route_of p q ++ (entered n ∷ [])
route_entered n p q h =
    rw (apart_cons n q p h, apart_skip n p q h, reverse-cons, map_append, append_assoc)

-- the nodes that a route moves: exactly those on one path and not on the other, each once, as many as the distance
pub map_node : (p q : List ℕ) → map node_of (map left p ++ map entered q) ≡ p ++ q
map_node [] [] = refl
map_node [] (n ∷ q) = ap (λ (l : List ℕ). n ∷ l) (map_node [] q)
map_node (n ∷ p) q = ap (λ (l : List ℕ). n ∷ l) (map_node p q)

pub route_nodes : (p q : List ℕ) (n : ℕ) → on n (map node_of (route_of p q)) ≡ xor (on n p) (on n q)
unfolding xor
route_nodes p q n =
    rw (map_node (apart p q) (reverse (apart q p)), on_append, on_reverse, on_apart n p q, on_apart n q p) (go (on n p) (on n q))
  where
    go : (a b : Bool) → ((a && not b) || (b && not a)) ≡ xor a b
    go true true = refl
    go true false = refl
    go false true = refl
    go false false = refl

pub route_once : (p q : List ℕ) → Once p → Once q → Once (map node_of (route_of p q))
route_once p q o k =
    rw (map_node (apart p q) (reverse (apart q p)))
    (once_append (apart p q) (reverse (apart q p)) (once_apart p q o) (once_reverse (apart q p) (once_apart q p k)) off)
  where
    off : (n : ℕ) → on n (apart p q) ≡ true → on n (reverse (apart q p)) ≡ false
    off n h = on_reverse n (apart q p) ∙ on_apart n q p ∙ go (on n p) (on n q) (sym (on_apart n p q) ∙ h)
      where
        go : (a b : Bool) → (a && not b) ≡ true → (b && not a) ≡ false
        go true true e = refl
        go true false e = refl
        go false true e = sym e
        go false false e = refl

pub route_length : (t : Tree) (a b : ℕ) → length (route t a b) ≡ far t a b
unfolding far route
route_length t a b = simp (length-append, length-map, length-reverse)

pub trace_append : (t : Tree) (l r : List Move) → trace t (l ++ r) ≡ trace t l ++ trace t r
trace_append t [] r = refl
trace_append t (m ∷ l) r = ap (λ (k : List Event). event_of t m ++ k) (trace_append t l r) ∙ sym (append_assoc (event_of t m) (trace t l) (trace t r))

-- the winds left, from the inside out, then the winds entered, from the outside in
pub trace_order : (t : Tree) (a b : ℕ)
    → trace t (route t a b) ≡ trace t (map left (apart (path t a) (path t b))) ++ trace t (map entered (reverse (apart (path t b) (path t a))))
unfolding route
trace_order t a b = trace_append t (map left (apart (path t a) (path t b))) (map entered (reverse (apart (path t b) (path t a))))

length_wind : (e : Bool) (w : What) (p : ℕ) → length (wind_event e w p) ≡ is_wind w
length_wind e blank p = refl
length_wind e top p = refl
length_wind e (binding x) p = refl
length_wind e (wind a b) p = refl

pub length_event : (t : Tree) (m : Move) → length (event_of t m) ≡ is_wind (t.what (node_of m))
length_event t (left n) = length_wind false (t.what n) _
length_event t (entered n) = length_wind true (t.what n) _

pub length_trace : (t : Tree) (ms : List Move) → length (trace t ms) ≡ winds t (map node_of ms)
length_trace t [] = refl
length_trace t (m ∷ ms) = length-append (event_of t m) (trace t ms) ∙ cc (length_event t m, length_trace t ms)
