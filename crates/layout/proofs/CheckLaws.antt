-- What the soundness check needs: answers of tests carried from one statement to another, bytes that are zero, the count
-- of the nodes that are in, and the modes. Assumes nothing.
use Rattle.std.specs.Prelude.{◌≡◌, refl, ◌⊎◌, Bool, not, List, [], ◌∷◌, ℕ, zero, suc, ◌+◌, ◌-◌, ◌≤◌, ◌<◌, Option, None, Some, max, eqb, ltb, length, get_or, take, drop, replicate}
use Rattle.std.specs.List.{fold}
use Rattle.std.proofs.Math.Path.{sym, ap}
use Rattle.std.proofs.Common.{subst, ◌∙◌, le_refl, arith, add-one, length-drop, length-take-le, get_or-take, get_or-drop, eqb-true, ltb-true, ltb-false}
use Rattle.std.proofs.Math.Logic.{inl, inr, ⊎_elim}
use Rattle.std.proofs.Math.Bool.{true, false}
use Rattle.std.proofs.Math.Option.{some}
use Rattle.std.proofs.Math.Decide.{ℕ_discrete}
use Rattle.std.proofs.lemmas.Bool.{eqb-false, not-false}
use Rattle.rules.specs.Basic.{on}
use Rattle.rules.proofs.Basic.{clash, on_head, on_cases}
use Rattle.rules.specs.Tree.{Tree, Proper, path}
use Rattle.rules.proofs.Tree.{path_top, path_up, path_once, downward, on_path_above, rank_depth}
use Rattle.rules.specs.Modes.{num, count}
use Rattle.rules.proofs.Modes.{count_on, modes_by_count}
use Rattle.layout.specs.Bytes.{Zeros}
use Rattle.layout.proofs.Bytes.{zeros_list, list_zeros}
use Rattle.layout.specs.Records.{kind_n, parent_n, depth_n, top_node}
use Rattle.layout.specs.Kinds.{is_in, is_out}
use Rattle.layout.proofs.NodeKinds.{node_kind, out_not_in}
use Rattle.layout.specs.Fields.{Fields, fields_of, made_f, focus_f}
use Rattle.layout.specs.View.{up_n, tree_f}
use Rattle.layout.specs.Sound.{Says, SaysWith, Shape, Ins, Whole}
use Rattle.layout.proofs.Laws.{OfBuffer, of_buffer}
use Rattle.layout.proofs.SoundLaws.{Place, is_top, is_inner, is_blank, place, out_top, shape_inners, parents_made, inner_up, up_inner, shape_proper, shape_ranked, path_made, modes_by_numbers, sound_fit}
use Rattle.layout.specs.Checks.{Counted, mode_f, AllRise}

-- ---- tests
pub says_map : (b : Bool) {P Q : Type 0} → (P → Q) → (Q → P) → Says b P → Says b Q
says_map true to from h = to h
says_map false to from h = λ q. h (from q)

pub says_with_map : (o : Option ℕ) {P P' : Type 0} {Q Q' : ℕ → Type 0} → (P → P') → (P' → P) → ((k : ℕ) → Q k → Q' k) → SaysWith o P Q → SaysWith o P' Q'
says_with_map None to from more h = λ p. h (from p)
says_with_map (Some k) to from more h = (to h.0, more k h.1)

-- after `if !b { return false; }`
pub refuted : (b : Bool) {P : Type 0} → not b ≡ true → Says b P → P → ⊥
refuted true e h p = clash e refl
refuted false e h p = h p

pub held : (b : Bool) {P : Type 0} → not b ≡ false → Says b P → P
held true e h = h
held false e h = clash refl e

-- a test whose outcome is known
pub says_so : (b : Bool) {P : Type 0} → b ≡ true → P → Says b P
says_so true e p = p
says_so false e p = clash e refl

pub says_not : (b : Bool) {P : Type 0} → b ≡ false → (P → ⊥) → Says b P
says_not true e h = clash refl e
says_not false e h = h

pub says_eq : (a b : ℕ) → Says (eqb a b) (a ≡ b)
says_eq a b = go (eqb a b) refl
  where
    go : (t : Bool) → eqb a b ≡ t → Says t (a ≡ b)
    go true e = eqb-true a b e
    go false e = eqb-false a b e

pub says_lt : (a b : ℕ) → Says (ltb a b) (a < b)
says_lt a b = go (ltb a b) refl
  where
    go : (t : Bool) → ltb a b ≡ t → Says t (a < b)
    go true e = ltb-true a b e
    go false e = λ h. omega (arith, ltb-false a b e)

-- what holds of every number below n and of n
pub below_more : (P : ℕ → Type 0) (n : ℕ) → ((k : ℕ) → k < n → P k) → P n → (k : ℕ) → k < n + 1 → P k
below_more P n all one k h = go (ℕ_discrete k n)
  where
    go : Dec (k ≡ n) → P k
    go (yes e) = subst P (sym e) one
    go (no e) = all k (omega arith)

-- ---- bytes that are zero: the largest of them is
none_larger : (p : List ℕ) (a : ℕ) → fold max a p ≡ 0 → (a ≡ 0) × (p ≡ replicate (length p) 0)
none_larger [] a e = (e, refl)
none_larger (b ∷ p) a e =
    let (m, rest) = none_larger p (max a b) e in
    let none_here : b ≡ 0 = omega (arith, m) in
    (omega (arith, m), (λ i. none_here i ∷ rest i))

pub zeros_largest : (p : List ℕ) → (fold max 0 p ≡ 0 → p ≡ replicate (length p) 0) × (p ≡ replicate (length p) 0 → fold max 0 p ≡ 0)
zeros_largest p = (λ e. (none_larger p 0 e).1, λ e. ap (fold max 0) e ∙ largest_zero (length p))
  where
    largest_zero : (n : ℕ) → fold max 0 (replicate n 0) ≡ 0
    largest_zero zero = refl
    largest_zero (suc n) = largest_zero n

-- ---- bytes that are zero, and one byte more
module _ (p : List ℕ) (i : ℕ) where
  pub zeros_on : (other : ℕ) → get_or p i 0 ≤ other → Says (eqb other 0) (Zeros p 0 i) → Says (eqb other 0) (Zeros p 0 (i + 1))
  zeros_on other e = go (eqb other 0) refl
    where
      go : (b : Bool) → eqb other 0 ≡ b → Says b (Zeros p 0 i) → Says b (Zeros p 0 (i + 1))
      go true q z = λ j l. below_more (λ (k : ℕ). get_or p k 0 ≡ 0) i (λ k. z k (omega arith)) (omega (arith, eqb-true other 0 q)) j
      go false q z = λ w. z (λ j l h. w j l (omega arith))

  pub zeros_off : (other : ℕ) → other < get_or p i 0 → Says (eqb (get_or p i 0) 0) (Zeros p 0 (i + 1))
  zeros_off other d = go (eqb (get_or p i 0) 0) refl
    where
      go : (b : Bool) → eqb (get_or p i 0) 0 ≡ b → Says b (Zeros p 0 (i + 1))
      go true q = absurd (omega (arith, eqb-true (get_or p i 0) 0 q))
      go false q = λ z. omega (arith, z i (omega arith) (omega arith))

-- a part s[a..e]
module _ (s : List ℕ) (a e : ℕ) (le : a ≤ e) (fits : e ≤ length s) where
  lent_length : length (take (e - a) (drop a s)) ≡ e - a
  lent_length = length-take-le (e - a) (drop a s) (simp length-drop (omega arith))

  lent_byte : (i : ℕ) → i < e - a → get_or (take (e - a) (drop a s)) i 0 ≡ get_or s (a + i) 0
  lent_byte i h = rw (get_or-take, get_or-drop)

  pub lent_zeros : (b : Bool) → Says b (take (e - a) (drop a s) ≡ replicate (length (take (e - a) (drop a s))) 0) → Says b (Zeros s a e)
  lent_zeros b = rw lent_length (says_map b to from)
    where
      to : take (e - a) (drop a s) ≡ replicate (e - a) 0 → Zeros s a e
      to q i l h =
          let k : a + (i - a) ≡ i = omega arith in
          ap (λ (j : ℕ). get_or s j 0) (sym k) ∙ sym (lent_byte (i - a) (omega arith)) ∙ list_zeros _ (e - a) q (i - a) (omega arith) (omega arith)

      from : Zeros s a e → take (e - a) (drop a s) ≡ replicate (e - a) 0
      from z = zeros_list _ (e - a) lent_length (λ i l h. lent_byte i h ∙ z (a + i) (omega arith) (omega arith))

count_more : (b : ℕ → Bool) (n : ℕ) → count b (n + 1) ≡ num (b n) + count b n
count_more b n = rw add-one

pub counted_none : (b : ℕ → Bool) → Counted b 1 0
counted_none b = record { few = omega arith; all = refl }

pub counted_in : (b : ℕ → Bool) (n k : ℕ) → Counted b n k → b n ≡ true → Counted b (n + 1) (k + 1)
counted_in b n k c e = record { few = omega (arith, c.few); all = omega (arith, count_more b n, c.all, ap num e) }

pub counted_out : (b : ℕ → Bool) (n k : ℕ) → Counted b n k → b n ≡ false → Counted b (n + 1) k
counted_out b n k c e = record { few = omega (arith, c.few); all = omega (arith, count_more b n, c.all, ap num e) }

count_same : (b c : ℕ → Bool) (n : ℕ) → ((k : ℕ) → k < n → b k ≡ c k) → count b n ≡ count c n
count_same b c zero h = refl
count_same b c (suc n) h = omega (arith, ap num (h n (le_refl _)), count_same b c n (λ k l. h k (omega arith)))

-- the top is not in
pub counted_all : (f : Fields) (n k : ℕ) → f.node 0 ≡ top_node → Counted (mode_f f) n k → k ≡ count (mode_f f) n
unfolding top_node kind_n is_in
counted_all f n k top c =
    let out : num (mode_f f 0) ≡ 0 = ap (λ (p : List ℕ). num (is_in (kind_n p))) top in
    omega (arith, c.all)

-- the focus is in or the top, and so many are in
abbrev pub FocusIn : Fields → Type 0
FocusIn f = (is_out (kind_n (f.node (focus_f f))) ≡ false) × (depth_n (f.node (focus_f f)) ≡ count (mode_f f) (made_f f))

module _ (f : Fields) (buffer : OfBuffer f) (ok : Shape f) where
  abbrev tree : Tree
  tree = tree_f f.node

  proper : Proper tree
  proper = shape_proper f buffer ok

  above : ℕ → ℕ
  above n = parent_n (f.node n)

  path_above : (n : ℕ) → 1 ≤ n → n < made_f f → path tree n ≡ n ∷ path tree (above n)
  unfolding tree_f above
  path_above n l h = path_up tree proper n (above n) (up_inner f buffer ok n l h)

  -- a made node that is not out is the top, or in; the top and what is in are not out
  in_or_top : (n : ℕ) → n < made_f f → is_out (kind_n (f.node n)) ≡ false → (n ≡ 0) ⊎ (mode_f f n ≡ true)
  in_or_top n h e = go (place (made_f f) n)
    where
      go : Place (made_f f) n → (n ≡ 0) ⊎ (mode_f f n ≡ true)
      go (is_top z) = inl z
      go (is_inner l k) = inr (not-false _ (sym (out_not_in _ (node_kind _ (shape_inners f ok n l k).node)) ∙ e))
      go (is_blank b) = absurd (omega arith)

  top_not_out : (n : ℕ) → n ≡ 0 → is_out (kind_n (f.node n)) ≡ false
  top_not_out n z = ap (λ (m : ℕ). is_out (kind_n (f.node m))) z ∙ ap (λ (p : List ℕ). is_out (kind_n p)) ok.top ∙ out_top

  module _ (rise : AllRise f) where
    -- so all of the path of a node that is not out is in
    path_in : (n : ℕ) → n < made_f f → is_out (kind_n (f.node n)) ≡ false → (k : ℕ) → on k (path tree n) ≡ true → mode_f f k ≡ true
    unfolding tree_f above
    path_in = downward tree proper (λ n. n < made_f f → is_out (kind_n (f.node n)) ≡ false → (k : ℕ) → on k (path tree n) ≡ true → mode_f f k ≡ true)
        (λ n e h o k i. clash i (ap (on k) (path_top tree proper n e))) up_one
      where
        up_one : (n p : ℕ) → up_n (f.node n) ≡ some p
            → (p < made_f f → is_out (kind_n (f.node p)) ≡ false → (k : ℕ) → on k (path tree p) ≡ true → mode_f f k ≡ true)
            → n < made_f f → is_out (kind_n (f.node n)) ≡ false → (k : ℕ) → on k (path tree n) ≡ true → mode_f f k ≡ true
        up_one n p e ih h o k i =
            let (l, m, q) = inner_up f buffer ok n p e in
            let here : mode_f f n ≡ true = ⊎_elim (λ z. absurd (omega arith)) (λ b. b) (in_or_top n h o) in
            ⊎_elim (λ z. ap (mode_f f) z ∙ here)
            (ih (rw q at (parents_made f ok n l m)) (rw q at (rise n l m here)) k)
            (on_cases k n (path tree p) (rw (path_up tree proper n p e) at i))

    pub modes_right : FocusIn f → Ins f
    unfolding tree_f
    modes_right (o, e) = modes_by_numbers f buffer ok (λ n l h.
        modes_by_count (mode_f f) (path tree (focus_f f)) (made_f f) (path_once tree proper (focus_f f)) (path_made f buffer ok (focus_f f))
        (path_in (focus_f f) ok.head.focus_made o) (sym e ∙ rank_depth tree proper (shape_ranked f buffer ok) (focus_f f)) n h)

  module _ (ins : Ins f) where
    in_not_out : (n : ℕ) → n < made_f f → mode_f f n ≡ true → is_out (kind_n (f.node n)) ≡ false
    in_not_out n h e = go (place (made_f f) n)
      where
        go : Place (made_f f) n → is_out (kind_n (f.node n)) ≡ false
        go (is_top z) = top_not_out n z
        go (is_inner l k) = out_not_in _ (node_kind _ (shape_inners f ok n l k).node) ∙ ap not e
        go (is_blank b) = absurd (omega arith)

    -- a node of the focus's path, or the top, is not out
    way_not_out : (n : ℕ) → n < made_f f → (n ≡ 0) ⊎ (on n (path tree (focus_f f)) ≡ true) → is_out (kind_n (f.node n)) ≡ false
    way_not_out n h (inl z) = top_not_out n z
    way_not_out n h (inr i) = in_not_out n h (ins n ∙ i)

    pub ins_rise : AllRise f
    unfolding tree_f above
    ins_rise n l h e = way_not_out (above n) (parents_made f ok n l h) (go (ℕ_discrete (above n) 0))
      where
        go : Dec (above n ≡ 0) → (above n ≡ 0) ⊎ (on (above n) (path tree (focus_f f)) ≡ true)
        go (yes z) = inl z
        go (no z) =
            inr (on_path_above tree proper (focus_f f) n (above n) (above (above n)) (up_inner f buffer ok n l h)
            (up_inner f buffer ok (above n) (omega arith) (parents_made f ok n l h)) (sym (ins n) ∙ e))

    pub ins_focus : FocusIn f
    unfolding tree_f
    ins_focus = (
      way_not_out (focus_f f) ok.head.focus_made (go (ℕ_discrete (focus_f f) 0)),
      rank_depth tree proper (shape_ranked f buffer ok) (focus_f f)
          ∙ sym (count_on (path tree (focus_f f)) (made_f f) (path_once tree proper (focus_f f)) (path_made f buffer ok (focus_f f)))
          ∙ sym (count_same (mode_f f) (λ k. on k (path tree (focus_f f))) (made_f f) (λ k h. ins k)),
    )
      where
        go : Dec (focus_f f ≡ 0) → (focus_f f ≡ 0) ⊎ (on (focus_f f) (path tree (focus_f f)) ≡ true)
        go (yes z) = inl z
        go (no z) = inr (rw (path_above (focus_f f) (omega arith) ok.head.focus_made) (on_head (focus_f f) (path tree (above (focus_f f)))))

pub sound_rises : (s : List ℕ) → Whole s → AllRise (fields_of s)
sound_rises s ok = ins_rise (fields_of s) (of_buffer s (sound_fit s ok)) ok.fields.shape ok.fields.ins

-- the two ways out of `if b { return ..; }`
pub says_yes : (b : Bool) {P : Type 0} → b ≡ true → Says b P → P
says_yes true e h = h
says_yes false e h = absurd (let z : ◌≡◌ {A = ℕ} 0 1 = cc in omega arith)

pub says_no : (b : Bool) {P : Type 0} → b ≡ false → Says b P → P → ⊥
says_no false e h = h
says_no true e h = absurd (let z : ◌≡◌ {A = ℕ} 0 1 = cc in omega arith)
