-- What is proved of specs/Bytes.antt, whose head says it in words. Assumes nothing.
use Rattle.std.specs.Prelude.{◌≡◌, refl, get_or, set, replicate}
use Rattle.std.proofs.Math.Path.{sym, ap}
use Rattle.std.proofs.Common.{subst, ◌∙◌, length-set, length-append, length-drop, take-append-drop, ext_get_or, get_or-take, get_or-drop, get_or-set_same, get_or-set_other}
use Rattle.std.specs.Simd.{first_chunks}
use native.Mathlib.Numerals.{unary_clauses}
use Prim.Native.Nat.{◌*◌, zero, suc, ℕ, ◌+◌, ◌-◌, ◌/◌, ◌%◌, ◌≤◌, ◌<◌}
use Rattle.std.proofs.Math.Nat.{add-sub_cancel_left}
use native.Mathlib.Omega.{arith}
use Rattle.std.proofs.Math.Decide.{dec_le}
use mathlib.Core.List.{List, [], ◌∷◌, ◌++◌, append_assoc}
use Rattle.std.proofs.Math.ListN.{length, take, drop}
use Rattle.std.proofs.lemmas.List.{length-replicate, get_or-replicate, drop-append-le}
use Rattle.std.proofs.Math.Seq.{take-append-le, drop-append-add, take_at, drop_at, drop-drop, take-take, length-take-le, take_all}
use Rattle.layout.specs.Bytes.{part, splice, u16, put16, tab, Zeros, Bytes, BytesTo}

-- ---- what the borrow checker leaves of a part `&s[a..e]` or `&mut s[a..e]` with e = a + n
pub seen : (xs : List ℕ) (a n : ℕ) → take (a + n - a) (drop a xs) ≡ part xs a n
unfolding part
seen xs a n = ap (λ (k : ℕ). take k (drop a xs)) (add-sub_cancel_left a n)

pub lent : (xs ys : List ℕ) (a n : ℕ) → take a xs ++ (ys ++ drop (a + n - a) (drop a xs)) ≡ splice xs a n ys
unfolding splice
lent xs ys a n = ap (λ (k : ℕ). take a xs ++ (ys ++ drop k (drop a xs))) (add-sub_cancel_left a n)

-- ---- laws
pub part_length : (xs : List ℕ) (a n : ℕ) → a + n ≤ length xs → length (part xs a n) ≡ n
unfolding part
part_length xs a n h = length-take-le n (drop a xs) (simp length-drop (omega arith))

-- an element of a part
pub part_at : (xs : List ℕ) (a n i : ℕ) → i < n → get_or (part xs a n) i 0 ≡ get_or xs (a + i) 0
unfolding part
part_at xs a n i h = rw (get_or-take, get_or-drop)

-- a part that ends before the seam
pub part_left : (l r : List ℕ) (b n : ℕ) → b + n ≤ length l → part (l ++ r) b n ≡ part l b n
unfolding part
part_left l r b n h =
    let h1 : b ≤ length l = omega arith in
    let h2 : n ≤ length (drop b l) = simp length-drop (omega arith) in
    ap (take n) (drop-append-le b l r h1) ∙ take-append-le n (drop b l) r h2

-- a part that begins at or after the seam
pub part_right : (l r : List ℕ) (b n : ℕ) → part (l ++ r) (length l + b) n ≡ part r b n
unfolding part
part_right l r b n = ap (take n) (drop-append-add l r b)

pub part_drop : (xs : List ℕ) (e b n : ℕ) → part (drop e xs) b n ≡ part xs (e + b) n
unfolding part
part_drop xs e b n = ap (take n) (drop-drop b e xs)

-- the part put back as it was
pub splice_part : (xs : List ℕ) (a n : ℕ) → splice xs a n (part xs a n) ≡ xs
unfolding splice part
splice_part xs a n = ap (λ (z : List ℕ). take a xs ++ z) (take-append-drop n (drop a xs)) ∙ take-append-drop a xs

module _ (xs ys : List ℕ) (a n : ℕ) (long : length ys ≡ n) (fits : a + n ≤ length xs) where
  front_length : length (take a xs) ≡ a
  front_length = length-take-le a xs (omega arith)

  head_length : length (take a xs ++ ys) ≡ a + n
  head_length = length-append (take a xs) ys ∙ omega (arith, front_length)

  pub splice_length : length (splice xs a n ys) ≡ length xs
  unfolding splice
  splice_length = simp (length-append, length-drop) (omega (arith, front_length))

  -- the part that was put there
  pub splice_same : part (splice xs a n ys) a n ≡ ys
  unfolding splice part
  splice_same = ap (take n) (drop_at (take a xs) (ys ++ drop n (drop a xs)) a front_length) ∙ take_at ys (drop n (drop a xs)) n long

  -- another put there
  pub splice_again : (zs : List ℕ) → splice (splice xs a n ys) a n zs ≡ splice xs a n zs
  unfolding splice
  splice_again zs =
      let rest : List ℕ = ys ++ drop n (drop a xs) in
      let front : take a (take a xs ++ rest) ≡ take a xs = take_at (take a xs) rest a front_length in
      let behind : drop n (drop a (take a xs ++ rest)) ≡ drop n (drop a xs) = ap (drop n) (drop_at (take a xs) rest a front_length) ∙ drop_at ys (drop n (drop a xs)) n long in
      λ i. front i ++ (zs ++ behind i)

  -- a part before it
  pub splice_before : (b m : ℕ) → b + m ≤ a → part (splice xs a n ys) b m ≡ part xs b m
  unfolding splice
  splice_before b m h =
      let k : b + m ≤ length (take a xs) = omega (arith, front_length) in
      part_left (take a xs) (ys ++ drop n (drop a xs)) b m k
      ∙ sym (part_left (take a xs) (drop a xs) b m k)
      ∙ ap (λ (l : List ℕ). part l b m) (take-append-drop a xs)

  -- a part after it
  pub splice_after : (b m : ℕ) → a + n ≤ b → part (splice xs a n ys) b m ≡ part xs b m
  unfolding splice
  splice_after b m h =
      let e : b ≡ length (take a xs ++ ys) + (b - (a + n)) = omega (arith, head_length) in
      let e' : (a + n) + (b - (a + n)) ≡ b = omega arith in
      ap (λ (l : List ℕ). part l b m) (sym (append_assoc (take a xs) ys (drop n (drop a xs))))
      ∙ ap (λ (k : ℕ). part ((take a xs ++ ys) ++ drop n (drop a xs)) k m) e
      ∙ part_right (take a xs ++ ys) (drop n (drop a xs)) (b - (a + n)) m
      ∙ ap (λ (l : List ℕ). part l (b - (a + n)) m) (drop-drop n a xs)
      ∙ part_drop xs (a + n) (b - (a + n)) m
      ∙ ap (λ (k : ℕ). part xs k m) e'

  -- what follows it
  pub splice_drop : (e : ℕ) → a + n ≤ e → drop e (splice xs a n ys) ≡ drop e xs
  unfolding splice
  splice_drop e h =
      let k : ℕ = e - (a + n) in
      let e₁ : e ≡ length (take a xs ++ ys) + k = omega (arith, head_length) in
      let e₂ : (a + n) + k ≡ e = omega arith in
      ap (drop e) (sym (append_assoc (take a xs) ys (drop n (drop a xs))))
      ∙ ap (λ (i : ℕ). drop i ((take a xs ++ ys) ++ drop n (drop a xs))) e₁
      ∙ drop-append-add (take a xs ++ ys) (drop n (drop a xs)) k
      ∙ ap (drop k) (drop-drop n a xs)
      ∙ drop-drop k (a + n) xs
      ∙ ap (λ (i : ℕ). drop i xs) e₂

-- ---- neighbouring parts, replaced one after the other: the second behind the first, and before it
module _ (xs ys zs : List ℕ) (a n m : ℕ) (long : length ys ≡ n) (fits : a + n ≤ length xs) where
  pub splice_next : splice (splice xs a n ys) (a + n) m zs ≡ splice xs a (n + m) (ys ++ zs)
  unfolding splice
  splice_next =
      let e : take a xs ++ (ys ++ drop n (drop a xs)) ≡ (take a xs ++ ys) ++ drop n (drop a xs) = sym (append_assoc (take a xs) ys (drop n (drop a xs))) in
      let l : length (take a xs ++ ys) ≡ a + n = head_length xs ys a n long fits in
      rw (e, take_at (take a xs ++ ys) (drop n (drop a xs)) (a + n) l, drop_at (take a xs ++ ys) (drop n (drop a xs)) (a + n) l, drop-drop m n (drop a xs))
      (simp append_assoc)

  pub splice_prev : splice (splice xs (a + n) m zs) a n ys ≡ splice xs a (n + m) (ys ++ zs)
  unfolding splice
  splice_prev =
      let front : length (take (a + n) xs) ≡ a + n = length-take-le (a + n) xs fits in
      let rest : List ℕ = zs ++ drop m (drop (a + n) xs) in
      let h : take a (take (a + n) xs ++ rest) ≡ take a xs = take-append-le a (take (a + n) xs) rest (omega arith) ∙ take-take a (a + n) xs (omega arith) in
      let k : drop n (drop a (take (a + n) xs ++ rest)) ≡ rest = drop-drop n a (take (a + n) xs ++ rest) ∙ drop_at (take (a + n) xs) rest (a + n) front in
      let e : drop m (drop (a + n) xs) ≡ drop (n + m) (drop a xs) = ap (drop m) (sym (drop-drop n a xs)) ∙ drop-drop m n (drop a xs) in
      rw (h, k, e) (simp append_assoc)

-- the high byte of a number in two bytes
pub high_byte : (v : ℕ) → v < 65536 → v / 256 % 256 ≡ v / 256
high_byte v h = omega arith

pub put16_length : (p : List ℕ) (o v : ℕ) → length (put16 p o v) ≡ length p
unfolding put16
put16_length p o v = simp length-set

pub u16_same : (p : List ℕ) (o v : ℕ) → o + 2 ≤ length p → u16 (put16 p o v) o ≡ v
unfolding u16 put16
u16_same p o v h =
    let a = get_or-set_other (set p o (v % 256)) (o + 1) o (v / 256) 0 (λ e. omega arith) in
    let b = get_or-set_same p o (v % 256) 0 (omega arith) in
    let k = get_or-set_same (set p o (v % 256)) (o + 1) (v / 256) 0 (simp length-set (omega arith)) in
    omega arith

pub u16_other : (p : List ℕ) (o v q : ℕ) → (o < q + 2 → q < o + 2 → ⊥) → u16 (put16 p o v) q ≡ u16 p q
unfolding u16 put16
u16_other p o v q h =
    let apart : (i : ℕ) → i < 2 → get_or (set (set p o (v % 256)) (o + 1) (v / 256)) (q + i) 0 ≡ get_or p (q + i) 0 =
    λ i k. get_or-set_other (set p o (v % 256)) (o + 1) (q + i) (v / 256) 0 (λ e. h (omega arith) (omega arith)) ∙ get_or-set_other p o (q + i) (v % 256) 0 (λ e. h (omega arith) (omega arith)) in
    let z : q + 0 ≡ q = omega arith in
    let a = rw z at (apart 0 (omega arith)) in
    let b = apart 1 (omega arith) in
    omega arith

-- a part that is apart from the part that was replaced: that the two overlap is refuted
pub splice_apart : (xs ys : List ℕ) (a n b m : ℕ) → length ys ≡ n → a + n ≤ length xs → (b < a + n → a < b + m → ⊥) → part (splice xs a n ys) b m ≡ part xs b m
splice_apart xs ys a n b m l f h = go (dec_le (b + m) a) (dec_le (a + n) b)
  where
    go : Dec (b + m ≤ a) → Dec (a + n ≤ b) → part (splice xs a n ys) b m ≡ part xs b m
    go (yes p) q = splice_before xs ys a n l f b m p
    go (no p) (yes q) = splice_after xs ys a n l f b m q
    go (no p) (no q) = absurd (h (omega arith) (omega arith))

-- ---- a part that was lent and came back: what a callee did to the part, f, is done in the whole, at the place b that a is
pub seen_at : (xs : List ℕ) (a b n : ℕ) → a ≡ b → take (a + n - a) (drop a xs) ≡ part xs b n
seen_at xs a b n e = seen xs a n ∙ ap (λ (i : ℕ). part xs i n) e

-- ---- the chunks of n elements: the one with the number i, and that of `&s[a..]`
pub chunk_at : (n k i : ℕ) (xs d : List ℕ) → i < k → get_or (first_chunks n k xs) i d ≡ part xs (n * i) n
unfolding part
chunk_at n zero i xs d h = absurd (omega arith)
chunk_at n (suc k) zero xs d h =
    let none : 0 ≡ n * 0 = simp unary_clauses refl in
    ap (λ (j : ℕ). take n (drop j xs)) none
chunk_at n (suc k) (suc i) xs d h =
    let next : n + n * i ≡ n * suc i = simp unary_clauses (omega arith) in
    chunk_at n k i (drop n xs) d (omega arith) ∙ part_drop xs n (n * i) n ∙ ap (λ (j : ℕ). part xs j n) next

pub seen_chunk : (xs : List ℕ) (a n k i : ℕ) (d : List ℕ) → i < k → get_or (first_chunks n k (take (length xs - a) (drop a xs))) i d ≡ part xs (a + n * i) n
seen_chunk xs a n k i d h =
    ap (λ (ys : List ℕ). get_or (first_chunks n k ys) i d) (take_all (length xs - a) (drop a xs) (simp length-drop (omega arith)))
    ∙ chunk_at n k i (drop a xs) d h
    ∙ part_drop xs a (n * i) n

pub lent_at : (f : List ℕ → List ℕ) (xs ys : List ℕ) (a b n : ℕ) → a ≡ b → ys ≡ f (take (a + n - a) (drop a xs)) → take a xs ++ (ys ++ drop (a + n - a) (drop a xs)) ≡ splice xs b n (f (part xs b n))
lent_at f xs ys a b n e h = lent xs ys a n ∙ ap (λ (i : ℕ). splice xs i n ys) e ∙ ap (splice xs b n) (h ∙ ap f (seen_at xs a b n e))

tab_all : (p : List ℕ) → p ≡ tab (length p) (λ i. get_or p i 0)
tab_all [] = refl
tab_all (x ∷ xs) = ap (λ (r : List ℕ). x ∷ r) (tab_all xs)

pub by_tab : (n : ℕ) (P : List ℕ → Type 0) → ((f : ℕ → ℕ) → P (tab n f)) → (p : List ℕ) → length p ≡ n → P p
by_tab n P h p e = subst P (sym (tab_all p ∙ ap (λ (m : ℕ). tab m (λ i. get_or p i 0)) e)) (h (λ i. get_or p i 0))

pub zeros_list : (p : List ℕ) (n : ℕ) → length p ≡ n → Zeros p 0 n → p ≡ replicate n 0
zeros_list p n e z =
    ext_get_or 0 p (replicate n 0) (e ∙ sym (length-replicate n 0))
    (λ i h. z i (omega arith) (omega arith) ∙ sym (get_or-replicate n i 0 0 (omega arith)))

pub list_zeros : (p : List ℕ) (n : ℕ) → p ≡ replicate n 0 → Zeros p 0 n
list_zeros p n e i l h = ap (λ (q : List ℕ). get_or q i 0) e ∙ get_or-replicate n i 0 0 h

pub part_bytes : (xs : List ℕ) (a n : ℕ) → Bytes xs → BytesTo n (part xs a n)
part_bytes xs a n b i h = rw (part_at xs a n i h) (b (a + i))
