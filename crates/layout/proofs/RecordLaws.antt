-- What the fields of a record are after it was changed or written whole. Lists of a known length compute, so each law is
-- one computation over the record's bytes. Assumes nothing.
use Rattle.std.specs.Prelude.{◌≡◌, ℕ, zero, suc, ◌+◌, ◌-◌, ◌*◌, ◌/◌, ◌%◌, ◌^◌, ◌<◌, length, get_or, drop, replicate, ℤ}
use Rattle.std.proofs.Math.Path.{refl}
use Rattle.std.proofs.Common.{sym, ap, ◌∙◌, inl, inr, length-set, Fits, SFits, of_z, to_z}
use native.Mathlib.Omega.{arith}
use mathlib.Core.List.{List, [], ◌∷◌}
use Rattle.std.specs.Int.{w32}
use mir.ValLaws.{of_z_fits, of_z-to_z, to_z-of_z}
use Rattle.rules.specs.Values.{unbound, value}
use Rattle.layout.specs.Limits.{header, cell_size, bare_size, node_size}
use Rattle.layout.specs.Bytes.{u16, put16, tab, BytesTo}
use Rattle.layout.proofs.Bytes.{by_tab}
use Rattle.layout.specs.Records.{head_b, blank_cell, ProperCell, bits_c, value_c, bare_c, put_c, whole_c, kind_n, parent_n, var_n, post_n, stored_n, depth_n, turn_n, swap_n, node_b, top_node}
use Rattle.layout.specs.View.{as_cell}

-- ---- lengths
pub put_length : (p c : List ℕ) → length (put_c p c) ≡ length p
unfolding put_c
put_length p c = simp length-set

pub turn_length : (p : List ℕ) (k : ℕ) → length (turn_n p k) ≡ length p
unfolding turn_n
turn_length p k = simp length-set

pub swap_length : (p : List ℕ) (k : ℕ) (c : List ℕ) → length (swap_n p k c) ≡ length p
unfolding swap_n
swap_length p k c = simp length-set

pub bare_length : (p : List ℕ) → length (bare_c p) ≡ bare_size
unfolding bare_c
bare_length p = refl

pub stored_length : (p : List ℕ) → length (stored_n p) ≡ bare_size
unfolding stored_n
stored_length p = refl

pub value_length : (v : ℤ) → length (value_c v) ≡ bare_size
unfolding value_c
value_length v = refl

pub node_length : (k up a b : ℕ) (c : List ℕ) (d : ℕ) → length (node_b k up a b c d) ≡ node_size
unfolding node_b
node_length k up a b c d = refl

pub cell_length : (c : List ℕ) → length (whole_c c) ≡ cell_size
unfolding whole_c
cell_length c = refl

-- ---- a cell's record
pub bare_put : (p c : List ℕ) → length p ≡ cell_size → length c ≡ bare_size → bare_c (put_c p c) ≡ c
unfolding bare_c put_c
bare_put p c l e =
    by_tab cell_size (λ (q : List ℕ). (d : List ℕ) → length d ≡ bare_size → bare_c (put_c q d) ≡ d)
    (λ f. by_tab bare_size (λ (d : List ℕ). bare_c (put_c (tab cell_size f) d) ≡ d) (λ g. refl)) p l c e

pub bare_whole : (c : List ℕ) → length c ≡ bare_size → bare_c (whole_c c) ≡ c
unfolding bare_c whole_c
bare_whole = by_tab bare_size (λ c. bare_c (whole_c c) ≡ c) (λ f. refl)

-- a cell is its bare cell and nothing else
pub cell_again : (p : List ℕ) → length p ≡ cell_size → whole_c (bare_c p) ≡ p
unfolding bare_c whole_c
cell_again = by_tab cell_size (λ p. whole_c (bare_c p) ≡ p) (λ f. refl)

-- ---- a node's record: but for the kind and the stored cell, p is q
pub record SameNode (p q : List ℕ) : Type 0 where
  pub parent : parent_n p ≡ parent_n q
  pub var : var_n p ≡ var_n q
  pub post : post_n p ≡ post_n q
  pub depth : depth_n p ≡ depth_n q

pub turn_kind : (k : ℕ) (p : List ℕ) → length p ≡ node_size → kind_n (turn_n p k) ≡ k
unfolding kind_n turn_n
turn_kind k = by_tab node_size (λ p. kind_n (turn_n p k) ≡ k) (λ f. refl)

pub turn_same : (k : ℕ) (p : List ℕ) → length p ≡ node_size → SameNode (turn_n p k) p
unfolding parent_n var_n post_n depth_n turn_n u16
turn_same k = by_tab node_size (λ p. SameNode (turn_n p k) p) (λ f. record { parent = refl; var = refl; post = refl; depth = refl })

pub turn_stored : (k : ℕ) (p : List ℕ) → length p ≡ node_size → stored_n (turn_n p k) ≡ stored_n p
unfolding stored_n turn_n
turn_stored k = by_tab node_size (λ p. stored_n (turn_n p k) ≡ stored_n p) (λ f. refl)

pub swap_kind : (k : ℕ) (c p : List ℕ) → length p ≡ node_size → kind_n (swap_n p k c) ≡ k
unfolding kind_n swap_n
swap_kind k c = by_tab node_size (λ p. kind_n (swap_n p k c) ≡ k) (λ f. refl)

pub swap_same : (k : ℕ) (c p : List ℕ) → length p ≡ node_size → SameNode (swap_n p k c) p
unfolding parent_n var_n post_n depth_n swap_n u16
swap_same k c = by_tab node_size (λ p. SameNode (swap_n p k c) p) (λ f. record { parent = refl; var = refl; post = refl; depth = refl })

pub swap_stored : (k : ℕ) (p c : List ℕ) → length p ≡ node_size → length c ≡ bare_size → stored_n (swap_n p k c) ≡ c
unfolding stored_n swap_n
swap_stored k p c l e =
    by_tab node_size (λ (q : List ℕ). (d : List ℕ) → length d ≡ bare_size → stored_n (swap_n q k d) ≡ d)
    (λ f. by_tab bare_size (λ (d : List ℕ). stored_n (swap_n (tab node_size f) k d) ≡ d) (λ g. refl)) p l c e

-- ---- a whole node
module _ (k up a b : ℕ) (c : List ℕ) (d : ℕ) where
  pub node_kind : kind_n (node_b k up a b c d) ≡ k
  unfolding kind_n node_b
  node_kind = refl

  pub node_parent : parent_n (node_b k up a b c d) ≡ up
  unfolding parent_n node_b u16
  node_parent = omega arith

  pub node_var : var_n (node_b k up a b c d) ≡ a
  unfolding var_n node_b u16
  node_var = omega arith

  pub node_post : post_n (node_b k up a b c d) ≡ b
  unfolding post_n node_b u16
  node_post = omega arith

  pub node_stored : length c ≡ bare_size → stored_n (node_b k up a b c d) ≡ c
  unfolding stored_n node_b
  node_stored e = by_tab bare_size (λ (q : List ℕ). stored_n (node_b k up a b q d) ≡ q) (λ g. refl) c e

  pub node_depth : depth_n (node_b k up a b c d) ≡ d
  unfolding depth_n node_b u16
  node_depth = omega arith

-- ---- cells as values
pub as_blank : as_cell blank_cell ≡ unbound
unfolding as_cell
as_blank = refl

-- a number below 2 ^ 32 is what its four bytes say
split : (n : ℕ) → n % 256 + 256 * (n / 256) ≡ n
split n = omega arith

joined : (n a b c d p q : ℕ) → a + 256 * p ≡ n → b + 256 * q ≡ p → c + 256 * d ≡ q → a + 256 * b + 65536 * c + 16777216 * d ≡ n
joined n a b c d p q e f g = omega arith

pub four_bytes : (n : ℕ) → n < 2 ^ 32 → n % 256 + 256 * (n / 256 % 256) + 65536 * (n / 65536 % 256) + 16777216 * (n / 16777216 % 256) ≡ n
four_bytes n h =
    let a : n / 65536 ≡ n / 256 / 256 = omega arith in
    let b : n / 16777216 ≡ n / 65536 / 256 = omega arith in
    let c : n / 16777216 % 256 ≡ n / 65536 / 256 = omega arith in
    rw c (joined n (n % 256) (n / 256 % 256) (n / 65536 % 256) (n / 65536 / 256) (n / 256) (n / 65536) (split n) (rw a (split (n / 256))) (split (n / 65536)))

pub bits_value : (v : ℤ) → SFits w32 v → bits_c (value_c v) ≡ of_z w32 v
unfolding bits_c value_c
bits_value v h = four_bytes (of_z w32 v) (of_z_fits w32 v h).fits

pub as_value : (v : ℤ) → SFits w32 v → as_cell (value_c v) ≡ value v
unfolding as_cell value_c
as_value v h = ap (λ (n : ℕ). value (to_z w32 n)) (bits_value v h) ∙ ap value (to_z-of_z w32 v h)

-- ---- a header
pub head_length : (v n m f a c : ℕ) → length (head_b v n m f a c) ≡ header
unfolding head_b
head_length v n m f a c = refl

-- its numbers written over as many bytes
abbrev pub puts : List ℕ → ℕ → ℕ → ℕ → ℕ → ℕ → ℕ → List ℕ
puts p v n m f a c = put16 (put16 (put16 (put16 (put16 (put16 p 0 v) 2 n) 4 m) 6 f) 8 a) 10 c

pub head_put : (v n m f a c : ℕ) (p : List ℕ) → length p ≡ header → puts p v n m f a c ≡ head_b v n m f a c
unfolding put16 head_b
head_put v n m f a c = by_tab header (λ p. puts p v n m f a c ≡ head_b v n m f a c) (λ g. refl)

-- ---- the top: kind 1, and zero behind it
pub top_bytes : (p : List ℕ) → length p ≡ node_size → kind_n p ≡ 1 → drop 1 p ≡ replicate (length (drop 1 p)) 0 → p ≡ top_node
unfolding kind_n top_node
top_bytes [] l e z = absurd (omega (arith, l))
top_bytes (x ∷ xs) l e z =
    let count : length xs ≡ node_size - 1 = omega (arith, l) in
    (λ i. e i ∷ z i) ∙ ap (λ (n : ℕ). 1 ∷ replicate n 0) count

pub bytes_top : (p : List ℕ) → p ≡ top_node → (kind_n p ≡ 1) × (drop 1 p ≡ replicate (length (drop 1 p)) 0)
unfolding kind_n top_node
bytes_top p e =
    let rest : drop 1 p ≡ replicate (node_size - 1) 0 = ap (drop 1) e in
    (ap kind_n e, rest ∙ ap (λ (q : List ℕ). replicate (length q) 0) (sym rest))

-- ---- a record is what its fields say
low : (a b : ℕ) → a < 256 → (a + 256 * b) % 256 ≡ a
low a b h = omega arith

high : (a b : ℕ) → a < 256 → (a + 256 * b) / 256 ≡ b
high a b h = omega arith

pub head_again : (p : List ℕ) → length p ≡ header → BytesTo header p → head_b (u16 p 0) (u16 p 2) (u16 p 4) (u16 p 6) (u16 p 8) (u16 p 10) ≡ p
unfolding head_b u16
head_again = by_tab header (λ p. BytesTo header p → head_b (u16 p 0) (u16 p 2) (u16 p 4) (u16 p 6) (u16 p 8) (u16 p 10) ≡ p) λ f b. λ i.
    low (f 0) (f 1) (b 0 (omega arith)) i ∷ high (f 0) (f 1) (b 0 (omega arith)) i ∷
    low (f 2) (f 3) (b 2 (omega arith)) i ∷ high (f 2) (f 3) (b 2 (omega arith)) i ∷
    low (f 4) (f 5) (b 4 (omega arith)) i ∷ high (f 4) (f 5) (b 4 (omega arith)) i ∷
    low (f 6) (f 7) (b 6 (omega arith)) i ∷ high (f 6) (f 7) (b 6 (omega arith)) i ∷
    low (f 8) (f 9) (b 8 (omega arith)) i ∷ high (f 8) (f 9) (b 8 (omega arith)) i ∷
    low (f 10) (f 11) (b 10 (omega arith)) i ∷ high (f 10) (f 11) (b 10 (omega arith)) i ∷ []

pub node_again : (p : List ℕ) → length p ≡ node_size → BytesTo node_size p → node_b (kind_n p) (parent_n p) (var_n p) (post_n p) (stored_n p) (depth_n p) ≡ p
unfolding node_b kind_n parent_n var_n post_n stored_n depth_n u16
node_again = by_tab node_size (λ p. BytesTo node_size p → node_b (kind_n p) (parent_n p) (var_n p) (post_n p) (stored_n p) (depth_n p) ≡ p) λ f b. λ i.
    f 0 ∷ f 1 ∷ low (f 2) (f 3) (b 2 (omega arith)) i ∷ high (f 2) (f 3) (b 2 (omega arith)) i ∷
    low (f 4) (f 5) (b 4 (omega arith)) i ∷ high (f 4) (f 5) (b 4 (omega arith)) i ∷
    low (f 6) (f 7) (b 6 (omega arith)) i ∷ high (f 6) (f 7) (b 6 (omega arith)) i ∷
    f 8 ∷ f 9 ∷ f 10 ∷ f 11 ∷
    low (f 12) (f 13) (b 12 (omega arith)) i ∷ high (f 12) (f 13) (b 12 (omega arith)) i ∷ []

pub bare_bytes : (p : List ℕ) → BytesTo cell_size p → BytesTo bare_size (bare_c p)
unfolding bare_c
bare_bytes p b zero h = b 0 (omega arith)
bare_bytes p b (suc zero) h = b 1 (omega arith)
bare_bytes p b (suc (suc zero)) h = b 2 (omega arith)
bare_bytes p b (suc (suc (suc zero))) h = b 3 (omega arith)
bare_bytes p b (suc (suc (suc (suc zero)))) h = b 4 (omega arith)
bare_bytes p b (suc (suc (suc (suc (suc i))))) h = absurd (omega arith)

pub stored_bytes : (r : List ℕ) → BytesTo node_size r → BytesTo bare_size (stored_n r)
unfolding stored_n
stored_bytes r b zero h = b 1 (omega arith)
stored_bytes r b (suc zero) h = b 8 (omega arith)
stored_bytes r b (suc (suc zero)) h = b 9 (omega arith)
stored_bytes r b (suc (suc (suc zero))) h = b 10 (omega arith)
stored_bytes r b (suc (suc (suc (suc zero)))) h = b 11 (omega arith)
stored_bytes r b (suc (suc (suc (suc (suc i))))) h = absurd (omega arith)

-- ---- a proper cell of bytes is what it is seen as
two_once : (a m b n : ℕ) → a < 256 → b < 256 → a + 256 * m ≡ b + 256 * n → (a ≡ b) × (m ≡ n)
two_once a m b n la lb q = (sym (low a m la) ∙ ap (λ (k : ℕ). k % 256) q ∙ low b n lb, sym (high a m la) ∙ ap (λ (k : ℕ). k / 256) q ∙ high b n lb)

four_once : (a b c d e f g h : ℕ) → a < 256 → b < 256 → c < 256 → e < 256 → f < 256 → g < 256
    → a + 256 * b + 65536 * c + 16777216 * d ≡ e + 256 * f + 65536 * g + 16777216 * h → (a ≡ e) × (b ≡ f) × (c ≡ g) × (d ≡ h)
four_once a b c d e f g h la lb lc le lf lg q =
    let p₁ : a + 256 * (b + 256 * (c + 256 * d)) ≡ e + 256 * (f + 256 * (g + 256 * h)) = omega arith in
    let (first, p₂) = two_once a (b + 256 * (c + 256 * d)) e (f + 256 * (g + 256 * h)) la le p₁ in
    let (second, p₃) = two_once b (c + 256 * d) f (g + 256 * h) lb lf p₂ in
    let (third, fourth) = two_once c d g h lc lg p₃ in
    (first, second, third, fourth)

bits_fit : (c : List ℕ) → BytesTo bare_size c → Fits w32 (bits_c c)
unfolding bits_c
bits_fit c b = record { fits = omega (arith, b 1 (omega arith), b 2 (omega arith), b 3 (omega arith), b 4 (omega arith)) }

as_bound : (c : List ℕ) → get_or c 0 0 ≡ 1 → as_cell c ≡ value (to_z w32 (bits_c c))
unfolding as_cell
as_bound c e = rw e

listed : (c : List ℕ) → length c ≡ bare_size → get_or c 0 0 ∷ get_or c 1 0 ∷ get_or c 2 0 ∷ get_or c 3 0 ∷ get_or c 4 0 ∷ [] ≡ c
listed = by_tab bare_size (λ c. get_or c 0 0 ∷ get_or c 1 0 ∷ get_or c 2 0 ∷ get_or c 3 0 ∷ get_or c 4 0 ∷ [] ≡ c) (λ f. refl)

same_bits : (c d : List ℕ) → length c ≡ bare_size → length d ≡ bare_size → BytesTo bare_size c → BytesTo bare_size d
    → get_or c 0 0 ≡ get_or d 0 0 → bits_c c ≡ bits_c d → c ≡ d
unfolding bits_c
same_bits c d lc ld bc bd e q =
    let (e₁, e₂, e₃, e₄) = four_once (get_or c 1 0) (get_or c 2 0) (get_or c 3 0) (get_or c 4 0) (get_or d 1 0) (get_or d 2 0) (get_or d 3 0) (get_or d 4 0)
    (bc 1 (omega arith)) (bc 2 (omega arith)) (bc 3 (omega arith)) (bd 1 (omega arith)) (bd 2 (omega arith)) (bd 3 (omega arith)) q in
    sym (listed c lc) ∙ (λ i. e i ∷ e₁ i ∷ e₂ i ∷ e₃ i ∷ e₄ i ∷ []) ∙ listed d ld

pub cell_once : (c d : List ℕ) → length c ≡ bare_size → length d ≡ bare_size → BytesTo bare_size c → BytesTo bare_size d
    → ProperCell c → ProperCell d → as_cell c ≡ as_cell d → c ≡ d
cell_once c d lc ld bc bd (inl e) (inl f) q = e ∙ sym f
cell_once c d lc ld bc bd (inl e) (inr f) q =
    let z : unbound ≡ value (to_z w32 (bits_c d)) = sym as_blank ∙ ap as_cell (sym e) ∙ q ∙ as_bound d f in
    absurd (let y : ◌≡◌ {A = ℕ} 0 1 = cc in omega arith)
cell_once c d lc ld bc bd (inr e) (inl f) q =
    let z : unbound ≡ value (to_z w32 (bits_c c)) = sym as_blank ∙ ap as_cell (sym f) ∙ sym q ∙ as_bound c e in
    absurd (let y : ◌≡◌ {A = ℕ} 0 1 = cc in omega arith)
cell_once c d lc ld bc bd (inr e) (inr f) q =
    let z : value (to_z w32 (bits_c c)) ≡ value (to_z w32 (bits_c d)) = sym (as_bound c e) ∙ q ∙ as_bound d f in
    let w : to_z w32 (bits_c c) ≡ to_z w32 (bits_c d) = cc in
    let bits : bits_c c ≡ bits_c d = sym (of_z-to_z w32 (bits_c c) (bits_fit c bc)) ∙ ap (of_z w32) w ∙ of_z-to_z w32 (bits_c d) (bits_fit d bd) in
    same_bits c d lc ld bc bd (e ∙ sym f) bits
