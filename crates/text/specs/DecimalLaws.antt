-- Laws of plain decimals: the digits by tens, what is written is read back, and different decimals are different numbers.
-- Assumes nothing.
use Rattle.std.specs.Prelude.{◌≡◌, refl, List, [], ◌∷◌, ◌++◌, ℕ, zero, suc, ◌+◌, ◌-◌, ◌*◌, ◌/◌, ◌%◌, ◌≤◌, ◌<◌, length}
use Rattle.std.proofs.Common.{sym, ap, ◌∙◌, append_assoc, append-nil, arith}
use Rattle.text.specs.Every.{All, all_append}
use Rattle.text.specs.Decimal.{digit, tens, decimal}

-- ---- the two laws that give every decimal: one digit, and one digit more
tens_enough : (k j n : ℕ) → n ≤ k → n ≤ j → tens k n ≡ tens j n
unfolding tens
tens_enough zero zero n h g = refl
tens_enough zero (suc j) zero h g = refl
tens_enough zero (suc j) (suc n) h g = absurd (omega arith)
tens_enough (suc k) zero zero h g = refl
tens_enough (suc k) zero (suc n) h g = absurd (omega arith)
tens_enough (suc k) (suc j) zero h g = refl
tens_enough (suc k) (suc j) (suc n) h g =
    ap (λ (z : List ℕ). z ++ (digit (suc n % 10) ∷ [])) (tens_enough k j (suc n / 10) (omega arith) (omega arith))

tens_none : (k : ℕ) → tens k 0 ≡ []
unfolding tens
tens_none zero = refl
tens_none (suc k) = refl

above : (n : ℕ) → 0 < n → decimal n ≡ tens n n
unfolding decimal
above zero h = absurd (omega arith)
above (suc n) h = refl

pub decimal_one : (d : ℕ) → d < 10 → decimal d ≡ digit d ∷ []
unfolding decimal tens
decimal_one zero h = refl
decimal_one (suc n) h =
    let e : suc n / 10 ≡ 0 = omega arith in
    let f : suc n % 10 ≡ suc n = omega arith in
    rw (e, f, tens_none n)

pub decimal_split : (m : ℕ) → 10 ≤ m → decimal m ≡ decimal (m / 10) ++ (digit (m % 10) ∷ [])
unfolding decimal tens
decimal_split zero h = absurd (omega arith)
decimal_split (suc m) h =
    ap (λ (z : List ℕ). z ++ (digit (suc m % 10) ∷ []))
    (tens_enough m (suc m / 10) (suc m / 10) (omega arith) (omega arith) ∙ sym (above (suc m / 10) (omega arith)))

pub decimal_more : (n d : ℕ) → 0 < n → d < 10 → decimal (n * 10 + d) ≡ decimal n ++ (digit d ∷ [])
decimal_more n d h g =
    let e : (n * 10 + d) / 10 ≡ n = omega arith in
    let f : (n * 10 + d) % 10 ≡ d = omega arith in
    decimal_split (n * 10 + d) (omega arith) ∙ rw (e, f)

-- ---- reading: the value of digits, and that it is the number written
unfoldable pub value_from : ℕ → List ℕ → ℕ
value_from a [] = a
value_from a (b ∷ s) = value_from (a * 10 + (b - 48)) s

abbrev pub value : List ℕ → ℕ
value s = value_from 0 s

value_append : (a : ℕ) (s t : List ℕ) → value_from a (s ++ t) ≡ value_from (value_from a s) t
unfolding value_from
value_append a [] t = refl
value_append a (b ∷ s) t = value_append (a * 10 + (b - 48)) s t

value_tens : (k n : ℕ) → n ≤ k → value (tens k n) ≡ n
unfolding value_from tens
value_tens zero n h = omega arith
value_tens (suc k) zero h = refl
value_tens (suc k) (suc n) h =
    let i : value (tens k (suc n / 10)) ≡ suc n / 10 = value_tens k (suc n / 10) (omega arith) in
    value_append 0 (tens k (suc n / 10)) (digit (suc n % 10) ∷ []) ∙ rw i (omega arith)

-- what is written is read back as the same number
pub read_back : (n : ℕ) → value (decimal n) ≡ n
unfolding decimal value_from
read_back zero = refl
read_back (suc n) = value_tens (suc n) (suc n) (omega arith)

-- two different plain decimals are different numbers
pub decimal_inj : (m n : ℕ) → decimal m ≡ decimal n → m ≡ n
decimal_inj m n e = sym (read_back m) ∙ ap value e ∙ read_back n

pub value_least : (a : ℕ) (s : List ℕ) → a ≤ value_from a s
unfolding value_from
value_least a [] = omega arith
value_least a (b ∷ s) = let h : a * 10 + (b - 48) ≤ value_from (a * 10 + (b - 48)) s = value_least (a * 10 + (b - 48)) s in omega arith

-- ---- the bytes of a decimal
pub record Digit (b : ℕ) : Type 0 where
  pub low : 48 ≤ b
  pub high : b ≤ 57

tens_digits : (k n : ℕ) → All Digit (tens k n)
unfolding tens
tens_digits zero n = tt
tens_digits (suc k) zero = tt
tens_digits (suc k) (suc n) =
    all_append Digit (tens k (suc n / 10)) _ (tens_digits k (suc n / 10)) (record { low = omega arith; high = omega arith }, tt)

pub decimal_digits : (n : ℕ) → All Digit (decimal n)
unfolding decimal
decimal_digits zero = (record { low = omega arith; high = omega arith }, tt)
decimal_digits (suc n) = tens_digits (suc n) (suc n)

-- the first byte of a number above 0 is no zero
tens_first : (k n : ℕ) → 0 < n → n ≤ k → (x : ℕ) × (t : List ℕ) × (tens k n ≡ x ∷ t) × (48 < x)
unfolding tens
tens_first zero n h g = absurd (omega arith)
tens_first (suc k) zero h g = absurd (omega arith)
tens_first (suc k) (suc n) h g = go (suc n / 10) refl (tens_first k (suc n / 10))
  where
    go : (q : ℕ) → suc n / 10 ≡ q → (0 < suc n / 10 → suc n / 10 ≤ k → (x : ℕ) × (t : List ℕ) × (tens k (suc n / 10) ≡ x ∷ t) × (48 < x)) →
        (x : ℕ) × (t : List ℕ) × (tens k (suc n / 10) ++ (digit (suc n % 10) ∷ []) ≡ x ∷ t) × (48 < x)
    go zero e ih = (digit (suc n % 10), [], rw (e, tens_none k), omega arith)
    go (suc q) e ih =
        let w : (x : ℕ) × (t : List ℕ) × (tens k (suc n / 10) ≡ x ∷ t) × (48 < x) = ih (omega arith) (omega arith) in
        (w.0, w.1 ++ (digit (suc n % 10) ∷ []), ap (λ (z : List ℕ). z ++ (digit (suc n % 10) ∷ [])) w.2, w.3)

pub decimal_first : (n : ℕ) → 0 < n → (x : ℕ) × (t : List ℕ) × (decimal n ≡ x ∷ t) × (48 < x)
unfolding decimal
decimal_first zero h = absurd (omega arith)
decimal_first (suc n) h = tens_first (suc n) (suc n) h (omega arith)

-- digits without a leading zero are the decimal of their value
value_more : (a : ℕ) (s : List ℕ) → 0 < a → All Digit s → decimal (value_from a s) ≡ decimal a ++ s
unfolding value_from
value_more a [] h g = sym (append-nil (decimal a))
value_more a (b ∷ s) h g =
    let low : 48 ≤ b = g.0.low in
    let high : b ≤ 57 = g.0.high in
    let e : digit (b - 48) ≡ b = omega arith in
    value_more (a * 10 + (b - 48)) s (omega arith) g.1
    ∙ ap (λ (z : List ℕ). z ++ s) (decimal_more a (b - 48) h (omega arith)) ∙ rw (e, append_assoc)

pub decimal_value : (b : ℕ) (s : List ℕ) → 48 < b → All Digit (b ∷ s) → decimal (value (b ∷ s)) ≡ b ∷ s
unfolding value_from
decimal_value b s h g =
    let high : b ≤ 57 = g.0.high in
    let e : 0 * 10 + (b - 48) ≡ b - 48 = omega arith in
    let f : digit (b - 48) ≡ b = omega arith in
    ap (λ (n : ℕ). decimal (value_from n s)) e ∙ value_more (b - 48) s (omega arith) g.1
    ∙ ap (λ (z : List ℕ). z ++ s) (decimal_one (b - 48) (omega arith)) ∙ ap (λ (x : ℕ). x ∷ s) f

-- no decimal is empty
pub decimal_some : (n : ℕ) → decimal n ≡ [] → ⊥
unfolding decimal
decimal_some zero e = let l : suc 0 ≡ 0 = ap length e in omega arith
decimal_some (suc n) e = let l : suc (length (decimal_first (suc n) (omega arith)).1) ≡ 0 = ap length (sym (decimal_first (suc n) (omega arith)).2 ∙ e) in omega arith
