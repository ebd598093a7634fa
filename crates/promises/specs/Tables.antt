-- "Exactly when", stated once for every call: a table of numbers and the conditions under which they apply, in the order of
-- precedence. The first row that applies gives the number; where a table's numbers rise, as the store's do outside a walk, that is
-- "the lowest number that applies" (`first_lowest`). From document 01, "The numbers a call can give back". Assumes nothing.
use Rattle.std.specs.Prelude.{◌≡◌, ◌⊎◌, ℕ, suc, ◌≤◌, List, [], ◌∷◌}

-- a number, and when it applies
pub record Row : Type 1 where
  pub number : ℕ
  pub when : Type 0

abbrev pub row : ℕ → Type 0 → Row
row n c = record { number = n; when = c }

-- 0 where no row applies, else the number of the first that does
abbrev pub First : List Row → ℕ → Type 0
First [] c = c ≡ 0
First (r ∷ rs) c = ((r.number ≡ c) × r.when) ⊎ ((r.when → ⊥) × First rs c)

-- ---- document 01's "the lowest number that applies", for a table whose numbers rise
-- the number n applies
abbrev pub Applies : List Row → ℕ → Type 0
Applies [] n = ⊥
Applies (r ∷ rs) n = ((r.number ≡ n) × r.when) ⊎ Applies rs n

-- 0 where no number applies, else the lowest that does
pub record Lowest (rs : List Row) (code : ℕ) : Type 0 where
  pub exact : (code ≡ 0) ⊎ Applies rs code
  pub least : (n : ℕ) → Applies rs n → (1 ≤ code) × (code ≤ n)

-- no number is lower than the one before it, the first than k
abbrev pub RisingFrom : ℕ → List Row → Type 0
RisingFrom k [] = Unit {0}
RisingFrom k (r ∷ rs) = (k ≤ r.number) × RisingFrom r.number rs

abbrev pub Rising : List Row → Type 0
Rising rs = RisingFrom 1 rs

-- all numbers are above k
abbrev pub Above : ℕ → List Row → Type 0
Above k [] = Unit {0}
Above k (r ∷ rs) = (suc k ≤ r.number) × Above k rs
