-- What is proved of specs/Tables.antt, whose head says it in words. Assumes nothing.
use Rattle.std.specs.Prelude.{◌≡◌, ◌⊎◌, ℕ, suc, ◌≤◌, List, [], ◌∷◌}
use Rattle.std.proofs.Common.{sym, ◌∙◌, inl, inr, arith}
use Rattle.promises.specs.Tables.{Row, First, Applies, Lowest, RisingFrom, Rising, Above}

-- two codes that a table allows coincide
pub first_one : (rs : List Row) (c d : ℕ) → First rs c → First rs d → c ≡ d
first_one [] c d h k = h ∙ sym k
first_one (r ∷ rs) c d (inl (e, w)) (inl (f, v)) = sym e ∙ f
first_one (r ∷ rs) c d (inl (e, w)) (inr (never, k)) = absurd (never w)
first_one (r ∷ rs) c d (inr (never, h)) (inl (f, v)) = absurd (never v)
first_one (r ∷ rs) c d (inr (never, h)) (inr (never', k)) = first_one rs c d h k

pub rising_more : (k : ℕ) (rs : List Row) → RisingFrom (suc k) rs → RisingFrom k rs
rising_more k [] up = tt
rising_more k (r ∷ rs) up = (omega (arith, up.0), up.1)

pub first_exact : (rs : List Row) (c : ℕ) → First rs c → (c ≡ 0) ⊎ Applies rs c
first_exact [] c h = inl h
first_exact (r ∷ rs) c (inl a) = inr (inl a)
first_exact (r ∷ rs) c (inr (never, h)) = go (first_exact rs c h)
  where
    go : (c ≡ 0) ⊎ Applies rs c → (c ≡ 0) ⊎ Applies (r ∷ rs) c
    go (inl e) = inl e
    go (inr a) = inr (inr a)

pub rising_above : (k : ℕ) (rs : List Row) → RisingFrom k rs → (n : ℕ) → Applies rs n → k ≤ n
rising_above k [] up n a = absurd a
rising_above k (r ∷ rs) up n (inl (e, w)) = omega (arith, up.0)
rising_above k (r ∷ rs) up n (inr a) = omega (arith, up.0, rising_above r.number rs up.1 n a)

first_least : (k : ℕ) (rs : List Row) → RisingFrom k rs → (c : ℕ) → First rs c → (n : ℕ) → Applies rs n → (k ≤ c) × (c ≤ n)
first_least k [] up c h n a = absurd a
first_least k (r ∷ rs) up c (inl (e, w)) n (inl (f, v)) = (omega (arith, up.0), omega arith)
first_least k (r ∷ rs) up c (inl (e, w)) n (inr a) = (omega (arith, up.0), omega (arith, rising_above r.number rs up.1 n a))
first_least k (r ∷ rs) up c (inr (never, h)) n (inl (f, v)) = absurd (never v)
first_least k (r ∷ rs) up c (inr (never, h)) n (inr a) =
    let (low, least) = first_least r.number rs up.1 c h n a in (omega (arith, up.0), least)

-- a row that does not apply may stand behind the first
pub lowest_beside : (d w : Row) (rs : List Row) (c : ℕ) → (w.when → ⊥) → Lowest (d ∷ rs) c → Lowest (d ∷ w ∷ rs) c
lowest_beside d w rs c off l = record { exact = more l.exact; least = λ n a. l.least n (fewer n a) }
  where
    more : (c ≡ 0) ⊎ Applies (d ∷ rs) c → (c ≡ 0) ⊎ Applies (d ∷ w ∷ rs) c
    more (inl e) = inl e
    more (inr (inl a)) = inr (inl a)
    more (inr (inr a)) = inr (inr (inr a))

    fewer : (n : ℕ) → Applies (d ∷ w ∷ rs) n → Applies (d ∷ rs) n
    fewer n (inl a) = inl a
    fewer n (inr (inl (e, a))) = absurd (off a)
    fewer n (inr (inr a)) = inr a

pub applies_above : (k : ℕ) (rs : List Row) → Above k rs → (n : ℕ) → Applies rs n → suc k ≤ n
applies_above k [] h n a = absurd a
applies_above k (r ∷ rs) h n (inl (e, w)) = omega (arith, h.0)
applies_above k (r ∷ rs) h n (inr a) = applies_above k rs h.1 n a

pub first_lowest : (rs : List Row) → Rising rs → (c : ℕ) → First rs c → Lowest rs c
first_lowest rs up c h = record { exact = first_exact rs c h; least = first_least 1 rs up c h }
