-- What is proved of specs/Refusals.antt, whose head says it in words. Assumes nothing.
use Rattle.std.specs.Prelude.{◌≡◌, refl, Bool, true, false, cond, ◌||◌, ◌&&◌, List, [], ◌∷◌, ◌++◌, ℕ, ◌≤◌, eqb}
use Rattle.std.proofs.Common.{sym, ap, ◌∙◌, arith, eqb-true}
use Rattle.std.proofs.Math.Option.{Option, none, some}
use Rattle.rules.proofs.Basic.{clash, eqb_self, some≢none}
use Rattle.rules.specs.Refusals.{Row, row, NoneApply, First, first, gives, Lowest, RisingFrom, Rising}

-- ---- it is the first, and nothing else is
first_none : (rs : List Row) → NoneApply rs → first rs ≡ none
unfolding first
first_none [] h = refl
first_none (r ∷ rs) h = rw h.0 (first_none rs h.1)

first_after : (pre : List Row) (n : ℕ) (post : List Row) → NoneApply pre → first (pre ++ row n true ∷ post) ≡ some n
unfolding first
first_after [] n post h = refl
first_after (r ∷ pre) n post h = rw h.0 (first_after pre n post h.1)

pub first_only : (rs : List Row) (o : Option ℕ) → First rs o → o ≡ first rs
first_only rs none h = sym (first_none rs h)
first_only rs (some n) (pre, post, e, h) = sym (ap first e ∙ first_after pre n post h)

pub first_right : (rs : List Row) → First rs (first rs)
unfolding first
first_right [] = tt
first_right (r ∷ rs) = go r.applies refl (first rs) (first_right rs)
  where
    go : (b : Bool) → r.applies ≡ b → (o : Option ℕ) → First rs o → First (r ∷ rs) (cond b (some r.number) o)
    go true e o h = ([], rs, ap (λ (b : Bool). row r.number b ∷ rs) e, tt)
    go false e none h = (e, h)
    go false e (some n) (pre, post, q, h) = (r ∷ pre, post, ap (λ (l : List Row). r ∷ l) q, (e, h))

pub first_one : (rs : List Row) (o o' : Option ℕ) → First rs o → First rs o' → o ≡ o'
first_one rs o o' h k = first_only rs o h ∙ sym (first_only rs o' k)

-- where nothing is given, no row applies
pub none_given : (r : Row) (rs : List Row) → first (r ∷ rs) ≡ none → (r.applies ≡ false) × (first rs ≡ none)
unfolding first
none_given r rs h = go r.applies refl h
  where
    go : (b : Bool) → r.applies ≡ b → cond b (some r.number) (first rs) ≡ none → (r.applies ≡ false) × (first rs ≡ none)
    go false e k = (e, k)
    go true e k = some≢none refl k

-- rows of which none applies are passed
pub first_append : (ws rs : List Row) → NoneApply ws → first (ws ++ rs) ≡ first rs
unfolding first
first_append [] rs h = refl
first_append (r ∷ ws) rs h = rw h.0 (first_append ws rs h.1)

-- as code finds it: a row that does not apply is passed, one that applies is given
pub first_pass : (r : Row) (rs : List Row) → r.applies ≡ false → first (r ∷ rs) ≡ first rs
unfolding first
first_pass r rs h = rw h

pub first_give : (r : Row) (rs : List Row) → r.applies ≡ true → first (r ∷ rs) ≡ some r.number
unfolding first
first_give r rs h = rw h

pub rising_low : (k : ℕ) (rs : List Row) → RisingFrom k rs → Rising rs
rising_low k [] h = tt
rising_low k (r ∷ rs) h = (omega (arith, h.0), h.1)

rising_above : (k : ℕ) (rs : List Row) → RisingFrom k rs → (m : ℕ) → gives rs m ≡ true → k ≤ m
rising_above k [] h m g = clash g refl
rising_above k (r ∷ rs) h m g = go r.applies (eqb r.number m) refl g (rising_above r.number rs h.1 m)
  where
    go : (a b : Bool) → eqb r.number m ≡ b → ((a && b) || gives rs m) ≡ true → (gives rs m ≡ true → r.number ≤ m) → k ≤ m
    go true true e g' ih = omega (arith, h.0, eqb-true r.number m e)
    go true false e g' ih = omega (arith, h.0, ih g')
    go false b e g' ih = omega (arith, h.0, ih g')

lowest_from : (k : ℕ) (rs : List Row) → RisingFrom k rs → Lowest rs (first rs)
unfolding first
lowest_from k [] h = λ n. refl
lowest_from k (r ∷ rs) h = go r.applies (first rs) (lowest_from r.number rs h.1)
  where
    least : (m : ℕ) (b : Bool) → eqb r.number m ≡ b → (b || gives rs m) ≡ true → r.number ≤ m
    least m true e g = omega (arith, eqb-true r.number m e)
    least m false e g = omega (arith, rising_above r.number rs h.1 m g)

    go : (b : Bool) (o : Option ℕ) → Lowest rs o → Lowest (row r.number b ∷ rs) (cond b (some r.number) o)
    go true o l = (rw (eqb_self r.number), λ m g. least m (eqb r.number m) refl g)
    go false none l = l
    go false (some n) l = l

-- a row that does not apply may stand before
pub lowest_behind : (r : Row) (rs : List Row) (o : Option ℕ) → r.applies ≡ false → Lowest rs o → Lowest (r ∷ rs) o
lowest_behind r rs none off l = λ n. rw off (l n)
lowest_behind r rs (some n) off l = (rw off l.0, λ m g. l.1 m (rw off at g))

pub first_lowest : (rs : List Row) → Rising rs → (o : Option ℕ) → First rs o → Lowest rs o
first_lowest rs h o f = rw (first_only rs o f) (lowest_from 0 rs h)
