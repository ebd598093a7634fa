-- What is proved of specs/Calls.antt, whose head says it in words. Assumes nothing.
use Rattle.std.specs.Prelude.{◌≡◌, refl, ◌⊎◌, ℕ, zero, suc, ◌≤◌, List, [], ◌∷◌, map, ℤ}
use Rattle.std.proofs.Common.{sym, ap, ◌∙◌, inl, inr, eqb-true}
use native.Mathlib.Omega.{arith}
use Rattle.std.proofs.lemmas.Bool.{eqb-false}
use Rattle.rules.proofs.Basic.{clash}
use Rattle.rules.specs.Moves.{Event}
use Rattle.rules.specs.Act.{Ask, Child, Goal, Stride, Call, Free, Barred, Needing, steps, drops, Size, Shown, shown, events_of, Ground, grounds, row_of, rows}
use Rattle.rules.specs.Refusals as refusals
use Rattle.rules.specs.Refusals.{setup, damaged, no_environment}
use Rattle.rules.proofs.Demands.{ground_known}
use Rattle.rules.specs.Grounds.{RisesBehind}
use Rattle.rules.proofs.Grounds.{each_call, free_rise, barred_first}
use Rattle.layout.specs.Limits.{none_n}
use Rattle.layout.specs.Records.{target}
use Rattle.layout.specs.Sound.{Sound}
use Rattle.layout.specs.Becomes.{Sized}
use Rattle.layout.proofs.WalkLaws.{sized_self}
use Rattle.layout.specs.Made.{IsMade, next_of}
use Rattle.layout.specs.Events.{events_b, told}
use Rattle.promises.specs.declared.Told.{Told}
use Rattle.promises.specs.Answers.{Numbers, refusal, untold}
use Rattle.promises.specs.Tables.{Row, row, First, RisingFrom, Rising, Lowest, Above}
use Rattle.promises.proofs.Tables.{rising_more, lowest_beside, first_lowest}
use Rattle.promises.specs.Promises.{world, at, Answers, damaged_row, environment_row, walking_row, tells, TellPromise, BindDone, WindDone, Openable, Opened, OpenPromise}
use Rattle.promises.proofs.Stable.{sound_stable}
use Rattle.promises.specs.Calls.{Promised, events_in, row_at, table, AskDone, MakeDone, Done, Called, Code, is_done_lem, is_refused}

answers_map : {rows : List Row} {n : Numbers} {A B C D : Type 0} → (A → C) → (B → D) → Answers rows n A B → Answers rows n C D
answers_map f g a = record { first = a.first; refused = λ h. ((a.refused h).0, f (a.refused h).1); done = λ h. g (a.done h) }

asked : (q : Ask) (s t s' t' : List ℕ) (n : Numbers) → Promised (Call.ask q) s t s' t' n
    → (s' ≡ s) × (t' ≡ t) × Answers (damaged_row s ∷ table (Call.ask q) s t) n (Unit {0}) (AskDone q s n)
asked (Ask.look x) s t s' t' n (p, e) = (p.same, e, p.answers)
asked Ask.here s t s' t' n (p, e) = (p.same, e, p.answers)
asked (Ask.peek a x) s t s' t' n (p, e) = (p.same, e, p.answers)
asked (Ask.far a b) s t s' t' n (p, e) = (p.same, e, p.answers)

bound : {s t s' t' : List ℕ} {n : Numbers} (x : ℕ) (v : ℤ) → t' ≡ t → BindDone s x v s' n → MakeDone (Child.bind x v) s t s' t' n
unfolding told events_b
bound {s} {t} {s'} x v e d = record {
  answer = d.answer;
  sound = d.sound;
  kept = d.kept;
  new = d.new;
  own = λ y h. ap (at s' (next_of s)) (sym (eqb-true x y h)) ∙ d.own;
  rest = λ y h. d.rest y (λ q. eqb-false x y h (sym q));
  trace = e;
}

wound : {s t s' t' : List ℕ} {n : Numbers} (p q : ℕ) → WindDone s t p q s' t' n → MakeDone (Child.wind p q) s t s' t' n
wound p q d = record {
  answer = d.answer;
  sound = d.sound;
  kept = d.kept;
  new = d.new;
  own = λ x h. clash h refl;
  rest = λ y h. d.rest y;
  trace = d.trace;
}

pub called : (c : Call) (s t s' t' : List ℕ) (n : Numbers) → Promised c s t s' t' n → Called c s t s' t' n
called (Call.ask q) s t s' t' n p = let (same, kept, a) = asked q s t s' t' n p in answers_map (λ u. (same, kept)) (λ d. (d, same, kept)) a
called (Call.make (Child.bind x v)) s t s' t' n (p, e) = answers_map (λ q. (q, e)) (bound x v e) p.answers
called (Call.make (Child.wind a b)) s t s' t' n p = answers_map (λ q. q) (wound a b) p.answers
called (Call.set x v) s t s' t' n (p, e) = answers_map (λ q. (q, e)) (λ d. (d, e)) p.answers
called (Call.switch (Goal.goto a)) s t s' t' n p = p.answers
called (Call.switch Goal.back) s t s' t' n p = p.answers
called (Call.stride (Stride.begin a)) s t s' t' n (p, e) = answers_map (λ q. (q, e)) (λ d. (d, e)) p.answers
called (Call.stride Stride.step) s t s' t' n (p, e) = answers_map (λ q. (q, e)) (λ d. (d, e)) p.answers
called (Call.stride Stride.drop) s t s' t' n (p, e) = answers_map (λ q. (q, e)) (λ d. (d, e)) p.answers

pub code_of_lem : (n : Numbers) → Code n
code_of_lem n = go n.code refl
  where
    go : (k : ℕ) → n.code ≡ k → Code n
    go zero e = is_done_lem e
    go (suc k) e = is_refused (omega arith)

-- ---- the table: its numbers are the rules' and rise, all above Damaged, so the number given is the lowest that applies
module _ (s t : List ℕ) (es : List Event) (z : Size) (room : ℕ) (es' : List Event) (d : Shown) where
  pub number_same : (g : Ground) → (row_at s t es g).number ≡ (row_of z room es' d g).number
  number_same (Ground.unknown x) = refl
  number_same (Ground.unmade a) = refl
  number_same (Ground.valueless x) = refl
  number_same (Ground.valueless_at a x) = refl
  number_same Ground.no_space = refl
  number_same Ground.no_room = refl
  number_same Ground.no_parent = refl
  number_same Ground.mid_walk = refl
  number_same Ground.no_walk = refl

  rises_same : (k : ℕ) (gs : List Ground) → refusals.RisingFrom k (map (row_of z room es' d) gs) → RisingFrom k (map (row_at s t es) gs)
  rises_same k [] h = tt
  rises_same k (g ∷ gs) h = rw (number_same g) (h.0, rises_same (row_of z room es' d g).number gs h.1)

  above_same : (gs : List Ground) → Above damaged (map (row_at s t es) gs)
  above_same [] = tt
  above_same (g ∷ gs) = (rw (number_same g) (ground_known z room es' d g).1, above_same gs)

module _ (c : Call) (s t : List ℕ) where
  -- any will do: the numbers are the same
  z : Size
  z = record { vars = 0; nodes = 0 }

  d : Shown
  d = shown (world s)

  pub table_above : Above damaged (table c s t)
  table_above = above_same s t (events_in c s) z 0 [] d (grounds c)

  free_lowest : Free c → (n : ℕ) → First (damaged_row s ∷ table c s t) n → Lowest (damaged_row s ∷ table c s t) n
  unfolding rows
  free_lowest f n h = first_lowest (damaged_row s ∷ table c s t) (omega arith, rising_more damaged (table c s t) rise) n h
    where
      rise : RisingFrom (suc damaged) (table c s t)
      rise = rises_same s t (events_in c s) z 0 (events_of c d) d (suc damaged) (grounds c) (free_rise z 0 c d f)

  barred_lowest : Barred c → target s ≡ none_n → (n : ℕ) → First (damaged_row s ∷ table c s t) n → Lowest (damaged_row s ∷ table c s t) n
  barred_lowest b out n h = go (barred_first z 0 c d b)
    where
      go : RisesBehind z 0 c d → Lowest (damaged_row s ∷ table c s t) n
      go (gs, is, up) = rw split (lowest_beside (damaged_row s) (walking_row s) own n (λ w. w out) (first_lowest (damaged_row s ∷ own) rises n (behind (rw split at h))))
        where
          own : List Row
          own = map (row_at s t (events_in c s)) gs

          split : table c s t ≡ walking_row s ∷ own
          split = ap (map (row_at s t (events_in c s))) is

          rises : Rising (damaged_row s ∷ own)
          rises = (omega arith, rising_more damaged own (rises_same s t (events_in c s) z 0 (events_of c d) d (suc damaged) gs up))

          behind : First (damaged_row s ∷ walking_row s ∷ own) n → First (damaged_row s ∷ own) n
          behind (inl a) = inl a
          behind (inr (sound, inl (e, w))) = absurd (w out)
          behind (inr (sound, inr (off, f))) = inr (sound, f)

-- document 01's "the lowest number that applies": of a call that a walk leaves free always, of every call outside a walk
pub called_lowest : (c : Call) (s t s' t' : List ℕ) (n : Numbers) → Called c s t s' t' n → Free c ⊎ (target s ≡ none_n)
    → Lowest (damaged_row s ∷ table c s t) n.code
called_lowest c s t s' t' n p (inl f) = free_lowest c s t f n.code p.first
called_lowest c s t s' t' n p (inr out) = go c p.first (each_call c)
  where
    go : (c : Call) → First (damaged_row s ∷ table c s t) n.code → Free c ⊎ (Barred c ⊎ Needing c) → Lowest (damaged_row s ∷ table c s t) n.code
    go c h (inl f) = free_lowest c s t f n.code h
    go c h (inr (inl b)) = barred_lowest c s t b out n.code h
    go (Call.stride Stride.step) h (inr (inr steps)) = first_lowest _ (omega arith, (omega arith, tt)) n.code h
    go (Call.stride Stride.drop) h (inr (inr drops)) = first_lowest _ (omega arith, (omega arith, tt)) n.code h
    go (Call.ask _) h (inr (inr x6)) = elim x6 [ ]
    go (Call.make _) h (inr (inr x7)) = elim x7 [ ]
    go (Call.set _ _) h (inr (inr x9)) = elim x9 [ ]
    go (Call.switch _) h (inr (inr x9)) = elim x9 [ ]
    go (Call.stride (Stride.begin _)) h (inr (inr x12)) = elim x12 [ ]

module _ {s : List ℕ} {rows : List Row} {n : Numbers} {Same Done : Type 0} (a : Answers (damaged_row s ∷ rows) n Same Done) where
  -- where the call is done the store was sound
  pub done_sound : n.code ≡ 0 → Sound s
  done_sound e = go a.first
    where
      go : First (damaged_row s ∷ rows) n.code → Sound s
      go (inl (f, bad)) = absurd (omega arith)
      go (inr (never, f)) = sound_stable s never

  -- a sound store: the rows behind Damaged decide
  pub sound_first : Sound s → First rows n.code
  sound_first ok = go a.first
    where
      go : First (damaged_row s ∷ rows) n.code → First rows n.code
      go (inl (f, bad)) = absurd (bad ok)
      go (inr (never, f)) = f

-- ---- what a done call leaves is a sound store of the same size, and no byte past the size changed
pub done_leaves : (c : Call) (s t s' t' : List ℕ) (n : Numbers) → Sound s → Done c s t s' t' n → Sound s' × Sized s s'
done_leaves (Call.ask q) s t s' t' n ok (d, e, f) = rw e (ok, sized_self s)
done_leaves (Call.make k) s t s' t' n ok d = (d.sound, d.kept.size)
done_leaves (Call.set x v) s t s' t' n ok (d, e) = (d.sound, d.kept.size)
done_leaves (Call.switch g) s t s' t' n ok d = (d.sound, d.kept.size)
done_leaves (Call.stride k) s t s' t' n ok (d, e) = (d.sound, d.size)

-- ---- open: done where its arguments are good, else refused
module _ (v k : ℕ) (tops s s' : List ℕ) (n : Numbers) (p : OpenPromise v k tops s s' n) where
  pub opens : Openable v k tops s → Opened v k tops s s' n
  opens good = go p.answers.first
    where
      go : First (row setup (Openable v k tops s → ⊥) ∷ []) n.code → Opened v k tops s s' n
      go (inl (e, bad)) = absurd (bad good)
      go (inr (never, e)) = p.answers.done e

  pub opens_not : (Openable v k tops s → ⊥) → (n ≡ refusal setup) × (s' ≡ s)
  opens_not bad = go p.answers.first
    where
      go : First (row setup (Openable v k tops s → ⊥) ∷ []) n.code → (n ≡ refusal setup) × (s' ≡ s)
      go (inl (e, h)) = let (a, b) = p.answers.refused (omega arith) in (a ∙ ap refusal (sym e), b)
      go (inr (never, e)) = absurd (never bad)

-- ---- tell: refused by its rows, else what the environment is
module _ (s : List ℕ) (a : ℕ) (s' : List ℕ) (n : Told) (p : TellPromise s a s' n) where
  untold_by : {k : ℕ} → 1 ≤ k → k ≡ n.code → n ≡ untold k
  untold_by {k} low e = p.refused (omega arith) ∙ ap untold (sym e)

  pub tell_damaged : (Sound s → ⊥) → n ≡ untold damaged
  tell_damaged bad = go p.first
    where
      go : First (damaged_row s ∷ environment_row s a ∷ []) n.code → n ≡ untold damaged
      go (inl (e, w)) = untold_by (omega arith) e
      go (inr (never, f)) = absurd (never bad)

  pub tell_unmade : Sound s → (IsMade s a → ⊥) → n ≡ untold no_environment
  tell_unmade ok un = go p.first
    where
      go : First (damaged_row s ∷ environment_row s a ∷ []) n.code → n ≡ untold no_environment
      go (inl (e, bad)) = absurd (bad ok)
      go (inr (never, inl (e, w))) = untold_by (omega arith) e
      go (inr (never, inr (off, e))) = absurd (off un)

  pub tell_made : Sound s → IsMade s a → n ≡ tells s a
  tell_made ok m = go p.first
    where
      go : First (damaged_row s ∷ environment_row s a ∷ []) n.code → n ≡ tells s a
      go (inl (e, bad)) = absurd (bad ok)
      go (inr (never, inl (e, un))) = absurd (un m)
      go (inr (never, inr (off, e))) = p.done e
