-- The promises leave no choice: two outcomes that a promise allows coincide, in the numbers of the answer and in every byte of
-- store and trace. From document 01, "How much a promise has to say". There are no exceptions.
-- Assumes that what a call leaves is bytes, as memory is.
use Rattle.std.specs.Prelude.{◌≡◌, refl, ℕ, List, [], ◌++◌, take, drop}
use Rattle.std.proofs.Common.{sym, ◌∙◌, take-append-drop}
use Rattle.rules.specs.Act.{Call}
use Rattle.layout.specs.Limits.{size_of}
use Rattle.layout.specs.Records.{vars, room}
use Rattle.layout.specs.Becomes.{Sized}
use Rattle.layout.proofs.WalkLaws.{sized_self}
use Rattle.layout.specs.Bytes.{Bytes}
use Rattle.layout.proofs.Same.{same_whole}
use Rattle.promises.specs.declared.Told.{Told}
use Rattle.promises.specs.Answers.{Numbers}
use Rattle.promises.specs.Promises.{OpenPromise, TellPromise}
use Rattle.promises.specs.Calls.{Promised, Called, Code, is_done_lem, is_refused}
use Rattle.promises.proofs.Calls.{called, code_of_lem, done_sound, done_leaves}
use Rattle.demands.proofs.NeverRead.{Fate, both_refused, both_acted, fate, never_read, never_read_open, never_read_tell}

-- every call leaves the size, the length and the bytes past the size
pub keeps : (c : Call) (s t s' t' : List ℕ) (n : Numbers) → Called c s t s' t' n → Sized s s'
keeps c s t s' t' n p = go (code_of_lem n)
  where
    go : Code n → Sized s s'
    go (is_done_lem e) = (done_leaves c s t s' t' n (done_sound p e) (p.done e)).1
    go (is_refused h) = rw (p.refused h).1.0 (sized_self s)

module _ (s t s' t' s'' t'' : List ℕ) (n m : Numbers) where
  -- the two outcomes are one
  abbrev pub One : Type 0
  One = (n ≡ m) × (s' ≡ s'') × (t' ≡ t'')

  module _ (b : Bytes s') (b' : Bytes s'') where
    pub no_choice : (c : Call) → Promised c s t s' t' n → Promised c s t s'' t'' m → One
    no_choice c p q =
        let (e, bytes, events) = never_read c s s t t s' s'' t' t'' n m refl refl b b' p q in
        let k : Sized s s' = keeps c s t s' t' n (called c s t s' t' n p) in
        let k' : Sized s s'' = keeps c s t s'' t'' m (called c s t s'' t'' m q) in
        let v : vars s' ≡ vars s'' = k.vars ∙ sym k'.vars in
        let r : room s' ≡ room s'' = k.room ∙ sym k'.room in (
          e,
          same_whole s' s'' v r (rw (← k.vars, ← k.room) at bytes) (k.past ∙ sym k'.past),
          traces (fate c s s t t refl refl s' s'' t' t'' n m (called c s t s' t' n p) (called c s t s'' t'' m q)),
        )
      where
        traces : {c : Call} → Fate c s s t t refl refl s' s'' t' t'' n m → t' ≡ t''
        traces (both_refused e r f g h l) = h ∙ sym l
        traces (both_acted ok x y) = x.events ∙ sym y.events

module _ (s s' s'' : List ℕ) (n m : Numbers) (b : Bytes s') (b' : Bytes s'') where
  -- the same of a call that is lent no trace
  pub no_choice_untraced : (c : Call) → Promised c s [] s' [] n → Promised c s [] s'' [] m → (n ≡ m) × (s' ≡ s'')
  no_choice_untraced c p q = let (e, f, g) = no_choice s [] s' [] s'' [] n m b b' c p q in (e, f)

  pub open_one : (v k : ℕ) (tops : List ℕ) → OpenPromise v k tops s s' n → OpenPromise v k tops s s'' m → (n ≡ m) × (s' ≡ s'')
  open_one v k tops p q = let (e, bytes) = never_read_open v k tops s s s' s'' n m refl b b' p q in (e, go e bytes (code_of_lem n))
    where
      go : n ≡ m → (n.code ≡ 0 → take (size_of v k) s' ≡ take (size_of v k) s'') → Code n → s' ≡ s''
      go e bytes (is_refused h) = (p.answers.refused h).1 ∙ sym (q.answers.refused (rw e at h)).1
      go e bytes (is_done_lem d) =
          let first : take (size_of v k) s' ≡ take (size_of v k) s'' = bytes d in
          let rest : drop (size_of v k) s' ≡ drop (size_of v k) s'' = (p.answers.done d).past ∙ sym (q.answers.done (rw e at d)).past in
          sym (take-append-drop (size_of v k) s') ∙ (λ i. first i ++ rest i) ∙ take-append-drop (size_of v k) s''

-- tell, which changes no byte
pub tell_one : (s : List ℕ) (a : ℕ) (s' s'' : List ℕ) (n m : Told) → TellPromise s a s' n → TellPromise s a s'' m → (n ≡ m) × (s' ≡ s'')
tell_one s a s' s'' n m p q = (never_read_tell s s a s' s'' n m refl p q, p.same ∙ sym q.same)
