-- The C functions leave no choice, in memory too: two outcomes that a function's promise allows have one reply and the same bytes
-- in every lent buffer. From document 01, "How much a promise has to say". Each is the store's theorem (crate `demands`,
-- NoChoice) behind `hands_one`. Assumes that what a call leaves is bytes, as memory is.
use Rattle.std.specs.Prelude.{◌≡◌, refl, ℕ, List, ℤ}
use Rattle.std.proofs.Common.{sym, ◌∙◌}
use Rattle.rules.specs.Act.{Ask, Child, Goal, Stride, Call}
use Rattle.layout.specs.Bytes.{Bytes}
use Rattle.promises.specs.Promises.{OpenPromise, LookPromise, PeekPromise, FarPromise, TellPromise, HerePromise, SetPromise, BindPromise, WindPromise, GotoPromise, BackPromise, BeginPromise, StepPromise, DropPromise}
use Rattle.demands.proofs.NoChoice.{no_choice, no_choice_untraced, open_one, tell_one}
use Rattle.kestrelnib.specs.declared.Reply.{Reply}
use Rattle.kestrelnib.specs.declared.Env.{Env}
use Rattle.kestrelnib.specs.Face.{Hands, hands_one, told_of, told_once}

-- the numbers, and beside them store and trace
both : {A B C : Type 0} → A × B × C → A × (B × C)
both (a, b, c) = (a, (b, c))

-- s the store and t the trace at entry; s', t' and r one outcome, s'', t'' and q another
module _ (s s' s'' : List ℕ) (b : Bytes s') (b' : Bytes s'') (r q : Reply) where
  -- the top cells are lent too, and come back as they were
  pub kn_open_one : (v k : ℕ) (tops tops' tops'' : List ℕ) → Hands r (OpenPromise v k tops s s') × (tops' ≡ tops)
      → Hands q (OpenPromise v k tops s s'') × (tops'' ≡ tops) → (r ≡ q) × (s' ≡ s'') × (tops' ≡ tops'')
  kn_open_one v k tops tops' tops'' (p, e) (p', e') =
      let (same, bytes) = hands_one (λ n m. open_one s s' s'' n m b b' v k tops) p p' in (same, bytes, e ∙ sym e')

  pub kn_bind_one : (x : ℕ) (v : ℤ) → Hands r (BindPromise s x v s') → Hands q (BindPromise s x v s'') → (r ≡ q) × (s' ≡ s'')
  kn_bind_one x v = hands_one (λ n m h l. no_choice_untraced s s' s'' n m b b' (Call.make (Child.bind x v)) (h, refl) (l, refl))

  pub kn_look_one : (x : ℕ) → Hands r (LookPromise s x s') → Hands q (LookPromise s x s'') → (r ≡ q) × (s' ≡ s'')
  kn_look_one x = hands_one (λ n m h l. no_choice_untraced s s' s'' n m b b' (Call.ask (Ask.look x)) (h, refl) (l, refl))

  pub kn_set_one : (x : ℕ) (v : ℤ) → Hands r (SetPromise s x v s') → Hands q (SetPromise s x v s'') → (r ≡ q) × (s' ≡ s'')
  kn_set_one x v = hands_one (λ n m h l. no_choice_untraced s s' s'' n m b b' (Call.set x v) (h, refl) (l, refl))

  pub kn_here_one : Hands r (HerePromise s s') → Hands q (HerePromise s s'') → (r ≡ q) × (s' ≡ s'')
  kn_here_one = hands_one (λ n m h l. no_choice_untraced s s' s'' n m b b' (Call.ask Ask.here) (h, refl) (l, refl))

  pub kn_peek_one : (a x : ℕ) → Hands r (PeekPromise s a x s') → Hands q (PeekPromise s a x s'') → (r ≡ q) × (s' ≡ s'')
  kn_peek_one a x = hands_one (λ n m h l. no_choice_untraced s s' s'' n m b b' (Call.ask (Ask.peek a x)) (h, refl) (l, refl))

  pub kn_far_one : (a k : ℕ) → Hands r (FarPromise s a k s') → Hands q (FarPromise s a k s'') → (r ≡ q) × (s' ≡ s'')
  kn_far_one a k = hands_one (λ n m h l. no_choice_untraced s s' s'' n m b b' (Call.ask (Ask.far a k)) (h, refl) (l, refl))

  pub kn_begin_one : (a : ℕ) → Hands r (BeginPromise s a s') → Hands q (BeginPromise s a s'') → (r ≡ q) × (s' ≡ s'')
  kn_begin_one a = hands_one (λ n m h l. no_choice_untraced s s' s'' n m b b' (Call.stride (Stride.begin a)) (h, refl) (l, refl))

  pub kn_step_one : Hands r (StepPromise s s') → Hands q (StepPromise s s'') → (r ≡ q) × (s' ≡ s'')
  kn_step_one = hands_one (λ n m h l. no_choice_untraced s s' s'' n m b b' (Call.stride Stride.step) (h, refl) (l, refl))

  pub kn_drop_one : Hands r (DropPromise s s') → Hands q (DropPromise s s'') → (r ≡ q) × (s' ≡ s'')
  kn_drop_one = hands_one (λ n m h l. no_choice_untraced s s' s'' n m b b' (Call.stride Stride.drop) (h, refl) (l, refl))

  module _ (t t' t'' : List ℕ) where
    pub kn_wind_one : (p k : ℕ) → Hands r (WindPromise s t p k s' t') → Hands q (WindPromise s t p k s'' t'') → (r ≡ q) × ((s' ≡ s'') × (t' ≡ t''))
    kn_wind_one p k = hands_one (λ n m h l. both (no_choice s t s' t' s'' t'' n m b b' (Call.make (Child.wind p k)) h l))

    pub kn_goto_one : (a : ℕ) → Hands r (GotoPromise s t a s' t') → Hands q (GotoPromise s t a s'' t'') → (r ≡ q) × ((s' ≡ s'') × (t' ≡ t''))
    kn_goto_one a = hands_one (λ n m h l. both (no_choice s t s' t' s'' t'' n m b b' (Call.switch (Goal.goto a)) h l))

    pub kn_back_one : Hands r (BackPromise s t s' t') → Hands q (BackPromise s t s'' t'') → (r ≡ q) × ((s' ≡ s'') × (t' ≡ t''))
    kn_back_one = hands_one (λ n m h l. both (no_choice s t s' t' s'' t'' n m b b' (Call.switch Goal.back) h l))

-- tell has a struct of its own, and leaves the store as it was
pub kn_tell_one : (s : List ℕ) (a : ℕ) (s' s'' : List ℕ) (r q : Env) → TellPromise s a s' (told_of r) → TellPromise s a s'' (told_of q) → (r ≡ q) × (s' ≡ s'')
kn_tell_one s a s' s'' r q p p' = let (same, bytes) = tell_one s a s' s'' (told_of r) (told_of q) p p' in (told_once same, bytes)
