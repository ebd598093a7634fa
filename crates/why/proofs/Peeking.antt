-- What the peek says before its value is explained: that store, variable and environment are good, the top value, and which text is wanted.
-- Assumes nothing.
use mathlib.Core.Path.{◌≡◌, refl, sym, ap, ◌∙◌}
use mathlib.Core.Logic.{◌≢◌, ◌⊎◌, inl, inr}
use mathlib.Core.Option as maybe
use mathlib.Core.Option.{none, some}
use mathlib.Core.List.{List, [], ◌∷◌}
use Prim.Native.Nat.{ℕ, ◌≤◌, ◌<◌}
use native.Mathlib.Omega.{arith}
use native.Mathlib.Decide.{dec_lt}
use borrow.Author.Tests.{ne_eqb}
use Rattle.rules.specs.Refusals.{no_value}
use Rattle.layout.specs.Records.{vars, made}
use Rattle.layout.specs.Sound.{Sound}
use Rattle.layout.specs.Made.{IsMade}
use Rattle.layout.proofs.Reading.{top_made}
use Rattle.promises.specs.declared.Seen.{Seen}
use Rattle.promises.specs.declared.Handed.{Handed}
use Rattle.promises.specs.declared.Answer.{Answer}
use Rattle.promises.specs.declared.Answer.TheVariants.{Opened, Number, Made, Value, Switched, Stepped}
use Rattle.promises.specs.declared.Refusal.{Refusal}
use Rattle.promises.specs.declared.Refusal.TheVariants.{Setup, Damaged, NoVariable, NoEnvironment, Unbound, Full, TraceRoom, Top, Walking, NotWalking}
use Rattle.promises.specs.Answers.{Numbers, stepped, numbers}
use Rattle.promises.proofs.Stable.{sound_stable}
use Rattle.promises.specs.Tables.{First}
use Rattle.promises.specs.Promises.{at, damaged_row, variable_row, environment_row, value_row, PeekPromise}
use Rattle.std.specs.Prelude as prelude
use Rattle.std.specs.Prelude.{Some, None, Ok, Err}
use Rattle.print.specs.declared.Out.TheVariants as Out
use Rattle.why.specs.Explained.{held, found_text, lost_text, why_text}

module _ {s s' : List ℕ} {a x : ℕ} {n : Numbers} (peeked : PeekPromise s a x s' n) where
  -- ---- a value or none was found, so all else is good
  pub record Good : Type 0 where
    pub sound : Sound s
    pub variable : x < vars s
    pub environment : IsMade s a

  not_less : {k m : ℕ} → ((k ≤ m) → ⊥) → m < k
  not_less {k} {m} h = go (dec_lt m k)
    where
      go : Dec (m < k) → m < k
      go (yes l) = l
      go (no l) = absurd (h (omega arith))

  not_unmade : ((IsMade s a → ⊥) → ⊥) → IsMade s a
  unfolding IsMade
  not_unmade h = go (dec_lt a (made s))
    where
      go : Dec (a < made s) → a < made s
      go (yes l) = l
      go (no l) = absurd (h l)

  pub good : (n.code ≡ 0) ⊎ (n.code ≡ 5) → Good
  good h = go peeked.answers.first
    where
      is : (k : ℕ) → k ≡ n.code → k ≢ 0 → k ≢ 5 → ⊥
      is k e p q = by h
        where
          by : (n.code ≡ 0) ⊎ (n.code ≡ 5) → ⊥
          by (inl z) = p (e ∙ z)
          by (inr z) = q (e ∙ z)

      go : First (damaged_row s ∷ variable_row s x ∷ environment_row s a ∷ value_row s a x ∷ []) n.code → Good
      go (inl (e, w)) = absurd (is 2 e (λ z. omega arith) (λ z. omega arith))
      go (inr (u, inl (e, w))) = absurd (is 3 e (λ z. omega arith) (λ z. omega arith))
      go (inr (u, inr (v, inl (e, w)))) = absurd (is 4 e (λ z. omega arith) (λ z. omega arith))
      go (inr (u, inr (v, inr (w, r)))) = record { sound = sound_stable s u; variable = not_less v; environment = not_unmade w }

  -- ---- which text is wanted
  pub text_found : n.code ≡ 0 → found_text s a x ≡ why_text n.code s a x
  text_found e = rw e

  pub text_lost : n.code ≡ 5 → lost_text s a ≡ why_text n.code s a x
  text_lost e = rw e

  pub text_none : n.code ≢ 0 → n.code ≢ 5 → [] ≡ why_text n.code s a x
  text_none p q = rw (ne_eqb n.code 0 p, ne_eqb n.code no_value q)

-- ---- what the code answers
-- a step has no decider
stepped_done : (f m : ℕ) (h : prelude.Option Handed) → ((stepped f m h).code ≡ 0) × ((stepped f m h).by ≡ none)
stepped_done f m None = (refl, refl)
stepped_done f m (Some e) = (refl, refl)

-- a refusal has a number of its own
pub done_code : (a : Answer) → (numbers (Ok a)).code ≡ 0
unfolding numbers
done_code Opened = refl
done_code (Number n) = refl
done_code (Made m) = refl
done_code (Value v) = refl
done_code (Switched w) = refl
done_code (Stepped w) = (stepped_done w.focus w.moves w.handed).0

pub lost_code : (numbers (Err Unbound)).code ≡ 5
unfolding numbers
lost_code = refl

pub refused_code : (r : Refusal) → (numbers (Err r)).code ≢ 0
unfolding numbers
refused_code Setup e = omega (arith, e)
refused_code Damaged e = omega (arith, e)
refused_code NoVariable e = omega (arith, e)
refused_code NoEnvironment e = omega (arith, e)
refused_code Unbound e = omega (arith, e)
refused_code Full e = omega (arith, e)
refused_code TraceRoom e = omega (arith, e)
refused_code Top e = omega (arith, e)
refused_code Walking e = omega (arith, e)
refused_code NotWalking e = omega (arith, e)

pub other_code : (r : Refusal) → r ≢ Unbound → (numbers (Err r)).code ≢ 5
unfolding numbers
other_code Setup h e = omega (arith, e)
other_code Damaged h e = omega (arith, e)
other_code NoVariable h e = omega (arith, e)
other_code NoEnvironment h e = omega (arith, e)
other_code Unbound h e = h refl
other_code Full h e = omega (arith, e)
other_code TraceRoom h e = omega (arith, e)
other_code Top h e = omega (arith, e)
other_code Walking h e = omega (arith, e)
other_code NotWalking h e = omega (arith, e)

undecided : {k : ℕ} → none ≡ some k → ⊥
undecided e = let z : ◌≡◌ {A = ℕ} 0 1 = ap code e in omega (arith, z)
  where
    code : maybe.Option ℕ → ℕ
    code none = 0
    code (some k) = 1

-- ---- the top value
module _ {s s' : List ℕ} {x : ℕ} (ok : Sound s) (known : x < vars s) where
  none_there : {n : Numbers} → PeekPromise s 0 x s' n → n.code ≢ 0 → None ≡ held (at s 0 x)
  none_there {n} peeked h = go peeked.answers.first
    where
      go : First (damaged_row s ∷ variable_row s x ∷ environment_row s 0 ∷ value_row s 0 x ∷ []) n.code → None ≡ held (at s 0 x)
      go (inl (e, w)) = absurd (w ok)
      go (inr (u, inl (e, w))) = absurd (omega (arith, w, known))
      go (inr (u, inr (v, inl (e, w)))) = absurd (w (top_made s ok.whole))
      go (inr (u, inr (v, inr (w, inl (e, unbound))))) = sym (ap held unbound)
      go (inr (u, inr (v, inr (w, inr (bound, e))))) = absurd (h e)

  value_there : {n : Numbers} → PeekPromise s 0 x s' n → n.code ≡ 0 → Some (Out.Number n.out) ≡ held (at s 0 x)
  value_there peeked h = let (v, is, has) = peeked.answers.done h in ap (λ (m : Numbers). Some (Out.Number m.out)) is ∙ sym (ap held has)

  pub top_seen : (v : Seen) → PeekPromise s 0 x s' (numbers (Ok (Value v))) → Some (Out.Number v.value) ≡ held (at s 0 x)
  unfolding numbers
  top_seen v peeked = value_there peeked refl

  pub top_unseen : (a : Answer) → ((v : Seen) → a ≡ Value v → ⊥) → PeekPromise s 0 x s' (numbers (Ok a)) → None ≡ held (at s 0 x)
  unfolding numbers
  top_unseen (Value v) h peeked = absurd (h v refl)
  top_unseen Opened h peeked = absurd (undecided (ap (λ (m : Numbers). m.by) (peeked.answers.done refl).1))
  top_unseen (Number n) h peeked = absurd (undecided (ap (λ (m : Numbers). m.by) (peeked.answers.done refl).1))
  top_unseen (Made m) h peeked = absurd (undecided (ap (λ (m : Numbers). m.by) (peeked.answers.done refl).1))
  top_unseen (Switched w) h peeked = absurd (undecided (ap (λ (m : Numbers). m.by) (peeked.answers.done refl).1))
  top_unseen (Stepped w) h peeked =
      let (done, by) = stepped_done w.focus w.moves w.handed in
      absurd (undecided (sym by ∙ ap (λ (m : Numbers). m.by) (peeked.answers.done done).1))

  pub top_refused : (r : Refusal) → PeekPromise s 0 x s' (numbers (Err r)) → None ≡ held (at s 0 x)
  top_refused r peeked = none_there peeked (refused_code r)
