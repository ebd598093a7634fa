-- What is proved of specs/Runs.antt, whose head says it in words. Assumes nothing.
use Rattle.std.specs.Prelude.{◌≡◌, refl, ◌≢◌, Bool, true, false, ◌&&◌, List, [], ◌∷◌, ◌++◌, ℕ, eqb}
use Rattle.std.proofs.Common.{sym, ap, ◌∙◌, ne_eqb}
use Rattle.std.proofs.Math.Option.{Option, none, some}
use Rattle.rules.proofs.Basic.{clash, some≢none}
use Rattle.rules.specs.Store.{Deep, move_to}
use Rattle.rules.specs.World.{World, alone}
use Rattle.rules.specs.Refusals.{first}
use Rattle.rules.specs.Act.{Ask, Stride, Call, Size, shown, rows, Answer, done, refused, code_of, answer_of, events_of, changed, walk_after, becomes, outcome, act}
use Rattle.rules.specs.Demands.{refusal_of}
use Rattle.rules.proofs.Demands.{answers_done, given_known}
use Rattle.rules.specs.Runs.{Asked, after, leaves, is_mark, is_done, Mark, mark_if, marks_of, marks, replay, Outside, NoBegin}

-- ---- what a run leaves
-- where the focus stood before does not matter
replay_focus : (z : Size) (ms : List Mark) (d : Deep) (a f : ℕ) → move_to f (replay z ms (move_to a d)) ≡ move_to f (replay z ms d)
unfolding replay
replay_focus z [] d a f = refl
replay_focus z (m ∷ ms) d a f = refl

-- a mark goes by the deep store alone; any other call moves the focus at most
abbrev Does : Size → Call → World Deep → Bool → Type 0
Does z c w true = changed z c w ≡ changed z c (alone w.store)
Does z c w false = changed z c w ≡ move_to (changed z c w).focus w.store

does : (z : Size) (c : Call) (w : World Deep) → Does z c w (is_mark c)
unfolding changed
does z (Call.ask (Ask.look x)) w = refl
does z (Call.ask Ask.here) w = refl
does z (Call.ask (Ask.peek a x)) w = refl
does z (Call.ask (Ask.far a b)) w = refl
does z (Call.make k) w = refl
does z (Call.set x v) w = refl
does z (Call.switch g) w = refl
does z (Call.stride s) w = refl

module _ (z : Size) (q : Asked) (w : World Deep) (ms : List Mark) (f : ℕ) where
  pub one_means : move_to f (replay z ms (after z q w).store) ≡ move_to f (replay z (marks_of z q w ++ ms) w.store)
  unfolding act outcome replay
  one_means = go (first (rows z q.room c (shown w))) (answer_of z c (shown w)) (answers_done z c (shown w)) (is_mark c) (does z c w)
    where
      c : Call
      c = q.call

      go : (o : Option ℕ) (a : Answer) → refusal_of a ≡ none → (b : Bool) → Does z c w b
          → move_to f (replay z ms (outcome o a (events_of c (shown w)) w (becomes z c w)).after.store)
          ≡ move_to f (replay z (mark_if (b && is_done (outcome o a (events_of c (shown w)) w (becomes z c w)).answer) c w.store.focus ++ ms) w.store)
      go (some n) a e true h = refl
      go (some n) a e false h = refl
      go none (done x m) e true h = ap (λ (d : Deep). move_to f (replay z ms d)) h
      go none (done x m) e false h =
          ap (λ (d : Deep). move_to f (replay z ms d)) h ∙ replay_focus z ms w.store (changed z c w).focus f
      go none (refused n) e b h = some≢none refl e

-- what a run leaves is what its marks leave, with the focus where the run ends
pub run_means : (z : Size) (qs : List Asked) (w : World Deep)
    → (leaves z qs w).store ≡ move_to (leaves z qs w).store.focus (replay z (marks z qs w) w.store)
unfolding leaves marks replay
run_means z [] w = refl
run_means z (q ∷ qs) w =
    run_means z qs (after z q w) ∙ one_means z q w (marks z qs (after z q w)) (leaves z qs (after z q w)).store.focus

-- a call is done where its number is 0
pub done_code : (z : Size) (room : ℕ) (c : Call) (w : World Deep) → eqb (code_of (act z room c w).answer) 0 ≡ is_done (act z room c w).answer
unfolding act outcome
done_code z room c w = go (first (rows z room c (shown w))) refl (answer_of z c (shown w)) (answers_done z c (shown w))
  where
    go : (o : Option ℕ) → first (rows z room c (shown w)) ≡ o → (a : Answer) → refusal_of a ≡ none
        → eqb (code_of (outcome o a (events_of c (shown w)) w (becomes z c w)).answer) 0 ≡ is_done (outcome o a (events_of c (shown w)) w (becomes z c w)).answer
    go none e (done x m) h = refl
    go none e (refused n) h = some≢none refl h
    go (some n) e a h = ne_eqb n 0 (λ q. clash (rw q at (given_known z room c (shown w) n e)) refl)

pub run_walk : (z : Size) (qs : List Asked) (w : World Deep) → Outside z qs w → (leaves z qs w).walk ≡ none
unfolding leaves
run_walk z [] w h = h
run_walk z (q ∷ qs) w (h, r) = run_walk z qs (after z q w) r

pub no_trace : (z : Size) (w : World Deep) (r₁ r₂ : List Asked) → Outside z r₁ w → Outside z r₂ w → marks z r₁ w ≡ marks z r₂ w
    → (leaves z r₁ w).store.focus ≡ (leaves z r₂ w).store.focus → leaves z r₁ w ≡ leaves z r₂ w
no_trace z w r₁ r₂ out₁ out₂ same_marks same_focus = λ i. record { store = stores i; walk = (run_walk z r₁ w out₁ ∙ sym (run_walk z r₂ w out₂)) i }
  where
    stores : (leaves z r₁ w).store ≡ (leaves z r₂ w).store
    stores =
        run_means z r₁ w ∙ (λ i. move_to (same_focus i) (replay z (same_marks i) w.store)) ∙ sym (run_means z r₂ w)

one_outside : (z : Size) (room : ℕ) (c : Call) (w : World Deep) → ((a : ℕ) → c ≢ Call.stride (Stride.begin a)) → w.walk ≡ none → (act z room c w).after.walk ≡ none
unfolding act outcome walk_after shown
one_outside z room c w h e = go (first (rows z room c (shown w)))
  where
    out : (c : Call) → ((a : ℕ) → c ≢ Call.stride (Stride.begin a)) → walk_after c (shown w) ≡ none
    out (Call.ask q) h = e
    out (Call.make n) h = e
    out (Call.set x v) h = e
    out (Call.switch g) h = e
    out (Call.stride (Stride.begin a)) h = absurd (h a refl)
    out (Call.stride Stride.step) h = rw e
    out (Call.stride Stride.drop) h = refl

    go : (o : Option ℕ) → (outcome o (answer_of z c (shown w)) (events_of c (shown w)) w (becomes z c w)).after.walk ≡ none
    go none = out c h
    go (some n) = e

pub no_begin_outside : (z : Size) (qs : List Asked) (w : World Deep) → NoBegin qs → w.walk ≡ none → Outside z qs w
no_begin_outside z [] w n e = e
no_begin_outside z (q ∷ qs) w (n, ns) e = (e, no_begin_outside z qs (after z q w) ns (one_outside z q.room q.call w n e))
