-- What is proved of specs/Doors.antt, whose head says it in words. Assumes nothing.
use Rattle.std.specs.Prelude.{◌≡◌, refl, Bool, true, false}
use Rattle.std.proofs.Common.{sym, ap, ◌∙◌}
use Rattle.std.proofs.Math.Option.{none}
use mathlib.Core.List.{List, [], ◌∷◌, ◌++◌}
use Rattle.rules.specs.Store.{Deep, move_to}
use Rattle.rules.specs.World.{World}
use Rattle.rules.specs.Act.{Call, Size}
use Rattle.rules.specs.Runs.{Asked, after, leaves, is_mark, marks_of, marks, replay, Outside}
use Rattle.rules.proofs.Runs.{one_means, no_trace}
use Rattle.rules.specs.Doors.{Jump, by_switch, Extra, ends, same, one_more, other_more}

-- ---- meanwhile the two worlds differ in the focus at most
alike_equal : (w u : World Deep) → move_to 0 w.store ≡ move_to 0 u.store → w.walk ≡ none → u.walk ≡ none → w.store.focus ≡ u.store.focus → w ≡ u
alike_equal w u s o o' f = λ i. record { store = move_to (f i) (s i); walk = (o ∙ sym o') i }

no_mark : (c : Call) → Jump c → is_mark c ≡ false
no_mark (Call.switch g) by_switch = refl
no_mark (Call.ask _) x'' = elim x'' [ ]
no_mark (Call.make _) x3 = elim x3 [ ]
no_mark (Call.set _ _) x5 = elim x5 [ ]
no_mark (Call.stride _) x5 = elim x5 [ ]

-- a call that is no mark changes the focus at most, and has no marks
module _ (z : Size) (q : Asked) (w : World Deep) (h : is_mark q.call ≡ false) where
  moves_only : move_to 0 (after z q w).store ≡ move_to 0 w.store
  unfolding replay
  moves_only = one_means z q w [] 0 ∙ rw h

  marks_none : (qs : List Asked) → marks z (q ∷ qs) w ≡ marks z qs (after z q w)
  unfolding marks
  marks_none qs = rw h

pub marks_same : {z : Size} {w u : World Deep} {r₁ r₂ : List Asked} → Extra z w r₁ u r₂ → move_to 0 w.store ≡ move_to 0 u.store
    → Outside z r₁ w → Outside z r₂ u → marks z r₁ w ≡ marks z r₂ u
unfolding marks
marks_same ends s o o' = refl
marks_same {z} (same {w = w} {u = u} {q = q} {qs = qs} {rs = rs} f e) s (o, os) (o', os') = go (is_mark q.call) refl (λ t. marks_same e t os os')
  where
    go : (b : Bool) → is_mark q.call ≡ b → (move_to 0 (after z q w).store ≡ move_to 0 (after z q u).store → marks z qs (after z q w) ≡ marks z rs (after z q u))
        → marks z (q ∷ qs) w ≡ marks z (q ∷ rs) u
    go true h ih =
        let p : w ≡ u = alike_equal w u s o o' (f h) in
        λ i. marks_of z q (p i) ++ ih (ap (λ (v : World Deep). move_to 0 (after z q v).store) p) i
    go false h ih = marks_none z q w h qs ∙ ih (moves_only z q w h ∙ s ∙ sym (moves_only z q u h)) ∙ sym (marks_none z q u h rs)
marks_same {z} (one_more {w = w} {q = q} {qs = qs} j d e) s (o, os) o' =
    let h : is_mark q.call ≡ false = no_mark q.call j in
    marks_none z q w h qs ∙ marks_same e (moves_only z q w h ∙ s) os o'
marks_same {z} (other_more {u = u} {q = q} {rs = rs} j d e) s o (o', os') =
    let h : is_mark q.call ≡ false = no_mark q.call j in
    marks_same e (s ∙ sym (moves_only z q u h)) o os' ∙ sym (marks_none z q u h rs)

pub another_door : (z : Size) (w : World Deep) (r₁ r₂ : List Asked) → Outside z r₁ w → Outside z r₂ w → Extra z w r₁ w r₂
    → (leaves z r₁ w).store.focus ≡ (leaves z r₂ w).store.focus → leaves z r₁ w ≡ leaves z r₂ w
another_door z w r₁ r₂ out₁ out₂ e f = no_trace z w r₁ r₂ out₁ out₂ (marks_same e refl out₁ out₂) f
