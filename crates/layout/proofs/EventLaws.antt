-- Events put into the trace one after the other, forward and backward. Assumes nothing.
use Rattle.std.specs.Prelude.{◌≡◌, refl, ℕ, ◌+◌, ◌*◌, ◌/◌, ◌%◌, ◌≤◌, ◌<◌, List, [], ◌∷◌, ◌++◌, Bool, true, false, eqb, set}
use Rattle.std.proofs.Common.{sym, ap, ◌∙◌, arith, append_assoc, length-append, take-append-drop}
use Rattle.std.proofs.Math.ListN.{length}
use Rattle.rules.specs.Moves.{Event}
use Rattle.layout.specs.Limits.{event_size}
use Rattle.layout.specs.Bytes.{u16, put16, splice}
use Rattle.layout.proofs.Bytes.{by_tab, splice_length, splice_next, splice_prev}
use Rattle.layout.specs.Events.{bit, event_d, event_b, event_in, events_b, told}
use Rattle.layout.specs.Routes.{told_at}

event_length : (e : Event) → length (event_b e) ≡ event_size
unfolding event_b event_d
event_length e = refl

-- an event's bytes are read back as that event
pub event_back : (e : Event) → e.thunk < 65536 → e.place < 65536 → event_in (event_b e) ≡ record { entering = e.entering; thunk = e.thunk; place = e.place }
unfolding event_in event_b event_d u16
event_back e h l =
    let side : eqb (bit e.entering) 1 ≡ e.entering = go e.entering in
    let thunk : e.thunk % 256 + 256 * (e.thunk / 256) ≡ e.thunk = omega arith in
    let place : e.place % 256 + 256 * (e.place / 256) ≡ e.place = omega arith in
    λ i. record { entering = side i; thunk = thunk i; place = place i }
  where
    go : (b : Bool) → eqb (bit b) 1 ≡ b
    go true = refl
    go false = refl

pub events_length : (es : List Event) → length (events_b es) ≡ event_size * length es
unfolding events_b
events_length [] = refl
events_length (e ∷ es) = length-append (event_b e) (events_b es) ∙ omega (arith, event_length e, events_length es)

events_append : (l r : List Event) → events_b (l ++ r) ≡ events_b l ++ events_b r
unfolding events_b
events_append [] r = refl
events_append (e ∷ l) r = ap (λ (b : List ℕ). event_b e ++ b) (events_append l r) ∙ sym (append_assoc (event_b e) (events_b l) (events_b r))

pub told_first : (es : List Event) (t : List ℕ) → told es t ≡ told_at 0 es t
unfolding told told_at splice
told_first es t = refl

pub told_none : (k : ℕ) (t : List ℕ) → told_at k [] t ≡ t
unfolding told_at splice events_b
told_none k t = take-append-drop (event_size * k) t

-- an event's bytes, as they are put
pub event_put : (d thunk place : ℕ) (p : List ℕ) → length p ≡ event_size → put16 (put16 (set p 0 d) 1 thunk) 3 place ≡ event_d d thunk place
unfolding put16 event_d
event_put d thunk place = by_tab event_size (λ p. put16 (put16 (set p 0 d) 1 thunk) 3 place ≡ event_d d thunk place) (λ f. refl)

-- one event
pub told_left : (k thunk place : ℕ) (t : List ℕ) → told_at k (record { entering = false; thunk = thunk; place = place } ∷ []) t ≡ splice t (event_size * k) event_size (event_d 0 thunk place)
unfolding told_at events_b event_b event_d
told_left k thunk place t = refl

pub told_entered : (k thunk place : ℕ) (t : List ℕ) → told_at k (record { entering = true; thunk = thunk; place = place } ∷ []) t ≡ splice t (event_size * k) event_size (event_d 1 thunk place)
unfolding told_at events_b event_b event_d
told_entered k thunk place t = refl

module _ (k : ℕ) (l r : List Event) (t : List ℕ) (fits : event_size * (k + length l) ≤ length t) where
  at_next : event_size * (k + length l) ≡ event_size * k + event_size * length l
  at_next = omega arith

  both : event_size * length (l ++ r) ≡ event_size * length l + event_size * length r
  both = omega (arith, length-append l r)

  pub told_length : length (told_at k l t) ≡ length t
  unfolding told_at
  told_length = splice_length t (events_b l) (event_size * k) (event_size * length l) (events_length l) (omega arith)

  -- first the events l, then r behind them
  pub told_next : told_at (k + length l) r (told_at k l t) ≡ told_at k (l ++ r) t
  unfolding told_at
  told_next =
      rw (at_next, both, events_append l r)
      (splice_next t (events_b l) (events_b r) (event_size * k) (event_size * length l) (event_size * length r) (events_length l) (omega arith))

  -- first the events r, then l before them
  pub told_prev : told_at k l (told_at (k + length l) r t) ≡ told_at k (l ++ r) t
  unfolding told_at
  told_prev =
      rw (at_next, both, events_append l r)
      (splice_prev t (events_b l) (events_b r) (event_size * k) (event_size * length l) (event_size * length r) (events_length l) (omega arith))
