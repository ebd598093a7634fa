-- What is proved of specs/Ending.antt, whose head says it in words. Assumes nothing.
use Rattle.std.specs.Prelude.{◌≡◌, ◌≢◌, ◌⊎◌, true, List, [], ◌∷◌, ◌++◌, ℕ, suc, ◌+◌}
use Rattle.std.proofs.Math.Path.{refl}
use Rattle.std.proofs.Common.{sym, ap, ◌∙◌, inl, inr, arith, length-append}
use Rattle.std.proofs.Math.Option.{Option, none, some}
use Rattle.std.proofs.Math.ListN.{length}
use Rattle.rules.proofs.Basic.{clash}
use Rattle.rules.specs.Store.{Deep, Sound, shallow, move_to}
use Rattle.rules.specs.World.{Walk, World}
use Rattle.rules.specs.Moves.{route, Event, trace}
use Rattle.rules.proofs.Route.{route_self}
use Rattle.rules.specs.Leg.{Leg, leg_to, stop_to, Walking}
use Rattle.rules.specs.Stops.{owed, Stepped}
use Rattle.rules.proofs.Stops.{stepped}
use Rattle.rules.specs.Refusals.{first}
use Rattle.rules.specs.Act.{Call, stride, begin, step, drop, Free, Barred, Needing, steps as needs_step, drops, Size, shown, is_walking, rows, events_of, changed, goes_on, walk_after, Outcome, outcome, act}
use Rattle.rules.specs.Agree.{Kept, held}
use Rattle.rules.proofs.Agree.{act_keeps}
use Rattle.rules.proofs.Grounds.{each_call}
use Rattle.rules.specs.Demands.{refusal_of}
use Rattle.rules.specs.Runs.{Asked}
use Rattle.rules.specs.Steps.{under_way, fresh}
use Rattle.rules.proofs.Steps.{begin_answered}
use Rattle.rules.specs.Thunks.{asked, Aside, Finishes, says_done, hands_over, meanwhile, is_step, steps}
use Rattle.rules.specs.Going.{target_of, handed_of, Quiet}
use Rattle.rules.proofs.Going.{aside_walk, no_step, quiet, held_sound, goes_on_lem}
use Rattle.rules.specs.Ending.{NoDrop, owed_in}

nil_append : (es fs : List Event) → length (es ++ fs) ≡ 0 → es ≡ []
nil_append [] fs h = refl
nil_append (e ∷ es) fs h = absurd (omega arith)

module _ (d : Deep) (k : Walk) (ok : Sound (shallow d)) (walks : Walking d.tree d.focus (some k)) (z : Size) (room : ℕ) where
  last_step : length (owed_in (under_way d k)) ≡ 0 → (act z room (stride step) (under_way d k)).events ≡ []
  unfolding act outcome first rows events_of shown shallow
  last_step h = nil_append _ _ (ap length (sym (stepped (shallow d) ok k.target k.handed walks.0 walks.1).owes) ∙ h)

  -- while events are owed, a step hands one over
  next_step : (m : ℕ) → length (owed_in (under_way d k)) ≡ suc m
      → (e : Event) × ((act z room (stride step) (under_way d k)).events ≡ e ∷ []) × (length (owed_in (act z room (stride step) (under_way d k)).after) ≡ m)
  unfolding act outcome first rows events_of changed walk_after shown shallow
  next_step m h = go leg.events refl
    where
      leg : Leg
      leg = leg_to d.tree d.focus k.target k.handed

      s : Stepped d.tree d.focus k.target k.handed leg (stop_to d.tree d.focus k.target k.handed)
      s = stepped (shallow d) ok k.target k.handed walks.0 walks.1

      owes : length (owed d.tree d.focus k.target k.handed)
          ≡ length leg.events + length (owed d.tree (stop_to d.tree d.focus k.target k.handed) k.target leg.handed)
      owes = ap length s.owes ∙ length-append leg.events _

      go : (es : List Event) → leg.events ≡ es
          → (e : Event) × (leg.events ≡ e ∷ []) × (length (owed_in (record { store = move_to (stop_to d.tree d.focus k.target k.handed) d; walk = goes_on leg.events (some k) leg.handed })) ≡ m)
      go [] q =
          let none_left : owed d.tree (stop_to d.tree d.focus k.target k.handed) k.target leg.handed ≡ [] =
          (λ i. owed d.tree ((s.arrives q).0 i) k.target ((s.arrives q).1 i)) ∙ ap (trace d.tree) (route_self d.tree ok.proper k.target) in
          absurd (omega (arith, owes, ap length q, ap length none_left))
      go (e ∷ []) q = (
        e,
        q,
        (λ i. length (owed d.tree (stop_to d.tree d.focus k.target k.handed) (target_of (goes_on (q i) (some k) leg.handed)) (handed_of (goes_on (q i) (some k) leg.handed))))
            ∙ omega (arith, owes, ap length q),
      )
      go (e ∷ f ∷ es) q = absurd (omega (arith, s.one, ap length q))

-- the same by the walk of any world
module _ (z : Size) (room : ℕ) (d : Deep) where
  last_at : (o : Option Walk) → is_walking o ≡ true → Kept z (held (record { store = d; walk = o })) → length (owed_in (record { store = d; walk = o })) ≡ 0
      → (act z room (stride step) (record { store = d; walk = o })).events ≡ []
  unfolding held shallow
  last_at none i kept h = clash i refl
  last_at (some k) i kept h = last_step d k kept.well.sound kept.walk z room h

  next_at : (o : Option Walk) → is_walking o ≡ true → Kept z (held (record { store = d; walk = o })) → (m : ℕ) → length (owed_in (record { store = d; walk = o })) ≡ suc m
      → (e : Event) × ((act z room (stride step) (record { store = d; walk = o })).events ≡ e ∷ []) × (length (owed_in (act z room (stride step) (record { store = d; walk = o })).after) ≡ m)
  unfolding held shallow
  next_at none i kept m h = clash i refl
  next_at (some k) i kept m h = next_step d k kept.well.sound kept.walk z room m h

same_owed : {c : Call} (w : World Deep) (r : Outcome (World Deep)) → Quiet c w r → r.after.walk ≡ w.walk → length (owed_in r.after) ≡ length (owed_in w)
same_owed w r q stays = λ i. length (owed (q.tree i) (q.focus i) (target_of (stays i)) (handed_of (stays i)))

-- as many steps as events are owed, with no drop, and one step more
pub finishes_from : (z : Size) (room : ℕ) (qs : List Asked) (w : World Deep) → is_walking w.walk ≡ true → Kept z (held w) → NoDrop qs
    → steps qs ≡ length (owed_in w) → Finishes z (qs ++ asked (stride step) room ∷ []) w
finishes_from z room [] w i kept of e = says_done (last_at z room w.store w.walk i kept (sym e))
finishes_from z room (q ∷ qs) w i kept (h, hs) e = go q.call (each_call q.call) h e (λ u on k. finishes_from z room qs u on k hs)
  where
    Goes : World Deep → Type 0
    Goes u = is_walking u.walk ≡ true → Kept z (held u) → steps qs ≡ length (owed_in u) → Finishes z (qs ++ asked (stride step) room ∷ []) u

    aside : (c : Call) → Aside c → is_step c + steps qs ≡ length (owed_in w) → Goes (act z q.room c w).after → Finishes z (asked c q.room ∷ (qs ++ asked (stride step) room ∷ [])) w
    aside c h e ih =
        let stays : (act z q.room c w).after.walk ≡ w.walk = aside_walk z q.room c w h i in
        meanwhile h (ih (ap is_walking stays ∙ i) (act_keeps z q.room c w kept)
        (omega (arith, e, no_step h, same_owed w _ (quiet z q.room w (held_sound z w kept) c h i) stays)))

    go : (c : Call) → Free c ⊎ (Barred c ⊎ Needing c) → c ≢ stride drop → is_step c + steps qs ≡ length (owed_in w) → ((u : World Deep) → Goes u)
        → Finishes z (asked c q.room ∷ (qs ++ asked (stride step) room ∷ [])) w
    go c (inl f) h e ih = aside c (inl f) e (ih (act z q.room c w).after)
    go c (inr (inl b)) h e ih = aside c (inr b) e (ih (act z q.room c w).after)
    go (stride step) (inr (inr needs_step)) h e ih =
        let (x, hands, left) = next_at z q.room w.store w.walk i kept (steps qs) (omega (arith, e)) in
        hands_over hands (ih (act z q.room (stride step) w).after (goes_on_lem z q.room w.store w.walk i x [] hands) (act_keeps z q.room (stride step) w kept) (sym left))
    go (stride drop) (inr (inr drops)) h e ih = absurd (h refl)
    go (Call.ask _) (inr (inr x11)) h e ih = elim x11 [ ]
    go (Call.make _) (inr (inr x12)) h e ih = elim x12 [ ]
    go (Call.set _ _) (inr (inr x14)) h e ih = elim x14 [ ]
    go (Call.switch _) (inr (inr x14)) h e ih = elim x14 [ ]
    go (stride (begin _)) (inr (inr x17)) h e ih = elim x17 [ ]

pub walk_finishes : (z : Size) (room a : ℕ) (w : World Deep) (qs : List Asked) (room' : ℕ) → Kept z (held w) → refusal_of (act z room (stride (begin a)) w).answer ≡ none → NoDrop qs
    → steps qs ≡ length (trace w.store.tree (route w.store.tree w.store.focus a)) → Finishes z (qs ++ asked (stride step) room' ∷ []) (act z room (stride (begin a)) w).after
walk_finishes z room a w qs room' kept yes_begun of e =
    let is : (act z room (stride (begin a)) w).after ≡ under_way w.store (fresh a) = (begin_answered z room a w yes_begun).2 in
    finishes_from z room' qs (act z room (stride (begin a)) w).after (ap (λ (u : World Deep). is_walking u.walk) is) (act_keeps z room (stride (begin a)) w kept) of
    (e ∙ sym (ap (λ (u : World Deep). length (owed_in u)) is))
