-- What is proved of specs/Cases.antt, whose head says it in words. Assumes nothing.
use Rattle.std.specs.Prelude.{◌≡◌, refl, ℕ, zero, suc, ◌≤◌, ◌<◌, List, [], ◌∷◌, ◌++◌, length, take}
use Rattle.std.proofs.Common.{sym, ap, ◌∙◌, inl, inr, arith, length-take}
use Rattle.rules.specs.Basic.{upd}
use Rattle.rules.specs.Tree.{path}
use Rattle.rules.specs.Far.{far}
use Rattle.rules.specs.Moves.{route}
use Rattle.rules.specs.Calls.{open_deep, decider_at, decided_by, value_at}
use Rattle.rules.specs.Refusals.{first, full}
use Rattle.rules.specs.World.{alone}
use Rattle.rules.specs.Leg.{leg_to}
use Rattle.rules.specs.Act.{Call, is_made, next_number, is_full, shown, events_of, rows, answer_of, changed, walk_after, outcome, act, run}
use Rattle.layout.specs.Limits.{max_vars, max_nodes, size_of}
use Rattle.layout.specs.Bytes.{part, u16}
use Rattle.layout.specs.Records.{head_of, head_n, vars, room, made, blank_cell, ProperCell, bits_c, bare_c, top_c}
use Rattle.layout.specs.View.{as_cell}
use Rattle.layout.specs.Sound.{Sound}
use Rattle.layout.specs.Made.{IsFull}
use Rattle.layout.specs.Events.{event_d, event_b, events_b}
use Rattle.layout.proofs.Same.{part_take}
use Rattle.layout.specs.Opening.{top_cells}
use Rattle.promises.specs.Answers.{Numbers, refusal}
use Rattle.promises.specs.Tables.{First}
use Rattle.promises.specs.Promises.{damaged_row, walking_row, variable_row, full_row, Openable, Opened}
use Rattle.promises.proofs.Calls.{called, opens, opens_not}
use Rattle.demands.proofs.Tests.{no_walk_lem}
use Rattle.demands.proofs.NeverRead.{damaged_only, one_made}
use Rattle.demands.specs.Runs.{Said, said_of, said_by}
use Rattle.demands.proofs.Runs.{opened_session}
use Rattle.demands.specs.Cases.{All, Tops, Opens, FirstBindFull, LentShort, Gives, one, table, walk_table}

-- ---- opening
openable : {v k : ℕ} {tops s : List ℕ} → 1 ≤ v → v ≤ max_vars → 1 ≤ k → k ≤ max_nodes → Tops v tops → size_of v k ≤ length s → Openable v k tops s
openable a b c d tops e = record { fits = record { vars_low = a; vars_high = b; room_low = c; room_high = d; tops_long = tops.long }; proper = tops.proper; long = e }

opens_well : (v k : ℕ) → 1 ≤ v → v ≤ max_vars → 1 ≤ k → k ≤ max_nodes → Opens v k
opens_well v k a b c d tops s s' n t e p = let o : Opened v k tops s s' n = opens v k tops s s' n p (openable a b c d t e) in (o.answer, o.sound)

-- ---- (b): one environment is all the room
first_bind : FirstBindFull
unfolding IsFull
first_bind v tops s s' n o x w s'' m known p = go p.answers.first
  where
    is_full_lem : made s' ≡ room s'
    is_full_lem = one_made v 1 tops s s' n o ∙ sym o.nodes

    go : First (damaged_row s' ∷ walking_row s' ∷ variable_row s' x ∷ full_row s' ∷ []) m.code → (m ≡ refusal full) × (s'' ≡ s')
    go (inl (e, bad)) = absurd (bad o.sound)
    go (inr (a, inl (e, on))) = absurd (on (no_walk_lem s' o.walk))
    go (inr (a, inr (out, inl (e, beyond)))) = absurd (omega (arith, o.vars))
    go (inr (a, inr (out, inr (b, inl (e, f))))) = let (r, same) = p.answers.refused (omega arith) in (r ∙ ap refusal (sym e), same)
    go (inr (a, inr (out, inr (b, inr (never, e))))) = absurd (never is_full_lem)

-- ---- (d): a store of 73 bytes lent with 72
short : (tops s s' : List ℕ) (n : Numbers) → Opened 1 4 tops s s' n → Sound (take 72 s') → ⊥
unfolding head_n head_of
short tops s s' n o ok =
    let head = part_take s' 72 0 12 (omega arith) in
    let v : vars (take 72 s') ≡ 1 = ap (λ (h : List ℕ). u16 h 0) head ∙ o.vars in
    let r : room (take 72 s') ≡ 4 = ap (λ (h : List ℕ). u16 h 2) head ∙ o.nodes in
    omega (arith, ok.whole.long, length-take 72 s')

lent_short : LentShort 72
lent_short tops s s' n o c t s'' t'' m p =
    let q = called c (take 72 s') t s'' t'' m p in
    let e : m.code ≡ 2 = damaged_only c (take 72 s') t s'' t'' m (short tops s s' n o) q in
    let (a, (b, d)) = q.refused (omega arith) in
    (a ∙ ap refusal e, b, d)

-- ---- runs
gives : (v k events : ℕ) (tops : List ℕ) (cs : List Call) (said : List Said) → 1 ≤ v → v ≤ max_vars → 1 ≤ k → k ≤ max_nodes → Tops v tops
    → said_by cs (run (record { vars = v; nodes = k }) events cs (alone (open_deep (λ m. 0) (top_cells v tops)))) ≡ said → Gives v k events tops cs said
gives v k events tops cs said a b c d t e s s' n rs long p r =
    let o : Opened v k tops s s' n = opens v k tops s s' n p (openable a b c d t long) in
    (o.answer, opened_session v k events tops s s' n cs rs o r ∙ e)

tops_one : Tops 1 one
unfolding top_c bare_c part
tops_one = record { long = refl; proper = proper }
  where
    proper : (x : ℕ) → x < 1 → ProperCell (top_c one x)
    proper zero h = inr refl
    proper (suc x) h = absurd (omega arith)

tops_two : Tops 2 (one ++ one)
unfolding top_c bare_c part
tops_two = record { long = refl; proper = proper }
  where
    proper : (x : ℕ) → x < 2 → ProperCell (top_c (one ++ one) x)
    proper zero h = inr refl
    proper (suc zero) h = inr refl
    proper (suc (suc x)) h = absurd (omega arith)

tops_none : Tops 1 blank_cell
unfolding top_c bare_c part
tops_none = record { long = refl; proper = proper }
  where
    proper : (x : ℕ) → x < 1 → ProperCell (top_c blank_cell x)
    proper zero h = inl refl
    proper (suc x) h = absurd (omega arith)

-- V and N of the runs are in range
one_var : (events : ℕ) (tops : List ℕ) (cs : List Call) (said : List Said) → Tops 1 tops
    → said_by cs (run (record { vars = 1; nodes = 4 }) events cs (alone (open_deep (λ m. 0) (top_cells 1 tops)))) ≡ said → Gives 1 4 events tops cs said
one_var events tops cs said t e = gives 1 4 events tops cs said (omega arith) (omega arith) (omega arith) (omega arith) t e

two_vars : (cs : List Call) (said : List Said)
    → said_by cs (run (record { vars = 2; nodes = 4 }) 0 cs (alone (open_deep (λ m. 0) (top_cells 2 (one ++ one))))) ≡ said → Gives 2 4 0 (one ++ one) cs said
two_vars cs said e = gives 2 4 0 (one ++ one) cs said (omega arith) (omega arith) (omega arith) (omega arith) tops_two e

pub cases : All table
unfolding said_by said_of run act outcome rows answer_of events_of changed walk_after shown is_made next_number is_full first upd path route far value_at decider_at decided_by top_cells as_cell top_c bare_c bits_c part events_b event_b event_d
cases = (
  λ k a b. opens_well 256 k (omega arith) (omega arith) a b,
  (
    λ k tops s s' n p. opens_not 257 k tops s s' n p (λ o. omega (arith, o.fits.vars_high)),
    (
      λ v a b. opens_well v 1 a b (omega arith) (omega arith),
      (
        first_bind,
        (
          λ v a b. opens_well v 2048 a b (omega arith) (omega arith),
          (
            λ v tops s s' n p. opens_not v 2049 tops s s' n p (λ o. omega (arith, o.fits.room_high)),
            (
              λ tops s s' n t e. opens_well 1 4 (omega arith) (omega arith) (omega arith) (omega arith) tops s s' n t (omega arith),
              (
                λ tops s s' n e p. opens_not 1 4 tops s s' n p (λ o. omega (arith, o.long)),
                (
                  lent_short,
                  (
                    two_vars _ _ refl,
                    (
                      two_vars _ _ refl,
                      (
                        one_var 0 one _ _ tops_one refl,
                        (
                          one_var 2 one _ _ tops_one refl,
                          (
                            one_var 1 one _ _ tops_one refl,
                            (
                              one_var 0 one _ _ tops_one refl,
                              (
                                one_var 0 one _ _ tops_one refl,
                                (
                                  one_var 0 one _ _ tops_one refl,
                                  (
                                    one_var 2 one _ _ tops_one refl,
                                    (one_var 0 blank_cell _ _ tops_none refl, tt),
                                  ),
                                ),
                              ),
                            ),
                          ),
                        ),
                      ),
                    ),
                  ),
                ),
              ),
            ),
          ),
        ),
      ),
    ),
  ),
)

pub walk_cases : All walk_table
unfolding said_by said_of run act outcome rows answer_of events_of changed walk_after shown is_made next_number is_full first upd path route far value_at decider_at decided_by leg_to top_cells as_cell top_c bare_c bits_c part events_b event_b event_d
walk_cases = (one_var 1 one _ _ tops_one refl, (one_var 1 one _ _ tops_one refl, (one_var 1 one _ _ tops_one refl, tt)))
