-- From a card that was found good to the beginning of its run: the headings, the top values, the store as open leaves it. Assumes nothing.
use Rattle.std.specs.Prelude.{Option, Some, ℤ}
use mathlib.Core.Path.{◌≡◌, refl, sym, ap, subst, ◌∙◌}
use mathlib.Core.List.{List, [], ◌∷◌, ◌++◌, map}
use Prim.Native.Nat.{ℕ, ◌+◌, ◌*◌, ◌≤◌, ◌<◌}
use native.Mathlib.Omega.{arith}
use lib.ListN.{length, take}
use lib.Seq.{take_at}
use Rattle.layout.specs.Limits.{max_vars, max_nodes, bare_size, event_size, size_of}
use Rattle.promises.specs.Answers.{Numbers}
use Rattle.promises.specs.Promises.{OpenPromise}
use Rattle.text.specs.declared.line.Line.{Line}
use Rattle.text.specs.declared.line.Line.TheVariants.{Vars, Nodes, Room, Top, Do}
use Rattle.text.specs.Every.{All}
use Rattle.text.specs.Lines.{InRange}
use Rattle.card.specs.Cards.{Whole, Passes, text}
use Rattle.play.specs.declared.reading.Heads.{Heads}
use Rattle.play.specs.declared.progress.Progress.{Progress}
use Rattle.play.specs.Output.{tops_b, Runs, stay, Begins}
use Rattle.play.specs.Steps.{Ahead, Reads, SoFar, Ready, Begun}
use Rattle.play.proofs.Running.{events_none}

-- the numbers of a whole card's headings are in range
module _ {ls : List Line} (w : Whole ls) where
  ranges : All InRange (Vars w.vars ∷ Nodes w.nodes ∷ Room w.room ∷ (map Top w.tops ++ map Do w.ops))
  ranges = subst (All InRange) w.order w.range

  pub few_vars : w.vars ≤ max_vars
  few_vars = ranges.0.1

  pub few_nodes : w.nodes ≤ max_nodes
  few_nodes = ranges.1.0.1

  pub few_events : w.room < max_nodes
  few_events = ranges.1.1.0

-- the headings of a good card, read
pub heads_begun : {card : List ℕ} (g : Passes card) (h : Heads)
    → ((v n m : ℕ) (ls : List Line) → Ahead card 0 (Vars v ∷ Nodes n ∷ Room m ∷ ls) → Reads card v n m ls (Some h))
    → (tops store trace : ℕ) → bare_size * max_vars ≤ tops → size_of max_vars max_nodes ≤ store → event_size * max_nodes ≤ trace + event_size
    → Begun card h tops store trace
heads_begun {card} g h f tops store trace a b c =
    record { good = g; vars = q.0; nodes = q.1; room = q.2; ahead = q.3; tops_long = a; store_long = b; trace_long = c }
  where
    w : Whole g.1.lines
    w = g.1.whole

    rest : List Line
    rest = map Top w.tops ++ map Do w.ops

    ahead : Ahead card 0 (Vars w.vars ∷ Nodes w.nodes ∷ Room w.room ∷ rest)
    ahead = record { inside = omega arith; bytes = g.1.bytes ∙ ap text w.order; range = ranges w }

    q : Reads card w.vars w.nodes w.room rest (Some h)
    q = f w.vars w.nodes w.room rest ahead

module _ {card : List ℕ} {h : Heads} {tl sl rl : ℕ} (b : Begun card h tl sl rl) where
  pub vars_few : h.vars ≤ max_vars
  vars_few = omega (arith, b.vars, few_vars b.good.1.whole)

  pub room_few : h.room < max_nodes
  room_few = omega (arith, b.room, few_events b.good.1.whole)

  pub at_inside : h.at ≤ length card
  at_inside = b.ahead.inside

  -- the run begins
  module _ (part tops past store store' t : List ℕ) (at : ℕ) {n : Numbers}
      (read : (cs : List (Option ℤ)) (ls : List Line) → bare_size * length cs ≡ length part → Ahead card h.at (map Top cs ++ ls) → (tops ≡ tops_b cs) × Ahead card at ls)
      (cells : length part ≡ bare_size * h.vars) (same : length tops ≡ length part)
      (opened : OpenPromise h.vars h.nodes (take (bare_size * h.vars) (tops ++ past)) store store' n) (long : sl ≡ length store)
      (room : length t ≡ event_size * h.room) where
    abbrev w : Whole b.good.1.lines
    w = b.good.1.whole

    read_all : (tops ≡ tops_b w.tops) × Ahead card at (map Do w.ops)
    read_all = read w.tops (map Do w.ops) (ap (λ (k : ℕ). bare_size * k) (w.count ∙ sym b.vars) ∙ sym cells) b.ahead

    begins : Begins card w.ops store' t
    begins =
        record {
          good = b.good;
          operations = refl;
          buffer = store;
          long = omega (arith, few_vars w, few_nodes w, b.store_long, long);
          answer = n;
          opened = subst (λ (k : ℕ). OpenPromise k w.nodes (tops_b w.tops) store store' n) b.vars
              (subst (λ (k : ℕ). OpenPromise h.vars k (tops_b w.tops) store store' n) b.nodes
              (subst (λ (x : List ℕ). OpenPromise h.vars h.nodes x store store' n) (take_at tops past (bare_size * h.vars) (same ∙ cells) ∙ read_all.0) opened));
          room = room ∙ ap (λ (k : ℕ). event_size * k) b.room;
        }

    abbrev start : Progress
    start = record { at = at; number = 0; told = 0; left = 0; used = 0 }

    pub started : Ready card t start × SoFar card [] start store' t
    started = (
      record { short = b.good.0; few = omega (arith, room, room_few); inside = read_all.1.inside; counted = omega arith; events = omega arith },
      record {
        ops = w.ops;
        store = store';
        trace = t;
        begins = begins;
        rest = w.ops;
        ahead = read_all.1;
        runs = subst (λ (x : List ℕ). Runs 0 w.ops store' t x 0 w.ops store' t) (sym (events_none t 0 0 refl)) stay;
      },
    )
