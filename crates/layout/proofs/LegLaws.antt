-- Parts of a step one after the other (document 02, W5): the moves that were made, and the walk's two numbers as they stand then.
-- Assumes nothing.
use Rattle.std.specs.Prelude.{◌≡◌, refl, ◌≢◌, ℕ}
use Rattle.std.proofs.Common.{sym, ◌∙◌}
use Rattle.std.proofs.Math.Path.{ap}
use Rattle.std.proofs.Math.Option.{some}
use mathlib.Core.List.{List, [], ◌∷◌, ◌++◌}
use Rattle.rules.proofs.Basic.{on_head}
use Rattle.rules.specs.Tree.{Tree, path}
use Rattle.rules.proofs.Tree.{path_up}
use Rattle.rules.specs.Store as store
use Rattle.rules.specs.Far.{far}
use Rattle.rules.specs.Moves.{Move, entered, Moves, done, move, route}
use Rattle.rules.proofs.Moves.{moves_tree}
use Rattle.rules.proofs.Walk.{goto_moves}
use Rattle.rules.proofs.Route.{enter_first, route_self}
use Rattle.rules.specs.Leg.{Handed}
use Rattle.layout.specs.Limits.{none_n}
use Rattle.layout.specs.Records.{focus, target, handed, with_target, with_handed}
use Rattle.layout.specs.Fields.{fields_of}
use Rattle.layout.specs.View.{view_f, view, or_none}
use Rattle.layout.specs.Sound.{Whole, Sound}
use Rattle.layout.specs.Made.{IsMade}
use Rattle.layout.specs.Becomes.{Becomes}
use Rattle.layout.proofs.SoundLaws.{sound_view}
use Rattle.layout.proofs.WalkLaws.{sized_self, sized_then, made_seen, seen_made}
use Rattle.layout.proofs.StrideLaws.{none_is, some_is, Rewalked, target_written, handed_written}
use Rattle.layout.proofs.HandedLaws.{walking_at, handed_made, still_made}
use Rattle.layout.specs.Legs.{Moved, enters_first}

-- the walk's numbers are written
pub moved_rewalked : {s t : List ℕ} {a c : ℕ} → Rewalked s t a c → Moved s t [] a c
moved_rewalked r = record { whole = r.whole; size = r.size; moves = rw r.seen done; target = r.target; handed = r.handed }

-- document 01's walk to g
pub moved_walk : {s t : List ℕ} (g : ℕ) → Whole s → IsMade s g → Becomes s t (store.goto g (view s)) → Moved s t (route (view s).tree (focus s) g) (target s) (handed s)
unfolding view view_f fields_of
moved_walk {s} {t} g ok made b = record {
  whole = b.sound;
  size = b.kept.size;
  moves = rw b.seen (goto_moves (far (view s).tree (focus s) g) g (view s) (sound_view s ok) (made_seen s ok g made) refl);
  target = b.kept.target;
  handed = b.kept.handed;
}

-- one after the other
moves_then : {s s' s'' : store.Store} {ms ns : List Move} → Moves s ms s' → Moves s' ns s'' → Moves s (ms ++ ns) s''
moves_then done r = r
moves_then (move h q) r = move h (moves_then q r)

pub moved_then : {s t u : List ℕ} {ms ns : List Move} {a b c d : ℕ} → Moved s t ms a c → Moved t u ns b d → Moved s u (ms ++ ns) b d
moved_then x y = record { whole = y.whole; size = sized_then x.size y.size; moves = moves_then x.moves y.moves; target = y.target; handed = y.handed }

-- what was made is made still
pub moved_made : {s t : List ℕ} {ms : List Move} {a c : ℕ} → Whole s → Moved s t ms a c → (n : ℕ) → IsMade s n → IsMade t n
moved_made {s} {t} ok m n made = seen_made t m.whole n (λ e. made_seen s ok n made (sym (ap (λ (u : Tree). u.what n) (moves_tree m.moves)) ∙ e))

-- the walk's numbers are written behind the moves
moved_rewritten : {s t u : List ℕ} {ms : List Move} {a b c d : ℕ} → Moved s t ms a c → Rewalked t u b d → Moved s u ms b d
moved_rewritten m r = record { whole = r.whole; size = sized_then m.size r.size; moves = rw r.seen m.moves; target = r.target; handed = r.handed }

-- .. the wind's that waits, or both as none
module _ (s t : List ℕ) (ms : List Move) {a c : ℕ} (m : Moved s t ms a c) where
  pub moved_handed : (w : ℕ) → Moved s (with_handed t w) ms a w
  moved_handed w = let n = moved_rewritten m (handed_written t m.whole w) in record { whole = n.whole; size = n.size; moves = n.moves; target = n.target ∙ m.target; handed = n.handed }

  pub moved_over : Moved s (with_handed (with_target t none_n) none_n) ms none_n none_n
  moved_over =
      let r = target_written t m.whole none_n in
      let n = moved_rewritten (moved_rewritten m r) (handed_written (with_target t none_n) r.whole none_n) in
      record { whole = n.whole; size = n.size; moves = n.moves; target = n.target ∙ r.target; handed = n.handed }

pub none_entered : (s : List ℕ) → Whole s → handed s ≡ none_n → Moved s s (enters_first (or_none (handed s))) (target s) none_n
none_entered s ok e = rw (none_is (handed s) e) record { whole = ok; size = sized_self s; moves = done; target = refl; handed = e }

module _ (s : List ℕ) (ok : Sound s) (walking : target s ≢ none_n) (there : handed s ≢ none_n) where
  abbrev t : Tree
  t = (view s).tree

  is : Handed t (focus s) (target s) (some (handed s))
  is = rw (some_is (handed s) there) at (walking_at s ok.whole walking ok.walk).1

  one_move : route t (focus s) (handed s) ≡ entered (handed s) ∷ []
  one_move =
      let proper = (sound_view s ok.whole).proper in
      enter_first t proper (handed s) (focus s) (handed s) is.0 (rw (path_up t proper (handed s) (focus s) is.0) (on_head (handed s) (path t (focus s))))
      ∙ ap (λ (ms : List Move). entered (handed s) ∷ ms) (route_self t proper (handed s))

  pub handed_is_made : IsMade (with_handed s none_n) (handed s)
  handed_is_made = still_made ok.whole (handed_written s ok.whole none_n) (handed s) (handed_made s ok.whole (target s) (handed s) is)

  pub handed_entered : (u : List ℕ) → Becomes (with_handed s none_n) u (store.goto (handed s) (view (with_handed s none_n))) → Moved s u (enters_first (or_none (handed s))) (target s) none_n
  unfolding view view_f fields_of
  handed_entered u b =
      let r = handed_written s ok.whole none_n in
      let w = moved_walk (handed s) r.whole handed_is_made b in
      let same : route (view (with_handed s none_n)).tree (focus (with_handed s none_n)) (handed s) ≡ entered (handed s) ∷ [] = ap (λ (v : store.Store). route v.tree v.focus (handed s)) r.seen ∙ one_move in
      let all = moved_then (moved_rewalked r) w in
      rw (some_is (handed s) there) record { whole = all.whole; size = all.size; moves = rw same at all.moves; target = all.target ∙ r.target; handed = all.handed ∙ r.handed }
