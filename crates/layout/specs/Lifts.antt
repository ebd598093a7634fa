-- How far two environments of a sound store are apart, as the code finds it: the deeper one is lifted until both are equally deep.
-- Assumes nothing: these are definitions.
use Rattle.std.specs.Prelude.{◌≡◌, ℕ, ◌+◌, ◌≤◌, List}
use Rattle.rules.specs.Basic.{on}
use Rattle.rules.specs.Tree.{path}
use Rattle.layout.specs.View.{view}
use Rattle.layout.specs.Made.{IsMade}
use Rattle.layout.specs.Routes.{moves_from}

abbrev pub depth_at : List ℕ → ℕ → ℕ
depth_at s a = (view s).tree.rank a

-- a was lifted to c, which is d deep: to any environment no deeper than that, it is so much nearer, and the same of these are on its
-- way to the top
pub record Lifted (s : List ℕ) (a d c : ℕ) : Type 0 where
  pub made : IsMade s c
  pub deep : depth_at s c ≡ d
  pub nearer : (b : ℕ) → depth_at s b ≤ d → moves_from s a b + d ≡ depth_at s a + moves_from s c b
  pub on_way : (b : ℕ) → depth_at s b ≤ d → on b (path (view s).tree a) ≡ on b (path (view s).tree c)
