-- What code that writes leaves: a store of the same size that is seen as w, no byte past the size changed, and the walk as it was.
-- Assumes nothing: these are definitions.
use Rattle.std.specs.Prelude.{◌≡◌, ℕ, List, length}
use Rattle.rules.specs.Store.{Store}
use Rattle.layout.specs.Records.{vars, room, target, handed}
use Rattle.layout.specs.Fields.{past}
use Rattle.layout.specs.View.{view}
use Rattle.layout.specs.Sound.{Whole}

-- t is a buffer of s's size and length, with the same bytes past the size
pub record Sized (s t : List ℕ) : Type 0 where
  pub vars : vars t ≡ vars s
  pub room : room t ≡ room s
  pub long : length t ≡ length s
  pub past : past t ≡ past s

-- .. and with the same walk under way, or none
pub record Kept (s t : List ℕ) : Type 0 where
  pub size : Sized s t
  pub target : target t ≡ target s
  pub handed : handed t ≡ handed s

pub record Becomes (s t : List ℕ) (w : Store) : Type 0 where
  pub sound : Whole t
  pub seen : view t ≡ w
  pub kept : Kept s t
