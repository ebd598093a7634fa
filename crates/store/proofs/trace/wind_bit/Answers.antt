-- `wind_bit` meets its contract: a wind has one event, any other node none.
use Rattle.std.proofs.Common.{◌≡◌, ℕ, Bool, true, false, List, ◌≤◌, arith}
use mir.Val.{bool_byte}
use Rattle.rules.specs.Moves.{is_wind}
use Rattle.layout.specs.Records.{kind_n}
use Rattle.layout.specs.Kinds.{IsWind}
use Rattle.layout.specs.View.{what_n}
use Rattle.layout.specs.Sound.{Says}
use Rattle.layout.proofs.SoundLaws.{what_wind}
use Rattle.layout.proofs.RouteLaws.{plain}
use Rattle.store.proofs.trace.wind_bit.Goals as goal

counts : (b : Bool) (p : List ℕ) (r : ℕ) → r ≡ bool_byte b → Says b (IsWind (kind_n p)) → (r ≡ is_wind (what_n p)) × (r ≤ 1)
counts true p r e is = (rw (what_wind p is) e, omega (arith, e))
counts false p r e other = (rw (plain p other) e, omega (arith, e))

pub returns : goal.returns
returns c = counts c.is_wind.result _ _ c.from.ensures (rw c.kind_of.ensures at c.is_wind.ensures)
