-- Outside a walk no wind may stand there; during one the target is made, and the wind decides, where there is one.
use Rattle.std.proofs.Common.{◌≡◌, sym, rules}
use Rattle.layout.specs.Limits.{none_n}
use Rattle.layout.specs.Records.{handed}
use Rattle.layout.specs.Sound.{Says}
use Rattle.layout.proofs.CheckLaws.{says_map}
use Rattle.layout.proofs.StrideLaws.{is_none, is_some}
use Rattle.layout.proofs.HandedLaws.{rest_says, target_made, walk_says}
use Rattle.store.proofs.check.walk_ok.Goals as goal

pub returns-in_default : goal.returns-in_default
returns-in_default c =
    let (to, from) = rest_says _ c.requires (is_none _ c.in_default.ensures) in
    let told : Says c.is_none.result (handed c.args.s.now ≡ none_n) = search rules in
    says_map c.is_none.result to from told

pub returns-then-not-is_made : goal.returns-then-not-is_made
returns-then-not-is_made c =
    let (is, there) = is_some _ c.in-Some.ensures in
    λ w. c.if-not-is_made.ensures (rw (← is) at (target_made _ c.requires there w))

pub returns-in-Some-handed : goal.returns-in-Some-handed
returns-in-Some-handed c =
    let (is, there) = is_some _ c.in-Some.ensures in
    let made = rw is at c.if-not-is_made.ensures in
    let (to, from) = walk_says _ c.requires there made _ (sym c.in-Some-handed.ensures) in
    says_map c.handed_ok.result to from (rw is at c.handed_ok.ensures)

pub returns-in-None : goal.returns-in-None
returns-in-None c =
    let (is, there) = is_some _ c.in-Some.ensures in
    let made = rw is at c.if-not-is_made.ensures in
    (walk_says _ c.requires there made _ (sym c.in-None.ensures)).0 tt
