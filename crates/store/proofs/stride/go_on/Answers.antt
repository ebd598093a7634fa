-- The two parts of a step are one leg of the walk (`go_on_done`); their moves add up.
use Rattle.std.proofs.Common.{◌≤◌, arith}
use Rattle.layout.specs.Records.{handed}
use Rattle.layout.specs.View.{or_none}
use Rattle.layout.proofs.StepLaws.{then_onward}
use Rattle.store.proofs.Strides.{one_entered, rest_few, go_on_done}
use Rattle.store.proofs.stride.go_on.Goals as goal

pub onward-rest-requires : goal.onward-rest-requires
onward-rest-requires c =
    let (ok, walking) = c.requires in
    then_onward _ ok walking c.enter_handed-before.ensures.moved

pub overflow_add-result : goal.overflow_add-result
overflow_add-result c =
    let few : c.enter_handed-before.result ≤ 1 = omega (arith, c.enter_handed-before.ensures.value, one_entered (or_none (handed c.args.s.now))) in
    let (ok, walking) = c.requires in
    omega (arith, few, rest_few _ ok walking _ c.enter_handed-before.ensures.moved _ _ (c.onward-rest.ensures.result_value, c.onward-rest.ensures.goes))

pub returns : goal.returns
returns c =
    let (ok, walking) = c.requires in
    go_on_done _ ok walking _ c.enter_handed-before.ensures.moved _ _ (c.onward-rest.ensures.result_value, c.onward-rest.ensures.goes) _ c.enter_handed-before.ensures.value
