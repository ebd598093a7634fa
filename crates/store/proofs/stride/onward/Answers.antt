-- By what the climbs found: a wind to be left, else one to be entered, else the target itself.
use Rattle.layout.proofs.RouteLaws.{meeting_on_way}
use Rattle.store.proofs.Strides.{left_made, entered_made, onward_left, onward_entered, onward_there}
use Rattle.store.proofs.stride.onward.Goals as goal

pub rise_to_meet-rise-requires : goal.rise_to_meet-rise-requires
rise_to_meet-rise-requires c =
    let (ok, (made, rest)) = c.requires in
    rw c.target_of-a.ensures (ok, made)

pub first_left-requires : goal.first_left-requires
first_left-requires c =
    let (ok, (made, rest)) = c.requires in
    rw (c.rise_to_meet-rise.ensures.1, c.target_of-a.ensures) (ok, meeting_on_way _ ok _ made)

pub hand_left-requires : goal.hand_left-requires
hand_left-requires c =
    let (ok, (made, rest)) = c.requires in
    (ok, (left_made _ ok made _ _ c.target_of-a.ensures c.rise_to_meet-rise.ensures.0 _ c.in-Some.ensures.first_wind, c.in-Some.ensures.stops))

pub returns-in-Some : goal.returns-in-Some
returns-in-Some c =
    let (ok, (made, rest)) = c.requires in
    let done = onward_left _ ok made _ _ c.target_of-a.ensures _ _ c.rise_to_meet-rise.ensures.0 _ c.in-Some.ensures.first_wind rest c.hand_left.ensures.value c.hand_left.ensures.moved in
    record { result_value = done.0; goes = done.1 }

pub hand_entered-requires : goal.hand_entered-requires
hand_entered-requires c =
    let (climbed, met) = rw c.in-Some-wind.is at c.rise_to_meet-rise.ensures in (c.requires.0, (entered_made _ c.requires.0 c.requires.1.0 _ _ c.target_of-a.ensures c.in_default.ensures.first_wind _ climbed, rw met climbed.stop))

pub returns-in-Some-wind : goal.returns-in-Some-wind
returns-in-Some-wind c =
    let (ok, (made, rest)) = c.requires in
    let (climbed, met) = rw c.in-Some-wind.is at c.rise_to_meet-rise.ensures in
    let done = onward_entered _ ok made _ _ c.target_of-a.ensures _ _ c.in_default.ensures.first_wind _ climbed c.hand_entered.ensures.value c.hand_entered.ensures.moved in
    record { result_value = done.0; goes = done.1 }

pub returns-in_default-wind : goal.returns-in_default-wind
returns-in_default-wind c =
    let (ok, (made, rest)) = c.requires in
    let (climbed, met) = rw c.in_default-wind.is at c.rise_to_meet-rise.ensures in
    let done = onward_there _ ok made _ _ c.target_of-a.ensures _ _ c.in_default.ensures.first_wind climbed c.arrive.ensures.value c.arrive.ensures.moved in
    record { result_value = done.0; goes = done.1 }
