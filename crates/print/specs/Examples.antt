-- Lines of document 01's example, computed from the definitions. Assumes nothing.
use Rattle.std.specs.Prelude.{◌≡◌, refl, true, false, pos, negsuc, Some, None}
use Rattle.text.specs.Words.{bytes}
use Rattle.text.specs.Decimal.{tens, decimal, whole}
use Rattle.print.specs.declared.Out.TheVariants.{Number, Value}
use Rattle.print.specs.Printed.{op_line, event_line, bad_line}
use Rattle.print.specs.Explaining.{bind_line, wind_line, shadowed_line, top_value_line}

pub op_4 : op_line (record { op = 4; code = 0; out = Some (Number (pos 0)); moves = 3; events = 1 }) ≡ bytes "op=4 code=0 out=0 moves=3 events=1 by=none\n"
unfolding op_line decimal whole tens
op_4 = refl

pub op_7 : op_line (record { op = 7; code = 0; out = Some (Value (negsuc 0) 1); moves = 0; events = 0 }) ≡ bytes "op=7 code=0 out=-1 moves=0 events=0 by=1\n"
unfolding op_line decimal whole tens
op_7 = refl

pub op_8 : op_line (record { op = 8; code = 6; out = None; moves = 0; events = 0 }) ≡ bytes "op=8 code=6 out=none moves=0 events=0 by=none\n"
unfolding op_line decimal tens
op_8 = refl

pub entered : event_line true 10 1 ≡ bytes "enter=10@1\n"
unfolding event_line decimal tens
entered = refl

pub left : event_line false 11 1 ≡ bytes "leave=11@1\n"
unfolding event_line decimal tens
left = refl

pub too_long : bad_line 0 ≡ bytes "line=0 code=9\n"
unfolding bad_line decimal tens
too_long = refl

-- the lines of an explanation (document 02, W7)
pub bound : bind_line 3 0 (Some (Number (negsuc 0))) ≡ bytes "env=3 bind=0,-1\n"
unfolding bind_line decimal whole tens
bound = refl

pub wound : wind_line 2 10 11 ≡ bytes "env=2 wind=10,11\n"
unfolding wind_line decimal tens
wound = refl

pub behind : shadowed_line 1 None ≡ bytes "shadowed=1 value=none\n"
unfolding shadowed_line decimal tens
behind = refl

pub top_value : top_value_line (Some (Number (pos 1))) ≡ bytes "top=1\n"
unfolding top_value_line decimal whole tens
top_value = refl
