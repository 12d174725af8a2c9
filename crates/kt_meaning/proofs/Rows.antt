-- The worked programs run as they were counted.
use Rattle.std.proofs.Common.{◌≡◌, refl}
use Rattle.std.specs.Fmt.{digits}
use Rattle.kt_types.specs.Layout.{layout, place_cells, struct_cells}
use Rattle.kt_mem.specs.Memory.{put}
use Rattle.kt_meaning.specs.Weights.{settle}
use Rattle.kt_meaning.specs.Rows.{division_run, division_row, counting_run, counting_row, ring_run, ring_row, clients_run, clients_row, restarted_run, restarted_row, left_run, left_row, compound_run, compound_row, null_run, null_row, char_run, char_row, late_run, late_row, deep_run, deep_row, fall_run, fall_row, control_run, control_row, same_point_run, same_point_row, other_point_run, other_point_row}

pub division : division_run ≡ division_row
unfolding settle digits
division = refl

pub counting : counting_run ≡ counting_row
unfolding settle digits put
counting = refl

pub ring : ring_run ≡ ring_row
unfolding settle digits put layout place_cells struct_cells
ring = refl

pub clients : clients_run ≡ clients_row
unfolding settle digits put
clients = refl

pub restarted : restarted_run ≡ restarted_row
unfolding settle digits put
restarted = refl

pub left : left_run ≡ left_row
unfolding settle digits
left = refl

pub compound : compound_run ≡ compound_row
unfolding settle put
compound = refl

pub null : null_run ≡ null_row
unfolding settle
null = refl

pub char : char_run ≡ char_row
unfolding settle
char = refl

pub late : late_run ≡ late_row
unfolding settle put
late = refl

pub deep : deep_run ≡ deep_row
unfolding settle
deep = refl

pub fall : fall_run ≡ fall_row
unfolding settle
fall = refl

pub control : control_run ≡ control_row
unfolding settle
control = refl

pub same_point : same_point_run ≡ same_point_row
unfolding settle
same_point = refl

pub other_point : other_point_run ≡ other_point_row
unfolding settle
other_point = refl
