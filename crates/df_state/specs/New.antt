-- Why a catalogue is not made of these schemas: the first reason that fits.
use Rattle.std.specs.Prelude.{ℕ, not, List, length, nat_lt, Option, Some, option_map, position, if◌then◌else◌}
use Rattle.df_value.specs.declared.cell.CellType.{CellType}
use Rattle.df_value.specs.Schemas.{is_base}
use Rattle.df_state.specs.declared.fault.NewFault.{NewFault}
use Rattle.df_state.specs.declared.fault.NewFault.TheVariants as fault
use Rattle.df_value.specs.Limits as limits

abbrev pub new_fault : List (List (List ℕ × CellType)) → Option NewFault
new_fault schemas =
    if nat_lt limits.most_frames (length schemas) then Some fault.TooManyFrames
    else option_map fault.DerivedType (position (λ s. not (is_base s)) schemas)
