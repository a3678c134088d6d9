-- Why a catalogue that publishes its versions is not opened: the first reason that fits.
use Rattle.std.specs.Prelude.{ℕ, List, nat_lt, Option, Some, None, if◌then◌else◌}
use Rattle.df_value.specs.declared.cell.CellType.{CellType}
use Rattle.df_state.specs.New.{new_fault}
use Rattle.df_state.specs.declared.fault.NewFault.{NewFault}
use Rattle.df_state.specs.declared.fault.NewFault.TheVariants as catalogue
use Rattle.df_versions.specs.declared.fault.OpenFault.{OpenFault}
use Rattle.df_versions.specs.declared.fault.OpenFault.TheVariants as fault

-- the most readers of a catalogue
abbrev pub most_readers : ℕ
most_readers = 16

-- what is answered where the catalogue is refused so: a refusal of memory comes after that of the number of readers
abbrev pub opening_refused : NewFault → ℕ → OpenFault
opening_refused catalogue.TooManyFrames readers = fault.TooManyFrames
opening_refused (catalogue.DerivedType f) readers = fault.DerivedType f
opening_refused catalogue.Memory readers = if nat_lt most_readers readers then fault.TooManyReaders else fault.Memory

abbrev pub fault_after : Option NewFault → ℕ → Option OpenFault
fault_after (Some f) readers = Some (opening_refused f readers)
fault_after None readers = if nat_lt most_readers readers then Some fault.TooManyReaders else None

-- what is refused of the schemas, and then of the number of readers
abbrev pub open_fault : List (List (List ℕ × CellType)) → ℕ → Option OpenFault
open_fault schemas readers = fault_after (new_fault schemas) readers
