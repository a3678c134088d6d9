-- The texts of faults, as the program prints them behind its name.
use Rattle.std.specs.Prelude.{ℕ, List, ◌++◌, codes, decimal}
use Rattle.df_document.specs.Texts as document
use Rattle.df_app.specs.declared.fault.NamedLoadCause.{NamedLoadCause}
use Rattle.df_app.specs.declared.fault.NamedLoadCause.TheVariants as load
use Rattle.df_app.specs.declared.fault.RunFault.{RunFault}
use Rattle.df_app.specs.declared.fault.RunFault.TheVariants as fault

abbrev pub load_text : NamedLoadCause → List ℕ
load_text (load.Refused f) = codes "L7"
load_text load.Spent = codes "L6"
load_text load.Ahead = codes "L8"
load_text (load.MissingDesk frame) = document.code_with_name (codes "L5") frame
load_text (load.Lost job) = codes "L2 " ++ decimal job
load_text (load.Unlike frame) = document.code_with_name (codes "L3") frame
load_text load.ViewsUnlike = codes "L4"

-- the text of a fault
abbrev pub fault_text_of : RunFault → List ℕ
fault_text_of (fault.Document f) = document.fault_text_of f
fault_text_of (fault.Load cause) = load_text cause
fault_text_of fault.Write = codes "write"
fault_text_of fault.Memory = codes "memory"
