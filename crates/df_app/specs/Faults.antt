-- The faults of a run: that of a document that does not open, and the cause of a load that is refused.
use Rattle.std.specs.Prelude.{ℕ, List, Option, Some, None, option_map, slice_get}
use Rattle.df_document.specs.declared.fault.DocumentFault.{DocumentFault}
use Rattle.df_document.specs.declared.fault.DocumentFault.TheVariants as document
use Rattle.df_store.specs.declared.fault.LoadCause.{LoadCause}
use Rattle.df_store.specs.declared.fault.LoadCause.TheVariants as load
use Rattle.df_text.specs.declared.document.FrameSpec.{FrameSpec}
use Rattle.df_app.specs.declared.fault.NamedLoadCause.{NamedLoadCause}
use Rattle.df_app.specs.declared.fault.NamedLoadCause.TheVariants as named
use Rattle.df_app.specs.declared.fault.RunFault.{RunFault}
use Rattle.df_app.specs.declared.fault.RunFault.TheVariants as fault

-- memory that was refused is one fault of a run, wherever it was
abbrev pub run_fault_of : DocumentFault → RunFault
run_fault_of document.Memory = fault.Memory
run_fault_of f = fault.Document f

-- the name of the frame with this index
abbrev pub name_of_frame : List FrameSpec → ℕ → Option (List ℕ)
name_of_frame frames at = option_map (λ f. f.name) (slice_get frames at)

-- a cause with the name of its frame in the place of the index; there is none for memory, nor for a frame that is not there
abbrev pub named_cause_of : List FrameSpec → LoadCause → Option NamedLoadCause
named_cause_of frames (load.Refused f) = Some (named.Refused f)
named_cause_of frames load.Memory = None
named_cause_of frames load.Spent = Some named.Spent
named_cause_of frames load.Ahead = Some named.Ahead
named_cause_of frames (load.MissingDesk at) = option_map named.MissingDesk (name_of_frame frames at)
named_cause_of frames (load.Lost job) = Some (named.Lost job)
named_cause_of frames (load.Unlike at) = option_map named.Unlike (name_of_frame frames at)
named_cause_of frames load.ViewsUnlike = Some named.ViewsUnlike
