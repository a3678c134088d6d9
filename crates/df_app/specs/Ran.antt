-- What a run did, of a document and of files that are known, to a writer.
use Rattle.std.specs.Prelude.{◌≡◌, ◌≢◌, ◌<◌, ℕ, List, ⊤, length, take, Option, Result, Ok, Err}
use Rattle.std.specs.Io.KnownBytes.{Appends, Keeps}
use Rattle.df_document.specs.Answers as opening
use Rattle.df_document.specs.Answers.{IsFaultOfOpening}
use Rattle.df_document.specs.Files.{Contents}
use Rattle.df_document.specs.Opening.{opened_of}
use Rattle.df_document.specs.Sources.{opened_with}
use Rattle.df_document.specs.declared.fault.DocumentFault.TheVariants as document_fault
use Rattle.df_document.specs.declared.opening.SourcedDocument.{SourcedDocument}
use Rattle.df_app.specs.declared.fault.RunFault.{RunFault}
use Rattle.df_app.specs.declared.fault.RunFault.TheVariants as fault
use Rattle.df_app.specs.declared.outcome.Outcome.{Outcome}
use Rattle.df_app.specs.declared.outcome.Output.{Output}
use Rattle.df_app.specs.Loading.{IsLoadRefused}
use Rattle.df_app.specs.Output.{output_of}

-- What a fault says that comes before anything is written. One of the document says what a fault of its opening says; that
-- memory was refused is one of the run alone. That frames which were read cannot be loaded, no clause rules out; then the
-- document opens, and so has an output.
abbrev pub IsFaultBefore : List ℕ → Contents → ℕ → RunFault → Type 0
IsFaultBefore bytes contents chunk (fault.Document f) = (f ≢ document_fault.Memory) × IsFaultOfOpening bytes contents chunk f
IsFaultBefore bytes contents chunk (fault.Load cause) =
    (d : SourcedDocument) × (opened_of bytes contents chunk ≡ Ok (opened_with d)) × IsLoadRefused d cause
IsFaultBefore bytes contents chunk fault.Write = ⊥
IsFaultBefore bytes contents chunk fault.Memory = ⊤

-- what the bytes of a document and of its files gave: its output, or a fault
abbrev pub IsOutput : List ℕ → Contents → ℕ → Result Output RunFault → Type 0
IsOutput bytes contents chunk (Ok o) = output_of bytes contents chunk ≡ Ok o
IsOutput bytes contents chunk (Err f) = IsFaultBefore bytes contents chunk f

-- the whole of an output was written, or a prefix of it that is not the whole
abbrev pub IsWriting : Output → Option (List ℕ) → Option (List ℕ) → Result Outcome RunFault → Type 0
IsWriting o old new (Ok outcome) = (o.outcome ≡ outcome) × Appends old new o.text
IsWriting o old new (Err f) = (f ≡ fault.Write) × (n : ℕ) × (n < length o.text) × Appends old new (take n o.text)

-- at a write fault a prefix of the output was written, at any other fault nothing
abbrev pub IsStop : List ℕ → Contents → ℕ → Option (List ℕ) → Option (List ℕ) → RunFault → Type 0
IsStop bytes contents chunk old new fault.Write =
    (o : Output) × (output_of bytes contents chunk ≡ Ok o) × (n : ℕ) × (n < length o.text) × Appends old new (take n o.text)
IsStop bytes contents chunk old new f = IsFaultBefore bytes contents chunk f × Keeps old new

-- at Ok the whole output of the document was written, and nothing else
abbrev pub IsRunOn : List ℕ → Contents → ℕ → Option (List ℕ) → Option (List ℕ) → Result Outcome RunFault → Type 0
IsRunOn bytes contents chunk old new (Ok outcome) =
    (o : Output) × (output_of bytes contents chunk ≡ Ok o) × (o.outcome ≡ outcome) × Appends old new o.text
IsRunOn bytes contents chunk old new (Err f) = IsStop bytes contents chunk old new f

-- whatever the reader gave: nothing was written, unless a write failed
abbrev pub KeepsUnlessWrite : Option (List ℕ) → Option (List ℕ) → RunFault → Type 0
KeepsUnlessWrite old new fault.Write = ⊤
KeepsUnlessWrite old new f = Keeps old new

-- at a fault of the document, of its views or of their plans the files are as they were: none was opened
abbrev pub LeavesFiles : {F : Type 0} → F → F → RunFault → Type 0
LeavesFiles old new (fault.Document f) = opening.LeavesFiles old new f
LeavesFiles old new (fault.Load cause) = ⊤
LeavesFiles old new fault.Write = ⊤
LeavesFiles old new fault.Memory = ⊤
