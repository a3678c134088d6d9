-- What the opening of a document answers, of files that are known.
use Rattle.std.specs.Prelude.{◌≡◌, ◌≢◌, ◌≤◌, ◌⊎◌, ℕ, ⊤, MatchResult, List, [], ◌∷◌, length, All, IfOk, IsOk, IsOkAnd, Result, Ok, Err}
use Rattle.df_csv.specs.declared.fault.CsvFault.TheVariants as csv
use Rattle.df_text.specs.Document.{document_of}
use Rattle.df_text.specs.declared.document.FrameSource.{FrameSource}
use Rattle.df_text.specs.declared.document.FrameSource.TheVariants as source
use Rattle.df_text.specs.declared.document.FrameSpec.{FrameSpec}
use Rattle.df_text.specs.declared.document.Views.{Views}
use Rattle.df_document.specs.Files.{Contents, HasBytes, IsKnownState}
use Rattle.df_document.specs.Opening.{most_bytes_of_document, opened_of, pieces_in, plans_of}
use Rattle.df_document.specs.declared.fault.DocumentFault.{DocumentFault}
use Rattle.df_document.specs.declared.fault.DocumentFault.TheVariants as fault
use Rattle.df_document.specs.declared.opening.OpenedDocument.{OpenedDocument}

-- of the file that a frame names it is known whether it is there, and with which bytes
abbrev pub IsKnown : Contents → FrameSource → Type 0
IsKnown contents (source.Path path) = IsKnownState (contents path)
IsKnown contents (source.Text text) = ⊤

abbrev pub AreKnown : Contents → List FrameSpec → Type 0
AreKnown contents frames = All (λ (f : FrameSpec). IsKnown contents f.source) frames

-- each file that a document names is known, if its files are read at all
abbrev pub KnowsFilesOf : Contents → Views → Type 0
KnowsFilesOf contents document = IfOk (plans_of document) (λ plans. AreKnown contents document.frames)

abbrev pub KnowsFiles : Contents → List ℕ → Type 0
KnowsFiles contents bytes = length bytes ≤ most_bytes_of_document → IfOk (document_of bytes) (KnowsFilesOf contents)

-- a frame's records are those of a file that is there, of which a read may fail
abbrev pub IsRead : Contents → FrameSource → Type 0
IsRead contents (source.Path path) = HasBytes (contents path)
IsRead contents (source.Text text) = ⊥

-- the frame of this name may be the first of whose file a read fails: those before it have their pieces
abbrev pub MayFail : Contents → ℕ → List FrameSpec → List ℕ → Type 0
MayFail contents chunk [] name = ⊥
MayFail contents chunk (f ∷ frames) name =
    ((f.name ≡ name) × IsRead contents f.source) ⊎ (IsOk (pieces_in contents chunk f) × MayFail contents chunk frames name)

-- and the plans of the document check
abbrev pub MayFailIn : Views → Contents → ℕ → List ℕ → Type 0
MayFailIn document contents chunk name = IsOk (plans_of document) × MayFail contents chunk document.frames name

abbrev pub MayFailFrom : List ℕ → Contents → ℕ → List ℕ → Type 0
MayFailFrom bytes contents chunk name = IsOkAnd (document_of bytes) (λ document. MayFailIn document contents chunk name)

-- a fault of a frame's records, or want of memory
abbrev pub ComesFromFrames : DocumentFault → Type 0
ComesFromFrames (fault.Csv frame f) = ⊤
ComesFromFrames fault.Memory = ⊤
ComesFromFrames fault.ReadFault = ⊥
ComesFromFrames fault.TooLarge = ⊥
ComesFromFrames (fault.Views f) = ⊥
ComesFromFrames (fault.Plan view f) = ⊥

-- a fault that bytes can have which are not too many, or want of memory
abbrev pub ComesFromBytes : DocumentFault → Type 0
ComesFromBytes (fault.Views f) = ⊤
ComesFromBytes (fault.Plan view f) = ⊤
ComesFromBytes (fault.Csv frame f) = ⊤
ComesFromBytes fault.Memory = ⊤
ComesFromBytes fault.ReadFault = ⊥
ComesFromBytes fault.TooLarge = ⊥

-- a fault that tells of the bytes: memory was not refused, and no frame's file cannot be read
abbrev pub TellsOfBytes : DocumentFault → Type 0
TellsOfBytes f = (f ≢ fault.Memory) × ((frame : List ℕ) → f ≢ fault.Csv frame csv.ReadFault)

-- The call answers what is wanted, unless it answers that memory was refused, or that the file of a frame cannot be read of
-- which F holds.
abbrev pub AnswersBut : {A : Type 0} → (List ℕ → Type 0) → Result A DocumentFault → Result A DocumentFault → Type 0
AnswersBut F want result =
    MatchResult result (λ x. want ≡ Ok x)
    (λ f. ComesFromBytes f × (TellsOfBytes f → want ≡ Err f) × ((frame : List ℕ) → f ≡ fault.Csv frame csv.ReadFault → F frame))

-- F holds of the frames of whose files a read may fail; that one cannot be read may also be what is wanted
abbrev pub AnswersOrFails : {A : Type 0} → (List ℕ → Type 0) → Result A DocumentFault → Result A DocumentFault → Type 0
AnswersOrFails F want result = AnswersBut (λ frame. want ≢ Err (fault.Csv frame csv.ReadFault) → F frame) want result

-- the same of a call that reads no file
abbrev pub AnswersOfBytes : {A : Type 0} → Result A DocumentFault → Result A DocumentFault → Type 0
AnswersOfBytes want result = AnswersBut (λ frame. ⊥) want result

-- What a fault of the opening says. But for a failed read of the document or of a file and for want of memory, it is the
-- fault that the bytes have in the place of an opened document. A file of which a read fails is there, and is that of a
-- frame to which the opening comes.
abbrev pub IsFaultOfOpening : List ℕ → Contents → ℕ → DocumentFault → Type 0
IsFaultOfOpening bytes contents chunk fault.ReadFault = ⊤
IsFaultOfOpening bytes contents chunk (fault.Csv frame csv.ReadFault) =
    opened_of bytes contents chunk ≢ Err (fault.Csv frame csv.ReadFault) → (length bytes ≤ most_bytes_of_document) × MayFailFrom bytes contents chunk frame
IsFaultOfOpening bytes contents chunk fault.Memory = ⊤
IsFaultOfOpening bytes contents chunk f = opened_of bytes contents chunk ≡ Err f

-- what the bytes of a document and of its files gave: the document, opened, or a fault
abbrev pub IsOpening : List ℕ → Contents → ℕ → Result OpenedDocument DocumentFault → Type 0
IsOpening bytes contents chunk (Ok o) = opened_of bytes contents chunk ≡ Ok o
IsOpening bytes contents chunk (Err f) = IsFaultOfOpening bytes contents chunk f

-- at a fault of the document, of its views or of their plans the files are as they were: none was opened
abbrev pub LeavesFiles : {F : Type 0} → F → F → DocumentFault → Type 0
LeavesFiles old new fault.ReadFault = new ≡ old
LeavesFiles old new fault.TooLarge = new ≡ old
LeavesFiles old new (fault.Views f) = new ≡ old
LeavesFiles old new (fault.Plan view f) = new ≡ old
LeavesFiles old new (fault.Csv frame f) = ⊤
LeavesFiles old new fault.Memory = ⊤
