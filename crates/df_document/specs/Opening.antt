-- What a view document and its files are opened to: the checked plans of its views and the pieces of its frames, or the
-- first fault.
use Rattle.std.specs.Prelude.{ℕ, List, [], ◌∷◌, ◌++◌, length, map, nat_lt, Result, Ok, Err, if◌then◌else◌}
use Rattle.df_value.specs.Outcomes.{then_next}
use Rattle.df_value.specs.Schemas.{Columns}
use Rattle.df_value.specs.declared.chunk.Piece.{Piece}
use Rattle.df_plan.specs.CheckedParts.{CheckedParts}
use Rattle.df_plan.specs.Checks.{CheckResult, plan_check}
use Rattle.df_csv.specs.Records.{FieldRows as Records, file_records, records_of}
use Rattle.df_csv.specs.Typed.{pieces_of}
use Rattle.df_csv.specs.declared.fault.CsvFault.{CsvFault}
use Rattle.df_csv.specs.declared.fault.CsvFault.TheVariants as csv
use Rattle.df_text.specs.Document.{document_of, next_view_of}
use Rattle.df_text.specs.declared.document.FrameSource.{FrameSource}
use Rattle.df_text.specs.declared.document.FrameSource.TheVariants as source
use Rattle.df_text.specs.declared.document.FrameSpec.{FrameSpec}
use Rattle.df_text.specs.declared.document.ViewSpec.{ViewSpec}
use Rattle.df_text.specs.declared.document.Views.{Views}
use Rattle.df_text.specs.declared.fault.ViewsFault.{ViewsFault}
use Rattle.df_document.specs.Files.{Contents}
use Rattle.df_document.specs.declared.files.FileState.{FileState}
use Rattle.df_document.specs.declared.files.FileState.TheVariants as known
use Rattle.df_document.specs.declared.fault.DocumentFault.{DocumentFault}
use Rattle.df_document.specs.declared.fault.DocumentFault.TheVariants as fault
use Rattle.df_document.specs.declared.opening.OpenedDocument.{OpenedDocument}

-- the answers that are there already, and after them that of each item in turn; the first fault ends it
abbrev pub results_after : {A B : Type 0} → (A → Result B DocumentFault) → List B → List A → Result (List B) DocumentFault
results_after answer out [] = Ok out
results_after answer out (x ∷ xs) = then_next (answer x) (λ y. results_after answer (out ++ y ∷ []) xs)

abbrev pub of_document : {A : Type 0} → Result A ViewsFault → Result A DocumentFault
of_document (Ok document) = Ok document
of_document (Err f) = Err (fault.Views f)

abbrev pub schemas_of : List FrameSpec → List Columns
schemas_of frames = map (λ (f : FrameSpec). f.schema) frames

abbrev pub of_plan : ViewSpec → List Columns → CheckResult → Result CheckedParts DocumentFault
of_plan view schemas (Ok schema) = Ok (record { plan = view.plan; frames = schemas; schema = schema })
of_plan view schemas (Err f) = Err (fault.Plan view.name f)

-- a view's plan with the schema of its result, or the fault under the view's name
abbrev pub plan_of : List Columns → ViewSpec → Result CheckedParts DocumentFault
plan_of schemas view = of_plan view schemas (plan_check view.plan schemas)

-- the records of a file; one that is absent cannot be read, and of an unknown one nothing is said
abbrev pub records_of_file : FileState → Columns → Result Records CsvFault
records_of_file known.Unknown columns = Err csv.ReadFault
records_of_file known.Absent columns = Err csv.ReadFault
records_of_file (known.Bytes bytes) columns = file_records bytes columns

-- the records of a frame: those of the file under its path, or those of its own text
abbrev pub records_in : Contents → FrameSource → Columns → Result Records CsvFault
records_in contents (source.Path path) columns = records_of_file (contents path) columns
records_in contents (source.Text text) columns = records_of text columns

abbrev pub of_records : ℕ → FrameSpec → Result Records CsvFault → Result (List Piece) DocumentFault
of_records chunk frame (Ok records) = Ok (pieces_of frame.schema chunk records)
of_records chunk frame (Err f) = Err (fault.Csv frame.name f)

-- a frame's records in pieces of so many, or the fault under the frame's name
abbrev pub pieces_in : Contents → ℕ → FrameSpec → Result (List Piece) DocumentFault
pieces_in contents chunk frame = of_records chunk frame (records_in contents frame.source frame.schema)

-- the plans of a document's views, in their order, or the first fault
abbrev pub plans_of : Views → Result (List CheckedParts) DocumentFault
plans_of document = results_after (plan_of (schemas_of document.frames)) [] document.views

-- one more view of a document, read as it would stand behind the others
abbrev pub next_view_read : Views → List ℕ → List ℕ → List ℕ → Result ViewSpec DocumentFault
next_view_read document name source steps = of_document (next_view_of document.frames document.views name source steps)

-- one more view of a document, with its plan, or the first fault
abbrev pub next_view_in : Views → List ℕ → List ℕ → List ℕ → Result (ViewSpec × CheckedParts) DocumentFault
next_view_in document name source steps =
    then_next (next_view_read document name source steps) (λ view.
    then_next (plan_of (schemas_of document.frames) view) (λ plan. Ok (view, plan)))

-- a document that was read, opened: its plans are checked in the order of the views, then its frames are read in their
-- order and typed in chunks of so many records
abbrev pub opened_in : Views → Contents → ℕ → Result OpenedDocument DocumentFault
opened_in document contents chunk =
    then_next (plans_of document) (λ plans.
    then_next (results_after (pieces_in contents chunk) [] document.frames) (λ pieces.
    Ok (record { document = document; plans = plans; pieces = pieces })))

-- the bytes of a document that is not too large, opened
abbrev pub opened_from : List ℕ → Contents → ℕ → Result OpenedDocument DocumentFault
opened_from bytes contents chunk = then_next (of_document (document_of bytes)) (λ document. opened_in document contents chunk)

-- a document has at most so many bytes, this project's own choice
abbrev pub most_bytes_of_document : ℕ
most_bytes_of_document = 1048576

-- a document's bytes, which may not be too many, and the files that it names, opened
abbrev pub opened_of : List ℕ → Contents → ℕ → Result OpenedDocument DocumentFault
opened_of bytes contents chunk =
    if nat_lt most_bytes_of_document (length bytes) then Err fault.TooLarge else opened_from bytes contents chunk
