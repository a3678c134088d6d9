-- What a run of a view document writes: the tables of its views over its frames, and the chunks that were
-- refused, or the first fault.
use Rattle.std.specs.Prelude.{ℕ, List, [], ◌∷◌, ◌++◌, map, codes, flat_map, Result, Ok, Err, if◌then◌else◌}
use Rattle.std.specs.List.{join_by, list_all}
use Rattle.df_value.specs.declared.cell.Cell.{Cell}
use Rattle.df_value.specs.declared.chunk.Piece.{Piece}
use Rattle.df_value.specs.Pieces.{is_good, rows_of_pieces}
use Rattle.df_plan.specs.CheckedParts.{CheckedParts}
use Rattle.df_plan.specs.Meaning.{table_of}
use Rattle.df_print.specs.Printed.{printed}
use Rattle.df_text.specs.declared.document.ViewSpec.{ViewSpec}
use Rattle.df_text.specs.declared.document.Views.{Views}
use Rattle.df_document.specs.Files.{Contents}
use Rattle.df_document.specs.Opening.{opened_of}
use Rattle.df_document.specs.Refused.{paired, refused_in}
use Rattle.df_document.specs.declared.fault.DocumentFault.{DocumentFault}
use Rattle.df_document.specs.declared.opening.OpenedDocument.{OpenedDocument}
use Rattle.df_app.specs.declared.fault.RunFault.{RunFault}
use Rattle.df_app.specs.declared.fault.RunFault.TheVariants as fault
use Rattle.df_app.specs.declared.outcome.Outcome.{Outcome}
use Rattle.df_app.specs.declared.outcome.Outcome.TheVariants as outcome
use Rattle.df_app.specs.declared.outcome.Output.{Output}

-- the table of a view over the rows of the frames
abbrev pub printed_view : List (List (List Cell)) → ViewSpec × CheckedParts → List ℕ
printed_view frames view = printed view.0.name view.1.schema (table_of view.1.plan view.1.frames frames).rows

-- Refused where a piece has a bad cell
abbrev pub outcome_of : List (List Piece) → Outcome
outcome_of pieces = if list_all (list_all is_good) pieces then outcome.Clean else outcome.Refused

-- the refused lines, as the last block, if there are any
abbrev pub refused_block : List ℕ → List (List ℕ)
refused_block [] = []
refused_block (b ∷ bs) = (b ∷ bs) ∷ []

-- the tables in the document's order and then the refused lines, with an empty line between each two
abbrev pub text_from : Views → List CheckedParts → List (List Piece) → ℕ → List ℕ
text_from document plans pieces chunk =
    join_by (λ block. block) (codes "\n")
    (map (printed_view (map rows_of_pieces pieces)) (paired document.views plans)
    ++ refused_block (flat_map (refused_in chunk) (paired document.frames pieces)))

-- what is written of an opened document, and how the run then ends
abbrev pub output_made : ℕ → OpenedDocument → Output
output_made chunk o = record { text = text_from o.document o.plans o.pieces chunk; outcome = outcome_of o.pieces }

-- what is written of a document that was opened, or the fault of one that was not
abbrev pub output_by : ℕ → Result OpenedDocument DocumentFault → Result Output RunFault
output_by chunk (Ok o) = Ok (output_made chunk o)
output_by chunk (Err f) = Err (fault.Document f)

-- the output of a document's bytes and of the files that it names
abbrev pub output_of : List ℕ → Contents → ℕ → Result Output RunFault
output_of bytes contents chunk = output_by chunk (opened_of bytes contents chunk)
