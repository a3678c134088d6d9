-- A document with a source of each frame's records, and what it is opened to.
use Rattle.std.specs.Prelude.{◌≡◌, ◌≤◌, ℕ, List, length, map, Result, Ok, Err}
use Rattle.df_value.specs.Limits.{most_rows_of_frame}
use Rattle.df_value.specs.declared.chunk.Piece.{Piece}
use Rattle.df_csv.specs.Sources as csv_sources
use Rattle.df_csv.specs.Sources.{CsvParts}
use Rattle.df_document.specs.declared.fault.DocumentFault.{DocumentFault}
use Rattle.df_document.specs.declared.opening.OpenedDocument.{OpenedDocument}
use Rattle.df_document.specs.declared.opening.SourcedDocument.{SourcedDocument}

-- the pieces that sources make
abbrev pub pieces_of_sources : List CsvParts → List (List Piece)
pieces_of_sources sources = map csv_sources.chunks_of sources

-- a document with these sources, opened
abbrev pub opened_with : SourcedDocument → OpenedDocument
opened_with d = record { document = d.document; plans = d.plans; pieces = pieces_of_sources d.sources }

-- or the fault
abbrev pub opened_by : Result SourcedDocument DocumentFault → Result OpenedDocument DocumentFault
opened_by (Ok d) = Ok (opened_with d)
opened_by (Err f) = Err f

-- the pieces of the sources, or the fault
abbrev pub pieces_by : Result (List CsvParts) DocumentFault → Result (List (List Piece)) DocumentFault
pieces_by (Ok sources) = Ok (pieces_of_sources sources)
pieces_by (Err f) = Err f

-- the pieces of one source, or the fault
abbrev pub pieces_by_one : Result CsvParts DocumentFault → Result (List Piece) DocumentFault
pieces_by_one (Ok source) = Ok (csv_sources.chunks_of source)
pieces_by_one (Err f) = Err f

-- a source whose pieces have so many records, and that has no more of them than a frame accepts
pub record IsSourceOf (chunk : ℕ) (source : CsvParts) : Type 0 where
  pub size : source.size ≡ chunk
  pub few : length source.records ≤ most_rows_of_frame
