-- The code of a refusal, and behind it what it is about: with it the text of the refusal begins. The codes are this project's own.
use Rattle.std.specs.Prelude.{◌++◌, ℕ, List, codes, decimal}
use Rattle.df_document.specs.Texts.{csv_text, views_text}
use Rattle.df_print.specs.Printed.{escaped_text}
use Rattle.df_session.specs.DefinitionTexts.{definition_code}
use Rattle.df_session.specs.declared.refusal.Mistake.{Mistake}
use Rattle.df_session.specs.declared.refusal.Refusal.{Refusal}
use Rattle.df_session.specs.declared.refusal.Refusal.TheVariants as refusal
use Rattle.df_session.specs.declared.refusal.VersionFault.{VersionFault}
use Rattle.df_session.specs.declared.refusal.VersionFault.TheVariants as version
use Rattle.df_session.specs.declared.refusal.WriteFault.{WriteFault}
use Rattle.df_session.specs.declared.refusal.WriteFault.TheVariants as write
use Rattle.df_state.specs.declared.fault.CatalogueFault.{CatalogueFault}
use Rattle.df_state.specs.declared.fault.CatalogueFault.TheVariants as store
use Rattle.df_value.specs.declared.chunk.ChunkFault.{ChunkFault}
use Rattle.df_value.specs.declared.chunk.ChunkFault.TheVariants as chunk

-- the code of a catalogue's fault, and the number that it is about
abbrev pub catalogue_code : CatalogueFault → List ℕ
catalogue_code store.SchemaUnlike = codes "C1"
catalogue_code (store.Taken n) = codes "C2 " ++ decimal n
catalogue_code store.Full = codes "C3"
catalogue_code (store.Doubled n) = codes "C4 " ++ decimal n
catalogue_code (store.NotLive n) = codes "C5 " ++ decimal n
catalogue_code store.ViewExists = codes "C6"
catalogue_code store.TooManyViews = codes "C7"
catalogue_code store.NoView = codes "C8"
catalogue_code store.Memory = codes "memory"
catalogue_code store.PlanUnlike = codes "C10"
catalogue_code store.NoFrame = codes "C11"

abbrev pub chunk_code : ChunkFault → List ℕ
chunk_code chunk.TooLong = codes "S5"
chunk_code chunk.NumberTooLarge = codes "S6"
chunk_code (chunk.RowUnlike row) = codes "S4"
chunk_code chunk.Memory = codes "memory"

abbrev pub version_code : VersionFault → List ℕ
version_code version.Spent = codes "H1"
version_code version.Ahead = codes "H2"
version_code version.Missing = codes "H3"

abbrev pub write_code : WriteFault → List ℕ
write_code write.NotMade = codes "W1"
write_code write.NotWritten = codes "W2"
write_code write.NotPlaced = codes "W3"
write_code write.Memory = codes "memory"

-- a bad cell, by its record's number and its column's name
abbrev pub cell_code : ℕ → List ℕ → List ℕ
cell_code number column = codes "record " ++ (decimal number ++ (codes ", column " ++ escaped_text column))

-- the code of a refusal
abbrev pub code_of : Refusal → List ℕ
code_of (refusal.Mistake m) = codes "?"
code_of (refusal.Store f) = catalogue_code f
code_of (refusal.Frame f) = views_text f
code_of (refusal.Definition f words) = definition_code f
code_of (refusal.Version f) = version_code f
code_of (refusal.Csv f) = csv_text f
code_of (refusal.Length l) = codes "F4 " ++ decimal l.record
code_of (refusal.File f) = csv_text f
code_of (refusal.Cell number column) = cell_code number column
code_of (refusal.Chunk f) = chunk_code f
code_of (refusal.Write f) = write_code f
code_of refusal.Memory = codes "memory"
