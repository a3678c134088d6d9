-- The texts of refusals: a code and what it is about, and then both in words.
use Rattle.std.specs.Prelude.{◌++◌, ◌==◌, ℕ, List, [], ◌∷◌, codes, decimal, length, if◌then◌else◌}
use Rattle.df_state.specs.declared.fault.CatalogueFault.{CatalogueFault}
use Rattle.df_state.specs.declared.fault.CatalogueFault.TheVariants as store
use Rattle.df_state.specs.declared.fault.NewFault.{NewFault}
use Rattle.df_state.specs.declared.fault.NewFault.TheVariants as opening
use Rattle.df_csv.specs.declared.fault.CsvFault.{CsvFault}
use Rattle.df_csv.specs.declared.fault.CsvFault.TheVariants as csv
use Rattle.df_print.specs.Printed.{escaped_text}
use Rattle.df_value.specs.declared.chunk.ChunkFault.{ChunkFault}
use Rattle.df_value.specs.declared.chunk.ChunkFault.TheVariants as chunk
use Rattle.df_session.specs.Codes.{code_of}
use Rattle.df_session.specs.DefinitionTexts.{frame_words}
use Rattle.df_session.specs.Greetings.{plural_end}
use Rattle.df_session.specs.declared.refusal.Refusal.{Refusal}
use Rattle.df_session.specs.declared.refusal.Refusal.TheVariants as refusal
use Rattle.df_session.specs.declared.refusal.Mistake.{Mistake}
use Rattle.df_session.specs.declared.refusal.Mistake.TheVariants as mistake
use Rattle.df_session.specs.declared.refusal.RecordLength.{RecordLength}
use Rattle.df_session.specs.declared.refusal.VersionFault.{VersionFault}
use Rattle.df_session.specs.declared.refusal.VersionFault.TheVariants as version
use Rattle.df_session.specs.declared.refusal.WriteFault.{WriteFault}
use Rattle.df_session.specs.declared.refusal.WriteFault.TheVariants as write

-- a frame by its name, if it is known
abbrev pub frame_named : List ℕ → List ℕ
frame_named name = if length name == 0 then codes "the frame" else escaped_text name

-- something of this kind by its name, if it is known; of no kind nothing
abbrev pub of_name : List ℕ → List ℕ → List ℕ
of_name [] name = []
of_name (k ∷ ks) name =
    if length name == 0 then (k ∷ ks) ++ codes " of this name" else (k ∷ ks) ++ (codes " \"" ++ (escaped_text name ++ codes "\""))

-- words, and in them something of this kind by its name
abbrev pub with_name : List ℕ → List ℕ → List ℕ → List ℕ → List ℕ
with_name before kind name behind = before ++ (of_name kind name ++ behind)

-- what is wrong with a line: the words before something that it names, of which kind that is, and the words behind it
abbrev pub mistake_parts : Mistake → List ℕ × List ℕ × List ℕ
mistake_parts mistake.NoCommand = (codes " no ", codes "command", codes ": help lists them")
mistake_parts mistake.MissingWord = (codes " a word is missing: help lists the words of each command", [], [])
mistake_parts mistake.ExtraWord = (codes " a word too many: a name with spaces stands in double quotes", [], [])
mistake_parts mistake.NotRowNumber = (codes " a row number is a whole number below 4294967296", [], [])
mistake_parts mistake.NotCount = (codes " COUNT is a whole number below 18446744073709551616", [], [])
mistake_parts mistake.NotText = (codes " the line is not UTF-8", [], [])
mistake_parts mistake.LongLine = (codes " a line has more than 1048576 bytes", [], [])
mistake_parts mistake.MissingLines = (codes " the input ends before the lines of the command", [], [])
mistake_parts mistake.OtherRowCount = (codes " not as many rows as numbers", [], [])
mistake_parts mistake.NoView = (codes " the document has no ", codes "view", [])
mistake_parts mistake.NoTable = (codes " the document has no ", codes "frame or view", codes ": frames and views list them")
mistake_parts mistake.NoFile = (codes " the ", codes "file", codes " cannot be opened or read")
mistake_parts mistake.NestedSource = (codes " source stands in no file that is sourced itself", [], [])
mistake_parts mistake.LateFrame =
    (codes " a frame is declared before all changes: begin a session with it, or put it into the document", [], [])
mistake_parts mistake.OnlyWithHall = (codes " only with --hall", [], [])
mistake_parts mistake.NotWithHall = (codes " not with --hall", [], [])
mistake_parts mistake.NotWatched = (codes " the ", codes "view", codes " is not watched: watch begins it")
mistake_parts mistake.NotFollowed = (codes " the ", codes "path", codes " is not followed: follow begins it")
mistake_parts mistake.NoChange = (codes " the last change was none of rows, or came before the watch", [], [])

-- what is wrong with a line, which names this
abbrev pub mistake_words : List ℕ → Mistake → List ℕ
mistake_words name m = with_name (mistake_parts m).0 (mistake_parts m).1 name (mistake_parts m).2

-- the fault of a catalogue, at the frame or view of this name
abbrev pub catalogue_words : List ℕ → CatalogueFault → List ℕ
catalogue_words name store.SchemaUnlike = codes ": the rows have another schema than " ++ frame_named name
catalogue_words name (store.Taken n) = codes ": " ++ (frame_named name ++ (codes " accepted number " ++ (decimal n ++ codes " before")))
catalogue_words name store.Full = codes ": " ++ (frame_named name ++ codes " would have accepted more than 1048576 rows")
catalogue_words name (store.Doubled n) = codes ": number " ++ (decimal n ++ codes " appears twice")
catalogue_words name (store.NotLive n) = codes ": " ++ (frame_named name ++ (codes " has no row " ++ decimal n))
catalogue_words name store.ViewExists = with_name (codes ": ") (codes "view") name (codes " is registered; drop takes it out")
catalogue_words name store.TooManyViews = codes ": 32 views are registered; drop takes one out"
catalogue_words name store.NoView = with_name (codes ": no ") (codes "view") name (codes "; views lists them")
catalogue_words name store.Memory = []
catalogue_words name store.PlanUnlike = codes ": the plan is over other frames"
catalogue_words name store.NoFrame = with_name (codes ": no ") (codes "frame") name (codes "; frames lists them")

abbrev pub new_text : NewFault → List ℕ
new_text opening.TooManyFrames = codes "N1"
new_text (opening.DerivedType frame) = codes "N2 " ++ decimal frame
new_text opening.Memory = codes "memory"

-- what is wrong with rows for the frame of this name
abbrev pub chunk_words : List ℕ → ChunkFault → List ℕ
chunk_words name chunk.TooLong = codes ": more than 65536 rows; append or replace them in parts"
chunk_words name chunk.NumberTooLarge = codes ": a row would have a number above 4294967295"
chunk_words name (chunk.RowUnlike row) = codes ": a row does not fit the schema of " ++ frame_named name
chunk_words name chunk.Memory = []

-- so many of something
abbrev pub counted : ℕ → List ℕ → List ℕ
counted count noun = decimal count ++ (codes " " ++ (noun ++ plural_end count))

-- a record of lines that is not as long as the frame of this name is wide
abbrev pub length_words : List ℕ → RecordLength → List ℕ
length_words name l =
    codes ": record "
    ++ (decimal l.record
    ++ (codes " has " ++ (counted l.fields (codes "field") ++ (codes ", and " ++ (frame_named name ++ (codes " has " ++ counted l.columns (codes "column")))))))

abbrev pub bad_record_words : ℕ → List ℕ
bad_record_words n = codes ": record " ++ (decimal n ++ codes " has another number of fields than the header")

abbrev pub missing_column_words : List ℕ → List ℕ
missing_column_words name = codes ": the header has no column " ++ escaped_text name

abbrev pub doubled_header_words : List ℕ → List ℕ
doubled_header_words name = codes ": the header has the column " ++ (escaped_text name ++ codes " twice")

-- what lines of CSV are refused with besides: they have no header, no file, and few records
abbrev pub lines_words : CsvFault → List ℕ
lines_words csv.NotText = codes ": the lines are not UTF-8"
lines_words f = []

-- the fault of the file under this path
abbrev pub file_words : List ℕ → CsvFault → List ℕ
file_words path csv.ReadFault = with_name (codes ": the ") (codes "file") path (codes " cannot be opened, or cannot be read")
file_words path csv.TooLarge = codes ": the file has more than 67108864 bytes"
file_words path csv.NotText = codes ": the file is not UTF-8"
file_words path (csv.BadRecord n) = bad_record_words n
file_words path (csv.MissingColumn name) = missing_column_words name
file_words path (csv.DoubledHeader name) = doubled_header_words name
file_words path csv.TooManyRecords = codes ": the file has more than 1048576 records"
file_words path csv.Memory = []

-- what a hall's versions refuse
abbrev pub version_words : VersionFault → List ℕ
version_words version.Spent = codes ": 2^64 - 1 versions were published; there is no change behind them"
version_words version.Ahead = codes ": the hall knows fewer changes than this session was told of"
version_words version.Missing = codes ": there is no version to answer from"

-- why a table is not written to a file
abbrev pub write_words : WriteFault → List ℕ
write_words write.NotMade = codes ": PATH.part cannot be made: no such folder, no right to write there, or a file of that name stands there"
write_words write.NotWritten = codes ": the file cannot be written whole, as on a full disk"
write_words write.NotPlaced = codes ": the file cannot be put there: a folder stands there, or there is no right to write"
write_words write.Memory = []

-- A refusal in words, behind its code. The name is that of the frame, the view, the command or the file that it is about; where it is not
-- known, it is empty.
abbrev pub words_of : List ℕ → Refusal → List ℕ
words_of name (refusal.Mistake m) = mistake_words name m
words_of name (refusal.Store f) = catalogue_words name f
words_of name (refusal.Frame f) = codes ": " ++ frame_words f
words_of name (refusal.Definition f words) = codes ": " ++ words
words_of name (refusal.Version f) = version_words f
words_of name (refusal.Csv f) = lines_words f
words_of name (refusal.Length l) = length_words name l
words_of name (refusal.File f) = file_words name f
words_of name (refusal.Cell number column) = codes ": the cell is no value of the column's type"
words_of name (refusal.Chunk f) = chunk_words name f
words_of name (refusal.Write f) = write_words f
words_of name refusal.Memory = []

-- the text of a refusal
abbrev pub text_of : List ℕ → Refusal → List ℕ
text_of name r = code_of r ++ words_of name r
