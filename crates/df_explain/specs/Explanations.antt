-- What an explanation of a fault says for sure: of a document its name, the place and the fault's code; of one more view the
-- place. What stands behind the place is one line, whatever it says.
use Rattle.std.specs.Prelude.{◌≡◌, ◌≤◌, ◌++◌, ◌+◌, ◌==◌, ⊤, ℕ, Bool, true, false, List, [], Ok, Option, Some, None, codes, count_by, decimal, length, option_and_then, option_map, slice_get, take}
use Rattle.std.specs.Str.{is_utf8}
use Rattle.toml.specs.Data.{Members}
use Rattle.toml.specs.Parse.{parse_document}
use Rattle.df_print.specs.Printed.{escaped_text}
use Rattle.df_value.specs.Names.{index_of_name}
use Rattle.df_document.specs.Opening.{schemas_of}
use Rattle.df_document.specs.Texts.{fault_text_of}
use Rattle.df_document.specs.declared.fault.DocumentFault.{DocumentFault}
use Rattle.df_document.specs.declared.fault.DocumentFault.TheVariants as fault
use Rattle.df_plan.specs.declared.fault.PlanFault.{PlanFault}
use Rattle.df_plan.specs.declared.fault.PlanFault.TheVariants as plan
use Rattle.df_text.specs.Document.{document_of, next_view_of}
use Rattle.df_text.specs.declared.document.FrameSource.{FrameSource}
use Rattle.df_text.specs.declared.document.FrameSource.TheVariants as source
use Rattle.df_text.specs.declared.document.FrameSpec.{FrameSpec}
use Rattle.df_text.specs.declared.document.ViewSpec.{ViewSpec}
use Rattle.df_text.specs.declared.document.Views.{Views}
use Rattle.df_text.specs.declared.fault.ViewsFault.{ViewsFault}
use Rattle.df_explain.specs.Places.{location_of, part_text, place_in, place_in_steps, IsOneLine}
use Rattle.df_explain.specs.PlanPlaces.{IsPlanText}
use Rattle.df_explain.specs.Trees.{steps_said, tree_in}

-- the line, from 1, in which what stands behind so many bytes begins
abbrev pub line_of : List ℕ → ℕ → ℕ
line_of bytes before = count_by (λ b. b == 10) (take before bytes) + 1

abbrev pub IsLineAt : Bool → Option Members → List ℕ → List ℕ → Type 0
IsLineAt false tree bytes line = line ≡ []
IsLineAt true (Some tree) bytes line = line ≡ []
IsLineAt true None bytes line = (before : ℕ) × (before ≤ length bytes) × (line ≡ codes ", line " ++ decimal (line_of bytes before))

-- Behind a document's name one of its lines, where it is a text and no TOML. Which line it is `toml` says.
abbrev pub IsLine : List ℕ → List ℕ → Type 0
IsLine bytes line = IsLineAt (is_utf8 bytes) (parse_document bytes) bytes line

-- words with the place of a fault of a document's shape, behind what names the document
abbrev pub IsToldOf : List ℕ → Members → ViewsFault → List ℕ → Type 0
IsToldOf named tree f words = (what : List ℕ) × IsOneLine what × (words ≡ named ++ (codes ": " ++ (place_in tree (location_of f) ++ what)))

-- the words of a fault of the shape of the document of this name and of these bytes
abbrev pub IsShapeText : List ℕ → List ℕ → ViewsFault → List ℕ → Type 0
IsShapeText name bytes f words = (line : List ℕ) × IsLine bytes line × IsToldOf (escaped_text name ++ line) (tree_in bytes) f words

-- what stands between a view and the place of its plan's fault
abbrev pub between : PlanFault → List ℕ
between plan.TooManyScans = codes ": "
between plan.TooDeep = codes ": "
between f = codes ", "

-- the words of the fault of the plan of the view of this name: the view, by its number in the document and its name, and the step
abbrev pub IsViewText : Views → List ℕ → PlanFault → List ℕ → Type 0
IsViewText document name f words =
    (index : ℕ) → (view : ViewSpec) → index_of_name (λ (v : ViewSpec). v.name) name document.views ≡ Some index
    → slice_get document.views index ≡ Some view
    → (there : List ℕ) × IsPlanText (schemas_of document.frames) view.plan f there
    × (words ≡ part_text (codes "view") (index + 1) (Some (escaped_text name)) ++ (between f ++ there))

-- the first frame of this name
abbrev pub frame_named : Views → List ℕ → Option FrameSpec
frame_named document name = option_and_then (slice_get document.frames) (index_of_name (λ (f : FrameSpec). f.name) name document.frames)

-- where the records of a frame stand
abbrev pub source_text : Option FrameSource → List ℕ
source_text None = codes "its CSV"
source_text (Some (source.Path path)) = escaped_text path
source_text (Some (source.Text text)) = codes "its text"

-- the words of a fault of the records of the frame of this name: the frame, and where its records stand
abbrev pub IsRecordsText : Views → List ℕ → List ℕ → Type 0
IsRecordsText document name words =
    (what : List ℕ) × IsOneLine what × (words ≡ escaped_text name
    ++ (codes ": " ++ (source_text (option_map (λ (f : FrameSpec). f.source) (frame_named document name)) ++ (codes " " ++ what))))

-- words behind a document's name
abbrev pub behind_name : List ℕ → List ℕ → List ℕ
behind_name name words = escaped_text name ++ (codes ": " ++ words)

-- The words of a fault of the opening of the document of this name and of these bytes.
abbrev pub AreWords : List ℕ → List ℕ → DocumentFault → List ℕ → Type 0
AreWords name bytes fault.ReadFault words = words ≡ behind_name name (codes "cannot be opened, or cannot be read")
AreWords name bytes fault.TooLarge words = words ≡ behind_name name (codes "has more than 1048576 bytes")
AreWords name bytes (fault.Views f) words = IsShapeText name bytes f words
AreWords name bytes (fault.Plan view f) words =
    (document : Views) → document_of bytes ≡ Ok document
    → (there : List ℕ) × IsViewText document view f there × (words ≡ behind_name name there)
AreWords name bytes (fault.Csv frame f) words = (document : Views) → document_of bytes ≡ Ok document → IsRecordsText document frame words
AreWords name bytes fault.Memory words = words ≡ behind_name name (codes "takes more memory than there is")

-- an explanation: the words, and then the code in brackets
abbrev pub IsExplanation : List ℕ → List ℕ → DocumentFault → List ℕ → Type 0
IsExplanation name bytes f text =
    (words : List ℕ) × AreWords name bytes f words × (text ≡ words ++ (codes " [" ++ (fault_text_of f ++ codes "]")))

-- The words of a fault of one more view of a document, whose steps this text says, begin with the place in them: that which a fault of its
-- shape names, or that of the step of its plan that does not check.
abbrev pub AreWordsOf : Views → List ℕ → List ℕ → List ℕ → DocumentFault → List ℕ → Type 0
AreWordsOf document name source steps (fault.Views f) words =
    (what : List ℕ) × (words ≡ place_in_steps (steps_said steps) (location_of f) ++ what)
AreWordsOf document name source steps (fault.Plan other f) words =
    (view : ViewSpec) → next_view_of document.frames document.views name source steps ≡ Ok view
    → IsPlanText (schemas_of document.frames) view.plan f words
AreWordsOf document name source steps f words = ⊤
