-- Frames that a session declares which has no document: they are those of a document that says them in tables of TOML 1.1, one
-- behind the other.
use Rattle.std.specs.Prelude.{◌≡◌, ◌⊎◌, ⊤, ◌++◌, ℕ, List, [], ◌∷◌, codes, flat_map, Err, IsOk, Result, Ok, Some}
use Rattle.df_text.specs.Document.{document_of}
use Rattle.df_text.specs.declared.fault.ViewsFault.{ViewsFault}
use Rattle.df_writing.specs.FrameTables.{frame_table}
use Rattle.df_session.specs.Answers.{IsRefusalOfHelp, IsWordFault}
use Rattle.df_session.specs.Commands.{IsCommandOf}
use Rattle.df_session.specs.Help.{help_list, help_on}
use Rattle.df_session.specs.declared.answering.Answer.TheVariants as answer
use Rattle.df_session.specs.declared.command.Command.{Command}
use Rattle.df_session.specs.declared.command.Command.TheVariants as command
use Rattle.df_session.specs.declared.declared_frames.Declaration.{Declaration}
use Rattle.df_session.specs.declared.declared_frames.Declaration.TheVariants as declaration
use Rattle.df_session.specs.declared.refusal.Refusal.{Refusal}
use Rattle.df_session.specs.declared.refusal.Refusal.TheVariants as refusal

-- The frame is declared: the document with one more says frames, and is kept.
abbrev pub IsDeclared : List ℕ → List ℕ → List ℕ → List (List ℕ × List ℕ) → Type 0
IsDeclared document after name columns = (after ≡ document ++ frame_table name columns) × IsOk (document_of after)

-- A refusal of frames, by what is wanted of their document: the fault that it has, or that memory was refused.
abbrev pub IsFaultOfFrames : {A : Type 0} → Result A ViewsFault → Refusal → Type 0
IsFaultOfFrames want r = (r ≡ refusal.Memory) ⊎ ((f : ViewsFault) × (r ≡ refusal.Frame f) × (want ≡ Err f))

-- A refusal to declare a frame: that of the document with it.
abbrev pub IsRefusalOfFrame : List ℕ → List ℕ → List (List ℕ × List ℕ) → Refusal → Type 0
IsRefusalOfFrame document name columns r = IsFaultOfFrames (document_of (document ++ frame_table name columns)) r

-- the words of columns
abbrev pub words_of_columns : List (List ℕ × List ℕ) → List (List ℕ)
words_of_columns columns = flat_map (λ c. c.0 ∷ c.1 ∷ []) columns

-- the words that declare a frame
abbrev pub IsFrameOf : List (List ℕ) → List ℕ → List (List ℕ × List ℕ) → Type 0
IsFrameOf words name columns = words ≡ codes "frame" ∷ name ∷ words_of_columns columns

-- these words declared a frame
abbrev pub IsDeclaredBy : List ℕ → List ℕ → List (List ℕ) → Type 0
IsDeclaredBy document after words =
    (name : List ℕ) × (columns : List (List ℕ × List ℕ)) × IsFrameOf words name columns × IsDeclared document after name columns

-- A refusal of words that may declare a frame: what is wrong with the words, or with the frame.
abbrev pub IsRefusalOfWords : List ℕ → List (List ℕ) → Refusal → Type 0
IsRefusalOfWords document words r =
    IsWordFault r
    ⊎ ((name : List ℕ) × (columns : List (List ℕ × List ℕ)) × IsFrameOf words name columns × IsRefusalOfFrame document name columns r)

-- the words ask for the commands, or for one of them, and this is told
abbrev pub IsHelp : List (List ℕ × List ℕ × List ℕ) → List (List ℕ) → List ℕ → Type 0
IsHelp commands words text =
    ((words ≡ codes "help" ∷ []) × (text ≡ help_list commands))
    ⊎ ((name : List ℕ) × (words ≡ codes "help" ∷ name ∷ []) × (help_on name commands ≡ Some text))

-- a refusal of words that ask for a command
abbrev pub IsRefusalToHelp : List (List ℕ × List ℕ × List ℕ) → List (List ℕ) → Refusal → Type 0
IsRefusalToHelp commands words r =
    (name : List ℕ) × (words ≡ codes "help" ∷ name ∷ []) × IsRefusalOfHelp (help_on name commands) r

-- the commands that may change a store, or open a file
abbrev pub IsOpening : Command → Type 0
IsOpening (command.Change change) = ⊤
IsOpening (command.AppendNext frame) = ⊤
IsOpening (command.Load frame path) = ⊤
IsOpening (command.Export view path) = ⊤
IsOpening (command.Report path views) = ⊤
IsOpening (command.Follow path views) = ⊤
IsOpening (command.Define view source) = ⊤
IsOpening (command.Source path) = ⊤
IsOpening c = ⊥

-- the commands that ask: before a store is opened, there is no view that could be watched, and no page that follows it
abbrev pub IsAsking : Command → Type 0
IsAsking (command.Question question) = ⊤
IsAsking (command.Sql view) = ⊤
IsAsking (command.Watch asked view) = ⊤
IsAsking (command.Unfollow path) = ⊤
IsAsking c = ⊥

-- What words come to that declare no frame: a question is left to a store of the declared frames, and so is what may change one.
abbrev pub IsOtherDeclaration : List (List ℕ × List ℕ × List ℕ) → List (List ℕ) → Result Declaration Refusal → Type 0
IsOtherDeclaration commands words (Ok declaration.Asked) = (c : Command) × IsCommandOf words c × IsAsking c
IsOtherDeclaration commands words (Ok declaration.Opens) = (c : Command) × IsCommandOf words c × IsOpening c
IsOtherDeclaration commands words (Ok (declaration.Answered (answer.Told text))) = IsHelp commands words text.items
IsOtherDeclaration commands words (Ok (declaration.Answered answer.Ended)) = words ≡ codes "quit" ∷ []
IsOtherDeclaration commands words (Err r) = IsWordFault r ⊎ IsRefusalToHelp commands words r
IsOtherDeclaration commands words result = ⊥

-- What the words of a line come to before a store is opened, by the document before and after it: a frame is declared, and else the
-- document stays.
abbrev pub IsDeclaration : List (List ℕ × List ℕ × List ℕ) → List ℕ → List ℕ → List (List ℕ) → Result Declaration Refusal → Type 0
IsDeclaration commands document after words (Ok (declaration.Answered answer.Accepted)) = IsDeclaredBy document after words
IsDeclaration commands document after words (Err r) =
    (after ≡ document) × (IsRefusalOfWords document words r ⊎ IsOtherDeclaration commands words (Err r))
IsDeclaration commands document after words result = (after ≡ document) × IsOtherDeclaration commands words result
