-- Commands: the words that say each of them.
use Rattle.std.specs.Prelude.{◌≡◌, ◌<◌, ◌++◌, ℕ, List, [], ◌∷◌, codes}
use Rattle.df_value.specs.Limits.{row_numbers}
use Rattle.std.specs.List.{AllZip}
use Rattle.std.specs.Str.Parse.{IsNumeral, digits_value, without_leading_plus}
use Rattle.df_session.specs.declared.command.AskedChange.{AskedChange}
use Rattle.df_session.specs.declared.command.AskedChange.TheVariants as asked
use Rattle.df_session.specs.declared.command.Command.{Command}
use Rattle.df_session.specs.declared.command.Command.TheVariants as command
use Rattle.df_session.specs.declared.command.Format.{Format}
use Rattle.df_session.specs.declared.command.Format.TheVariants as format
use Rattle.df_session.specs.declared.command.Part.{Part}
use Rattle.df_session.specs.declared.command.Part.TheVariants as part
use Rattle.df_session.specs.declared.command.Question.{Question}
use Rattle.df_session.specs.declared.command.Question.TheVariants as question
use Rattle.df_session.specs.declared.command.Watching.{Watching}
use Rattle.df_session.specs.declared.command.Watching.TheVariants as watching

-- the number below a bound that a word writes: digits, before which a plus may stand
abbrev pub IsNumberBelow : ℕ → List ℕ → ℕ → Type 0
IsNumberBelow bound word n = IsNumeral 10 (without_leading_plus word) × (digits_value 10 (without_leading_plus word) ≡ n) × (n < bound)

-- the row number that a word writes
abbrev pub IsRowNumber : List ℕ → ℕ → Type 0
IsRowNumber word n = IsNumberBelow row_numbers word n

-- the count that a word writes, of lines or of rows
abbrev pub IsLineCount : List ℕ → ℕ → Type 0
IsLineCount word n = IsNumberBelow 18446744073709551616 word n

-- the words of a change
abbrev pub IsChangeOf : List (List ℕ) → AskedChange → Type 0
IsChangeOf words (asked.Append frame first) =
    (first_word : List ℕ) × (count_word : List ℕ) × (count : ℕ) × (words ≡ codes "append" ∷ frame.now ∷ first_word ∷ count_word ∷ [])
    × IsRowNumber first_word first × IsLineCount count_word count
IsChangeOf words (asked.Delete frame numbers) =
    (number_words : List (List ℕ)) × (words ≡ codes "delete" ∷ frame.now ∷ number_words) × AllZip IsRowNumber number_words numbers
IsChangeOf words (asked.Replace frame numbers) =
    (number_words : List (List ℕ)) × (words ≡ codes "replace" ∷ frame.now ∷ number_words) × AllZip IsRowNumber number_words numbers
IsChangeOf words (asked.Register view) = words ≡ codes "register" ∷ view.now ∷ []
IsChangeOf words (asked.DropView view) = words ≡ codes "drop" ∷ view.now ∷ []

-- the words behind a view's name that say a part of its rows
abbrev pub IsPartOf : List (List ℕ) → Part → Type 0
IsPartOf words part.Whole = words ≡ []
IsPartOf words (part.First count) = (word : List ℕ) × (words ≡ word ∷ []) × IsLineCount word count
IsPartOf words (part.From first count) =
    (first_word : List ℕ) × (count_word : List ℕ) × (words ≡ codes "from" ∷ first_word ∷ count_word ∷ [])
    × IsLineCount first_word first × IsLineCount count_word count

-- the word behind the others that names a format
abbrev pub format_words : Format → List (List ℕ)
format_words format.Printed = []
format_words format.Csv = codes "csv" ∷ []
format_words format.Json = codes "json" ∷ []
format_words format.Html = codes "html" ∷ []

-- the words of a question
abbrev pub IsQuestionOf : List (List ℕ) → Question → Type 0
IsQuestionOf words question.Frames = words ≡ codes "frames" ∷ []
IsQuestionOf words (question.Schema name) = words ≡ codes "schema" ∷ name.now ∷ []
IsQuestionOf words (question.Plan view) = words ≡ codes "plan" ∷ view.now ∷ []
IsQuestionOf words (question.Show view part format) =
    (rest : List (List ℕ)) × (words ≡ codes "show" ∷ view.now ∷ (rest ++ format_words format)) × IsPartOf rest part
IsQuestionOf words (question.Rows frame format) = words ≡ codes "rows" ∷ frame.now ∷ format_words format
IsQuestionOf words (question.Books frame) = words ≡ codes "books" ∷ frame.now ∷ []
IsQuestionOf words question.Views = words ≡ codes "views" ∷ []
IsQuestionOf words question.Check = words ≡ codes "check" ∷ []
IsQuestionOf words question.Work = words ≡ codes "work" ∷ []
IsQuestionOf words question.Version = words ≡ codes "version" ∷ []

-- the first word of a command about what changes do to a view
abbrev pub watching_word : Watching → List ℕ
watching_word watching.Begin = codes "watch"
watching_word watching.End = codes "unwatch"
watching_word watching.Ask = codes "changes"

-- the words of a command
abbrev pub IsCommandOf : List (List ℕ) → Command → Type 0
IsCommandOf words (command.Change change) = IsChangeOf words change
IsCommandOf words (command.Question question) = IsQuestionOf words question
IsCommandOf words (command.AppendNext frame) = words ≡ codes "append" ∷ frame.now ∷ []
IsCommandOf words (command.Load frame path) = words ≡ codes "load" ∷ frame.now ∷ path.now ∷ []
IsCommandOf words (command.Export view path) = words ≡ codes "export" ∷ view.now ∷ path.now ∷ []
IsCommandOf words (command.Report path views) = words ≡ codes "report" ∷ path.now ∷ views
IsCommandOf words (command.Follow path views) = words ≡ codes "follow" ∷ path.now ∷ views
IsCommandOf words (command.Unfollow path) = words ≡ codes "unfollow" ∷ path.now ∷ []
IsCommandOf words (command.Define view source) =
    (word : List ℕ) × (rest : List (List ℕ)) × (words ≡ codes "define" ∷ view.now ∷ source.now ∷ word ∷ rest)
IsCommandOf words (command.Sql view) = words ≡ codes "sql" ∷ view.now ∷ []
IsCommandOf words (command.Watch asked view) = words ≡ watching_word asked ∷ view.now ∷ []
IsCommandOf words (command.Source path) = words ≡ codes "source" ∷ path.now ∷ []
IsCommandOf words command.Help = words ≡ codes "help" ∷ []
IsCommandOf words (command.HelpOn name) = words ≡ codes "help" ∷ name.now ∷ []
IsCommandOf words command.Quit = words ≡ codes "quit" ∷ []
