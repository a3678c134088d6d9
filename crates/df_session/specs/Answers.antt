-- What the answer to a command says: of a change, that the store made it; of a question, what the store answers.
use Rattle.std.specs.Prelude.{◌≡◌, ◌⊎◌, ⊤, ℕ, List, [], Option, Some, None, Result, Ok, Err, codes}
use Rattle.csv.specs.Records.{Row, fields_of}
use Rattle.std.specs.Global.{Vec}
use Rattle.std.specs.Option.{IsSome}
use Rattle.df_plan.specs.CheckedParts.{CheckedParts}
use Rattle.df_session.specs.Defined.{IsDefined, IsRefusalOfDefine}
use Rattle.df_state.specs.declared.change.Change.{Change}
use Rattle.df_session.specs.Commands.{IsCommandOf}
use Rattle.df_session.specs.Asked.{IsAppended, IsMadeAsAsked, IsRefusalOfAppendNext, IsRefusalOfAsked, frame_index_of, plan_named}
use Rattle.df_session.specs.Help.{help_list, help_on}
use Rattle.df_session.specs.declared.answering.Answer.{Answer}
use Rattle.df_session.specs.declared.answering.Answer.TheVariants as answer
use Rattle.df_session.specs.declared.command.Command.{Command}
use Rattle.df_session.specs.declared.command.Command.TheVariants as command
use Rattle.df_session.specs.declared.command.Format.TheVariants as format
use Rattle.df_session.specs.declared.command.Part.TheVariants as part
use Rattle.df_session.specs.declared.command.Question.{Question}
use Rattle.df_session.specs.declared.command.Question.TheVariants as question
use Rattle.df_session.specs.declared.definitions.Definitions.{Definitions}
use Rattle.df_session.specs.declared.refusal.Mistake.TheVariants as mistake
use Rattle.df_session.specs.declared.refusal.Refusal.{Refusal}
use Rattle.df_session.specs.declared.refusal.Refusal.TheVariants as refusal

-- the text of an answer
abbrev pub answer_text : Answer → List ℕ
answer_text answer.Accepted = codes "ok\n"
answer_text (answer.Told text) = text.items
answer_text (answer.Load frame path) = []
answer_text (answer.Export path table) = []
answer_text (answer.Report path views) = []
answer_text (answer.Follow path views) = []
answer_text (answer.Unfollow path) = []
answer_text (answer.Watch asked view) = []
answer_text (answer.Source path) = []
answer_text answer.Ended = []

-- What may be wrong with words that are read as a command.
abbrev pub IsWordFault : Refusal → Type 0
IsWordFault (refusal.Mistake m) = ⊤
IsWordFault refusal.Memory = ⊤
IsWordFault r = ⊥

-- A refusal to tell of a command: there is none of the name, or memory was refused.
abbrev pub IsRefusalOfHelp : Option (List ℕ) → Refusal → Type 0
IsRefusalOfHelp want r = (r ≡ refusal.Memory) ⊎ ((r ≡ refusal.Mistake mistake.NoCommand) × (want ≡ None))

-- A refusal to write a view as SQL: there is none of the name, or memory was refused.
abbrev pub IsRefusalOfSql : Option CheckedParts → Refusal → Type 0
IsRefusalOfSql None r = r ≡ refusal.Mistake mistake.NoView
IsRefusalOfSql (Some plan) r = r ≡ refusal.Memory

-- What is answered with a table for the file under a path, by what a store keeps and by its answer to the question for the table.
-- Memory may be refused before the question.
abbrev pub IsTableFor : Type 0 → (Result (Vec ℕ) Refusal → Type 0) → List ℕ → Result Answer Refusal → Type 0
IsTableFor Keeps Answered path (Ok (answer.Export file table)) = (file ≡ path) × Answered (Ok table)
IsTableFor Keeps Answered path (Err r) = ((r ≡ refusal.Memory) × Keeps) ⊎ Answered (Err r)
IsTableFor Keeps Answered path result = ⊥

-- only a view that was defined alters the definitions
abbrev pub LeavesDefinitions : Definitions → Definitions → Command → Result Answer Refusal → Type 0
LeavesDefinitions d after (command.Define view source) (Ok a) = ⊤
LeavesDefinitions d after c result = after ≡ d

-- whether no lines follow a command
abbrev pub IsAlone : Command → Type 0
IsAlone (command.Change change) = ⊥
IsAlone (command.AppendNext frame) = ⊥
IsAlone (command.Define view source) = ⊥
IsAlone c = ⊤

-- whether a session has nothing to do behind the answer to a command, or ends
abbrev pub IsAtOnce : Command → Type 0
IsAtOnce (command.Question question) = ⊤
IsAtOnce (command.Sql view) = ⊤
IsAtOnce command.Help = ⊤
IsAtOnce (command.HelpOn name) = ⊤
IsAtOnce command.Quit = ⊤
IsAtOnce c = ⊥

-- by what a store keeps where it makes no change, and answers, and the commands that are told
module _ (Keeps : Type 0) (Answers : Question → Result (Vec ℕ) Refusal → Type 0) (commands : List (List ℕ × List ℕ × List ℕ)) where
  -- The answer to a command that no lines follow: the question is answered, or it is refused. The store stays.
  abbrev pub IsAnswerAlone : Definitions → Command → Result Answer Refusal → Type 0
  IsAnswerAlone d (command.Question q) (Ok (answer.Told text)) = Answers q (Ok text)
  IsAnswerAlone d (command.Question q) (Err r) = Answers q (Err r)
  IsAnswerAlone d (command.Load frame path) (Ok (answer.Load f p)) = (f ≡ frame.now) × (p ≡ path.now) × Keeps
  IsAnswerAlone d (command.Load frame path) (Err r) = (r ≡ refusal.Memory) × Keeps
  IsAnswerAlone d (command.Export view path) result = IsTableFor Keeps (Answers (question.Show view part.Whole format.Csv)) path.now result
  IsAnswerAlone d (command.Report path views) (Ok (answer.Report file vs)) = (file ≡ path.now) × (vs ≡ views) × Keeps
  IsAnswerAlone d (command.Report path views) (Err r) = (r ≡ refusal.Memory) × Keeps
  IsAnswerAlone d (command.Follow path views) (Ok (answer.Follow file vs)) = (file ≡ path.now) × (vs ≡ views) × Keeps
  IsAnswerAlone d (command.Follow path views) (Err r) = (r ≡ refusal.Memory) × Keeps
  IsAnswerAlone d (command.Unfollow path) (Ok (answer.Unfollow file)) = (file ≡ path.now) × Keeps
  IsAnswerAlone d (command.Unfollow path) (Err r) = (r ≡ refusal.Memory) × Keeps
  IsAnswerAlone d (command.Sql view) (Ok (answer.Told text)) = IsSome (plan_named d view.now) × Keeps
  IsAnswerAlone d (command.Sql view) (Err r) = IsRefusalOfSql (plan_named d view.now) r × Keeps
  IsAnswerAlone d (command.Watch asked view) (Ok (answer.Watch a v)) = (a ≡ asked) × (v ≡ view.now) × Keeps
  IsAnswerAlone d (command.Watch asked view) (Err r) = (r ≡ refusal.Memory) × Keeps
  IsAnswerAlone d (command.Source path) (Ok (answer.Source file)) = (file ≡ path.now) × Keeps
  IsAnswerAlone d (command.Source path) (Err r) = (r ≡ refusal.Memory) × Keeps
  IsAnswerAlone d command.Help (Ok (answer.Told text)) = (text.items ≡ help_list commands) × Keeps
  IsAnswerAlone d command.Help (Err r) = (r ≡ refusal.Memory) × Keeps
  IsAnswerAlone d (command.HelpOn name) (Ok (answer.Told text)) = (help_on name.now commands ≡ Some text.items) × Keeps
  IsAnswerAlone d (command.HelpOn name) (Err r) = IsRefusalOfHelp (help_on name.now commands) r × Keeps
  IsAnswerAlone d command.Quit (Ok answer.Ended) = Keeps
  IsAnswerAlone d c result = ⊥

-- by what a store makes, refuses, keeps where it makes no change, and answers, the numbers that it has for further rows, and the
-- commands that are told
module _
    (Makes : Change → Type 0)
    (Refuses : Change → Refusal → Type 0)
    (Keeps : Type 0)
    (Answers : Question → Result (Vec ℕ) Refusal → Type 0)
    (Next : ℕ → ℕ → Type 0)
    (commands : List (List ℕ × List ℕ × List ℕ))
  where
    -- The answer to a command, with the lines that were read for it, or its steps: the change that it asks for was made, or the
    -- question is answered; else it is refused. Only a change that was made alters the store. The definitions before and after the
    -- answer come first.
    abbrev pub IsAnswer : Definitions → Definitions → Command → Result (Vec ℕ) Refusal → Result Answer Refusal → Type 0
    IsAnswer d after (command.Change change) lines (Ok answer.Accepted) = IsMadeAsAsked Makes d change lines
    IsAnswer d after (command.Change change) lines (Err r) = IsRefusalOfAsked Refuses d change lines r × Keeps
    IsAnswer d after (command.Change change) lines result = ⊥
    IsAnswer d after (command.AppendNext frame) lines (Ok (answer.Told text)) = IsAppended Makes Next d (frame_index_of d frame.now) lines text
    IsAnswer d after (command.AppendNext frame) lines (Err r) =
        IsRefusalOfAppendNext Refuses d (frame_index_of d frame.now) lines r × Keeps
    IsAnswer d after (command.AppendNext frame) lines result = ⊥
    IsAnswer d after (command.Define view source) steps (Ok answer.Accepted) = IsDefined Makes d after view.now source.now steps
    IsAnswer d after (command.Define view source) steps (Err r) = IsRefusalOfDefine Refuses d view.now source.now steps r × Keeps
    IsAnswer d after (command.Define view source) lines result = ⊥
    IsAnswer d after c lines result = IsAnswerAlone Keeps Answers commands d c result

    -- what is answered to the command that words say
    abbrev pub IsAnswerToCommand : Definitions → Definitions → List (List ℕ) → Result (Vec ℕ) Refusal → Result Answer Refusal → Type 0
    IsAnswerToCommand d after words lines result =
        (c : Command) × IsCommandOf words c × IsAnswer d after c lines result × LeavesDefinitions d after c result

    -- the answer to words: that to the command that they say, or what is wrong with them
    abbrev pub IsAnswerToWords : Definitions → Definitions → List (List ℕ) → Result (Vec ℕ) Refusal → Result Answer Refusal → Type 0
    IsAnswerToWords d after words lines (Ok answer) = IsAnswerToCommand d after words lines (Ok answer)
    IsAnswerToWords d after words lines (Err r) =
        (IsWordFault r × Keeps × (after ≡ d)) ⊎ IsAnswerToCommand d after words lines (Err r)

    -- The answer to the words of a line. Words that were not read are refused for that.
    abbrev pub IsAnswerToLine : Definitions → Definitions → Result Row Refusal → Result (Vec ℕ) Refusal → Result Answer Refusal → Type 0
    IsAnswerToLine d after (Ok words) lines result = IsAnswerToWords d after (fields_of words) lines result
    IsAnswerToLine d after (Err f) lines result = (result ≡ Err f) × Keeps × (after ≡ d)
