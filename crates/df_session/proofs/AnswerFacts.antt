-- The answers to words.
use Rattle.std.proofs.Common.{ℕ, List, Result, Ok, Err, inr}
use Rattle.std.specs.Global.{Vec}
use Rattle.df_state.specs.declared.change.Change.{Change}
use Rattle.df_session.specs.Answers.{IsAnswer, IsAnswerToWords, LeavesDefinitions}
use Rattle.df_session.specs.Commands.{IsCommandOf}
use Rattle.df_session.specs.declared.answering.Answer.{Answer}
use Rattle.df_session.specs.declared.command.Command.{Command}
use Rattle.df_session.specs.declared.command.Question.{Question}
use Rattle.df_session.specs.declared.definitions.Definitions.{Definitions}
use Rattle.df_session.specs.declared.refusal.Refusal.{Refusal}

module _
    (Makes : Change → Type 0)
    (Refuses : Change → Refusal → Type 0)
    (Keeps : Type 0)
    (Answers : Question → Result (Vec ℕ) Refusal → Type 0)
    (Next : ℕ → ℕ → Type 0)
    (commands : List (List ℕ × List ℕ × List ℕ))
  where
    -- words are answered as the command that they say
    pub answered :
        (d after : Definitions) (words : List (List ℕ)) (lines : Result (Vec ℕ) Refusal) (result : Result Answer Refusal) (c : Command)
        → IsCommandOf words c → IsAnswer Makes Refuses Keeps Answers Next commands d after c lines result → LeavesDefinitions d after c result
        → IsAnswerToWords Makes Refuses Keeps Answers Next commands d after words lines result
    answered d after words lines (Ok a) c said is left = (c, said, is, left)
    answered d after words lines (Err r) c said is left = inr (c, said, is, left)
