-- What is written of a command that is refused.
use Rattle.std.specs.Prelude.{◌++◌, ◌⊎◌, ℕ, Bool, List, Option, codes}
use Rattle.std.specs.Io.KnownBytes.{Appends}
use Rattle.df_session.specs.Codes.{code_of}
use Rattle.df_session.specs.Framed.{answer_written}
use Rattle.df_session.specs.Texts.{text_of}
use Rattle.df_session.specs.declared.refusal.Refusal.{Refusal}

-- a line that says why, in a frame behind its code
abbrev pub refused_written : Bool → List ℕ → List ℕ → List ℕ
refused_written framed code text = answer_written framed (codes "error ") (codes " " ++ code) (text ++ codes "\n")

-- The text of the refusal is written, at the frame, the view or the file of this name; or, where there is no memory for it, that.
abbrev pub IsRefusalWritten : Bool → List ℕ → Refusal → Option (List ℕ) → Option (List ℕ) → Type 0
IsRefusalWritten framed name r old new =
    Appends old new (refused_written framed (code_of r) (text_of name r)) ⊎ Appends old new (refused_written framed (codes "memory") (codes "memory"))
