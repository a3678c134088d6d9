-- Answers in frames, as a program reads them through a pipe: a line with a word and a number, and behind it so many lines. Behind the
-- number of a refusal stands its code, and what it is about.
use Rattle.std.specs.Prelude.{◌++◌, ◌==◌, ℕ, zero, suc, Bool, List, [], ◌∷◌, Option, Some, None, codes, decimal, option_map, if◌then◌else◌}
use Rattle.std.specs.List.{count_by}
use Rattle.df_session.specs.declared.writing.Status.{Status}
use Rattle.df_session.specs.declared.writing.Status.TheVariants as status

-- how many lines of a text have an end
abbrev pub line_ends : List ℕ → ℕ
line_ends text = count_by (λ b. b == 10) text

abbrev pub status_word : Status → List ℕ
status_word status.Ready = codes "ready "
status_word status.Ok = codes "ok "
status_word (status.Error code) = codes "error "

-- what stands behind the number
abbrev pub status_tail : Status → List ℕ
status_tail (status.Error code) = codes " " ++ code.now
status_tail s = []

-- the line before an answer of so many lines, with this behind their number
abbrev pub frame_head : List ℕ → List ℕ → ℕ → List ℕ
frame_head word tail lines = word ++ (decimal lines ++ (tail ++ codes "\n"))

-- an answer in a frame
abbrev pub frame_of : List ℕ → List ℕ → List ℕ → List ℕ
frame_of word tail text = frame_head word tail (line_ends text) ++ text

-- what is written of an answer
abbrev pub answer_written : Bool → List ℕ → List ℕ → List ℕ → List ℕ
answer_written framed word tail text = if framed then frame_of word tail text else text

-- a byte before the first of two parts
abbrev pub with_byte : ℕ → List ℕ × List ℕ → List ℕ × List ℕ
with_byte b parts = (b ∷ parts.0, parts.1)

-- so many lines with their ends, and what follows them
abbrev pub lines_and_rest : ℕ → List ℕ → Option (List ℕ × List ℕ)
lines_and_rest zero text = Some ([], text)
lines_and_rest (suc n) [] = None
lines_and_rest (suc n) (b ∷ bs) = option_map (with_byte b) (if b == 10 then lines_and_rest n bs else lines_and_rest (suc n) bs)

-- whether each line of a text has an end, where the byte before it is this one
abbrev pub ends_lines_behind : ℕ → List ℕ → Bool
ends_lines_behind last [] = last == 10
ends_lines_behind last (b ∷ bs) = ends_lines_behind b bs

-- whether each line of a text has an end
abbrev pub ends_lines : List ℕ → Bool
ends_lines text = ends_lines_behind 10 text
