-- What is told, whatever store has the frames and views: the numbers of rows, books, names and the verdict of a check; and
-- the refusals where a text is wanted.
use Rattle.std.specs.Prelude.{◌≡◌, ◌++◌, ◌+◌, ℕ, zero, suc, List, Option, Some, None, Result, MatchResult, codes, decimal, flat_map}
use Rattle.std.specs.Global.{Vec}
use Rattle.df_state.specs.declared.fault.CatalogueFault.TheVariants as fault
use Rattle.df_print.specs.Printed.{escaped_text}
use Rattle.df_session.specs.declared.refusal.Refusal.{Refusal}
use Rattle.df_session.specs.declared.refusal.Refusal.TheVariants as refusal

-- what is answered to so many rows that were accepted from a number on: the first number and the last
abbrev pub numbers_told : ℕ → ℕ → List ℕ
numbers_told first zero = codes "ok\n"
numbers_told first (suc n) = codes "ok " ++ (decimal first ++ (codes ".." ++ (decimal (first + n) ++ codes "\n")))

-- the line of the numbers of a frame's rows
abbrev pub numbers_line : List ℕ → List ℕ
numbers_line numbers = codes "numbers" ++ (flat_map (λ n. codes " " ++ decimal n) numbers ++ codes "\n")

-- a frame's books: how many rows it accepted, how many of them were deleted, and how many it has
abbrev pub books_line : ℕ → ℕ → ℕ → List ℕ
books_line accepted deleted live =
    codes "accepted " ++ (decimal accepted ++ (codes ", deleted " ++ (decimal deleted ++ (codes ", live " ++ (decimal live ++ codes "\n")))))

-- names, a line each
abbrev pub names_text : List (List ℕ) → List ℕ
names_text names = flat_map (λ name. escaped_text name ++ codes "\n") names

-- what the check says, where this is the first view that differs
abbrev pub check_text : Option (List ℕ) → List ℕ
check_text None = codes "same\n"
check_text (Some name) = codes "differs " ++ (escaped_text name ++ codes "\n")

-- that memory was refused
abbrev pub IsMemory : Refusal → Type 0
IsMemory (refusal.Store f) = f ≡ fault.Memory
IsMemory r = r ≡ refusal.Memory

-- A refusal where this text is wanted: this one where there is no text, else that memory was refused.
abbrev pub IsRefusalOfWanted : Option (List ℕ) → Refusal → Refusal → Type 0
IsRefusalOfWanted None f r = r ≡ f
IsRefusalOfWanted (Some text) f r = IsMemory r

-- The answer is the text that is wanted, or it is refused.
abbrev pub IsTold : Option (List ℕ) → Refusal → Result (Vec ℕ) Refusal → Type 0
IsTold want f result = MatchResult result (λ text. want ≡ Some text.items) (IsRefusalOfWanted want f)
