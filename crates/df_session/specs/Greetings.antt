-- The first line of a session at a terminal.
use Rattle.std.specs.Prelude.{◌++◌, ◌==◌, ℕ, List, [], codes, decimal, length, if◌then◌else◌}
use Rattle.df_session.specs.declared.definitions.Definitions.{Definitions}

-- what a count of other than one thing ends its noun with
abbrev pub plural_end : ℕ → List ℕ
plural_end count = if count == 1 then [] else codes "s"

abbrev pub counted : ℕ → ℕ → List ℕ
counted frames views =
    decimal frames ++ (codes " frame" ++ (plural_end frames ++ (codes ", " ++ (decimal views ++ (codes " view" ++ plural_end views)))))

-- how many frames and views a document has
abbrev pub counts_text : Definitions → List ℕ
counts_text d = counted (length d.document.frames) (length d.document.views)

abbrev pub greeting_text : Definitions → List ℕ
greeting_text d = counts_text d ++ codes "; help lists the commands, quit ends\n"
