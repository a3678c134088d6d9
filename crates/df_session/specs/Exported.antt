-- Tables in files: how many rows a table as CSV (RFC 4180) has, by its bytes, and what is told of one that is written.
use Rattle.std.specs.Prelude.{◌≡◌, ⊤, ◌++◌, ◌==◌, ◌&&◌, ◌+◌, ◌-◌, ℕ, Bool, true, false, not, List, [], ◌∷◌, codes, decimal, if◌then◌else◌}
use Rattle.df_session.specs.Greetings.{plural_end}
use Rattle.df_session.specs.declared.refusal.Refusal.{Refusal}
use Rattle.df_session.specs.declared.refusal.Refusal.TheVariants as refusal
use Rattle.df_session.specs.declared.refusal.WriteFault.{WriteFault}

-- whether the bytes behind one stand in quotes; a quote in a field, which is doubled, closes them and opens them again
abbrev pub is_quoted_behind : Bool → ℕ → Bool
is_quoted_behind quoted b = if b == 34 then not quoted else quoted

-- one, where a byte ends a record: a line end outside quotes
abbrev pub ends_record : Bool → ℕ → ℕ
ends_record quoted b = if (b == 10) && not quoted then 1 else 0

abbrev pub record_ends_behind : Bool → List ℕ → ℕ
record_ends_behind quoted [] = 0
record_ends_behind quoted (b ∷ bs) = ends_record quoted b + record_ends_behind (is_quoted_behind quoted b) bs

-- how many records of a table end
abbrev pub record_ends : List ℕ → ℕ
record_ends table = record_ends_behind false table

-- how many rows a table has: its records but that of the names
abbrev pub row_count : List ℕ → ℕ
row_count table = record_ends table - 1

-- what is told of a table of so many rows that is written
abbrev pub exported_text : ℕ → List ℕ
exported_text rows = codes "ok " ++ (decimal rows ++ (codes " row" ++ (plural_end rows ++ codes "\n")))

-- A refusal to write a table: why its file is not written, or that memory was refused.
abbrev pub IsRefusalOfExport : Refusal → Type 0
IsRefusalOfExport (refusal.Write f) = ⊤
IsRefusalOfExport r = r ≡ refusal.Memory
