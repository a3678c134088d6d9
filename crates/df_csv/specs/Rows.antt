-- The records that a reader of CSV has left.
use Rattle.std.specs.Prelude.{◌≡◌, ◌+◌, ℕ, true, List, [], ◌∷◌, length, Option, Some, None, IsSome, ⊤}
use Rattle.csv.specs.Reading.{Ready, default_config, is_flexible, reader_config, reader_state, reader_trim, records_from, source_of}
use Rattle.csv.specs.declared.parser.State.{State}
use Rattle.csv.specs.declared.reader.Reader.{Reader}
use Rattle.csv.specs.declared.reader.Trim.TheVariants as trim
use Rattle.df_csv.specs.declared.rows.NextRow.{NextRow}
use Rattle.df_csv.specs.declared.rows.NextRow.TheVariants.{Row, End, Memory}

abbrev pub records_at : State → Option (List ℕ) → List (List (List ℕ))
records_at s None = []
records_at s (Some xs) = records_from default_config (length xs + 1) s xs

-- the records still to come, of a reader whose bytes are known
abbrev pub rows_left : {R : Type 0} → (R → Option (List ℕ)) → Reader R → List (List (List ℕ))
rows_left rem r = records_at (reader_state r) (source_of rem r)

-- a reader as it is made here, between two records, which takes records of any length
abbrev pub IsPlain : {R : Type 0} → (R → Option (List ℕ)) → Reader R → Type 0
IsPlain rem r = (reader_trim r ≡ trim.None) × Ready r × (reader_config r ≡ default_config) × (is_flexible r ≡ true) × IsSome (source_of rem r)

-- what taking one record gives: the record, or that there is none
abbrev pub IsNextRow : {R : Type 0} → (R → Option (List ℕ)) → Reader R → Reader R → List (List ℕ) → NextRow → Type 0
IsNextRow rem a b fields Row = IsPlain rem b × (rows_left rem a ≡ fields ∷ rows_left rem b)
IsNextRow rem a b fields End = rows_left rem a ≡ []
IsNextRow rem a b fields Memory = ⊤
