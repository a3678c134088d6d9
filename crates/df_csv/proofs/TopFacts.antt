-- From the bytes of a file to its records.
use Rattle.std.proofs.Common.{◌≡◌, ℕ, List, ◌∷◌, length, map, None, Err, refl}
use Rattle.std.specs.Str.{IsUtf8, is_utf8}
use Rattle.std.proofs.lemmas.Bool.{cases_Bool}
use Rattle.std.proofs.Common.{inl, inr}
use Rattle.std.proofs.lemmas.Str.{is_utf8-from_IsUtf8, IsUtf8-from_is_utf8}
use Rattle.csv.specs.Reading.{default_config, records, strip_bom}
use Rattle.df_csv.specs.Records.{FieldRows, checked_records, records_of, records_under_header}
use Rattle.df_csv.specs.Header.{header_fault, header_index, without_marks}
use Rattle.df_csv.specs.Segments.{IsHeaderLayout}
use Rattle.df_value.specs.declared.cell.CellType.{CellType}
use Rattle.df_csv.specs.declared.fault.CsvFault.TheVariants.{NotText}
use Rattle.df_csv.specs.declared.layout.Layout.{Layout}
use Rattle.df_csv.proofs.HeaderFacts.{strip_none}

pub no_text : (bytes : List ℕ) (columns : List (List ℕ × CellType)) → ¬ (IsUtf8 (without_marks bytes)) → records_of bytes columns ≡ Err NotText
no_text bytes columns bad = elim (cases_Bool (is_utf8 (without_marks bytes))) [
  | inl is ↦ absurd (bad (IsUtf8-from_is_utf8 (without_marks bytes) is))
  | inr isnt ↦ rw isnt refl
]

pub text_unmarked : (bytes text : List ℕ) → text ≡ without_marks bytes → strip_bom text ≡ text
text_unmarked bytes text e = rw e (strip_none bytes)

-- what a text without marks says
pub text_says : (bytes text : List ℕ) (columns : List (List ℕ × CellType)) → text ≡ without_marks bytes → IsUtf8 text → records_of bytes columns ≡ records_under_header columns (records default_config text)
text_says bytes text columns e utf8 = let is = is_utf8-from_IsUtf8 text utf8 in rw (← e, is) refl

-- what a header without a fault says
pub header_lays : (columns : List (List ℕ × CellType)) (names header : List (List ℕ)) (layout : Layout) → header ≡ names → header_fault columns header ≡ None
    → layout.indices.items ≡ map (λ c. header_index header c.0) columns → layout.width ≡ length names → IsHeaderLayout columns names layout
header_lays columns names header layout e sound indices width = record {
  width = width;
  says = λ rows. let none = rw e at sound in let places = rw e at indices in rw (none, width, places) refl;
}

pub under_header : (columns : List (List ℕ × CellType)) (names : List (List ℕ)) (rest rows : FieldRows) (layout : Layout) → rows ≡ names ∷ rest → IsHeaderLayout columns names layout
    → records_under_header columns rows ≡ checked_records layout.width layout.indices.items 1 rest
under_header columns names rest rows layout e lays = rw e (lays.says rest)
