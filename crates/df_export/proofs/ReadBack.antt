-- The crate csv reads the fields of a table back, record by record.
use Rattle.std.proofs.Common.{◌≡◌, ◌==◌, ◌||◌, ◌++◌, ◌∷◌, ◌∙◌, [], ℕ, List, Bool, Some, refl, ap, subst, true, false, append_assoc, inl, inr, flat_map, map, arith}
use Rattle.std.proofs.lemmas.Bool.{cases_Bool}
use Rattle.std.proofs.lemmas.Bool.Decides.{nat_tests}
use Rattle.csv.specs.Machine.{next_record}
use Rattle.csv.specs.Reading.{default_config, records}
use Rattle.csv.specs.Writing.{default_writer, escaped, field_text, needs_byte, needs_quotes, quoted}
use Rattle.csv.specs.declared.parser.State.TheVariants as st
use Rattle.csv.proofs.RoundTrip.{after-quote-same, field-run, quoted-run, record-same, start-same}
use Rattle.df_csv.proofs.Fuel.{none_left, rows_more}
use Rattle.df_value.specs.declared.cell.Cell.{Cell}
use Rattle.df_value.specs.declared.cell.Cell.TheVariants as cell
use Rattle.df_value.specs.Schemas.{Columns}
use Rattle.df_export.specs.CsvTables.{csv_field, csv_line, csv_of, header_cells, is_blank, is_null, is_quoted, record_of, rest_of_line, table_records, text_field, unquoted}

or_left : (a b : Bool) → (a || b) ≡ false → a ≡ false
or_left false b e = refl
or_left true b e = cc e

or_right : (a b : Bool) → (a || b) ≡ false → b ≡ false
or_right false b e = e
or_right true b e = cc e

-- a text in quotes, with what comes behind it, which starts with no quote
quotes_run : (fields : List (List ℕ)) (x : List ℕ) (c : ℕ) (tail : List ℕ) → (c == 34) ≡ false →
    next_record default_config st.StartField fields [] (quoted default_writer x ++ (c ∷ tail)) ≡ next_record default_config st.InField fields x (c ∷ tail)
unfolding next_record
quotes_run fields x c tail n =
    let text : quoted default_writer x ++ (c ∷ tail) ≡ 34 ∷ (escaped default_writer x ++ (34 ∷ c ∷ tail)) =
    ap (λ (t : List ℕ). 34 ∷ t) (append_assoc (escaped default_writer x) (34 ∷ []) (c ∷ tail)) in
    ap (next_record default_config st.StartField fields []) text ∙ (quoted-run fields [] x (c ∷ tail) ∙ after-quote-same fields x c tail n)

-- a text, with what comes behind it
text_run : (fields : List (List ℕ)) (x : List ℕ) (c : ℕ) (tail : List ℕ) → (c == 34) ≡ false →
    next_record default_config st.StartField fields [] (text_field x ++ (c ∷ tail)) ≡ next_record default_config st.InField fields x (c ∷ tail)
text_run fields x c tail n = elim (cases_Bool (is_quoted x)) [
  | inl quotes ↦ rw quotes (quotes_run fields x c tail n)
  | inr plain ↦
      let none : needs_quotes default_writer x ≡ false = or_right _ _ plain in
      let same : field_text default_writer x ≡ x = rw none refl in
      rw plain (subst (λ (t : List ℕ). next_record default_config st.StartField fields [] (t ++ (c ∷ tail)) ≡ next_record default_config st.InField fields x (c ∷ tail)) same (field-run fields x c tail n))
]

-- the field of a cell
cell_run : (fields : List (List ℕ)) (v : Cell) (c : ℕ) (tail : List ℕ) → (c == 34) ≡ false →
    next_record default_config st.StartField fields [] (csv_field v ++ (c ∷ tail)) ≡ next_record default_config st.InField fields (unquoted v) (c ∷ tail)
cell_run fields cell.Null c tail n = start-same fields [] c tail n
cell_run fields (cell.Int x) c tail n = text_run fields (unquoted (cell.Int x)) c tail n
cell_run fields (cell.Wide x) c tail n = text_run fields (unquoted (cell.Wide x)) c tail n
cell_run fields (cell.Text x) c tail n = text_run fields x c tail n
cell_run fields (cell.Bool x) c tail n = text_run fields (unquoted (cell.Bool x)) c tail n
cell_run fields (cell.Frac x) c tail n = text_run fields (unquoted (cell.Frac x)) c tail n

-- what comes behind a field starts with no quote
abbrev head_of : List Cell → ℕ
head_of [] = 10
head_of (v ∷ vs) = 44

abbrev tail_of : List Cell → List ℕ → List ℕ
tail_of [] tail = tail
tail_of (v ∷ vs) tail = (csv_field v ++ rest_of_line vs) ++ (10 ∷ tail)

rest_head : (vs : List Cell) (tail : List ℕ) → rest_of_line vs ++ (10 ∷ tail) ≡ head_of vs ∷ tail_of vs tail
rest_head [] tail = refl
rest_head (v ∷ vs) tail = refl

head_plain : (vs : List Cell) → (head_of vs == 34) ≡ false
head_plain [] = refl
head_plain (v ∷ vs) = refl

end_field : (fields : List (List ℕ)) (x u : List ℕ) →
    next_record default_config st.InField fields x (44 ∷ u) ≡ next_record default_config st.StartField (fields ++ (x ∷ [])) [] u
unfolding next_record
end_field fields x u = refl

-- the rest of a line, behind a field
rest_run : (fields : List (List ℕ)) (x : List ℕ) (vs : List Cell) (tail : List ℕ) →
    next_record default_config st.InField fields x (rest_of_line vs ++ (10 ∷ tail)) ≡ Some (fields ++ (x ∷ map unquoted vs), st.StartRecord, tail)
unfolding next_record
rest_run fields x [] tail = refl
rest_run fields x (v ∷ vs) tail =
    let e = rest_head vs tail in
    let u : (csv_field v ++ rest_of_line vs) ++ (10 ∷ tail) ≡ csv_field v ++ (head_of vs ∷ tail_of vs tail) =
    append_assoc (csv_field v) (rest_of_line vs) (10 ∷ tail) ∙ ap (λ (t : List ℕ). csv_field v ++ t) e in
    let run = cell_run (fields ++ (x ∷ [])) v (head_of vs) (tail_of vs tail) (head_plain vs) in
    let more = rest_run (fields ++ (x ∷ [])) (unquoted v) vs tail in
    let back = subst (λ (t : List ℕ). next_record default_config st.InField (fields ++ (x ∷ [])) (unquoted v) t ≡ Some ((fields ++ (x ∷ [])) ++ (unquoted v ∷ map unquoted vs), st.StartRecord, tail)) e more in
    end_field fields x ((csv_field v ++ rest_of_line vs) ++ (10 ∷ tail)) ∙ (ap (next_record default_config st.StartField (fields ++ (x ∷ [])) []) u
    ∙ (run ∙ (back ∙ ap (λ (fs : List (List ℕ)). Some (fs, st.StartRecord, tail)) (append_assoc fields (x ∷ []) (unquoted v ∷ map unquoted vs)))))

-- a byte that calls for no quotes ends no record
plain_byte : (b : ℕ) → needs_byte default_writer b ≡ false → ((b == 13) ≡ false) × ((b == 10) ≡ false)
plain_byte b e = (grind (arith, nat_tests, e), grind (arith, nat_tests, e))

-- a line starts as its first field does
text_starts : (x : List ℕ) (c : ℕ) (tail : List ℕ) →
    next_record default_config st.StartRecord [] [] (text_field x ++ (c ∷ tail)) ≡ next_record default_config st.StartField [] [] (text_field x ++ (c ∷ tail))
text_starts [] c tail = record-same [] [] 34 _ refl refl
text_starts (b ∷ x) c tail = elim (cases_Bool (is_quoted (b ∷ x))) [
  | inl quotes ↦ rw quotes (record-same [] [] 34 _ refl refl)
  | inr plain ↦
      let byte = plain_byte b (or_left _ _ (or_right _ _ plain)) in
      rw plain (record-same [] [] b (x ++ (c ∷ tail)) byte.0 byte.1)
]

cell_starts : (v : Cell) (c : ℕ) (tail : List ℕ) → is_null v ≡ false →
    next_record default_config st.StartRecord [] [] (csv_field v ++ (c ∷ tail)) ≡ next_record default_config st.StartField [] [] (csv_field v ++ (c ∷ tail))
cell_starts cell.Null c tail n = cc
cell_starts (cell.Int x) c tail n = text_starts (unquoted (cell.Int x)) c tail
cell_starts (cell.Wide x) c tail n = text_starts (unquoted (cell.Wide x)) c tail
cell_starts (cell.Text x) c tail n = text_starts x c tail
cell_starts (cell.Bool x) c tail n = text_starts (unquoted (cell.Bool x)) c tail
cell_starts (cell.Frac x) c tail n = text_starts (unquoted (cell.Frac x)) c tail

row_starts : (v : Cell) (vs : List Cell) (tail : List ℕ) → is_blank (v ∷ vs) ≡ false →
    next_record default_config st.StartRecord [] [] (csv_field v ++ (head_of vs ∷ tail_of vs tail))
    ≡ next_record default_config st.StartField [] [] (csv_field v ++ (head_of vs ∷ tail_of vs tail))
row_starts v [] tail n = cell_starts v 10 tail n
row_starts v (w ∷ vs) tail n = elim (cases_Bool (is_null v)) [
  | inl null ↦ null_starts v null
  | inr other ↦ cell_starts v 44 (tail_of (w ∷ vs) tail) other
]
  where
    null_starts : (u : Cell) → is_null u ≡ true →
        next_record default_config st.StartRecord [] [] (csv_field u ++ (44 ∷ tail_of (w ∷ vs) tail))
        ≡ next_record default_config st.StartField [] [] (csv_field u ++ (44 ∷ tail_of (w ∷ vs) tail))
    null_starts cell.Null h = record-same [] [] 44 _ refl refl
    null_starts (cell.Int x) h = cc
    null_starts (cell.Wide x) h = cc
    null_starts (cell.Text x) h = cc
    null_starts (cell.Bool x) h = cc
    null_starts (cell.Frac x) h = cc

-- the line of a row
filled_run : (v : Cell) (vs : List Cell) (tail : List ℕ) → is_blank (v ∷ vs) ≡ false →
    next_record default_config st.StartRecord [] [] (csv_line (v ∷ vs) ++ tail) ≡ Some (unquoted v ∷ map unquoted vs, st.StartRecord, tail)
filled_run v vs tail n =
    let e = rest_head vs tail in
    let text : csv_line (v ∷ vs) ++ tail ≡ csv_field v ++ (rest_of_line vs ++ (10 ∷ tail)) =
    rw n (append_assoc (csv_field v ++ rest_of_line vs) (10 ∷ []) tail ∙ append_assoc (csv_field v) (rest_of_line vs) (10 ∷ tail)) in
    let whole = text ∙ ap (λ (t : List ℕ). csv_field v ++ t) e in
    let more = subst (λ (t : List ℕ). next_record default_config st.InField [] (unquoted v) t ≡ Some ([] ++ (unquoted v ∷ map unquoted vs), st.StartRecord, tail)) e (rest_run [] (unquoted v) vs tail) in
    ap (next_record default_config st.StartRecord [] []) whole
    ∙ (row_starts v vs tail n ∙ (cell_run [] v (head_of vs) (tail_of vs tail) (head_plain vs) ∙ more))

blank_run : (row : List Cell) (tail : List ℕ) → is_blank row ≡ true → next_record default_config st.StartRecord [] [] (csv_line row ++ tail) ≡ Some (record_of row, st.StartRecord, tail)
unfolding next_record escaped
blank_run [] tail h = refl
blank_run (cell.Null ∷ []) tail h = refl
blank_run (cell.Int x ∷ []) tail h = cc
blank_run (cell.Wide x ∷ []) tail h = cc
blank_run (cell.Text x ∷ []) tail h = cc
blank_run (cell.Bool x ∷ []) tail h = cc
blank_run (cell.Frac x ∷ []) tail h = cc
blank_run (v ∷ w ∷ vs) tail h = cc

line_run : (row : List Cell) (tail : List ℕ) → next_record default_config st.StartRecord [] [] (csv_line row ++ tail) ≡ Some (record_of row, st.StartRecord, tail)
line_run [] tail = blank_run [] tail refl
line_run (v ∷ vs) tail = elim (cases_Bool (is_blank (v ∷ vs))) [
  | inl blank ↦ blank_run (v ∷ vs) tail blank
  | inr filled ↦ filled_run v vs tail filled
]

lines_run : (rows : List (List Cell)) → records default_config (flat_map csv_line rows) ≡ map record_of rows
lines_run [] = none_left default_config 1
lines_run (row ∷ rows) =
    rows_more default_config st.StartRecord (csv_line row ++ flat_map csv_line rows) _ (line_run row (flat_map csv_line rows))
    ∙ ap (λ (rs : List (List (List ℕ))). record_of row ∷ rs) (lines_run rows)

-- what csv reads of a table is its names and the texts of its cells
pub table_run : (columns : Columns) (rows : List (List Cell)) → records default_config (csv_of columns rows) ≡ table_records columns rows
table_run columns rows = lines_run (header_cells columns ∷ rows)
