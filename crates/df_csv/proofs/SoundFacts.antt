-- Records that a text has are few enough, and each has a field for each column.
use Rattle.std.proofs.Common.{◌≡◌, ◌+◌, ◌≤◌, ℕ, List, [], ◌∷◌, length, map, Option, Some, None, Result, Ok, Err, refl, arith, inl, inr, subst, nat_eq, nat_lt}
use Rattle.std.specs.Prelude.{All, IfOk, unwrap_or}
use Rattle.csv.specs.Records.{field_at}
use Rattle.std.specs.Str.{is_utf8}
use Rattle.std.proofs.lemmas.Bool.{cases_Bool}
use Rattle.std.proofs.lemmas.Bool.Decides.{nat_tests}
use Rattle.std.proofs.lemmas.List.{length-map}
use Rattle.std.proofs.lemmas.List.Elements.{All-cons, All-nil}
use Rattle.csv.specs.Reading.{default_config, records}
use Rattle.df_value.specs.declared.cell.CellType.{CellType}
use Rattle.df_csv.specs.declared.fault.CsvFault.{CsvFault}
use Rattle.df_csv.specs.Header.{header_fault, header_index, without_marks}
use Rattle.df_csv.specs.Records.{Gives, IsRecords, FieldRows, after_rows, unless_bad_header, fields_at, records_of, checked_records, records_under_header}

abbrev Sound : ℕ → ℕ → FieldRows → Type 0
Sound k n xs = (length xs + n ≤ 1048577) × All (λ r. length r ≡ k) xs

ok_same : (xs ys : FieldRows) (a b : Result FieldRows CsvFault) → a ≡ b → a ≡ Ok xs → b ≡ Ok ys → xs ≡ ys
ok_same xs ys a b e h k = cc

put_first : (ps : List ℕ) (n : ℕ) (r : List (List ℕ)) (xs : FieldRows) (o : Result FieldRows CsvFault) → ((ys : FieldRows) → o ≡ Ok ys → Sound (length ps) (n + 1) ys)
    → after_rows (fields_at ps r ∷ []) o ≡ Ok xs → Sound (length ps) n xs
put_first ps n r xs (Err x) h e = cc
put_first ps n r xs (Ok ys) h e =
    let (few, even) = h ys refl in
    subst (Sound (length ps) n) (ok_same _ _ _ _ e refl refl) (omega arith, All-cons (λ (q : List (List ℕ)). length q ≡ length ps) (fields_at ps r) ys (length-map ps (λ i. unwrap_or (field_at r i) [])) even)

sound_rows : (w : ℕ) (ps : List ℕ) (n : ℕ) (rows xs : FieldRows) → n ≤ 1048577 → checked_records w ps n rows ≡ Ok xs → Sound (length ps) n xs
unfolding checked_records
sound_rows w ps n [] xs b e = subst (Sound (length ps) n) (ok_same _ _ _ _ e refl refl) (omega arith, All-nil (λ (q : List (List ℕ)). length q ≡ length ps))
sound_rows w ps n (r ∷ rs) xs b e = elim (cases_Bool (nat_eq (length r) w)) [
  | inr isnt ↦ let q = rw isnt at e in cc
  | inl is ↦ elim (cases_Bool (nat_lt 1048576 n)) [
    | inl many ↦ let q = rw (is, many) at e in cc
    | inr few ↦ put_first ps n r xs (checked_records w ps (n + 1) rs) (λ ys. sound_rows w ps (n + 1) rs ys (grind (arith, nat_tests))) (rw (is, few) at e)
  ]
]

sound_table : (columns : List (List ℕ × CellType)) (all xs : FieldRows) (o : Option CsvFault) (w : ℕ) (ps : List ℕ) (rows : FieldRows) → length ps ≡ length columns
    → unless_bad_header o (checked_records w ps 1 rows) ≡ Ok xs → IsRecords (length columns) xs
sound_table columns all xs (Some x) w ps rows len e = cc
sound_table columns all xs None w ps rows len e =
    let (few, even) = sound_rows w ps 1 rows xs (omega arith) e in
    record { few = omega arith; even = rw len at even }

sound_top : (columns : List (List ℕ × CellType)) (all xs : FieldRows) → records_under_header columns all ≡ Ok xs → IsRecords (length columns) xs
sound_top columns [] xs e = none (header_fault columns []) e
  where
    none : (o : Option CsvFault) → unless_bad_header o (Ok []) ≡ Ok xs → IsRecords (length columns) xs
    none (Some x) e = cc
    none None e = subst (λ r. IsRecords (length columns) r) (ok_same _ _ _ _ e refl refl) (record { few = omega arith; even = All-nil (λ (q : List (List ℕ)). length q ≡ length columns) })
sound_top columns (h ∷ rows) xs e =
    sound_table columns (h ∷ rows) xs (header_fault columns h) (length h) (map (λ c. header_index h c.0) columns) rows (length-map columns (λ (c : List ℕ × CellType). header_index h c.0)) e

sound_of : (bytes : List ℕ) (columns : List (List ℕ × CellType)) (xs : FieldRows) → records_of bytes columns ≡ Ok xs → IsRecords (length columns) xs
sound_of bytes columns xs e = elim (cases_Bool (is_utf8 (without_marks bytes))) [
  | inl is ↦ sound_top columns (records default_config (without_marks bytes)) xs (rw is at e)
  | inr isnt ↦ let q = rw isnt at e in cc
]

-- so are the records that an answer gives
pub sound_result : (bytes : List ℕ) (columns : List (List ℕ × CellType)) (r : Result FieldRows CsvFault) → Gives r (records_of bytes columns) → IfOk r (λ rows. IsRecords (length columns) rows)
sound_result bytes columns (Ok rows) h = sound_of bytes columns rows h
sound_result bytes columns (Err e) h = tt
