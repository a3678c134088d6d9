-- The rows of a text from those of its segments.
use Rattle.std.proofs.Common.{◌≡◌, ◌+◌, ◌<◌, ◌≤◌, ℕ, suc, true, false, List, [], ◌∷◌, ◌++◌, length, map, Option, Some, None, Result, Ok, Err, refl, sym, ap, arith, inl, inr, subst, nat_eq, nat_lt, eq-eqb, ◌∙◌, Bor}
use Rattle.std.specs.Prelude.{All, IfOk, IfSome, flat_map, slice_index_or}
use Rattle.std.proofs.lemmas.Bool.{cases_Bool}
use Rattle.std.proofs.lemmas.Bool.Decides.{nat_tests}
use Rattle.std.proofs.lemmas.List.{get_or-map, length-map, map-append}
use Rattle.std.proofs.lemmas.List.Elements.{All-append, All-cons, All-head, All-nil, All-tail}
use Rattle.csv.specs.Reading.{default_config, records}
use Rattle.df_value.specs.declared.cell.CellType.{CellType}
use Rattle.df_csv.specs.declared.fault.CsvFault.{CsvFault}
use Rattle.df_csv.specs.declared.layout.Layout.{Layout}
use Rattle.df_csv.specs.Records.{FieldRows, after_rows, checked_records, fields_at, records_of_parts, records_under_header}
use Rattle.df_csv.specs.Segments.{ArePicked, AreRead, IsLayoutOf, rows_of_segment}

ok_same : (xs ys : FieldRows) → ◌≡◌ {A = Result FieldRows CsvFault} (Ok xs) (Ok ys) → xs ≡ ys
ok_same xs ys e = cc

none_picked : (w : ℕ) (ps : List ℕ) → ArePicked w ps [] []
none_picked w ps = record { even = All-nil (λ (r : List (List ℕ)). length r ≡ w); picks = refl }

one_picked : (w : ℕ) (ps : List ℕ) (r : List (List ℕ)) (rs ys : FieldRows) → length r ≡ w → ArePicked w ps rs ys → ArePicked w ps (r ∷ rs) (fields_at ps r ∷ ys)
one_picked w ps r rs ys width h = record {
  even = All-cons (λ (q : List (List ℕ)). length q ≡ w) r rs width h.even;
  picks = ap (λ (t : FieldRows). fields_at ps r ∷ t) h.picks;
}

put_first : (w : ℕ) (ps : List ℕ) (r : List (List ℕ)) (rs xs : FieldRows) (o : Result FieldRows CsvFault) → length r ≡ w
    → ((ys : FieldRows) → o ≡ Ok ys → ArePicked w ps rs ys) → after_rows (fields_at ps r ∷ []) o ≡ Ok xs → ArePicked w ps (r ∷ rs) xs
put_first w ps r rs xs (Err x) width h e = cc
put_first w ps r rs xs (Ok ys) width h e =
    subst (ArePicked w ps (r ∷ rs)) (ok_same (fields_at ps r ∷ ys) xs e) (one_picked w ps r rs ys width (h ys refl))

-- records without a fault are of one width, and are picked from
pub picked : (w : ℕ) (ps : List ℕ) (n : ℕ) (rows xs : FieldRows) → checked_records w ps n rows ≡ Ok xs → ArePicked w ps rows xs
unfolding checked_records
picked w ps n [] xs e = subst (ArePicked w ps []) (ok_same [] xs e) (none_picked w ps)
picked w ps n (r ∷ rs) xs e = elim (cases_Bool (nat_eq (length r) w)) [
  | inr isnt ↦ let q = rw isnt at e in cc
  | inl is ↦ elim (cases_Bool (nat_lt 1048576 n)) [
    | inl many ↦ let q = rw (is, many) at e in cc
    | inr few ↦ put_first w ps r rs xs (checked_records w ps (n + 1) rs) (grind (arith, nat_tests)) (λ ys. picked w ps (n + 1) rs ys) (rw (is, few) at e)
  ]
]

all_checked : (w : ℕ) (ps : List ℕ) (n : ℕ) (rows : FieldRows) → All (λ r. length r ≡ w) rows → n + length rows ≤ 1048577
    → checked_records w ps n rows ≡ Ok (map (fields_at ps) rows)
unfolding checked_records
all_checked w ps n [] even few = refl
all_checked w ps n (r ∷ rs) even few =
    let t : nat_eq (length r) w ≡ true = eq-eqb (length r) w (All-head (λ (q : List (List ℕ)). length q ≡ w) r rs even) in
    let u : nat_lt 1048576 n ≡ false = grind (arith, nat_tests) in
    let rest = all_checked w ps (n + 1) rs (All-tail (λ (q : List (List ℕ)). length q ≡ w) r rs even) (omega arith) in
    rw (t, u, rest) refl

-- few enough records of one width have no fault
pub checked : (w : ℕ) (ps : List ℕ) (rows xs : FieldRows) → ArePicked w ps rows xs → length xs ≤ 1048576 → checked_records w ps 1 rows ≡ Ok xs
checked w ps rows xs h few =
    let size : length xs ≡ length rows = ap length h.picks ∙ length-map rows (fields_at ps) in
    all_checked w ps 1 rows h.even (omega arith) ∙ ap Ok (sym h.picks)

picked_append : (w : ℕ) (ps : List ℕ) (rows rows2 xs xs2 : FieldRows) → ArePicked w ps rows xs → ArePicked w ps rows2 xs2 → ArePicked w ps (rows ++ rows2) (xs ++ xs2)
picked_append w ps rows rows2 xs xs2 h k = record {
  even = All-append (λ (q : List (List ℕ)). length q ≡ w) rows rows2 h.even k.even;
  picks = rw (h.picks, k.picks) (sym (map-append (fields_at ps) rows rows2));
}

-- what the segments behind the first one give
later_picked : (w : ℕ) (ps : List ℕ) (segments : List (Bor (List ℕ))) (parts : List FieldRows) → length parts ≡ length segments
    → ((i : ℕ) (s : Bor (List ℕ)) (p : FieldRows) → i < length segments → ArePicked w ps (records default_config (slice_index_or segments i s).now) (slice_index_or parts i p))
    → ArePicked w ps (flat_map (λ s. records default_config s.now) segments) (records_of_parts parts)
later_picked w ps [] [] len each = none_picked w ps
later_picked w ps [] (p ∷ parts) len each = absurd (omega (arith, len))
later_picked w ps (s ∷ segments) [] len each = absurd (omega (arith, len))
later_picked w ps (s ∷ segments) (p ∷ parts) len each =
    picked_append w ps (records default_config s.now) (flat_map (λ t. records default_config t.now) segments) p (records_of_parts parts) (each 0 s p (omega arith))
    (later_picked w ps segments parts (omega (arith, len)) (λ i t q h. each (suc i) t q (omega (arith, h))))

all_picked : (w : ℕ) (ps : List ℕ) (s : Bor (List ℕ)) (segments : List (Bor (List ℕ))) (parts : List FieldRows) (names : List (List ℕ)) (rest : FieldRows)
    → records default_config s.now ≡ names ∷ rest → AreRead w ps (s ∷ segments) parts
    → ArePicked w ps (rest ++ flat_map (λ t. records default_config t.now) segments) (records_of_parts parts)
all_picked w ps s segments [] names rest e h = absurd (omega (arith, h.count))
all_picked w ps s segments (p ∷ parts) names rest e h =
    picked_append w ps rest (flat_map (λ t. records default_config t.now) segments) p (records_of_parts parts)
    (rw e at (h.each 0 s p (omega arith)))
    (later_picked w ps segments parts (omega (arith, h.count)) (λ i t q k. h.each (suc i) t q (omega (arith, k))))

put_together : (columns : List (List ℕ × CellType)) (layout : Layout) (s : Bor (List ℕ)) (segments : List (Bor (List ℕ))) (parts : List FieldRows)
    → IsLayoutOf columns (records default_config s.now) layout → AreRead layout.width layout.indices.items (s ∷ segments) parts → length (records_of_parts parts) ≤ 1048576
    → records_under_header columns (records default_config s.now ++ flat_map (λ t. records default_config t.now) segments) ≡ Ok (records_of_parts parts)
put_together columns layout s segments parts (names, rest, e, lays) h few =
    rw e
    (lays.says (rest ++ flat_map (λ t. records default_config t.now) segments)
    ∙ checked layout.width layout.indices.items _ (records_of_parts parts) (all_picked layout.width layout.indices.items s segments parts names rest e h) few)

-- the parts of all segments are what the text says
pub together : (columns : List (List ℕ × CellType)) (layout : Layout) (text : List ℕ) (s : Bor (List ℕ)) (segments : List (Bor (List ℕ))) (parts : List FieldRows)
    → 0 < length segments → s ≡ slice_index_or segments 0 s → flat_map (λ t. records default_config t.now) segments ≡ records default_config text
    → IsLayoutOf columns (records default_config s.now) layout → AreRead layout.width layout.indices.items segments parts → length (records_of_parts parts) ≤ 1048576
    → records_under_header columns (records default_config text) ≡ Ok (records_of_parts parts)
together columns layout text s [] parts some first whole lays h few = absurd (omega (arith, some))
together columns layout text s (t ∷ segments) parts some first whole lays h few =
    rw (← whole) (put_together columns layout t segments parts (subst (λ (u : Bor (List ℕ)). IsLayoutOf columns (records default_config u.now) layout) first lays) h few)

pub made_together : (columns : List (List ℕ × CellType)) (rows : FieldRows) (parts : List FieldRows) (made : Option FieldRows)
    → (length (records_of_parts parts) ≤ 1048576 → records_under_header columns rows ≡ Ok (records_of_parts parts))
    → IfSome made (λ m. m ≡ records_of_parts parts) → IfSome made (λ m. length m ≤ 1048576) → IfSome made (λ m. records_under_header columns rows ≡ Ok m)
made_together columns rows parts None h is few = tt
made_together columns rows parts (Some m) h is few = rw is (h (rw is at few))

-- where each outcome is a part, and each part is what was read of its segment
pub read_each : {V E F : Type 0} (items : V → List FieldRows) (w : ℕ) (ps : List ℕ) (segments : List (Bor (List ℕ))) (outcomes : List (Result (Option FieldRows) E)) (r : Result (Option V) F)
    → length outcomes ≡ length segments
    → ((i : ℕ) (d : Result (Option FieldRows) E) → i < length segments
    → IfOk (slice_index_or outcomes i d) (λ o. IfSome o (λ part. (s : Bor (List ℕ)) → ArePicked w ps (rows_of_segment i (slice_index_or segments i s).now) part)))
    → IfOk r (λ o. IfSome o (λ v. outcomes ≡ map (λ part. Ok (Some part)) (items v)))
    → IfOk r (λ o. IfSome o (λ v. AreRead w ps segments (items v)))
read_each items w ps segments outcomes (Err e) count each h = tt
read_each items w ps segments outcomes (Ok None) count each h = tt
read_each {E = E} items w ps segments outcomes (Ok (Some v)) count each h =
    let read : FieldRows → Result (Option FieldRows) E = λ part. Ok (Some part) in
    let size : length outcomes ≡ length (items v) = ap length h ∙ length-map (items v) read in
    record {
      count = sym size ∙ count;
      each = λ i s p lt.
          let at : slice_index_or outcomes i (read p) ≡ read (slice_index_or (items v) i p) =
          ap (λ (os : List (Result (Option FieldRows) E)). slice_index_or os i (read p)) h ∙ get_or-map read (items v) i p (read p) (omega (arith, lt, size, count)) in
          (rw at at (each i (read p) lt)) s;
    }
