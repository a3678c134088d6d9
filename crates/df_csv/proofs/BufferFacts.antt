-- Rows whose fields stand one behind the other.
use Rattle.std.proofs.Common.{◌≡◌, ◌+◌, ◌*◌, ◌<◌, ◌≤◌, ℕ, zero, suc, List, [], ◌∷◌, ◌++◌, length, take, drop, get_or, true, Some, None, Result, Ok, Err, refl, sym, ap, arith, add-one, length-append, ◌∙◌}
use Rattle.std.specs.Prelude.{OnOk, unwrap_or, slice_get}
use Rattle.std.specs.Result.{is_ok}
use Rattle.std.proofs.lemmas.Bool.{false≢true}
use Rattle.std.proofs.lemmas.List.{take_all, take-append-le, drop-append-le, length-drop, length-map, length-take-le, get_or-take, get_or-drop}
use Rattle.std.proofs.lemmas.Nat.{mul-add-lt}
use Rattle.std.proofs.lemmas.Option.{slice_get-get_or, unwrap_or-slice_get}
use Rattle.csv.specs.Records.{field_at}
use Rattle.df_csv.specs.Records.{FieldRows, after_rows, fields_at, record_at, checked_records, rows_of_width}
use Rattle.df_csv.proofs.RowFacts.{one_more}

pub rows_length : (w n : ℕ) (fs : List (List ℕ)) → length (rows_of_width w n fs) ≡ n
rows_length w zero fs = refl
rows_length w (suc n) fs = ap suc (rows_length w n (drop w fs))

-- the fields of one row more, and of those behind it
more_rows : (w n : ℕ) (fs : List (List ℕ)) → length fs ≡ suc n * w → (w ≤ length fs) × (length (drop w fs) ≡ n * w)
more_rows w n fs e = (grind arith, grind (arith, length-drop))

push_row : (w n : ℕ) (fs new : List (List ℕ)) → length fs ≡ n * w → length new ≡ w → rows_of_width w (suc n) (fs ++ new) ≡ rows_of_width w n fs ++ (new ∷ [])
push_row w zero [] new e l = ap (λ r. r ∷ []) (take_all w new (omega (arith, l)))
push_row w zero (f ∷ fs) new e l = absurd (omega (arith, e))
push_row w (suc n) fs new e l =
    let (some, rest) = more_rows w n fs e in
    rw (take-append-le w fs new some, drop-append-le w fs new some) (ap (λ r. take w fs ∷ r) (push_row w n (drop w fs) new rest l))

pub rows_push : (w n : ℕ) (fs new : List (List ℕ)) → length fs ≡ n * w → length new ≡ w → rows_of_width w (n + 1) (fs ++ new) ≡ rows_of_width w n fs ++ (new ∷ [])
rows_push w n fs new e l = rw add-one (push_row w n fs new e l)

row_length : (w n i : ℕ) (fs : List (List ℕ)) → length fs ≡ n * w → i < n → length (get_or (rows_of_width w n fs) i []) ≡ w
row_length w zero i fs e h = absurd (omega arith)
row_length w (suc n) zero fs e h = length-take-le w fs (more_rows w n fs e).0
row_length w (suc n) (suc i) fs e h = row_length w n i (drop w fs) (more_rows w n fs e).1 (omega arith)

field_of_row : (w n i j : ℕ) (fs : List (List ℕ)) → i < n → j < w → get_or fs (i * w + j) [] ≡ get_or (get_or (rows_of_width w n fs) i []) j []
field_of_row w zero i j fs h k = absurd (omega arith)
field_of_row w (suc n) zero j fs h k =
    let index : 0 * w + j ≡ j = omega arith in
    rw index (sym (get_or-take w fs j [] k))
field_of_row w (suc n) (suc i) j fs h k =
    let index : suc i * w + j ≡ w + (i * w + j) = grind arith in
    rw index (sym (get_or-drop w fs (i * w + j) []) ∙ field_of_row w n i j (drop w fs) (omega arith) k)

-- csv's own word for a field says the same
field_get : (fs : List (List ℕ)) (i : ℕ) → field_at fs i ≡ slice_get fs i
unfolding field_at
field_get [] i = refl
field_get (f ∷ fs) zero = refl
field_get (f ∷ fs) (suc i) = field_get fs i

pub record_get : (rows : FieldRows) (i : ℕ) → record_at rows i ≡ get_or rows i []
record_get rows i = unwrap_or-slice_get rows i []

pub record_length : (w n i : ℕ) (fs : List (List ℕ)) (rows : FieldRows) → rows_of_width w n fs ≡ rows → length fs ≡ n * w → i < length rows → w ≡ length (record_at rows i)
record_length w n i fs rows is e h =
    let within : i < n = omega (arith, h, ap length is, rows_length w n fs) in
    sym (ap length (record_get rows i ∙ ap (λ (r : FieldRows). get_or r i []) (sym is)) ∙ row_length w n i fs e within)

pub place_within : (w n i j : ℕ) (fs : List (List ℕ)) (rows : FieldRows) → rows_of_width w n fs ≡ rows → length fs ≡ n * w → i < length rows → j < length (record_at rows i)
    → i * w + j < length fs
place_within w n i j fs rows is e h k =
    let within : i < n = omega (arith, h, ap length is, rows_length w n fs) in
    let column : j < w = omega (arith, k, record_length w n i fs rows is e h) in
    omega (arith, e, mul-add-lt i w j n within column)

pub field_found : (w n i j : ℕ) (fs : List (List ℕ)) (rows : FieldRows) → rows_of_width w n fs ≡ rows → length fs ≡ n * w → i < length rows → j < length (record_at rows i)
    → field_at fs (i * w + j) ≡ slice_get (record_at rows i) j
field_found w n i j fs rows is e h k =
    let within : i < n = omega (arith, h, ap length is, rows_length w n fs) in
    let column : j < w = omega (arith, k, record_length w n i fs rows is e h) in
    let read : get_or fs (i * w + j) [] ≡ get_or (record_at rows i) j [] =
    field_of_row w n i j fs within column ∙ ap (λ (r : FieldRows). get_or (get_or r i []) j []) is ∙ ap (λ r. get_or r j []) (sym (record_get rows i)) in
    field_get fs (i * w + j) ∙ slice_get-get_or fs (i * w + j) [] (place_within w n i j fs rows is e h k)
    ∙ ap Some read ∙ sym (slice_get-get_or (record_at rows i) j [] k)

pub missing : (r : List (List ℕ)) (j : ℕ) → None ≡ slice_get r j → j < length r → ⊥
missing r j e h = some_none (e ∙ slice_get-get_or r j [] h)
  where
    some_none : {f : List ℕ} → None ≡ Some f → ⊥
    some_none q = cc

-- the fields of one record more
pub more_fields : (ps : List ℕ) (n : ℕ) (fs new r : List (List ℕ)) → length fs ≡ n * length ps → new ≡ fs ++ fields_at ps r → length new ≡ (n + 1) * length ps
more_fields ps n fs new r e is =
    let size : length (fields_at ps r) ≡ length ps = length-map ps (λ i. unwrap_or (field_at r i) []) in
    let whole : length new ≡ length fs + length (fields_at ps r) = ap length is ∙ length-append fs (fields_at ps r) in
    grind arith

pub more_records : (w : ℕ) (ps : List ℕ) (n : ℕ) (fs new : List (List ℕ)) (rows rest all : FieldRows) (r : List (List ℕ))
    → checked_records w ps 1 all ≡ after_rows (rows_of_width (length ps) n fs) (checked_records w ps (n + 1) rows) → rows ≡ r ∷ rest → w ≡ length r → n + 1 ≤ 1048576
    → length fs ≡ n * length ps → new ≡ fs ++ fields_at ps r → checked_records w ps 1 all ≡ after_rows (rows_of_width (length ps) (n + 1) new) (checked_records w ps (n + 1 + 1) rest)
more_records w ps n fs new rows rest all r e next width few even is =
    rw (is, rows_push (length ps) n fs (fields_at ps r) even (length-map ps (λ i. unwrap_or (field_at r i) [])))
    (one_more w ps (n + 1) (rows_of_width (length ps) n fs) rows rest all r e next width few)

pub on_ok : {A E P : Type 0} (r : Result A E) → OnOk r P → is_ok r ≡ true → P
on_ok (Ok x) h e = h
on_ok (Err x) h e = absurd (false≢true e)
