-- Where no cell of a file is bad, the size of its pieces does not matter: facts for the laws of a run.
use Rattle.std.specs.Prelude.{◌≡◌, ◌+◌, ◌*◌, ◌<◌, ◌&&◌, ℕ, zero, suc, Bool, true, false, List, [], ◌∷◌, ◌++◌, length, map, take, drop}
use Rattle.std.specs.List.{list_all, range_with_len}
use Rattle.std.proofs.Common.{ap, refl, sym, subst, ◌∙◌, add-one}
use Rattle.std.proofs.Math.Nat.{suc-mul, zero-mul, add_comm}
use Rattle.std.proofs.Math.Seq.{take-add}
use Rattle.std.proofs.lemmas.List.{drop-drop, take_all}
use Rattle.std.proofs.lemmas.Grind.{div_ceil_times}
use Rattle.df_value.specs.declared.cell.Cell.{Cell}
use Rattle.df_value.specs.declared.chunk.Piece.{Piece}
use Rattle.df_value.specs.Pieces.{is_good, rows_of_piece, rows_of_pieces}
use Rattle.df_value.specs.Schemas.{Columns}
use Rattle.df_csv.specs.declared.typed.TypedRow.{TypedRow}
use Rattle.df_csv.specs.declared.typed.TypedRow.TheVariants as one
use Rattle.df_csv.specs.declared.typed.TypedRows.{TypedRows}
use Rattle.df_csv.specs.declared.typed.TypedRows.TheVariants as all
use Rattle.df_csv.specs.Records.{FieldRows}
use Rattle.df_csv.specs.Typed.{row_of, row_before, rows_typed, piece_from, piece_of, piece_count, pieces_of}

-- a good row before good rows
before_good : (n : ℕ) (r : TypedRow) (rest : TypedRows) (rows : List (List Cell)) → row_before n r rest ≡ all.Good rows →
    (row : List Cell) × ((others : List (List Cell)) × ((r ≡ one.Good row) × ((rest ≡ all.Good others) × (rows ≡ row ∷ others))))
before_good n (one.Bad i) rest rows h = absurd (cc)
before_good n (one.Good row) (all.Good others) rows h = (row, (others, (refl, (refl, cc))))
before_good n (one.Good row) (all.Bad cell) rows h = absurd (cc)

-- there are as many good rows as records
pub good_length : (c : Columns) (n : ℕ) (xs : FieldRows) (rows : List (List Cell)) → rows_typed c n xs ≡ all.Good rows → length rows ≡ length xs
good_length c n [] rows h =
    let none : [] ≡ rows = cc in
    ap length (sym none)
good_length c n (x ∷ xs) rows h =
    let p = before_good n (row_of c x) (rows_typed c (n + 1) xs) rows h in
    ap length p.1.1.1.1 ∙ ap suc (good_length c (n + 1) xs p.1.0 p.1.1.1.0)

-- good rows do not depend on the number of the first
good_moved : (c : Columns) (n m : ℕ) (xs : FieldRows) (rows : List (List Cell)) → rows_typed c n xs ≡ all.Good rows → rows_typed c m xs ≡ all.Good rows
good_moved c n m [] rows h = h
good_moved c n m (x ∷ xs) rows h =
    let p = before_good n (row_of c x) (rows_typed c (n + 1) xs) rows h in
    rw (p.1.1.0, good_moved c (n + 1) (m + 1) xs p.1.0 p.1.1.1.0) (ap all.Good (sym p.1.1.1.1))

-- good rows, and after them others
good_append : (c : Columns) (n m : ℕ) (xs ys : FieldRows) (rows others : List (List Cell)) → rows_typed c n xs ≡ all.Good rows →
    rows_typed c m ys ≡ all.Good others → rows_typed c n (xs ++ ys) ≡ all.Good (rows ++ others)
good_append c n m [] ys rows others h k =
    let none : [] ≡ rows = cc in
    subst (λ (r : List (List Cell)). rows_typed c n ys ≡ all.Good (r ++ others)) none (good_moved c m n ys others k)
good_append c n m (x ∷ xs) ys rows others h k =
    let p = before_good n (row_of c x) (rows_typed c (n + 1) xs) rows h in
    rw (p.1.1.0, good_append c (n + 1) m xs ys p.1.0 others p.1.1.1.0 k) (ap (λ (r : List (List Cell)). all.Good (r ++ others)) (sym p.1.1.1.1))

before_first : (n : ℕ) (r : TypedRow) (rest : TypedRows) (row : List Cell) (others : List (List Cell)) → r ≡ one.Good row → rest ≡ all.Good others →
    row_before n r rest ≡ all.Good (row ∷ others)
before_first n r rest row others h k = rw (h, k) refl

-- and the other way round
good_split : (c : Columns) (n : ℕ) (xs ys : FieldRows) (rows : List (List Cell)) → rows_typed c n (xs ++ ys) ≡ all.Good rows →
    (first : List (List Cell)) × ((rest : List (List Cell)) × ((rows_typed c n xs ≡ all.Good first) × (rows_typed c n ys ≡ all.Good rest)))
good_split c n [] ys rows h = ([], (rows, (refl, h)))
good_split c n (x ∷ xs) ys rows h =
    let p = before_good n (row_of c x) (rows_typed c (n + 1) (xs ++ ys)) rows h in
    let q = good_split c (n + 1) xs ys p.1.0 p.1.1.1.0 in
    (p.0 ∷ q.0, (q.1.0, (before_first n (row_of c x) (rows_typed c (n + 1) xs) p.0 q.0 p.1.1.0 q.1.1.0, good_moved c (n + 1) n ys q.1.0 q.1.1.1)))

-- a good piece has all rows of its records
piece_rows : (c : Columns) (first : ℕ) (t : TypedRows) → is_good (piece_from c first t) ≡ true → t ≡ all.Good (rows_of_piece (piece_from c first t))
piece_rows c first (all.Good rows) h = refl
piece_rows c first (all.Bad cell) h = absurd (cc)

good_piece : (c : Columns) (first : ℕ) (t : TypedRows) (rows : List (List Cell)) → t ≡ all.Good rows → is_good (piece_from c first t) ≡ true
good_piece c first t rows h = rw h refl

both_true : (a b : Bool) → (a && b) ≡ true → (a ≡ true) × (b ≡ true)
both_true true b h = (refl, h)
both_true false b h = absurd (cc)

true_both : (a b : Bool) → a ≡ true → b ≡ true → (a && b) ≡ true
true_both a b h k = rw (h, k) refl

-- the piece at this index
abbrev piece_at : Columns → ℕ → FieldRows → ℕ → Piece
piece_at c k records i = piece_of c (i * k) (take k (drop (i * k) records))

take-zero : {A : Type 0} (xs : List A) (n : ℕ) → n ≡ 0 → take n xs ≡ []
take-zero xs n h = rw h refl

drop-zero : {A : Type 0} (xs : List A) (n : ℕ) → n ≡ 0 → drop n xs ≡ xs
drop-zero xs n h = rw h refl

next_start : {A : Type 0} (i k : ℕ) (xs : List A) → drop ((i + 1) * k) xs ≡ drop k (drop (i * k) xs)
next_start i k xs = ap (λ n. drop n xs) (ap (λ j. j * k) (add-one i) ∙ suc-mul i k) ∙ sym (drop-drop k (i * k) xs)

-- so many pieces are the first piece and the others
more_pieces : {A : Type 0} (m k : ℕ) (xs : List A) → take (suc m * k) xs ≡ take k xs ++ take (m * k) (drop k xs)
more_pieces m k xs = ap (λ n. take n xs) (suc-mul m k ∙ add_comm (m * k) k) ∙ take-add k (m * k) xs

-- pieces without a bad cell have the rows of their records
rows_of_good : (c : Columns) (k : ℕ) (records : FieldRows) (i m : ℕ) → list_all is_good (map (piece_at c k records) (range_with_len i m)) ≡ true →
    rows_typed c 1 (take (m * k) (drop (i * k) records)) ≡ all.Good (rows_of_pieces (map (piece_at c k records) (range_with_len i m)))
rows_of_good c k records i zero h = ap (λ (ys : FieldRows). rows_typed c 1 ys) (take-zero (drop (i * k) records) (zero * k) (zero-mul k))
rows_of_good c k records i (suc m) h =
    let xs = drop (i * k) records in
    let parts = both_true (is_good (piece_at c k records i)) (list_all is_good (map (piece_at c k records) (range_with_len (i + 1) m))) h in
    let here = piece_rows c (i * k) (rows_typed c (i * k + 1) (take k xs)) parts.0 in
    let later = rows_of_good c k records (i + 1) m parts.1 in
    let others = subst (λ (ys : FieldRows). rows_typed c 1 (take (m * k) ys) ≡ all.Good (rows_of_pieces (map (piece_at c k records) (range_with_len (i + 1) m))))
    (next_start i k records) later in
    ap (λ (ys : FieldRows). rows_typed c 1 ys) (more_pieces m k xs)
    ∙ good_append c 1 1 (take k xs) (take (m * k) (drop k xs)) _ _ (good_moved c (i * k + 1) 1 (take k xs) _ here) others

-- and records without a bad cell make good pieces
good_of_rows : (c : Columns) (k : ℕ) (records : FieldRows) (i m : ℕ) (rows : List (List Cell)) →
    rows_typed c 1 (take (m * k) (drop (i * k) records)) ≡ all.Good rows → list_all is_good (map (piece_at c k records) (range_with_len i m)) ≡ true
good_of_rows c k records i zero rows h = refl
good_of_rows c k records i (suc m) rows h =
    let xs = drop (i * k) records in
    let q = good_split c 1 (take k xs) (take (m * k) (drop k xs)) rows (ap (λ (ys : FieldRows). rows_typed c 1 ys) (sym (more_pieces m k xs)) ∙ h) in
    let here = good_piece c (i * k) (rows_typed c (i * k + 1) (take k xs)) q.0 (good_moved c 1 (i * k + 1) (take k xs) q.0 q.1.1.0) in
    let later = subst (λ (ys : FieldRows). rows_typed c 1 (take (m * k) ys) ≡ all.Good q.1.0) (sym (next_start i k records)) q.1.1.1 in
    true_both (is_good (piece_at c k records i)) _ here (good_of_rows c k records (i + 1) m q.1.0 later)

-- the pieces of a file have all of its records
whole : (k : ℕ) (records : FieldRows) → 0 < k → take (piece_count k (length records) * k) (drop (0 * k) records) ≡ records
whole k records h = ap (λ (ys : FieldRows). take (piece_count k (length records) * k) ys) (drop-zero records (0 * k) (zero-mul k)) ∙ take_all (piece_count k (length records) * k) records (div_ceil_times (length records) k h).0

-- where pieces of one size have no bad cell, those of another have none either, and the same rows
pub same_pieces : (c : Columns) (k l : ℕ) (records : FieldRows) → 0 < k → 0 < l → list_all is_good (pieces_of c k records) ≡ true →
    (list_all is_good (pieces_of c l records) ≡ true) × (rows_of_pieces (pieces_of c l records) ≡ rows_of_pieces (pieces_of c k records))
same_pieces c k l records some others h =
    let rows = rows_of_pieces (pieces_of c k records) in
    let is : rows_typed c 1 records ≡ all.Good rows =
    subst (λ (ys : FieldRows). rows_typed c 1 ys ≡ all.Good rows) (whole k records some) (rows_of_good c k records 0 (piece_count k (length records)) h) in
    let good = good_of_rows c l records 0 (piece_count l (length records)) rows
    (subst (λ (ys : FieldRows). rows_typed c 1 ys ≡ all.Good rows) (sym (whole l records others)) is) in
    let again : rows_typed c 1 records ≡ all.Good (rows_of_pieces (pieces_of c l records)) =
    subst (λ (ys : FieldRows). rows_typed c 1 ys ≡ all.Good (rows_of_pieces (pieces_of c l records))) (whole l records others)
    (rows_of_good c l records 0 (piece_count l (length records)) good) in
    (good, cc)
