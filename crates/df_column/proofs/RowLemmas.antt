-- The rows of columns that are made along picks.
use Rattle.std.proofs.Common.{◌≡◌, ℕ, zero, suc, ◌+◌, ◌<◌, ◌≤◌, List, [], ◌∷◌, ◌++◌, length, map, take, drop, get_or, refl, sym, ap, subst, ◌∙◌, arith, eq-eqb, length-take}
use Rattle.std.specs.Prelude.{T, ◌==◌}
use Rattle.std.proofs.Math.Seq.{drop-nil, take-nil}
use Rattle.std.proofs.lemmas.Bool.{eqb-true}
use Rattle.std.specs.Borrow.{Bor}
use Rattle.df_value.specs.Cells.{fits_dtype}
use Rattle.df_value.specs.declared.cell.Cell.{Cell}
use Rattle.df_value.specs.declared.cell.Cell.TheVariants as cell
use Rattle.df_value.specs.declared.cell.CellType.{CellType}
use Rattle.df_column.specs.Picks.{origin_cell, picked_cells, spliced}
use Rattle.df_column.specs.Rows.{head_cell, later_cells, tagged_rows, row_at, are_even, origin_row, picked_rows, is_row, is_new_row, AreRows, spliced_columns}
use Rattle.df_column.specs.declared.picks.Origin.{Origin}
use Rattle.df_column.specs.declared.picks.Origin.TheVariants.{Old, New}
use Rattle.df_column.specs.declared.picks.Pick.{Pick}
use Rattle.df_column.specs.declared.tag.Tag.{Tag}
use Rattle.df_column.proofs.Bools.{T-first, T-second, T-both, true_from_T}
use Rattle.df_column.proofs.Places.{mapped_length}

-- the tags of rows
pub tags_of_rows : (ts : List Tag) (columns : List (List Cell)) → map (λ e. e.0) (tagged_rows ts columns) ≡ ts
tags_of_rows [] columns = refl
tags_of_rows (t ∷ ts) columns = ap (λ r. t ∷ r) (tags_of_rows ts (map later_cells columns))

pub length_rows : (ts : List Tag) (columns : List (List Cell)) → length (tagged_rows ts columns) ≡ length ts
length_rows [] columns = refl
length_rows (t ∷ ts) columns = ap suc (length_rows ts (map later_cells columns))

-- the row at an index
row_first : (columns : List (List Cell)) → map head_cell columns ≡ row_at columns 0
row_first [] = refl
row_first ([] ∷ cs) = ap (λ r. cell.Null ∷ r) (row_first cs)
row_first ((c ∷ c') ∷ cs) = ap (λ r. c ∷ r) (row_first cs)

row_later : (columns : List (List Cell)) (i : ℕ) → row_at (map later_cells columns) i ≡ row_at columns (suc i)
row_later [] i = refl
row_later ([] ∷ cs) i = ap (λ r. cell.Null ∷ r) (row_later cs i)
row_later ((c ∷ c') ∷ cs) i = ap (λ r. get_or c' i cell.Null ∷ r) (row_later cs i)

pub row_in_rows : (ts : List Tag) (columns : List (List Cell)) (i : ℕ) (d : Tag × List Cell) (t : Tag) → i < length ts → get_or (tagged_rows ts columns) i d ≡ (get_or ts i t, row_at columns i)
row_in_rows [] columns i d t h = absurd (omega arith)
row_in_rows (u ∷ ts) columns zero d t h = ap (λ r. (u, r)) (row_first columns)
row_in_rows (u ∷ ts) columns (suc i) d t h = row_in_rows ts (map later_cells columns) i d t (omega arith) ∙ ap (λ r. (get_or ts i t, r)) (row_later columns i)

-- a picked row, cell by cell
abbrev picked_from : ℕ → List (List Cell) → Pick → List Cell
picked_from j [] p = []
picked_from j (c ∷ cs) p = origin_cell c j p.origin ∷ picked_from (j + 1) cs p

-- columns that are made along picks alone
abbrev picked_alone : ℕ → List (List Cell) → List Pick → List (List Cell)
picked_alone j [] picks = []
picked_alone j (c ∷ cs) picks = picked_cells c j picks ∷ picked_alone (j + 1) cs picks

picked_firsts : (j : ℕ) (columns : List (List Cell)) (p : Pick) (picks : List Pick) → map head_cell (picked_alone j columns (p ∷ picks)) ≡ picked_from j columns p
picked_firsts j [] p picks = refl
picked_firsts j (c ∷ cs) p picks = ap (λ r. origin_cell c j p.origin ∷ r) (picked_firsts (j + 1) cs p picks)

picked_laters : (j : ℕ) (columns : List (List Cell)) (p : Pick) (picks : List Pick) → map later_cells (picked_alone j columns (p ∷ picks)) ≡ picked_alone j columns picks
picked_laters j [] p picks = refl
picked_laters j (c ∷ cs) p picks = ap (λ r. picked_cells c j picks ∷ r) (picked_laters (j + 1) cs p picks)

from_old : (j : ℕ) (columns : List (List Cell)) (p : Pick) (i : ℕ) → p.origin ≡ Old i → picked_from j columns p ≡ row_at columns i
from_old j [] p i e = refl
from_old j (c ∷ cs) p i e = λ k. (ap (origin_cell c j) e) k ∷ (from_old (j + 1) cs p i e) k

drop_row : (row : List Cell) (j : ℕ) → j < length row → drop j row ≡ get_or row j cell.Null ∷ drop (j + 1) row
drop_row [] j h = absurd (omega arith)
drop_row (c ∷ row) zero h = refl
drop_row (c ∷ row) (suc j) h =
    let e : suc (j + 1) ≡ suc j + 1 = omega arith in
    drop_row row j (omega arith) ∙ ap (λ n. get_or row j cell.Null ∷ drop n (c ∷ row)) e

drop_all : (row : List Cell) (j : ℕ) → length row ≤ j → drop j row ≡ []
drop_all [] zero h = refl
drop_all [] (suc j) h = refl
drop_all (c ∷ row) zero h = absurd (omega arith)
drop_all (c ∷ row) (suc j) h = drop_all row j (omega arith)

from_new : (j : ℕ) (columns : List (List Cell)) (p : Pick) (row : Bor (List Cell)) → p.origin ≡ New row → length row.now ≡ j + length columns → picked_from j columns p ≡ drop j row.now
from_new j [] p row e h = sym (drop_all row.now j (omega arith))
from_new j (c ∷ cs) p row e h =
    (λ k. (ap (origin_cell c j) e) k ∷ (from_new (j + 1) cs p row e (omega arith)) k) ∙ sym (drop_row row.now j (omega arith))

-- a row of some types has as many cells
pub length_is_row : (dtypes : List CellType) (row : List Cell) → T (is_row dtypes row) → length row ≡ length dtypes
length_is_row [] [] h = refl
length_is_row [] (c ∷ row) h = absurd h
length_is_row (d ∷ dtypes) [] h = absurd h
length_is_row (d ∷ dtypes) (c ∷ row) h = ap suc (length_is_row dtypes row (T-second (fits_dtype d c) _ h))

picked_row : (columns : List (List Cell)) (dtypes : List CellType) (p : Pick) → length dtypes ≡ length columns → T (is_new_row dtypes p.origin) → picked_from 0 columns p ≡ origin_row columns p.origin
picked_row columns dtypes p e h = step p.origin refl h where
  step : (o : Origin) → p.origin ≡ o → T (is_new_row dtypes o) → picked_from 0 columns p ≡ origin_row columns o
  step (Old i) is h = from_old 0 columns p i is
  step (New row) is h = let l = length_is_row dtypes row.now h in from_new 0 columns p row is (omega (arith, l, e))

rows_of_picks : (columns : List (List Cell)) (dtypes : List CellType) (picks : List Pick) → length dtypes ≡ length columns → AreRows dtypes picks → tagged_rows (map (λ p. p.tag) picks) (picked_alone 0 columns picks) ≡ picked_rows columns picks
rows_of_picks columns dtypes [] e h = refl
rows_of_picks columns dtypes (p ∷ picks) e h =
    let first = picked_firsts 0 columns p picks ∙ picked_row columns dtypes p e (T-first _ _ h) in
    let rest = rows_of_picks columns dtypes picks e (T-second (is_new_row dtypes p.origin) _ h) in
    λ k. (p.tag, first k) ∷ (ap (tagged_rows (map (λ p. p.tag) picks)) (picked_laters 0 columns p picks) ∙ rest) k

-- columns whose cells stand one behind the other
abbrev beside : List (List Cell) → List (List Cell) → List (List Cell)
beside [] ds = []
beside (c ∷ cs) [] = []
beside (c ∷ cs) (d ∷ ds) = (c ++ d) ∷ beside cs ds

spliced_beside : (low high j : ℕ) (columns : List (List Cell)) (picks : List Pick) → spliced_columns low high j columns picks ≡ beside (map (take low) columns) (beside (picked_alone j columns picks) (map (drop high) columns))
spliced_beside low high j [] picks = refl
spliced_beside low high j (c ∷ cs) picks = ap (λ r. spliced low high (picked_cells c j picks) c ∷ r) (spliced_beside low high (j + 1) cs picks)

alone_length : (j : ℕ) (columns : List (List Cell)) (picks : List Pick) → length (picked_alone j columns picks) ≡ length columns
alone_length j [] picks = refl
alone_length j (c ∷ cs) picks = ap suc (alone_length (j + 1) cs picks)

beside_length : (cs ds : List (List Cell)) → length ds ≡ length cs → length (beside cs ds) ≡ length cs
beside_length [] ds h = refl
beside_length (c ∷ cs) [] h = absurd (omega arith)
beside_length (c ∷ cs) (d ∷ ds) h = ap suc (beside_length cs ds (omega arith))

not_even : (n : ℕ) → T (0 == suc n) → ⊥
not_even n h = let e : 0 ≡ suc n = eqb-true 0 (suc n) (true_from_T _ h) in omega arith

not_none : (n : ℕ) → T (suc n == 0) → ⊥
not_none n h = let e : suc n ≡ 0 = eqb-true (suc n) 0 (true_from_T _ h) in omega arith

beside_firsts : (n : ℕ) (cs ds : List (List Cell)) → T (are_even (suc n) cs) → length ds ≡ length cs → map head_cell (beside cs ds) ≡ map head_cell cs
beside_firsts n [] ds h e = refl
beside_firsts n (c ∷ cs) [] h e = absurd (omega arith)
beside_firsts n ([] ∷ cs) (d ∷ ds) h e = absurd (not_even n (T-first (0 == suc n) _ h))
beside_firsts n ((c ∷ c') ∷ cs) (d ∷ ds) h e = ap (λ r. c ∷ r) (beside_firsts n cs ds (T-second (length (c ∷ c') == suc n) _ h) (omega arith))

beside_laters : (n : ℕ) (cs ds : List (List Cell)) → T (are_even (suc n) cs) → length ds ≡ length cs → map later_cells (beside cs ds) ≡ beside (map later_cells cs) ds
beside_laters n [] ds h e = refl
beside_laters n (c ∷ cs) [] h e = absurd (omega arith)
beside_laters n ([] ∷ cs) (d ∷ ds) h e = absurd (not_even n (T-first (0 == suc n) _ h))
beside_laters n ((c ∷ c') ∷ cs) (d ∷ ds) h e = ap (λ r. (c' ++ d) ∷ r) (beside_laters n cs ds (T-second (length (c ∷ c') == suc n) _ h) (omega arith))

pub even_laters : (n : ℕ) (cs : List (List Cell)) → T (are_even (suc n) cs) → T (are_even n (map later_cells cs))
even_laters n [] h = tt
even_laters n ([] ∷ cs) h = absurd (not_even n (T-first (0 == suc n) _ h))
even_laters n ((c ∷ c') ∷ cs) h = T-both _ _ (even_one (length c') n (T-first (length (c ∷ c') == suc n) _ h)) (even_laters n cs (T-second (length (c ∷ c') == suc n) _ h)) where
  even_one : (m n : ℕ) → T (suc m == suc n) → T (m == n)
  even_one m n h = let e : suc m ≡ suc n = eqb-true (suc m) (suc n) (true_from_T _ h) in let f : m ≡ n = omega arith in subst (λ k. T (m == k)) f (same m)
    where
      same : (m : ℕ) → T (m == m)
      same m = subst T (sym (eq-eqb m m refl)) tt

beside_none : (cs ds : List (List Cell)) → T (are_even 0 cs) → length ds ≡ length cs → beside cs ds ≡ ds
beside_none [] [] h e = refl
beside_none [] (d ∷ ds) h e = absurd (omega arith)
beside_none (c ∷ cs) [] h e = absurd (omega arith)
beside_none ([] ∷ cs) (d ∷ ds) h e = ap (λ r. d ∷ r) (beside_none cs ds (T-second (0 == 0) _ h) (omega arith))
beside_none ((c ∷ c') ∷ cs) (d ∷ ds) h e = absurd (not_none (length c') (T-first (suc (length c') == 0) _ h))

later_length : (cs : List (List Cell)) → length (map later_cells cs) ≡ length cs
later_length [] = refl
later_length (c ∷ cs) = ap suc (later_length cs)

beside_rows : (ts us : List Tag) (cs ds : List (List Cell)) → T (are_even (length ts) cs) → length ds ≡ length cs → tagged_rows (ts ++ us) (beside cs ds) ≡ tagged_rows ts cs ++ tagged_rows us ds
beside_rows [] us cs ds h e = ap (tagged_rows us) (beside_none cs ds h e)
beside_rows (t ∷ ts) us cs ds h e =
    let l = later_length cs in
    let first = beside_firsts (length ts) cs ds h e in
    let rest = ap (tagged_rows (ts ++ us)) (beside_laters (length ts) cs ds h e) ∙ beside_rows ts us (map later_cells cs) ds (even_laters (length ts) cs h) (omega (arith, l, e)) in
    λ k. (t, first k) ∷ rest k

-- parts of columns of the same length, and their rows
alone_even : (j : ℕ) (columns : List (List Cell)) (picks : List Pick) → T (are_even (length (map (λ p. p.tag) picks)) (picked_alone j columns picks))
alone_even j [] picks = tt
alone_even j (c ∷ cs) picks =
    let k = mapped_length (λ p. p.tag) picks in
    let m = mapped_length (λ p. origin_cell c j p.origin) picks in
    let same : length (picked_cells c j picks) ≡ length (map (λ p. p.tag) picks) = omega (arith, k, m) in
    T-both _ _ (subst T (sym (eq-eqb _ _ same)) tt) (alone_even (j + 1) cs picks)

taken_even : (n : ℕ) (ts : List Tag) (columns : List (List Cell)) → T (are_even (length ts) columns) → T (are_even (length (take n ts)) (map (take n) columns))
taken_even n ts [] h = tt
taken_even n ts (c ∷ cs) h =
    let long = eqb-true (length c) (length ts) (true_from_T _ (T-first (length c == length ts) _ h)) in
    let k = length-take n ts in
    let m = length-take n c in
    let same : length (take n c) ≡ length (take n ts) = omega (arith, k, m, long) in
    T-both _ _ (subst T (sym (eq-eqb _ _ same)) tt) (taken_even n ts cs (T-second (length c == length ts) _ h))

taken_rows : (n : ℕ) (ts : List Tag) (columns : List (List Cell)) → tagged_rows (take n ts) (map (take n) columns) ≡ take n (tagged_rows ts columns)
taken_rows zero ts columns = refl
taken_rows (suc n) [] columns = refl
taken_rows (suc n) (t ∷ ts) columns =
    let rest = ap (tagged_rows (take n ts)) (laters columns) ∙ taken_rows n ts (map later_cells columns) in
    λ k. (t, (firsts columns) k) ∷ rest k
  where
    firsts : (cs : List (List Cell)) → map head_cell (map (take (suc n)) cs) ≡ map head_cell cs
    firsts [] = refl
    firsts ([] ∷ cs) = ap (λ r. cell.Null ∷ r) (firsts cs)
    firsts ((c ∷ c') ∷ cs) = ap (λ r. c ∷ r) (firsts cs)

    laters : (cs : List (List Cell)) → map later_cells (map (take (suc n)) cs) ≡ map (take n) (map later_cells cs)
    laters [] = refl
    laters ([] ∷ cs) = λ k. (sym (take-nil n)) k ∷ (laters cs) k
    laters ((c ∷ c') ∷ cs) = ap (λ r. take n c' ∷ r) (laters cs)

dropped_rows : (n : ℕ) (ts : List Tag) (columns : List (List Cell)) → tagged_rows (drop n ts) (map (drop n) columns) ≡ drop n (tagged_rows ts columns)
dropped_rows zero ts columns = ap (tagged_rows ts) (all columns) where
  all : (cs : List (List Cell)) → map (drop 0) cs ≡ cs
  all [] = refl
  all (c ∷ cs) = ap (λ r. c ∷ r) (all cs)
dropped_rows (suc n) [] columns = refl
dropped_rows (suc n) (t ∷ ts) columns = ap (tagged_rows (drop n ts)) (laters columns) ∙ dropped_rows n ts (map later_cells columns) where
  laters : (cs : List (List Cell)) → map (drop (suc n)) cs ≡ map (drop n) (map later_cells cs)
  laters [] = refl
  laters ([] ∷ cs) = λ k. (sym (drop-nil n)) k ∷ (laters cs) k
  laters ((c ∷ c') ∷ cs) = ap (λ r. drop n c' ∷ r) (laters cs)

-- the rows of a block with picked rows in place of some
pub rows_made : (low high : ℕ) (ts : List Tag) (columns : List (List Cell)) (dtypes : List CellType) (picks : List Pick) → T (are_even (length ts) columns) → length dtypes ≡ length columns → AreRows dtypes picks
    → tagged_rows (spliced low high (map (λ p. p.tag) picks) ts) (spliced_columns low high 0 columns picks) ≡ spliced low high (picked_rows columns picks) (tagged_rows ts columns)
rows_made low high ts columns dtypes picks h e rows =
    let tags = map (λ p. p.tag) picks in
    let front = map (take low) columns in
    let alone = picked_alone 0 columns picks in
    let back = map (drop high) columns in
    let f = mapped_length (take low) columns in
    let a = alone_length 0 columns picks in
    let b = mapped_length (drop high) columns in
    let l = beside_length alone back (omega (arith, a, b)) in
    ap (tagged_rows (spliced low high tags ts)) (spliced_beside low high 0 columns picks)
    ∙ beside_rows (take low ts) (tags ++ drop high ts) front (beside alone back) (taken_even low ts columns h) (omega (arith, l, a, f))
    ∙ (λ k. (taken_rows low ts columns) k ++ (beside_rows tags (drop high ts) alone back (alone_even 0 columns picks) (omega (arith, a, b))) k)
    ∙ ap (λ r. take low (tagged_rows ts columns) ++ r) (λ k. (rows_of_picks columns dtypes picks e rows) k ++ (dropped_rows high ts columns) k)
