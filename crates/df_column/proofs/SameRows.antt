-- Things of one list that are those of another, one by one and part by part.
use Rattle.std.proofs.Common.{◌≡◌, ℕ, zero, suc, ◌+◌, ◌-◌, ◌<◌, ◌≤◌, Bool, true, false, List, [], ◌∷◌, drop, get_or, length, map, nat_lt, refl, sym, ap, ◌∙◌, arith}
use Rattle.std.specs.Prelude.{None, Option, Some, T}
use Rattle.std.proofs.lemmas.Bool.{ltb-false, ltb-true}
use Rattle.std.proofs.lemmas.List.{get_or_default}
use Rattle.df_value.specs.declared.cell.Cell.{Cell}
use Rattle.df_value.specs.declared.cell.Cell.TheVariants as cell
use Rattle.df_column.specs.Blocks.{BlockParts, block_rows}
use Rattle.df_column.specs.Columns.{column_cells}
use Rattle.df_column.specs.RowRuns.{AreNull, AreThose}
use Rattle.df_column.specs.Rows.{are_even, head_cell, row_at}
use Rattle.df_column.specs.ValueCells.{text_cell}
use Rattle.df_column.specs.declared.column.Column.{Column}
use Rattle.df_column.specs.declared.tag.Tag.{Tag}
use Rattle.df_column.proofs.BlockLemmas.{even_at}
use Rattle.df_column.proofs.Places.{mapped_at}
use Rattle.df_column.proofs.RowLemmas.{row_in_rows}

-- the next part, in two other lists that go along with these
pub more_are_those : {X : Type 0} (xs : List X) (at : ℕ) (ys : List X) (from n m : ℕ) (us : List X) (i : ℕ) (vs : List X) (j : ℕ) → AreThose xs at ys from n → AreThose us i vs j m
    → ((k : ℕ) (d : X) → k < m → get_or xs ((at + n) + k) d ≡ get_or us (i + k) d) → ((k : ℕ) (d : X) → k < m → get_or ys ((from + n) + k) d ≡ get_or vs (j + k) d) → AreThose xs at ys from (n + m)
more_are_those {X} xs at ys from n m us i vs j so_far next along along_other = record { each = λ k d lt. same k d (nat_lt k n) refl lt } where
  same : (k : ℕ) (d : X) (b : Bool) → nat_lt k n ≡ b → k < n + m → get_or xs (at + k) d ≡ get_or ys (from + k) d
  same k d true e lt = so_far.each k d (ltb-true k n e)
  same k d false e lt =
      let h = ltb-false k n e in
      let off : at + k ≡ (at + n) + (k - n) = omega (arith, h) in
      let back : (from + n) + (k - n) ≡ from + k = omega (arith, h) in
      let within : k - n < m = omega (arith, h, lt) in
      ap (λ l. get_or xs l d) off ∙ along (k - n) d within ∙ next.each (k - n) d within ∙ sym (along_other (k - n) d within) ∙ ap (λ l. get_or ys l d) back

-- one more
pub one_more_is_that : {X : Type 0} (xs : List X) (at : ℕ) (ys : List X) (from n : ℕ) → AreThose xs at ys from n → ((d : X) → get_or xs (at + n) d ≡ get_or ys (from + n) d) → AreThose xs at ys from (n + 1)
one_more_is_that xs at ys from n so_far here =
    more_are_those xs at ys from n 1 xs (at + n) ys (from + n) so_far
    (record {
      each = λ k d one.
          let off : (at + n) + k ≡ at + n = omega (arith, one) in
          let back : from + n ≡ (from + n) + k = omega (arith, one) in
          ap (λ l. get_or xs l d) off ∙ here d ∙ ap (λ l. get_or ys l d) back;
    })
    (λ k d lt. refl) (λ k d lt. refl)

-- one more of the cells of two lists of values
pub one_more_cell : {X : Type 0} (f : X → Cell) (xs : List X) (at : ℕ) (ys : List X) (from n : ℕ) (x y e : X) → AreThose (map f xs) at (map f ys) from n → at + n < length xs → from + n < length ys
    → x ≡ get_or xs (at + n) e → y ≡ get_or ys (from + n) e → f x ≡ f y → AreThose (map f xs) at (map f ys) from (n + 1)
one_more_cell f xs at ys from n x y e so_far lt lt_other is is_other same =
    one_more_is_that (map f xs) at (map f ys) from n so_far
    (λ d. mapped_at f xs (at + n) d e lt ∙ ap f (sym is) ∙ same ∙ ap f is_other ∙ sym (mapped_at f ys (from + n) d e lt_other))

-- a part, in two other lists that go along with these
pub part_are_those : {X : Type 0} (xs : List X) (at : ℕ) (ys : List X) (from count n m : ℕ) (us : List X) (i : ℕ) (vs : List X) (j : ℕ) → AreThose xs at ys from count → n + m ≤ count
    → ((k : ℕ) (d : X) → k < m → get_or xs ((at + n) + k) d ≡ get_or us (i + k) d) → ((k : ℕ) (d : X) → k < m → get_or ys ((from + n) + k) d ≡ get_or vs (j + k) d) → AreThose us i vs j m
part_are_those xs at ys from count n m us i vs j all within along along_other = record {
  each = λ k d lt.
      let off : (at + n) + k ≡ at + (n + k) = omega arith in
      let back : from + (n + k) ≡ (from + n) + k = omega arith in
      sym (along k d lt) ∙ ap (λ l. get_or xs l d) off ∙ all.each (n + k) d (omega (arith, within, lt)) ∙ ap (λ l. get_or ys l d) back ∙ along_other k d lt;
}

-- the cells of two values of lists in which so many are the same
pub cell_is_that : {X : Type 0} (f : X → Cell) (xs : List X) (at : ℕ) (ys : List X) (from count n : ℕ) (x y e : X) → AreThose (map f xs) at (map f ys) from count → n < count → at + n < length xs → from + n < length ys
    → x ≡ get_or xs (at + n) e → y ≡ get_or ys (from + n) e → f x ≡ f y
cell_is_that f xs at ys from count n x y e all in_count lt lt_other is is_other =
    let d = f e in
    ap f is ∙ sym (mapped_at f xs (at + n) d e lt) ∙ all.each n d in_count ∙ mapped_at f ys (from + n) d e lt_other ∙ sym (ap f is_other)

-- two texts of one cell are the same
pub text_same : (t u : Option (List ℕ)) → text_cell t ≡ text_cell u → t ≡ u
text_same None None h = refl
text_same None (Some u) h = absurd (cc)
text_same (Some t) None h = absurd (cc)
text_same (Some t) (Some u) h = cc

-- one null more
pub one_more_null : (cells : List Cell) (at n : ℕ) → AreNull cells at n → at + n < length cells → get_or cells (at + n) cell.Null ≡ cell.Null → AreNull cells at (n + 1)
one_more_null cells at n so_far lt here = record { each = λ k d in_count. null k d (nat_lt k n) refl in_count } where
  null : (k : ℕ) (d : Cell) (b : Bool) → nat_lt k n ≡ b → k < n + 1 → get_or cells (at + k) d ≡ cell.Null
  null k d true e in_count = so_far.each k d (ltb-true k n e)
  null k d false e in_count =
      let h = ltb-false k n e in
      let off : at + k ≡ at + n = omega (arith, h, in_count) in
      ap (λ l. get_or cells l d) off ∙ get_or_default cells (at + n) d cell.Null lt ∙ here

-- two rows, cell by cell
same_row : (cs ds : List Column) (i j : ℕ) → length cs ≡ length ds → ((n : ℕ) (c : Column) (d : Cell) → n < length cs → get_or (column_cells (get_or cs n c)) i d ≡ get_or (column_cells (get_or ds n c)) j d)
    → row_at (map column_cells cs) i ≡ row_at (map column_cells ds) j
same_row [] [] i j h each = refl
same_row [] (d ∷ ds) i j h each = absurd (omega (arith, h))
same_row (c ∷ cs) [] i j h each = absurd (omega (arith, h))
same_row (c ∷ cs) (d ∷ ds) i j h each =
    let first = each 0 c cell.Null (omega arith) in
    let rest = same_row cs ds i j (omega (arith, h)) (λ n x y lt. each (suc n) x y (omega (arith, lt))) in
    λ k. first k ∷ rest k

-- the rows of two blocks, by their tags and their columns
pub rows_are_those : (a : BlockParts) (at : ℕ) (b : BlockParts) (from n : ℕ) (ts us : List Tag) (cs ds : List Column) → ts ≡ a.tags → us ≡ b.tags → cs ≡ a.columns → ds ≡ b.columns
    → at + n ≤ length a.tags → from + n ≤ length b.tags → length cs ≡ length ds → AreThose ts at us from n
    → ((j : ℕ) → j < length cs → (c : Column) → AreThose (column_cells (get_or cs j c)) at (column_cells (get_or ds j c)) from n) → AreThose (block_rows a) at (block_rows b) from n
rows_are_those a at b from n ts us cs ds p q e f within within_other even tags columns = record {
  each = λ k d lt.
      let row =
      ap (λ l. row_at (map column_cells l) (at + k)) (sym e)
      ∙ same_row cs ds (at + k) (from + k) even (λ j c z in_columns. (columns j in_columns c).each k z lt)
      ∙ ap (λ l. row_at (map column_cells l) (from + k)) f in
      let tag = ap (λ l. get_or l (at + k) d.0) (sym p) ∙ tags.each k d.0 lt ∙ ap (λ l. get_or l (from + k) d.0) q in
      row_in_rows a.tags (map column_cells a.columns) (at + k) d d.0 (omega (arith, within, lt))
      ∙ (λ l. (tag l, row l))
      ∙ sym (row_in_rows b.tags (map column_cells b.columns) (from + k) d d.0 (omega (arith, within_other, lt)));
}

-- a column of each of two rows that are the same
cell_of_row : (cs ds : List Column) (i j : ℕ) → row_at (map column_cells cs) i ≡ row_at (map column_cells ds) j → (n : ℕ) (c : Column) → n < length cs
    → get_or (column_cells (get_or cs n c)) i cell.Null ≡ get_or (column_cells (get_or ds n c)) j cell.Null
cell_of_row [] ds i j same n c lt = absurd (omega (arith, lt))
cell_of_row (a ∷ cs) [] i j same n c lt = absurd (omega (arith, ap length same))
cell_of_row (a ∷ cs) (b ∷ ds) i j same zero c lt = ap head_cell same
cell_of_row (a ∷ cs) (b ∷ ds) i j same (suc n) c lt = cell_of_row cs ds i j (ap (drop 1) same) n c (omega (arith, lt))

-- two rows that are the same have as many cells
row_length : (cs : List Column) (i : ℕ) → length (row_at (map column_cells cs) i) ≡ length cs
row_length [] i = refl
row_length (c ∷ cs) i = ap suc (row_length cs i)

-- what the rows of two blocks that are the same have in common
module _ (a : BlockParts) (at : ℕ) (b : BlockParts) (from n : ℕ) (within : at + n ≤ length a.tags) (within_other : from + n ≤ length b.tags) (same : AreThose (block_rows a) at (block_rows b) from n) where
  row_same : (k : ℕ) (t : Tag) → k < n → ◌≡◌ {A = Tag × List Cell} (get_or a.tags (at + k) t, row_at (map column_cells a.columns) (at + k)) (get_or b.tags (from + k) t, row_at (map column_cells b.columns) (from + k))
  row_same k t lt =
      sym (row_in_rows a.tags (map column_cells a.columns) (at + k) (t, []) t (omega (arith, within, lt)))
      ∙ same.each k (t, []) lt
      ∙ row_in_rows b.tags (map column_cells b.columns) (from + k) (t, []) t (omega (arith, within_other, lt))

  pub tags_are_those : AreThose a.tags at b.tags from n
  tags_are_those = record { each = λ k t lt. ap (λ r. r.0) (row_same k t lt) }

  pub as_many_columns : 0 < n → length a.columns ≡ length b.columns
  as_many_columns some =
      let none : Tag = record { first = 0; second = 0; third = 0 } in
      sym (row_length a.columns (at + 0)) ∙ ap (λ r. length r.1) (row_same 0 none some) ∙ row_length b.columns (from + 0)

  pub cells_are_those : T (are_even (length a.tags) (map column_cells a.columns)) → T (are_even (length b.tags) (map column_cells b.columns)) → length a.columns ≡ length b.columns
      → (j : ℕ) (c : Column) → j < length a.columns → AreThose (column_cells (get_or a.columns j c)) at (column_cells (get_or b.columns j c)) from n
  cells_are_those even even_other many j c lt = record {
    each = λ k d in_count.
        let none : Tag = record { first = 0; second = 0; third = 0 } in
        let cells = column_cells (get_or a.columns j c) in
        let others = column_cells (get_or b.columns j c) in
        let len = even_at (length a.tags) a.columns j c even lt in
        let len_other = even_at (length b.tags) b.columns j c even_other (omega (arith, lt, many)) in
        get_or_default cells (at + k) d cell.Null (omega (arith, len, in_count, within))
        ∙ cell_of_row a.columns b.columns (at + k) (from + k) (ap (λ r. r.1) (row_same k none in_count)) j c lt
        ∙ get_or_default others (from + k) cell.Null d (omega (arith, len_other, in_count, within_other));
  }
