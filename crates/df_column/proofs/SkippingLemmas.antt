-- The cells of a block in one column, and what its greatest cell says of its rows.
use Rattle.std.proofs.Common.{◌≡◌, ℕ, zero, suc, ◌+◌, ◌<◌, ◌≤◌, Bool, true, false, cond, not, List, [], ◌∷◌, ◌++◌, length, map, take, drop, get_or, Some, None, refl, sym, ap, subst, ◌∙◌, arith, append_assoc, append-nil}
use Rattle.std.specs.Prelude.{T, ◌==◌, ◌&&◌, Option, filter, unwrap_or}
use Rattle.std.specs.List.{list_all}
use Rattle.std.specs.Ordering.{is_lt, is_gt}
use Rattle.std.proofs.lemmas.Bool.{eqb-true}
use Rattle.std.proofs.lemmas.List.{take_more}
use Rattle.std.proofs.lemmas.List.Elements.{filter-append}
use Rattle.std.proofs.lemmas.Option.{slice_get_past, unwrap_or-slice_get}
use Rattle.df_value.specs.CellOrder.{cell_cmp}
use Rattle.df_value.specs.Rows.{cell_at}
use Rattle.df_value.specs.declared.cell.Cell.{Cell}
use Rattle.df_value.specs.declared.cell.Cell.TheVariants as cell
use Rattle.df_column.specs.BlockMinMax.{IsMinOrMaxAt, cell_there}
use Rattle.df_column.specs.Blocks.{BlockParts, block_rows, rows_of_blocks}
use Rattle.df_column.specs.Columns.{column_cells}
use Rattle.df_column.specs.MinMaxCells.{cells_at, min_or_max_in, min_or_max_of, min_or_max_with, is_above, is_beyond, is_null, non_null, tags_above}
use Rattle.df_column.specs.Rows.{are_even, head_cell, later_cells, row_at, tagged_rows}
use Rattle.df_column.specs.declared.column.Column.{Column}
use Rattle.df_column.specs.declared.min_max.MinMax.{MinMax}
use Rattle.df_column.specs.declared.min_max.MinMax.TheVariants as min_max
use Rattle.df_column.specs.declared.tag.Tag.{Tag}
use Rattle.df_column.proofs.BlockRowLemmas.{rows_push}
use Rattle.df_column.proofs.Bools.{T-both, T-first, T-second, true_from_T}
use Rattle.df_column.proofs.CellTests.{above_below}
use Rattle.df_column.proofs.MinMaxLemmas.{above_step, min_or_max_with_none}
use Rattle.df_column.proofs.BlocksMinMax.{lowest_found, none_found, not_beyond}
use Rattle.df_column.proofs.Places.{mapped_at, mapped_length}
use Rattle.df_column.proofs.RowLemmas.{even_laters, length_rows, row_in_rows}

-- the cell of a row in one column
cell_of_row : (columns : List (List Cell)) (f : List Cell → Cell) (i : ℕ) (d : List Cell) → i < length columns → cell_at (Some i) (map f columns) ≡ f (get_or columns i d)
cell_of_row columns f i d lt = unwrap_or-slice_get (map f columns) i cell.Null ∙ mapped_at f columns i cell.Null d lt

no_cell_of_row : (columns : List (List Cell)) (f : List Cell → Cell) (i : ℕ) → length columns ≤ i → cell_at (Some i) (map f columns) ≡ cell.Null
no_cell_of_row columns f i le =
    let l = mapped_length f columns in
    ap (λ o. unwrap_or o cell.Null) (slice_get_past (map f columns) i (omega (arith, l, le)))

-- the cells of all rows in one column
even_column : (n : ℕ) (columns : List (List Cell)) (i : ℕ) (d : List Cell) → T (are_even n columns) → i < length columns → length (get_or columns i d) ≡ n
even_column n [] i d h lt = absurd (omega arith)
even_column n (c ∷ cs) zero d h lt = eqb-true (length c) n (true_from_T _ (T-first (length c == n) _ h))
even_column n (c ∷ cs) (suc i) d h lt = even_column n cs i d (T-second (length c == n) _ h) (omega arith)

no_cells : (cs : List Cell) → length cs ≡ 0 → [] ≡ cs
no_cells [] h = refl
no_cells (c ∷ cs) h = absurd (omega arith)

whole_cells : (n : ℕ) (cs : List Cell) → length cs ≡ suc n → head_cell cs ∷ later_cells cs ≡ cs
whole_cells n [] h = absurd (omega arith)
whole_cells n (c ∷ cs) h = refl

pub block_cells : (ts : List Tag) (columns : List (List Cell)) (i : ℕ) → T (are_even (length ts) columns) → i < length columns
    → cells_at (Some i) (map (λ r. r.1) (tagged_rows ts columns)) ≡ get_or columns i []
block_cells [] columns i even lt = no_cells (get_or columns i []) (even_column 0 columns i [] even lt)
block_cells (t ∷ ts) columns i even lt =
    let l = mapped_length later_cells columns in
    let first = cell_of_row columns head_cell i [] lt in
    let rest = block_cells ts (map later_cells columns) i (even_laters (length ts) columns even) (omega (arith, l, lt)) ∙ mapped_at later_cells columns i [] [] lt in
    (λ k. first k ∷ rest k) ∙ whole_cells (length ts) (get_or columns i []) (even_column (suc (length ts)) columns i [] even lt)

pub past_cells : (ts : List Tag) (columns : List (List Cell)) (i : ℕ) → length columns ≤ i → non_null (cells_at (Some i) (map (λ r. r.1) (tagged_rows ts columns))) ≡ []
past_cells [] columns i le = refl
past_cells (t ∷ ts) columns i le =
    let l = mapped_length later_cells columns in
    let rest = cells_at (Some i) (map (λ r. r.1) (tagged_rows ts (map later_cells columns))) in
    ap (λ c. non_null (c ∷ rest)) (no_cell_of_row columns head_cell i le)
    ∙ past_cells ts (map later_cells columns) i (omega (arith, l, le))

-- where no cell is above a value, no tag is
above_nonnull : (value : Cell) (cells : List Cell) → T (list_all (λ c. not (is_above value c)) (non_null cells)) → T (list_all (λ c. not (is_above value c)) cells)
above_nonnull value [] h = tt
above_nonnull value (c ∷ cs) h = by_null (is_null c) refl (above_nonnull value cs) where
  none : is_null c ≡ true → T (not (is_above value c))
  none e = subst (λ n. T (not (not n && is_lt (cell_cmp value c)))) (sym e) tt

  by_null : (b : Bool) → is_null c ≡ b → (T (list_all (λ c. not (is_above value c)) (non_null cs)) → T (list_all (λ c. not (is_above value c)) cs)) → T (list_all (λ c. not (is_above value c)) (c ∷ cs))
  by_null true e rest =
      let later : T (list_all (λ c. not (is_above value c)) (non_null cs)) = subst (λ n. T (list_all (λ c. not (is_above value c)) (cond (not n) (c ∷ non_null cs) (non_null cs)))) e h in
      T-both _ _ (none e) (rest later)
  by_null false e rest =
      let all : T (list_all (λ c. not (is_above value c)) (c ∷ non_null cs)) = subst (λ n. T (list_all (λ c. not (is_above value c)) (cond (not n) (c ∷ non_null cs) (non_null cs)))) e h in
      T-both _ _ (T-first (not (is_above value c)) _ all) (rest (T-second (not (is_above value c)) _ all))

pub none_above : (index : Option ℕ) (value : Cell) (es : List (Tag × List Cell)) → T (list_all (λ c. not (is_above value c)) (cells_at index (map (λ r. r.1) es))) → tags_above index value es ≡ []
none_above index value [] h = refl
none_above index value (e ∷ es) h =
    let first = T-first (not (is_above value (cell_at index e.1))) _ h in
    let rest = none_above index value es (T-second (not (is_above value (cell_at index e.1))) _ h) in
    passed (is_above value (cell_at index e.1)) first rest
  where
    passed : (b : Bool) → T (not b) → tags_above index value es ≡ [] → map (λ r. r.0) (cond b (e ∷ filter (λ r. is_above value (cell_at index r.1)) es) (filter (λ r. is_above value (cell_at index r.1)) es)) ≡ []
    passed true h r = absurd h
    passed false h r = r

pub none_past : (value : Cell) (ts : List Tag) (columns : List (List Cell)) (i : ℕ) → length columns ≤ i → tags_above (Some i) value (tagged_rows ts columns) ≡ []
none_past value ts columns i le =
    let cells = cells_at (Some i) (map (λ r. r.1) (tagged_rows ts columns)) in
    none_above (Some i) value (tagged_rows ts columns)
    (above_nonnull value cells (subst (λ cs. T (list_all (λ c. not (is_above value c)) cs)) (sym (past_cells ts columns i le)) tt))

-- the greatest cell is not above a value, or there is none
not_above_all : (value g : Cell) (zs : List Cell) → is_gt (cell_cmp g value) ≡ false → list_all (λ d. not (is_beyond min_max.Max d g)) zs ≡ true → T (list_all (λ c. not (is_above value c)) zs)
not_above_all value g [] h k = tt
not_above_all value g (z ∷ zs) h k =
    let first : T (not (is_beyond min_max.Max z g)) = T-first _ (list_all (λ d. not (is_beyond min_max.Max d g)) zs) (subst T (sym k) tt) in
    let rest : T (list_all (λ d. not (is_beyond min_max.Max d g)) zs) = T-second (not (is_beyond min_max.Max z g)) _ (subst T (sym k) tt) in
    let below : is_lt (cell_cmp value z) ≡ false = sym (above_below value z) ∙ not_beyond min_max.Max z g value (is_false _ first) h in
    T-both _ _ (subst (λ b. T (not (not (is_null z) && b))) (sym below) (no_both (is_null z))) (not_above_all value g zs h (true_from_T _ rest))
  where
    is_false : (b : Bool) → T (not b) → b ≡ false
    is_false true h = absurd h
    is_false false h = refl

    no_both : (b : Bool) → T (not (not b && false))
    no_both true = tt
    no_both false = tt

pub none_above_greatest : (value : Cell) (cells : List Cell) (at : ℕ) → is_gt (cell_cmp (get_or cells at cell.Null) value) ≡ false → IsMinOrMaxAt min_max.Max cells (Some at) → T (list_all (λ c. not (is_above value c)) cells)
none_above_greatest value cells at h is =
    above_nonnull value cells (not_above_all value (get_or cells at cell.Null) (non_null cells) h (lowest_found min_max.Max (non_null cells) (get_or cells at cell.Null) (sym is.here)))

pub none_above_nothing : (value : Cell) (cells : List Cell) → IsMinOrMaxAt min_max.Max cells None → T (list_all (λ c. not (is_above value c)) cells)
none_above_nothing value cells is =
    above_nonnull value cells (subst (λ cs. T (list_all (λ c. not (is_above value c)) cs)) (sym (none_found min_max.Max (non_null cells) (sym is.here))) tt)

-- the tags of a block's rows, one row more
pub block_above_step : (b : BlockParts) (i at : ℕ) (value : Cell) (cells : List Cell) (none : Tag) (out after all : List Tag) → i < length b.columns → at < length b.tags → get_or (map column_cells b.columns) i [] ≡ cells
    → after ≡ out ++ cond (is_above value (get_or cells at cell.Null)) (get_or b.tags at none ∷ []) []
    → out ++ tags_above (Some i) value (drop at (block_rows b)) ≡ all → after ++ tags_above (Some i) value (drop (at + 1) (block_rows b)) ≡ all
block_above_step b i at value cells none out after all lt in_rows is made done =
    let columns = map column_cells b.columns in
    let e : Tag × List Cell = (get_or b.tags at none, row_at columns at) in
    let l = length_rows b.tags columns in
    let lc = mapped_length column_cells b.columns in
    let there = cell_of_row columns (λ c. get_or c at cell.Null) i [] (omega (arith, lc, lt)) ∙ ap (λ c. get_or c at cell.Null) is in
    above_step (Some i) value (block_rows b) at e e out after all (omega (arith, l, in_rows)) (sym (row_in_rows b.tags columns at e none in_rows))
    (made ∙ ap (λ c. out ++ cond (is_above value c) (e.0 ∷ []) []) (sym there) ∙ ap (λ ts. out ++ ts) (one (is_above value (cell_at (Some i) (row_at columns at))) e))
    done
  where
    one : (b : Bool) (e : Tag × List Cell) → cond b (e.0 ∷ []) [] ≡ map (λ r. r.0) (cond b (e ∷ []) [])
    one true e = refl
    one false e = refl

-- where there is no index
pub no_min_or_max : (e : MinMax) (rows : List (List Cell)) → min_or_max_of e (cells_at None rows) ≡ None
no_min_or_max e [] = refl
no_min_or_max e (r ∷ rows) = no_min_or_max e rows

pub no_tags : (value : Cell) (es : List (Tag × List Cell)) → tags_above None value es ≡ []
no_tags value [] = refl
no_tags value (e ∷ es) = no_tags value es

-- one block more
map-append : {X Y : Type 0} (f : X → Y) (xs ys : List X) → map f (xs ++ ys) ≡ map f xs ++ map f ys
map-append f [] ys = refl
map-append f (x ∷ xs) ys = ap (λ r. f x ∷ r) (map-append f xs ys)

pub tags-append : (index : Option ℕ) (value : Cell) (es fs : List (Tag × List Cell)) → tags_above index value (es ++ fs) ≡ tags_above index value es ++ tags_above index value fs
tags-append index value es fs =
    ap (map (λ r. r.0)) (filter-append (λ r. is_above value (cell_at index r.1)) es fs)
    ∙ map-append (λ r. r.0) (filter (λ r. is_above value (cell_at index r.1)) es) (filter (λ r. is_above value (cell_at index r.1)) fs)

pub cells-append : (index : Option ℕ) (es fs : List (Tag × List Cell)) → cells_at index (map (λ r. r.1) (es ++ fs)) ≡ cells_at index (map (λ r. r.1) es) ++ cells_at index (map (λ r. r.1) fs)
cells-append index es fs = ap (cells_at index) (map-append (λ r. r.1) es fs) ∙ map-append (cell_at index) (map (λ r. r.1) es) (map (λ r. r.1) fs)

pub rows_more : (bs : List BlockParts) (k : ℕ) (b : BlockParts) → k < length bs → b ≡ get_or bs k b → rows_of_blocks (take (k + 1) bs) ≡ rows_of_blocks (take k bs) ++ block_rows b
rows_more bs k b lt is = ap rows_of_blocks (take_more bs k b lt ∙ ap (λ c. take k bs ++ c ∷ []) (sym is)) ∙ rows_push (take k bs) b

-- the tags of more rows
pub tags_more : (index : Option ℕ) (value : Cell) (rows more all : List (Tag × List Cell)) (old out after : List Tag) → all ≡ rows ++ more → out ≡ old ++ tags_above index value rows → after ≡ out ++ tags_above index value more → after ≡ old ++ tags_above index value all
tags_more index value rows more all old out after e so_far made =
    made ∙ ap (λ ts. ts ++ tags_above index value more) so_far ∙ append_assoc old (tags_above index value rows) (tags_above index value more)
    ∙ ap (λ ts. old ++ ts) (sym (tags-append index value rows more)) ∙ ap (λ es. old ++ tags_above index value es) (sym e)

-- where the greatest cell is not above a value, no cell is
pub none_above_cell : (value g : Cell) (cells : List Cell) → is_gt (cell_cmp g value) ≡ false → Some g ≡ min_or_max_of min_max.Max cells → T (list_all (λ c. not (is_above value c)) cells)
none_above_cell value g cells h is =
    above_nonnull value cells (not_above_all value g (non_null cells) h (lowest_found min_max.Max (non_null cells) g (sym is)))

pub none_above_none : (value : Cell) (cells : List Cell) → None ≡ min_or_max_of min_max.Max cells → T (list_all (λ c. not (is_above value c)) cells)
none_above_none value cells is =
    above_nonnull value cells (subst (λ cs. T (list_all (λ c. not (is_above value c)) cs)) (sym (none_found min_max.Max (non_null cells) (sym is))) tt)

-- the cells of a block's rows are those of its column
pub column_rows : (b : BlockParts) (i : ℕ) (c : Column) → T (are_even (length b.tags) (map column_cells b.columns)) → i < length b.columns → c ≡ get_or b.columns i c → cells_at (Some i) (map (λ r. r.1) (block_rows b)) ≡ column_cells c
column_rows b i c even lt is =
    let l = mapped_length column_cells b.columns in
    block_cells b.tags (map column_cells b.columns) i even (omega (arith, l, lt)) ∙ mapped_at column_cells b.columns i [] c lt ∙ ap column_cells (sym is)

pub min_or_max_there : (e : MinMax) (b : BlockParts) (i : ℕ) (c : Column) (at : Option ℕ) → T (are_even (length b.tags) (map column_cells b.columns)) → i < length b.columns → c ≡ get_or b.columns i c → IsMinOrMaxAt e (column_cells (get_or b.columns i c)) at
    → cell_there (column_cells c) at ≡ min_or_max_of e (cells_at (Some i) (map (λ r. r.1) (block_rows b)))
min_or_max_there e b i c at even lt is h =
    ap (λ c. cell_there (column_cells c) at) is ∙ h.here ∙ ap (min_or_max_of e) (ap column_cells (sym is) ∙ sym (column_rows b i c even lt is))

pub past_columns : (e : MinMax) (best : Option Cell) (b : BlockParts) (i : ℕ) → length b.columns ≤ i → min_or_max_with e best (min_or_max_of e (cells_at (Some i) (map (λ r. r.1) (block_rows b)))) ≡ best
past_columns e best b i le =
    let l = mapped_length column_cells b.columns in
    ap (λ zs. min_or_max_with e best (min_or_max_in e zs)) (past_cells b.tags (map column_cells b.columns) i (omega (arith, l, le))) ∙ min_or_max_with_none e best

pub no_tags_past : (value : Cell) (b : BlockParts) (i : ℕ) (out : List Tag) → length b.columns ≤ i → out ≡ out ++ tags_above (Some i) value (block_rows b)
no_tags_past value b i out le =
    let l = mapped_length column_cells b.columns in
    sym (ap (λ ts. out ++ ts) (none_past value b.tags (map column_cells b.columns) i (omega (arith, l, le))) ∙ append-nil out)

pub no_tags_above : (value : Cell) (b : BlockParts) (i : ℕ) (c : Column) (out : List Tag) → T (are_even (length b.tags) (map column_cells b.columns)) → i < length b.columns → c ≡ get_or b.columns i c
    → T (list_all (λ c. not (is_above value c)) (column_cells c)) → out ≡ out ++ tags_above (Some i) value (block_rows b)
no_tags_above value b i c out even lt is h =
    sym (ap (λ ts. out ++ ts) (none_above (Some i) value (block_rows b) (subst (λ cs. T (list_all (λ c. not (is_above value c)) cs)) (sym (column_rows b i c even lt is)) h)) ∙ append-nil out)

-- what stands at an index
pub at_itself : {X : Type 0} (xs : List X) (i : ℕ) (d : X) → i < length xs → get_or xs i d ≡ get_or xs i (get_or xs i d)
at_itself [] i d lt = absurd (omega arith)
at_itself (x ∷ xs) zero d lt = refl
at_itself (x ∷ xs) (suc i) d lt = at_itself xs i d (omega arith)
