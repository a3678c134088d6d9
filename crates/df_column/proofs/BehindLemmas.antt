-- New rows behind all rows of a block.
use Rattle.std.proofs.Common.{◌≡◌, ℕ, suc, ◌-◌, ◌<◌, List, [], ◌∷◌, ◌++◌, length, map, take, drop, get_or, refl, sym, ap, subst, ◌∙◌, arith, append-nil, append_assoc}
use Rattle.std.specs.Prelude.{T}
use Rattle.std.proofs.lemmas.List.{map-append, take-append-drop}
use Rattle.std.specs.Ordering.{is_lt}
use Rattle.std.specs.declared.cmp.Ordering.TheVariants.{Less}
use Rattle.std.specs.FinMap.{is_sorted}
use Rattle.df_value.specs.declared.cell.Cell.{Cell}
use Rattle.df_value.specs.declared.cell.CellType.{CellType}
use Rattle.df_column.specs.BlockRows.{AddsRows}
use Rattle.df_column.specs.Blocks.{BlockParts}
use Rattle.df_column.specs.Changes.{all_under, after_changes}
use Rattle.df_column.specs.Picks.{AreWithin, is_within}
use Rattle.df_column.specs.Rows.{picked_rows, origin_row, tagged_rows}
use Rattle.df_column.specs.Tables.{AreRising, entry_change}
use Rattle.df_column.specs.Tags.{tag_cmp}
use Rattle.df_column.specs.declared.entry.Entry.{Entry}
use Rattle.df_column.specs.declared.picks.Origin.{Origin}
use Rattle.df_column.specs.declared.picks.Origin.TheVariants.{Old, New}
use Rattle.df_column.specs.declared.picks.Pick.{Pick}
use Rattle.df_column.specs.declared.tag.Tag.{Tag}
use Rattle.df_column.proofs.BlockRowLemmas.{adds_both, adds_same}
use Rattle.df_column.proofs.Bools.{T-both, T-first, T-second, less_from_is_lt, is_lt_from_less}
use Rattle.df_column.proofs.ChangeRuns.{after_changes-right, apart_at, sorted_from}
use Rattle.df_column.proofs.PartLemmas.{all_drop}
use Rattle.df_column.proofs.Pools.{lt_from}
use Rattle.df_column.specs.TagOrder.{tag_total}

-- picks of new rows alone are within any number of old rows
within_one : (n : ℕ) (o : Origin) → T (is_within 0 o) → T (is_within n o)
within_one n (Old i) h = let lt = lt_from i 0 h in absurd (omega (arith, lt))
within_one n (New row) h = tt

pub within_any : (n : ℕ) (picks : List Pick) → AreWithin 0 picks → AreWithin n picks
within_any n [] h = tt
within_any n (p ∷ picks) h = T-both _ _ (within_one n p.origin (T-first (is_within 0 p.origin) _ h)) (within_any n picks (T-second (is_within 0 p.origin) _ h))

-- rows whose last tag is below a tag are all below it
under_last : (ts : List Tag) (columns : List (List Cell)) (k d : Tag) → T (is_sorted tag_cmp (tagged_rows ts columns)) → 0 < length ts → tag_cmp (get_or ts (length ts - 1) d) k ≡ Less → T (all_under tag_cmp k (tagged_rows ts columns))
under_last [] columns k d h some less = absurd (omega arith)
under_last (t ∷ []) columns k d h some less = T-both _ _ (is_lt_from_less _ less) tt
under_last (t ∷ (u ∷ ts)) columns k d h some less =
    let e : suc (suc (length ts)) - 1 ≡ suc (suc (length ts) - 1) = omega arith in
    let later = under_last (u ∷ ts) _ k d (T-second _ _ h) (omega arith) (ap (λ i. tag_cmp (get_or (t ∷ (u ∷ ts)) i d) k) (sym e) ∙ less) in
    let first : tag_cmp t u ≡ Less = less_from_is_lt _ (T-first (is_lt (tag_cmp t u)) _ (T-first _ _ h)) in
    let next : tag_cmp u k ≡ Less = less_from_is_lt _ (T-first (is_lt (tag_cmp u k)) _ later) in
    T-both _ _ (is_lt_from_less _ (tag_total.trans t u k first next)) later

pub rows_behind : (ts : List Tag) (columns : List (List Cell)) (entries : List Entry) (d : Tag) (n : Entry) → T (is_sorted tag_cmp (tagged_rows ts columns)) → AreRising entries → 0 < length ts
    → T (is_lt (tag_cmp (get_or ts (length ts - 1) d) (get_or entries 0 n).tag))
    → tagged_rows ts columns ++ after_changes tag_cmp [] (map entry_change entries) ≡ after_changes tag_cmp (tagged_rows ts columns) (map entry_change entries)
rows_behind ts columns [] d n h rising some less = append-nil (tagged_rows ts columns)
rows_behind ts columns (e ∷ es) d n h rising some less =
    let under = under_last ts columns e.tag d h some (less_from_is_lt _ less) in
    let from = sorted_from tag_total e.tag (entry_change e) (map entry_change es) refl rising in
    let rows = tagged_rows ts columns in
    sym (after_changes-right tag_total rows [] (map entry_change (e ∷ es)) (apart_at tag_total e.tag rows (map entry_change (e ∷ es)) under from))
    ∙ ap (λ r. after_changes tag_cmp r (map entry_change (e ∷ es))) (append-nil rows)

-- the two parts of picks
pub adds_parts : (dtypes : List CellType) (columns : List (List Cell)) (first : List (Tag × List Cell)) (xs ys picks : List Pick) (n : ℕ) (old mid new : List BlockParts) → xs ≡ take n picks → ys ≡ drop n picks
    → AddsRows dtypes (first ++ picked_rows columns xs) old mid → AddsRows dtypes (picked_rows columns ys) mid new → AddsRows dtypes (first ++ picked_rows columns picks) old new
adds_parts dtypes columns first xs ys picks n old mid new e f p q =
    let whole : (first ++ picked_rows columns xs) ++ picked_rows columns ys ≡ first ++ picked_rows columns picks =
    append_assoc first (picked_rows columns xs) (picked_rows columns ys)
    ∙ ap (λ r. first ++ r) (sym (map-append (λ p. (p.tag, origin_row columns p.origin)) xs ys) ∙ ap (picked_rows columns) (ap (λ r. r ++ ys) e ∙ ap (λ r. take n picks ++ r) f ∙ take-append-drop n picks)) in
    adds_same dtypes dtypes _ _ old new refl whole (adds_both dtypes _ _ old mid new p q)

pub within_rest : (n m : ℕ) (picks rest : List Pick) → rest ≡ drop m picks → AreWithin 0 picks → AreWithin n rest
within_rest n m picks rest e h = within_any n rest (subst (AreWithin 0) (sym e) (all_drop (λ p. is_within 0 p.origin) m picks h))
