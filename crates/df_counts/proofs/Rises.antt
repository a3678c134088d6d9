-- The changes of counts that rises make.
use Rattle.std.proofs.Common.{◌≡◌, ℕ, ◌+◌, ◌%◌, ◌^◌, List, [], ◌∷◌, map, ap, sym, ◌∙◌}
use Rattle.std.specs.Prelude.{T, unwrap_or}
use Rattle.std.specs.List.{AllByRecursion}
use Rattle.std.specs.List.Sorted.{IsStrictlySortedBy}
use Rattle.std.specs.Map.{keys_of}
use Rattle.std.specs.declared.cmp.Ordering.{Ordering}
use Rattle.std.specs.declared.cmp.Ordering.TheVariants.{Less}
use Rattle.std.specs.FinMap.{find, is_sorted}
use Rattle.std.specs.FinMap.Entries.{below_all}
use Rattle.df_value.specs.CellOrder.{cell_cmp}
use Rattle.df_value.specs.declared.cell.Cell.{Cell}
use Rattle.df_column.specs.Changes.{after_changes, edit}
use Rattle.df_column.proofs.Bools.{T-both, is_lt_from_less}
use Rattle.df_counts.specs.Counts.{count_change, some_count}

all_below : {K X : Type 0} (R : K → K → Ordering) (k : K) (es : List (K × X)) → AllByRecursion (λ y. R k y ≡ Less) (keys_of es) → T (below_all R k es)
all_below R k [] h = tt
all_below R k (e ∷ es) h = T-both _ _ (is_lt_from_less _ h.0) (all_below R k es h.1)

-- the keys of a map of the standard library rise
pub keys_rise : {K X : Type 0} (R : K → K → Ordering) (es : List (K × X)) → IsStrictlySortedBy R (keys_of es) → T (is_sorted R es)
unfolding IsStrictlySortedBy
keys_rise R [] h = tt
keys_rise R (e ∷ es) h = T-both _ _ (all_below R e.0 es h.0) (keys_rise R es h.1)

-- one rise more that is put in its place
pub raised_more : (counts now next all rest result : List (Cell × ℕ)) (v : Cell) (r n m : ℕ) → all ≡ (v, r) ∷ rest → n ≡ unwrap_or (find cell_cmp v counts) 0 → m ≡ (n + r) % 2 ^ 64
    → next ≡ edit cell_cmp now v (some_count m) → after_changes cell_cmp now (map (count_change counts) all) ≡ result → after_changes cell_cmp next (map (count_change counts) rest) ≡ result
raised_more counts now next all rest result v r n m is had sum made leads =
    ap (λ es. after_changes cell_cmp es (map (count_change counts) rest)) made
    ∙ ap (λ k. after_changes cell_cmp (edit cell_cmp now v (some_count k)) (map (count_change counts) rest)) (sum ∙ ap (λ k. (k + r) % 2 ^ 64) had)
    ∙ ap (λ es. after_changes cell_cmp now (map (count_change counts) es)) (sym is)
    ∙ leads
