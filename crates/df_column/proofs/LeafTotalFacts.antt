-- What leaves add up to.
use Rattle.std.proofs.Common.{◌≡◌, ◌+◌, List, [], ◌∷◌, ◌++◌, length, refl, ap, ◌∙◌, arith, length-append}
use Rattle.df_tree.specs.Laws.{total}
use Rattle.df_column.specs.BlockLists.{blocks_of_leaves, rows_in}
use Rattle.df_column.specs.Blocks.{BlockParts}
use Rattle.df_column.specs.LeafTotalLaws.{same_totals}
use Rattle.df_column.specs.LeafTotals.{both_totals, capped, no_totals, totals_of}
use Rattle.df_column.proofs.BlockListLemmas.{rows_both}

pub totals_together : (ls : List (List BlockParts)) → total no_totals both_totals totals_of ls ≡ totals_of (blocks_of_leaves ls)
totals_together [] = refl
totals_together (l ∷ ls) =
    let rest = totals_together ls in
    let bs = blocks_of_leaves ls in
    let n = length-append l bs in
    let m = rows_both l bs in
    let p : capped (capped (length l) + (totals_of bs).blocks) ≡ capped (length (l ++ bs)) = omega (arith, n) in
    let q : capped (capped (rows_in l) + (totals_of bs).rows) ≡ capped (rows_in (l ++ bs)) = omega (arith, m) in
    ap (both_totals (totals_of l)) rest ∙ same_totals _ _ _ _ p q
