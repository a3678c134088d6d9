-- The least and the greatest cell of blocks one behind the other.
use Rattle.std.proofs.Common.{◌≡◌, ℕ, ◌+◌, ◌<◌, ◌≤◌, List, [], ◌∷◌, ◌++◌, append-nil, length, length-append, map, drop, take, get_or, ltb, true, false, refl, sym, ap, ◌∙◌, arith}
use Rattle.std.specs.Prelude.{Option, Some, None}
use Rattle.std.proofs.lemmas.Bool.{ltb-false, ltb-true}
use Rattle.std.proofs.lemmas.List.{get_or_append_left, get_or_push}
use Rattle.df_value.specs.declared.cell.Cell.{Cell}
use Rattle.df_column.specs.BlockLists.{AreMinMaxCells, min_or_max_cell}
use Rattle.df_column.specs.Blocks.{BlockParts, block_rows, rows_of_blocks}
use Rattle.df_column.specs.MinMaxCells.{cells_at, min_or_max_of, min_or_max_with}
use Rattle.df_column.specs.declared.min_max.MinMax.{MinMax}
use Rattle.df_column.proofs.BlocksMinMax.{min_or_max-append, min_or_max_of_three}
use Rattle.df_column.proofs.ListParts.{part_more}
use Rattle.df_column.proofs.SharedLemmas.{rows_append}
use Rattle.df_column.proofs.SkippingLemmas.{cells-append}

pub min_or_max_both : (e : MinMax) (bs cs : List BlockParts) (i : ℕ) → min_or_max_cell e (bs ++ cs) i ≡ min_or_max_with e (min_or_max_cell e bs i) (min_or_max_cell e cs i)
min_or_max_both e bs cs i =
    ap (λ rs. min_or_max_of e (cells_at (Some i) (map (λ r. r.1) rs))) (rows_append bs cs)
    ∙ ap (min_or_max_of e) (cells-append (Some i) (rows_of_blocks bs) (rows_of_blocks cs))
    ∙ min_or_max-append e (cells_at (Some i) (map (λ r. r.1) (rows_of_blocks bs))) (cells_at (Some i) (map (λ r. r.1) (rows_of_blocks cs)))

-- one block more of those between two indexes
pub block_min_or_max : (e : MinMax) (bs : List BlockParts) (low k i : ℕ) (b : BlockParts) (first best next : Option Cell) → low ≤ k → k < length bs → b ≡ get_or bs k b
    → best ≡ min_or_max_with e first (min_or_max_cell e (drop low (take k bs)) i)
    → next ≡ min_or_max_with e best (min_or_max_of e (cells_at (Some i) (map (λ r. r.1) (block_rows b))))
    → next ≡ min_or_max_with e first (min_or_max_cell e (drop low (take (k + 1) bs)) i)
block_min_or_max e bs low k i b first best next le lt is so_far made =
    let old = min_or_max_cell e (drop low (take k bs)) i in
    let own = min_or_max_of e (cells_at (Some i) (map (λ r. r.1) (block_rows b))) in
    let more : min_or_max_cell e (drop low (take (k + 1) bs)) i ≡ min_or_max_with e old own =
    ap (λ cs. min_or_max_cell e cs i) (part_more bs low k b le lt is)
    ∙ min_or_max_both e (drop low (take k bs)) (b ∷ []) i
    ∙ ap (λ rs. min_or_max_with e old (min_or_max_of e (cells_at (Some i) (map (λ r. r.1) rs)))) (append-nil (block_rows b)) in
    made ∙ ap (λ o. min_or_max_with e o own) so_far ∙ min_or_max_of_three e first old own ∙ ap (min_or_max_with e first) (sym more)

-- those of two runs
pub min_or_max_of_two : (e : MinMax) (all a b : List BlockParts) (i : ℕ) (first x y : Option Cell) → all ≡ a ++ b → x ≡ min_or_max_with e first (min_or_max_cell e a i) → y ≡ min_or_max_with e x (min_or_max_cell e b i) → y ≡ min_or_max_with e first (min_or_max_cell e all i)
min_or_max_of_two e all a b i first x y cut one two =
    two ∙ ap (λ o. min_or_max_with e o (min_or_max_cell e b i)) one ∙ min_or_max_of_three e first (min_or_max_cell e a i) (min_or_max_cell e b i)
    ∙ ap (min_or_max_with e first) (sym (min_or_max_both e a b i) ∙ ap (λ bs. min_or_max_cell e bs i) (sym cut))

-- one column more of those whose least or greatest cells are there
pub cells_more : (e : MinMax) (bs : List BlockParts) (cells : List (Option Cell)) (c : Option Cell) (n : ℕ) → length cells ≡ n → AreMinMaxCells e bs cells → c ≡ min_or_max_cell e bs n → AreMinMaxCells e bs (cells ++ c ∷ [])
cells_more e bs cells c n l h is = λ i lt.
    let k = length-append cells (c ∷ []) in
    elim (ltb i n) as (λ b. ltb i n ≡ b → get_or (cells ++ c ∷ []) i None ≡ min_or_max_cell e bs i) [
      | true ↦ λ t. let less : i < length cells = omega (arith, l, ltb-true i n t) in get_or_append_left cells (c ∷ []) None i less ∙ h i less
      | false ↦ λ f. let at : i ≡ n = omega (arith, l, k, lt, ltb-false i n f) in get_or_push cells c None i (l ∙ sym at) ∙ is ∙ ap (min_or_max_cell e bs) (sym at)
    ] refl
