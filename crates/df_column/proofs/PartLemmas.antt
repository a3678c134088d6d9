-- Picks cut into parts.
use Rattle.std.proofs.Common.{◌≡◌, ℕ, zero, suc, ◌+◌, Bool, List, [], ◌∷◌, ◌++◌, take, drop, refl, sym, ap, subst, ◌∙◌, arith}
use Rattle.std.specs.Prelude.{T}
use Rattle.std.specs.List.{list_all}
use Rattle.std.specs.FinMap.{is_sorted}
use Rattle.std.proofs.lemmas.List.{map-append}
use Rattle.df_value.specs.declared.cell.Cell.{Cell}
use Rattle.df_value.specs.declared.cell.CellType.{CellType}
use Rattle.df_column.specs.BlockRows.{AddsRows}
use Rattle.df_column.specs.Blocks.{BlockParts}
use Rattle.df_column.specs.Rows.{AreRisingTags, picked_rows, origin_row, tagged_rows}
use Rattle.df_column.specs.Tags.{tag_cmp}
use Rattle.df_column.specs.declared.picks.Pick.{Pick}
use Rattle.df_column.specs.declared.tag.Tag.{Tag}
use Rattle.df_column.proofs.Bools.{T-both, T-first, T-second}
use Rattle.df_column.proofs.BlockRowLemmas.{adds_both, adds_same}
use Rattle.df_column.proofs.MergeLemmas.{sorted_keys}
use Rattle.df_column.proofs.RowLemmas.{tags_of_rows}

module _ {X : Type 0} where
  pub all_drop : (p : X → Bool) (n : ℕ) (xs : List X) → T (list_all p xs) → T (list_all p (drop n xs))
  all_drop p zero xs h = h
  all_drop p (suc n) [] h = tt
  all_drop p (suc n) (x ∷ xs) h = all_drop p n xs (T-second (p x) _ h)

  pub all_take : (p : X → Bool) (n : ℕ) (xs : List X) → T (list_all p xs) → T (list_all p (take n xs))
  all_take p zero xs h = tt
  all_take p (suc n) [] h = tt
  all_take p (suc n) (x ∷ xs) h = T-both _ _ (T-first (p x) _ h) (all_take p n xs (T-second (p x) _ h))

  pub all_part : (p : X → Bool) (m n : ℕ) (xs : List X) → T (list_all p xs) → T (list_all p (take m (drop n xs)))
  all_part p m n xs h = all_take p m (drop n xs) (all_drop p n xs h)

  pub take_parts : (m n : ℕ) (xs : List X) → take (m + n) xs ≡ take m xs ++ take n (drop m xs)
  take_parts zero n xs = let e : 0 + n ≡ n = omega arith in ap (λ k. take k xs) e
  take_parts (suc m) n [] = let e : suc m + n ≡ suc (m + n) = omega arith in ap (λ k. take {A = X} k []) e ∙ sym (take_none n)
    where
      take_none : (n : ℕ) → take {A = X} n [] ≡ []
      take_none zero = refl
      take_none (suc n) = refl
  take_parts (suc m) n (x ∷ xs) = let e : suc m + n ≡ suc (m + n) = omega arith in ap (λ k. take k (x ∷ xs)) e ∙ ap (λ r. x ∷ r) (take_parts m n xs)

-- the rows of one part more
pub adds_part : (dtypes : List CellType) (columns : List (List Cell)) (picks : List Pick) (from n m : ℕ) (old mid new : List BlockParts) → m ≡ n
    → AddsRows dtypes (picked_rows columns (take from picks)) old mid → AddsRows dtypes (picked_rows columns (take m (drop from picks))) mid new
    → AddsRows dtypes (picked_rows columns (take (from + n) picks)) old new
adds_part dtypes columns picks from n m old mid new e p q =
    let whole : picked_rows columns (take from picks) ++ picked_rows columns (take m (drop from picks)) ≡ picked_rows columns (take (from + n) picks) =
    sym (map-append (λ p. (p.tag, origin_row columns p.origin)) (take from picks) (take m (drop from picks)))
    ∙ ap (λ k. picked_rows columns (take from picks ++ take k (drop from picks))) e
    ∙ ap (picked_rows columns) (sym (take_parts from n picks)) in
    adds_same dtypes dtypes _ _ old new refl whole (adds_both dtypes _ _ old mid new p q)

-- the tags of rows that rise
pub rising_tags : (ts : List Tag) (columns : List (List Cell)) → T (is_sorted tag_cmp (tagged_rows ts columns)) → AreRisingTags ts
rising_tags ts columns h = subst T (sorted_keys (tagged_rows ts columns) (tagged_rows ts []) (tags_of_rows ts columns ∙ sym (tags_of_rows ts []))) h
