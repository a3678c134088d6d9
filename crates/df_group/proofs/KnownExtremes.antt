-- The least or greatest cell of rows, from that of the rows before.
use Rattle.std.proofs.Common.{◌≡◌, ℕ, suc, ◌<◌, Bool, true, false, cond, List, [], ◌∷◌, Option, Some, None, drop, get_or, length, refl, sym, ap, subst, ◌∙◌, drop-cons}
use Rattle.std.specs.Prelude.{IfSome, ◌&&◌, find, fold, not, option_map, unwrap_or}
use Rattle.df_value.specs.declared.cell.Cell.{Cell}
use Rattle.df_value.specs.declared.cell.Cell.TheVariants as cell
use Rattle.df_value.specs.Schemas.{column_index}
use Rattle.df_value.specs.declared.cell.CellType.{CellType}
use Rattle.df_column.specs.declared.entry.Entry.{Entry}
use Rattle.df_counts.specs.Counts.{value_in}
use Rattle.df_expr.specs.Value.{is_null}
use Rattle.df_ops.specs.Aggregates.{cells_of, is_min_or_max, min_or_max_in, min_or_max_of, non_null}
use Rattle.df_ops.specs.LoopStates.{min_or_max_with}
use Rattle.df_ops.specs.Tables.{aggregate_cell}
use Rattle.df_ops.specs.declared.agg.Agg.{Agg}
use Rattle.df_ops.specs.declared.agg.Agg.TheVariants as agg
use Rattle.df_ops.specs.declared.min_max.MinMax.{MinMax}
use Rattle.df_ops.specs.declared.min_max.MinMax.TheVariants as min_max
use Rattle.df_group.specs.Totals.{IsCellBefore, IsExtremeBefore, extreme_after, extreme_after_entry, extreme_of_rows, is_as_good, may_be_best, value_of}

-- what is found among cells that are not null is not null
found : (p : Cell → Bool) (cells : List Cell) (c : Cell) → find p (non_null cells) ≡ Some c → is_null c ≡ false
found p [] c h = absurd (cc h)
found p (d ∷ cells) c h = outer (found p cells c) (is_null d) refl h where
  inner : (find p (non_null cells) ≡ Some c → is_null c ≡ false) → (b : Bool) → is_null d ≡ false → cond b (Some d) (find p (non_null cells)) ≡ Some c → is_null c ≡ false
  inner rest true n k = let same : d ≡ c = cc k in subst (λ x. is_null x ≡ false) same n
  inner rest false n k = rest k

  outer : (find p (non_null cells) ≡ Some c → is_null c ≡ false) → (b : Bool) → is_null d ≡ b → find p (cond (not b) (d ∷ non_null cells) (non_null cells)) ≡ Some c → is_null c ≡ false
  outer rest true n k = rest k
  outer rest false n k = inner rest (p d) n k

value_again : (x : Option Cell) → IfSome x (λ c. is_null c ≡ false) → value_in (unwrap_or x cell.Null) ≡ x
value_again None h = refl
value_again (Some c) h = ap (λ b. cond b None (Some c)) h

if_found : (p : Cell → Bool) (cells : List Cell) (x : Option Cell) → find p (non_null cells) ≡ x → IfSome x (λ c. is_null c ≡ false)
if_found p cells None h = tt
if_found p cells (Some c) h = found p cells c h

value_of_extreme : (e : MinMax) (cells : List Cell) → value_in (min_or_max_of e cells) ≡ min_or_max_in e (non_null cells)
value_of_extreme e cells = value_again (min_or_max_in e (non_null cells)) (if_found (is_min_or_max e (non_null cells)) cells (min_or_max_in e (non_null cells)) refl)

-- where a row goes that may have it, and none as good comes in its place, it is not known any more
not_known : (e : MinMax) (index : Option ℕ) (entries : List Entry) → fold (extreme_after_entry e index) None entries ≡ None
not_known e index [] = refl
not_known e index (entry ∷ entries) = not_known e index entries

pub not_known_from : (e : MinMax) (index : Option ℕ) (best : Option Cell) (entries : List Entry) (i : ℕ) (x : Entry) → i < length entries → x ≡ get_or entries i x → (may_be_best e best (value_of index x.old) && not (is_as_good e best (value_of index x.new))) ≡ true → extreme_after e index best (drop i entries) ≡ None
not_known_from e index best entries i x lt is may =
    ap (extreme_after e index best) (drop-cons entries i x lt ∙ ap (λ y. y ∷ drop (suc i) entries) (sym is))
    ∙ ap (λ b. fold (extreme_after_entry e index) (cond b None (Some (min_or_max_with e best (value_of index x.new)))) (drop (suc i) entries)) may
    ∙ not_known e index (drop (suc i) entries)

-- the answer of a walk over the entries, where it is known
pub extreme_if : {X : Type 0} (of : X → Option Cell) (e : MinMax) (index : Option ℕ) (k : Cell) (entries : List Entry) (rows : List (List Cell)) (answer : Option X) → IsExtremeBefore e index k entries rows
    → option_map of answer ≡ extreme_after e index (value_in k) entries
    → IfSome answer (λ best. unwrap_or (of best) cell.Null ≡ min_or_max_of e (cells_of index rows))
extreme_if of e index k entries rows None h is = tt
extreme_if of e index k entries rows (Some best) h is =
    let from : value_in k ≡ extreme_of_rows e index h.old = ap value_in h.is ∙ value_of_extreme e (cells_of index h.old) in
    let known : extreme_after e index (extreme_of_rows e index h.old) entries ≡ Some (of best) = ap (λ b. extreme_after e index b entries) (sym from) ∙ sym is in
    ap (λ o. unwrap_or o cell.Null) (subst (λ o. IfSome o (λ b. b ≡ extreme_of_rows e index rows)) known (h.lead.extremes e index))

-- a least or greatest cell before, from a cell that is this aggregate
of_end : (e : MinMax) (columns : List (List ℕ × CellType)) (index : Option ℕ) (a : Agg) (known : Option Cell) (entries : List Entry) (rows : List (List Cell))
    → ((old : List (List Cell)) → aggregate_cell columns old a ≡ min_or_max_of e (cells_of index old))
    → IfSome known (λ k. IsCellBefore columns a k entries rows) → IfSome known (λ k. IsExtremeBefore e index k entries rows)
of_end e columns index a None entries rows same h = tt
of_end e columns index a (Some k) entries rows same h = record { old = h.old; is = h.is ∙ same h.old; lead = h.lead }

pub least_before : (columns : List (List ℕ × CellType)) (name : List ℕ) (index : Option ℕ) (a : Agg) (known : Option Cell) (entries : List Entry) (rows : List (List Cell)) → a ≡ agg.Min name → index ≡ column_index name columns
    → IfSome known (λ k. IsCellBefore columns a k entries rows) → IfSome known (λ k. IsExtremeBefore min_max.Min index k entries rows)
least_before columns name index a known entries rows is at h =
    of_end min_max.Min columns index a known entries rows (λ old. ap (aggregate_cell columns old) is ∙ ap (λ i. min_or_max_of min_max.Min (cells_of i old)) (sym at)) h

pub greatest_before : (columns : List (List ℕ × CellType)) (name : List ℕ) (index : Option ℕ) (a : Agg) (known : Option Cell) (entries : List Entry) (rows : List (List Cell)) → a ≡ agg.Max name → index ≡ column_index name columns
    → IfSome known (λ k. IsCellBefore columns a k entries rows) → IfSome known (λ k. IsExtremeBefore min_max.Max index k entries rows)
greatest_before columns name index a known entries rows is at h =
    of_end min_max.Max columns index a known entries rows (λ old. ap (aggregate_cell columns old) is ∙ ap (λ i. min_or_max_of min_max.Max (cells_of i old)) (sym at)) h
