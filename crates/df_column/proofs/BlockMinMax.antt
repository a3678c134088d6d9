-- Where the least and the greatest cell of a column stand, one cell more, those of more columns, and those known of a splice.
use Rattle.std.proofs.Common.{◌≡◌, ℕ, zero, suc, ◌+◌, ◌<◌, ◌≤◌, Bool, true, false, cond, List, [], ◌∷◌, ◌++◌, length, map, take, drop, get_or, Some, refl, sym, ap, subst, ◌∙◌, arith}
use Rattle.std.specs.Prelude.{T, ◌==◌, Option}
use Rattle.std.proofs.lemmas.Bool.{eqb-true}
use Rattle.std.proofs.lemmas.List.{take-append-drop, take_more}
use Rattle.df_value.specs.declared.cell.Cell.{Cell}
use Rattle.df_value.specs.declared.cell.Cell.TheVariants as cell
use Rattle.df_column.specs.BlockMinMax.{AreMinMax, AreMinMaxOf, AreKnown, AreSplicedFrom, IsMinOrMaxAt, IsMinOrMaxBeside, IsSplicedFrom, cell_there, no_min_max}
use Rattle.df_column.specs.Columns.{column_cells}
use Rattle.df_column.specs.MinMaxCells.{min_or_max_of, min_or_max_with, is_better}
use Rattle.df_column.specs.Picks.{origin_cell, picked_cells}
use Rattle.df_column.specs.Rows.{are_even, spliced_columns}
use Rattle.df_column.specs.declared.column.Column.{Column}
use Rattle.df_column.specs.declared.min_max.MinMax.{MinMax}
use Rattle.df_column.specs.declared.min_max.MinMaxPlaces.{MinMaxPlaces}
use Rattle.df_column.specs.declared.picks.Pick.{Pick}
use Rattle.df_column.proofs.Bools.{T-first, T-second, true_from_T}
use Rattle.df_column.proofs.MinMaxLemmas.{better_is}
use Rattle.df_column.proofs.Places.{mapped_at, mapped_length}
use Rattle.df_column.proofs.SplicedMinMax.{min_or_max_among}

-- one cell more is looked at
pub beside_step : (e : MinMax) (cells : List Cell) (high : ℕ) (best : Option ℕ) (at : ℕ) (b : Bool) → at < length cells → IsMinOrMaxBeside e cells at high best
    → b ≡ is_better e (cell_there cells best) (get_or cells at cell.Null) → IsMinOrMaxBeside e cells (at + 1) high (cond b (Some at) best)
beside_step e cells high best at b lt h is = either b made where
  made : min_or_max_of e (take (at + 1) cells ++ drop high cells) ≡ cond b (Some (get_or cells at cell.Null)) (cell_there cells best)
  made =
      ap (λ cs. min_or_max_of e (cs ++ drop high cells)) (take_more cells at cell.Null lt)
      ∙ min_or_max_among e (take at cells) (drop high cells) (get_or cells at cell.Null ∷ [])
      ∙ ap (λ o. min_or_max_with e o (min_or_max_of e (get_or cells at cell.Null ∷ []))) (sym h.here)
      ∙ better_is e (cell_there cells best) (get_or cells at cell.Null) b (sym is)

  either : (b : Bool) → min_or_max_of e (take (at + 1) cells ++ drop high cells) ≡ cond b (Some (get_or cells at cell.Null)) (cell_there cells best)
      → IsMinOrMaxBeside e cells (at + 1) high (cond b (Some at) best)
  either true m = record { within = lt; here = sym m }
  either false m = record { within = h.within; here = sym m }

pub beside_end : (e : MinMax) (cells : List Cell) (high : ℕ) (best : Option ℕ) (at : ℕ) → at ≡ high → IsMinOrMaxBeside e cells at high best → IsMinOrMaxAt e cells best
beside_end e cells high best at same h =
    record { within = h.within; here = h.here ∙ ap (λ n. min_or_max_of e (take n cells ++ drop high cells)) same ∙ ap (min_or_max_of e) (take-append-drop high cells) }

-- one column more
pub min_max_last : (cs : List (List Cell)) (xs : List MinMaxPlaces) (c : List Cell) (x : MinMaxPlaces) → AreMinMax cs xs → AreMinMaxOf c x → AreMinMax (cs ++ c ∷ []) (xs ++ x ∷ [])
min_max_last [] [] c x h k = (k, tt)
min_max_last [] (y ∷ xs) c x h k = absurd h
min_max_last (d ∷ cs) [] c x h k = absurd h
min_max_last (d ∷ cs) (y ∷ xs) c x h k = (h.0, min_max_last cs xs c x h.1 k)

pub columns_more : (columns : List Column) (at : ℕ) (c : Column) → at < length columns → c ≡ get_or columns at c → map column_cells (take (at + 1) columns) ≡ map column_cells (take at columns) ++ column_cells c ∷ []
columns_more columns at c lt e =
    ap (map column_cells) (take_more columns at c lt ∙ ap (λ d. take at columns ++ d ∷ []) (sym e))
    ∙ mapped_last (take at columns)
  where
    mapped_last : (cs : List Column) → map column_cells (cs ++ c ∷ []) ≡ map column_cells cs ++ column_cells c ∷ []
    mapped_last [] = refl
    mapped_last (d ∷ cs) = ap (λ r. column_cells d ∷ r) (mapped_last cs)

-- those of one column
pub min_max_at : (cs : List (List Cell)) (xs : List MinMaxPlaces) (i : ℕ) → AreMinMax cs xs → i < length cs → record { within : i < length xs; are : (d : List Cell) (x : MinMaxPlaces) → AreMinMaxOf (get_or cs i d) (get_or xs i x) }
min_max_at [] xs i h lt = absurd (omega arith)
min_max_at (c ∷ cs) [] i h lt = absurd h
min_max_at (c ∷ cs) (x ∷ xs) zero h lt = record { within = omega arith; are = λ d y. h.0 }
min_max_at (c ∷ cs) (x ∷ xs) (suc i) h lt = let r = min_max_at cs xs i h.1 (omega arith) in record { within = omega (arith, r.within); are = r.are }

-- what is known of each of some columns: of all; of those of no cells
pub known_of : (columns : List (List Cell)) (known : List MinMaxPlaces) → AreMinMax columns known → AreKnown columns known
known_of columns known h = λ i lt. (min_max_at columns known i h lt).are [] no_min_max

no_cells : (columns : List (List Cell)) (i : ℕ) → T (are_even 0 columns) → get_or columns i [] ≡ []
no_cells [] i h = refl
no_cells (c ∷ cs) zero h = empty c (eqb-true (length c) 0 (true_from_T _ (T-first (length c == 0) _ h))) where
  empty : (c : List Cell) → length c ≡ 0 → c ≡ []
  empty [] h = refl
  empty (x ∷ xs) h = absurd (omega (arith, h))
no_cells (c ∷ cs) (suc i) h = no_cells cs i (T-second (length c == 0) _ h)

pub no_known : (columns : List (List Cell)) → T (are_even 0 columns) → AreKnown columns []
no_known columns h = λ i lt.
    subst (λ c. AreMinMaxOf c no_min_max) (sym (no_cells columns i h))
    (record { least = record { within = tt; here = refl }; greatest = record { within = tt; here = refl } })

-- then those of a splice come from them
column_splice : (low high n at : ℕ) (columns : List (List Cell)) (picks : List Pick) (known : MinMaxPlaces) (i : ℕ) → i < length (spliced_columns low high at columns picks)
    → T (are_even n columns) → low ≤ high → high ≤ n → (i < length columns → AreMinMaxOf (get_or columns i []) known)
    → IsSplicedFrom (record { low = low; high = high; count = length picks }) (get_or (spliced_columns low high at columns picks) i []) known
column_splice low high n at [] picks known i lt even le within h = absurd (omega arith)
column_splice low high n at (c ∷ cs) picks known zero lt even le within h =
    let same : length c ≡ n = eqb-true (length c) n (true_from_T _ (T-first (length c == n) _ even)) in
    record {
      old = c;
      more = picked_cells c at picks;
      is = refl;
      count = mapped_length (λ p. origin_cell c at p.origin) picks;
      ordered = le;
      in_range = omega (arith, same);
      known_are = h (omega arith);
    }
column_splice low high n at (c ∷ cs) picks known (suc i) lt even le within h =
    column_splice low high n (at + 1) cs picks known i (omega arith) (T-second (length c == n) _ even) le within (λ l. h (omega (arith, l)))

pub splice_from : (low high n : ℕ) (columns : List (List Cell)) (picks : List Pick) (known : List MinMaxPlaces) → AreKnown columns known → T (are_even n columns) → low ≤ high → high ≤ n
    → AreSplicedFrom (record { low = low; high = high; count = length picks }) (spliced_columns low high 0 columns picks) known
splice_from low high n columns picks known h even le within = λ i lt.
    column_splice low high n 0 columns picks (get_or known i no_min_max) i lt even le within (h i)

-- what is kept of a column
pub kept_at : (columns : List Column) (xs : List MinMaxPlaces) (i : ℕ) (d : Column) (x : MinMaxPlaces) → AreMinMax (map column_cells columns) xs → i < length columns → x ≡ get_or xs i no_min_max → AreMinMaxOf (column_cells (get_or columns i d)) x
kept_at columns xs i d x h lt e =
    let l = mapped_length column_cells columns in
    let there = (min_max_at (map column_cells columns) xs i h (omega (arith, l, lt))).are [] no_min_max in
    subst (AreMinMaxOf (column_cells (get_or columns i d))) (sym e)
    (subst (λ cs. AreMinMaxOf cs (get_or xs i no_min_max)) (mapped_at column_cells columns i [] d lt) there)
