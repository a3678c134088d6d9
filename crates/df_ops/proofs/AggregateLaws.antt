-- The sum and the count of cells are those of one part and of the other.
use Rattle.std.proofs.Common.{◌≡◌, ◌≢◌, ℕ, ◌∙◌, Bool, true, false, List, [], ◌∷◌, ◌++◌, length, refl, ap, arith}
use Rattle.std.specs.Prelude.{ℤ, pos, ◌+ℤ◌, fold, not}
use Rattle.std.proofs.lemmas.Int.{ints}
use Rattle.std.proofs.lemmas.List.{length-append}
use Rattle.std.proofs.lemmas.List.Elements.{filter-append}
use Rattle.std.proofs.lemmas.List.Sums.{fold-append}
use Rattle.df_value.specs.declared.cell.Cell.{Cell}
use Rattle.df_value.specs.declared.cell.Cell.TheVariants as cell
use Rattle.df_expr.specs.Value.{is_null}
use Rattle.df_ops.specs.Aggregates.{count_of, non_null, number_of, sum_of, sum_with, IsCount, IsSum}
use Rattle.df_ops.proofs.GroupSums.{with_more}

sum_from : (s : ℤ) (cells : List Cell) → fold (λ sum c. sum_with sum (number_of c)) s cells ≡ s +ℤ sum_of cells
sum_from s [] = omega (arith, ints)
sum_from s (c ∷ cs) =
    let here = with_more s (number_of c) in
    let rest = sum_from (sum_with s (number_of c)) cs in
    let own = sum_from (sum_with (pos 0) (number_of c)) cs in
    omega (arith, ints)

pub sum_is_sum : IsSum sum_of
sum_is_sum = record {
  of_int = λ n. omega (arith, ints);
  of_true = refl;
  of_false = refl;
  of_null = refl;
  of_parts = λ first second. fold-append (λ sum c. sum_with sum (number_of c)) (pos 0) first second ∙ sum_from (sum_of first) second;
}

one_other : (c : Cell) → c ≢ cell.Null → count_of (c ∷ []) ≡ 1
one_other cell.Null h = absurd (h refl)
one_other (cell.Int n) h = refl
one_other (cell.Wide n) h = refl
one_other (cell.Text t) h = refl
one_other (cell.Bool b) h = refl
one_other (cell.Frac f) h = refl

pub count_is_count : IsCount count_of
count_is_count = record {
  of_null = refl;
  of_other = one_other;
  of_parts = λ first second.
      ap length (filter-append (λ c. not (is_null c)) first second) ∙ length-append (non_null first) (non_null second);
}
