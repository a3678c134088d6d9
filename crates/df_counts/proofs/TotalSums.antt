-- What the totals of counts are.
use Rattle.std.proofs.Common.{◌≡◌, ℕ, ◌+◌, ◌%◌, ◌^◌, Bool, true, false, cond, List, [], ◌∷◌, length, refl, ap, ◌∙◌, arith}
use Rattle.std.specs.List.{filter, sum_by}
use Rattle.std.proofs.lemmas.List.Sums.{sum_by-cons}
use Rattle.df_value.specs.declared.cell.Cell.{Cell}
use Rattle.df_tree.specs.Laws.{total}
use Rattle.df_counts.specs.Totals.{no_totals, sum_of, totals_of}

-- of all of these counts
pub total_values : (es : List (Cell × ℕ)) → (total no_totals sum_of totals_of es).values ≡ length es % 2 ^ 64
total_values [] = omega arith
total_values (e ∷ es) = let rest = total_values es in omega (arith, rest)

-- of those at which a test gives true
pub values_where : (p : Cell × ℕ → Bool) (es : List (Cell × ℕ)) → (total no_totals sum_of totals_of (filter p es)).values ≡ sum_by (λ e. cond (p e) 1 0) es % 2 ^ 64
values_where p [] = omega arith
values_where p (e ∷ es) = let all = sum_by-cons (λ e. cond (p e) 1 0) e es in by_answer (p e) refl all (values_where p es) where
  by_answer : (b : Bool) → p e ≡ b → sum_by (λ e. cond (p e) 1 0) (e ∷ es) ≡ cond (p e) 1 0 + sum_by (λ e. cond (p e) 1 0) es
      → (total no_totals sum_of totals_of (filter p es)).values ≡ sum_by (λ e. cond (p e) 1 0) es % 2 ^ 64
      → (total no_totals sum_of totals_of (filter p (e ∷ es))).values ≡ sum_by (λ e. cond (p e) 1 0) (e ∷ es) % 2 ^ 64
  by_answer true a all rest =
      let one : ◌≡◌ {A = ℕ} (cond (p e) 1 0) 1 = ap (λ b. cond b 1 0) a in
      ap (λ b. (total no_totals sum_of totals_of (cond b (e ∷ filter p es) (filter p es))).values) a ∙ omega (arith, one, all, rest)
  by_answer false a all rest =
      let none : ◌≡◌ {A = ℕ} (cond (p e) 1 0) 0 = ap (λ b. cond b 1 0) a in
      ap (λ b. (total no_totals sum_of totals_of (cond b (e ∷ filter p es) (filter p es))).values) a ∙ omega (arith, none, all, rest)

pub rows_where : (p : Cell × ℕ → Bool) (es : List (Cell × ℕ)) → (total no_totals sum_of totals_of (filter p es)).rows ≡ sum_by (λ e. cond (p e) e.1 0) es % 2 ^ 64
rows_where p [] = omega arith
rows_where p (e ∷ es) = let all = sum_by-cons (λ e. cond (p e) e.1 0) e es in by_answer (p e) refl all (rows_where p es) where
  by_answer : (b : Bool) → p e ≡ b → sum_by (λ e. cond (p e) e.1 0) (e ∷ es) ≡ cond (p e) e.1 0 + sum_by (λ e. cond (p e) e.1 0) es
      → (total no_totals sum_of totals_of (filter p es)).rows ≡ sum_by (λ e. cond (p e) e.1 0) es % 2 ^ 64
      → (total no_totals sum_of totals_of (filter p (e ∷ es))).rows ≡ sum_by (λ e. cond (p e) e.1 0) (e ∷ es) % 2 ^ 64
  by_answer true a all rest =
      let mine : cond (p e) e.1 0 ≡ e.1 = ap (λ b. cond b e.1 0) a in
      ap (λ b. (total no_totals sum_of totals_of (cond b (e ∷ filter p es) (filter p es))).rows) a ∙ omega (arith, mine, all, rest)
  by_answer false a all rest =
      let none : cond (p e) e.1 0 ≡ 0 = ap (λ b. cond b e.1 0) a in
      ap (λ b. (total no_totals sum_of totals_of (cond b (e ∷ filter p es) (filter p es))).rows) a ∙ omega (arith, none, all, rest)
