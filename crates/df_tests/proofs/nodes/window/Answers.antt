use Rattle.std.proofs.Common.{◌≡◌, ◌∷◌, [], Some, arith, refl, subst, sym}
use Rattle.df_value.specs.Schemas.{IsSchema, column_dtype}
use Rattle.df_value.specs.declared.cell.CellType.TheVariants.{Int, Wide}
use Rattle.df_ops.specs.NamedColumns.{with_columns}
use Rattle.df_tests.proofs.nodes.window.Goals as goal

made : IsSchema (with_columns ((120 ∷ [], Int) ∷ []) ((115 ∷ [], Wide) ∷ []))
unfolding with_columns
made = record { some = omega arith; few = omega arith; distinct = refl }

pub new-requires-clause-schema : goal.new-requires-clause-schema
new-requires-clause-schema c =
    subst (λ s. IsSchema (with_columns s ((c.in_ok-output.output, Wide) ∷ []))) (sym c.in_ok-schema.ensures)
    (subst (λ n. IsSchema (with_columns ((120 ∷ [], Int) ∷ []) ((n, Wide) ∷ []))) (sym c.in_ok-output.ensures) made)

pub new-requires-clause-typed : goal.new-requires-clause-typed
new-requires-clause-typed c =
    subst (λ s. column_dtype c.in_ok-column.column s ≡ Some Int) (sym c.in_ok-schema.ensures)
    (subst (λ n. column_dtype n ((120 ∷ [], Int) ∷ []) ≡ Some Int) (sym c.in_ok-column.ensures) refl)
