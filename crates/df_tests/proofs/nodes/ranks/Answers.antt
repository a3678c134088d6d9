use Rattle.std.proofs.Common.{◌∷◌, [], arith, refl, subst, sym}
use Rattle.df_value.specs.Schemas.{IsSchema}
use Rattle.df_value.specs.declared.cell.CellType.TheVariants.{Int}
use Rattle.df_ops.specs.NamedColumns.{with_columns}
use Rattle.df_tests.proofs.nodes.ranks.Goals as goal

made : IsSchema (with_columns ((120 ∷ [], Int) ∷ []) ((114 ∷ [], Int) ∷ []))
unfolding with_columns
made = record { some = omega arith; few = omega arith; distinct = refl }

pub new-requires : goal.new-requires
new-requires c =
    subst (λ s. IsSchema (with_columns s ((c.in_ok-output.output, Int) ∷ []))) (sym c.in_ok-schema.ensures)
    (subst (λ n. IsSchema (with_columns ((120 ∷ [], Int) ∷ []) ((n, Int) ∷ []))) (sym c.in_ok-output.ensures) made)
