-- The steps that make each row of one row: `filter`, `select` and `with_columns`, by the items after their word.
use Rattle.std.specs.Prelude.{ℕ, ◌+◌, List, [], length, Result, Ok}
use Rattle.toml.specs.Data.{Data}
use Rattle.df_expr.specs.declared.expr.Expr.{Expr}
use Rattle.df_plan.specs.declared.plan.Plan.{Plan}
use Rattle.df_plan.specs.declared.plan.Plan.TheVariants as plan
use Rattle.df_text.specs.declared.document.Location.{Location}
use Rattle.df_text.specs.declared.fault.ViewsFault.{ViewsFault}
use Rattle.df_value.specs.Outcomes.{then_next}
use Rattle.df_text.specs.Locations.{item_at}
use Rattle.df_text.specs.Reading.{read_after}
use Rattle.df_text.specs.Tree.{text_in, array_in, only_in, pair_in}
use Rattle.df_text.specs.Expressions.{expr_of}

-- one expression
abbrev pub filter_of : Location → Plan → List Data → Result Plan ViewsFault
filter_of at input ds = then_next (only_in at ds) (λ d. then_next (expr_of (item_at at 1) d) (λ e. Ok (plan.Filter input e)))

-- an array of an output's name and its expression
abbrev pub item_of : Location → Data → Result (List ℕ × Expr) ViewsFault
item_of at d =
    then_next (array_in at d) (λ ds. then_next (pair_in at ds) (λ p.
    then_next (text_in at p.0) (λ name. then_next (expr_of at p.1) (λ e. Ok (name, e)))))

-- an output behind those that were read, as the items of a step behind its word
abbrev pub next_item_of : Location → List (List ℕ × Expr) → Data → Result (List ℕ × Expr) ViewsFault
next_item_of at before d = item_of (item_at at (length before + 1)) d

-- any number of outputs
abbrev pub items_in : Location → List Data → Result (List (List ℕ × Expr)) ViewsFault
items_in at ds = read_after (next_item_of at) [] ds

-- any number of outputs
abbrev pub select_of : Location → Plan → List Data → Result Plan ViewsFault
select_of at input ds = then_next (items_in at ds) (λ items. Ok (plan.Select input items))

-- any number of outputs
abbrev pub with_columns_of : Location → Plan → List Data → Result Plan ViewsFault
with_columns_of at input ds = then_next (items_in at ds) (λ items. Ok (plan.WithColumns input items))
