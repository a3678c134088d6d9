use Rattle.std.proofs.Common.{◌≡◌, ℕ, ◌≤◌, ◌∙◌, List, Option, length, cond, ap, sym, rules, tests}
use Rattle.std.specs.Prelude.{not, Some, position, option_map}
use Rattle.std.proofs.lemmas.Bool.{le-ltb}
use Rattle.std.proofs.lemmas.Iterator.{YieldsList-from_slice}
use Rattle.std.proofs.lemmas.Iterator.Search.{position_from_yields_List}
use Rattle.df_value.specs.Schemas.{is_base}
use Rattle.df_value.specs.declared.cell.CellType.{CellType}
use Rattle.df_state.specs.declared.fault.NewFault.TheVariants as fault
use Rattle.df_state.specs.New.{new_fault}
use Rattle.df_state.proofs.opening.check_schemas.Goals as goal

-- the fault of few enough schemas, by the place that was found
by-place :
    (schemas : List (List (List ℕ × CellType))) (place : Option ℕ) → length schemas ≤ 8 → place ≡ position (λ s. not (is_base s)) schemas →
    new_fault schemas ≡ option_map fault.DerivedType place
by-place schemas place few found =
    ap (λ b. cond b (Some fault.TooManyFrames) (option_map fault.DerivedType (position (λ s. not (is_base s)) schemas))) (le-ltb 8 (length schemas) few)
    ∙ ap (option_map fault.DerivedType) (sym found)

pub returns-in-Some : goal.returns-in-Some
returns-in-Some c =
    let schemas = c.args.schemas.now in
    let found = position_from_yields_List (λ s. not (is_base s)) _ _ c.position.result c.position.ensures.ran (YieldsList-from_slice schemas cc) (λ x b q k. search (rules, tests)) in
    by-place schemas c.position.result c.if-schemas-gt-MOST_FRAMES.false found ∙ ap (option_map fault.DerivedType) c.in-Some.is

pub returns-in-None : goal.returns-in-None
returns-in-None c =
    let schemas = c.args.schemas.now in
    let found = position_from_yields_List (λ s. not (is_base s)) _ _ c.position.result c.position.ensures.ran (YieldsList-from_slice schemas cc) (λ x b q k. search (rules, tests)) in
    by-place schemas c.position.result c.if-schemas-gt-MOST_FRAMES.false found ∙ ap (option_map fault.DerivedType) c.in-None.is
