use Rattle.std.proofs.Common.{◌∙◌, arith, sym}
use Rattle.df_csv.proofs.BufferFacts.{field_found, missing, place_within}
use Rattle.df_csv.proofs.part.RecordPart.field.Goals as goal

pub overflow_mul-index : goal.overflow_mul-index
overflow_mul-index c =
    let index = place_within _ _ c.args.row c.args.column _ c.args.self.now c.self.view_is c.self.invariant.0 c.requires.in_rows c.requires.in_columns in
    omega (arith, index, c.self.invariant.1)

pub overflow_add-index : goal.overflow_add-index
overflow_add-index c =
    let index = place_within _ _ c.args.row c.args.column _ c.args.self.now c.self.view_is c.self.invariant.0 c.requires.in_rows c.requires.in_columns in
    omega (arith, index, c.self.invariant.1)

pub unreachable-requires : goal.unreachable-requires
unreachable-requires c =
    let found = field_found _ _ c.args.row c.args.column _ c.args.self.now c.self.view_is c.self.invariant.0 c.requires.in_rows c.requires.in_columns in
    missing _ c.args.column (c.in-None.ensures.value ∙ found) c.requires.in_columns

pub returns : goal.returns
returns c =
    let found = field_found _ _ c.args.row c.args.column _ c.args.self.now c.self.view_is c.self.invariant.0 c.requires.in_rows c.requires.in_columns in
    sym (c.in-Some.ensures.value ∙ found)
