use Rattle.std.proofs.Common.{◌≡◌, ◌∙◌, ◌<◌, ◌≤◌, ◌/◌, ℕ, List, length, true, false, Option, Some, IfOk, ap, arith, rules, subst, sym, tests}
use Rattle.std.specs.List.{list_any}
use Rattle.std.proofs.lemmas.Iterator.{YieldsList-from_slice}
use Rattle.std.proofs.lemmas.Iterator.Search.{any_from_yields_List}
use Rattle.df_value.specs.Schemas.{Columns}
use Rattle.df_value.specs.SchemaFaults.{schema_fault}
use Rattle.df_group.specs.Projections.{are_all_kept, indices_among, is_text, needed_columns}
use Rattle.df_group.proofs.ProjectedSchemas.{all_kept, few_kept, few_of_schema, kept_of_fault, kept_of_many, kept_of_text}
use Rattle.df_group.proofs.ProjectedColumns.{fits_needed}
use Rattle.df_group.proofs.projection.Projection.new.Goals as goal
use Rattle.df_group.proofs.projection.Projection.new.Goals.{After-drop-needed, In-Err, In-Ok, then-len-columns-via-then-len-columns, then-len-columns-via-else-len-columns+then-any}

-- all are kept where more than half of the columns are needed, or one of texts
many_needed : (c : After-drop-needed) → are_all_kept c.args.schema.now c.args.aggregates.now ≡ true
many_needed c =
    let columns : c.as_slice-columns.result.now ≡ c.args.schema.now = c.as_slice-columns.ensures ∙ c.columns.ensures.value in
    let needed : c.in_ok-needed.needed ≡ needed_columns c.args.schema.now c.args.aggregates.now =
    c.in_ok-needed.ensures ∙ ap (λ (cs : Columns). needed_columns cs c.args.aggregates.now) columns in
    elim c.then-len-columns.branch [
      | then-len-columns-via-then-len-columns w ↦
          let many : length c.as_slice-columns.result.now / 2 < length c.in_ok-needed.needed = omega arith in
          kept_of_many c.args.schema.now c.args.aggregates.now
          (subst (λ (cs : Columns). length cs / 2 < length (needed_columns c.args.schema.now c.args.aggregates.now)) columns
          (subst (λ (cs : Columns). length c.as_slice-columns.result.now / 2 < length cs) needed many))
      | then-len-columns-via-else-len-columns+then-any w ↦
          let text =
          any_from_yields_List (λ column. is_text column.1) _ _ w.any.result w.any.ensures.ran
          (YieldsList-from_slice w.as_slice.result.now w.iter.ensures.rest) (λ x b q k. search (rules, tests)) in
          kept_of_text c.args.schema.now c.args.aggregates.now
          (ap (list_any (λ column. is_text column.1)) (sym (w.as_slice.ensures ∙ needed)) ∙ sym text ∙ w.if-any.true)
    ]

pub returns-then-len-columns-clause-schema : goal.returns-then-len-columns-clause-schema
returns-then-len-columns-clause-schema c =
    subst (λ (columns : Columns). IfOk c.all_columns.result (λ p. p.schema ≡ columns))
    (sym (all_kept c.args.schema.now c.args.aggregates.now (many_needed c)).0)
    c.all_columns.ensures.schema

pub returns-then-len-columns-clause-indices : goal.returns-then-len-columns-clause-indices
returns-then-len-columns-clause-indices c =
    subst (λ (indices : Option (List (Option ℕ))). IfOk c.all_columns.result (λ p. p.indices ≡ indices))
    (sym (all_kept c.args.schema.now c.args.aggregates.now (many_needed c)).1)
    c.all_columns.ensures.indices

-- not all are kept where the needed ones are a schema
few_needed : (c : In-Ok) → are_all_kept c.args.schema.now c.args.aggregates.now ≡ false
few_needed c =
    let columns : c.as_slice-columns.result.now ≡ c.args.schema.now = c.as_slice-columns.ensures ∙ c.columns.ensures.value in
    let needed : c.in_ok-needed.needed ≡ needed_columns c.args.schema.now c.args.aggregates.now =
    c.in_ok-needed.ensures ∙ ap (λ (cs : Columns). needed_columns cs c.args.aggregates.now) columns in
    let few : length c.in_ok-needed.needed ≤ length c.as_slice-columns.result.now / 2 = omega arith in
    let plain =
    any_from_yields_List (λ column. is_text column.1) _ _ c.any.result c.any.ensures.ran
    (YieldsList-from_slice c.as_slice.result.now c.iter.ensures.rest) (λ x b q k. search (rules, tests)) in
    few_of_schema c.args.schema.now c.args.aggregates.now
    (subst (λ (cs : Columns). 0 < length cs) needed c.in-Ok.ensures.1.some)
    (subst (λ (cs : Columns). length (needed_columns c.args.schema.now c.args.aggregates.now) ≤ length cs / 2) columns
    (subst (λ (cs : Columns). length cs ≤ length c.as_slice-columns.result.now / 2) needed few))
    (ap (list_any (λ column. is_text column.1)) (sym (c.as_slice.ensures ∙ needed)) ∙ sym plain ∙ c.if-any.false)

pub returns-in-Ok-clause-schema : goal.returns-in-Ok-clause-schema
returns-in-Ok-clause-schema c =
    c.in-Ok.ensures.0 ∙ c.in_ok-needed.ensures
    ∙ ap (λ (cs : Columns). needed_columns cs c.args.aggregates.now) (c.as_slice-columns.ensures ∙ c.columns.ensures.value)
    ∙ sym (few_kept c.args.schema.now c.args.aggregates.now (few_needed c)).0

pub returns-in-Ok-clause-indices : goal.returns-in-Ok-clause-indices
returns-in-Ok-clause-indices c =
    let columns : c.as_slice-columns.result.now ≡ c.args.schema.now = c.as_slice-columns.ensures ∙ c.columns.ensures.value in
    ap (λ indices. Some indices)
    (c.in_ok-indices.ensures
    ∙ (λ i. indices_among ((c.as_slice-2.ensures ∙ c.in_ok-needed.ensures ∙ ap (λ (cs : Columns). needed_columns cs c.args.aggregates.now) columns) i) (columns i)))
    ∙ sym (few_kept c.args.schema.now c.args.aggregates.now (few_needed c)).1

-- where the needed columns are no schema, all are kept
none_needed : (c : In-Err) → are_all_kept c.args.schema.now c.args.aggregates.now ≡ true
none_needed c =
    let columns : c.as_slice-columns.result.now ≡ c.args.schema.now = c.as_slice-columns.ensures ∙ c.columns.ensures.value in
    let needed : c.in_ok-needed.needed ≡ needed_columns c.args.schema.now c.args.aggregates.now =
    c.in_ok-needed.ensures ∙ ap (λ (cs : Columns). needed_columns cs c.args.aggregates.now) columns in
    kept_of_fault c.args.schema.now c.args.aggregates.now c.in-Err.field-0 c.columns.ensures.sound
    (subst (λ (cs : Columns). schema_fault cs ≡ Some c.in-Err.field-0) needed c.in-Err.ensures)

pub returns-in-Err-clause-schema : goal.returns-in-Err-clause-schema
returns-in-Err-clause-schema c =
    subst (λ (columns : Columns). IfOk c.all_columns-in-Err.result (λ p. p.schema ≡ columns))
    (sym (all_kept c.args.schema.now c.args.aggregates.now (none_needed (goal.at.returns-in-Err-clause-schema c).In-Err)).0)
    c.all_columns-in-Err.ensures.schema

pub returns-in-Err-clause-indices : goal.returns-in-Err-clause-indices
returns-in-Err-clause-indices c =
    subst (λ (indices : Option (List (Option ℕ))). IfOk c.all_columns-in-Err.result (λ p. p.indices ≡ indices))
    (sym (all_kept c.args.schema.now c.args.aggregates.now (none_needed (goal.at.returns-in-Err-clause-indices c).In-Err)).1)
    c.all_columns-in-Err.ensures.indices

pub returns-in-Ok-clause-fit : goal.returns-in-Ok-clause-fit
returns-in-Ok-clause-fit c t fit =
    let columns : c.as_slice-columns.result.now ≡ c.args.schema.now = c.as_slice-columns.ensures ∙ c.columns.ensures.value in
    let needed : c.in_ok-needed.needed ≡ needed_columns c.args.schema.now c.args.aggregates.now =
    c.in_ok-needed.ensures ∙ ap (λ (cs : Columns). needed_columns cs c.args.aggregates.now) columns in
    fits_needed c.args.schema.now c.args.aggregates.now c.columns.ensures.sound c.in-Ok.schema c.in_ok-indices.indices
    (c.in-Ok.ensures.0 ∙ needed)
    (c.in_ok-indices.ensures ∙ (λ i. indices_among ((c.as_slice-2.ensures ∙ needed) i) (columns i))) t fit
