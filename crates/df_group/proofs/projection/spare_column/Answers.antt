use Rattle.std.proofs.Common.{rules, tests, ◌∙◌, cond, None, ap, sym}
use Rattle.std.specs.Prelude.{find, not}
use Rattle.std.proofs.lemmas.Iterator.{YieldsList-from_slice}
use Rattle.std.proofs.lemmas.Iterator.Search.{any_from_yields_List, find_from_yields_List}
use Rattle.df_group.specs.Projections.{is_taken, is_text}
use Rattle.df_group.proofs.projection.spare_column.Goals as goal

pub returns-then-any : goal.returns-then-any
returns-then-any c =
    let taken =
    any_from_yields_List (λ column. is_taken c.args.aggregates.now column.0) _ _ c.any.result c.any.ensures.ran
    (YieldsList-from_slice c.args.columns.now c.iter.ensures.rest) (λ x b q k. search (rules, tests)) in
    ap (λ b. cond b None (find (λ column. not (is_text column.1)) c.args.columns.now)) (sym c.if-any.true ∙ taken)

pub returns : goal.returns
returns c =
    let taken =
    any_from_yields_List (λ column. is_taken c.args.aggregates.now column.0) _ _ c.any.result c.any.ensures.ran
    (YieldsList-from_slice c.args.columns.now c.iter.ensures.rest) (λ x b q k. search (rules, tests)) in
    let found =
    find_from_yields_List (λ column. not (is_text column.1)) _ _ c.find.result c.find.ensures.ran
    (YieldsList-from_slice c.args.columns.now c.iter-2.ensures.rest) (λ x b q k. search (rules, tests)) in
    found ∙ ap (λ b. cond b None (find (λ column. not (is_text column.1)) c.args.columns.now)) (sym c.if-any.false ∙ taken)
