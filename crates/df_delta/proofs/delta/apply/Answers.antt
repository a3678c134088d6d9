use Rattle.std.proofs.Common.{◌≡◌, ◌∙◌, ap, map, subst, sym}
use Rattle.std.specs.Prelude.{IfSome}
use Rattle.std.specs.Arc.{arc_value}
use Rattle.std.specs.FinMap as finite
use Rattle.df_column.specs.Changes.{applied}
use Rattle.df_column.specs.Tables.{TableParts, entry_change}
use Rattle.df_delta.proofs.Fitting.{applied_where, new_rows_of, changes_of}
use Rattle.df_delta.proofs.delta.apply.Goals as goal

pub edited_with-requires-clause-made : goal.edited_with-requires-clause-made
edited_with-requires-clause-made c =
    let kept = subst (λ o. IfSome o (λ t. (arc_value {X = TableParts} t).rows ≡ applied finite.empty (finite.from_sorted (map entry_change c.delta.inside.entries.items)))) c.in-Some.is c.delta.invariant.1 in
    ap (λ (t : TableParts). t.rows) c.deref.ensures
    ∙ (kept ∙ ap (applied finite.empty) (c.delta.view_is ∙ sym (changes_of c.args.delta.now c.entries.result.now c.entries.ensures.all)))

pub returns-in-Some-clause-rows : goal.returns-in-Some-clause-rows
returns-in-Some-clause-rows c fit =
    let t = c.args.table.now in
    let d = c.args.delta.now in
    let all = c.entries.ensures.all in
    applied_where _ _ _ (ap (applied t.rows) (changes_of d c.entries.result.now all)) (c.edited_with.ensures.changed (new_rows_of t.schema t.rows d c.entries.result.now all fit))

pub returns-in-None-clause-rows : goal.returns-in-None-clause-rows
returns-in-None-clause-rows c fit =
    let t = c.args.table.now in
    let d = c.args.delta.now in
    let all = c.entries-in-None.ensures.all in
    applied_where _ _ _ (ap (applied t.rows) (changes_of d c.entries-in-None.result.now all)) (c.edited.ensures.changed (new_rows_of t.schema t.rows d c.entries-in-None.result.now all fit))
