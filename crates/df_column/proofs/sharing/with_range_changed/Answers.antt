use Rattle.std.proofs.Common.{◌≡◌, ◌∙◌, ◌++◌, ap, arith, drop, map, subst, sym, take}
use Rattle.std.proofs.lemmas.Result.{IfOk-weaker}
use Rattle.df_column.specs.Blocks.{AreOfDtypes, rows_of_blocks}
use Rattle.df_column.specs.Changes.{after_changes}
use Rattle.df_column.specs.Columns.{dtype_of_column}
use Rattle.df_column.specs.Tables.{entry_change}
use Rattle.df_column.specs.Tags.{tag_cmp}
use Rattle.df_column.proofs.ListParts.{all_taken}
use Rattle.df_column.proofs.SharedLemmas.{changed_between, rows_append, sorted_between, types_append, types_front, types_rest}
use Rattle.df_column.proofs.sharing.with_range_changed.Goals as goal

pub with_changes-requires-clause-rows : goal.with_changes-requires-clause-rows
with_changes-requires-clause-rows c = sorted_between c.untouched-front.result c.reached-back.result c.args.blocks.now c.requires.rows

pub returns-clause-rows : goal.returns-clause-rows
returns-clause-rows c =
    let bs = c.args.blocks.now in
    let front = c.untouched-front.result in
    let back = c.reached-back.result in
    let before : c.in_ok-before.before ≡ take front bs = c.in_ok-before.ensures ∙ ap (λ l. l ++ take front bs) c.new.ensures in
    let behind : drop back (take c.len.result bs) ≡ drop back bs = ap (drop back) (all_taken bs c.len.result (omega (arith, c.len.ensures))) in
    let changes = map entry_change c.args.entries.now in
    let middle = after_changes tag_cmp (rows_of_blocks (drop front (take back bs))) changes in
    IfOk-weaker c.joined-2.result _ _
    (λ made h. ap rows_of_blocks (h ∙ ap (λ cs. c.in_ok-changed.changed ++ cs) behind)
    ∙ rows_append c.in_ok-changed.changed (drop back bs)
    ∙ ap (λ rs. rs ++ rows_of_blocks (drop back bs)) (c.in_ok-changed.ensures.rows ∙ ap (λ cs. rows_of_blocks cs ++ middle) before)
    ∙ changed_between bs front back c.args.entries.now c.reached-back.ensures.ordered c.untouched-front.ensures.apart c.reached-back.ensures.apart)
    c.joined-2.ensures

pub returns-clause-types : goal.returns-clause-types
returns-clause-types c =
    let bs = c.args.blocks.now in
    let front = c.untouched-front.result in
    let back = c.reached-back.result in
    let dtypes = map dtype_of_column c.args.columns.now in
    let before : c.in_ok-before.before ≡ take front bs = c.in_ok-before.ensures ∙ ap (λ l. l ++ take front bs) c.new.ensures in
    let behind : drop back (take c.len.result bs) ≡ drop back bs = ap (drop back) (all_taken bs c.len.result (omega (arith, c.len.ensures))) in
    let changed = c.in_ok-changed.ensures.types (subst (AreOfDtypes dtypes) (sym before) (types_front dtypes front bs c.requires.types)) in
    IfOk-weaker c.joined-2.result _ _
    (λ made h. subst (AreOfDtypes dtypes) (sym (h ∙ ap (λ cs. c.in_ok-changed.changed ++ cs) behind)) (types_append dtypes c.in_ok-changed.changed (drop back bs) changed (types_rest dtypes back bs c.requires.types)))
    c.joined-2.ensures
