use Rattle.std.proofs.Common.{◌≡◌, ◌++◌, ◌∙◌, [], Some, ap, sym}
use Rattle.std.specs.FinMap as finite
use Rattle.df_column.specs.Blocks.{rows_of_blocks}
use Rattle.df_column.specs.MinMaxCells.{tags_above}
use Rattle.df_column.specs.BlockLists.{blocks_of_leaves}
use Rattle.df_column.proofs.SharedLemmas.{rows_append}
use Rattle.df_column.proofs.SkippingLemmas.{no_tags, tags_more}
use Rattle.df_column.proofs.table.Table.tags_above.Goals as goal

pub returns-in_default : goal.returns-in_default
returns-in_default c =
    let es = finite.entries c.args.self.now.rows in
    c.new-tags.ensures.items ∙ sym (ap (λ i. tags_above i c.args.value.now es) c.in_default.is ∙ no_tags c.args.value.now es)

pub returns : goal.returns
returns c =
    let leaves = c.parts.result.0.now in
    let front = rows_of_blocks leaves in
    let back = rows_of_blocks c.parts.result.1.now in
    let rows = finite.entries c.args.self.now.rows in
    let all : rows ≡ front ++ back = sym (ap rows_of_blocks c.parts.ensures ∙ c.blocks-2.ensures.rows) ∙ rows_append leaves c.parts.result.1.now in
    let tree = ap (λ bs. tags_above (Some c.in-Some.index) c.args.value.now (rows_of_blocks bs)) c.tree.ensures in
    tags_more (Some c.in-Some.index) c.args.value.now front back rows [] c.push_tags_above.new.tags.items c.push_tags_in_run.new.tags.items all
    (c.in_ok-push_tags_above.ensures ∙ ap (λ ts. ts ++ tags_above (Some c.in-Some.index) c.args.value.now (rows_of_blocks (blocks_of_leaves c.tree.result.now))) c.new-tags.ensures.items ∙ tree) c.in_ok-push_tags_in_run.ensures
    ∙ ap (λ i. tags_above i c.args.value.now rows) (sym c.in-Some.is)
