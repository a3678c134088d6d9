use Rattle.std.proofs.Common.{◌∙◌, ◌++◌, [], ap, arith, sym, append-nil}
use Rattle.std.specs.FinMap.Entries.{below_all}
use Rattle.std.specs.Prelude.{T, not}
use Rattle.df_column.specs.Blocks.{rows_of_blocks}
use Rattle.df_column.specs.Tags.{tag_cmp}
use Rattle.df_column.proofs.BlockListLemmas.{rows_both}
use Rattle.df_column.proofs.TagRuns.{before_within, behind_above, first_reached, if_none, if_some, none_above, none_in, sorted_left, sorted_right, tag_here, tag_left}
use Rattle.df_column.proofs.block_list.BlockList.run_of_tag.Goals.{then-is_none-via-then-is_none, then-is_none-via-else-is_none+then-begins_behind}
use Rattle.df_column.proofs.block_list.BlockList.run_of_tag.Goals as goal

pub run_of_tag-requires : goal.run_of_tag-requires
run_of_tag-requires c = sorted_left c.args.self.now c.self.inside.leaves c.self.inside.tail (sym c.self.view_is) c.requires

tail_above : (c : goal.After-run_of_tag) → T (below_all tag_cmp c.args.tag (rows_of_blocks c.self.inside.tail))
tail_above c = elim c.then-is_none.branch [
  | then-is_none-via-then-is_none w ↦ none_above c.args.tag c.first_tag-first.result c.self.inside.tail (c.is_none.ensures ∙ ap not w.if-is_none.true) c.first_tag-first.ensures
  | then-is_none-via-else-is_none+then-begins_behind w ↦ behind_above c.args.tag c.first_tag-first.result c.self.inside.tail (sym w.begins_behind.ensures ∙ w.if-begins_behind.true)
      (sorted_right c.args.self.now c.self.inside.leaves c.self.inside.tail (sym c.self.view_is) c.requires) c.first_tag-first.ensures
]

pub returns-then-is_none-clause-run : goal.returns-then-is_none-clause-run
returns-then-is_none-clause-run c =
    if_some c.run_of_tag.result (λ r h. tag_left c.args.tag c.args.self.now c.self.inside.leaves c.self.inside.tail r.0.now r.1 (sym c.self.view_is) (tail_above c) h) c.run_of_tag.ensures.run

pub returns-then-is_none-clause-none : goal.returns-then-is_none-clause-none
returns-then-is_none-clause-none c =
    if_none c.run_of_tag.result (λ h. none_in c.args.tag c.args.self.now c.self.inside.leaves c.self.inside.tail (sym c.self.view_is) h (tail_above c)) c.run_of_tag.ensures.none

pub returns-clause-run : goal.returns-clause-run
returns-clause-run c =
    let tail = c.self.inside.tail in
    let f = first_reached c.args.tag c.first_tag-first.result tail (c.is_none.ensures ∙ ap not c.if-is_none.false) (sym c.begins_behind.ensures ∙ c.if-begins_behind.false) c.first_tag-first.ensures in
    tag_here c.args.tag f.first c.args.self.now c.self.inside.leaves tail [] c.rows.result (sym c.self.view_is ∙ ap (λ bs. c.self.inside.leaves ++ bs) (sym (append-nil tail))) c.requires c.rows.ensures.value f.head f.reached tt

pub returns-then-is_none-clause-few : goal.returns-then-is_none-clause-few
returns-then-is_none-clause-few c =
    let both = rows_both c.self.inside.leaves c.self.inside.tail in
    if_some c.run_of_tag.result (λ r h. let within = before_within c.self.inside.leaves r.0.now c.args.tag r.1 h in omega (arith, within, both, c.self.invariant)) c.run_of_tag.ensures.run

pub returns-clause-few : goal.returns-clause-few
returns-clause-few c =
    let both = rows_both c.self.inside.leaves c.self.inside.tail in
    omega (arith, both, c.rows.ensures.value, c.self.invariant)
