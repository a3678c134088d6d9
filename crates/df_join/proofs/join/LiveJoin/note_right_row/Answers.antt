use Rattle.std.proofs.Common.{ap, ◌∙◌}
use Rattle.std.specs.FinMap as finite
use Rattle.df_delta.specs.RowKeys.{key_cells}
use Rattle.df_join.specs.Sides.{is_one}
use Rattle.df_join.proofs.RightSide.{right_moved, same_pairs}
use Rattle.df_join.proofs.Staging.{on_ok_then}
use Rattle.df_join.proofs.join.LiveJoin.note_right_row.Goals as goal

pub returns-clause-leads : goal.returns-clause-leads
returns-clause-leads c = on_ok_then c.note_right.result c.note_right.ensures (λ noted from l r.
    let j = c.args.self.now in
    right_moved j c.args.notes.now c.note_right.new.notes c.args.goes c.in_ok-alone.alone c.args.tag c.args.right.now (key_cells c.right_key-key.result) c.right_key-key.ensures from l r
    c.args.staged.now c.stage_row.new.staged
    (c.in_ok-alone.ensures.leads j.rule.indices.right r) (c.in_ok-alone.ensures.alone j.rule.indices.right r)
    (λ over. same_pairs c.args.notes.now c.note_right.new.notes j.rule (is_one j.left_scans) c.args.goes c.args.tag c.args.right.now _ _ _ _ c.keeps_alone-lone.ensures
    (c.deref.ensures.value ∙ c.in_ok-matching.ensures ∙ ap (λ t. finite.entries t) (c.left_table-left.ensures.rows l over)) noted))
