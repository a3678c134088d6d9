use Rattle.std.proofs.Common.{ap, subst, ◌∙◌}
use Rattle.std.specs.Prelude.{◌||◌}
use Rattle.std.specs.FinMap as finite
use Rattle.df_delta.specs.RowKeys.{key_cells}
use Rattle.df_value.specs.Rows.{row_eq}
use Rattle.df_join.specs.Probes.{is_staged}
use Rattle.df_join.specs.RowNotes.{Noted, replaced_list}
use Rattle.df_join.specs.Sides.{is_one}
use Rattle.df_join.proofs.Counted.{replaced_probes}
use Rattle.df_join.proofs.Groups.{row_yes}
use Rattle.df_join.proofs.Replaced.{right_replaced}
use Rattle.df_join.proofs.Staging.{on_ok_then}
use Rattle.df_join.proofs.join.LiveJoin.note_in_place.Goals as goal

pub returns-clause-leads : goal.returns-clause-leads
returns-clause-leads c = on_ok_then c.note_replaced.result c.note_replaced.ensures (λ noted from l r.
    let j = c.args.self.now in
    right_replaced j c.args.notes.now c.note_replaced.new.notes c.args.tag c.args.old.now c.args.new.now (key_cells c.right_key-key.result) c.right_key-key.ensures (row_yes _ _ c.requires.same) from l r
    c.args.staged.now c.stage_row.new.staged c.stage_row-2.new.staged
    (c.in_ok-stage_row.ensures.leads j.rule.indices.right r) (c.in_ok-stage_row-2.ensures.leads j.rule.indices.right (finite.remove r c.args.tag))
    (λ over. subst (λ m. Noted c.args.notes.now c.note_replaced.new.notes (replaced_list j.rule (is_one j.left_scans) c.args.tag c.args.old.now c.args.new.now m))
    (c.deref.ensures.value ∙ c.in_ok-matching.ensures ∙ ap (λ t. finite.entries t) (c.left_table-table.ensures.rows l over)) noted))

pub returns-clause-touched : goal.returns-clause-touched
returns-clause-touched c = on_ok_then c.note_replaced.result c.note_replaced.ensures (λ _ i k.
    let is = c.right_key-key.ensures in
    (c.in_ok-stage_row-2.ensures.touched k
    ∙ (λ i. row_eq ((is ∙ row_yes _ _ c.requires.same) i) k || ((c.in_ok-stage_row.ensures.touched k ∙ ap (λ h. row_eq h k || is_staged c.args.staged.now k) is) i))) i)

pub returns-clause-exact : goal.returns-clause-exact
returns-clause-exact c = on_ok_then c.note_replaced.result c.note_replaced.ensures (λ _.
    replaced_probes c.args.self.now.rule (is_staged c.args.staged.now) (is_staged c.stage_row.new.staged) (key_cells c.right_key-key.result) c.args.old.now c.args.new.now _ _ _ _ _
    c.right_key-key.ensures (row_yes _ _ c.requires.same) c.in_ok-stage_row.ensures.touched c.stage_row.ensures.exact c.left_table-before.ensures.exact c.stage_row-2.ensures.exact c.left_table-table.ensures.exact)
