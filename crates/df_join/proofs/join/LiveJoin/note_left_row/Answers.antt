use Rattle.std.proofs.Common.{ap, ◌∙◌, subst}
use Rattle.std.specs.FinMap as finite
use Rattle.df_join.specs.RowNotes.{Noted, left_list, keyed_rows}
use Rattle.df_join.specs.Rules.{keeps_left}
use Rattle.df_join.specs.Sides.{is_one}
use Rattle.df_join.proofs.Staging.{on_ok_then}
use Rattle.df_join.proofs.join.LiveJoin.note_left_row.Goals as goal

pub returns-clause-noted : goal.returns-clause-noted
returns-clause-noted c = on_ok_then c.note_left.result c.note_left.ensures (λ noted r over.
    subst (λ fs. Noted c.args.notes.now c.note_left.new.notes (left_list c.args.self.now.rule (is_one c.args.self.now.left_scans) (keeps_left c.args.self.now.rule.how) c.args.goes c.args.tag c.args.left.now fs))
    (c.deref.ensures.value ∙ c.in_ok-matching.ensures ∙ ap (λ t. finite.entries t) (c.right_table-table.ensures.rows r over) ∙ ap (λ k. finite.entries (keyed_rows c.args.self.now.rule c.args.self.now.rule.indices.right k r)) c.left_key-key.ensures) noted)
