use Rattle.df_delta.specs.RowKeys.{key_cells}
use Rattle.df_join.proofs.Staging.{on_ok_then, if_ok_then, leads_moved, alone_moved}
use Rattle.df_join.proofs.members.Members.stage_row.Goals as goal

pub returns-clause-leads : goal.returns-clause-leads
returns-clause-leads c = on_ok_then c.stage_in_key.result c.stage_in_key.ensures.states (λ step indices.
    leads_moved c.args.self.now c.args.staged.now c.stage_in_key.new.staged c.args.tag c.args.row.now (key_cells c.args.key) indices c.args.goes step)

pub returns-clause-alone : goal.returns-clause-alone
returns-clause-alone c = if_ok_then c.stage_in_key.result c.stage_in_key.ensures.alone (λ alone is indices.
    alone_moved c.args.self.now c.args.staged.now c.stage_in_key.new.staged c.args.tag c.args.row.now (key_cells c.args.key) indices c.args.goes alone is)
