use Rattle.std.proofs.Common.{◌<◌, ◌≤◌, subst}
use Rattle.df_ops.proofs.Steps.{answered}
use Rattle.df_group.proofs.Members.{cell_here, cell_past}
use Rattle.df_group.proofs.grouping.member_cell.Goals as goal

pub returns-then-place-len : goal.returns-then-place-len
returns-then-place-len c = cell_past c.args.index c.args.members.now.rows c.args.place (subst (λ n. n ≤ c.args.place) c.len.ensures.value c.if-place-len.true)

pub returns : goal.returns
returns c =
    answered _ _ _ c.cell_of.ensures
    (cell_here c.args.index c.args.members.now.rows c.args.place c.in_ok-row.row (subst (λ n. c.args.place < n) c.len.ensures.value c.if-place-len.false) c.in_ok-row.ensures)
