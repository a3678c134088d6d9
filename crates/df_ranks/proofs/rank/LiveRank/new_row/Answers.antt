use Rattle.std.proofs.Common.{Some, ap, sym, ◌∙◌}
use Rattle.std.specs.Option.{option_and_then}
use Rattle.df_ranks.specs.Counts.{counted_rank}
use Rattle.df_ranks.proofs.Outputs.{get_ranked, rank_row}
use Rattle.df_ranks.proofs.rank.LiveRank.new_row.Goals as goal

pub returns-in_ok-ranked_row-in-Some : goal.returns-in_ok-ranked_row-in-Some
returns-in_ok-ranked_row-in-Some c =
    let column = c.args.self.now.column in
    let number = counted_rank column.kind c.args.counts.now in
    record {
      row =
          ap Some c.in_ok-ranked_row-in-Some.ensures.row
          ∙ ap (option_and_then (rank_row column.schema column.name column.index number)) (sym c.in-Some.is ∙ c.in_ok-row.ensures)
          ∙ sym (get_ranked column.schema column.name column.index number c.args.input.now.rows c.args.tag);
      known = c.in_ok-ranked_row-in-Some.ensures.known;
    }

pub returns-in-None : goal.returns-in-None
returns-in-None c =
    let column = c.args.self.now.column in
    let number = counted_rank column.kind c.args.counts.now in
    record {
      row =
          ap (option_and_then (rank_row column.schema column.name column.index number)) (sym c.in-None.is ∙ c.in_ok-row.ensures)
          ∙ sym (get_ranked column.schema column.name column.index number c.args.input.now.rows c.args.tag);
      known = c.requires;
    }
