use Rattle.std.proofs.Common.{◌∙◌}
use Rattle.df_column.proofs.BlockListLemmas.{get_between}
use Rattle.df_column.proofs.block_list.BlockList.get.Goals as goal

pub get-requires : goal.get-requires
get-requires c = c.run_at-place.ensures.inside

pub returns : goal.returns
returns c = λ d.
    let h = c.run_at-place.ensures in
    c.get.ensures d ∙ get_between c.args.self.now h.front c.run_at-place.result.0.now h.rest c.args.at c.run_at-place.result.1 d h.cut h.at_is h.inside
