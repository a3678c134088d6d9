use Rattle.df_column.proofs.min_max.min_or_max_in.Goals as goal

pub search_min_or_max-requires : goal.search_min_or_max-requires
search_min_or_max-requires g c = c.search_after.ensures c.args.which (g.C.Ranked.cells c.args.column.now) c.requires c.count.ensures
