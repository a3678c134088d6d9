use Rattle.df_live.proofs.FreshTrees.{scan_fresh}
use Rattle.df_live.proofs.building.scan.Goals as goal

pub returns : goal.returns
returns c schemas p is checks = scan_fresh schemas p c.args.frame c.args.schema is checks
