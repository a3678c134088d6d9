use Rattle.df_jobs.proofs.ShareFacts.{one-split}
use Rattle.df_jobs.proofs.splitting.split_desk.Goals as goal

pub returns-in-Some-clause-sums : goal.returns-in-Some-clause-sums
returns-in-Some-clause-sums g c =
    one-split c.args.desk.now c.split.new.self c.in-Some.split c.args.others.now.items c.push_reserved.new.self.items c.in-Some.ensures.halves c.push_reserved.ensures.items
