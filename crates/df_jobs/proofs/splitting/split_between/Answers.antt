use Rattle.std.proofs.Common.{List, refl}
use Rattle.df_state.specs.Desks.{DeskParts}
use Rattle.df_jobs.specs.declared.worker.Worker.{Worker}
use Rattle.df_jobs.proofs.ShareFacts.{split-between}
use Rattle.df_jobs.proofs.WorkerFacts.{exchanged-begun, exchanged-count, exchanged-idle, giver-there, room-there, taker-there}
use Rattle.df_jobs.proofs.splitting.split_between.Goals as goal

pub split_desks-requires : goal.split_desks-requires
split_desks-requires g c =
    let split = c.split_at_mut-givers.ensures in
    room-there c.args.work.now.claims.now c.args.work.now.desks c.args.workers.now c.split_at_mut-givers.result.0.now c.split_at_mut-givers.result.1.now c.args.to split.value
    split.front_len c.requires.begun c.requires.idle c.requires.within c.args.from c.requires.order c.index-givers-from.result c.index-takers-0.result

pub returns-clause-begun : goal.returns-clause-begun
returns-clause-begun g c =
    let split = c.split_at_mut-givers.ensures in
    exchanged-begun c.args.work.now.claims.now c.args.work.now.desks c.args.workers.now c.split_at_mut-givers.result.0.now c.split_at_mut-givers.result.1.now c.args.to split.value
    split.front_len c.requires.begun c.requires.idle c.requires.within c.args.from c.requires.order c.index-givers-from.result c.index-takers-0.result _ _ refl refl refl refl
    c.split_desks.ensures.count c.split_desks.ensures.most

pub returns-clause-idle : goal.returns-clause-idle
returns-clause-idle g c =
    let split = c.split_at_mut-givers.ensures in
    exchanged-idle c.args.work.now.claims.now c.args.work.now.desks c.args.workers.now c.split_at_mut-givers.result.0.now c.split_at_mut-givers.result.1.now c.args.to split.value
    split.front_len c.requires.idle c.args.from _ _

pub returns-clause-count : goal.returns-clause-count
returns-clause-count g c =
    let split = c.split_at_mut-givers.ensures in
    exchanged-count c.args.work.now.claims.now c.args.work.now.desks c.args.workers.now c.split_at_mut-givers.result.0.now c.split_at_mut-givers.result.1.now c.args.to split.value
    split.front_len c.args.from _ _

pub returns-clause-sums : goal.returns-clause-sums
returns-clause-sums g c =
    let desks : Worker g.row.Acc.Denot g.row.Del.Denot → List DeskParts = λ w. w.desks.items in
    let split = c.split_at_mut-givers.ensures in
    let claims = c.args.work.now.claims.now in
    let most = c.args.work.now.desks in
    let givers = c.split_at_mut-givers.result.0.now in
    let takers = c.split_at_mut-givers.result.1.now in
    split-between desks c.args.workers.now givers takers c.args.from c.index-givers-from.result c.index-takers-0.result _ _
    (giver-there claims most c.args.workers.now givers takers c.args.to split.value split.front_len c.args.from c.requires.order)
    (taker-there claims most c.args.workers.now givers takers c.args.to split.value split.front_len c.requires.within) split.value c.split_desks.ensures.sums
