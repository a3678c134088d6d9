use Rattle.std.proofs.Common.{◌∙◌, List, ap, length, map, arith}
use Rattle.std.proofs.lemmas.Result.{IfOk-weaker}
use Rattle.std.specs.Prelude.{Option}
use Rattle.df_jobs.specs.declared.stop.Stop.{Stop}
use Rattle.df_jobs.specs.declared.worker.Worker.{Worker}
use Rattle.df_jobs.specs.Workers.{desks_of}
use Rattle.df_state.proofs.ListFacts.{put-back}
use Rattle.df_jobs.proofs.WorkerFacts.{all-running, few-desks}
use Rattle.df_jobs.proofs.pool.WorkerPool.end.Goals as goal

pub take_desks-requires : goal.take_desks-requires
take_desks-requires g c =
    let few = few-desks c.args.work.now.desks c.args.self.workers.items (λ k d h. (c.requires.workers k d h).desks) in
    let all = ap (λ ws. length (desks_of ws)) c.as_mut_slice.ensures.value in
    let none = ap length c.requires.gathered in
    let room = c.requires.room in
    omega (arith, few, all, none, room)

pub returns-clause-running : goal.returns-clause-running
returns-clause-running g c =
    let lent = ap length c.as_mut_slice.ensures.value in
    let n = c.as_mut_slice.ensures.len in
    let same = c.take_desks.ensures.count in
    let back = put-back c.args.self.workers.len c.take_desks.new.workers c.args.self.workers.items (omega (arith, same, n)) (omega (arith, lent, n)) in
    let marks : List (Worker g.row.Acc.Denot g.row.Del.Denot) → List (Option Stop) = λ ws. map (λ w. w.stopped) ws in
    let all = ap marks back ∙ (c.take_desks.ensures.stopped ∙ ap marks c.as_mut_slice.ensures.value) in
    IfOk-weaker c.outcomes_of.result _ _ (λ os running. all-running c.args.self.workers.items _ all running) c.outcomes_of.ensures.running
