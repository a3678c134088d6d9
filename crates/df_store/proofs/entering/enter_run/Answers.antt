use Rattle.std.proofs.Common.{◌≡◌, ◌++◌, length, rules, subst}
use Rattle.std.specs.Prelude.{if◌then◌else◌}
use Rattle.df_jobs.specs.Counted.{HaveAccepted}
use Rattle.df_jobs.proofs.JoinedFacts.{joined-counted}
use Rattle.df_store.proofs.GrownFacts.{whole-joined}
use Rattle.df_store.proofs.entering.enter_run.Goals as goal

pub enter_chunk-requires : goal.enter_chunk-requires
enter_chunk-requires g c = whole-joined g.B.Beginning.chunks c.args.run.now c.requires.made c.requires.joined

pub returns-then-entered-clause-counted : goal.returns-then-entered-clause-counted
returns-then-entered-clause-counted g c =
    let before = c.args.desks.now.items in
    let after = c.enter_chunk.new.desks.items in
    let done = c.args.done.now.items in
    let j = c.args.run.now in
    let accepted = subst (λ b. HaveAccepted j.frame (if b then length j.run.rows else 0) before after) c.if-entered.true c.in_ok-entered.ensures.accepted in
    let kept : c.keep_all.new.done.items ≡ done ++ j.outcomes.items = search rules in
    joined-counted before after done c.keep_all.new.done.items j c.requires.joined accepted kept
