use Rattle.std.proofs.Common.{◌≡◌, ◌∙◌, length, rules, sym}
use Rattle.df_jobs.specs.Loaded.{made_rows}
use Rattle.df_jobs.proofs.StoredFacts.{many-given}
use Rattle.df_jobs.proofs.expected.add_rows.Goals as goal

pub returns-clause-added : goal.returns-clause-added
returns-clause-added c =
    let made = c.args.outcome.now.made in
    let many : c.row_count.result ≡ length (made_rows made) = c.row_count.ensures ∙ sym (many-given made) in
    search rules
