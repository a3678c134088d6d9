use Rattle.std.proofs.Common.{◌≡◌, ◌∙◌, ap, length, min, rules, sym, take}
use Rattle.std.proofs.lemmas.List.{length-map}
use Rattle.std.proofs.lemmas.Result.{IfOk-weaker}
use Rattle.std.specs.FinMap as finite
use Rattle.df_session.proofs.SectionFacts.{take_least}
use Rattle.df_session.proofs.sections.first_rows.Goals as goal

pub returns : goal.returns
returns c =
    let rows = c.args.table.now.rows in
    let values = finite.values rows in
    let long : finite.len rows ≡ length values = finite.len-entries rows ∙ sym (length-map (finite.entries rows) (λ e. e.1)) in
    let count : c.min-count.result ≡ min (finite.len rows) 1000 = search rules in
    IfOk-weaker c.rows_between.result (λ v. v.items ≡ take c.min-count.result values) (λ v. v.items ≡ take 1000 values)
    (λ v e. e ∙ (ap (λ n. take n values) count ∙ take_least values (finite.len rows) 1000 long)) c.rows_between.ensures
