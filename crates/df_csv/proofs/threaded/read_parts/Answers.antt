use Rattle.std.proofs.Common.{◌≡◌, ◌<◌, ◌∙◌, arith, length, rules, sym}
use Rattle.df_csv.proofs.PickedFacts.{read_each}
use Rattle.df_csv.proofs.threaded.read_parts.Goals as goal

pub returns : goal.returns
returns g c =
    let work = c.args.work.now in
    let outcomes = c.in_ok-outcomes.outcomes in
    let count : length outcomes.items ≡ length work.segments.items =
    sym outcomes.ok.0 ∙ c.in_ok-outcomes.ensures.len ∙ c.len-count.ensures ∙ work.segments.ok.0 in
    read_each (λ v. v.items) work.layout.width work.layout.indices.items work.segments.items outcomes.items c.parts_of.result count
    (λ i d lt.
    let within : i < c.len-count.result = omega (arith, lt, c.len-count.ensures, work.segments.ok.0) in
    let each = c.in_ok-outcomes.ensures.each i d within in
    search rules)
    c.parts_of.ensures
