use Rattle.std.proofs.Common.{◌≡◌, ◌∙◌, [], ap, arith, map, min, rules, take}
use Rattle.std.specs.Prelude.{List}
use Rattle.std.specs.FinMap as finite
use Rattle.df_value.specs.declared.cell.Cell.{Cell}
use Rattle.df_column.specs.declared.tag.Tag.{Tag}
use Rattle.df_session.proofs.SectionFacts.{found_more, take_least}
use Rattle.df_session.proofs.sections.rows_at.Goals as goal

pub loop-at-preserved : goal.loop-at-preserved
loop-at-preserved c =
    let entries = finite.entries c.args.shown.now.rows in
    let rows = c.args.table.now.rows in
    let none : Tag × List Cell = (record { first = 0; second = 0; third = 0 }, []) in
    let count : c.min-count.result ≡ min (finite.len c.args.shown.now.rows) 1000 = search rules in
    let long = finite.len-entries c.args.shown.now.rows in
    found_more (λ e. finite.get rows e.0) entries c.loop-at.at none c.loop-at.rows.items _ _ (omega (arith, count, long, c.loop-at-test.true)) c.loop-at.invariant
    (c.in_ok-get.ensures ∙ ap (λ t. finite.get rows t) (c.tag.ensures none)) c.in_ok-push.ensures.items

pub returns : goal.returns
returns c =
    let entries = finite.entries c.args.shown.now.rows in
    let rows = c.args.table.now.rows in
    let count : c.min-count.result ≡ min (finite.len c.args.shown.now.rows) 1000 = search rules in
    let end = c.loop-at.auto.at-end in
    let last : c.loop-at.at ≡ c.min-count.result = omega (arith, end, c.loop-at-test.false) in
    c.loop-at.invariant
    ∙ ap (map (λ e. finite.get rows e.0))
    (ap (λ n. take n entries) (last ∙ count) ∙ take_least entries (finite.len c.args.shown.now.rows) 1000 (finite.len-entries c.args.shown.now.rows))
