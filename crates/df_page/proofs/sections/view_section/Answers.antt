use Rattle.std.proofs.Common.{◌∙◌}
use Rattle.df_page.proofs.SectionFacts.{section_is, table_back}
use Rattle.df_page.proofs.sections.view_section.Goals as goal

pub returns-clause-value : goal.returns-clause-value
returns-clause-value c =
    section_is c.args.name.now _ c.args.schema.now _ c.args.rows.now c.args.total c.args.before.now c.args.gone _ _ _ _ _ _ _ _ _ c.as_str.ensures (c.as_slice-schema.ensures ∙ c.columns.ensures.value)
    c.in_ok-columns.ensures.value c.as_slice.ensures.value c.new-out.ensures.items
    c.in_ok-push_opening.ensures c.in_ok-push_names.ensures c.in_ok-push_rows.ensures c.in_ok-push_more.ensures c.in_ok-push_gone.ensures c.in_ok-push_tags.ensures

pub returns-clause-reads : goal.returns-clause-reads
returns-clause-reads c = rw (returns-clause-value c) (table_back c.args.name.now c.args.schema.now c.args.rows.now c.args.total c.args.before.now c.args.gone)
