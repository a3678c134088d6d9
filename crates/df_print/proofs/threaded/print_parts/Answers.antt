use Rattle.std.proofs.Common.{rules, ◌∙◌, length, sym}
use Rattle.df_print.specs.Printed.{printed_line, row_texts}
use Rattle.df_print.proofs.ThreadFacts.{parts_whole}
use Rattle.df_print.proofs.threaded.print_parts.Goals as goal

pub returns : goal.returns
returns g c =
    let outcomes = c.in_ok-parts.parts.items in
    parts_whole (λ v. v.items) (λ row. printed_line c.args.columns.now c.args.widths.now (row_texts (length c.args.columns.now) row)) c.args.size c.args.rows.now outcomes c.in_ok-printed.printed.items c.requires.size (sym c.in_ok-parts.parts.ok.0 ∙ c.in_ok-parts.ensures.len)
    (λ k d lt. let each = c.in_ok-parts.ensures.each k d lt in let value = each.1.argument_is.value in let call = each.1.call in rw (← value) (search rules))
    c.in_ok-printed.ensures
