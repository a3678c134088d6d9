use Rattle.std.proofs.Common.{rules, ◌≡◌, ◌∙◌, get_or, sym}
use Rattle.df_print.specs.Printed.{escaped_text, header_texts}
use Rattle.df_print.proofs.LineFacts.{header_text_at, length-header_texts, line_end, line_turn}
use Rattle.df_print.proofs.printing.push_names.Goals as goal

pub loop-i-preserved : goal.loop-i-preserved
loop-i-preserved c =
    let name = c.in_ok-name.name.now in
    let there = header_text_at c.args.columns.now c.loop-i.i c.index-columns-i.result name c.loop-i-test.true in
    let named : name ≡ escaped_text (get_or c.args.columns.now c.loop-i.i c.index-columns-i.result).0 = search (rules, c.in_ok-name.ensures, c.as_str.ensures, c.index-columns-i.is) in
    line_turn c.args.columns.now c.args.widths.now (header_texts c.args.columns.now) c.loop-i.i c.index-columns-i-in-loop-i.result name c.args.out.now.items c.loop-i.out.items _ c.requires (length-header_texts c.args.columns.now) c.loop-i-test.true (named ∙ sym there) c.loop-i.invariant (rw (← c.index-columns-i-in-loop-i.is) c.in_ok-push_text.ensures)

pub returns : goal.returns
returns c = line_end c.args.columns.now c.args.widths.now (header_texts c.args.columns.now) c.loop-i.i c.args.out.now.items c.loop-i.out.items c.push.new.self.items c.requires (length-header_texts c.args.columns.now) c.loop-i-test.false c.loop-i.invariant c.in_ok-push.ensures.items
