use Rattle.std.proofs.Common.{◌∙◌, ap, sym, Ok}
use Rattle.df_csv.proofs.TextFields.{all_texts, texts_next}
use Rattle.df_csv.proofs.TopFacts.{text_says, text_unmarked, under_header}
use Rattle.df_csv.proofs.reading.read_text.Goals as goal

pub reader_of-reader-requires : goal.reader_of-reader-requires
reader_of-reader-requires c = text_unmarked c.args.bytes.now c.args.text.now c.requires.marks

pub read_layout-requires-clause-texts : goal.read_layout-requires-clause-texts
read_layout-requires-clause-texts c = rw c.reader_of-reader.ensures.rows (all_texts c.args.text.now c.requires.utf8)

pub returns-in-Ok-None : goal.returns-in-Ok-None
returns-in-Ok-None c =
    text_says c.args.bytes.now c.args.text.now c.args.columns.now c.requires.marks c.requires.utf8
    ∙ rw (c.in-Ok-None.field-0-is, c.reader_of-reader.ensures.rows) at c.in-Ok-None.ensures
    ∙ ap Ok (sym c.new.ensures)

pub returns-in-Err : goal.returns-in-Err
returns-in-Err c small =
    text_says c.args.bytes.now c.args.text.now c.args.columns.now c.requires.marks c.requires.utf8
    ∙ rw c.reader_of-reader.ensures.rows at (c.in-Err.ensures small)

pub read_rows-requires-clause-texts : goal.read_rows-requires-clause-texts
read_rows-requires-clause-texts c =
    let (plain, (names, e, lays)) = rw c.in-Ok-Some.field-0-is at c.in-Ok-Some.ensures in
    (texts_next _ _ _ e (rw c.reader_of-reader.ensures.rows (all_texts c.args.text.now c.requires.utf8))).1

pub returns-in-Ok : goal.returns-in-Ok
returns-in-Ok c =
    let (plain, (names, e, lays)) = rw c.in-Ok-Some.field-0-is at c.in-Ok-Some.ensures in
    text_says c.args.bytes.now c.args.text.now c.args.columns.now c.requires.marks c.requires.utf8
    ∙ under_header c.args.columns.now names _ _ c.in-Ok-Some.layout (sym c.reader_of-reader.ensures.rows ∙ e) lays
    ∙ rw c.as_slice.ensures.value at c.in-Ok.ensures
    ∙ ap Ok (sym c.in_ok-from_part-in-Ok.ensures)

pub returns : goal.returns
returns c small =
    let (plain, (names, e, lays)) = rw c.in-Ok-Some.field-0-is at c.in-Ok-Some.ensures in
    text_says c.args.bytes.now c.args.text.now c.args.columns.now c.requires.marks c.requires.utf8
    ∙ under_header c.args.columns.now names _ _ c.in-Ok-Some.layout (sym c.reader_of-reader.ensures.rows ∙ e) lays
    ∙ rw c.as_slice.ensures.value at (c.in-Err-read_rows.ensures small)
