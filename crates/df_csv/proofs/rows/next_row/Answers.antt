use Rattle.std.proofs.Common.{sym, ◌∙◌}
use Rattle.std.proofs.lemmas.Bool.{false≢true}
use Rattle.df_csv.proofs.CsvSteps.{all_like, found_row, no_row}
use Rattle.df_csv.proofs.rows.next_row.Goals as goal

pub returns-in-Ok-true : goal.returns-in-Ok-true
returns-in-Ok-true g c =
    let found = c.in-Ok-true.field-0-test in
    let reads = c.in-Ok-true.ensures.reads c.requires.0 c.requires.1 in
    found_row g.R.Read.remaining c.args.reader.now c.read_byte_record.new.self _ c.requires (rw found at reads) (c.in-Ok-true.ensures.reads_on found)

pub returns-in-Ok-false : goal.returns-in-Ok-false
returns-in-Ok-false g c =
    let reads = c.in-Ok-false.ensures.reads c.requires.0 c.requires.1 in
    no_row g.R.Read.remaining c.args.reader.now c.read_byte_record.new.self _ c.requires (rw c.in-Ok-false.field-0-test at reads)

pub unreachable-requires : goal.unreachable-requires
unreachable-requires g c =
    let why = c.in-Err.ensures.why c.requires.1 in
    all_like g.R.Read.remaining c.args.reader.now c.read_byte_record.new.self c.in-UnequalLengths.pos c.in-UnequalLengths.expected_len c.in-UnequalLengths.len c.requires
    (rw (sym c.kind.ensures ∙ c.in-UnequalLengths.is) at why)

pub unreachable-requires-in-Utf8 : goal.unreachable-requires-in-Utf8
unreachable-requires-in-Utf8 g c =
    let why = c.in-Err.ensures.why c.requires.1 in
    let at = rw (sym c.kind.ensures ∙ c.in-Utf8.is) at why in
    false≢true at.0

pub unreachable-requires-in-Serialize : goal.unreachable-requires-in-Serialize
unreachable-requires-in-Serialize g c =
    let why = c.in-Err.ensures.why c.requires.1 in
    rw (sym c.kind.ensures ∙ c.in-Serialize.is) at why

pub unreachable-requires-in-Deserialize : goal.unreachable-requires-in-Deserialize
unreachable-requires-in-Deserialize g c =
    let why = c.in-Err.ensures.why c.requires.1 in
    rw (sym c.kind.ensures ∙ c.in-Deserialize.is) at why
