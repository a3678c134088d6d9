use Rattle.std.proofs.Common.{◌≡◌, ◌∙◌, ap, length, map, sym}
use Rattle.std.proofs.lemmas.Slice.Zip.{firsts-zip, seconds-zip}
use Rattle.df_value.specs.Rows.{rows_fit}
use Rattle.df_session.proofs.rows.read_rows.Goals as goal

-- there are as many rows as numbers
as-many : (c : goal.In_ok-with_numbers) → length c.into_rows.result ≡ length c.args.numbers
as-many c =
    ap length c.into_rows.ensures
    ∙ (sym (c.len.ensures ∙ ap length c.rows.ensures.value) ∙ (c.if-len.false ∙ c.len-2.ensures))

pub returns-clause-numbers : goal.returns-clause-numbers
returns-clause-numbers c = ap (map (λ r. r.0)) c.in_ok-with_numbers.ensures ∙ firsts-zip c.args.numbers c.into_rows.result (as-many c)

pub returns-clause-fitting : goal.returns-clause-fitting
returns-clause-fitting c =
    let chunk = c.in_ok-chunk.chunk in
    let same : map (λ r. r.1) c.in_ok-with_numbers.field-0 ≡ chunk.rows =
    ap (map (λ r. r.1)) c.in_ok-with_numbers.ensures ∙ (seconds-zip c.args.numbers c.into_rows.result (as-many c) ∙ c.into_rows.ensures) in
    ap (rows_fit c.args.schema.now) same
    ∙ (ap (λ s. rows_fit s chunk.rows) (sym c.in_ok-chunk.ensures.schema) ∙ c.rows.ensures.sound.fitting)
