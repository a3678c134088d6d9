use Rattle.std.proofs.Common.{◌≡◌, ap, arith, get_or, length, subst}
use Rattle.std.specs.Prelude.{Some, option_map, slice_get}
use Rattle.df_text.specs.declared.document.FrameSpec.{FrameSpec}
use Rattle.df_session.proofs.AskedFacts.{rows-are, schema-at}
use Rattle.df_session.proofs.changing.rows_at.Goals as goal

pub returns-clause-rows : goal.returns-clause-rows
returns-clause-rows c =
    let frames = c.as_slice.result.now in
    let d = c.args.definitions.now in
    let none = c.index-as_slice-at.result in
    let schema = (get_or frames c.args.at none).schema in
    let is : option_map (λ (f : FrameSpec). f.schema) (slice_get d.document.frames c.args.at) ≡ Some schema =
    subst (λ fs. option_map (λ (f : FrameSpec). f.schema) (slice_get fs c.args.at) ≡ Some schema) c.as_slice.ensures
    (schema-at frames c.args.at none (omega (arith, c.requires, ap length c.as_slice.ensures))) in
    rows-are d c.args.at c.args.numbers schema c.read_rows.result is c.read_rows.ensures.numbers c.read_rows.ensures.fitting
