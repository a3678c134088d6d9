use Rattle.std.proofs.Common.{◌∙◌, ap, Bor, List, ℕ, []}
use Rattle.std.specs.Prelude.{unwrap_or}
use Rattle.csv.specs.Records.{fields_of}
use Rattle.df_csv.proofs.HeaderFacts.{unwrap_now}
use Rattle.df_csv.proofs.TextFields.{text_at}
use Rattle.df_csv.proofs.header.field_in.Goals as goal

pub from_utf8_unchecked-requires : goal.from_utf8_unchecked-requires
from_utf8_unchecked-requires c =
    let e = ap (λ (b : Bor (List ℕ)). b.now) c.unwrap_or-field.ensures ∙ unwrap_now c.get.result _ ∙ ap (λ o. unwrap_or o []) c.get.ensures.value in
    rw e (text_at (fields_of c.args.row.now) c.args.index c.requires)
