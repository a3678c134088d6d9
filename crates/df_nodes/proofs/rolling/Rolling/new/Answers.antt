use Rattle.std.proofs.Common.{◌∙◌, [], ◌∷◌, ap}
use Rattle.df_ops.specs.Places.{places_of}
use Rattle.df_ops.specs.Windows.{rolling_dtype}
use Rattle.df_nodes.proofs.PrefixLaws.{rolled_is}
use Rattle.df_nodes.proofs.rolling.Rolling.new.Goals as goal

pub returns-clause-output : goal.returns-clause-output
returns-clause-output c t =
    let name = c.args.output.now in
    let kind = c.args.kind in
    rolled_is c.args.schema.now name kind c.args.column.now c.args.w c.args.m _ _ c.position.ensures.value
    (c.from_vec.ensures ∙ c.in_ok-places.ensures ∙ ap (λ columns. places_of columns ((name, rolling_dtype kind) ∷ [])) (c.as_slice.ensures ∙ c.columns.ensures.value)) t
