use Rattle.std.proofs.Common.{ap, ◌∙◌, length, arith, [], get_or, ◌<◌}
use Rattle.std.specs.Str.{is_utf8}
use Rattle.std.proofs.lemmas.Str.{IsUtf8-from_is_utf8}
use Rattle.df_column.specs.Pools.{parts}
use Rattle.df_column.proofs.Parts.{length-parts, all-at}
use Rattle.df_column.proofs.pool.TextPool.get.Goals as goal

pub part-text-requires-clause-place : goal.part-text-requires-clause-place
part-text-requires-clause-place c =
    let e = length-parts 0 c.self.inside.bytes.items c.self.inside.ends.items in
    let f = ap length c.self.view_is in
    let g = ap length c.deref-2.ensures.value in
    omega (arith, e, f, g)

pub from_utf8_unchecked-requires : goal.from_utf8_unchecked-requires
from_utf8_unchecked-requires c =
    let e = length-parts 0 c.self.inside.bytes.items c.self.inside.ends.items in
    let f = ap length c.self.view_is in
    let lt : c.args.place < length (parts 0 c.self.inside.bytes.items c.self.inside.ends.items) = omega (arith, e, f) in
    IsUtf8-from_is_utf8 c.part-text.result.now
    (ap is_utf8 (c.part-text.ensures []
    ∙ ap (λ b. get_or (parts 0 b c.deref-2.result.now) c.args.place []) c.deref.ensures.value
    ∙ ap (λ es. get_or (parts 0 c.self.inside.bytes.items es) c.args.place []) c.deref-2.ensures.value)
    ∙ all-at is_utf8 (parts 0 c.self.inside.bytes.items c.self.inside.ends.items) c.args.place [] c.self.invariant.utf8 lt)
