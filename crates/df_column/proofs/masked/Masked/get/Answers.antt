use Rattle.std.proofs.Common.{ap, length, arith}
use Rattle.df_column.proofs.Masks.{length_masked}
use Rattle.df_column.proofs.masked.Masked.get.Goals as goal

pub value_at-requires : goal.value_at-requires
value_at-requires g c =
    let e = length_masked c.self.inside.nulls.items c.self.inside.values.items in
    let f = ap length c.self.view_is in
    let h = ap length c.deref-2.ensures.value in
    omega (arith, e, f, h, c.requires)
