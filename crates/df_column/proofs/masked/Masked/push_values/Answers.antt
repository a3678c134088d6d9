use Rattle.std.proofs.Common.{◌∙◌, ◌++◌, ap, arith, length, take, drop}
use Rattle.df_column.specs.Masks.{joined_mask, masked_values}
use Rattle.df_column.proofs.Masks.{length_masked, masked_joined, masked_part}
use Rattle.df_column.proofs.masked.Masked.push_values.Goals as goal

pub part-requires : goal.part-requires
part-requires g c =
    let e = length_masked c.old.inside.nulls.items c.old.inside.values.items in
    let f = ap length c.old.view_is in
    let h = ap length c.deref.ensures.value in
    omega (arith, e, f, h, c.requires)

pub returns : goal.returns
returns g c =
    let ns = c.self.inside.nulls.items in
    let vs = c.self.inside.values.items in
    let ws = c.part.result.now in
    let ms = c.mask_part.result.now in
    let from = c.args.from in
    let count = c.args.count in
    let values = c.part.ensures ∙ ap (λ xs. take count (drop from xs)) c.deref.ensures.value in
    let mask = c.mask_part.ensures ∙ ap (λ xs. take count (drop from xs)) c.deref-2.ensures.value in
    rw (c.in_ok-push_mask.ensures.nulls, c.in_ok-extend_from_slice.ensures.items)
    (ap (λ l. masked_values (joined_mask ns l ms) (vs ++ ws)) (ap length c.as_slice-len.ensures.value)
    ∙ masked_joined ns vs ws ms c.self.invariant
    ∙ ap (λ r. masked_values ns vs ++ r)
    (ap (λ m. masked_values m ws) mask ∙ ap (masked_values (take count (drop from c.old.inside.nulls.items))) values
    ∙ masked_part c.old.inside.nulls.items c.old.inside.values.items from count ∙ ap (λ xs. take count (drop from xs)) c.old.view_is)
    ∙ ap (λ r. r ++ take count (drop from c.args.old.now)) c.self.view_is)
