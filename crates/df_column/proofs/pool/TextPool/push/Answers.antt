use Rattle.std.proofs.Common.{ap, sym, ◌∙◌, ◌++◌, ◌∷◌, [], length, arith}
use Rattle.df_column.proofs.Parts.{length-parts, parts-push}
use Rattle.df_column.proofs.PoolLemmas.{pool_push}
use Rattle.df_column.proofs.pool.TextPool.push.Goals as goal

pub push_text-requires : goal.push_text-requires
push_text-requires c =
    let e = length-parts 0 c.self.inside.bytes.items c.self.inside.ends.items in
    let f = ap length c.self.view_is in
    omega (arith, e, f, c.requires)

pub invariant_of-self-2 : goal.invariant_of-self-2
invariant_of-self-2 c =
    rw (c.in_ok-place.ensures.ok_bytes, c.in_ok-place.ensures.ok_ends, c.as_bytes.ensures.value)
    (pool_push c.self.inside.bytes.items c.self.inside.ends.items c.args.text.now c.self.invariant c.utf8.text)

pub returns-clause-place : goal.returns-clause-place
returns-clause-place c =
    c.in_ok-place.ensures.place ∙ sym (length-parts 0 c.self.inside.bytes.items c.self.inside.ends.items) ∙ ap length c.self.view_is

pub returns-clause-texts : goal.returns-clause-texts
returns-clause-texts c =
    rw (c.in_ok-place.ensures.ok_ends, c.in_ok-place.ensures.ok_bytes, c.as_bytes.ensures.value)
    (parts-push 0 c.self.inside.bytes.items c.args.text.now c.self.inside.ends.items c.self.invariant.rising
    ∙ ap (λ ts. ts ++ c.args.text.now ∷ []) c.self.view_is)
