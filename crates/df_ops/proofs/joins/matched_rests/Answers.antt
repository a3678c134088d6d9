use Rattle.std.proofs.Common.{arith, [], ◌∙◌, ap, map, refl}
use Rattle.df_ops.proofs.Steps.{joined_more, all_done}
use Rattle.std.proofs.lemmas.List.{map-append}
use Rattle.std.proofs.lemmas.List.Elements.{filter-append}
use Rattle.df_ops.specs.Groups.{key_of}
use Rattle.df_ops.specs.Joins.{keys_match, matches_of}
use Rattle.df_ops.proofs.joins.matched_rests.Goals as goal

pub loop-right-preserved : goal.loop-right-preserved
loop-right-preserved c =
    let n = c.args.nulls_equal in
    let indices = c.args.indices.now in
    let rest = c.args.rest.now in
    let key = c.args.key.now in
    joined_more (λ rights. map (key_of rest) (matches_of n indices key rights))
    (λ xs ys. ap (map (key_of rest)) (filter-append (λ r. keys_match n key (key_of indices r)) xs ys) ∙ map-append (key_of rest) _ _)
    [] c.args.rights.now _ _ _ _ (omega arith) c.right-item.is c.loop-right.invariant c.in_ok-add_rest.ensures

pub returns : goal.returns
returns c =
    all_done (λ rights. map (key_of c.args.rest.now) (matches_of c.args.nulls_equal c.args.indices.now c.args.key.now rights)) c.args.rights.now _ _ _
    c.loop-right-test.false c.loop-right.invariant refl
