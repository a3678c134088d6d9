use Rattle.std.proofs.Common.{rules, ◌≡◌}
use Rattle.std.specs.Vec.{with_items}
use Rattle.std.proofs.lemmas.List.{with_items_is}
use Rattle.df_catalogue.proofs.forgetting.forget_all.Goals as goal

pub returns : goal.returns
returns c =
    let same : (with_items c.args.views.now c.forget_each.new.views).items ≡ c.forget_each.new.views = with_items_is c.args.views.now c.forget_each.new.views (search rules) in
    rw (same, ← c.as_mut_slice.ensures.value) c.forget_each.ensures
