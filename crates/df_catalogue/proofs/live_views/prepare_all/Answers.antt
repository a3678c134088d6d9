use Rattle.std.proofs.Common.{rules, ◌≡◌}
use Rattle.std.specs.Vec.{with_items}
use Rattle.std.proofs.lemmas.List.{with_items_is}
use Rattle.df_catalogue.proofs.live_views.prepare_all.Goals as goal

pub returns-clause-headings : goal.returns-clause-headings
returns-clause-headings c =
    let same : (with_items c.args.views.now c.prepare_each.new.views).items ≡ c.prepare_each.new.views = with_items_is c.args.views.now c.prepare_each.new.views (search rules) in
    rw (same, ← c.as_mut_slice.ensures.value) c.prepare_each.ensures.headings

pub returns-clause-live : goal.returns-clause-live
returns-clause-live c =
    let same : (with_items c.args.views.now c.prepare_each.new.views).items ≡ c.prepare_each.new.views = with_items_is c.args.views.now c.prepare_each.new.views (search rules) in
    rw (same, ← c.as_mut_slice.ensures.value) c.prepare_each.ensures.live

pub returns-clause-count : goal.returns-clause-count
returns-clause-count c =
    let same : (with_items c.args.views.now c.prepare_each.new.views).items ≡ c.prepare_each.new.views = with_items_is c.args.views.now c.prepare_each.new.views (search rules) in
    rw same c.prepare_each.ensures.count

pub returns-clause-staged : goal.returns-clause-staged
returns-clause-staged c =
    let same : (with_items c.args.views.now c.prepare_each.new.views).items ≡ c.prepare_each.new.views = with_items_is c.args.views.now c.prepare_each.new.views (search rules) in
    rw (same, ← c.as_mut_slice.ensures.value) c.prepare_each.ensures.staged

pub returns-clause-room : goal.returns-clause-room
returns-clause-room c =
    let same : (with_items c.args.views.now c.prepare_each.new.views).items ≡ c.prepare_each.new.views = with_items_is c.args.views.now c.prepare_each.new.views (search rules) in
    rw same c.prepare_each.ensures.room

pub prepare_each-requires-clause-few : goal.prepare_each-requires-clause-few
prepare_each-requires-clause-few c = rw c.as_mut_slice.ensures.value c.requires.few

pub returns-clause-work : goal.returns-clause-work
returns-clause-work c =
    rw (← c.as_mut_slice.ensures.value) c.prepare_each.ensures.work

pub returns-clause-changes : goal.returns-clause-changes
returns-clause-changes c =
    let same : (with_items c.args.views.now c.prepare_each.new.views).items ≡ c.prepare_each.new.views = with_items_is c.args.views.now c.prepare_each.new.views (search rules) in
    rw (same, ← c.as_mut_slice.ensures.value) c.prepare_each.ensures.changes

pub returns-clause-kept : goal.returns-clause-kept
returns-clause-kept c =
    rw (← c.as_mut_slice.ensures.value) c.prepare_each.ensures.kept
