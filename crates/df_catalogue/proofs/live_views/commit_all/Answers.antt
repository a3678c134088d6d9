use Rattle.std.proofs.Common.{rules, ◌≡◌}
use Rattle.std.specs.Vec.{with_items}
use Rattle.std.proofs.lemmas.List.{with_items_is}
use Rattle.df_catalogue.proofs.live_views.commit_all.Goals as goal

pub commit_each-requires-clause-count : goal.commit_each-requires-clause-count
commit_each-requires-clause-count c = rw c.as_mut_slice.ensures.value c.requires.count

pub commit_each-requires-clause-room : goal.commit_each-requires-clause-room
commit_each-requires-clause-room c = rw c.as_mut_slice.ensures.value c.requires.room

pub returns-clause-headings : goal.returns-clause-headings
returns-clause-headings c =
    let same : (with_items c.args.views.now c.commit_each.new.views).items ≡ c.commit_each.new.views = with_items_is c.args.views.now c.commit_each.new.views (search rules) in
    rw (same, ← c.as_mut_slice.ensures.value) c.commit_each.ensures.headings

pub returns-clause-live : goal.returns-clause-live
returns-clause-live c =
    let same : (with_items c.args.views.now c.commit_each.new.views).items ≡ c.commit_each.new.views = with_items_is c.args.views.now c.commit_each.new.views (search rules) in
    rw (same, ← c.as_mut_slice.ensures.value) c.commit_each.ensures.live

pub returns-clause-changes : goal.returns-clause-changes
returns-clause-changes c =
    let same : (with_items c.args.views.now c.commit_each.new.views).items ≡ c.commit_each.new.views = with_items_is c.args.views.now c.commit_each.new.views (search rules) in
    rw same c.commit_each.ensures.changes
