use Rattle.std.proofs.Common.{◌≡◌, ◌++◌, flat_map, take}
use Rattle.df_page.specs.Markup.{tag_bytes}
use Rattle.df_page.proofs.markup.push_tags.Given as goal

abbrev pub invariant-loop-tag : goal.invariant-loop-tag
invariant-loop-tag l = l.out.items ≡ l.initial.out.items ++ flat_map (λ t. tag_bytes (t.0.now, t.1.now)) (take l.tag-index l.tags)
