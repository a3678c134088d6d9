use Rattle.std.proofs.Common.{◌≡◌, ◌++◌, codes, flat_map, take}
use Rattle.df_writing.specs.Texts.{quoted}
use Rattle.df_writing.proofs.toml_text.push_later_names.Given as goal

abbrev pub invariant-loop-name : goal.invariant-loop-name
invariant-loop-name l = l.text.items ≡ l.fn.text.items ++ flat_map (λ name. codes ", " ++ quoted name) (take l.name-index l.names)
