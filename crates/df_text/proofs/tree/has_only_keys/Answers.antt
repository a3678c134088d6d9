use Rattle.std.proofs.Common.{sym, ◌∙◌, map}
use Rattle.std.specs.List.{list_any}
use Rattle.std.specs.Str.{bytes_eq}
use Rattle.df_text.proofs.TreeFacts.{keys_all}
use Rattle.df_text.proofs.tree.has_only_keys.Goals as goal

pub returns : goal.returns
returns c =
    c.keys_are_among.ensures
    ∙ sym (keys_all (λ n. list_any (bytes_eq n) (map (λ k. k.now) c.args.keys.now)) c.args.table.now.entries)
