use Rattle.std.proofs.Common.{arith}
use Rattle.std.proofs.lemmas.Grind.{common_steps}
use Rattle.toml.specs.Data.{string}
use Rattle.df_writing.proofs.TextFacts.{later_items-map}
use Rattle.df_writing.proofs.toml_text.push_later_names.Goals as goal

pub returns : goal.returns
returns c = grind (arith, common_steps, later_items-map string c.args.names.now)
