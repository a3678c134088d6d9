use Rattle.std.proofs.Common.{ap, sym, ◌∙◌}
use Rattle.std.specs.Option.{option_copied}
use Rattle.df_tree.proofs.PartitionLemmas.{all_of_none, all_up_to_last, none_behind}
use Rattle.df_tree.proofs.partition.holds_for_all.Goals as goal

pub returns-in-Some-clause-all : goal.returns-in-Some-clause-all
returns-in-Some-clause-all g c t =
    all_up_to_last (g.P.Predicate.holds c.args.predicate.now) _ c.in-Some.last.now c.requires (sym (ap option_copied c.in-Some.is) ∙ c.last.ensures) (sym c.holds.ensures ∙ t)

pub returns-in-Some-clause-none_behind : goal.returns-in-Some-clause-none_behind
returns-in-Some-clause-none_behind g c f xs h =
    none_behind (g.P.Predicate.holds c.args.predicate.now) _ xs _ c.in-Some.last.now (sym c.last.ensures ∙ ap option_copied c.in-Some.is) (sym c.holds.ensures ∙ f) h

pub returns-in-None-clause-all : goal.returns-in-None-clause-all
returns-in-None-clause-all g c t = all_of_none (g.P.Predicate.holds c.args.predicate.now) _ (sym (ap option_copied c.in-None.is) ∙ c.last.ensures)
