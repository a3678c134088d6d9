use Rattle.std.proofs.Common.{◌∙◌, ap, refl, arith, append_assoc}
use Rattle.std.proofs.lemmas.Grind.{common_steps}
use Rattle.std.proofs.lemmas.List.Concat.{flat_map-append}
use Rattle.df_frame.specs.Numbers.{are_below}
use Rattle.df_frame.proofs.RangeFacts.{meeting}
use Rattle.df_frame.proofs.RangesApart.{longer-last, one-behind}
use Rattle.df_frame.proofs.ranges.Ranges.add.Goals as goal

pub returns-then-last-range : goal.returns-then-last-range
returns-then-last-range c = grind (arith, common_steps, flat_map-append, meeting, append_assoc)

pub invariant_of-self-then-last-range : goal.invariant_of-self-then-last-range
invariant_of-self-then-last-range c =
    let some = c.requires.some in
    longer-last _ _ _ _ _ c.in-Some.ensures.items c.in_ok-push-2.ensures.items refl (omega (arith, some)) c.self.invariant

pub invariant_of-self-2 : goal.invariant_of-self-2
invariant_of-self-2 c =
    one-behind _ _ _ _ _ _ c.in-Some.ensures.items c.in_ok-push-3.ensures.items c.in_ok-push-4.ensures.items
    (ap (are_below c.args.range.first) c.self.view_is ∙ c.requires.behind) c.requires.some c.if-last-range.false c.self.invariant
