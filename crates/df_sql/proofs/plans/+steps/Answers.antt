use Rattle.std.proofs.Common.{◌≡◌, ◌⊎◌, inl, inr, rules, subst, sym}
use Rattle.df_plan.specs.declared.plan.Plan.{the_lemmas}
use Rattle.df_sql.specs.Parts.{HasColumns}
use Rattle.df_sql.proofs.PartFacts.{of_filter, of_group, of_join, of_rank, of_rolling, of_select, of_sum, of_with}
use Rattle.df_sql.proofs.plans.+steps.Goals as goal

two : {A B T : Type 0} → A ⊎ B → (A → T) → (B → T) → T
two (inl a) f g = f a
two (inr b) f g = g b

pub push_steps-push_side-requires : goal.push_steps-push_side-requires
push_steps-push_side-requires t c = (search (rules, the_lemmas), (of_join _ _ _ _ _ _ _ c.requires c.in-Join.is).0)

pub push_steps-push_side-requires-in-Join : goal.push_steps-push_side-requires-in-Join
push_steps-push_side-requires-in-Join t c = (search (rules, the_lemmas), (of_join _ _ _ _ _ _ _ c.requires c.in-Join.is).1)

pub push_steps-push_sides-requires-clause-left : goal.push_steps-push_sides-requires-clause-left
push_steps-push_sides-requires-clause-left t c =
    subst (λ i. HasColumns i c.args.over.schemas.now) (sym c.get.ensures) (of_join _ _ _ _ _ _ _ c.requires c.in-Join.is).0

pub push_steps-push_sides-requires-clause-right : goal.push_steps-push_sides-requires-clause-right
push_steps-push_sides-requires-clause-right t c =
    subst (λ i. HasColumns i c.args.over.schemas.now) (sym c.get-in-Join.ensures) (of_join _ _ _ _ _ _ _ c.requires c.in-Join.is).1

pub push_steps-push_over-requires : goal.push_steps-push_over-requires
push_steps-push_over-requires t c = (
  search (rules, the_lemmas),
  two c.in-Rolling.is (λ x. of_rolling c.args.over.schemas.now c.args.plan.now c.in-Rolling.input _ _ _ _ _ c.requires x.5)
      (λ x. of_rank c.args.over.schemas.now c.args.plan.now c.in-Rolling.input _ _ _ c.requires x.3),
)

pub push_steps-push_over-requires-in-GroupBy : goal.push_steps-push_over-requires-in-GroupBy
push_steps-push_over-requires-in-GroupBy t c = (
  search (rules, the_lemmas),
  two c.in-GroupBy.is (λ x. of_group c.args.over.schemas.now c.args.plan.now c.in-GroupBy.input _ _ c.requires x.2)
      (λ x. of_sum c.args.over.schemas.now c.args.plan.now c.in-GroupBy.input _ _ c.requires x.2),
)

pub push_steps-push_over-requires-in-Filter : goal.push_steps-push_over-requires-in-Filter
push_steps-push_over-requires-in-Filter t c = (
  search (rules, the_lemmas),
  two c.in-Filter.is (λ x. of_filter c.args.over.schemas.now c.args.plan.now c.in-Filter.input _ c.requires x.1)
      (λ either. two either (λ x. of_select c.args.over.schemas.now c.args.plan.now c.in-Filter.input _ c.requires x.1)
      (λ x. of_with c.args.over.schemas.now c.args.plan.now c.in-Filter.input _ c.requires x.1)),
)
