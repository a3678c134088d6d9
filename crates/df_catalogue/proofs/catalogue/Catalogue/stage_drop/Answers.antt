use Rattle.std.proofs.Common.{◌∙◌, ap, sym}
use Rattle.std.specs.Prelude.{bytes_eq, not, option_map}
use Rattle.df_state.specs.declared.change.Change.TheVariants.{DropView}
use Rattle.df_state.specs.declared.fault.CatalogueFault.TheVariants as fault
use Rattle.df_catalogue.specs.declared.staging.Staging.TheVariants.{OldView}
use Rattle.df_state.specs.Refusals.{reason_if}
use Rattle.df_catalogue.specs.Staging.{staged_parts}
use Rattle.df_state.proofs.Places.{any-none}
use Rattle.df_state.proofs.Refusing.{by-reason}
use Rattle.df_catalogue.proofs.StagedFacts.{not-staged, staged-made}
use Rattle.df_catalogue.proofs.StagedViewsFacts.{removal-for, removal-staged}
use Rattle.df_catalogue.proofs.StagingFacts.{nothing-staged, something-staged}
use Rattle.df_state.proofs.StateFacts.{changes-of, keeps-of, state-of, work-of}
use Rattle.df_catalogue.proofs.catalogue.Catalogue.stage_drop.Goals as goal

pub invariant_of-self : goal.invariant_of-self
invariant_of-self g c =
    let parts = c.self.inside in
    let gone = removal-staged parts.frames.items parts.views.items c.in-Some.at c.args.name.now _ _ _ _ _ (state-of c.self.view_is) c.self.invariant.parts
    (sym c.view_index.ensures.value ∙ c.in-Some.is) in
    something-staged _ _ _ _ (OldView c.in-Some.at) _ _ _ _ c.stage.ensures c.self.invariant.parts gone.0

pub returns-in-Some-clause-staged : goal.returns-in-Some-clause-staged
returns-in-Some-clause-staged g c =
    let parts = c.self.inside in
    let old = c.args.self.now in
    let gone = removal-staged parts.frames.items parts.views.items c.in-Some.at c.args.name.now _ _ _ _ old.state (state-of c.self.view_is) c.self.invariant.parts
    (sym c.view_index.ensures.value ∙ c.in-Some.is) in
    staged-made _ parts.frames.items parts.views.items _ parts.work _ (OldView c.in-Some.at) parts.keeps _ old (DropView c.args.name.now) c.stage.ensures tt gone.1
    (removal-for parts.frames.items parts.views.items parts.work c.in-Some.at c.args.name.now old gone.2 gone.0.legal (work-of c.self.view_is))
    (state-of c.self.view_is) (work-of c.self.view_is) (keeps-of c.self.view_is) (changes-of c.self.view_is) c.self.invariant.parts.legal

pub invariant_of-self-in-None : goal.invariant_of-self-in-None
invariant_of-self-in-None g c = nothing-staged _ _ _ _ _ _ _ _ c.clear.ensures c.self.invariant.parts

pub returns-in-None-clause-staged : goal.returns-in-None-clause-staged
returns-in-None-clause-staged g c =
    let parts = c.self.inside in
    let old = c.args.self.now in
    let refused = by-reason old.state (DropView c.args.name.now) fault.NoView
    (ap (λ b. reason_if (not b) fault.NoView) (any-none (λ v. bytes_eq v.name c.args.name.now) old.state.views (sym c.view_index.ensures.value ∙ c.in-None.is))) in
    not-staged old _ (DropView c.args.name.now) fault.NoView refused
    (ap (option_map (staged_parts parts.frames.items parts.views.items parts.work)) c.clear.ensures)
    (state-of c.self.view_is) (work-of c.self.view_is) (record { keeps = keeps-of c.self.view_is; changes = changes-of c.self.view_is }) c.self.invariant.parts.legal
