use Rattle.std.proofs.Common.{◌≡◌, ◌∙◌, IsTrue, ap, refl, sym, subst, arith}
use Rattle.std.specs.Prelude.{Some, slice_get}
use mathlib.Core.Logic.{inl, inr}
use Rattle.df_state.specs.Reads.{view_names_of}
use Rattle.df_store.specs.Headings.{headings_of}
use Rattle.df_state.proofs.ListFacts.{last-or-before, looked-up}
use Rattle.df_store.proofs.ViewFacts.{heading-given, heading-same, headings-same}
use Rattle.df_store.proofs.views.are_views.Goals as goal

pub returns-then-not-is_view : goal.returns-then-not-is_view
returns-then-not-is_view g c =
    let s = c.args.catalogue.now.state in
    let views = c.args.views.now in
    let names = c.as_slice-names.result.now in
    let at = c.loop-at.at in
    let many = c.if-names-views.false in
    let low = c.loop-at-test.true in
    let named : slice_get (view_names_of s) at ≡ Some c.index-names-at.result =
    ap (λ ns. slice_get ns at) (sym (c.as_slice-names.ensures ∙ c.requires.names)) ∙ looked-up names at c.index-names-at.result (omega (arith, many, low)) c.index-names-at.is in
    let given : slice_get views at ≡ Some c.index-views-at.result = looked-up views at c.index-views-at.result low c.index-views-at.is in (
      λ h. absurd (cc),
      λ e. subst IsTrue c.if-not-is_view.true
          (c.is_view.ensures.1 (heading-given s views at c.index-names-at.result c.index-views-at.result c.requires.legal.names named given e)),
    )

pub loop-at-preserved : goal.loop-at-preserved
loop-at-preserved g c = λ k before.
    let s = c.args.catalogue.now.state in
    let views = c.args.views.now in
    let names = c.as_slice-names.result.now in
    let at = c.loop-at.at in
    let many = c.if-names-views.false in
    let low = c.loop-at-test.true in
    let named : slice_get (view_names_of s) at ≡ Some c.index-names-at.result =
    ap (λ ns. slice_get ns at) (sym (c.as_slice-names.ensures ∙ c.requires.names)) ∙ looked-up names at c.index-names-at.result (omega (arith, many, low)) c.index-names-at.is in
    let given : slice_get views at ≡ Some c.index-views-at.result = looked-up views at c.index-views-at.result low c.index-views-at.is in
    let is = c.is_view.ensures.0 c.if-not-is_view.false in
    elim (last-or-before k at before) [
      | inl e ↦ subst (λ j. slice_get (headings_of s) j ≡ slice_get views j) (sym e)
          (heading-same s views at c.index-names-at.result c.index-views-at.result c.requires.legal.names named given is.0 is.1)
      | inr l ↦ c.loop-at.invariant k l
    ]

pub returns : goal.returns
returns g c =
    let ended = c.loop-at-test.false in
    let many = c.if-names-views.false in (
      λ h. headings-same c.args.catalogue.now.state c.args.views.now c.as_slice-names.result.now (c.as_slice-names.ensures ∙ c.requires.names) many
          (λ k l. c.loop-at.invariant k (omega (arith, l, ended))),
      λ e. refl,
    )
