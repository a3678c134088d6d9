use Rattle.std.proofs.Common.{◌∙◌, ap, arith, length, sym, subst}
use Rattle.std.specs.Prelude.{All}
use Rattle.df_document.specs.Sources.{IsSourceOf}
use Rattle.df_app.proofs.LoadedOutput.{jobs_few, output_of_load}
use Rattle.df_document.specs.Opening.{schemas_of}
use Rattle.df_app.specs.Loading.{numbered_chunks}
use Rattle.df_app.proofs.LoadCauses.{cause-of-document, load-refused}
use Rattle.df_app.proofs.LoadedViews.{views-there}
use Rattle.df_app.proofs.loading.load_opened.Goals as goal

pub load_all-requires-clause-jobs : goal.load_all-requires-clause-jobs
load_all-requires-clause-jobs g c κs within =
    let sources = c.as_slice-sources.result.now in
    let same = ap length c.as_slice-sources.ensures in
    let each = subst (All (IsSourceOf c.args.chunk)) (sym c.as_slice-sources.ensures) c.requires.each in
    let few = c.requires.sound.few_frames in
    let many = c.requires.sources in
    jobs_few c.args.chunk sources c.requires.some each (omega (arith, few, many, same))

pub output-requires-after_bounds : goal.output-requires-after_bounds
output-requires-after_bounds g c κs within =
    let load = c.in-Ok.ensures in
    views-there c.in-Ok.loaded.catalogue.state c.as_slice-in-Ok.result.now load.legal (load.views ∙ (c.as_slice.ensures.value ∙ sym c.as_slice-in-Ok.ensures.value))

pub returns-in-Ok-clause-output : goal.returns-in-Ok-clause-output
returns-in-Ok-clause-output g c =
    let d = c.args.sourced.now in
    let load = c.in-Ok.ensures in
    let loaded = c.in-Ok.loaded in
    let shown = c.as_slice-in-Ok.result.now in
    output_of_load d loaded.catalogue.state loaded.refused c.as_slice.result.now shown c.as_slice-frames.result.now c.as_slice-sources.result.now
    c.in_ok-output-in-Ok.field-0 c.as_slice-sources.ensures c.as_slice-frames.ensures (c.as_slice.ensures.value ∙ c.requires.views)
    (c.as_slice-in-Ok.ensures.value ∙ c.requires.views) load.legal load.loaded load.views load.refused
    c.in_ok-output-in-Ok.ensures.text c.in_ok-output-in-Ok.ensures.ends

pub of-requires : goal.of-requires
of-requires g c =
    let frames = c.as_slice-frames.result.now in
    cause-of-document (λ l. l.0.state) frames g.J.Naming.schemas _ _ _ c.in-Err.fault.cause c.in-Err.fault.told c.in-Err.fault.left
    (c.requires.frames ∙ ap schemas_of (sym c.as_slice-frames.ensures)) c.in-Err.ensures.left

pub returns-clause-fault : goal.returns-clause-fault
returns-clause-fault g c =
    load-refused (λ l. l.0.state) c.args.sourced.now c.as_slice-frames.result.now g.J.Naming.schemas _ c.as_slice.result.now c.named-hall.result.1.items
    c.in-Err.fault.cause c.in-Err.fault.told c.in-Err.fault.left c.in_ok-of-in-Err.field-0 c.as_slice-frames.ensures c.requires.frames
    (ap numbered_chunks c.as_slice-sources.ensures) (c.as_slice.ensures.value ∙ c.requires.views)
    (c.named-hall.ensures.desks ∙ c.requires.desks) c.in-Err.ensures.left c.in_ok-of-in-Err.ensures
