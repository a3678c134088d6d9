use Rattle.std.proofs.Common.{[], ◌∷◌, ◌∙◌, ap, length-append, Err}
use Rattle.std.proofs.lemmas.Result.{err_from_is_err_and}
use Rattle.df_document.specs.Sources.{IsSourceOf, pieces_by, pieces_of_sources}
use Rattle.std.proofs.Common.{add-one, arith}
use Rattle.std.proofs.lemmas.List.Elements.{All-push}
use Rattle.df_document.proofs.Unread.{fails_at, goes_on, may_go_on}
use Rattle.df_document.proofs.pieces.all_sources.Goals as goal

pub returns-in_err-read_source-clause-value : goal.returns-in_err-read_source-clause-value
returns-in_err-read_source-clause-value g c =
    let made = err_from_is_err_and c.from_residual.result c.from_residual.ensures.1 in
    fails_at (g.F.Files.file_at c.args.files.now) (g.F.Files.file_at c.loop-frame.files) c.args.chunk c.args.frames.now c.loop-frame.frame-index
    c.frame-item.result (pieces_of_sources c.loop-frame.all.items) c.in_err-read_source.field-0.0 (pieces_by c.from_residual.result) c.loop-frame.invariant.same c.loop-frame-test.true
    c.frame-item.is (ap pieces_by (made.1 ∙ ap Err made.2)) c.loop-frame.invariant.so_far c.loop-frame.invariant.may_fail c.in_err-read_source.ensures.value

pub loop-frame-preserved : goal.loop-frame-preserved
loop-frame-preserved g c =
    let contents = g.F.Files.file_at c.args.files.now in
    let now = g.F.Files.file_at c.loop-frame.files in
    let at = c.loop-frame.invariant in
    let source = c.in_ok-read_source.field-0 in
    rw (add-one, c.in_ok-push.ensures.items) (record {
      same = c.read_source.ensures.same ∙ at.same;
      so_far = goes_on contents now c.args.chunk c.args.frames.now c.loop-frame.frame-index c.frame-item.result c.loop-frame.all.items source at.same c.loop-frame-test.true c.frame-item.is
          at.so_far c.in_ok-read_source.ensures.value;
      may_fail = may_go_on contents now c.args.chunk c.args.frames.now c.loop-frame.frame-index c.frame-item.result source at.same c.loop-frame-test.true c.frame-item.is
          at.may_fail c.in_ok-read_source.ensures.value;
      each = let many = at.each in omega (arith, many, length-append c.loop-frame.all.items (source ∷ []));
      sound = All-push (IsSourceOf c.args.chunk) c.loop-frame.all.items source at.sound c.in_ok-read_source.ensures.sound;
    })
