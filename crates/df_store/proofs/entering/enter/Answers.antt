use Rattle.std.proofs.Common.{◌≡◌, ◌∙◌, ap, sym}
use Rattle.df_value.specs.declared.chunk.Piece.TheVariants.{Good}
use Rattle.df_jobs.specs.Made.{piece_in}
use Rattle.df_store.proofs.GrownFacts.{whole-one}
use Rattle.df_store.proofs.entering.enter.Goals as goal

pub enter_chunk-requires : goal.enter_chunk-requires
enter_chunk-requires g c =
    let piece = sym c.kept.ensures ∙ ap piece_in c.in-Typed-Good.is in
    let good : c.args.outcome.now.made ≡ Good c.in-Typed-Good.chunk = cc (piece, c.in-Typed-Good.field-0-is) in
    whole-one g.B.Beginning.chunks c.args.outcome.now c.in-Typed-Good.chunk c.requires good

pub enter_chunk-requires-in-Stored : goal.enter_chunk-requires-in-Stored
enter_chunk-requires-in-Stored g c =
    whole-one g.B.Beginning.chunks c.args.outcome.now c.in_ok-chunk-in-Stored.chunk c.requires
    (sym c.kept.ensures ∙ (ap piece_in c.in-Stored.is ∙ ap Good (sym c.in_ok-chunk-in-Stored.ensures)))
