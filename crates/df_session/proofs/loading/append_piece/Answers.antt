use Rattle.std.proofs.Common.{◌∙◌, ap, arith, subst}
use Rattle.std.specs.Prelude.{Some}
use Rattle.std.proofs.lemmas.Result.{on_ok_weaker}
use Rattle.df_csv.specs.Typed.{piece_start}
use Rattle.df_value.specs.declared.chunk.Piece.TheVariants as made
use Rattle.df_session.specs.Loading.{AreRowsTried, records_of_chunk}
use Rattle.df_session.proofs.LoadFacts.{piece-count}
use Rattle.df_session.proofs.loading.append_piece.Goals as goal

pub type_piece-requires-clause-within : goal.type_piece-requires-clause-within
type_piece-requires-clause-within g c =
    let count = piece-count c.args.frame.now.schema c.args.records.now in
    let within = c.requires.within in
    omega (arith, within, count)

pub returns-in-Good-clause-tried : goal.returns-in-Good-clause-tried
returns-in-Good-clause-tried g c =
    on_ok_weaker c.append_rows.result
    (λ e. (
      made.Good c.in-Good.chunk,
      e.0,
      e.1,
      c.in_ok-chunk.ensures ∙ ap Some c.in-Good.is,
      subst (λ rows. AreRowsTried g.S.ViewStore.Makes g.S.ViewStore.Refuses g.S.ViewStore.Keeps c.args.frame.now c.args.at c.args.store.now
          c.append_rows.new.store (piece_start records_of_chunk c.args.n) c.args.loaded.now.next rows e.0 e.1) c.into_rows.ensures e.2,
      e.3,
    )) c.append_rows.ensures.tried
