use Rattle.std.proofs.Common.{◌*◌, arith, sym, ap, ◌∙◌, Some}
use Rattle.df_csv.specs.Typed.{piece_of}
use Rattle.df_csv.specs.PieceStarts.{piece_stands_there}
use Rattle.df_csv.proofs.PieceFacts.{starts_within, take_left}
use Rattle.df_csv.proofs.pieces.type_piece.Goals as goal

pub overflow_mul-first : goal.overflow_mul-first
overflow_mul-first c =
    let s = starts_within c.args.n c.args.k _ c.requires.some c.requires.within in
    omega (arith, s, c.requires.sound.few)

pub overflow_sub-left : goal.overflow_sub-left
overflow_sub-left c =
    let s = starts_within c.args.n c.args.k _ c.requires.some c.requires.within in
    omega (arith, s, c.len.ensures)

pub overflow_cast-first : goal.overflow_cast-first
overflow_cast-first c =
    let s = starts_within c.args.n c.args.k _ c.requires.some c.requires.within in
    omega (arith, s, c.requires.sound.few)

pub returns : goal.returns
returns c =
    piece_stands_there c.args.schema.now c.args.k c.args.n c.args.records.now c.requires.within
    ∙ ap Some (sym (c.in_ok-made.ensures ∙ ap (λ xs. piece_of c.args.schema.now (c.args.n * c.args.k) xs) (rw (c.min.ensures, c.len.ensures) (take_left c.args.k (c.args.n * c.args.k) c.args.records.now))))
