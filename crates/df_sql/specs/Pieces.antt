-- The text of a piece of a statement: words stand as they are, names and texts in quotes, whole numbers in decimal.
use Rattle.std.specs.Prelude.{ℕ, List}
use Rattle.std.specs.Fmt.{signed_decimal}
use Rattle.df_sql.specs.Quotes.{literal_text, name_text}
use Rattle.df_sql.specs.declared.statement.Piece.{Piece}
use Rattle.df_sql.specs.declared.statement.Piece.TheVariants as piece

abbrev pub piece_text : Piece → List ℕ
piece_text (piece.Sql words) = words.now
piece_text (piece.Name name) = name_text name.now
piece_text (piece.Literal text) = literal_text text.now
piece_text (piece.Number n) = signed_decimal n
