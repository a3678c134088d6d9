use Rattle.std.proofs.Common.{arith}
use Rattle.std.proofs.lemmas.Str.Pattern.{split_parts}
use Rattle.df_explain.proofs.LineFacts.{one-line}
use Rattle.df_explain.proofs.names.first_line.Goals as goal

pub returns-in-Some : goal.returns-in-Some
returns-in-Some c =
    let parts = split_parts 10 c.args.text.now c.split_once.result c.split_once.ensures.cases (omega arith) in
    let these = rw c.in-Some.is at parts in
    one-line _ these.1

pub returns-in-None : goal.returns-in-None
returns-in-None c =
    let parts = split_parts 10 c.args.text.now c.split_once.result c.split_once.ensures.cases (omega arith) in
    let none = rw c.in-None.is at parts in
    one-line _ none
