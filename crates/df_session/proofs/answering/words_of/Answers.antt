use Rattle.std.proofs.Common.{◌∙◌, ap, drop}
use Rattle.std.proofs.lemmas.Iterator.Consumers.{map_from_collect}
use Rattle.csv.specs.Records.{fields_of}
use Rattle.df_session.proofs.WordList.{next-word, record-words}
use Rattle.df_session.proofs.answering.words_of.Goals as goal

pub returns : goal.returns
returns c =
    let all = ap (λ at. drop at (fields_of c.iter.result.row.now)) c.iter.ensures.at ∙ ap (λ r. fields_of r) c.iter.ensures.row in
    map_from_collect {steps = next-word} c.collect.result c.collect.ensures.ran (record-words c.iter.result (fields_of c.args.fields.now) all)
