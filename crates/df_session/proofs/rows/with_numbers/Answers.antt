use Rattle.std.proofs.Common.{◌≡◌, ◌∙◌, Ok, ap, length}
use Rattle.std.specs.declared.alloc.AllocError.{AllocError}
use Rattle.std.specs.Vec.Iter.{into_iter_items, into_iter_len}
use Rattle.std.specs.Iterator.Adapters.{zip_first, zip_second}
use Rattle.std.proofs.lemmas.Iterator.{items_from_collect, YieldsList-from_zip}
use Rattle.std.proofs.lemmas.Iterator.Adapters.{YieldsList-from_vec}
use Rattle.df_session.proofs.rows.with_numbers.Goals as goal

pub returns : goal.returns
returns c =
    let numbers : into_iter_items (zip_first c.zip.result) ≡ c.args.numbers =
    ap into_iter_items c.zip.ensures.first ∙ (c.into_iter.ensures.rest ∙ c.into_vec.ensures) in
    let rows : into_iter_items (zip_second c.zip.result) ≡ c.args.rows = c.zip.ensures.second.0 ∙ c.into_vec-2.ensures in
    let count : into_iter_len (zip_first c.zip.result) ≡ length c.args.numbers =
    ap into_iter_len c.zip.ensures.first ∙ (c.into_iter.ensures.len ∙ (c.into_vec.result.ok.0 ∙ ap length c.into_vec.ensures)) in
    let row_count : into_iter_len (zip_second c.zip.result) ≡ length c.args.rows =
    c.zip.ensures.second.1 ∙ (c.into_vec-2.result.ok.0 ∙ ap length c.into_vec-2.ensures) in
    c.from_vec.ensures
    ∙ items_from_collect {E = AllocError} (Ok c.in_ok-numbered.numbered) c.in_ok-numbered.ensures.ran
    (YieldsList-from_zip (YieldsList-from_vec c.args.numbers numbers count) (YieldsList-from_vec c.args.rows rows row_count))
