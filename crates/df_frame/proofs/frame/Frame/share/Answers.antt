use Rattle.std.proofs.Common.{◌≡◌, ◌∙◌, ap, sym}
use Rattle.std.proofs.lemmas.Result.{IfOk-weaker}
use Rattle.df_frame.specs.FrameParts.{FrameParts}
use Rattle.df_frame.specs.FrameTables.{tagged_rows_of}
use Rattle.df_frame.proofs.FrameTableFacts.{table-is}
use Rattle.df_frame.proofs.frame.Frame.share.Goals as goal

pub returns : goal.returns
returns c =
    let t = c.self.inside.table in
    let rows : t.rows ≡ tagged_rows_of c.args.self.now.state = sym (table-is t.rows c.self.invariant.tags) ∙ ap (λ (x : FrameParts). tagged_rows_of x.state) c.self.view_is in
    let schema : t.schema ≡ c.args.self.now.schema = ap (λ (x : FrameParts). x.schema) c.self.view_is in
    IfOk-weaker c.share.result _ _ (λ made is. is ∙ (λ i. record { schema = schema i; rows = rows i })) c.share.ensures
