-- The texts of the faults of a document, as the programs print them behind their names.
use Rattle.std.specs.Prelude.{ℕ, Bool, true, false, List, ◌++◌, codes, decimal, if◌then◌else◌}
use Rattle.df_value.specs.declared.schema.SchemaFault.{SchemaFault}
use Rattle.df_value.specs.declared.schema.SchemaFault.TheVariants as schema
use Rattle.df_expr.specs.declared.fault.ExprFault.{ExprFault}
use Rattle.df_expr.specs.declared.fault.ExprFault.TheVariants as expr
use Rattle.df_plan.specs.declared.fault.PlanFault.{PlanFault}
use Rattle.df_plan.specs.declared.fault.PlanFault.TheVariants as plan
use Rattle.df_csv.specs.declared.fault.CsvFault.{CsvFault}
use Rattle.df_csv.specs.declared.fault.CsvFault.TheVariants as csv
use Rattle.df_print.specs.Printed.{escaped_text}
use Rattle.df_text.specs.declared.document.Location.{Location}
use Rattle.df_text.specs.declared.document.Location.TheVariants as location
use Rattle.df_text.specs.declared.fault.ViewsFault.{ViewsFault}
use Rattle.df_text.specs.declared.fault.ViewsFault.TheVariants as views
use Rattle.df_document.specs.declared.fault.DocumentFault.{DocumentFault}
use Rattle.df_document.specs.declared.fault.DocumentFault.TheVariants as fault

-- a code and behind it the top, the frame or the view that is at fault
abbrev pub code_with_location : List ℕ → Location → List ℕ
code_with_location code location.Top = code ++ codes " top"
code_with_location code (location.Frame n) = code ++ (codes " frame " ++ decimal n)
code_with_location code (location.View n) = code ++ (codes " view " ++ decimal n)
code_with_location code (location.Step n step) = code ++ (codes " view " ++ decimal n)
code_with_location code (location.Item n step item) = code ++ (codes " view " ++ decimal n)

abbrev pub schema_text : SchemaFault → List ℕ
schema_text schema.DoubledName = codes "S1"
schema_text schema.TooWide = codes "S2"
schema_text schema.NoColumns = codes "S3"

abbrev pub views_text : ViewsFault → List ℕ
views_text views.NotToml = codes "V1"
views_text (views.Shape at) = code_with_location (codes "V2") at
views_text (views.Word at) = code_with_location (codes "V3") at
views_text (views.Doubled at) = code_with_location (codes "V4") at
views_text views.TooManyFrames = codes "V5 frame"
views_text views.TooManyViews = codes "V5 view"
views_text (views.NoFrame at) = code_with_location (codes "V6") at
views_text (views.Schema n f) = codes "V7 frame " ++ (decimal n ++ (codes " " ++ schema_text f))
views_text views.Memory = codes "memory"

-- a code and a name behind it
abbrev pub code_with_name : List ℕ → List ℕ → List ℕ
code_with_name code name = code ++ (codes " " ++ escaped_text name)

abbrev pub expr_text : ExprFault → List ℕ
expr_text (expr.NoColumn name) = code_with_name (codes "P2 E1") name
expr_text expr.WrongType = codes "P2 E2"
expr_text expr.TooDeep = codes "P2 E3"
expr_text expr.Memory = codes "memory"

abbrev pub plan_text : PlanFault → List ℕ
plan_text (plan.NoFrame n) = codes "P1 " ++ decimal n
plan_text (plan.Expr f) = expr_text f
plan_text (plan.DoubledName name) = code_with_name (codes "P3") name
plan_text plan.TooManyScans = codes "P4"
plan_text plan.TooDeep = codes "P5"
plan_text plan.BadWindow = codes "P6"
plan_text plan.EmptyList = codes "P7"
plan_text plan.TooWide = codes "P8"
plan_text (plan.ConstantColumn name) = code_with_name (codes "P9") name
plan_text (plan.WrongType name) = code_with_name (codes "P10") name
plan_text plan.Memory = codes "memory"

abbrev pub csv_text : CsvFault → List ℕ
csv_text csv.ReadFault = codes "F1"
csv_text csv.TooLarge = codes "F2"
csv_text csv.NotText = codes "F3"
csv_text (csv.BadRecord n) = codes "F4 " ++ decimal n
csv_text (csv.MissingColumn name) = code_with_name (codes "F5") name
csv_text (csv.DoubledHeader name) = code_with_name (codes "F6") name
csv_text csv.TooManyRecords = codes "F7"
csv_text csv.Memory = codes "memory"

-- a text under the name of a frame or a view
abbrev pub text_under_name : List ℕ → List ℕ → List ℕ
text_under_name name text = escaped_text name ++ (codes ": " ++ text)

-- whether it is memory that was refused, in whichever layer
abbrev pub is_memory : DocumentFault → Bool
is_memory fault.Memory = true
is_memory (fault.Views views.Memory) = true
is_memory (fault.Plan view plan.Memory) = true
is_memory (fault.Plan view (plan.Expr expr.Memory)) = true
is_memory (fault.Csv frame csv.Memory) = true
is_memory _ = false

abbrev pub text_in_full : DocumentFault → List ℕ
text_in_full fault.ReadFault = codes "V10"
text_in_full fault.TooLarge = codes "V9"
text_in_full (fault.Views f) = views_text f
text_in_full (fault.Plan view f) = text_under_name view (plan_text f)
text_in_full (fault.Csv frame f) = text_under_name frame (csv_text f)
text_in_full fault.Memory = codes "memory"

-- the text of a fault
abbrev pub fault_text_of : DocumentFault → List ℕ
fault_text_of f = if is_memory f then codes "memory" else text_in_full f
