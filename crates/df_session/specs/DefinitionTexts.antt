-- The faults of views that a session defines, and of frames that it declares: the codes of a document's faults, without the view's name,
-- and of a frame also the words.
use Rattle.std.specs.Prelude.{◌++◌, ℕ, List, codes}
use Rattle.df_document.specs.Texts as document
use Rattle.df_document.specs.declared.fault.DocumentFault.{DocumentFault}
use Rattle.df_document.specs.declared.fault.DocumentFault.TheVariants as fault
use Rattle.df_text.specs.declared.document.Location.TheVariants as location
use Rattle.df_text.specs.declared.fault.ViewsFault.{ViewsFault}
use Rattle.df_text.specs.declared.fault.ViewsFault.TheVariants as views
use Rattle.df_value.specs.declared.schema.SchemaFault.{SchemaFault}
use Rattle.df_value.specs.declared.schema.SchemaFault.TheVariants as schema

-- the code of the fault of a view
abbrev pub definition_code : DocumentFault → List ℕ
definition_code (fault.Views f) = document.views_text f
definition_code (fault.Plan view f) = document.plan_text f
definition_code f = document.fault_text_of f

abbrev pub schema_words : SchemaFault → List ℕ
schema_words schema.DoubledName = codes "two columns have one name"
schema_words schema.TooWide = codes "more than 32 columns"
schema_words schema.NoColumns = codes "no column"

-- the fault of a frame in words
abbrev pub frame_words : ViewsFault → List ℕ
frame_words (views.Word (location.Frame frame)) = codes "a column's type is Int, Text or Bool"
frame_words (views.Doubled (location.Frame frame)) = codes "a frame of this name is declared"
frame_words views.TooManyFrames = codes "8 frames are declared"
frame_words (views.Schema frame f) = schema_words f
frame_words views.Memory = codes "out of memory"
frame_words f = codes "a fault of a document"
