-- What is known of files, and what an attempt to open one then gives.
use Rattle.std.specs.Prelude.{◌≡◌, ℕ, ⊤, List, Option, Some, None}
use Rattle.df_document.specs.declared.files.FileState.{FileState}
use Rattle.df_document.specs.declared.files.FileState.TheVariants as known

-- what is known of the file under each path
abbrev pub Contents : Type 0
Contents = List ℕ → FileState

-- a file that is known opens if it is there, and its reader then has its bytes
abbrev pub Opens : FileState → Option (Option (List ℕ)) → Type 0
Opens known.Unknown reader = ⊤
Opens known.Absent reader = reader ≡ None
Opens (known.Bytes bytes) reader = reader ≡ Some (Some bytes)

-- whether there is a file is known, and so are its bytes
abbrev pub IsKnownState : FileState → Type 0
IsKnownState known.Unknown = ⊥
IsKnownState known.Absent = ⊤
IsKnownState (known.Bytes bytes) = ⊤

-- there is a file, of known bytes
abbrev pub HasBytes : FileState → Type 0
HasBytes known.Unknown = ⊥
HasBytes known.Absent = ⊥
HasBytes (known.Bytes bytes) = ⊤
