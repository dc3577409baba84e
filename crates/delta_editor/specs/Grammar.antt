-- The calls of an edit as a grammar: each directory and each file with all that is done while it is open, apart from any stack.
use Rattle.std.specs.Prelude.{◌≡◌, ℕ, Bool, true, false, List, [], ◌∷◌, ◌++◌, Option}
use Rattle.std.specs.List.{list_any, list_all}
use Rattle.node_base.specs.Path.{Path, same_path}
use Rattle.node_base.specs.declared.node.Source.{Source}
use Rattle.delta_editor.specs.Calls.{Call}
use Rattle.delta_editor.specs.declared.call.Call.TheVariants as call

-- a call that may come anywhere while these directories are open: a target, or a property of one of them
abbrev pub is_anywhere : List Path → Call → Bool
is_anywhere ds (call.Target n) = true
is_anywhere ds (call.DirProp p name value) = list_any (same_path p) ds
is_anywhere ds _ = false

-- one that may come beside the text of an open file: one of these, or a property of the file
abbrev pub is_beside : List Path → Path → Call → Bool
is_beside ds f (call.FileProp p name value) = same_path p f
is_beside ds f (call.Target n) = true
is_beside ds f (call.DirProp p name value) = list_any (same_path p) ds
is_beside ds f _ = false

-- one that may come in the text of an open file: one of these, or a piece of the text
abbrev pub is_inside : List Path → Path → Call → Bool
is_inside ds f (call.TextPiece p piece) = same_path p f
is_inside ds f (call.FileProp p name value) = same_path p f
is_inside ds f (call.Target n) = true
is_inside ds f (call.DirProp p name value) = list_any (same_path p) ds
is_inside ds f _ = false

abbrev pub AllBeside : List Path → Path → List Call → Type 0
AllBeside ds f cs = list_all (is_beside ds f) cs ≡ true

-- all that is done with an open file: it is given no text, or one
pub data InFile (ds : List Path) (f : Path) : List Call → Type 0 where
  NoText : (cs : List Call) → AllBeside ds f cs → InFile ds f cs
  OneText : (before text after : List Call) → AllBeside ds f before → list_all (is_inside ds f) text ≡ true → AllBeside ds f after → InFile ds f (before ++ call.TextStart f ∷ (text ++ call.TextEnd f ∷ after))

-- all that is done in the first of these open directories, which is the innermost
pub data InDir : List Path → List Call → Type 0 where
  Nothing : (ds : List Path) → InDir ds []
  Anywhere : (ds : List Path) (c : Call) (cs : List Call) → is_anywhere ds c ≡ true → InDir ds cs → InDir ds (c ∷ cs)
  Deleted : (d : Path) (ds : List Path) (p : Path) (base : Option ℕ) (cs : List Call) → InDir (d ∷ ds) cs → InDir (d ∷ ds) (call.DeleteEntry d p base ∷ cs)
  AddedDir : (d : Path) (ds : List Path) (p : Path) (from : Option Source) (body cs : List Call) → InDir (p ∷ d ∷ ds) body → InDir (d ∷ ds) cs → InDir (d ∷ ds) (call.AddDir d p from ∷ (body ++ call.CloseDir p ∷ cs))
  OpenedDir : (d : Path) (ds : List Path) (p : Path) (base : Option ℕ) (body cs : List Call) → InDir (p ∷ d ∷ ds) body → InDir (d ∷ ds) cs → InDir (d ∷ ds) (call.OpenDir d p base ∷ (body ++ call.CloseDir p ∷ cs))
  AddedFile : (d : Path) (ds : List Path) (p : Path) (from : Option Source) (body : List Call) (sum : Option (List ℕ)) (cs : List Call) → InFile (d ∷ ds) p body → InDir (d ∷ ds) cs → InDir (d ∷ ds) (call.AddFile d p from ∷ (body ++ call.CloseFile p sum ∷ cs))
  OpenedFile : (d : Path) (ds : List Path) (p : Path) (base : Option ℕ) (body : List Call) (sum : Option (List ℕ)) (cs : List Call) → InFile (d ∷ ds) p body → InDir (d ∷ ds) cs → InDir (d ∷ ds) (call.OpenFile d p base ∷ (body ++ call.CloseFile p sum ∷ cs))

-- a whole edit: the root is opened once, all that is done in it, its close, and the end; targets may stand around it
pub record IsEdit (calls : List Call) : Type 0 where
  pub before : List Call
  pub base : Option ℕ
  pub body : List Call
  pub after : List Call
  pub targets : list_all (is_anywhere []) before ≡ true
  pub inside : InDir ([] ∷ []) body
  pub behind : list_all (is_anywhere []) after ≡ true
  pub is : calls ≡ before ++ call.OpenRoot base ∷ (body ++ call.CloseDir [] ∷ (after ++ call.CloseEdit ∷ []))
