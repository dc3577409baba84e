-- Which calls may come when: the nesting of what is open, and the order of a text's calls.
use Rattle.std.specs.Prelude.{◌≡◌, Bool, false, List, [], ◌∷◌, Option, Some, None, if◌then◌else◌, ◌||◌}
use Rattle.std.specs.Option.{option_and_then}
use Rattle.std.specs.List.{list_any}
use Rattle.node_base.specs.Path.{Path, same_path}
use Rattle.delta_editor.specs.Calls.{Call}
use Rattle.delta_editor.specs.declared.call.Call.TheVariants as call

-- what is open: a directory, or a file before its text, in its text, and after it
pub data Opened : Type 0 where
  OpenDir : Path → Opened
  OpenFile : Path → Opened
  OpenText : Path → Opened
  TextDone : Path → Opened

-- before the root is opened, with what is open, the innermost first, and after the end
pub data Stage : Type 0 where
  Before : Stage
  Within : List Opened → Stage
  After : Stage

-- a directory that is open at the path
abbrev pub is_dir : Path → Opened → Bool
is_dir p (OpenDir q) = same_path p q
is_dir p (OpenFile q) = false
is_dir p (OpenText q) = false
is_dir p (TextDone q) = false

-- a file that is open at the path and has been given no text
abbrev pub is_fresh : Path → Opened → Bool
is_fresh p (OpenDir q) = false
is_fresh p (OpenFile q) = same_path p q
is_fresh p (OpenText q) = false
is_fresh p (TextDone q) = false

-- a file that is open at the path, in its text
abbrev pub is_in_text : Path → Opened → Bool
is_in_text p (OpenDir q) = false
is_in_text p (OpenFile q) = false
is_in_text p (OpenText q) = same_path p q
is_in_text p (TextDone q) = false

-- a file that is open at the path, its text behind it
abbrev pub is_told : Path → Opened → Bool
is_told p (OpenDir q) = false
is_told p (OpenFile q) = false
is_told p (OpenText q) = false
is_told p (TextDone q) = same_path p q

-- what is open once the innermost open thing, which passes the test, and those around it have become others
abbrev pub innermost : (Opened → Bool) → (Opened → List Opened → List Opened) → List Opened → Option Stage
innermost test new [] = None
innermost test new (o ∷ os) = if test o then Some (Within (new o os)) else None

-- the end comes when nothing is open
abbrev pub ended : List Opened → Option Stage
ended [] = Some After
ended (o ∷ os) = None

-- the stage after a call that may come while things are open
abbrev pub within : List Opened → Call → Option Stage
within os (call.Target n) = Some (Within os)
within os (call.OpenRoot base) = None
within os (call.AddDir up p from) = innermost (is_dir up) (λ o out. OpenDir p ∷ o ∷ out) os
within os (call.OpenDir up p base) = innermost (is_dir up) (λ o out. OpenDir p ∷ o ∷ out) os
within os (call.DeleteEntry up p base) = innermost (is_dir up) (λ o out. o ∷ out) os
within os (call.AddFile up p from) = innermost (is_dir up) (λ o out. OpenFile p ∷ o ∷ out) os
within os (call.OpenFile up p base) = innermost (is_dir up) (λ o out. OpenFile p ∷ o ∷ out) os
within os (call.DirProp p name value) = if list_any (is_dir p) os then Some (Within os) else None
within os (call.FileProp p name value) = innermost (λ o. is_fresh p o || is_in_text p o || is_told p o) (λ o out. o ∷ out) os
within os (call.TextStart p) = innermost (is_fresh p) (λ o out. OpenText p ∷ out) os
within os (call.TextPiece p piece) = innermost (is_in_text p) (λ o out. o ∷ out) os
within os (call.TextEnd p) = innermost (is_in_text p) (λ o out. TextDone p ∷ out) os
within os (call.CloseFile p sum) = innermost (λ o. is_fresh p o || is_told p o) (λ o out. out) os
within os (call.CloseDir p) = innermost (is_dir p) (λ o out. out) os
within os call.CloseEdit = ended os

-- the stage after a call that may come before the root is opened
abbrev pub begun : Call → Option Stage
begun (call.Target n) = Some Before
begun (call.OpenRoot base) = Some (Within (OpenDir [] ∷ []))
begun _ = None

-- the stage after a call that may come
abbrev pub next : Stage → Call → Option Stage
next Before c = begun c
next (Within os) c = within os c
next After c = None

-- the stage after calls that may come in this order
abbrev pub run : Stage → List Call → Option Stage
run s [] = Some s
run s (c ∷ cs) = option_and_then (λ t. run t cs) (next s c)

-- the calls keep the nesting and the order of a text's calls from the beginning of the edit up to its end
abbrev pub IsNested : List Call → Type 0
IsNested calls = run Before calls ≡ Some After
