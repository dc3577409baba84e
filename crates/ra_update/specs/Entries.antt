-- The calls of an edit beside those of a drive: what a client wants to know of each node that is opened or added, and by
-- which revisions things are known. What gives a node what the reported tree has there isn't among them.
use Rattle.std.specs.Prelude.{ℕ, List, [], ◌∷◌, ◌++◌, Option, Some, codes, if◌then◌else◌}
use Rattle.std.specs.Option.{option_map_or, option_and_then}
use Rattle.std.specs.List.{slice_get}
use Rattle.std.specs.Fmt.{decimal}
use Rattle.std.specs.FinMap as finite
use Rattle.node_base.specs.Path.{Name, Path}
use Rattle.node_base.specs.Tree.{PathMap}
use Rattle.node_base.specs.declared.node.Node.{Node}
use Rattle.delta_editor.specs.declared.call.Call.{Call}
use Rattle.delta_editor.specs.declared.call.Call.TheVariants as call
use Rattle.ra_update.specs.Reported.{dir_in, file_in, has_already}
use Rattle.ra_update.specs.declared.facts.Facts.{Facts}

-- a property of the revision that last changed a node
abbrev pub revision_prop : Facts → Node → Name → Option (List ℕ)
revision_prop k x name = option_and_then (λ m. finite.get m name) (slice_get k.revisions.now x.changed)

-- what is told of a node beside its own properties
abbrev pub entry_props : Facts → Node → List (Name × Option (List ℕ))
entry_props k x =
    (codes "svn:entry:committed-rev", Some (decimal x.changed))
    ∷ (codes "svn:entry:committed-date", revision_prop k x (codes "svn:date"))
    ∷ (codes "svn:entry:last-author", revision_prop k x (codes "svn:author"))
    ∷ (codes "svn:entry:uuid", Some k.identity.now)
    ∷ []

abbrev pub given : (Name → Option (List ℕ) → Call) → List (Name × Option (List ℕ)) → List Call
given prop [] = []
given prop (e ∷ es) = prop e.0 e.1 ∷ given prop es

-- it is told of what the target has at a path
abbrev pub entry_calls : Facts → (Path → Name → Option (List ℕ) → Call) → Path → List Call
entry_calls k prop p = option_map_or (λ x. given (prop p) (entry_props k x)) (finite.get k.target.now p) []

-- of the root only where that is wanted
abbrev pub root_calls : Facts → List Call
root_calls k = if k.tells_root then entry_calls k call.DirProp [] else []

-- a call of a drive, with the edit's revisions in the place of the drive's, and what is told behind it; none where the
-- reported tree has a node of that kind there, whose property has that value
abbrev pub updated : Facts → PathMap → Call → List Call
updated k reported (call.Target n) = call.Target k.number ∷ []
updated k reported (call.OpenRoot base) = call.OpenRoot k.base ∷ root_calls k
updated k reported (call.AddDir up p from) = call.AddDir up p from ∷ entry_calls k call.DirProp p
updated k reported (call.OpenDir up p base) = call.OpenDir up p k.base ∷ entry_calls k call.DirProp p
updated k reported (call.DeleteEntry up p base) = call.DeleteEntry up p k.base ∷ []
updated k reported (call.AddFile up p from) = call.AddFile up p from ∷ entry_calls k call.FileProp p
updated k reported (call.OpenFile up p base) = call.OpenFile up p k.base ∷ entry_calls k call.FileProp p
updated k reported (call.DirProp p name value) = if has_already (dir_in reported p) name value then [] else call.DirProp p name value ∷ []
updated k reported (call.FileProp p name value) = if has_already (file_in reported p) name value then [] else call.FileProp p name value ∷ []
updated k reported (call.TextStart p) = call.TextStart p ∷ []
updated k reported (call.TextPiece p piece) = call.TextPiece p piece ∷ []
updated k reported (call.TextEnd p) = call.TextEnd p ∷ []
updated k reported (call.CloseFile p sum) = call.CloseFile p sum ∷ []
updated k reported (call.CloseDir p) = call.CloseDir p ∷ []
updated k reported call.CloseEdit = call.CloseEdit ∷ []

abbrev pub all_updated : Facts → PathMap → List Call → List Call
all_updated k reported [] = []
all_updated k reported (c ∷ cs) = updated k reported c ++ all_updated k reported cs
