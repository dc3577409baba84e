-- What an editor is shown of a set of changes, said of it before and after, and where it stops.
use Rattle.std.specs.Prelude.{◌≡◌, ◌≤◌, ◌<◌, ℕ, Bool, false, List, [], Option, Some, None, length, MatchOption, Result, IfOk, IfErr, OnOk}
use Rattle.std.specs.List.{slice_get}
use Rattle.std.specs.FinMap as finite
use Rattle.node_base.specs.Path.{Path}
use Rattle.node_base.specs.Tree.{PathMap}
use Rattle.node_base.specs.declared.limits.TheConstants.{REVISION}
use Rattle.dump_load.specs.Changes.{IsNormal}
use Rattle.dump_load.specs.declared.change.Change.{Change}
use Rattle.dump_load.specs.Effect.{effect}
use Rattle.dump_load.specs.Faults.{fault_of}
use Rattle.dump_load.specs.Walk.{Walked}
use Rattle.delta_editor.specs.Calls.{Adds}
use Rattle.delta_editor.specs.CallEffect.{call_effect}
use Rattle.delta_editor.specs.declared.call.Call.{Call}
use Rattle.delta_editor.specs.declared.editor.Editor.{Ghosts}
use Rattle.delta_editor.specs.declared.fault.EditorFault.{EditorFault}
use Rattle.editor_ends.specs.declared.plan.Plan.{Plan}
use Rattle.editor_ends.specs.declared.progress.Progress.{Progress}
use Rattle.editor_ends.specs.declared.progress.Revision.{Revision}
use Rattle.editor_ends.specs.Drive.{calls_with, drive, of_file, old_props, rests_with, walk}
use Rattle.editor_ends.specs.Fronts.{above}
use Rattle.editor_ends.specs.Shown.{Shown, Stops, Halts, left, is_under, IsLater, IsNext, Entered}

-- Ok says that the editor was shown these calls
abbrev pub Drives : {E A D F T : Type 0} → Ghosts E A D F → E → E → List Call → Result T EditorFault → Type 0
Drives G old new calls result = OnOk result (Adds G.shows old new calls)

-- a refusal is one that the editor may answer at one of these calls, after those before it
abbrev pub StopsAmong : {E A D F T : Type 0} → Ghosts E A D F → E → List Call → Result T EditorFault → Type 0
StopsAmong G old calls result = IfErr result (Stops G.shows G.began G.refuses old calls)

-- the calls of a change by what is known of it
abbrev pub planned_calls : List PathMap → Plan → Change → List Call
planned_calls trees plan c = calls_with trees plan.file plan.old c

-- a directory that stays open is the change's, and then the innermost one; else that is the one above
abbrev pub RestsWith : {E A D F : Type 0} → Ghosts E A D F → Bool → Change → Result (Option D) EditorFault → Type 0
RestsWith G file c result =
    IfOk result (λ o. MatchOption o (rests_with file c ≡ above c.path) (λ d. (G.dir_path d ≡ c.path) × (rests_with file c ≡ c.path)))

-- the tree is what the changes before the next one make
abbrev pub IsWalked : Revision → Progress → Type 0
IsWalked r progress = Walked r.trees.now r.set.now progress.next progress.tree

-- the changes that are left can be shown: a revision more has a number, the set is normal, and the tree is as far as the changes are
pub record CanGoOn (r : Revision) (progress : Progress) : Type 0 where
  pub few : length r.trees.now ≤ REVISION
  pub normal : IsNormal r.set.now
  pub walked : IsWalked r progress

-- the calls for the changes that are left, where `at` is the innermost open directory
abbrev pub calls_left : Revision → Progress → Path → List Call
calls_left r progress at = left r.trees.now r.set.now progress.next at

-- the calls for all changes, in the root that is open
abbrev pub inner_calls : Revision → List Call
inner_calls r = walk r.trees.now [] [] r.set.now

-- the editor was shown what was left to show at first, up to what is left now
abbrev pub GoesOn : {E A D F T : Type 0} → Ghosts E A D F → Revision → Progress → Progress → E → E → Path → Result T EditorFault → Type 0
GoesOn G r before after old new at result = OnOk result (Shown G.shows old new (calls_left r before at) (calls_left r after at))

-- and a child is open then, or none
abbrev pub Enters : {E A D F : Type 0} → Ghosts E A D F → Revision → Progress → Progress → E → E → Path → Path → Result (Option D) EditorFault → Type 0
Enters G r before after old new at path result =
    IfOk result (Entered G.shows G.dir_path old new (left r.trees.now r.set.now before.next at) (left r.trees.now r.set.now after.next) at path)

-- a refusal is want of memory, the first fault of the changes, or one that the editor may answer at one of these calls
abbrev pub HaltsAmong : {E A D F T : Type 0} → Ghosts E A D F → Revision → E → List Call → Result T EditorFault → Type 0
HaltsAmong G r old calls result = IfErr result (Halts G.shows G.began G.refuses r.trees.now r.set.now old calls)

-- the same at the calls that are left
abbrev pub HaltsFrom : {E A D F T : Type 0} → Ghosts E A D F → Revision → Progress → E → Path → Result T EditorFault → Type 0
HaltsFrom G r progress old at result = HaltsAmong G r old (calls_left r progress at) result

-- and at the calls of the whole drive
abbrev pub HaltsInDrive : {E A D F T : Type 0} → Ghosts E A D F → E → List PathMap → List Change → Result T EditorFault → Type 0
HaltsInDrive G old trees set result = IfErr result (Halts G.shows G.began G.refuses trees set old (drive trees set))

-- a change is shown where no directory stays open, and else none need be
abbrev pub MovesOn : {D : Type 0} → Progress → Progress → Result (Option D) EditorFault → Type 0
MovesOn before after result = IfOk result (λ o. MatchOption o (before.next < after.next) (λ _. before.next ≤ after.next))

-- where the directory at the path stays open, the changes that are left come after it
abbrev pub LeavesLater : {D : Type 0} → Revision → Progress → Path → Path → Result (Option D) EditorFault → Type 0
LeavesLater r after at path result = IfOk result (λ o. MatchOption o (at ≡ at) (λ _. IsLater r.set.now after.next path))

-- the path right below a directory on the way to the next change, where that is below it
abbrev pub FindsChild : List Change → ℕ → Path → Result (Option Path) EditorFault → Type 0
FindsChild set next at result = IfOk result (λ o. MatchOption o (is_under set next at ≡ false) (λ p. IsNext set next at p))

-- what is known of the next change: whether it is one of a file, and the properties of what it begins with
abbrev pub Plans : Revision → Progress → Result Plan EditorFault → Type 0
Plans r before result =
    IfOk result (λ p. (c : Change) → slice_get r.set.now before.next ≡ Some c
    → (p.file ≡ of_file r.trees.now (finite.get before.tree) c) × (p.old ≡ old_props r.trees.now (finite.get before.tree) c))

-- the next change has no fault there
abbrev pub IsFaultless : Revision → Progress → Type 0
IsFaultless r before = (c : Change) → slice_get r.set.now before.next ≡ Some c → fault_of r.trees.now (finite.get before.tree) c ≡ None

-- the calls that a set is driven as have its effect
abbrev pub KeepsEffect : List PathMap → List Change → Type 0
KeepsEffect trees set = (q : Path) → call_effect trees (drive trees set) q ≡ effect trees set q
