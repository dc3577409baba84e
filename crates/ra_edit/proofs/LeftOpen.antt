-- What is open after a refusal.
use Rattle.std.proofs.Common.{◌≡◌, Bool, true, false, List, [], ◌∷◌, ◌++◌, Option, Some, None, refl, sym, ap, subst, ◌∙◌, append-nil, inl, inr}
use Rattle.std.specs.Prelude.{◌⊎◌, ◌&&◌, if◌then◌else◌, map, reverse}
use Rattle.node_base.specs.Path.{Path}
use Rattle.ra_edit.specs.EditFaults.{of_command}
use Rattle.ra_edit.specs.Edits.{Named, At}
use Rattle.ra_edit.specs.Edit.{dir_named, dir_paths, open_paths, Stands, GivesUp}
use Rattle.ra_edit.specs.Received.{StillOpen}
use Rattle.ra_edit.specs.Refusals.{IfOwn, is_close, is_editors, but_innermost, left_open, paths_at}
use Rattle.ra_edit.specs.declared.command_fault.CommandFault.{CommandFault}
use Rattle.ra_edit.specs.declared.command_fault.CommandFault.TheVariants as command
use Rattle.ra_edit.specs.declared.edit_fault.EditFault.{EditFault}
use Rattle.ra_edit.specs.declared.edit_fault.EditFault.TheVariants as fault
use Rattle.ra_edit.specs.declared.receive_command.Command.{Command}
use Rattle.ra_edit.specs.declared.receive_edit.OpenDir.{OpenDir}
use Rattle.ra_edit.specs.declared.receive_edit.OpenFile.{OpenFile}
use Rattle.ra_edit.specs.declared.receive_edit.Stage.{Stage}
use Rattle.ra_edit.specs.declared.receive_edit.Stage.TheVariants as stage
use Rattle.ra_edit.proofs.Steps.{dirs_snoc}

pub innermost : {D : Type 0} (dp : D → Path) (outer : List (OpenDir D)) (d : OpenDir D) → dir_paths dp (outer ++ d ∷ []) ≡ dp d.baton ∷ dir_paths dp outer
innermost dp outer d = ap (map (λ (o : Named). o.path)) (dirs_snoc dp outer d)

-- ---- what is open stays so

pub same_open : {D F : Type 0} (dp : D → Path) (fp : F → Path) (dirs now : List (OpenDir D)) (file file' : Option (OpenFile F)) → now ≡ dirs → file' ≡ file → open_paths dp fp now file' ≡ open_paths dp fp dirs file
same_open dp fp dirs now file file' e h = ap (λ l. open_paths dp fp l file') e ∙ ap (open_paths dp fp dirs) h

by_dirs : {D F : Type 0} (dp : D → Path) (fp : F → Path) (dirs now : List (OpenDir D)) (file : Option (OpenFile F)) → dir_paths dp now ≡ dir_paths dp dirs → open_paths dp fp now file ≡ open_paths dp fp dirs file
by_dirs dp fp dirs now None e = e
by_dirs dp fp dirs now (Some f) e = ap (λ l. fp f.baton ∷ l) e

-- the innermost was taken out and put back
pub put_back : {D F : Type 0} (dp : D → Path) (fp : F → Path) (dirs outer now : List (OpenDir D)) (d e : OpenDir D) (file file' : Option (OpenFile F)) → dirs ≡ outer ++ d ∷ [] → now ≡ outer ++ e ∷ [] → dp e.baton ≡ dp d.baton → file' ≡ file → open_paths dp fp now file' ≡ open_paths dp fp dirs file
put_back dp fp dirs outer now d e file file' was is same stays =
    ap (open_paths dp fp now) stays ∙ by_dirs dp fp dirs now file (ap (dir_paths dp) is ∙ innermost dp outer e ∙ ap (λ p. p ∷ dir_paths dp outer) same ∙ sym (ap (dir_paths dp) was ∙ innermost dp outer d))

-- one was changed in its place
pub set_back : {D F : Type 0} (dp : D → Path) (fp : F → Path) (dirs now : List (OpenDir D)) (file : Option (OpenFile F)) → map (dir_named dp) now ≡ map (dir_named dp) dirs → open_paths dp fp now file ≡ open_paths dp fp dirs file
set_back dp fp dirs now file e = by_dirs dp fp dirs now file (ap (λ l. map (λ (o : Named). o.path) (reverse l)) e)

pub file_stays : {D F : Type 0} (dp : D → Path) (fp : F → Path) (dirs : List (OpenDir D)) (f g : OpenFile F) (file : Option (OpenFile F)) → file ≡ Some f → fp g.baton ≡ fp f.baton → open_paths dp fp dirs (Some g) ≡ open_paths dp fp dirs file
file_stays dp fp dirs f g file is e = ap (λ p. p ∷ dir_paths dp dirs) e ∙ sym (ap (open_paths dp fp dirs) is)

-- ---- a close takes the innermost

pub dir_gone : {D F : Type 0} (dp : D → Path) (fp : F → Path) (dirs outer : List (OpenDir D)) (d : OpenDir D) (file file' : Option (OpenFile F)) → dirs ≡ outer ++ d ∷ [] → file ≡ None → file' ≡ file → open_paths dp fp outer file' ≡ but_innermost (open_paths dp fp dirs file)
dir_gone dp fp dirs outer d file file' was none stays =
    ap (open_paths dp fp outer) (stays ∙ none) ∙ sym (ap but_innermost (ap (open_paths dp fp dirs) none ∙ ap (dir_paths dp) was ∙ innermost dp outer d))

pub file_gone : {D F : Type 0} (dp : D → Path) (fp : F → Path) (dirs now : List (OpenDir D)) (f : OpenFile F) (file file' : Option (OpenFile F)) → file ≡ Some f → file' ≡ None → now ≡ dirs → open_paths dp fp now file' ≡ but_innermost (open_paths dp fp dirs file)
file_gone dp fp dirs now f file file' is none e = same_open dp fp dirs now None file' e none ∙ sym (ap (λ x. but_innermost (open_paths dp fp dirs x)) is)

not_editors : (f : CommandFault) → IfOwn (λ e. ⊥) f → is_editors f ≡ false
not_editors (command.Editor e) h = absurd h
not_editors f h = refl

none_taken : (b : Bool) (paths : List Path) → (if b && false then but_innermost paths else paths) ≡ paths
none_taken true paths = refl
none_taken false paths = refl

-- nothing is closed that the editor wasn't asked to close
pub own_stays : (c : Command) (f : CommandFault) (before now : List Path) → IfOwn (λ e. ⊥) f → now ≡ before → now ≡ left_open c f before
own_stays c f before now h e = e ∙ sym (ap (λ b. if is_close c && b then but_innermost before else before) (not_editors f h) ∙ none_taken (is_close c) before)

-- ---- where the commands stand

pub stands_open : {D F : Type 0} (dp : D → Path) (fp : F → Path) (st : Stage) (dirs : List (OpenDir D)) (file : Option (OpenFile F)) (at : At) → Stands dp fp st dirs file at → open_paths dp fp dirs file ≡ paths_at at
stands_open dp fp stage.Inside dirs None at h = sym (ap paths_at h.1 ∙ ap (map (λ (o : Named). o.path)) h.2)
stands_open dp fp stage.Inside dirs (Some f) at h = sym (ap paths_at h.1 ∙ ap (map (λ (o : Named). o.path)) h.2.2)
stands_open dp fp stage.Begun dirs file at h = same_open dp fp [] dirs None file h.1 h.2 ∙ sym (ap paths_at h.0)
stands_open dp fp stage.Targeted dirs file at h = same_open dp fp [] dirs None file h.1 h.2 ∙ sym (ap paths_at h.0)
stands_open dp fp (stage.Announced root) dirs file at h = same_open dp fp [] dirs None file h.1 h.2 ∙ sym (ap paths_at h.0)

pub all_still : (at : At) (f : EditFault) (paths : List Path) → paths ≡ paths_at at → StillOpen at f paths
all_still at (fault.Editor e) paths h = inl h
all_still at f paths h = h

closed_or_not : (b : Bool) (at : At) (before now : List Path) → before ≡ paths_at at → now ≡ (if b && true then but_innermost before else before) → (now ≡ paths_at at) ⊎ (now ≡ but_innermost (paths_at at))
closed_or_not true at before now is h = inr (h ∙ ap but_innermost is)
closed_or_not false at before now is h = inl (h ∙ is)

pub command_still : (at : At) (c : Command) (why : CommandFault) (before now : List Path) → before ≡ paths_at at → now ≡ left_open c why before → StillOpen at (of_command why) now
command_still at c (command.Editor e) before now is h = closed_or_not (is_close c) at before now is h
command_still at c why before now is h = h ∙ none_taken (is_close c) before ∙ is

-- ---- an edit that is given up

pub nothing_open : {E D F : Type 0} (lets_go : E → List Path → Type 0) (given_up : E → Type 0) (dp : D → Path) (fp : F → Path) (dirs : List (OpenDir D)) (file : Option (OpenFile F)) (e : E) → dirs ≡ [] → file ≡ None → given_up e → GivesUp lets_go given_up (open_paths dp fp dirs file)
nothing_open lets_go given_up dp fp dirs file e h k g =
    subst (GivesUp lets_go given_up) (sym (same_open dp fp [] dirs None file h k)) (record { stopped = e; last = e; discarded = λ paths s. subst (lets_go e) (sym (append-nil paths)) s; ended = g })
