-- What an editor itself refuses.
use Rattle.std.proofs.Common.{◌≡◌, ℕ, Bool, List, [], ◌∷◌, ◌++◌, map, Option, Some, None, refl, sym, ap, subst, ◌∙◌, append_assoc, append-nil}
use Rattle.std.proofs.lemmas.List.{map-append}
use Rattle.node_base.specs.Path.{Path}
use Rattle.delta_editor.specs.Calls.{Adds, Refused}
use Rattle.delta_editor.specs.declared.call.Call.{Call}
use Rattle.delta_editor.specs.declared.call.Call.TheVariants as call
use Rattle.delta_editor.specs.declared.fault.EditorFault.{EditorFault}
use Rattle.ra_edit.specs.Edits.{At, last_calls, IsOpenDir, named}
use Rattle.ra_edit.specs.Edit.{dirs_named, Stands, has_root}
use Rattle.ra_edit.specs.EditFaults.{of_window}
use Rattle.ra_edit.specs.Received.{ShownBefore}
use Rattle.ra_edit.specs.Refusals.{open_of, RefusesOne, path_at, is_rooted, Asks, Meets, IfOwn}
use Rattle.ra_edit.specs.declared.command_fault.CommandFault.{CommandFault}
use Rattle.ra_edit.specs.declared.command_fault.CommandFault.TheVariants as fault
use Rattle.svndiff.specs.declared.fault.WindowFault.{WindowFault}
use Rattle.svndiff.specs.declared.fault.WindowFault.TheVariants as window
use Rattle.ra_edit.specs.declared.receive_command.Command.{Command}
use Rattle.ra_edit.specs.declared.receive_command.Command.TheVariants as command
use Rattle.ra_edit.specs.declared.receive_edit.OpenDir.{OpenDir}
use Rattle.ra_edit.specs.declared.receive_edit.OpenFile.{OpenFile}
use Rattle.ra_edit.specs.declared.receive_edit.Stage.{Stage}
use Rattle.ra_edit.specs.declared.receive_edit.Stage.TheVariants as stage
use Rattle.ra_edit.proofs.EditRead.{behind}
use Rattle.ra_edit.proofs.Steps.{inner, with_file, not_here}

abbrev Refusing : Type 0 → Type 1
Refusing O = O → List Call → Call → EditorFault → Type 0

-- ---- faults

pub own_map : {P Q : EditorFault → Type 0} (f : CommandFault) → ((e : EditorFault) → P e → Q e) → IfOwn P f → IfOwn Q f
own_map (fault.Editor e) g h = g e h
own_map f g h = tt

pub window_own : (Q : EditorFault → Type 0) (f : WindowFault) → IfOwn Q (of_window f)
window_own Q window.TooLong = tt
window_own Q f = tt

-- ---- one call

pub at_once : {S O : Type 0} (shows : S → List Call → Type 0) (began : S → O) (refuses : Refusing O) (old mid : S) (c d : Call) (f : EditorFault) → mid ≡ old → d ≡ c → Refused shows began refuses mid d f → RefusesOne shows began refuses old (c ∷ []) f
at_once shows began refuses old mid c d f e same h = record {
  before = [];
  next = c;
  rest = [];
  among = refl;
  met = λ shown s. subst (λ l. refuses (began old) l c f) (sym (append-nil shown)) (subst (λ x. refuses (began old) shown x f) same (subst (λ x. Refused shows began refuses x d f) e h shown s));
}

pub met : {S O : Type 0} (shows : S → List Call → Type 0) (began : S → O) (refuses : Refusing O) (old mid : S) (at : At) (k d : Call) (c : Command) (f : EditorFault) → mid ≡ old → d ≡ k → Asks at c (k ∷ []) → Refused shows began refuses mid d f → Meets shows began refuses old at c f
met shows began refuses old mid at k d c f e same asked h = record { calls = k ∷ []; asked = asked; one = at_once shows began refuses old mid k d f e same h }

-- a directory is open where it is one of those that are
pub open_in : {D F : Type 0} (dp : D → Path) (fp : F → Path) (st : Stage) (dirs : List (OpenDir D)) (file : Option (OpenFile F)) (at : At) (t : List ℕ) (p : Path) → Stands dp fp st dirs file at → IsOpenDir t p (dirs_named dp dirs) → IsOpenDir t p (open_of at)
open_in dp fp stage.Inside dirs None at t p h is = subst (λ a. IsOpenDir t p (open_of a)) (sym h.1) (subst (λ o. IsOpenDir t p o) (sym h.2) is)
open_in dp fp stage.Inside dirs (Some f) at t p h is = subst (λ a. IsOpenDir t p (open_of a)) (sym h.1) (subst (λ o. IsOpenDir t p o) (sym h.2.2) (behind (named f.token.items (fp f.baton) h.2.0) t p (dirs_named dp dirs) is))
open_in dp fp st dirs file at t p h is = absurd (not_here dp dirs t p h.1 is)

-- where the innermost open thing is a directory
pub dir_met : {D F S O : Type 0} (dp : D → Path) (fp : F → Path) (shows : S → List Call → Type 0) (began : S → O) (refuses : Refusing O) (old mid : S) (st : Stage) (dirs outer : List (OpenDir D)) (d : OpenDir D) (file : Option (OpenFile F)) (at : At) (k : Path → Call) (c' : Call) (c : Command) (f : EditorFault)
    → dirs ≡ outer ++ d ∷ [] → file ≡ None → mid ≡ old → c' ≡ k (dp d.baton)
    → ((p : Path) → p ≡ path_at at → Asks at c (k p ∷ []))
    → Stands dp fp st dirs file at → Refused shows began refuses mid c' f → Meets shows began refuses old at c f
dir_met dp fp shows began refuses old mid st dirs outer d file at k c' c f was none em ec asks h r =
    record { calls = k (dp d.baton) ∷ []; asked = asks (dp d.baton) (sym (ap path_at (inner dp fp st dirs outer d file at was none h).1)); one = at_once shows began refuses old mid (k (dp d.baton)) c' f em ec r }

-- where it is a file
pub file_met : {D F S O : Type 0} (dp : D → Path) (fp : F → Path) (shows : S → List Call → Type 0) (began : S → O) (refuses : Refusing O) (old : S) (st : Stage) (dirs : List (OpenDir D)) (x : OpenFile F) (file : Option (OpenFile F)) (at : At) (k : Path → Call) (c : Command) (f : EditorFault)
    → file ≡ Some x
    → ((p : Path) → p ≡ path_at at → Asks at c (k p ∷ []))
    → Stands dp fp st dirs file at → RefusesOne shows began refuses old (k (fp x.baton) ∷ []) f → Meets shows began refuses old at c f
file_met dp fp shows began refuses old st dirs x file at k c f is asks h r =
    record { calls = k (fp x.baton) ∷ []; asked = asks (fp x.baton) (sym (ap path_at (with_file dp fp st dirs file x at is h).3)); one = r }

-- ---- the end

rooted : {D F : Type 0} (dp : D → Path) (fp : F → Path) (st : Stage) (dirs : List (OpenDir D)) (file : Option (OpenFile F)) (at : At) → Stands dp fp st dirs file at → is_rooted at ≡ has_root st
rooted dp fp stage.Inside dirs file at h = ap is_rooted h.1
rooted dp fp st dirs file at h = ap is_rooted h.0

-- after these calls were shown
pub one_later : {S O : Type 0} (shows : S → List Call → Type 0) (began : S → O) (refuses : Refusing O) (old mid : S) (front : List Call) (c d : Call) (rest : List Call) (f : EditorFault) → Adds shows old mid front → began mid ≡ began old → d ≡ c → Refused shows began refuses mid d f → RefusesOne shows began refuses old (front ++ c ∷ rest) f
one_later shows began refuses old mid front c d rest f adds same e h = record {
  before = front;
  next = c;
  rest = rest;
  among = refl;
  met = λ shown s. subst (λ t. refuses t (shown ++ front) c f) same (subst (λ x. refuses (began mid) (shown ++ front) x f) e (h (shown ++ front) (adds shown s)));
}

-- after pieces of a text
pub piece_later : {S O : Type 0} (shows : S → List Call → Type 0) (began : S → O) (refuses : Refusing O) (old mid : S) (p q : Path) (pieces : List (List ℕ)) (piece : List ℕ) (f : EditorFault) → q ≡ p → Adds shows old mid (map (call.TextPiece p) pieces) → began mid ≡ began old → Refused shows began refuses mid (call.TextPiece q piece) f → RefusesOne shows began refuses old (map (call.TextPiece p) (pieces ++ piece ∷ [])) f
piece_later shows began refuses old mid p q pieces piece f e adds same h =
    subst (λ l. RefusesOne shows began refuses old l f) (sym (map-append (call.TextPiece p) pieces (piece ∷ [])))
    (one_later shows began refuses old mid (map (call.TextPiece p) pieces) (call.TextPiece p piece) (call.TextPiece q piece) [] f adds same (ap (λ x. call.TextPiece x piece) e) h)

-- more calls were asked for
pub one_more : {S O : Type 0} (shows : S → List Call → Type 0) (began : S → O) (refuses : Refusing O) (old new : S) (calls more : List Call) (f : EditorFault) → new ≡ old → RefusesOne shows began refuses new calls f → RefusesOne shows began refuses old (calls ++ more) f
one_more shows began refuses old new calls more f e r = record {
  before = r.before;
  next = r.next;
  rest = r.rest ++ more;
  among = sym (append_assoc r.before (r.next ∷ r.rest) more) ∙ ap (λ l. l ++ more) r.among;
  met = subst (λ x. (shown : List Call) → shows x shown → refuses (began x) (shown ++ r.before) r.next f) e r.met;
}

pub end_met : {D F S O : Type 0} (dp : D → Path) (fp : F → Path) (shows : S → List Call → Type 0) (began : S → O) (refuses : Refusing O) (old : S) (st : Stage) (dirs : List (OpenDir D)) (file : Option (OpenFile F)) (at : At) (root : Bool) (f : EditorFault)
    → root ≡ has_root st → Stands dp fp st dirs file at → RefusesOne shows began refuses old (last_calls root) f → Meets shows began refuses old at command.Finish f
end_met dp fp shows began refuses old st dirs file at root f e h r =
    record { calls = last_calls root; asked = ap last_calls (e ∙ sym (rooted dp fp st dirs file at h)); one = r }

-- ---- behind the calls before

pub met_before : {S O : Type 0} (shows : S → List Call → Type 0) (began : S → O) (refuses : Refusing O) (old mid : S) (calls : List Call) (at : At) (c : Command) (f : EditorFault) → Adds shows old mid calls → began mid ≡ began old → Meets shows began refuses mid at c f → Meets (ShownBefore shows calls) began refuses old at c f
met_before shows began refuses old mid calls at c f adds same m = record {
  calls = m.calls;
  asked = m.asked;
  one = record {
    before = m.one.before;
    next = m.one.next;
    rest = m.one.rest;
    among = m.one.among;
    met = λ all k. subst (λ t. refuses t (all ++ m.one.before) m.one.next f) same (subst (λ l. refuses (began mid) (l ++ m.one.before) m.one.next f) (sym k.2) (m.one.met (k.0 ++ calls) (adds k.0 k.1)));
  };
}
