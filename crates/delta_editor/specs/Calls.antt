-- Calls, and what an editor that was shown some makes of the next.
use Rattle.std.specs.Prelude.{List, [], ◌∷◌, ◌++◌, Result, IfOk, IfErr, OnOk}
use Rattle.node_base.specs.Path.{Path}
use Rattle.delta_editor.specs.declared.fault.EditorFault.{EditorFault}
pub use Rattle.delta_editor.specs.declared.call.Call.{Call}
pub use Rattle.delta_editor.specs.declared.call.Call.TheVariants as call

-- where `old` showed some calls, `new` shows these and the ones that follow
abbrev pub Adds : {E : Type 0} → (E → List Call → Type 0) → E → E → List Call → Type 0
Adds shows old new more = (calls : List Call) → shows old calls → shows new (calls ++ more)

-- whatever calls `old` was shown, `new` was, and no more
abbrev pub StaysShown : {E : Type 0} → (E → List Call → Type 0) → E → E → Type 0
StaysShown shows old new = (calls : List Call) → shows old calls → shows new calls

-- whatever `old` was let go of, `new` was, and then of these
abbrev pub LetsGo : {E : Type 0} → (E → List Path → Type 0) → E → E → List Path → Type 0
LetsGo lets_go old new more = (paths : List Path) → lets_go old paths → lets_go new (paths ++ more)

-- whatever calls `e` was shown, where it began so, the fault is one that the next call may be refused with
abbrev pub Refused : {E O : Type 0} → (E → List Call → Type 0) → (E → O) → (O → List Call → Call → EditorFault → Type 0) → E → Call → EditorFault → Type 0
Refused shows began refuses e c fault = (calls : List Call) → shows e calls → refuses (began e) calls c fault

-- where it answers Ok, `new` shows what `old` showed, and then this call
abbrev pub Takes : {E T : Type 0} → (E → List Call → Type 0) → E → E → Call → Result T EditorFault → Type 0
Takes shows old new c result = OnOk result (Adds shows old new (c ∷ []))

-- what an edit comes to shows what `e` showed, and then the end
abbrev pub Ends : {E D : Type 0} → (E → List Call → Type 0) → (D → List Call → Type 0) → E → Result D EditorFault → Type 0
Ends shows done_shows e result = IfOk result (λ d. (calls : List Call) → shows e calls → done_shows d (calls ++ call.CloseEdit ∷ []))

-- it answers no fault but those that this call may be refused with
abbrev pub MayRefuse : {E T O : Type 0} → (E → List Call → Type 0) → (E → O) → (O → List Call → Call → EditorFault → Type 0) → E → Call → Result T EditorFault → Type 0
MayRefuse shows began refuses e c result = IfErr result (Refused shows began refuses e c)
