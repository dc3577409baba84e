-- What an editor that writes its calls was shown.
use Rattle.std.specs.Prelude.{◌≡◌, ℕ, nat_lt, Bool, true, List, [], ◌∷◌, length, Option, Some, ⊤}
use Rattle.std.specs.List.{list_all}
use Rattle.std.specs.Io.KnownBytes.{Appends}
use Rattle.std.specs.Io.Buffered.{writer_inner, writer_buffer, writer_capacity}
use Rattle.node_base.specs.Path.{Path}
use Rattle.delta_editor.specs.declared.call.Call.{Call}
use Rattle.delta_editor.specs.declared.call.Call.TheVariants as call
use Rattle.delta_editor.specs.Nesting.{Opened, OpenDir, OpenFile, OpenText, TextDone, Stage, Before, Within, After, run, IsNested}
use Rattle.ra_edit.specs.Commands.{opened_after, number_of, edit_bytes}
use Rattle.ra_edit.specs.Tokens.{newest}
use Rattle.ra_edit.specs.declared.wire.WireEditor.{WireEditor}
use Rattle.ra_edit.specs.declared.wire.Written.{Written}

-- what is opened or added has more names than the directory in which it is
abbrev pub is_deeper : Call → Bool
is_deeper (call.AddDir up p from) = nat_lt (length up) (length p)
is_deeper (call.OpenDir up p base) = nat_lt (length up) (length p)
is_deeper (call.AddFile up p from) = nat_lt (length up) (length p)
is_deeper (call.OpenFile up p base) = nat_lt (length up) (length p)
is_deeper _ = true

abbrev pub AllDeeper : List Call → Type 0
AllDeeper calls = list_all is_deeper calls ≡ true

abbrev pub path_of : Opened → Path
path_of (OpenDir p) = p
path_of (OpenFile p) = p
path_of (OpenText p) = p
path_of (TextDone p) = p

-- what is open
abbrev pub open_at : Stage → List Opened
open_at Before = []
open_at (Within os) = os
open_at After = []

-- the numbers say the token of each open thing, which has more names than those around it
abbrev pub Numbered : (ℕ → ℕ) → List Path → List Opened → Type 0
Numbered at opened [] = ⊤
Numbered at opened (o ∷ os) = (at (length (path_of o)) ≡ number_of opened (path_of o)) × (list_all (λ q. nat_lt (length (path_of q)) (length (path_of o))) os ≡ true) × Numbered at opened os

-- what the writer held when the editor was made
abbrev pub held_before : {T : Type 0} → (T → Option (List ℕ)) → WireEditor T → Option (List ℕ)
held_before contents e = contents e.start.value

-- and what it held then, of the writer behind an edit
abbrev pub done_held_before : {T : Type 0} → (T → Option (List ℕ)) → Written T → Option (List ℕ)
done_held_before contents d = contents d.start.value

-- the writer behind an edit
abbrev pub writer_of : {T : Type 0} → Written T → T
writer_of d = d.out

-- the writer that an editor writes to
abbrev pub inner_of : {T : Type 0} → WireEditor T → T
inner_of e = writer_inner e.out

-- how many bytes the editor has room to keep back
abbrev pub room_of : {T : Type 0} → WireEditor T → ℕ
room_of e = writer_capacity e.out

-- behind the bytes that it held when the editor was made, the writer holds those of the calls, and no byte waits; the numbers are
-- those of the tokens
pub record Stands {T : Type 0} (contents : T → Option (List ℕ)) (e : WireEditor T) (calls : List Call) (s : Stage) : Type 0 where
  pub bytes : Appends (held_before contents e) (contents (writer_inner e.out)) (edit_bytes calls)
  pub none_waits : writer_buffer e.out ≡ []
  pub next : e.tokens.next ≡ length (opened_after [] calls)
  pub numbers : Numbered (newest e.tokens) (opened_after [] calls) (open_at s)

-- so it is where the calls so far keep the nesting and each path is deeper than the one in which it is opened or added
abbrev pub Shows : {T : Type 0} → (T → Option (List ℕ)) → WireEditor T → List Call → Type 0
Shows contents e calls = (s : Stage) → run Before calls ≡ Some s → AllDeeper calls → Stands contents e calls s

-- and so it is at the end
abbrev pub Holds : {T : Type 0} → (T → Option (List ℕ)) → Written T → List Call → Type 0
Holds contents d calls = IsNested calls → AllDeeper calls → Appends (done_held_before contents d) (contents (writer_of d)) (edit_bytes calls)
