-- What commands are refused for.
use Rattle.std.proofs.Common.{◌≡◌, ℕ, zero, suc, Bool, true, false, List, [], ◌∷◌, ◌++◌, Option, Some, None, refl, sym, ap, subst, ◌∙◌, inl, inr, arith}
use Rattle.std.specs.Prelude.{◌⊎◌, ◌<◌, length, map, slice_index_or, ◌&&◌, not, if◌then◌else◌, Result, Ok, Err, IfErr}
use Rattle.md5.specs.Md5.{md5}
use Rattle.node_base.specs.Path.{Path, same_name}
use Rattle.ra_edit.specs.EditFaults.{of_window}
use Rattle.ra_edit.specs.Edits.{Held, Dir, Named, named, At, is_free, IsOpenDir}
use Rattle.svndiff.specs.Reading.{is_failed, byte_step, Refused}
use Rattle.svndiff.specs.Streams.{Stream, Reads, Refuses, of_step, reading}
use Rattle.ra_edit.specs.Refusals.{open_of, unless, is_dir, for_token, in_file, of_stream, at_close, is_finish, due, behind_end, refusal, RefusedFor}
use Rattle.ra_edit.specs.Edit.{dir_named, dirs_named, GivenIs, Stands, is_announced}
use Rattle.ra_edit.specs.declared.command_fault.CommandFault.{CommandFault}
use Rattle.ra_edit.specs.declared.command_fault.CommandFault.TheVariants as fault
use Rattle.svndiff.specs.declared.fault.WindowFault.{WindowFault}
use Rattle.svndiff.specs.declared.fault.WindowFault.TheVariants as window
use Rattle.svndiff.specs.declared.reading.Place.{Place}
use Rattle.svndiff.specs.declared.reading.Place.TheVariants as place
use Rattle.svndiff.specs.declared.reading.Reading.{Reading}
use Rattle.ra_edit.specs.declared.receive_command.Command.{Command}
use Rattle.ra_edit.specs.declared.receive_command.Command.TheVariants as command
use Rattle.ra_edit.specs.declared.receive_edit.Given.{Given}
use Rattle.ra_edit.specs.declared.receive_edit.Given.TheVariants as given
use Rattle.ra_edit.specs.declared.receive_edit.OpenDir.{OpenDir}
use Rattle.ra_edit.specs.declared.receive_edit.OpenFile.{OpenFile}
use Rattle.ra_edit.specs.declared.receive_edit.Stage.{Stage}
use Rattle.ra_edit.specs.declared.receive_edit.Stage.TheVariants as stage
use Rattle.ra_edit.proofs.Steps.{name_of_same, dirs_snoc, with_file, open_at}

-- ---- what is open

last_behind : {A : Type 0} (x : A) (xs : List A) → (xs ≡ []) ⊎ ((front : List A) × (y : A) × (xs ≡ front ++ y ∷ [])) → (front : List A) × (y : A) × (x ∷ xs ≡ front ++ y ∷ [])
last_behind x xs (inl e) = ([], x, ap (λ l. x ∷ l) e)
last_behind x xs (inr k) = (x ∷ k.0, k.1, ap (λ l. x ∷ l) k.2)

pub last_or_none : {A : Type 0} (xs : List A) → (xs ≡ []) ⊎ ((front : List A) × (y : A) × (xs ≡ front ++ y ∷ []))
last_or_none [] = inl refl
last_or_none (x ∷ xs) = inr (last_behind x xs (last_or_none xs))

dirs_no_file : {D : Type 0} (dp : D → Path) (dirs : List (OpenDir D)) (t : List ℕ) (f : Held → Option CommandFault) → (dirs ≡ []) ⊎ ((front : List (OpenDir D)) × (d : OpenDir D) × (dirs ≡ front ++ d ∷ [])) → in_file t (dirs_named dp dirs) f ≡ Some fault.BadToken
dirs_no_file dp dirs t f (inl e) = ap (λ d. in_file t (dirs_named dp d) f) e
dirs_no_file dp dirs t f (inr k) = ap (λ d. in_file t (dirs_named dp d) f) k.2 ∙ ap (λ os. in_file t os f) (dirs_snoc dp k.0 k.1)

-- where no file is open
pub no_file : {D F : Type 0} (dp : D → Path) (fp : F → Path) (st : Stage) (dirs : List (OpenDir D)) (file : Option (OpenFile F)) (at : At) (t : List ℕ) (f : Held → Option CommandFault) → file ≡ None → Stands dp fp st dirs file at → in_file t (open_of at) f ≡ Some fault.BadToken
no_file dp fp stage.Inside dirs None at t f e h = ap (λ a. in_file t (open_of a) f) h.1 ∙ ap (λ os. in_file t os f) h.2 ∙ dirs_no_file dp dirs t f (last_or_none dirs)
no_file dp fp stage.Inside dirs (Some x) at t f e h = cc
no_file dp fp st dirs file at t f e h = ap (λ a. in_file t (open_of a) f) h.0

held_not_dir : (g : Given) (held : Held) → GivenIs g held → is_dir held ≡ false
held_not_dir given.Nothing held h = ap is_dir h
held_not_dir g held h = ap is_dir h.1

-- where a file is open
pub in_open : {D F : Type 0} (dp : D → Path) (fp : F → Path) (st : Stage) (dirs : List (OpenDir D)) (file : Option (OpenFile F)) (f : OpenFile F) (at : At) (t : List ℕ) (what : Held → Option CommandFault) (e : CommandFault) → file ≡ Some f → ((held : Held) → GivenIs f.given held → RefusedFor e (for_token t f.token.items (what held))) → Stands dp fp st dirs file at → RefusedFor e (in_file t (open_of at) what)
in_open dp fp st dirs file f at t what e is k h =
    let w = with_file dp fp st dirs file f at is h in
    subst (λ x. RefusedFor e x) (sym (ap (λ a. in_file t (open_of a) what) w.3 ∙ ap (λ b. if b then Some fault.BadToken else for_token t f.token.items (what w.0)) (held_not_dir f.given w.0 w.1))) (k w.0 w.1)

-- the token is the open file's
pub matched : (t u a : List ℕ) (b : Bool) (what : Option CommandFault) (e : CommandFault) → b ≡ true → b ≡ same_name a t → a ≡ u → RefusedFor e what → RefusedFor e (for_token t u what)
matched t u a b what e h is from k = subst (λ x. RefusedFor e (if x then what else Some fault.BadToken)) (sym (sym (ap (λ n. same_name n t) from) ∙ sym is ∙ h)) k

and_false : (b : Bool) → (b && false) ≡ false
and_false true = refl
and_false false = refl

taken_by : (t u : List ℕ) (p : Path) (inner outer : List Named) → same_name u t ≡ true → is_free t (inner ++ named u p Dir ∷ outer) ≡ false
taken_by t u p [] outer e = ap (λ b. not b && is_free t outer) e
taken_by t u p (o ∷ inner) outer e = ap (λ b. not (same_name o.token t) && b) (taken_by t u p inner outer e) ∙ and_false (not (same_name o.token t))

in_front : {D : Type 0} (dp : D → Path) (xs : List (OpenDir D)) (i : ℕ) (d : OpenDir D) → i < length xs → d ≡ slice_index_or xs i d → (front back : List Named) × (map (dir_named dp) xs ≡ front ++ named d.token.items (dp d.baton) Dir ∷ back)
in_front dp [] i d l e = absurd (omega (arith, l))
in_front dp (x ∷ xs) zero d l e = ([], map (dir_named dp) xs, ap (λ y. dir_named dp y ∷ map (dir_named dp) xs) (sym e))
in_front dp (x ∷ xs) (suc i) d l e =
    let k = in_front dp xs i d (omega (arith, l)) e in
    (dir_named dp x ∷ k.0, k.1, ap (λ y. dir_named dp x ∷ y) k.2)

-- a token that is in use isn't free
pub not_free : (t u : List ℕ) (p : Path) (os : List Named) → same_name u t ≡ true → IsOpenDir u p os → is_free t os ≡ false
not_free t u p os e k = ap (is_free t) k.2 ∙ taken_by t u p k.0 k.1 e

pub in_use : {D : Type 0} (dp : D → Path) (dirs now : List (OpenDir D)) (i : ℕ) (d : OpenDir D) (a t : List ℕ) (b : Bool) → now ≡ dirs → i < length now → d ≡ slice_index_or now i d → a ≡ d.token.items → b ≡ same_name a t → b ≡ true → is_free t (dirs_named dp dirs) ≡ false
in_use dp dirs now i d a t b same l e from is h =
    let k = in_front dp now i d l e in
    ap (λ x. is_free t (dirs_named dp x)) (sym same) ∙ not_free t d.token.items (dp d.baton) (dirs_named dp now) (sym (ap (λ n. same_name n t) from) ∙ sym is ∙ h) (open_at (map (dir_named dp) now) k.0 k.1 d.token.items (dp d.baton) k.2)

-- ---- bytes of a text

abbrev fault_of : {A : Type 0} → Result A WindowFault → WindowFault → WindowFault
fault_of (Ok x) f = f
fault_of (Err e) f = e

pub same_fault : {A : Type 0} (r : Result A WindowFault) (f g : WindowFault) → r ≡ Err f → r ≡ Err g → f ≡ g
same_fault r f g e h = ap (λ x. fault_of x f) (sym e ∙ h)

pub own : (f : WindowFault) → RefusedFor (of_window f) (Some (of_window f))
own window.TooLong = refl
own f = refl

stays : (text bytes : List ℕ) (f : WindowFault) → reading (Refuses text f) bytes ≡ Refuses text f
stays text [] f = refl
stays text (b ∷ bytes) f = stays text bytes f

spent_place : (p : Place) (r : Reading) (b : ℕ) → is_failed (record r { place = p }) ≡ true → byte_step p r b ≡ Refused window.Failed
spent_place place.Failed r b e = refl
spent_place p r b e = cc

of_spent : (text : List ℕ) (r : Reading) (rest : List ℕ) → is_failed r ≡ true → (rest ≡ [] → ⊥) → of_stream (reading (Reads text r) rest) ≡ Some fault.Failed
of_spent text r [] e some = absurd (some refl)
of_spent text r (b ∷ rest) e some = ap (λ s. of_stream (reading (of_step text s) rest)) (spent_place r.place r b e) ∙ ap of_stream (stays text rest window.Failed)

pub chunk_refused : (s : Stream) (text : List ℕ) (r : Reading) (rest : List ℕ) (f : WindowFault) (b : Bool) → is_failed r ≡ b → s ≡ reading (Reads text r) rest → (is_failed r ≡ false → (t : List ℕ) → reading (Reads t r) rest ≡ Refuses t f) → (is_failed r ≡ true → f ≡ window.Failed) → (rest ≡ [] → ⊥) → RefusedFor (of_window f) (of_stream s)
chunk_refused s text r rest f false is e k spent some = subst (λ x. RefusedFor (of_window f) x) (sym (ap of_stream (e ∙ k is text))) (own f)
chunk_refused s text r rest f true is e k spent some = subst (λ x. RefusedFor (of_window x) (of_stream s)) (sym (spent is)) (ap of_stream e ∙ of_spent text r rest is some)

-- ---- the sum

not_same : (a b : List ℕ) (c : Bool) → same_name a b ≡ c → (a ≡ b → ⊥) → same_name a b ≡ false
not_same a b true e k = absurd (k (name_of_same a b e))
not_same a b false e k = e

pub bad_sum : (g : Given) (found s : List ℕ) (sum : Option (List ℕ)) (held : Held) → g ≡ given.Whole found → sum ≡ Some s → (s ≡ found → ⊥) → GivenIs g held → at_close sum held ≡ Some fault.BadSum
bad_sum g found s sum held is es k h =
    let w = subst (λ x. GivenIs x held) is h in
    ap (λ x. at_close x held) es ∙ ap (at_close (Some s)) w.1 ∙ ap (λ b. unless b fault.BadSum) (not_same s (md5 w.0) (same_name s (md5 w.0)) refl (λ e. k (e ∙ sym w.2)))

-- ---- commands

-- what is refused anyway is refused where more is known
pub as_refused : {A E : Type 0} (Q : Type 0) (P : E → Type 0) (r : Result A E) → IfErr r P → IfErr r (λ f. Q → P f)
as_refused Q P (Ok a) h = tt
as_refused Q P (Err f) h = λ q. h

either : {A : Type 0} (b : Bool) (x : A) → (if b then x else x) ≡ x
either true x = refl
either false x = refl

-- before an end was announced
pub refusal_due : {D F : Type 0} (dp : D → Path) (fp : F → Path) (st : Stage) (dirs : List (OpenDir D)) (file : Option (OpenFile F)) (at : At) (c : Command) → is_announced st ≡ false → Stands dp fp st dirs file at → refusal at c ≡ due at c
refusal_due dp fp st dirs file at c e h =
    let before : behind_end at (due at c) ≡ due at c = before_end dp fp st dirs file at (due at c) e h in
    ap (λ x. if is_finish c then due at c else x) before ∙ either (is_finish c) (due at c)
  where
    before_end : {D F : Type 0} (dp : D → Path) (fp : F → Path) (st : Stage) (dirs : List (OpenDir D)) (file : Option (OpenFile F)) (at : At) (what : Option CommandFault) → is_announced st ≡ false → Stands dp fp st dirs file at → behind_end at what ≡ what
    before_end dp fp stage.Inside dirs file at what e h = ap (λ a. behind_end a what) h.1
    before_end dp fp (stage.Announced b) dirs file at what e h = cc
    before_end dp fp st dirs file at what e h = ap (λ a. behind_end a what) h.0

pub not_finish : (c : Command) → (c ≡ command.Finish → ⊥) → is_finish c ≡ false
not_finish command.Finish k = absurd (k refl)
not_finish c k = refl

-- behind an end that was announced
pub announced_refused : {D F : Type 0} (dp : D → Path) (fp : F → Path) (st : Stage) (dirs : List (OpenDir D)) (file : Option (OpenFile F)) (at : At) (c : Command) → is_announced st ≡ true → (c ≡ command.Finish → ⊥) → Stands dp fp st dirs file at → refusal at c ≡ Some fault.BadShape
announced_refused dp fp (stage.Announced b) dirs file at c e k h = ap (λ f. if f then due at c else behind_end at (due at c)) (not_finish c k) ∙ ap (λ a. behind_end a (due at c)) h.0
announced_refused dp fp st dirs file at c e k h = cc
