-- No item that may come is refused.
use Rattle.std.proofs.Common.{◌≡◌, ℕ, Bool, true, false, List, [], ◌∷◌, ◌++◌, Option, Some, None, refl, sym, ap, ◌∙◌, inl, inr, codes, cond}
use Rattle.std.specs.Prelude.{◌&&◌, ◌||◌, if◌then◌else◌}
use Rattle.md5.specs.Md5.{md5}
use Rattle.ra_item.specs.Items.{Item, Items, Word, Text, Nested, Then}
use Rattle.node_base.specs.Path.{Path, same_name}
use Rattle.node_base.proofs.PathLemmas.{same_name_itself}
use Rattle.delta_editor.specs.declared.call.Call.{Call}
use Rattle.ra_edit.specs.Edits.{Held, Dir, Fresh, Within, Told, Named, named, At, Begun, Targeted, Inside, Announced, Ended, Says, is_free, IsOpenDir, IsUnopened, SumsTo}
use Rattle.ra_edit.specs.Edits as edits
use Rattle.svndiff.specs.Reading.{is_between, is_failed}
use Rattle.svndiff.specs.Streams.{Reads, reading}
use Rattle.ra_edit.specs.Receiving.{Forms}
use Rattle.ra_edit.specs.Refusals.{open_of, unless, is_dir, is_in_dir, has_dir, for_token, in_file, at_start, of_stream, at_chunk, at_end, sums, at_close, at_target, at_root, at_close_edit, at_finish, behind_end, refusal}
use Rattle.ra_edit.specs.declared.command_fault.CommandFault.{CommandFault}
use Rattle.ra_edit.specs.declared.command_fault.CommandFault.TheVariants as fault
use Rattle.svndiff.specs.declared.reading.Place.{Place}
use Rattle.svndiff.specs.declared.reading.Place.TheVariants as place
use Rattle.svndiff.specs.declared.reading.Reading.{Reading}
use Rattle.ra_edit.specs.declared.receive_command.Command.{Command}
use Rattle.ra_edit.specs.declared.receive_command.Command.TheVariants as command
use Rattle.ra_edit.proofs.OneEdit.{sum_of, sum_says}
use Rattle.ra_edit.specs.Refusals.{NothingDue}

abbrev Due : Type 0
Due = Option CommandFault

-- ---- what an item is refused for, by its words

abbrev new : At → List ℕ → List ℕ → Due
new at u t = behind_end at (unless (is_free t (open_of at) && is_in_dir u (open_of at)) fault.BadToken)

abbrev opening : At → Items → Due
opening at (Then q (Then (Text u) (Then (Text t) ps))) = new at u t
opening at _ = None

abbrev delete : At → Items → Due
delete at (Then q (Then b (Then (Text u) ps))) = behind_end at (unless (is_in_dir u (open_of at)) fault.BadToken)
delete at _ = None

abbrev dir_prop : At → Items → Due
dir_prop at (Then (Text t) ps) = behind_end at (unless (has_dir t (open_of at)) fault.BadToken)
dir_prop at _ = None

abbrev close_dir : At → Items → Due
close_dir at (Then (Text t) ps) = behind_end at (unless (is_in_dir t (open_of at)) fault.BadToken)
close_dir at _ = None

abbrev no_more : Held → Due
no_more held = None

abbrev of_file : (Held → Due) → At → Items → Due
of_file f at (Then (Text t) ps) = behind_end at (in_file t (open_of at) f)
of_file f at _ = None

abbrev chunk : At → Items → Due
chunk at (Then t (Then (Text b) ps)) = of_file (at_chunk b) at (Then t ps)
chunk at _ = None

abbrev close_file : At → Items → Due
close_file at (Then t (Then s ps)) = of_file (at_close (sum_of s)) at (Then t ps)
close_file at _ = None

abbrev by_name : List ℕ → At → Items → Due
by_name w at ps =
    cond (same_name w (codes "target-rev")) (behind_end at (at_target at))
    (cond (same_name w (codes "open-root")) (behind_end at (at_root at))
    (cond (same_name w (codes "add-dir")) (opening at ps)
    (cond (same_name w (codes "open-dir")) (opening at ps)
    (cond (same_name w (codes "delete-entry")) (delete at ps)
    (cond (same_name w (codes "add-file")) (opening at ps)
    (cond (same_name w (codes "open-file")) (opening at ps)
    (cond (same_name w (codes "change-dir-prop")) (dir_prop at ps)
    (cond (same_name w (codes "change-file-prop")) (of_file no_more at ps)
    (cond (same_name w (codes "apply-textdelta")) (of_file at_start at ps)
    (cond (same_name w (codes "textdelta-chunk")) (chunk at ps)
    (cond (same_name w (codes "textdelta-end")) (of_file at_end at ps)
    (cond (same_name w (codes "close-file")) (close_file at ps)
    (cond (same_name w (codes "close-dir")) (close_dir at ps)
    (cond (same_name w (codes "close-edit")) (behind_end at (at_close_edit at))
    (cond (same_name w (codes "finish-replay")) (at_finish at)
    (behind_end at (Some fault.Refused)))))))))))))))))

abbrev by : At → Item → Due
by at (Nested (Then (Word w) (Then (Nested ps) rest))) = by_name w at ps
by at _ = None

-- ---- so is a command that the item is

forms_due : (c : Command) (at : At) (x : Item) → Forms c x → by at x ≡ refusal at c
forms_due (command.Target n) at x h = ap (by at) h.1.2
forms_due (command.OpenRoot b t) at x h = ap (by at) h.2.2
forms_due (command.DeleteEntry p b u) at x h = ap (by at) h.4.2
forms_due (command.AddDir p u t f) at x h = ap (by at) h.4.2
forms_due (command.OpenDir p u t b) at x h = ap (by at) h.4.2
forms_due (command.DirProp t n v) at x h = ap (by at) h.4.2
forms_due (command.CloseDir t) at x h = ap (by at) h.2
forms_due (command.AddFile p u t f) at x h = ap (by at) h.4.2
forms_due (command.OpenFile p u t b) at x h = ap (by at) h.4.2
forms_due (command.FileProp t n v) at x h = ap (by at) h.4.2
forms_due (command.TextStart t) at x h = ap (by at) h.1.2
forms_due (command.Chunk t b) at x h = ap (by at) h.2
forms_due (command.TextEnd t) at x h = ap (by at) h.2
forms_due (command.CloseFile t s) at x h = ap (by at) h.2.2 ∙ ap (λ m. behind_end at (in_file t.items (open_of at) (at_close m))) (sum_says s h.0 h.1)
forms_due command.CloseEdit at x h = ap (by at) h.2
forms_due command.Finish at x h = ap (by at) h.2
forms_due command.Abort at x (inl h) = ap (by at) h.2
forms_due command.Abort at x (inr h) = ap (by at) h.2

-- ---- an item that may come isn't refused

by_token : (t : List ℕ) (what : Due) → for_token t t what ≡ what
by_token t what = ap (λ b. if b then what else Some fault.BadToken) (same_name_itself t)

own_dir : (t : List ℕ) → unless (same_name t t) fault.BadToken ≡ None
own_dir t = ap (λ b. unless b fault.BadToken) (same_name_itself t)

new_free : (u : List ℕ) (p : Path) (os : List Named) (t : List ℕ) → is_free t (named u p Dir ∷ os) ≡ true → unless (is_free t (named u p Dir ∷ os) && same_name u u) fault.BadToken ≡ None
new_free u p os t e = ap (λ b. unless (b && same_name u u) fault.BadToken) e ∙ own_dir u

or_true : (b : Bool) → (b || true) ≡ true
or_true true = refl
or_true false = refl

has_in : (t : List ℕ) (p : Path) (inner outer : List Named) → has_dir t (inner ++ named t p Dir ∷ outer) ≡ true
has_in t p [] outer = ap (λ b. b || has_dir t outer) (same_name_itself t)
has_in t p (o ∷ inner) outer = ap (λ b. (is_dir o.held && same_name o.token t) || b) (has_in t p inner outer) ∙ or_true (is_dir o.held && same_name o.token t)

has_open : (t : List ℕ) (p : Path) (os : List Named) → IsOpenDir t p os → has_dir t os ≡ true
has_open t p os k = ap (has_dir t) k.2 ∙ has_in t p k.0 k.1

no_dir : (held : Held) → (held ≡ Dir → ⊥) → is_dir held ≡ false
no_dir Dir k = absurd (k refl)
no_dir held k = refl

goes_on : (p : Place) (r : Reading) → is_between (record r { place = p }) ≡ true → is_failed (record r { place = p }) ≡ false
goes_on place.Failed r e = cc
goes_on p r e = refl

ends : (text : List ℕ) (r : Reading) → is_between r ≡ true → at_end (Within text r) ≡ None
ends text r e = ap (λ b. if b then Some fault.Failed else unless (is_between r) fault.BadWindow) (goes_on r.place r e) ∙ ap (λ b. unless b fault.BadWindow) e

summed : (sum : Option (List ℕ)) (text : List ℕ) → SumsTo sum text → sums sum text ≡ true
summed None text h = refl
summed (Some s) text h = ap (λ x. same_name x (md5 text)) h ∙ same_name_itself (md5 text)

root_free : (at : At) → IsUnopened at → behind_end at (at_root at) ≡ None
root_free at (inl e) = ap (λ a. behind_end a (at_root a)) e
root_free at (inr e) = ap (λ a. behind_end a (at_root a)) e

close_free : (at : At) → IsUnopened at → behind_end at (at_close_edit at) ≡ None
close_free at (inl e) = ap (λ a. behind_end a (at_close_edit a)) e
close_free at (inr e) = ap (λ a. behind_end a (at_close_edit a)) e

finish_free : (at : At) → IsUnopened at → at_finish at ≡ None
finish_free at (inl e) = ap at_finish e
finish_free at (inr e) = ap at_finish e

says_free : (at to : At) (item : Item) (calls : List Call) → Says at item calls to → by at item ≡ None
says_free at to item calls (edits.Target n i small c) = ap (by Begun) c.2
says_free at to item calls (edits.OpenRoot a base t b i un rev c) = ap (by a) c.2 ∙ root_free a un
says_free at to item calls (edits.AddDir u up os text t p from s i path free src c) = ap (by (Inside (named u up Dir ∷ os))) c.2 ∙ new_free u up os t free
says_free at to item calls (edits.OpenDir u up os text t p base b i path free rev c) = ap (by (Inside (named u up Dir ∷ os))) c.2 ∙ new_free u up os t free
says_free at to item calls (edits.DeleteEntry u up os text p base b i path rev c) = ap (by (Inside (named u up Dir ∷ os))) c.2 ∙ own_dir u
says_free at to item calls (edits.AddFile u up os text t p from s i path free src c) = ap (by (Inside (named u up Dir ∷ os))) c.2 ∙ new_free u up os t free
says_free at to item calls (edits.OpenFile u up os text t p base b i path free rev c) = ap (by (Inside (named u up Dir ∷ os))) c.2 ∙ new_free u up os t free
says_free at to item calls (edits.DirProp t p os text name value v i is n s c) = ap (by (Inside os)) c.2 ∙ ap (λ b. unless b fault.BadToken) (has_open t p os is)
says_free at to item calls (edits.FileProp t p held os text name value v i k n s c) =
    ap (by (Inside (named t p held ∷ os))) c.2 ∙ ap (λ b. if b then Some fault.BadToken else for_token t t None) (no_dir held k) ∙ by_token t None
says_free at to item calls (edits.TextStart t p os sum i c) = ap (by (Inside (named t p Fresh ∷ os))) c.2 ∙ by_token t None
says_free at to item calls (edits.Chunk t p os text bytes r after pieces i read cut c) =
    ap (by (Inside (named t p (Within text r) ∷ os))) c.2 ∙ by_token t (of_stream (reading (Reads text r) bytes)) ∙ ap of_stream read
says_free at to item calls (edits.TextEnd t p os text r i is c) = ap (by (Inside (named t p (Within text r) ∷ os))) c.2 ∙ by_token t (at_end (Within text r)) ∙ ends text r is
says_free at to item calls (edits.CloseFresh t p os sum s i is c) = ap (by (Inside (named t p Fresh ∷ os))) c.2 ∙ by_token t None
says_free at to item calls (edits.CloseTold t p os text sum s i to_text is c) =
    ap (by (Inside (named t p (Told text) ∷ os))) c.2 ∙ by_token t (unless (sums (sum_of s) text) fault.BadSum) ∙ ap (λ m. unless (sums m text) fault.BadSum) (sum_says sum s is) ∙ ap (λ b. unless b fault.BadSum) (summed sum text to_text)
says_free at to item calls (edits.CloseDir t p os i c) = ap (by (Inside (named t p Dir ∷ os))) c.2 ∙ own_dir t
says_free at to item calls (edits.CloseEdit i c) = ap (by (Inside [])) c.2
says_free at to item calls (edits.CloseNone a i un c) = ap (by a) c.2 ∙ close_free a un
says_free at to item calls (edits.Finish i c) = ap (by (Inside [])) c.2
says_free at to item calls (edits.FinishNone a i un c) = ap (by a) c.2 ∙ finish_free a un
says_free at to item calls (edits.FinishAnnounced root i c) = ap (by (Announced root)) c.2

pub nothing_due : NothingDue
nothing_due = λ at to item calls c s f. sym (forms_due c at item f) ∙ says_free at to item calls s
