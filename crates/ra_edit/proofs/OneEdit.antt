-- What items say is a function of them, and of where the commands stand.
use Rattle.std.proofs.Common.{◌≡◌, ℕ, ◌==◌, Bool, true, false, not, ◌&&◌, List, [], ◌∷◌, ◌++◌, Option, Some, None, Result, Ok, Err, refl, sym, ap, subst, ◌∙◌, append_assoc, append-nil, inl, inr, codes, cond, arith}
use Rattle.std.proofs.lemmas.Bool.Decides.{nat_tests}
use Rattle.std.specs.Prelude.{map, ⊤}
use Rattle.std.specs.List.{concat, list_all, slice_split}
use Rattle.std.specs.Option.{option_and_then}
use Rattle.hex.specs.Hex.{decode_sized}
use Rattle.ra_item.specs.Items.{Item, Items, Word, Number, Text, Nested, Then}
use Rattle.node_base.specs.Path.{Path, Name, same_name}
use Rattle.node_base.specs.Names.{is_name}
use Rattle.node_base.specs.PathText.{path_read, pieces, is_past_limits}
use Rattle.node_base.specs.Props.{prop_name_read}
use Rattle.node_base.specs.declared.node.Source.{Source}
use Rattle.node_base.specs.declared.fault.PathFault.TheVariants as fault
use Rattle.delta_editor.specs.declared.call.Call.{Call}
use Rattle.delta_editor.specs.declared.call.Call.TheVariants as call
use Rattle.ra_edit.specs.Edits.{IsRevision, IsString, IsSum, IsSource, Held, Dir, Fresh, Within, Told, Named, named, is_free, At, Begun, Targeted, Inside, Announced, Ended, IsUnopened, last_calls, Says, AllSay, SpellsEdit}
use Rattle.ra_edit.specs.Edits as edits
use Rattle.ra_edit.specs.EditLaws.{OneEdit, EndsOnce}
use Rattle.svndiff.specs.Reading.{begin}
use Rattle.svndiff.specs.Streams.{Stream, Reads, Refuses, reading, pieces_in}
use Rattle.node_base.proofs.ReadBack.{name_of_test}
use Rattle.node_base.proofs.PathLemmas.{same_name_itself, name_of_same}
use Rattle.ra_edit.proofs.Told.{both}

abbrev pub Said : Type 0
Said = Option (List Call × At)

abbrev pub said : List Call → At → Said
said calls to = Some (calls, to)

-- ---- parameters

abbrev pub ok_of : {T E : Type 0} → Result T E → Option T
ok_of (Ok x) = Some x
ok_of (Err e) = None

abbrev text_of : Item → List ℕ
text_of (Text t) = t
text_of _ = []

abbrev pub base_of : Item → Option ℕ
base_of (Nested (Then (Number n) more)) = Some n
base_of _ = None

abbrev pub string_of : Item → Option (List ℕ)
string_of (Nested (Then (Text t) more)) = Some t
string_of _ = None

abbrev pub sum_of : Item → Option (List ℕ)
sum_of s = option_and_then (λ digits. ok_of (decode_sized digits 16)) (string_of s)

-- a text behind one slash or none
abbrev behind_slash : List ℕ → List ℕ
behind_slash [] = []
behind_slash (b ∷ text) = cond (b == 47) text (b ∷ text)

abbrev from_read : ℕ → Option Path → Option Source
from_read n None = None
from_read n (Some p) = Some (record { path = p; revision = n })

abbrev pub source_of : Item → Option Source
source_of (Nested (Then (Text t) (Then (Number n) more))) = from_read n (ok_of (path_read (behind_slash t)))
source_of _ = None

pub revision_says : (base : Option ℕ) (x : Item) → IsRevision base x → base_of x ≡ base
revision_says None x h = ap base_of h
revision_says (Some n) x h = ap base_of h.2

pub string_says : (s : Option (List ℕ)) (x : Item) → IsString s x → string_of x ≡ s
string_says None x h = ap string_of h
string_says (Some s) x h = ap string_of h.1

pub sum_says : (s : Option (List ℕ)) (x : Item) → IsSum s x → sum_of x ≡ s
sum_says None x h = ap sum_of h
sum_says (Some s) x h = ap sum_of h.3 ∙ ap ok_of h.2

eq_from : (a b : ℕ) → (a == b) ≡ true → a ≡ b
eq_from a b e = grind (arith, nat_tests)

-- no path begins with a slash
pub no_slash : (text : List ℕ) (p : Path) → path_read (47 ∷ text) ≡ Ok p → ⊥
unfolding path_read
no_slash text p e = never (is_past_limits (47 ∷ text)) (is_name []) (list_all is_name (slice_split (λ x. x == 47) text)) refl (pieces (47 ∷ text)) e
  where
    never : (a b r : Bool) → is_name [] ≡ b → (q : Path) → cond a (Err fault.TooLong) (cond (b && r) (Ok q) (Err fault.BadPath)) ≡ Ok p → ⊥
    never true b r h q z = cc
    never false true r h q z = (name_of_test [] h).some refl
    never false false r h q z = cc

without : (text : List ℕ) (p : Path) → path_read text ≡ Ok p → behind_slash text ≡ text
without [] p e = refl
without (b ∷ text) p e = tested (b == 47) refl
  where
    tested : (t : Bool) → (b == 47) ≡ t → cond t text (b ∷ text) ≡ b ∷ text
    tested true h = absurd (no_slash text p (subst (λ x. path_read (x ∷ text) ≡ Ok p) (eq_from b 47 h) e))
    tested false h = refl

pub source_says : (from : Option Source) (x : Item) → IsSource from x → source_of x ≡ from
source_says None x h = ap source_of h
source_says (Some s) x h =
    let read : from_read s.revision (ok_of (path_read h.0)) ≡ Some s = ap (λ r. from_read s.revision (ok_of r)) h.2 in
    elim h.4 [
      | inl e ↦ ap source_of e ∙ ap (λ t. from_read s.revision (ok_of (path_read t))) (without h.0 s.path h.2) ∙ read
      | inr e ↦ ap source_of e ∙ read
    ]

-- ---- commands

abbrev pub then_path : Item → (Path → Said) → Said
then_path x f = option_and_then f (ok_of (path_read (text_of x)))

pub path_said : (text : List ℕ) (p : Path) (f : Path → Said) → path_read text ≡ Ok p → then_path (Text text) f ≡ f p
path_said text p f e = ap (λ r. option_and_then f (ok_of r)) e

abbrev pub then_name : Item → (Name → Said) → Said
then_name x f = option_and_then f (ok_of (prop_name_read (text_of x)))

pub name_said : (text : List ℕ) (n : Name) (f : Name → Said) → prop_name_read text ≡ Ok n → then_name (Text text) f ≡ f n
name_said text n f e = ap (λ r. option_and_then f (ok_of r)) e

-- the path of what is open by a token
abbrev path_at : List ℕ → List Named → Option Path
path_at t [] = None
path_at t (o ∷ os) = cond (same_name o.token t) (Some o.path) (path_at t os)

abbrev pub target : At → Items → Said
target Begun (Then (Number n) ps) = said (call.Target n ∷ []) Targeted
target _ _ = None

abbrev pub open_root : At → Items → Said
open_root at (Then b (Then t ps)) = said (call.OpenRoot (base_of b) ∷ []) (Inside (named (text_of t) [] Dir ∷ []))
open_root _ _ = None

abbrev pub add_dir : At → Items → Said
add_dir (Inside (o ∷ os)) (Then q (Then u (Then t (Then s ps)))) = then_path q (λ p. said (call.AddDir o.path p (source_of s) ∷ []) (Inside (named (text_of t) p Dir ∷ o ∷ os)))
add_dir _ _ = None

abbrev pub open_dir : At → Items → Said
open_dir (Inside (o ∷ os)) (Then q (Then u (Then t (Then b ps)))) = then_path q (λ p. said (call.OpenDir o.path p (base_of b) ∷ []) (Inside (named (text_of t) p Dir ∷ o ∷ os)))
open_dir _ _ = None

abbrev pub delete_entry : At → Items → Said
delete_entry (Inside (o ∷ os)) (Then q (Then b ps)) = then_path q (λ p. said (call.DeleteEntry o.path p (base_of b) ∷ []) (Inside (o ∷ os)))
delete_entry _ _ = None

abbrev pub add_file : At → Items → Said
add_file (Inside (o ∷ os)) (Then q (Then u (Then t (Then s ps)))) = then_path q (λ p. said (call.AddFile o.path p (source_of s) ∷ []) (Inside (named (text_of t) p Fresh ∷ o ∷ os)))
add_file _ _ = None

abbrev pub open_file : At → Items → Said
open_file (Inside (o ∷ os)) (Then q (Then u (Then t (Then b ps)))) = then_path q (λ p. said (call.OpenFile o.path p (base_of b) ∷ []) (Inside (named (text_of t) p Fresh ∷ o ∷ os)))
open_file _ _ = None

abbrev pub dir_prop : At → Items → Said
dir_prop (Inside os) (Then t (Then q (Then v ps))) = option_and_then (λ p. then_name q (λ n. said (call.DirProp p n (string_of v) ∷ []) (Inside os))) (path_at (text_of t) os)
dir_prop _ _ = None

abbrev pub file_prop : At → Items → Said
file_prop (Inside (o ∷ os)) (Then t (Then q (Then v ps))) = then_name q (λ n. said (call.FileProp o.path n (string_of v) ∷ []) (Inside (o ∷ os)))
file_prop _ _ = None

abbrev pub text_start : At → Items → Said
text_start (Inside (o ∷ os)) ps = said (call.TextStart o.path ∷ []) (Inside (named o.token o.path (Within [] begin) ∷ os))
text_start _ _ = None

abbrev pub grown : Named → List Named → List (List ℕ) → Stream → Said
grown o os pieces (Reads all r) = said (map (call.TextPiece o.path) pieces) (Inside (named o.token o.path (Within all r) ∷ os))
grown o os pieces (Refuses all f) = None

abbrev pub taken : Named → List Named → List ℕ → Held → Said
taken o os bytes (Within text r) = grown o os (pieces_in r bytes) (reading (Reads text r) bytes)
taken o os bytes _ = None

abbrev pub chunk : At → Items → Said
chunk (Inside (o ∷ os)) (Then t (Then b ps)) = taken o os (text_of b) o.held
chunk _ _ = None

abbrev pub ended : Named → List Named → Held → Said
ended o os (Within text r) = said (call.TextEnd o.path ∷ []) (Inside (named o.token o.path (Told text) ∷ os))
ended o os _ = None

abbrev pub text_end : At → Items → Said
text_end (Inside (o ∷ os)) ps = ended o os o.held
text_end _ _ = None

abbrev pub close_file : At → Items → Said
close_file (Inside (o ∷ os)) (Then t (Then s ps)) = said (call.CloseFile o.path (sum_of s) ∷ []) (Inside os)
close_file _ _ = None

abbrev pub close_dir : At → Items → Said
close_dir (Inside (o ∷ os)) ps = said (call.CloseDir o.path ∷ []) (Inside os)
close_dir _ _ = None

abbrev close_edit : At → Said
close_edit (Inside os) = said [] (Announced true)
close_edit _ = said [] (Announced false)

abbrev pub finish : At → Said
finish (Inside os) = said (last_calls true) Ended
finish (Announced root) = said (last_calls root) Ended
finish _ = said (last_calls false) Ended

abbrev by_name : List ℕ → At → Items → Said
by_name w at ps =
    cond (same_name w (codes "target-rev")) (target at ps)
    (cond (same_name w (codes "open-root")) (open_root at ps)
    (cond (same_name w (codes "add-dir")) (add_dir at ps)
    (cond (same_name w (codes "open-dir")) (open_dir at ps)
    (cond (same_name w (codes "delete-entry")) (delete_entry at ps)
    (cond (same_name w (codes "add-file")) (add_file at ps)
    (cond (same_name w (codes "open-file")) (open_file at ps)
    (cond (same_name w (codes "change-dir-prop")) (dir_prop at ps)
    (cond (same_name w (codes "change-file-prop")) (file_prop at ps)
    (cond (same_name w (codes "apply-textdelta")) (text_start at ps)
    (cond (same_name w (codes "textdelta-chunk")) (chunk at ps)
    (cond (same_name w (codes "textdelta-end")) (text_end at ps)
    (cond (same_name w (codes "close-file")) (close_file at ps)
    (cond (same_name w (codes "close-dir")) (close_dir at ps)
    (cond (same_name w (codes "close-edit")) (close_edit at)
    (finish at)))))))))))))))

abbrev pub by_item : At → Item → Said
by_item at (Nested (Then (Word w) (Then (Nested ps) rest))) = by_name w at ps
by_item at _ = None

-- nothing is said behind the end
abbrev pub by : At → Item → Said
by Ended x = None
by Begun x = by_item Begun x
by Targeted x = by_item Targeted x
by (Inside os) x = by_item (Inside os) x
by (Announced root) x = by_item (Announced root) x

-- ---- no token is in use twice

abbrev distinct : List Named → Bool
distinct [] = true
distinct (o ∷ os) = is_free o.token os && distinct os

abbrev pub Distinct : At → Type 0
Distinct (Inside os) = distinct os ≡ true
Distinct _ = ⊤

and_true : (a b : Bool) → a ≡ true → b ≡ true → (a && b) ≡ true
and_true a b e f = rw (e, f) refl

used : (t : List ℕ) (p : Path) (outer front : List Named) → is_free t (front ++ named t p Dir ∷ outer) ≡ true → ⊥
used t p outer [] h = cc (same_name_itself t)
used t p outer (o ∷ front) h = used t p outer front (both (not (same_name o.token t)) (is_free t (front ++ named t p Dir ∷ outer)) h).1

other : (t : List ℕ) (p : Path) (outer front : List Named) (u : List ℕ) (x : Bool) → same_name u t ≡ x → is_free u (front ++ named t p Dir ∷ outer) ≡ true → same_name u t ≡ false
other t p outer front u false e h = e
other t p outer front u true e h = absurd (used t p outer front (subst (λ v. is_free v (front ++ named t p Dir ∷ outer) ≡ true) (name_of_same u t e) h))

here : (t : List ℕ) (p : Path) (outer front : List Named) → distinct (front ++ named t p Dir ∷ outer) ≡ true → path_at t (front ++ named t p Dir ∷ outer) ≡ Some p
here t p outer [] h = ap (λ b. cond b (Some p) (path_at t outer)) (same_name_itself t)
here t p outer (o ∷ front) h =
    let k = both (is_free o.token (front ++ named t p Dir ∷ outer)) (distinct (front ++ named t p Dir ∷ outer)) h in
    ap (λ b. cond b (Some o.path) (path_at t (front ++ named t p Dir ∷ outer))) (other t p outer front o.token (same_name o.token t) refl k.0) ∙ here t p outer front k.1

-- what is open by a token is what the token names
pub found : (t : List ℕ) (p : Path) (inner outer os : List Named) → os ≡ inner ++ named t p Dir ∷ outer → distinct os ≡ true → path_at t os ≡ Some p
found t p inner outer os e d = subst (λ l. path_at t l ≡ Some p) (sym e) (here t p outer inner (ap distinct (sym e) ∙ d))

-- ---- an item says this and nothing else

unopened : (P : At → Type 0) → P Begun → P Targeted → (at : At) → IsUnopened at → P at
unopened P b t at (inl e) = subst P (sym e) b
unopened P b t at (inr e) = subst P (sym e) t

pub says_this : (at to : At) (item : Item) (calls : List Call) → Distinct at → Says at item calls to → by at item ≡ Some (calls, to)
says_this at to item calls d (edits.Target n i small c) = ap (by Begun) c.2
says_this at to item calls d (edits.OpenRoot where_at base t b i un rev c) =
    let now = Inside (named t [] Dir ∷ []) in
    let says : said (call.OpenRoot (base_of b) ∷ []) now ≡ said (call.OpenRoot base ∷ []) now = ap (λ x. said (call.OpenRoot x ∷ []) now) (revision_says base b rev) in
    unopened (λ a. by a i ≡ said (call.OpenRoot base ∷ []) now) (ap (by Begun) c.2 ∙ says) (ap (by Targeted) c.2 ∙ says) where_at un
says_this at to item calls d (edits.AddDir u up os text t p from s i read free src c) =
    ap (by (Inside (named u up Dir ∷ os))) c.2
    ∙ path_said text p (λ p. said (call.AddDir up p (source_of s) ∷ []) (Inside (named t p Dir ∷ named u up Dir ∷ os))) read
    ∙ ap (λ x. said (call.AddDir up p x ∷ []) (Inside (named t p Dir ∷ named u up Dir ∷ os))) (source_says from s src)
says_this at to item calls d (edits.OpenDir u up os text t p base b i read free rev c) =
    ap (by (Inside (named u up Dir ∷ os))) c.2
    ∙ path_said text p (λ p. said (call.OpenDir up p (base_of b) ∷ []) (Inside (named t p Dir ∷ named u up Dir ∷ os))) read
    ∙ ap (λ x. said (call.OpenDir up p x ∷ []) (Inside (named t p Dir ∷ named u up Dir ∷ os))) (revision_says base b rev)
says_this at to item calls d (edits.DeleteEntry u up os text p base b i read rev c) =
    ap (by (Inside (named u up Dir ∷ os))) c.2
    ∙ path_said text p (λ p. said (call.DeleteEntry up p (base_of b) ∷ []) (Inside (named u up Dir ∷ os))) read
    ∙ ap (λ x. said (call.DeleteEntry up p x ∷ []) (Inside (named u up Dir ∷ os))) (revision_says base b rev)
says_this at to item calls d (edits.AddFile u up os text t p from s i read free src c) =
    ap (by (Inside (named u up Dir ∷ os))) c.2
    ∙ path_said text p (λ p. said (call.AddFile up p (source_of s) ∷ []) (Inside (named t p Fresh ∷ named u up Dir ∷ os))) read
    ∙ ap (λ x. said (call.AddFile up p x ∷ []) (Inside (named t p Fresh ∷ named u up Dir ∷ os))) (source_says from s src)
says_this at to item calls d (edits.OpenFile u up os text t p base b i read free rev c) =
    ap (by (Inside (named u up Dir ∷ os))) c.2
    ∙ path_said text p (λ p. said (call.OpenFile up p (base_of b) ∷ []) (Inside (named t p Fresh ∷ named u up Dir ∷ os))) read
    ∙ ap (λ x. said (call.OpenFile up p x ∷ []) (Inside (named t p Fresh ∷ named u up Dir ∷ os))) (revision_says base b rev)
says_this at to item calls d (edits.DirProp t p os text name value v i is read str c) =
    ap (by (Inside os)) c.2
    ∙ ap (option_and_then (λ p. then_name (Text text) (λ n. said (call.DirProp p n (string_of v) ∷ []) (Inside os)))) (found t p is.0 is.1 os is.2 d)
    ∙ name_said text name (λ n. said (call.DirProp p n (string_of v) ∷ []) (Inside os)) read
    ∙ ap (λ x. said (call.DirProp p name x ∷ []) (Inside os)) (string_says value v str)
says_this at to item calls d (edits.FileProp t p held os text name value v i file read str c) =
    ap (by (Inside (named t p held ∷ os))) c.2
    ∙ name_said text name (λ n. said (call.FileProp p n (string_of v) ∷ []) (Inside (named t p held ∷ os))) read
    ∙ ap (λ x. said (call.FileProp p name x ∷ []) (Inside (named t p held ∷ os))) (string_says value v str)
says_this at to item calls d (edits.TextStart t p os sum i c) = ap (by (Inside (named t p Fresh ∷ os))) c.2
says_this at to item calls d (edits.Chunk t p os text bytes r new pieces i read cut c) =
    ap (by (Inside (named t p (Within text r) ∷ os))) c.2
    ∙ ap (grown (named t p (Within text r)) os (pieces_in r bytes)) read
    ∙ ap (λ l. said (map (call.TextPiece p) l) (Inside (named t p (Within (text ++ concat pieces) new) ∷ os))) (sym cut)
says_this at to item calls d (edits.TextEnd t p os text r i between c) = ap (by (Inside (named t p (Within text r) ∷ os))) c.2
says_this at to item calls d (edits.CloseFresh t p os sum s i is c) =
    ap (by (Inside (named t p Fresh ∷ os))) c.2 ∙ ap (λ x. said (call.CloseFile p x ∷ []) (Inside os)) (sum_says sum s is)
says_this at to item calls d (edits.CloseTold t p os text sum s i sums is c) =
    ap (by (Inside (named t p (Told text) ∷ os))) c.2 ∙ ap (λ x. said (call.CloseFile p x ∷ []) (Inside os)) (sum_says sum s is)
says_this at to item calls d (edits.CloseDir t p os i c) = ap (by (Inside (named t p Dir ∷ os))) c.2
says_this at to item calls d (edits.CloseEdit i c) = ap (by (Inside [])) c.2
says_this at to item calls d (edits.CloseNone where_at i un c) = unopened (λ a. by a i ≡ said [] (Announced false)) (ap (by Begun) c.2) (ap (by Targeted) c.2) where_at un
says_this at to item calls d (edits.Finish i c) = ap (by (Inside [])) c.2
says_this at to item calls d (edits.FinishNone where_at i un c) = unopened (λ a. by a i ≡ said (last_calls false) Ended) (ap (by Begun) c.2) (ap (by Targeted) c.2) where_at un
says_this at to item calls d (edits.FinishAnnounced root i c) = ap (by (Announced root)) c.2

-- and tokens stay apart
stays : (at to : At) (item : Item) (calls : List Call) → Distinct at → Says at item calls to → Distinct to
stays at to item calls d (edits.Target n i small c) = tt
stays at to item calls d (edits.OpenRoot where_at base t b i un rev c) = refl
stays at to item calls d (edits.AddDir u up os text t p from s i read free src c) = and_true (is_free t (named u up Dir ∷ os)) (distinct (named u up Dir ∷ os)) free d
stays at to item calls d (edits.OpenDir u up os text t p base b i read free rev c) = and_true (is_free t (named u up Dir ∷ os)) (distinct (named u up Dir ∷ os)) free d
stays at to item calls d (edits.DeleteEntry u up os text p base b i read rev c) = d
stays at to item calls d (edits.AddFile u up os text t p from s i read free src c) = and_true (is_free t (named u up Dir ∷ os)) (distinct (named u up Dir ∷ os)) free d
stays at to item calls d (edits.OpenFile u up os text t p base b i read free rev c) = and_true (is_free t (named u up Dir ∷ os)) (distinct (named u up Dir ∷ os)) free d
stays at to item calls d (edits.DirProp t p os text name value v i is read str c) = d
stays at to item calls d (edits.FileProp t p held os text name value v i file read str c) = d
stays at to item calls d (edits.TextStart t p os sum i c) = d
stays at to item calls d (edits.Chunk t p os text bytes r new pieces i read cut c) = d
stays at to item calls d (edits.TextEnd t p os text r i between c) = d
stays at to item calls d (edits.CloseFresh t p os sum s i is c) = (both (is_free t os) (distinct os) d).1
stays at to item calls d (edits.CloseTold t p os text sum s i sums is c) = (both (is_free t os) (distinct os) d).1
stays at to item calls d (edits.CloseDir t p os i c) = (both (is_free t os) (distinct os) d).1
stays at to item calls d (edits.CloseEdit i c) = tt
stays at to item calls d (edits.CloseNone where_at i un c) = tt
stays at to item calls d (edits.Finish i c) = tt
stays at to item calls d (edits.FinishNone where_at i un c) = tt
stays at to item calls d (edits.FinishAnnounced root i c) = tt

-- ---- items one after another

abbrev in_front : List Call → Said → Said
in_front calls None = None
in_front calls (Some p) = Some (calls ++ p.0, p.1)

abbrev all_by : At → List Item → Said
all_by at [] = Some ([], at)
all_by at (x ∷ xs) = option_and_then (λ p. in_front p.0 (all_by p.1 xs)) (by at x)

all_say_this : (at end : At) (items : List Item) (calls : List Call) → Distinct at → AllSay at items calls end → all_by at items ≡ Some (calls, end)
all_say_this at end [] [] d (edits.Nothing x) = refl
all_say_this at end all both_calls d (edits.Then from next last item items first rest said_first behind) =
    ap (option_and_then (λ p. in_front p.0 (all_by p.1 items))) (says_this from next item first d said_first)
    ∙ ap (in_front first) (all_say_this next last items rest (stays from next item first d said_first) behind)

abbrev pub calls_of : Said → List Call
calls_of None = []
calls_of (Some p) = p.0

pub one_edit : OneEdit
one_edit items a b p q = ap calls_of (sym (all_say_this Begun Ended items a tt p) ∙ all_say_this Begun Ended items b tt q)

front_none : (o : Said) → o ≡ in_front [] o
front_none None = refl
front_none (Some p) = refl

front_twice : (xs ys : List Call) (o : Said) → in_front xs (in_front ys o) ≡ in_front (xs ++ ys) o
front_twice xs ys None = refl
front_twice xs ys (Some p) = ap (λ l. said l p.1) (sym (append_assoc xs ys p.0))

abbrev then_all : List Item → Said → Said
then_all ys o = option_and_then (λ p. in_front p.0 (all_by p.1 ys)) o

front_then : (xs : List Call) (ys : List Item) (o : Said) → in_front xs (then_all ys o) ≡ then_all ys (in_front xs o)
front_then xs ys None = refl
front_then xs ys (Some p) = front_twice xs p.0 (all_by p.1 ys)

append_first : (xs ys : List Item) (o : Said) → ((at : At) → all_by at (xs ++ ys) ≡ then_all ys (all_by at xs)) → option_and_then (λ p. in_front p.0 (all_by p.1 (xs ++ ys))) o ≡ then_all ys (option_and_then (λ p. in_front p.0 (all_by p.1 xs)) o)
append_first xs ys None h = refl
append_first xs ys (Some p) h = ap (in_front p.0) (h p.1) ∙ front_then p.0 ys (all_by p.1 xs)

all_append : (at : At) (xs ys : List Item) → all_by at (xs ++ ys) ≡ then_all ys (all_by at xs)
all_append at [] ys = front_none (all_by at ys)
all_append at (x ∷ xs) ys = append_first xs ys (by at x) (λ to. all_append to xs ys)

none_behind : (calls : List Call) (ys : List Item) (p : List Call × At) → in_front calls (all_by Ended ys) ≡ Some p → ys ≡ []
none_behind calls [] p e = refl
none_behind calls (y ∷ ys) p e = cc

pub ends_once : EndsOnce
ends_once items more a b p q =
    none_behind a more (b, Ended)
    (ap (then_all more) (sym (all_say_this Begun Ended items a tt p)) ∙ sym (all_append Begun items more) ∙ all_say_this Begun Ended (items ++ more) b tt q)

-- ---- a part of an edit

abbrev at_of : Said → At
at_of None = Begun
at_of (Some p) = p.1

-- items lead to one place
pub same_place : (items : List Item) (a b : List Call) (here there : At) → AllSay Begun items a here → AllSay Begun items b there → here ≡ there
same_place items a b here there p q = ap at_of (sym (all_say_this Begun here items a tt p) ∙ all_say_this Begun there items b tt q)

-- and are one list of calls
pub same_calls : (items : List Item) (a b : List Call) (here there : At) → AllSay Begun items a here → AllSay Begun items b there → a ≡ b
same_calls items a b here there p q = ap calls_of (sym (all_say_this Begun here items a tt p) ∙ all_say_this Begun there items b tt q)

-- what begins with an edit has ended
pub ends_any : (items more : List Item) (a b : List Call) (at : At) → SpellsEdit items a → AllSay Begun (items ++ more) b at → at ≡ Ended
ends_any items more a b at p q =
    let none : more ≡ [] =
    none_behind a more (b, at)
    (ap (then_all more) (sym (all_say_this Begun Ended items a tt p)) ∙ sym (all_append Begun items more) ∙ all_say_this Begun at (items ++ more) b tt q)
    in
    same_place items b a at Ended (subst (λ l. AllSay Begun l b at) (ap (λ m. items ++ m) none ∙ append-nil items) q) p

-- and tokens stay apart on the way
pub distinct_at : (from at : At) (items : List Item) (calls : List Call) → Distinct from → AllSay from items calls at → Distinct at
distinct_at from at [] [] d (edits.Nothing x) = d
distinct_at from at all both_calls d (edits.Then here next last item items first rest one behind) = distinct_at next last items rest (stays here next item first d one) behind

-- the calls of items, of one more, and of those behind it
pub record Split (items : List Item) (x : Item) (from : At) (all : List Call) : Type 0 where
  pub before : List Call
  pub mid : At
  pub calls : List Call
  pub to : At
  pub later : List Call
  pub first : AllSay from items before mid
  pub one : Says mid x calls to
  pub joined : all ≡ before ++ (calls ++ later)

abbrev head_or : Item → List Item → Item
head_or x [] = x
head_or x (y ∷ ys) = y

abbrev behind_head : List Item → List Item
behind_head [] = []
behind_head (y ∷ ys) = ys

pub split : (items : List Item) (x : Item) (rest whole : List Item) (from end : At) (all : List Call) → whole ≡ items ++ x ∷ rest → AllSay from whole all end → Split items x from all
split [] x rest whole from end all e (edits.Nothing at) = cc
split (y ∷ items) x rest whole from end all e (edits.Nothing at) = cc
split [] x rest whole from end all e (edits.Then at next last z zs first others one behind) =
    record { before = []; mid = at; calls = first; to = next; later = others; first = edits.Nothing at; one = subst (λ w. Says at w first next) (ap (head_or z) e) one; joined = refl }
split (y ∷ items) x rest whole from end all e (edits.Then at next last z zs first others one behind) =
    let k = split items x rest zs next last others (ap behind_head e) behind in
    record {
      before = first ++ k.before;
      mid = k.mid;
      calls = k.calls;
      to = k.to;
      later = k.later;
      first = edits.Then at next k.mid y items first k.before (subst (λ w. Says at w first next) (ap (head_or z) e) one) k.first;
      one = k.one;
      joined = ap (λ l. first ++ l) k.joined ∙ sym (append_assoc first k.before (k.calls ++ k.later));
    }
