-- A call more is written.
use Rattle.std.proofs.Common.{Global, ◌≡◌, ℕ, suc, ◌+◌, nat_lt, nat_eq, Bool, true, false, ◌&&◌, ◌||◌, List, [], ◌∷◌, ◌++◌, map, length, Option, Some, None, Result, Ok, Err, OnOk, IsOk, refl, sym, ap, ap₂, subst, ◌∙◌, append_assoc, append-nil, arith, if◌then◌else◌, codes, eq-eqb}
use Rattle.std.specs.Option.{option_and_then}
use Rattle.std.specs.List.{list_any, list_all}
use Rattle.std.specs.Io.KnownBytes.{Appends, Keeps, append_known}
use Rattle.std.specs.Io.Buffered.{writer_buffer, writer_inner, writer_contents}
use Rattle.ra_item.specs.Items.{Item, Number, Text, row, spell, spell_all}
use Rattle.node_base.specs.Path.{Path, same_path}
use Rattle.node_base.specs.PathText.{path_text}
use Rattle.node_base.proofs.PathLemmas.{same_path_itself, path_of_same}
use Rattle.delta_editor.specs.Calls.{Adds}
use Rattle.delta_editor.specs.declared.call.Call.{Call}
use Rattle.delta_editor.specs.declared.call.Call.TheVariants as call
use Rattle.delta_editor.specs.Nesting.{Opened, OpenDir, OpenFile, OpenText, TextDone, Stage, Before, Within, After, is_dir, is_fresh, is_in_text, is_told, innermost, next, run, IsNested}
use Rattle.ra_edit.specs.Commands.{list, command, revision, string, source, sum_text, opening, with_opening, opened_after, token, number_of, chunk, parts, spelled, spelled_after, edit_bytes}
use Rattle.svndiff.specs.Spelling.{head, window}
use Rattle.ra_edit.specs.Tokens.{newest}
use Rattle.ra_edit.specs.Wire.{is_deeper, AllDeeper, path_of, open_at, Numbered, Stands, Shows}
use Rattle.ra_edit.specs.declared.token.Tokens.{Tokens}
use Rattle.std.specs.declared.io.buffered.BufWriter.{BufWriter}
use Rattle.ra_edit.specs.declared.wire.WireEditor.{WireEditor}
use Rattle.svndiff.proofs.Written.{appends_join}

-- ---- the items of a call by numbers

-- the path whose token a call names
abbrev pub acted : Call → Path
acted (call.Target n) = []
acted (call.OpenRoot base) = []
acted (call.AddDir up p from) = up
acted (call.OpenDir up p base) = up
acted (call.DeleteEntry up p base) = up
acted (call.AddFile up p from) = up
acted (call.OpenFile up p base) = up
acted (call.DirProp p name value) = p
acted (call.FileProp p name value) = p
acted (call.TextStart p) = p
acted (call.TextPiece p piece) = p
acted (call.TextEnd p) = p
acted (call.CloseFile p sum) = p
acted (call.CloseDir p) = p
acted call.CloseEdit = []

-- the items of a call that names a token of this number, where this is the number of the next
abbrev pub said : ℕ → ℕ → Call → List Item
said t n (call.Target k) = command (codes "target-rev") (Number k ∷ []) ∷ []
said t n (call.OpenRoot base) = command (codes "open-root") (revision base ∷ Text (token n) ∷ []) ∷ []
said t n (call.AddDir up p from) = command (codes "add-dir") (Text (path_text p) ∷ Text (token t) ∷ Text (token n) ∷ source from ∷ []) ∷ []
said t n (call.OpenDir up p base) = command (codes "open-dir") (Text (path_text p) ∷ Text (token t) ∷ Text (token n) ∷ revision base ∷ []) ∷ []
said t n (call.DeleteEntry up p base) = command (codes "delete-entry") (Text (path_text p) ∷ revision base ∷ Text (token t) ∷ []) ∷ []
said t n (call.AddFile up p from) = command (codes "add-file") (Text (path_text p) ∷ Text (token t) ∷ Text (token n) ∷ source from ∷ []) ∷ []
said t n (call.OpenFile up p base) = command (codes "open-file") (Text (path_text p) ∷ Text (token t) ∷ Text (token n) ∷ revision base ∷ []) ∷ []
said t n (call.DirProp p name value) = command (codes "change-dir-prop") (Text (token t) ∷ Text name ∷ string value ∷ []) ∷ []
said t n (call.FileProp p name value) = command (codes "change-file-prop") (Text (token t) ∷ Text name ∷ string value ∷ []) ∷ []
said t n (call.TextStart p) = command (codes "apply-textdelta") (Text (token t) ∷ list [] ∷ []) ∷ chunk (Text (token t)) head ∷ []
said t n (call.TextPiece p piece) = map (λ part. chunk (Text (token t)) (window part)) (parts piece)
said t n (call.TextEnd p) = command (codes "textdelta-end") (Text (token t) ∷ []) ∷ []
said t n (call.CloseFile p sum) = command (codes "close-file") (Text (token t) ∷ string (sum_text sum) ∷ []) ∷ []
said t n (call.CloseDir p) = command (codes "close-dir") (Text (token t) ∷ []) ∷ []
said t n call.CloseEdit = command (codes "finish-replay") [] ∷ []

spelled_said : (opened : List Path) (c : Call) → spelled opened c ≡ said (number_of opened (acted c)) (length opened) c
spelled_said opened (call.Target k) = refl
spelled_said opened c = refl

-- ---- what is innermost

-- the innermost open thing passes a test, and then something else is open
record Top (test : Opened → Bool) (new : Opened → List Opened → List Opened) (os : List Opened) (s : Stage) : Type 0 where
  pub first : Opened
  pub rest : List Opened
  pub are : os ≡ first ∷ rest
  pub passes : test first ≡ true
  pub made : Within (new first rest) ≡ s

some_is : {A : Type 0} (x y : A) → Some x ≡ Some y → x ≡ y
some_is {A = A} x y e = ap (λ o. elim o as (λ _. A) [ None ↦ x | Some z ↦ z ]) e

top : (test : Opened → Bool) (new : Opened → List Opened → List Opened) (os : List Opened) (s : Stage) → innermost test new os ≡ Some s → Top test new os s
top test new [] s e = cc
top test new (o ∷ os) s e = by (test o) refl e
  where
    by : (b : Bool) → test o ≡ b → (if b then Some (Within (new o os)) else None) ≡ Some s → Top test new (o ∷ os) s
    by true t h = record { first = o; rest = os; are = refl; passes = t; made = some_is (Within (new o os)) s h }
    by false t h = cc

pub or_false : (b : Bool) → (b || false) ≡ true → b ≡ true
or_false true e = refl
or_false false e = e

pub or_falses : (b : Bool) → ((b || false) || false) ≡ true → b ≡ true
or_falses true e = refl
or_falses false e = e

dir_at : (p : Path) (o : Opened) → is_dir p o ≡ true → path_of o ≡ p
dir_at p (OpenDir q) e = sym (path_of_same p q e)
dir_at p o e = cc

fresh_at : (p : Path) (o : Opened) → is_fresh p o ≡ true → path_of o ≡ p
fresh_at p (OpenFile q) e = sym (path_of_same p q e)
fresh_at p o e = cc

text_at : (p : Path) (o : Opened) → is_in_text p o ≡ true → path_of o ≡ p
text_at p (OpenText q) e = sym (path_of_same p q e)
text_at p o e = cc

file_at : (p : Path) (o : Opened) → (is_fresh p o || is_in_text p o || is_told p o) ≡ true → path_of o ≡ p
file_at p (OpenDir q) e = cc
file_at p (OpenFile q) e = sym (path_of_same p q (or_falses (same_path p q) e))
file_at p (OpenText q) e = sym (path_of_same p q (or_false (same_path p q) e))
file_at p (TextDone q) e = sym (path_of_same p q e)

closable_at : (p : Path) (o : Opened) → (is_fresh p o || is_told p o) ≡ true → path_of o ≡ p
closable_at p (OpenDir q) e = cc
closable_at p (OpenFile q) e = sym (path_of_same p q (or_false (same_path p q) e))
closable_at p (OpenText q) e = cc
closable_at p (TextDone q) e = sym (path_of_same p q e)

-- ---- the number of a token

abbrev IsNumber : (ℕ → ℕ) → List Path → Path → Type 0
IsNumber at opened p = at (length p) ≡ number_of opened p

of_top : (at : ℕ → ℕ) (opened : List Path) (o : Opened) (p : Path) → path_of o ≡ p → at (length (path_of o)) ≡ number_of opened (path_of o) → IsNumber at opened p
of_top at opened o p e h = subst (λ q. IsNumber at opened q) e h

number_at_top : (at : ℕ → ℕ) (opened : List Path) (p : Path) (test : Opened → Bool) (new : Opened → List Opened → List Opened) (os : List Opened) (s : Stage) → ((o : Opened) → test o ≡ true → path_of o ≡ p) → innermost test new os ≡ Some s → Numbered at opened os → IsNumber at opened p
number_at_top at opened p test new os s is e h =
    let t = top test new os s e in
    let all : Numbered at opened (t.first ∷ t.rest) = subst (λ xs. Numbered at opened xs) t.are h in
    of_top at opened t.first p (is t.first t.passes) all.0

number_in : (at : ℕ → ℕ) (opened : List Path) (p : Path) (os : List Opened) → list_any (is_dir p) os ≡ true → Numbered at opened os → IsNumber at opened p
number_in at opened p [] e h = cc
number_in at opened p (o ∷ os) e h = by (is_dir p o) refl e (λ k. number_in at opened p os k h.2)
  where
    by : (b : Bool) → is_dir p o ≡ b → (b || list_any (is_dir p) os) ≡ true → (list_any (is_dir p) os ≡ true → IsNumber at opened p) → IsNumber at opened p
    by true t k later = of_top at opened o p (dir_at p o t) h.0
    by false t k later = later k

-- a test that passes where something comes of it
passed : (b : Bool) (x s : Stage) → (if b then Some x else None) ≡ Some s → b ≡ true
passed true x s e = refl
passed false x s e = cc

-- the numbers say the items
number_said : (at : ℕ → ℕ) (opened : List Path) (n : ℕ) (s t : Stage) (c : Call) → next s c ≡ Some t → Numbered at opened (open_at s) → said (at (length (acted c))) n c ≡ said (number_of opened (acted c)) n c
number_said at opened n s t (call.Target k) e h = refl
number_said at opened n s t (call.OpenRoot base) e h = refl
number_said at opened n s t call.CloseEdit e h = refl
number_said at opened n (Within os) t (call.AddDir up p from) e h = ap (λ k. said k n (call.AddDir up p from)) (number_at_top at opened up (is_dir up) (λ o out. OpenDir p ∷ o ∷ out) os t (dir_at up) e h)
number_said at opened n (Within os) t (call.OpenDir up p base) e h = ap (λ k. said k n (call.OpenDir up p base)) (number_at_top at opened up (is_dir up) (λ o out. OpenDir p ∷ o ∷ out) os t (dir_at up) e h)
number_said at opened n (Within os) t (call.DeleteEntry up p base) e h = ap (λ k. said k n (call.DeleteEntry up p base)) (number_at_top at opened up (is_dir up) (λ o out. o ∷ out) os t (dir_at up) e h)
number_said at opened n (Within os) t (call.AddFile up p from) e h = ap (λ k. said k n (call.AddFile up p from)) (number_at_top at opened up (is_dir up) (λ o out. OpenFile p ∷ o ∷ out) os t (dir_at up) e h)
number_said at opened n (Within os) t (call.OpenFile up p base) e h = ap (λ k. said k n (call.OpenFile up p base)) (number_at_top at opened up (is_dir up) (λ o out. OpenFile p ∷ o ∷ out) os t (dir_at up) e h)
number_said at opened n (Within os) t (call.DirProp p name value) e h = ap (λ k. said k n (call.DirProp p name value)) (number_in at opened p os (passed (list_any (is_dir p) os) (Within os) t e) h)
number_said at opened n (Within os) t (call.FileProp p name value) e h = ap (λ k. said k n (call.FileProp p name value)) (number_at_top at opened p (λ o. is_fresh p o || is_in_text p o || is_told p o) (λ o out. o ∷ out) os t (file_at p) e h)
number_said at opened n (Within os) t (call.TextStart p) e h = ap (λ k. said k n (call.TextStart p)) (number_at_top at opened p (is_fresh p) (λ o out. OpenText p ∷ out) os t (fresh_at p) e h)
number_said at opened n (Within os) t (call.TextPiece p piece) e h = ap (λ k. said k n (call.TextPiece p piece)) (number_at_top at opened p (is_in_text p) (λ o out. o ∷ out) os t (text_at p) e h)
number_said at opened n (Within os) t (call.TextEnd p) e h = ap (λ k. said k n (call.TextEnd p)) (number_at_top at opened p (is_in_text p) (λ o out. TextDone p ∷ out) os t (text_at p) e h)
number_said at opened n (Within os) t (call.CloseFile p sum) e h = ap (λ k. said k n (call.CloseFile p sum)) (number_at_top at opened p (λ o. is_fresh p o || is_told p o) (λ o out. out) os t (closable_at p) e h)
number_said at opened n (Within os) t (call.CloseDir p) e h = ap (λ k. said k n (call.CloseDir p)) (number_at_top at opened p (is_dir p) (λ o out. out) os t (dir_at p) e h)
number_said at opened n s t c e h = cc

-- ---- the numbers after a call

-- the innermost thing becomes another at its path
renamed : (at : ℕ → ℕ) (opened : List Path) (p : Path) (test : Opened → Bool) (o : Opened) (os : List Opened) (s : Stage) → ((o : Opened) → test o ≡ true → path_of o ≡ p) → path_of o ≡ p → innermost test (λ x out. o ∷ out) os ≡ Some s → Numbered at opened os → Numbered at opened (open_at s)
renamed at opened p test o os s is same e h =
    let t = top test (λ x out. o ∷ out) os s e in
    let all : Numbered at opened (t.first ∷ t.rest) = subst (λ xs. Numbered at opened xs) t.are h in
    let one : path_of t.first ≡ path_of o = is t.first t.passes ∙ sym same in
    let new : Numbered at opened (o ∷ t.rest) = (ap (λ q. at (length q)) (sym one) ∙ all.0 ∙ ap (number_of opened) one, ap (λ q. list_all (λ x. nat_lt (length (path_of x)) (length q)) t.rest) (sym one) ∙ all.1, all.2) in
    subst (λ x. Numbered at opened (open_at x)) t.made new

-- it stays
stays : (at : ℕ → ℕ) (opened : List Path) (test : Opened → Bool) (os : List Opened) (s : Stage) → innermost test (λ x out. x ∷ out) os ≡ Some s → Numbered at opened os → Numbered at opened (open_at s)
stays at opened test os s e h =
    let t = top test (λ x out. x ∷ out) os s e in
    let all : Numbered at opened (t.first ∷ t.rest) = subst (λ xs. Numbered at opened xs) t.are h in
    subst (λ x. Numbered at opened (open_at x)) t.made all

-- it is closed
closed : (at : ℕ → ℕ) (opened : List Path) (test : Opened → Bool) (os : List Opened) (s : Stage) → innermost test (λ x out. out) os ≡ Some s → Numbered at opened os → Numbered at opened (open_at s)
closed at opened test os s e h =
    let t = top test (λ x out. out) os s e in
    let all : Numbered at opened (t.first ∷ t.rest) = subst (λ xs. Numbered at opened xs) t.are h in
    subst (λ x. Numbered at opened (open_at x)) t.made all.2

within_is : (x s : Stage) → Some x ≡ Some s → (at : ℕ → ℕ) (opened : List Path) → Numbered at opened (open_at x) → Numbered at opened (open_at s)
within_is x s e at opened h = subst (λ y. Numbered at opened (open_at y)) (some_is x s e) h

prop_stays : (b : Bool) (x s : Stage) → (if b then Some x else None) ≡ Some s → (at : ℕ → ℕ) (opened : List Path) → Numbered at opened (open_at x) → Numbered at opened (open_at s)
prop_stays true x s e at opened h = within_is x s e at opened h
prop_stays false x s e at opened h = cc

numbers_stay : (at : ℕ → ℕ) (opened : List Path) (s t : Stage) (c : Call) → opening c ≡ None → next s c ≡ Some t → Numbered at opened (open_at s) → Numbered at opened (open_at t)
numbers_stay at opened Before t (call.Target k) o e h = within_is Before t e at opened h
numbers_stay at opened (Within os) t (call.Target k) o e h = within_is (Within os) t e at opened h
numbers_stay at opened (Within os) t (call.DeleteEntry up p base) o e h = stays at opened (is_dir up) os t e h
numbers_stay at opened (Within os) t (call.DirProp p name value) o e h = prop_stays (list_any (is_dir p) os) (Within os) t e at opened h
numbers_stay at opened (Within os) t (call.FileProp p name value) o e h = stays at opened (λ o. is_fresh p o || is_in_text p o || is_told p o) os t e h
numbers_stay at opened (Within os) t (call.TextStart p) o e h = renamed at opened p (is_fresh p) (OpenText p) os t (fresh_at p) refl e h
numbers_stay at opened (Within os) t (call.TextPiece p piece) o e h = stays at opened (is_in_text p) os t e h
numbers_stay at opened (Within os) t (call.TextEnd p) o e h = renamed at opened p (is_in_text p) (TextDone p) os t (text_at p) refl e h
numbers_stay at opened (Within os) t (call.CloseFile p sum) o e h = closed at opened (λ o. is_fresh p o || is_told p o) os t e h
numbers_stay at opened (Within os) t (call.CloseDir p) o e h = closed at opened (is_dir p) os t e h
numbers_stay at opened (Within []) t call.CloseEdit o e h = within_is After t e at opened tt
numbers_stay at opened s t c o e h = cc

-- ---- what was opened last

-- the number at a length is new, and the others stay
abbrev pub Gives : (ℕ → ℕ) → (ℕ → ℕ) → ℕ → ℕ → Type 0
Gives old new k n = (d : ℕ) → new d ≡ (if nat_eq d k then n else old d)

chosen_same : (k n m : ℕ) → (if nat_eq k k then n else m) ≡ n
chosen_same k n m = ap (λ b. if b then n else m) (eq-eqb k k refl)

other_length : (d k : ℕ) → nat_lt d k ≡ true → nat_eq d k ≡ false
other_length d k h = grind arith

chosen_other : (d k n m : ℕ) → nat_lt d k ≡ true → (if nat_eq d k then n else m) ≡ m
chosen_other d k n m h = ap (λ b. if b then n else m) (other_length d k h)

pub not_true_false : (b : Bool) → (b ≡ true → ⊥) → b ≡ false
not_true_false true h = absurd (h refl)
not_true_false false h = refl

pub shorter_other : (p q : Path) → nat_lt (length q) (length p) ≡ true → same_path p q ≡ false
shorter_other p q h = not_true_false (same_path p q) (λ e. below (length q) (length p) h (ap length (path_of_same p q e)))
  where
    below : (a b : ℕ) → nat_lt a b ≡ true → b ≡ a → ⊥
    below a b k e = grind arith

pub both : (a b : Bool) → (a && b) ≡ true → (a ≡ true) × (b ≡ true)
both true b e = (refl, e)
both false b e = cc

-- what has fewer names keeps its number
keeps : (old new : ℕ → ℕ) (opened : List Path) (p : Path) (n : ℕ) (os : List Opened) → Gives old new (length p) n → list_all (λ x. nat_lt (length (path_of x)) (length p)) os ≡ true → Numbered old opened os → Numbered new (p ∷ opened) os
keeps old new opened p n [] g a h = tt
keeps old new opened p n (o ∷ os) g a h =
    let ab = both (nat_lt (length (path_of o)) (length p)) (list_all (λ x. nat_lt (length (path_of x)) (length p)) os) a in
    let here : new (length (path_of o)) ≡ old (length (path_of o)) = g (length (path_of o)) ∙ chosen_other (length (path_of o)) (length p) n (old (length (path_of o))) ab.0 in
    let there : number_of opened (path_of o) ≡ number_of (p ∷ opened) (path_of o) = sym (ap (λ b. if b then length opened else number_of opened (path_of o)) (shorter_other p (path_of o) ab.0)) in
    (here ∙ h.0 ∙ there, h.1, keeps old new opened p n os g ab.1 h.2)

-- what is shorter than something is shorter than what is longer
longer : (k m : ℕ) (os : List Opened) → nat_lt k m ≡ true → list_all (λ x. nat_lt (length (path_of x)) k) os ≡ true → list_all (λ x. nat_lt (length (path_of x)) m) os ≡ true
longer k m [] h a = refl
longer k m (o ∷ os) h a =
    let ab = both (nat_lt (length (path_of o)) k) (list_all (λ x. nat_lt (length (path_of x)) k) os) a in
    ap₂ (λ x y. x && y) (less (length (path_of o)) k m ab.0 h) (longer k m os h ab.1)
  where
    less : (a b c : ℕ) → nat_lt a b ≡ true → nat_lt b c ≡ true → nat_lt a c ≡ true
    less a b c h k = grind arith

-- what is opened has its number
own_number : (old new : ℕ → ℕ) (opened : List Path) (p : Path) (n : ℕ) → Gives old new (length p) n → n ≡ length opened → IsNumber new (p ∷ opened) p
own_number old new opened p n g e = g (length p) ∙ chosen_same (length p) n (old (length p)) ∙ e ∙ sym (ap (λ b. if b then length opened else number_of opened p) (same_path_itself p))

opened_below : (old new : ℕ → ℕ) (opened : List Path) (up p : Path) (n : ℕ) (child : Opened) (os : List Opened) (s : Stage) → path_of child ≡ p → Gives old new (length p) n → n ≡ length opened → nat_lt (length up) (length p) ≡ true → innermost (is_dir up) (λ o out. child ∷ o ∷ out) os ≡ Some s → Numbered old opened os → Numbered new (p ∷ opened) (open_at s)
opened_below old new opened up p n child os s is g e d i h =
    let t = top (is_dir up) (λ o out. child ∷ o ∷ out) os s i in
    let all : Numbered old opened (t.first ∷ t.rest) = subst (λ xs. Numbered old opened xs) t.are h in
    let shorter : nat_lt (length (path_of t.first)) (length p) ≡ true = ap (λ q. nat_lt (length q) (length p)) (dir_at up t.first t.passes) ∙ d in
    let around : list_all (λ x. nat_lt (length (path_of x)) (length p)) (t.first ∷ t.rest) ≡ true = ap₂ (λ x y. x && y) shorter (longer (length (path_of t.first)) (length p) t.rest shorter all.1) in
    let kept : Numbered new (p ∷ opened) (t.first ∷ t.rest) = keeps old new opened p n (t.first ∷ t.rest) g around all in
    let own : new (length (path_of child)) ≡ number_of (p ∷ opened) (path_of child) = subst (λ q. IsNumber new (p ∷ opened) q) (sym is) (own_number old new opened p n g e) in
    let long : list_all (λ x. nat_lt (length (path_of x)) (length (path_of child))) (t.first ∷ t.rest) ≡ true = ap (λ q. list_all (λ x. nat_lt (length (path_of x)) (length q)) (t.first ∷ t.rest)) is ∙ around in
    let made : Numbered new (p ∷ opened) (child ∷ t.first ∷ t.rest) = (own, long, kept) in
    subst (λ x. Numbered new (p ∷ opened) (open_at x)) t.made made

numbers_grow : (old new : ℕ → ℕ) (opened : List Path) (p : Path) (n : ℕ) (s t : Stage) (c : Call) → opening c ≡ Some p → Gives old new (length p) n → n ≡ length opened → is_deeper c ≡ true → next s c ≡ Some t → Numbered old opened (open_at s) → Numbered new (p ∷ opened) (open_at t)
numbers_grow old new opened p n Before t (call.OpenRoot base) o g e d i h =
    let root : [] ≡ p = some_is [] p o in
    let one : Numbered new ([] ∷ opened) (OpenDir [] ∷ []) = (own_number old new opened [] n (subst (λ q. Gives old new (length q) n) (sym root) g) e, refl, tt) in
    subst (λ q. Numbered new (q ∷ opened) (open_at t)) root (within_is (Within (OpenDir [] ∷ [])) t i new ([] ∷ opened) one)
numbers_grow old new opened p n (Within os) t (call.AddDir up q from) o g e d i h =
    let same : q ≡ p = some_is q p o in
    opened_below old new opened up p n (OpenDir q) os t same g e (ap (λ x. nat_lt (length up) (length x)) (sym same) ∙ d) i h
numbers_grow old new opened p n (Within os) t (call.OpenDir up q base) o g e d i h =
    let same : q ≡ p = some_is q p o in
    opened_below old new opened up p n (OpenDir q) os t same g e (ap (λ x. nat_lt (length up) (length x)) (sym same) ∙ d) i h
numbers_grow old new opened p n (Within os) t (call.AddFile up q from) o g e d i h =
    let same : q ≡ p = some_is q p o in
    opened_below old new opened up p n (OpenFile q) os t same g e (ap (λ x. nat_lt (length up) (length x)) (sym same) ∙ d) i h
numbers_grow old new opened p n (Within os) t (call.OpenFile up q base) o g e d i h =
    let same : q ≡ p = some_is q p o in
    opened_below old new opened up p n (OpenFile q) os t same g e (ap (λ x. nat_lt (length up) (length x)) (sym same) ∙ d) i h
numbers_grow old new opened p n s t c o g e d i h = cc

-- ---- calls and one more

-- a run up to the last call
record Cut (calls : List Call) (c : Call) (start end : Stage) : Type 0 where
  pub mid : Stage
  pub before : run start calls ≡ Some mid
  pub last : next mid c ≡ Some end

cut : (calls : List Call) (c : Call) (start end : Stage) → run start (calls ++ c ∷ []) ≡ Some end → Cut calls c start end
cut [] c start end e = by (next start c) refl e
  where
    by : (o : Option Stage) → next start c ≡ o → option_and_then (λ t. run t []) o ≡ Some end → Cut [] c start end
    by None i h = cc
    by (Some t) i h = record { mid = start; before = refl; last = i ∙ h }
cut (d ∷ calls) c start end e = by (next start d) refl e (λ t h. cut calls c t end h)
  where
    by : (o : Option Stage) → next start d ≡ o → option_and_then (λ t. run t (calls ++ c ∷ [])) o ≡ Some end → ((t : Stage) → run t (calls ++ c ∷ []) ≡ Some end → Cut calls c t end) → Cut (d ∷ calls) c start end
    by None i h later = cc
    by (Some t) i h later = let r = later t h in record { mid = r.mid; before = ap (λ o. option_and_then (λ t. run t calls) o) i ∙ r.before; last = r.last }

deeper_cut : (calls : List Call) (c : Call) → AllDeeper (calls ++ c ∷ []) → AllDeeper calls × (is_deeper c ≡ true)
deeper_cut [] c h = (refl, (both (is_deeper c) true h).0)
deeper_cut (d ∷ calls) c h =
    let ab = both (is_deeper d) (list_all is_deeper (calls ++ c ∷ [])) h in
    let r = deeper_cut calls c ab.1 in
    (ap₂ (λ x y. x && y) ab.0 r.0, r.1)

opened_more : (opened : List Path) (calls : List Call) (c : Call) → opened_after opened (calls ++ c ∷ []) ≡ with_opening (opened_after opened calls) (opening c)
opened_more opened [] c = refl
opened_more opened (d ∷ calls) c = opened_more (with_opening opened (opening d)) calls c

spell_join : (xs ys : List Item) → spell_all (row (xs ++ ys)) ≡ spell_all (row xs) ++ spell_all (row ys)
spell_join [] ys = refl
spell_join (x ∷ xs) ys = ap (λ t. spell x ++ t) (spell_join xs ys) ∙ sym (append_assoc (spell x) (spell_all (row xs)) (spell_all (row ys)))

spelled_more : (opened : List Path) (calls : List Call) (c : Call) → spelled_after opened (calls ++ c ∷ []) ≡ spelled_after opened calls ++ spelled (opened_after opened calls) c
spelled_more opened [] c = append-nil (spelled opened c)
spelled_more opened (d ∷ calls) c =
    ap (λ t. spelled opened d ++ t) (spelled_more (with_opening opened (opening d)) calls c)
    ∙ sym (append_assoc (spelled opened d) (spelled_after (with_opening opened (opening d)) calls) (spelled (opened_after (with_opening opened (opening d)) calls) c))

bytes_more : (calls : List Call) (c : Call) → edit_bytes (calls ++ c ∷ []) ≡ edit_bytes calls ++ spell_all (row (spelled (opened_after [] calls) c))
bytes_more calls c = ap (λ t. spell_all (row t)) (spelled_more [] calls c) ∙ spell_join (spelled_after [] calls) (spelled (opened_after [] calls) c)

-- what goes through an empty buffer
through : (x mid y : Option (List ℕ)) (b d bytes : List ℕ) → b ≡ [] → d ≡ [] → Appends (append_known x b) mid bytes → Keeps mid (append_known y d) → Appends x y bytes
through None mid y b d bytes e f h k = tt
through (Some x) None y b d bytes e f h k = absurd h
through (Some x) (Some m) None b d bytes e f h k = absurd k
through (Some x) (Some m) (Some y) b d bytes e f h k = sym (append-nil y) ∙ ap (λ t. y ++ t) (sym f) ∙ k ∙ h ∙ ap (λ t. (x ++ t) ++ bytes) e ∙ ap (λ t. t ++ bytes) (append-nil x)

-- the bytes of one call more
told_bytes : {T : Type 0} (contents : T → Option (List ℕ)) (old : WireEditor T) (calls : List Call) (c : Call) (s t : Stage) (out : Option (List ℕ)) (bytes : List ℕ) → Stands contents old calls s → next s c ≡ Some t → bytes ≡ spell_all (row (said (newest old.tokens (length (acted c))) old.tokens.next c)) → Appends (contents (writer_inner old.out)) out bytes → Appends (contents old.start.value) out (edit_bytes (calls ++ c ∷ []))
told_bytes contents old calls c s t out bytes st e is a =
    let opened = opened_after [] calls in
    let said_is : said (newest old.tokens (length (acted c))) old.tokens.next c ≡ spelled opened c =
    ap (λ n. said (newest old.tokens (length (acted c))) n c) st.next ∙ number_said (newest old.tokens) opened (length opened) s t c e st.numbers ∙ sym (spelled_said opened c)
    in
    let all = appends_join (contents old.start.value) (contents (writer_inner old.out)) out (edit_bytes calls) bytes st.bytes a in
    subst (λ bs. Appends (contents old.start.value) out bs) (ap (λ t. edit_bytes calls ++ t) (is ∙ ap (λ t. spell_all (row t)) said_is) ∙ sym (bytes_more calls c)) all

-- a call that opens nothing
pub told : {T : Type 0} (contents : T → Option (List ℕ)) (old new : WireEditor T) (c : Call) (mid : Option (List ℕ)) (bytes : List ℕ) → opening c ≡ None → new.start.value ≡ old.start.value → new.tokens ≡ old.tokens → bytes ≡ spell_all (row (said (newest old.tokens (length (acted c))) old.tokens.next c)) → Appends (writer_contents contents old.out) mid bytes → Keeps mid (writer_contents contents new.out) → writer_buffer new.out ≡ [] → Adds (Shows contents) old new (c ∷ [])
told contents old new c mid bytes o st tk is a k w = λ calls h t e d.
    let r = cut calls c Before t e in
    let dd = deeper_cut calls c d in
    let s = h r.mid r.before dd.0 in
    let opened_same : opened_after [] (calls ++ c ∷ []) ≡ opened_after [] calls = opened_more [] calls c ∙ ap (with_opening (opened_after [] calls)) o in
    let b = told_bytes contents old calls c r.mid t (contents (writer_inner new.out)) bytes s r.last is (through (contents (writer_inner old.out)) mid (contents (writer_inner new.out)) (writer_buffer old.out) (writer_buffer new.out) bytes s.none_waits w a k) in
    record {
      bytes = subst (λ v. Appends (contents v) (contents (writer_inner new.out)) (edit_bytes (calls ++ c ∷ []))) (sym st) b;
      none_waits = w;
      next = ap (λ x. x.next) tk ∙ s.next ∙ ap length (sym opened_same);
      numbers = subst (λ x. Numbered (newest x) (opened_after [] (calls ++ c ∷ [])) (open_at t)) (sym tk) (subst (λ x. Numbered (newest old.tokens) x (open_at t)) (sym opened_same) (numbers_stay (newest old.tokens) (opened_after [] calls) r.mid t c o r.last s.numbers));
    }

-- a call that opens something
pub told_open : {T : Type 0} (contents : T → Option (List ℕ)) (old new : WireEditor T) (c : Call) (p : Path) (mid : Option (List ℕ)) (bytes : List ℕ) → opening c ≡ Some p → new.start.value ≡ old.start.value → new.tokens.next ≡ old.tokens.next + 1 → Gives (newest old.tokens) (newest new.tokens) (length p) old.tokens.next → bytes ≡ spell_all (row (said (newest old.tokens (length (acted c))) old.tokens.next c)) → Appends (writer_contents contents old.out) mid bytes → Keeps mid (writer_contents contents new.out) → writer_buffer new.out ≡ [] → Adds (Shows contents) old new (c ∷ [])
told_open contents old new c p mid bytes o st tk g is a k w = λ calls h t e d.
    let r = cut calls c Before t e in
    let dd = deeper_cut calls c d in
    let s = h r.mid r.before dd.0 in
    let opened_one : opened_after [] (calls ++ c ∷ []) ≡ p ∷ opened_after [] calls = opened_more [] calls c ∙ ap (with_opening (opened_after [] calls)) o in
    let b = told_bytes contents old calls c r.mid t (contents (writer_inner new.out)) bytes s r.last is (through (contents (writer_inner old.out)) mid (contents (writer_inner new.out)) (writer_buffer old.out) (writer_buffer new.out) bytes s.none_waits w a k) in
    record {
      bytes = subst (λ v. Appends (contents v) (contents (writer_inner new.out)) (edit_bytes (calls ++ c ∷ []))) (sym st) b;
      none_waits = w;
      next = tk ∙ ap (λ n. n + 1) s.next ∙ one_more (length (opened_after [] calls)) ∙ ap length (sym opened_one);
      numbers = subst (λ x. Numbered (newest new.tokens) x (open_at t)) (sym opened_one) (numbers_grow (newest old.tokens) (newest new.tokens) (opened_after [] calls) p old.tokens.next r.mid t c o g s.next dd.1 r.last s.numbers);
    }
  where
    one_more : (n : ℕ) → n + 1 ≡ suc n
    one_more n = omega arith

-- an answer, where the command was whole and went out
pub answered : {A E F : Type 0} (w : Result A E) (r : Result A F) (P Q R S : Type 0) → OnOk w P → OnOk r (IsOk w) → OnOk r Q → OnOk r R → (P → Q → R → S) → OnOk r S
answered w (Err f) P Q R S x y z u h = tt
answered (Ok a) (Ok b) P Q R S x y z u h = h x z u
answered (Err e) (Ok b) P Q R S x y z u h = cc

abbrev pub with_out : {T : Type 0} → WireEditor T → BufWriter T Global → WireEditor T
with_out e out = record { alloc = e.alloc; out = out; start = e.start; tokens = e.tokens }

-- a call of one item that opens nothing
pub tell : {T A E F : Type 0} (contents : T → Option (List ℕ)) (old : WireEditor T) (out : BufWriter T Global) (c : Call) (w : Result A E) (r : Result A F) (mid : Option (List ℕ)) (t : ℕ) (bytes : List ℕ) → opening c ≡ None → spell_all (row (said t old.tokens.next c)) ≡ bytes ++ [] → t ≡ newest old.tokens (length (acted c)) → OnOk w (Appends (writer_contents contents old.out) mid bytes) → OnOk r (IsOk w) → OnOk r (Keeps mid (writer_contents contents out)) → OnOk r (writer_buffer out ≡ []) → OnOk r (Adds (Shows contents) old (with_out old out) (c ∷ []))
tell contents old out c w r mid t bytes o is named a whole kept none =
    answered w r (Appends (writer_contents contents old.out) mid bytes) (Keeps mid (writer_contents contents out)) (writer_buffer out ≡ []) (Adds (Shows contents) old (with_out old out) (c ∷ [])) a whole kept none (λ x y z.
    told contents old (with_out old out) c mid bytes o refl refl (sym (append-nil bytes) ∙ sym is ∙ ap (λ k. spell_all (row (said k old.tokens.next c))) named) x y z)

on_ok : {A E : Type 0} (w : Result A E) (P : Type 0) → OnOk w P → IsOk w → P
on_ok (Ok a) P h k = h
on_ok (Err e) P h k = cc

abbrev pub with_both : {T : Type 0} → WireEditor T → BufWriter T Global → Tokens → WireEditor T
with_both e out tokens = record { alloc = e.alloc; out = out; start = e.start; tokens = tokens }

-- a call of one item that opens something
pub tell_open : {T A E : Type 0} (contents : T → Option (List ℕ)) (old : WireEditor T) (out : BufWriter T Global) (tokens : Tokens) (c : Call) (p q : Path) (w : Result A E) (mid : Option (List ℕ)) (t child : ℕ) (bytes : List ℕ) → opening c ≡ Some p → q ≡ p → spell_all (row (said t child c)) ≡ bytes ++ [] → t ≡ newest old.tokens (length (acted c)) → child ≡ old.tokens.next → tokens.next ≡ child + 1 → Gives (newest old.tokens) (newest tokens) (length q) child → OnOk w (Appends (writer_contents contents old.out) mid bytes) → IsOk w → Keeps mid (writer_contents contents out) → writer_buffer out ≡ [] → Adds (Shows contents) old (with_both old out tokens) (c ∷ [])
tell_open {A = A} {E = E} contents old out tokens c p q w mid t child bytes o same is named first grows g a whole kept none =
    told_open contents old (with_both old out tokens) c p mid bytes o refl (grows ∙ ap (λ n. n + 1) first) (subst (λ n. Gives (newest old.tokens) (newest tokens) (length p) n) first (subst (λ x. Gives (newest old.tokens) (newest tokens) (length x) child) same g)) (sym (append-nil bytes) ∙ sym is ∙ ap₂ (λ k n. spell_all (row (said k n c))) named first) (on_ok {A = A} {E = E} w (Appends (writer_contents contents old.out) mid bytes) a whole) kept none

-- the end
pub tell_end : {T A E : Type 0} (contents : T → Option (List ℕ)) (old : WireEditor T) (out : BufWriter T Global) (inner : T) (w : Result A E) (mid : Option (List ℕ)) (bytes : List ℕ) → inner ≡ writer_inner out → spell_all (row (said 0 0 call.CloseEdit)) ≡ bytes ++ [] → OnOk w (Appends (writer_contents contents old.out) mid bytes) → IsOk w → Keeps mid (writer_contents contents out) → writer_buffer out ≡ [] → (calls : List Call) → Shows contents old calls → IsNested (calls ++ call.CloseEdit ∷ []) → AllDeeper (calls ++ call.CloseEdit ∷ []) → Appends (contents old.start.value) (contents inner) (edit_bytes (calls ++ call.CloseEdit ∷ []))
tell_end {A = A} {E = E} contents old out inner w mid bytes same is a whole kept none calls h nested deeper =
    let all = told contents old (with_out old out) call.CloseEdit mid bytes refl refl refl (sym (append-nil bytes) ∙ sym is) (on_ok {A = A} {E = E} w (Appends (writer_contents contents old.out) mid bytes) a whole) kept none calls h After nested deeper in
    subst (λ x. Appends (contents old.start.value) (contents x) (edit_bytes (calls ++ call.CloseEdit ∷ []))) (sym same) all.bytes
