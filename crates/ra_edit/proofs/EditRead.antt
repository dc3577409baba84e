-- The items that are written for an edit are that edit.
use Rattle.std.proofs.Common.{◌≡◌, ℕ, zero, suc, ◌+◌, ◌-◌, ◌<◌, ◌≤◌, ◌^◌, nat_lt, Bool, true, false, not, ◌&&◌, ◌||◌, List, [], ◌∷◌, ◌++◌, map, length, take, drop, inr, Option, Some, None, refl, sym, ap, ap₂, subst, ◌∙◌, append_assoc, append-nil, arith, if◌then◌else◌, length-append, length-take, take-append-drop}
use Rattle.std.specs.Prelude.{⊤}
use Rattle.std.specs.Option.{option_and_then}
use Rattle.std.specs.List.{list_any, list_all, concat}
use Rattle.std.proofs.lemmas.Fmt.{decimal_injective}
use Rattle.std.proofs.lemmas.List.{length-drop}
use Rattle.hex.specs.Hex.{encode_lower, lower_digits}
use Rattle.hex.proofs.HexLemmas.{decode_of-encode_lower, decode_sized-twice, length-encode_with}
use Rattle.ra_item.specs.Items.{Item, Text}
use Rattle.node_base.specs.Path.{Path, same_path, same_name}
use Rattle.node_base.specs.PathText.{path_text}
use Rattle.node_base.specs.declared.node.Source.{Source}
use Rattle.svndiff.specs.declared.limits.TheConstants.{TEXT_BYTES}
use Rattle.node_base.proofs.PathLemmas.{same_path_itself, path_of_same, name_of_same}
use Rattle.delta_editor.specs.declared.call.Call.{Call}
use Rattle.delta_editor.specs.declared.call.Call.TheVariants as call
use Rattle.delta_editor.specs.Nesting.{Opened, OpenDir, Stage, After, is_dir, run}
use Rattle.ra_edit.specs.Commands.{revision, string, source, sum_text, token, number_of, chunk, parts_within}
use Rattle.ra_edit.specs.Edits.{IsRevision, IsString, IsSum, IsSource, Held, Dir, Named, named, is_free, IsOpenDir, At, Inside, Ended, AllSay, Then}
use Rattle.ra_edit.specs.Edits as edits
use Rattle.ra_edit.specs.EditLaws.{IsRev, IsFrom, IsWithin}
use Rattle.svndiff.specs.Spelling.{window}
use Rattle.svndiff.specs.Streams.{reading, Reads}
use Rattle.svndiff.specs.declared.reading.Place.TheVariants as at
use Rattle.svndiff.specs.declared.reading.Reading.{Reading}
use Rattle.svndiff.proofs.Read.{window_read, window_pieces}
use Rattle.svndiff.proofs.Spelled.{window_is}
use Rattle.ra_edit.proofs.Told.{both, not_true_false, shorter_other}

-- ---- what stands in brackets

pub revision_is : (base : Option ℕ) → IsRev base → IsRevision base (revision base)
revision_is None h = refl
revision_is (Some n) h = ([], h, refl)

pub string_is : (value : Option (List ℕ)) → IsString value (string value)
string_is None = refl
string_is (Some s) = ([], refl)

pub source_is : (from : Option Source) → IsFrom from → IsSource from (source from)
source_is None h = refl
source_is (Some s) h = (path_text s.path, [], h.0, h.1, inr refl)

pub sum_is : (p : Path) (sum : Option (List ℕ)) → IsWithin (call.CloseFile p sum) → IsSum sum (string (sum_text sum))
sum_is p None h = refl
sum_is p (Some s) h =
    let twice = length-encode_with lower_digits s in
    (encode_lower s, [], decode_sized-twice (encode_lower s) 16 (omega (arith, twice, h.0)) ∙ decode_of-encode_lower s h.1, refl)

-- ---- what is open

abbrev pub open_dirs : List Path → List Opened
open_dirs ds = map OpenDir ds

abbrev pub dirs : List Path → List Path → List Named
dirs opened ds = map (λ d. named (token (number_of opened d)) d Dir) ds

abbrev pub Shorter : Path → List Path → Type 0
Shorter p ds = list_all (λ q. nat_lt (length q) (length p)) ds ≡ true

-- each open directory has a number, and more names than those around it
abbrev pub Fine : List Path → List Path → Type 0
Fine opened [] = ⊤
Fine opened (d ∷ ds) = (number_of opened d < length opened) × Shorter d ds × Fine opened ds

pub number_kept : (opened : List Path) (p d : Path) → nat_lt (length d) (length p) ≡ true → number_of (p ∷ opened) d ≡ number_of opened d
number_kept opened p d h = ap (λ b. if b then length opened else number_of opened d) (shorter_other p d h)

pub dirs_kept : (opened : List Path) (p : Path) (ds : List Path) → Shorter p ds → dirs (p ∷ opened) ds ≡ dirs opened ds
dirs_kept opened p [] h = refl
dirs_kept opened p (d ∷ ds) h =
    let ab = both (nat_lt (length d) (length p)) (list_all (λ q. nat_lt (length q) (length p)) ds) h in
    ap₂ (λ n xs. named (token n) d Dir ∷ xs) (number_kept opened p d ab.0) (dirs_kept opened p ds ab.1)

pub fine_kept : (opened : List Path) (p : Path) (ds : List Path) → Shorter p ds → Fine opened ds → Fine (p ∷ opened) ds
fine_kept opened p [] h f = tt
fine_kept opened p (d ∷ ds) h f =
    let ab = both (nat_lt (length d) (length p)) (list_all (λ q. nat_lt (length q) (length p)) ds) h in
    (omega (arith, number_kept opened p d ab.0, f.0), f.1, fine_kept opened p ds ab.1 f.2)

pub own : (opened : List Path) (p : Path) → number_of (p ∷ opened) p ≡ length opened
own opened p = ap (λ b. if b then length opened else number_of opened p) (same_path_itself p)

pub fine_grown : (opened : List Path) (p : Path) (ds : List Path) → Shorter p ds → Fine opened ds → Fine (p ∷ opened) (p ∷ ds)
fine_grown opened p ds h f = (omega (arith, own opened p), h, fine_kept opened p ds h f)

-- what is opened is in front of what was open
pub grown : (opened : List Path) (p : Path) (held : Held) (ds : List Path) → Shorter p ds → named (token (number_of (p ∷ opened) p)) p held ∷ dirs (p ∷ opened) ds ≡ named (token (length opened)) p held ∷ dirs opened ds
grown opened p held ds h = ap₂ (λ n xs. named (token n) p held ∷ xs) (own opened p) (dirs_kept opened p ds h)

abbrev pub tail_of : List ℕ → List ℕ
tail_of [] = []
tail_of (b ∷ bs) = bs

pub other_token : (m n : ℕ) → m < n → n < 2 ^ 64 → same_name (token m) (token n) ≡ false
other_token m n h k = not_true_false (same_name (token m) (token n)) (λ e. absurd_less m n h (decimal_injective m n (omega (arith, h, k)) k (ap tail_of (name_of_same (token m) (token n) e))))
  where
    absurd_less : (a b : ℕ) → a < b → a ≡ b → ⊥
    absurd_less a b h e = omega (arith, h, e)

-- the next token isn't in use
pub free : (opened ds : List Path) → length opened < 2 ^ 64 → Fine opened ds → is_free (token (length opened)) (dirs opened ds) ≡ true
free opened [] k f = refl
free opened (d ∷ ds) k f = ap₂ (λ x y. not x && y) (other_token (number_of opened d) (length opened) f.0 k) (free opened ds k f.2)

-- an open directory has its token
pub is_open : (opened : List Path) (p : Path) (ds : List Path) → list_any (is_dir p) (open_dirs ds) ≡ true → IsOpenDir (token (number_of opened p)) p (dirs opened ds)
is_open opened p [] e = cc
is_open opened p (d ∷ ds) e = by (same_path p d) refl e (λ k. is_open opened p ds k)
  where
    by : (b : Bool) → same_path p d ≡ b → (b || list_any (is_dir p) (open_dirs ds)) ≡ true → (list_any (is_dir p) (open_dirs ds) ≡ true → IsOpenDir (token (number_of opened p)) p (dirs opened ds)) → IsOpenDir (token (number_of opened p)) p (dirs opened (d ∷ ds))
    by true t k later = ([], dirs opened ds, ap (λ x. named (token (number_of opened x)) x Dir ∷ dirs opened ds) (sym (path_of_same p d t)))
    by false t k later = let r = later k in (named (token (number_of opened d)) d Dir ∷ r.0, r.1, ap (λ xs. named (token (number_of opened d)) d Dir ∷ xs) r.2)

pub behind : (x : Named) (token : List ℕ) (p : Path) (os : List Named) → IsOpenDir token p os → IsOpenDir token p (x ∷ os)
behind x token p os r = (x ∷ r.0, r.1, ap (λ xs. x ∷ xs) r.2)

-- ---- a call that may come

pub ran : (b : Bool) (s : Stage) (cs : List Call) → option_and_then (λ t. run t cs) (if b then Some s else None) ≡ Some After → (b ≡ true) × (run s cs ≡ Some After)
ran true s cs e = (refl, e)
ran false s cs e = cc

pub shorter_all : (p d : Path) (ds : List Path) → nat_lt (length d) (length p) ≡ true → Shorter d ds → Shorter p ds
shorter_all p d [] h s = refl
shorter_all p d (q ∷ ds) h s =
    let ab = both (nat_lt (length q) (length d)) (list_all (λ x. nat_lt (length x) (length d)) ds) s in
    ap₂ (λ x y. x && y) (less (length q) (length d) (length p) ab.0 h) (shorter_all p d ds h ab.1)
  where
    less : (a b c : ℕ) → nat_lt a b ≡ true → nat_lt b c ≡ true → nat_lt a c ≡ true
    less a b c h k = grind arith

-- what is opened below the innermost directory is longer than all that is open
pub below : (up p d : Path) (ds : List Path) → up ≡ d → nat_lt (length up) (length p) ≡ true → Shorter d ds → Shorter p (d ∷ ds)
below up p d ds e h s =
    let one : nat_lt (length d) (length p) ≡ true = ap (λ x. nat_lt (length x) (length p)) (sym e) ∙ h in
    ap₂ (λ x y. x && y) one (shorter_all p d ds one s)

-- ---- pieces of a text

-- each part has one byte or more, and at most 65,536
abbrev pub AreParts : List (List ℕ) → Type 0
AreParts [] = ⊤
AreParts (x ∷ xs) = (0 < length x) × (length x ≤ 65536) × AreParts xs

pub take_some : (k : ℕ) (text : List ℕ) → 0 < k → 0 < length text → (0 < length (take k text)) × (length (take k text) ≤ k)
take_some k text some h = (omega (arith, length-take k text, some, h), omega (arith, length-take k text))

pub parts_are : (k : ℕ) (text : List ℕ) → length text ≤ k → AreParts (parts_within k text)
parts_are zero [] h = tt
parts_are zero (b ∷ text) h = absurd (omega (arith, h))
parts_are (suc k) [] h = tt
parts_are (suc k) (b ∷ text) h =
    let d = length-drop 65536 (b ∷ text) in
    let s = take_some 65536 (b ∷ text) (omega arith) (omega arith) in
    (s.0, s.1, parts_are k (drop 65536 (b ∷ text)) (omega (arith, d, h)))

pub parts_join : (k : ℕ) (text : List ℕ) → length text ≤ k → concat (parts_within k text) ≡ text
parts_join zero [] h = refl
parts_join zero (b ∷ text) h = absurd (omega (arith, h))
parts_join (suc k) [] h = refl
parts_join (suc k) (b ∷ text) h =
    let d = length-drop 65536 (b ∷ text) in
    ap (λ t. take 65536 (b ∷ text) ++ t) (parts_join k (drop 65536 (b ∷ text)) (omega (arith, d, h))) ∙ take-append-drop 65536 (b ∷ text)

abbrev pub Awaits : List ℕ → Reading → Type 0
Awaits text r = (r.place ≡ at.Between) × (r.room ≡ TEXT_BYTES - length text)

abbrev pub in_text : List ℕ → Path → List ℕ → Reading → List Named → At
in_text t f text r os = Inside (named t f (edits.Within text r) ∷ os)

pub pieces_say : (t : List ℕ) (f : Path) (os : List Named) (text : List ℕ) (r : Reading) (ps : List (List ℕ)) (items : List Item) (rest : List Call) → AreParts ps → Awaits text r → length (text ++ concat ps) ≤ TEXT_BYTES → ((new : Reading) → Awaits (text ++ concat ps) new → AllSay (in_text t f (text ++ concat ps) new os) items rest Ended) → AllSay (in_text t f text r os) (map (λ part. chunk (Text t) (window part)) ps ++ items) (map (call.TextPiece f) ps ++ rest) Ended
pieces_say t f os text r [] items rest a w h then_say = subst (λ x. AllSay (in_text t f x r os) items rest Ended) (append-nil text) (then_say r (w.0, w.1 ∙ ap (λ x. TEXT_BYTES - length x) (sym (append-nil text))))
pieces_say t f os text r (part ∷ ps) items rest a w h then_say =
    let join : (text ++ (part ++ [])) ++ concat ps ≡ text ++ (part ++ concat ps) = ap (λ x. (text ++ x) ++ concat ps) (append-nil part) ∙ append_assoc text part (concat ps) in
    let l1 = length-append text (part ++ concat ps) in
    let l2 = length-append part (concat ps) in
    let l3 = length-append text (part ++ []) in
    let l4 = length-append part [] in
    let run = window_read text (window part) part [] r w.0 (window_is part a.0 a.1) (omega (arith, w.1, h, l1, l2)) in
    let reads : reading (Reads text r) (window part) ≡ Reads (text ++ (part ++ [])) run.0 = ap (reading (Reads text r)) (sym (append-nil (window part))) ∙ run.3 ∙ ap (λ x. Reads (text ++ x) run.0) (sym (append-nil part)) in
    let behind_it : Awaits (text ++ (part ++ [])) run.0 = (run.1, omega (arith, run.2, w.1, l3, l4)) in
    Then (in_text t f text r os) (in_text t f (text ++ (part ++ [])) run.0 os) Ended (chunk (Text t) (window part)) (map (λ part. chunk (Text t) (window part)) ps ++ items) (call.TextPiece f part ∷ []) (map (call.TextPiece f) ps ++ rest)
    (edits.Chunk t f os text (window part) r run.0 (part ∷ []) (chunk (Text t) (window part)) reads (sym (window_pieces (window part) part r w.0 (window_is part a.0 a.1) a.0 (omega (arith, w.1, h, l1, l2)))) ([], [], refl))
    (pieces_say t f os (text ++ (part ++ [])) run.0 ps items rest a.2 behind_it (subst (λ x. length x ≤ TEXT_BYTES) (sym join) h) (λ new aw. subst (λ x. AllSay (in_text t f x new os) items rest Ended) (sym join) (then_say new (subst (λ x. Awaits x new) join aw))))

-- ---- calls one after another

abbrev pub room_for : List Path → List Call → Type 0
room_for opened cs = length opened + length cs ≤ 2 ^ 64
