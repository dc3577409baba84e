-- What the commands of a text say, and what the others leave of the innermost open thing.
use Rattle.std.proofs.Common.{◌≡◌, ◌⊎◌, ◌==◌, inl, inr, ℕ, Bool, true, false, List, [], ◌∷◌, ◌++◌, map, refl, sym, ap, subst, ◌∙◌, arith}
use Rattle.std.proofs.lemmas.Bool.Decides.{nat_tests}
use Rattle.std.specs.List.{concat}
use Rattle.ra_item.specs.Items.{Item, Items, End, Then, Word, Number, Text, Nested}
use Rattle.node_base.specs.Path.{Path}
use Rattle.delta_editor.specs.declared.call.Call.{Call}
use Rattle.delta_editor.specs.declared.call.Call.TheVariants as call
use Rattle.svndiff.specs.Reading.{begin}
use Rattle.svndiff.specs.Streams.{reading, Reads}
use Rattle.svndiff.specs.declared.reading.Reading.{Reading}
use Rattle.ra_edit.specs.Differences.{IsNoText, is_of_text}
use Rattle.ra_edit.specs.Edits.{Held, Dir, Fresh, Within, Told, Named, named, At, Inside, Says, IsCommand}
use Rattle.ra_edit.specs.Edits as edits
use Rattle.ra_edit.specs.Names.{word_of}
use Rattle.ra_edit.specs.Refusals.{held_at}
use Rattle.ra_edit.specs.declared.name.Name.{Name}
use Rattle.ra_edit.specs.declared.name.Name.TheVariants as word
use Rattle.ra_edit.proofs.NotRead.{same_word}

-- ---- words and parameters

abbrev name_in : Item → List ℕ
name_in (Nested (Then (Word w) more)) = w
name_in _ = []

abbrev params_in : Item → Items
params_in (Nested (Then w (Then (Nested ps) rest))) = ps
params_in _ = End

abbrev first_in : Items → List ℕ
first_in (Then (Text t) ps) = t
first_in _ = []

abbrev second_in : Items → List ℕ
second_in (Then x (Then (Text t) ps)) = t
second_in _ = []

pub one_name : (n m : Name) (ps qs : List Item) (x : Item) → IsCommand (word_of n) ps x → IsCommand (word_of m) qs x → n ≡ m
one_name n m ps qs x h k = same_word n m (sym (ap name_in h.2) ∙ ap name_in k.2)

one_token : (w v t u : List ℕ) (ps qs : List Item) (x : Item) → IsCommand w (Text t ∷ ps) x → IsCommand v (Text u ∷ qs) x → t ≡ u
one_token w v t u ps qs x h k = sym (ap (λ y. first_in (params_in y)) h.2) ∙ ap (λ y. first_in (params_in y)) k.2

one_text : (w v t u : List ℕ) (y z : Item) (ps qs : List Item) (x : Item) → IsCommand w (y ∷ Text t ∷ ps) x → IsCommand v (z ∷ Text u ∷ qs) x → t ≡ u
one_text w v t u y z ps qs x h k = sym (ap (λ i. second_in (params_in i)) h.2) ∙ ap (λ i. second_in (params_in i)) k.2

abbrev number : Name → ℕ
number word.ApplyTextdelta = 1
number word.TextdeltaChunk = 2
number word.TextdeltaEnd = 3
number _ = 0

other_name : (n m : Name) (ps qs : List Item) (x : Item) → (number n == number m) ≡ false → IsCommand (word_of n) ps x → IsCommand (word_of m) qs x → ⊥
other_name n m ps qs x e h k = not_itself (number m) (sym (ap (λ i. number i == number m) (one_name n m ps qs x h k)) ∙ e)
  where
    not_itself : (a : ℕ) → (a == a) ≡ false → ⊥
    not_itself a e = grind (arith, nat_tests)

no_text_is : (n : Name) (ps : List Item) (x : Item) → is_of_text n ≡ true → IsCommand (word_of n) ps x → IsNoText x → ⊥
no_text_is n ps x e h k = is_not (is_of_text n) e (ap is_of_text (one_name n k.0 ps k.1 x h k.2) ∙ k.3)
  where
    is_not : (b : Bool) → b ≡ true → b ≡ false → ⊥
    is_not true e f = cc
    is_not false e f = cc

-- ---- what is said

-- of the innermost open thing: it stays, is no file in its text, or is closed
abbrev pub HeldStays : At → At → Type 0
HeldStays at to = (held_at to ≡ held_at at) ⊎ (((text : List ℕ) (r : Reading) → held_at to ≡ Within text r → ⊥) ⊎ ((o : Named) × (os : List Named) × (at ≡ Inside (o ∷ os)) × (to ≡ Inside os)))

pub data OfText (at : At) (x : Item) (calls : List Call) (to : At) : Type 0 where
  Starts : (t : List ℕ) (p : Path) (os : List Named) (sum : Items) → IsCommand (word_of word.ApplyTextdelta) (Text t ∷ Nested sum ∷ []) x → at ≡ Inside (named t p Fresh ∷ os) → calls ≡ call.TextStart p ∷ [] → to ≡ Inside (named t p (Within [] begin) ∷ os) → OfText at x calls to
  Chunks : (t : List ℕ) (p : Path) (os : List Named) (text bytes : List ℕ) (r new : Reading) (pieces : List (List ℕ)) → IsCommand (word_of word.TextdeltaChunk) (Text t ∷ Text bytes ∷ []) x → reading (Reads text r) bytes ≡ Reads (text ++ concat pieces) new → at ≡ Inside (named t p (Within text r) ∷ os) → calls ≡ map (call.TextPiece p) pieces → to ≡ Inside (named t p (Within (text ++ concat pieces) new) ∷ os) → OfText at x calls to
  Ends : (t : List ℕ) (p : Path) (os : List Named) (text : List ℕ) (r : Reading) → IsCommand (word_of word.TextdeltaEnd) (Text t ∷ []) x → at ≡ Inside (named t p (Within text r) ∷ os) → calls ≡ call.TextEnd p ∷ [] → to ≡ Inside (named t p (Told text) ∷ os) → OfText at x calls to
  Other : IsNoText x → HeldStays at to → OfText at x calls to

pub of_text : (at to : At) (x : Item) (calls : List Call) → Says at x calls to → OfText at x calls to
of_text at to x calls (edits.Target n i small c) = Other (word.TargetRev, Number n ∷ [], c, refl) (inr (inl (λ text r e. cc)))
of_text at to x calls (edits.OpenRoot where_at base t b i un rev c) = Other (word.OpenRoot, b ∷ Text t ∷ [], c, refl) (inr (inl (λ text r e. cc)))
of_text at to x calls (edits.AddDir u up os text t p from s i read free src c) = Other (word.AddDir, Text text ∷ Text u ∷ Text t ∷ s ∷ [], c, refl) (inr (inl (λ text r e. cc)))
of_text at to x calls (edits.OpenDir u up os text t p base b i read free rev c) = Other (word.OpenDir, Text text ∷ Text u ∷ Text t ∷ b ∷ [], c, refl) (inr (inl (λ text r e. cc)))
of_text at to x calls (edits.DeleteEntry u up os text p base b i read rev c) = Other (word.DeleteEntry, Text text ∷ b ∷ Text u ∷ [], c, refl) (inl refl)
of_text at to x calls (edits.AddFile u up os text t p from s i read free src c) = Other (word.AddFile, Text text ∷ Text u ∷ Text t ∷ s ∷ [], c, refl) (inr (inl (λ text r e. cc)))
of_text at to x calls (edits.OpenFile u up os text t p base b i read free rev c) = Other (word.OpenFile, Text text ∷ Text u ∷ Text t ∷ b ∷ [], c, refl) (inr (inl (λ text r e. cc)))
of_text at to x calls (edits.DirProp t p os text name value v i is read str c) = Other (word.ChangeDirProp, Text t ∷ Text text ∷ v ∷ [], c, refl) (inl refl)
of_text at to x calls (edits.FileProp t p held os text name value v i file read str c) = Other (word.ChangeFileProp, Text t ∷ Text text ∷ v ∷ [], c, refl) (inl refl)
of_text at to x calls (edits.TextStart t p os sum i c) = Starts t p os sum c refl refl refl
of_text at to x calls (edits.Chunk t p os text bytes r new pieces i read cut c) = Chunks t p os text bytes r new pieces c read refl refl refl
of_text at to x calls (edits.TextEnd t p os text r i between c) = Ends t p os text r c refl refl refl
of_text at to x calls (edits.CloseFresh t p os sum s i is c) = Other (word.CloseFile, Text t ∷ s ∷ [], c, refl) (inr (inr (named t p Fresh, os, refl, refl)))
of_text at to x calls (edits.CloseTold t p os text sum s i sums is c) = Other (word.CloseFile, Text t ∷ s ∷ [], c, refl) (inr (inr (named t p (Told text), os, refl, refl)))
of_text at to x calls (edits.CloseDir t p os i c) = Other (word.CloseDir, Text t ∷ [], c, refl) (inr (inr (named t p Dir, os, refl, refl)))
of_text at to x calls (edits.CloseEdit i c) = Other (word.CloseEdit, [], c, refl) (inr (inl (λ text r e. cc)))
of_text at to x calls (edits.CloseNone where_at i un c) = Other (word.CloseEdit, [], c, refl) (inr (inl (λ text r e. cc)))
of_text at to x calls (edits.Finish i c) = Other (word.FinishReplay, [], c, refl) (inr (inl (λ text r e. cc)))
of_text at to x calls (edits.FinishNone where_at i un c) = Other (word.FinishReplay, [], c, refl) (inr (inl (λ text r e. cc)))
of_text at to x calls (edits.FinishAnnounced root i c) = Other (word.FinishReplay, [], c, refl) (inr (inl (λ text r e. cc)))

-- ---- each command of a text

pub record StartSays (t : List ℕ) (at : At) (calls : List Call) (to : At) : Type 0 where
  pub path : Path
  pub outer : List Named
  pub here : at ≡ Inside (named t path Fresh ∷ outer)
  pub say : calls ≡ call.TextStart path ∷ []
  pub there : to ≡ Inside (named t path (Within [] begin) ∷ outer)

pub start_says : (t : List ℕ) (s : Items) (at to : At) (x : Item) (calls : List Call) → IsCommand (word_of word.ApplyTextdelta) (Text t ∷ Nested s ∷ []) x → Says at x calls to → StartSays t at calls to
start_says t s at to x calls c h = by (of_text at to x calls h)
  where
    by : OfText at x calls to → StartSays t at calls to
    by (Starts u p os sum k e f g) = let same = one_token (word_of word.ApplyTextdelta) (word_of word.ApplyTextdelta) u t (Nested sum ∷ []) (Nested s ∷ []) x k c in record { path = p; outer = os; here = subst (λ n. at ≡ Inside (named n p Fresh ∷ os)) same e; say = f; there = subst (λ n. to ≡ Inside (named n p (Within [] begin) ∷ os)) same g }
    by (Chunks u p os text all r new pieces k run e f g) = absurd (other_name word.TextdeltaChunk word.ApplyTextdelta (Text u ∷ Text all ∷ []) (Text t ∷ Nested s ∷ []) x refl k c)
    by (Ends u p os text r k e f g) = absurd (other_name word.TextdeltaEnd word.ApplyTextdelta (Text u ∷ []) (Text t ∷ Nested s ∷ []) x refl k c)
    by (Other k stays) = absurd (no_text_is word.ApplyTextdelta (Text t ∷ Nested s ∷ []) x refl c k)

pub record ChunkSays (t bytes : List ℕ) (at : At) (calls : List Call) (to : At) : Type 0 where
  pub path : Path
  pub outer : List Named
  pub text : List ℕ
  pub was : Reading
  pub pieces : List (List ℕ)
  pub is : Reading
  pub here : at ≡ Inside (named t path (Within text was) ∷ outer)
  pub reads : reading (Reads text was) bytes ≡ Reads (text ++ concat pieces) is
  pub say : calls ≡ map (call.TextPiece path) pieces
  pub there : to ≡ Inside (named t path (Within (text ++ concat pieces) is) ∷ outer)

pub chunk_says : (t bytes : List ℕ) (at to : At) (x : Item) (calls : List Call) → IsCommand (word_of word.TextdeltaChunk) (Text t ∷ Text bytes ∷ []) x → Says at x calls to → ChunkSays t bytes at calls to
chunk_says t bytes at to x calls c h = by (of_text at to x calls h)
  where
    by : OfText at x calls to → ChunkSays t bytes at calls to
    by (Starts u p os sum k e f g) = absurd (other_name word.ApplyTextdelta word.TextdeltaChunk (Text u ∷ Nested sum ∷ []) (Text t ∷ Text bytes ∷ []) x refl k c)
    by (Chunks u p os text all r new pieces k run e f g) =
        let same = one_token (word_of word.TextdeltaChunk) (word_of word.TextdeltaChunk) u t (Text all ∷ []) (Text bytes ∷ []) x k c in
        let is = one_text (word_of word.TextdeltaChunk) (word_of word.TextdeltaChunk) all bytes (Text u) (Text t) [] [] x k c in
        record {
          path = p;
          outer = os;
          text = text;
          was = r;
          pieces = pieces;
          is = new;
          here = subst (λ n. at ≡ Inside (named n p (Within text r) ∷ os)) same e;
          reads = subst (λ b. reading (Reads text r) b ≡ Reads (text ++ concat pieces) new) is run;
          say = f;
          there = subst (λ n. to ≡ Inside (named n p (Within (text ++ concat pieces) new) ∷ os)) same g;
        }
    by (Ends u p os text r k e f g) = absurd (other_name word.TextdeltaEnd word.TextdeltaChunk (Text u ∷ []) (Text t ∷ Text bytes ∷ []) x refl k c)
    by (Other k stays) = absurd (no_text_is word.TextdeltaChunk (Text t ∷ Text bytes ∷ []) x refl c k)

pub record EndSays (t : List ℕ) (at : At) (calls : List Call) (to : At) : Type 0 where
  pub path : Path
  pub outer : List Named
  pub text : List ℕ
  pub was : Reading
  pub here : at ≡ Inside (named t path (Within text was) ∷ outer)
  pub say : calls ≡ call.TextEnd path ∷ []
  pub there : to ≡ Inside (named t path (Told text) ∷ outer)

pub end_says : (t : List ℕ) (at to : At) (x : Item) (calls : List Call) → IsCommand (word_of word.TextdeltaEnd) (Text t ∷ []) x → Says at x calls to → EndSays t at calls to
end_says t at to x calls c h = by (of_text at to x calls h)
  where
    by : OfText at x calls to → EndSays t at calls to
    by (Starts u p os sum k e f g) = absurd (other_name word.ApplyTextdelta word.TextdeltaEnd (Text u ∷ Nested sum ∷ []) (Text t ∷ []) x refl k c)
    by (Chunks u p os text all r new pieces k run e f g) = absurd (other_name word.TextdeltaChunk word.TextdeltaEnd (Text u ∷ Text all ∷ []) (Text t ∷ []) x refl k c)
    by (Ends u p os text r k e f g) =
        let same = one_token (word_of word.TextdeltaEnd) (word_of word.TextdeltaEnd) u t [] [] x k c in
        record { path = p; outer = os; text = text; was = r; here = subst (λ n. at ≡ Inside (named n p (Within text r) ∷ os)) same e; say = f; there = subst (λ n. to ≡ Inside (named n p (Told text) ∷ os)) same g }
    by (Other k stays) = absurd (no_text_is word.TextdeltaEnd (Text t ∷ []) x refl c k)

-- what another command leaves
pub other_stays : (at to : At) (x : Item) (calls : List Call) → IsNoText x → Says at x calls to → HeldStays at to
other_stays at to x calls n h = by (of_text at to x calls h)
  where
    by : OfText at x calls to → HeldStays at to
    by (Starts u p os sum k e f g) = absurd (no_text_is word.ApplyTextdelta (Text u ∷ Nested sum ∷ []) x refl k n)
    by (Chunks u p os text all r new pieces k run e f g) = absurd (no_text_is word.TextdeltaChunk (Text u ∷ Text all ∷ []) x refl k n)
    by (Ends u p os text r k e f g) = absurd (no_text_is word.TextdeltaEnd (Text u ∷ []) x refl k n)
    by (Other k stays) = stays
