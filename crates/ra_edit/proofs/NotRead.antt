-- What can't be read.
use Rattle.std.proofs.Common.{Vec, Global, ◌≡◌, ℕ, List, [], ◌∷◌, Option, Some, None, Result, Ok, Err, IfOk, IfErr, refl, sym, ap, subst, ◌∙◌, inl, inr, if◌then◌else◌}
use Rattle.std.specs.Prelude.{◌⊎◌}
use Rattle.ra_item.specs.Items.{Item, Items, End, Then, Word, Number, Text, Nested, row}
use Rattle.node_base.specs.Path.{Path, same_name}
use Rattle.node_base.specs.PathText.{path_read}
use Rattle.node_base.specs.declared.node.Source.{Source}
use Rattle.ra_edit.specs.Commands.{list}
use Rattle.ra_edit.specs.Edits.{IsRevision, IsString, IsSum, IsSource}
use Rattle.ra_edit.specs.Differences.{SaysSum, SaysSumWith, IsNoDelta, params_over}
use Rattle.ra_edit.specs.Receiving.{Param, AText, AList, ABase, AValue, ASum, ASource, IsA, BeginWith, NotRead, NextIs, params_of, Forms, FormsWith, IsNoCommand}
use Rattle.ra_edit.specs.Names.{word_of}
use Rattle.ra_edit.specs.declared.receive_command.Command.{Command}
use Rattle.ra_edit.specs.declared.receive_command.Command.TheVariants as command
use Rattle.ra_edit.specs.declared.name.Name.{Name}
use Rattle.ra_edit.specs.declared.name.Name.TheVariants as name
use Rattle.ra_edit.specs.declared.shape_fault.ShapeFault.{ShapeFault}
use Rattle.ra_edit.specs.declared.shape_fault.ShapeFault.TheVariants as shape
use Rattle.ra_edit.proofs.OneEdit.{no_slash}
use Rattle.ra_edit.proofs.Receiving.{named2}

-- ---- a list's items

abbrev unrow : Items → List Item
unrow End = []
unrow (Then x xs) = x ∷ unrow xs

row_back : (xs : List Item) → unrow (row xs) ≡ xs
row_back [] = refl
row_back (x ∷ xs) = ap (λ l. x ∷ l) (row_back xs)

as_row : (xs : Items) → (l : List Item) × (xs ≡ row l)
as_row End = ([], refl)
as_row (Then x xs) = let k = as_row xs in (x ∷ k.0, ap (Then x) k.1)

abbrev inside : Item → List Item
inside (Nested xs) = unrow xs
inside _ = []

pub same_list : (xs ys : List Item) → list xs ≡ list ys → xs ≡ ys
same_list xs ys e = sym (row_back xs) ∙ ap inside e ∙ row_back ys

abbrev rest_of : List Item → List Item
rest_of [] = []
rest_of (x ∷ xs) = xs

abbrev word_at : List Item → List ℕ
word_at (Word w ∷ xs) = w
word_at _ = []

abbrev text_at : List Item → List ℕ
text_at (Text t ∷ xs) = t
text_at _ = []

abbrev params_at : List Item → List Item
params_at (x ∷ y ∷ xs) = inside y
params_at _ = []

same_text : (t u : List ℕ) (xs ys : List Item) → list (Text t ∷ xs) ≡ list (Text u ∷ ys) → t ≡ u
same_text t u xs ys e = ap text_at {x = Text t ∷ xs} {y = Text u ∷ ys} (same_list (Text t ∷ xs) (Text u ∷ ys) e)

-- ---- parameters

-- what can't be read as one can't be read as another that is one such
pub as_other : (j k : Param) (items : List Item) (f : ShapeFault) → ((x : Item) → IsA k x → IsA j x) → NotRead (j ∷ []) items f → NotRead (k ∷ []) items f
as_other j k items shape.OutOfMemory g h = tt
as_other j k [] shape.BadShape g h = λ b. b
as_other j k (x ∷ xs) shape.BadShape g h = λ b. h (g x b.0, tt)

revision_list : (base : Option ℕ) (x : Item) → IsRevision base x → IsA AList x
revision_list None x e = ([], e)
revision_list (Some n) x h = (Number n ∷ h.0, h.2)

string_list : (value : Option (List ℕ)) (x : Item) → IsString value x → IsA AList x
string_list None x e = ([], e)
string_list (Some s) x h = (Text s ∷ h.0, h.1)

sum_string : (sum : Option (List ℕ)) (x : Item) → IsSum sum x → IsA AValue x
sum_string None x e = (None, e)
sum_string (Some s) x h = (Some h.0, (h.1, h.3))

source_list : (from : Option Source) (x : Item) → IsSource from x → IsA AList x
source_list None x e = ([], e)
source_list (Some s) x (text, more, p, n, inl e) = (Text text ∷ Number s.revision ∷ more, e)
source_list (Some s) x (text, more, p, n, inr e) = (Text (47 ∷ text) ∷ Number s.revision ∷ more, e)

pub base_is : (x : Item) → IsA ABase x → IsA AList x
base_is x b = revision_list b.0 x b.1

pub value_is : (x : Item) → IsA AValue x → IsA AList x
value_is x b = string_list b.0 x b.1

pub sum_is : (x : Item) → IsA ASum x → IsA AValue x
sum_is x b = sum_string b.0 x b.1

pub source_is : (x : Item) → IsA ASource x → IsA AList x
source_is x b = source_list b.0 x b.1

source_not : (from : Option Source) (t w : List ℕ) (rest : List Item) → (t ≡ w) ⊎ (t ≡ 47 ∷ w) → ((u : List ℕ) → t ≡ 47 ∷ u → u ≡ w) → ((p : Path) → path_read w ≡ Ok p → ⊥) → IsSource from (list (Text t ∷ rest)) → ⊥
source_not None t w rest s u k e = cc
source_not (Some s) t w rest (inl h) u k (text, more, p, n, inl e) = k s.path (subst (λ b. path_read b ≡ Ok s.path) (sym (same_text t text rest (Number s.revision ∷ more) e) ∙ h) p)
source_not (Some s) t w rest (inr h) u k (text, more, p, n, inl e) = no_slash w s.path (subst (λ b. path_read b ≡ Ok s.path) (sym (same_text t text rest (Number s.revision ∷ more) e) ∙ h) p)
source_not (Some s) t w rest h u k (text, more, p, n, inr e) = k s.path (subst (λ b. path_read b ≡ Ok s.path) (u text (same_text t (47 ∷ text) rest (Number s.revision ∷ more) e)) p)

-- a source whose path is none
pub no_source : (old new inner rest : List Item) (t w : List ℕ) (f : ShapeFault) → old ≡ list inner ∷ new → inner ≡ Text t ∷ rest → (t ≡ w) ⊎ (t ≡ 47 ∷ w) → ((u : List ℕ) → t ≡ 47 ∷ u → u ≡ w) → (f ≡ shape.BadShape → (p : Path) → path_read w ≡ Ok p → ⊥) → NotRead (ASource ∷ []) old f
no_source old new inner rest t w shape.OutOfMemory e h s u k = tt
no_source old new inner rest t w shape.BadShape e h s u k = subst (λ l. BeginWith (ASource ∷ []) l → ⊥) (sym (e ∙ ap (λ l. list l ∷ new) h)) (λ b. source_not b.0.0 t w rest s u (k refl) b.0.1)

-- ---- commands

abbrev names : List Name
names = name.TargetRev ∷ name.OpenRoot ∷ name.DeleteEntry ∷ name.AddDir ∷ name.OpenDir ∷ name.ChangeDirProp ∷ name.CloseDir ∷ name.AddFile ∷ name.OpenFile ∷ name.ChangeFileProp ∷ name.ApplyTextdelta ∷ name.TextdeltaChunk ∷ name.TextdeltaEnd ∷ name.CloseFile ∷ name.CloseEdit ∷ name.FinishReplay ∷ name.AbortEdit ∷ name.Failure ∷ []

abbrev first_of : List Name → List ℕ → Option Name
first_of [] w = None
first_of (n ∷ ns) w = if same_name w (word_of n) then Some n else first_of ns w

abbrev name_at : List ℕ → Option Name
name_at = first_of names

name_back : (n : Name) → name_at (word_of n) ≡ Some n
name_back name.TargetRev = refl
name_back n = refl

some_same : (n m : Name) → Some n ≡ Some m → n ≡ m
some_same n m e = cc

pub same_word : (n m : Name) → word_of n ≡ word_of m → n ≡ m
same_word n m e = some_same n m (sym (name_back n) ∙ ap name_at e ∙ name_back m)

-- an item that is a command has a name, and begins with that name's parameters
pub record Formed (x : Item) : Type 0 where
  pub name : Name
  pub params : List Item
  pub rest : List Item
  pub is : x ≡ list (Word (word_of name) ∷ list params ∷ rest)
  pub begin : BeginWith (params_of name) params

-- what such an item's list is
abbrev whole : {x : Item} → Formed x → List Item
whole d = Word (word_of d.name) ∷ list d.params ∷ d.rest

formed_as : (n : Name) (x : Item) (params rest : List Item) → x ≡ list (Word (word_of n) ∷ list params ∷ rest) → BeginWith (params_of n) params → Formed x
formed_as n x params rest e b = record { name = n; params = params; rest = rest; is = e; begin = b }

formed : (c : Command) (x : Item) → Forms c x → Formed x
formed (command.Target n) x h = formed_as name.TargetRev x (Number n ∷ h.1.0) h.1.1 h.1.2 ((n, h.0, refl), tt)
formed (command.OpenRoot b t) x h = formed_as name.OpenRoot x (h.0 ∷ Text t.items ∷ h.2.0) h.2.1 h.2.2 ((b, h.1), ((t.items, refl), tt))
formed (command.DeleteEntry p b u) x h = formed_as name.DeleteEntry x (h.0 ∷ h.1 ∷ Text u.items ∷ h.4.0) h.4.1 h.4.2 ((p, h.2), ((b, h.3), ((u.items, refl), tt)))
formed (command.AddDir p u t f) x h = formed_as name.AddDir x (h.0 ∷ Text u.items ∷ Text t.items ∷ h.1 ∷ h.4.0) h.4.1 h.4.2 ((p, h.2), ((u.items, refl), ((t.items, refl), ((f, h.3), tt))))
formed (command.OpenDir p u t b) x h = formed_as name.OpenDir x (h.0 ∷ Text u.items ∷ Text t.items ∷ h.1 ∷ h.4.0) h.4.1 h.4.2 ((p, h.2), ((u.items, refl), ((t.items, refl), ((b, h.3), tt))))
formed (command.DirProp t n v) x h = formed_as name.ChangeDirProp x (Text t.items ∷ h.0 ∷ h.1 ∷ h.4.0) h.4.1 h.4.2 ((t.items, refl), ((n, h.2), ((_, h.3), tt)))
formed (command.CloseDir t) x h = formed_as name.CloseDir x (Text t.items ∷ h.0) h.1 h.2 ((t.items, refl), tt)
formed (command.AddFile p u t f) x h = formed_as name.AddFile x (h.0 ∷ Text u.items ∷ Text t.items ∷ h.1 ∷ h.4.0) h.4.1 h.4.2 ((p, h.2), ((u.items, refl), ((t.items, refl), ((f, h.3), tt))))
formed (command.OpenFile p u t b) x h = formed_as name.OpenFile x (h.0 ∷ Text u.items ∷ Text t.items ∷ h.1 ∷ h.4.0) h.4.1 h.4.2 ((p, h.2), ((u.items, refl), ((t.items, refl), ((b, h.3), tt))))
formed (command.FileProp t n v) x h = formed_as name.ChangeFileProp x (Text t.items ∷ h.0 ∷ h.1 ∷ h.4.0) h.4.1 h.4.2 ((t.items, refl), ((n, h.2), ((_, h.3), tt)))
formed (command.TextStart t) x h = let k = as_row h.0 in formed_as name.ApplyTextdelta x (Text t.items ∷ Nested h.0 ∷ h.1.0) h.1.1 h.1.2 ((t.items, refl), ((k.0, ap Nested k.1), tt))
formed (command.Chunk t b) x h = formed_as name.TextdeltaChunk x (Text t.items ∷ Text b.items ∷ h.0) h.1 h.2 ((t.items, refl), ((b.items, refl), tt))
formed (command.TextEnd t) x h = formed_as name.TextdeltaEnd x (Text t.items ∷ h.0) h.1 h.2 ((t.items, refl), tt)
formed (command.CloseFile t s) x h = formed_as name.CloseFile x (Text t.items ∷ h.0 ∷ h.2.0) h.2.1 h.2.2 ((t.items, refl), ((s, h.1), tt))
formed command.CloseEdit x h = formed_as name.CloseEdit x h.0 h.1 h.2 tt
formed command.Finish x h = formed_as name.FinishReplay x h.0 h.1 h.2 tt
formed command.Abort x (inl h) = formed_as name.AbortEdit x h.0 h.1 h.2 tt
formed command.Abort x (inr h) = formed_as name.Failure x h.0 h.1 h.2 tt

-- behind its name, a command has a list
pub no_params : (x : Item) (parts behind : List Item) (w : List ℕ) (f : ShapeFault) → x ≡ list parts → parts ≡ Word w ∷ behind → NotRead (AList ∷ []) behind f → IsNoCommand x f
no_params x parts behind w shape.OutOfMemory e h n = tt
no_params x parts behind w shape.BadShape e h n = λ c k.
    let d = formed c x k in
    let same : Word w ∷ behind ≡ whole d = same_list (Word w ∷ behind) (whole d) (sym (e ∙ ap list h) ∙ d.is) in
    let found : BeginWith (AList ∷ []) (rest_of (whole d)) = ((d.params, refl), tt) in
    n (subst (BeginWith (AList ∷ [])) (sym (ap rest_of same)) found)

-- no command has another word, nor does one begin with other parameters
pub no_name : (x : Item) (parts behind more params : List Item) (w : List ℕ) → x ≡ list parts → parts ≡ Word w ∷ behind → behind ≡ list params ∷ more → ((n : Name) → w ≡ word_of n → ⊥) → IsNoCommand x shape.BadShape
no_name x parts behind more params w e h m n = λ c k.
    let d = formed c x k in
    let same : Word w ∷ behind ≡ whole d = same_list (Word w ∷ behind) (whole d) (sym (e ∙ ap list h) ∙ d.is) in
    n d.name (ap word_at same)

not_begun : (x : Item) (parts behind more params : List Item) (w : List ℕ) (n : Name) (f : ShapeFault) → x ≡ list parts → parts ≡ Word w ∷ behind → behind ≡ list params ∷ more → w ≡ word_of n → NotRead (params_of n) params f → IsNoCommand x f
not_begun x parts behind more params w n shape.OutOfMemory e h m is k = tt
not_begun x parts behind more params w n shape.BadShape e h m is k = λ c l.
    let d = formed c x l in
    let same : Word w ∷ list params ∷ more ≡ whole d = same_list (Word w ∷ list params ∷ more) (whole d) (sym (e ∙ ap list (h ∙ ap (λ b. Word w ∷ b) m)) ∙ d.is) in
    let name : n ≡ d.name = same_word n d.name (sym is ∙ ap word_at same) in
    let inner : params ≡ d.params = sym (row_back params) ∙ ap params_at same ∙ row_back d.params in
    k (subst (λ i. BeginWith (params_of n) i) (sym inner) (subst (λ i. BeginWith (params_of i) d.params) (sym name) d.begin))

pub no_command : (r : Result Command ShapeFault) (x : Item) (parts behind more params : List Item) (w : List ℕ) (n : Name) → x ≡ list parts → parts ≡ Word w ∷ behind → behind ≡ list params ∷ more → w ≡ word_of n → IfErr r (NotRead (params_of n) params) → IfErr r (IsNoCommand x)
no_command (Ok c) x parts behind more params w n e h m is k = tt
no_command (Err f) x parts behind more params w n e h m is k = not_begun x parts behind more params w n f e h m is k

-- ---- the sum of a base

abbrev word_in : Item → List ℕ
word_in (Nested (Then (Word w) more)) = w
word_in _ = []

abbrev second_in : Item → Item
second_in (Nested (Then w (Then (Nested (Then x (Then y ps))) rest))) = y
second_in _ = Word []

sum_nested : (sum : Option (List ℕ)) (x : Item) → IsSum sum x → (s : Items) × (x ≡ Nested s)
sum_nested None x e = (row [], e)
sum_nested (Some s) x h = (row (Text h.0 ∷ h.1), h.3)

-- an `apply-textdelta` with a sum
pub text_with_sum : (t : Vec ℕ Global) (sum : Option (List ℕ)) (old mid new : List Item) → old ≡ Text t.items ∷ mid → NextIs (IsSum sum) mid new → FormsWith (command.TextStart t) name.ApplyTextdelta old × SaysSumWith sum name.ApplyTextdelta old
text_with_sum t sum old mid new e n =
    let k = sum_nested sum n.item n.is in
    let all : old ≡ Text t.items ∷ n.item ∷ new = e ∙ ap (λ l. Text t.items ∷ l) n.joined in (
      λ rest. (k.0, named2 e (n.joined ∙ ap (λ y. y ∷ new) k.1) rest),
      λ rest u s c.
          let here : second_in (list (Word (word_of name.ApplyTextdelta) ∷ list old ∷ rest)) ≡ n.item = ap (λ l. second_in (list (Word (word_of name.ApplyTextdelta) ∷ list l ∷ rest))) all in
          subst (IsSum sum) (sym here ∙ ap second_in c.2) n.is,
    )

-- no other command has one
pub other_sum : (n : Name) (params : List Item) → (n ≡ name.ApplyTextdelta → ⊥) → SaysSumWith None n params
other_sum n params other = λ rest t s c. absurd (other (same_word n name.ApplyTextdelta (ap word_in c.2)))

-- what is no command is none with a sum
pub no_delta : (x : Item) (f : ShapeFault) → IsNoCommand x f → IsNoDelta x f
no_delta x shape.OutOfMemory h = tt
no_delta x shape.BadShape h = λ c sum k says. h c k

begins_with_sum : (sum : Option (List ℕ)) (x : Item) (params rest : List Item) → x ≡ list (Word (word_of name.ApplyTextdelta) ∷ list params ∷ rest) → SaysSum x sum → BeginWith (AText ∷ AList ∷ []) params → BeginWith (AText ∷ ASum ∷ []) params
begins_with_sum sum x [] rest e says b = b
begins_with_sum sum x (y ∷ []) rest e says b = b
begins_with_sum sum x (y ∷ z ∷ more) rest e says b =
    let params : list (y ∷ z ∷ more) ≡ list (Text b.0.0 ∷ Nested (row b.1.0.0) ∷ more) = ap (λ a. list (a ∷ z ∷ more)) b.0.1 ∙ ap (λ a. list (Text b.0.0 ∷ a ∷ more)) b.1.0.1 in
    let is : IsSum sum (Nested (row b.1.0.0)) = says b.0.0 (row b.1.0.0) (more, rest, e ∙ ap (λ l. list (Word (word_of name.ApplyTextdelta) ∷ l ∷ rest)) params) in
    (b.0, ((sum, subst (IsSum sum) (sym b.1.0.1) is), tt))

no_text : (x : Item) (parts behind more params : List Item) (w : List ℕ) (f : ShapeFault) → x ≡ list parts → parts ≡ Word w ∷ behind → behind ≡ list params ∷ more → w ≡ word_of name.ApplyTextdelta → NotRead (AText ∷ ASum ∷ []) params f → IsNoDelta x f
no_text x parts behind more params w shape.OutOfMemory e h m is k = tt
no_text x parts behind more params w shape.BadShape e h m is k = λ c sum l says.
    let d = formed c x l in
    let all : x ≡ list (Word w ∷ list params ∷ more) = e ∙ ap list (h ∙ ap (λ b. Word w ∷ b) m) in
    let same : Word w ∷ list params ∷ more ≡ whole d = same_list (Word w ∷ list params ∷ more) (whole d) (sym all ∙ d.is) in
    let n : name.ApplyTextdelta ≡ d.name = same_word name.ApplyTextdelta d.name (sym is ∙ ap word_at same) in
    let inner : params ≡ d.params = sym (row_back params) ∙ ap params_at same ∙ row_back d.params in
    k (begins_with_sum sum x params more (all ∙ ap (λ v. list (Word v ∷ list params ∷ more)) is) says (subst (λ i. BeginWith (AText ∷ AList ∷ []) i) (sym inner) (subst (λ i. BeginWith (params_of i) d.params) (sym n) d.begin)))

no_over : (x : Item) (parts behind more params : List Item) (w : List ℕ) (n : Name) (f : ShapeFault) → x ≡ list parts → parts ≡ Word w ∷ behind → behind ≡ list params ∷ more → w ≡ word_of n → NotRead (params_over n) params f → IsNoDelta x f
no_over x parts behind more params w name.ApplyTextdelta f e h m is k = no_text x parts behind more params w f e h m is k
no_over x parts behind more params w n f e h m is k = no_delta x f (not_begun x parts behind more params w n f e h m is k)

pub no_delta_command : {T : Type 0} (r : Result T ShapeFault) (x : Item) (parts behind more params : List Item) (w : List ℕ) (n : Name) → x ≡ list parts → parts ≡ Word w ∷ behind → behind ≡ list params ∷ more → w ≡ word_of n → IfErr r (NotRead (params_over n) params) → IfErr r (IsNoDelta x)
no_delta_command (Ok c) x parts behind more params w n e h m is k = tt
no_delta_command (Err f) x parts behind more params w n e h m is k = no_over x parts behind more params w n f e h m is k

-- a command with its sum, as its item says them
pub forms_whole : {T E : Type 0} (c : T → Command) (s : T → Option (List ℕ)) (r : Result T E) (x : Item) (parts behind more params : List Item) (w : List ℕ) (n : Name) → x ≡ list parts → parts ≡ Word w ∷ behind → behind ≡ list params ∷ more → w ≡ word_of n → IfOk r (λ p. FormsWith (c p) n params × SaysSumWith (s p) n params) → IfOk r (λ p. Forms (c p) x × SaysSum x (s p))
forms_whole c s (Err f) x parts behind more params w n e h m is k = tt
forms_whole c s (Ok p) x parts behind more params w n e h m is k =
    let all : x ≡ list (Word (word_of n) ∷ list params ∷ more) = e ∙ ap list (h ∙ ap (λ b. Word w ∷ b) m) ∙ ap (λ v. list (Word v ∷ list params ∷ more)) is in
    (subst (Forms (c p)) (sym all) (k.0 more), subst (λ y. SaysSum y (s p)) (sym all) (k.1 more))
