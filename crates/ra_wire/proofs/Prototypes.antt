-- A value is read exactly where the table of prototypes has it.
use Rattle.std.proofs.Common.{◌≡◌, ℕ, ◌≤◌, Bool, true, false, List, [], ◌∷◌, length, nat_lt, ap, subst, sym, ◌∙◌, refl, arith}
use Rattle.std.specs.Prelude.{◌==◌, map, Option, Some, None, Result, Ok, Err, codes, IfOk, IfErr, if◌then◌else◌}
use Rattle.std.specs.Option.{option_map, option_and_then}
use Rattle.std.specs.Str.{bytes_eq}
use Rattle.std.specs.FinMap as finite
use Rattle.std.proofs.lemmas.Bool.Decides.{nat_tests}
use Rattle.std.proofs.lemmas.Bool.{eqb-true}
use Rattle.std.proofs.lemmas.Slice.Eq.{bytes_eq-Decides}
use Rattle.ra_item.specs.Items.{Item, Items, End, Then, Word, Number, Text, Nested, row}
use Rattle.node_base.specs.Path.{Name}
use Rattle.node_base.specs.PathText.{name_read, is_long_name}
use Rattle.node_base.specs.Names.{is_name}
use Rattle.node_base.specs.Props.{PropMap, prop_name_read, is_prop_name, props_fit}
use Rattle.node_base.specs.declared.fault.PathFault.{PathFault}
use Rattle.node_base.specs.declared.prop_fault.PropFault.{PropFault}
use Rattle.node_base.specs.declared.node.NodeKind.{NodeKind}
use Rattle.node_base.specs.declared.node.NodeKind.TheVariants as kind
use Rattle.ra_wire.specs.declared.fault.WireFault.{WireFault}
use Rattle.ra_wire.specs.declared.fault.WireFault.TheVariants as fault
use Rattle.ra_wire.specs.Params.{Read, number_in, text_in, list_in, bool_in, bracketed, right, each, word_of, words_in, NotRead}
use Rattle.ra_wire.specs.Commands.{truth_word}
use Rattle.ra_wire.specs.Replies.{kind_word, node_kind_word}
use Rattle.ra_wire.specs.Openings.{Greeting, Hello, Mechanisms, Login, Welcome, greeting_in, hello_of, hello_in, mechanisms_in, login_in, welcome_in}
use Rattle.ra_wire.specs.Answers.{Refused, Reply, Success, Failure, refused_in, reply_in, held, content_in, kind_in, node_kind_in, short_value, property_in, with_property, properties_of, props_in, revprops_in, Dirent, dirent_with, dirent_in, FileFound, file_in, DirFound, dir_in}
use Rattle.ra_wire.specs.ReadAgain.{first_in}
use Rattle.ra_wire.specs.Prototypes.{and_more, Each, words, perhaps_text, IsGreeting, IsHello, AreMechanisms, IsLogin, IsWelcome, IsRefused, IsReply, HasContent, IsNumber, IsKind, IsValue, IsProperty, Put, AreProps, HasProps, AreRevprops, IsDirent, IsFile, IsDir, Judges}
use Rattle.ra_wire.specs.Laws.{Exactly, PrototypesAreRead}
use Rattle.ra_wire.proofs.Kept.{not_longer}

-- what was read is so in the table
abbrev Told : {S T : Type 0} → (T → S → Type 0) → S → Option T → Type 0
Told Is x None = Unit {0}
Told Is x (Some t) = Is t x

-- ---- what stands in front, by cases

number_cases : (Q : Read ℕ → Type 0) (xs : Items) → Q None → ((n : ℕ) (ys : Items) → xs ≡ Then (Number n) ys → Q (Some (n, ys))) → Q (number_in xs)
number_cases Q (Then (Number n) ys) bad good = good n ys refl
number_cases Q _ bad good = bad

text_maybe_cases : (Q : Read (Option (List ℕ)) → Type 0) (xs : Items) → Q None
    → ((v : Option (List ℕ)) (a ys : Items) → xs ≡ Then (perhaps_text v a) ys → Q (Some (v, ys))) → Q (bracketed text_in xs)
text_maybe_cases Q (Then (Nested End) ys) bad good = good None End ys refl
text_maybe_cases Q (Then (Nested (Then (Text t) more)) ys) bad good = good (Some t) more ys refl
text_maybe_cases Q _ bad good = bad

-- whether a word is this one
word_test : (Q : Bool → Type 0) (w k : List ℕ) → (w ≡ k → Q true) → Q false → Q (bytes_eq w k)
word_test Q w k here other = by_test (bytes_eq w k) (bytes_eq-Decides w k).0
  where
    by_test : (b : Bool) → (b ≡ true → w ≡ k) → Q b
    by_test true f = here (f refl)
    by_test false f = other

truth_cases : (Q : Read Bool → Type 0) (xs : Items) → Q None → ((b : Bool) (ys : Items) → xs ≡ Then (Word (truth_word b)) ys → Q (Some (b, ys))) → Q (bool_in xs)
truth_cases Q (Then (Word w) ys) bad good =
    word_test (λ b. Q (if b then Some (true, ys) else if bytes_eq w (codes "false") then Some (false, ys) else None)) w (codes "true") (λ e. good true ys (ap (λ v. Then (Word v) ys) e))
    (word_test (λ b. Q (if b then Some (false, ys) else None)) w (codes "false") (λ e. good false ys (ap (λ v. Then (Word v) ys) e)) bad)
truth_cases Q _ bad good = bad

kind_cases : (Q : Read (Option NodeKind) → Type 0) (xs : Items) → Q None → ((k : Option NodeKind) (ys : Items) → xs ≡ Then (Word (kind_word k)) ys → Q (Some (k, ys))) → Q (kind_in xs)
kind_cases Q (Then (Word w) ys) bad good =
    word_test (λ b. Q (if b then Some (None, ys) else if bytes_eq w (codes "file") then Some (Some kind.File, ys) else if bytes_eq w (codes "dir") then Some (Some kind.Dir, ys) else None)) w (codes "none") (λ e. good None ys (ap (λ v. Then (Word v) ys) e))
    (word_test (λ b. Q (if b then Some (Some kind.File, ys) else if bytes_eq w (codes "dir") then Some (Some kind.Dir, ys) else None)) w (codes "file") (λ e. good (Some kind.File) ys (ap (λ v. Then (Word v) ys) e))
    (word_test (λ b. Q (if b then Some (Some kind.Dir, ys) else None)) w (codes "dir") (λ e. good (Some kind.Dir) ys (ap (λ v. Then (Word v) ys) e)) bad))
kind_cases Q _ bad good = bad

node_kind_cases : (Q : Read NodeKind → Type 0) (xs : Items) → Q None → ((k : NodeKind) (ys : Items) → xs ≡ Then (Word (node_kind_word k)) ys → Q (Some (k, ys))) → Q (node_kind_in xs)
node_kind_cases Q xs bad good = kind_cases (λ r. Q (option_and_then (λ k. option_map (λ found. (found, k.1)) k.0) r)) xs bad is_some_kind
  where
    is_some_kind : (k : Option NodeKind) (ys : Items) → xs ≡ Then (Word (kind_word k)) ys → Q (option_map (λ found. (found, ys)) k)
    is_some_kind None ys e = bad
    is_some_kind (Some kind.File) ys e = good kind.File ys e
    is_some_kind (Some kind.Dir) ys e = good kind.Dir ys e

-- ---- lists whose items are each such a thing

each_more : {T : Type 0} (Is : T → Item → Type 0) (x : Item) (ys : Items) (o : Option T) (p : Option (List T)) → Told Is x o → Told (Each Is) ys p
    → Told (Each Is) (Then x ys) (option_and_then (λ v. option_map (λ vs. v ∷ vs) p) o)
each_more Is x ys None p a b = tt
each_more Is x ys (Some t) None a b = tt
each_more Is x ys (Some t) (Some ts) a b = (a, b)

each_said : {T : Type 0} (Is : T → Item → Type 0) (what : Item → Option T) → ((x : Item) → Told Is x (what x)) → (ys : Items) → Told (Each Is) ys (each what ys)
each_said Is what said End = refl
each_said Is what said (Then x ys) = each_more Is x ys (what x) (each what ys) (said x) (each_said Is what said ys)

each_back : {T : Type 0} (Is : T → Item → Type 0) (what : Item → Option T) → ((t : T) (x : Item) → Is t x → what x ≡ Some t) → (ts : List T) (ys : Items) → Each Is ts ys → each what ys ≡ Some ts
each_back Is what back [] ys e = ap (each what) e
each_back Is what back (t ∷ ts) End e = absurd e
each_back Is what back (t ∷ ts) (Then x ys) e =
    ap (option_and_then (λ v. option_map (λ vs. v ∷ vs) (each what ys))) (back t x e.0) ∙ ap (option_map (λ vs. t ∷ vs)) (each_back Is what back ts ys e.1)

-- words
abbrev IsWord : List ℕ → Item → Type 0
IsWord w x = x ≡ Word w

word_told : (x : Item) → Told IsWord x (word_of x)
word_told (Word w) = refl
word_told _ = tt

words_row : (ws : List (List ℕ)) (ys : Items) → Each IsWord ws ys → ys ≡ row (map Word ws)
words_row [] ys e = e
words_row (w ∷ ws) End e = absurd e
words_row (w ∷ ws) (Then x ys) e = ap (λ y. Then y ys) e.0 ∙ ap (Then (Word w)) (words_row ws ys e.1)

words_cases : (Q : Read (List (List ℕ)) → Type 0) (xs : Items) → Q None → ((ws : List (List ℕ)) (ys : Items) → xs ≡ Then (words ws) ys → Q (Some (ws, ys))) → Q (words_in xs)
words_cases Q (Then (Nested zs) ys) bad good = by_words (each word_of zs) (each_said IsWord word_of word_told zs)
  where
    by_words : (o : Option (List (List ℕ))) → Told (Each IsWord) zs o → Q (option_map (λ ws. (ws, ys)) o)
    by_words None h = bad
    by_words (Some ws) h = good ws ys (ap (λ z. Then (Nested z) ys) (words_row ws zs h))
words_cases Q _ bad good = bad

words_back : (ws : List (List ℕ)) → each word_of (row (map Word ws)) ≡ Some ws
words_back [] = refl
words_back (w ∷ ws) = ap (option_map (λ vs. w ∷ vs)) (words_back ws)

-- such words in front
words_first : (ws : List (List ℕ)) (ys : Items) → words_in (Then (words ws) ys) ≡ Some (ws, ys)
words_first ws ys = ap (option_map (λ vs. (vs, ys))) (words_back ws)

-- ---- openings

greeting_said : (xs : Items) → Told IsGreeting xs (greeting_in xs)
greeting_said (Then (Number low) (Then (Number high) zs)) =
    let P : Option Greeting → Type 0 = Told IsGreeting (Then (Number low) (Then (Number high) zs)) in
    words_cases (λ r. P (option_and_then (λ mechs. option_map (λ caps. record { low = low; high = high; mechanisms = mechs.0; capabilities = caps.0 }) (words_in mechs.1)) r)) zs tt (λ ms us e.
    words_cases (λ r. P (option_map (λ caps. record { low = low; high = high; mechanisms = ms; capabilities = caps.0 }) r)) us tt (λ cs more f.
    (more, ap (λ z. Then (Number low) (Then (Number high) z)) (e ∙ ap (Then (words ms)) f))))
greeting_said _ = tt

greeting_back : (g : Greeting) (xs : Items) → IsGreeting g xs → greeting_in xs ≡ Some g
greeting_back g xs i =
    let rest = Then (words g.capabilities) i.0 in
    ap greeting_in i.1
    ∙ ap (λ (r : Read (List (List ℕ))). option_and_then (λ mechs. option_map (λ caps. record { low = g.low; high = g.high; mechanisms = mechs.0; capabilities = caps.0 }) (words_in mechs.1)) r) (words_first g.mechanisms rest)
    ∙ ap (λ (r : Read (List (List ℕ))). option_map (λ caps. record { low = g.low; high = g.high; mechanisms = g.mechanisms; capabilities = caps.0 }) r) (words_first g.capabilities i.0)

hello_said : (x : Item) → Told IsHello x (hello_in x)
hello_said (Nested (Then (Number n) ys)) =
    let P : Option Hello → Type 0 = Told IsHello (Nested (Then (Number n) ys)) in
    words_cases (λ r. P (option_and_then (λ caps. option_and_then (λ url. hello_of n caps.0 url.0) (text_in caps.1)) r)) ys tt (λ cs zs e. by_url cs zs (ap (λ z. Nested (Then (Number n) z)) e))
  where
    by_version : (cs : List (List ℕ)) (url : List ℕ) (more : Items) (b : Bool) → (b ≡ true → n ≡ 2) → Nested (Then (Number n) ys) ≡ Nested (Then (Number n) (Then (words cs) (Then (Text url) more)))
        → Told IsHello (Nested (Then (Number n) ys)) (if b then Some (record { capabilities = cs; url = url }) else None)
    by_version cs url more true f e = (more, e ∙ ap (λ v. Nested (Then (Number v) (Then (words cs) (Then (Text url) more)))) (f refl))
    by_version cs url more false f e = tt

    by_url : (cs : List (List ℕ)) (zs : Items) → Nested (Then (Number n) ys) ≡ Nested (Then (Number n) (Then (words cs) zs))
        → Told IsHello (Nested (Then (Number n) ys)) (option_and_then (λ url. hello_of n cs url.0) (text_in zs))
    by_url cs (Then (Text url) more) e = by_version cs url more (n == 2) (eqb-true n 2) e
    by_url cs _ e = tt
hello_said _ = tt

hello_back : (h : Hello) (x : Item) → IsHello h x → hello_in x ≡ Some h
hello_back h x i =
    ap hello_in i.1
    ∙ ap (λ (r : Read (List (List ℕ))). option_and_then (λ caps. option_and_then (λ url. hello_of 2 caps.0 url.0) (text_in caps.1)) r) (words_first h.capabilities (Then (Text h.url) i.0))

mechanisms_said : (xs : Items) → Told AreMechanisms xs (mechanisms_in xs)
mechanisms_said xs = words_cases (λ r. Told AreMechanisms xs (option_and_then (λ names. option_map (λ realm. record { names = names.0; realm = realm.0 }) (text_in names.1)) r)) xs tt by_realm
  where
    by_realm : (ns : List (List ℕ)) (ys : Items) → xs ≡ Then (words ns) ys → Told AreMechanisms xs (option_map (λ realm. record { names = ns; realm = realm.0 }) (text_in ys))
    by_realm ns (Then (Text realm) more) e = (more, e)
    by_realm ns _ e = tt

mechanisms_back : (m : Mechanisms) (xs : Items) → AreMechanisms m xs → mechanisms_in xs ≡ Some m
mechanisms_back m xs i =
    ap mechanisms_in i.1
    ∙ ap (λ (r : Read (List (List ℕ))). option_and_then (λ names. option_map (λ realm. record { names = names.0; realm = realm.0 }) (text_in names.1)) r) (words_first m.names (Then (Text m.realm) i.0))

login_said : (x : Item) → Told IsLogin x (login_in x)
login_said (Nested (Then (Word w) rest)) =
    text_maybe_cases (λ r. Told IsLogin (Nested (Then (Word w) rest)) (option_map (λ t. record { mechanism = w; token = t.0 }) r)) rest tt
    (λ t a more e. (a, (more, ap (λ r. Nested (Then (Word w) r)) e)))
login_said _ = tt

maybe_first : (v : Option (List ℕ)) (a ys : Items) → bracketed text_in (Then (perhaps_text v a) ys) ≡ Some (v, ys)
maybe_first None a ys = refl
maybe_first (Some t) a ys = refl

login_back : (l : Login) (x : Item) → IsLogin l x → login_in x ≡ Some l
login_back l x i = ap login_in i.1.1 ∙ ap (λ (r : Read (Option (List ℕ))). option_map (λ t. record { mechanism = l.mechanism; token = t.0 }) r) (maybe_first l.token i.0 i.1.0)

welcome_said : (xs : Items) → Told IsWelcome xs (welcome_in xs)
welcome_said (Then (Text identity) (Then (Text url) ys)) =
    words_cases (λ r. Told IsWelcome (Then (Text identity) (Then (Text url) ys)) (option_map (λ caps. record { identity = identity; url = url; capabilities = caps.0 }) r)) ys tt
    (λ cs more e. (more, ap (λ z. Then (Text identity) (Then (Text url) z)) e))
welcome_said _ = tt

welcome_back : (w : Welcome) (xs : Items) → IsWelcome w xs → welcome_in xs ≡ Some w
welcome_back w xs i =
    ap welcome_in i.1
    ∙ ap (λ (r : Read (List (List ℕ))). option_map (λ caps. record { identity = w.identity; url = w.url; capabilities = caps.0 }) r) (words_first w.capabilities i.0)

-- ---- answers

refused_said : (x : Item) → Told IsRefused x (refused_in x)
refused_said (Nested (Then (Number n) (Then (Text t) (Then (Text f) (Then (Number l) more))))) = (more, refl)
refused_said _ = tt

refused_back : (f : Refused) (x : Item) → IsRefused f x → refused_in x ≡ Some f
refused_back f x i = ap refused_in i.1

reply_said : (x : Item) → Told IsReply x (reply_in x)
reply_said (Nested (Then (Word w) (Then (Nested ys) more))) =
    let P : Option Reply → Type 0 = Told IsReply (Nested (Then (Word w) (Then (Nested ys) more))) in
    word_test (λ b. P (if b then Some (Success ys) else if bytes_eq w (codes "failure") then option_map Failure (each refused_in ys) else None)) w (codes "success")
    (λ e. (more, ap (λ v. Nested (Then (Word v) (Then (Nested ys) more))) e))
    (word_test (λ b. P (if b then option_map Failure (each refused_in ys) else None)) w (codes "failure")
    (by_refused (each refused_in ys) (each_said IsRefused refused_in refused_said ys)) tt)
  where
    by_refused : (o : Option (List Refused)) → Told (Each IsRefused) ys o → w ≡ codes "failure" → Told IsReply (Nested (Then (Word w) (Then (Nested ys) more))) (option_map Failure o)
    by_refused None h e = tt
    by_refused (Some fs) h e = (ys, (more, ap (λ v. Nested (Then (Word v) (Then (Nested ys) more))) e), h)
reply_said _ = tt

reply_back : (r : Reply) (x : Item) → IsReply r x → reply_in x ≡ Some r
reply_back (Success content) x i = ap reply_in i.1
reply_back (Failure fs) x i = ap reply_in i.1.1 ∙ ap (option_map Failure) (each_back IsRefused refused_in refused_back fs i.0 i.2)

content_said : (x : Item) → Told HasContent x (content_in x)
content_said x = by_reply (reply_in x) (reply_said x)
  where
    by_reply : (o : Option Reply) → Told IsReply x o → Told HasContent x (option_and_then held o)
    by_reply None h = tt
    by_reply (Some (Success content)) h = h
    by_reply (Some (Failure fs)) h = tt

content_back : (content : Items) (x : Item) → HasContent content x → content_in x ≡ Some content
content_back content x i = ap content_in i.1

-- ---- contents

number_said : (xs : Items) → Told IsNumber xs (first_in number_in xs)
number_said xs = number_cases (λ r. Told IsNumber xs (option_map (λ r. r.0) r)) xs tt (λ n ys e. (ys, e))

number_back : (n : ℕ) (xs : Items) → IsNumber n xs → first_in number_in xs ≡ Some n
number_back n xs i = ap (first_in number_in) i.1

kind_told : (xs : Items) → Told IsKind xs (first_in kind_in xs)
kind_told xs = kind_cases (λ r. Told IsKind xs (option_map (λ r. r.0) r)) xs tt (λ k ys e. (ys, e))

kind_back : (k : Option NodeKind) (xs : Items) → IsKind k xs → first_in kind_in xs ≡ Some k
kind_back None xs i = ap (first_in kind_in) i.1
kind_back (Some kind.File) xs i = ap (first_in kind_in) i.1
kind_back (Some kind.Dir) xs i = ap (first_in kind_in) i.1

value_said : (xs : Items) → Told IsValue xs (first_in (bracketed text_in) xs)
value_said xs = text_maybe_cases (λ r. Told IsValue xs (option_map (λ r. r.0) r)) xs tt (λ v a ys e. (a, (ys, e)))

value_back : (v : Option (List ℕ)) (xs : Items) → IsValue v xs → first_in (bracketed text_in) xs ≡ Some v
value_back v xs i = ap (first_in (bracketed text_in)) i.1.1 ∙ ap (option_map (λ r. r.0)) (maybe_first v i.0 i.1.0)

-- ---- properties

-- a name that is read is the text itself
prop_same : (long good : Bool) (past other : PropFault) (n m : Name) → (if long then Err past else if good then Ok n else Err other) ≡ Ok m → n ≡ m
prop_same true good past other n m e = cc
prop_same false true past other n m e = cc
prop_same false false past other n m e = cc

not_less : (a b : ℕ) → nat_lt a b ≡ false → b ≤ a
not_less a b e = grind (arith, nat_tests)

-- a name's value
abbrev valued : Name → Items → Option (Name × List ℕ)
valued n rest = option_and_then (λ t. option_map (λ v. (n, v)) (short_value t.0)) (text_in rest)

short_said : (n : Name) (v : List ℕ) (more : Items) (b : Bool) → nat_lt 65536 (length v) ≡ b → prop_name_read n ≡ Ok n
    → Told IsProperty (Nested (Then (Text n) (Then (Text v) more))) (option_map (λ v. (n, v)) (if b then None else Some v))
short_said n v more true e k = tt
short_said n v more false e k = ((more, refl), k, not_less 65536 (length v) e)

valued_said : (n : Name) (rest : Items) → prop_name_read n ≡ Ok n → Told IsProperty (Nested (Then (Text n) rest)) (valued n rest)
valued_said n (Then (Text v) more) k = short_said n v more (nat_lt 65536 (length v)) refl k
valued_said n _ k = tt

property_named : (n : Name) (rest : Items) (r : Result Name PropFault) → prop_name_read n ≡ r → Told IsProperty (Nested (Then (Text n) rest)) (option_and_then (λ m. valued m.0 m.1) (right r rest))
property_named n rest (Err f) e = tt
property_named n rest (Ok m) e =
    let same : n ≡ m = prop_same (nat_lt 255 (length n)) (is_prop_name n) _ _ n m e in
    subst (λ k. Told IsProperty (Nested (Then (Text n) rest)) (valued k rest)) same (valued_said n rest (e ∙ ap Ok (sym same)))

property_said : (x : Item) → Told IsProperty x (property_in x)
property_said (Nested (Then (Text n) rest)) = property_named n rest (prop_name_read n) refl
property_said _ = tt

property_back : (e : Name × List ℕ) (x : Item) → IsProperty e x → property_in x ≡ Some e
property_back e x i =
    ap property_in i.0.1
    ∙ ap (λ (r : Result Name PropFault). option_and_then (λ m. valued m.0 m.1) (right r (Then (Text e.1) i.0.0))) i.1
    ∙ ap (λ b. option_map (λ v. (e.0, v)) (if b then None else Some e.1)) (not_longer 65536 (length e.1) i.2)

-- properties that are put among others
abbrev Puts : PropMap → PropMap → Items → Type 0
Puts old new xs = (es : List (Name × List ℕ)) × Each IsProperty es xs × Put old es new

puts_more : (old : PropMap) (e : Name × List ℕ) (x : Item) (xs : Items) (o : Option PropMap) → IsProperty e x → props_fit (finite.insert old e.0 e.1) ≡ true
    → Told (Puts (finite.insert old e.0 e.1)) xs o → Told (Puts old) (Then x xs) o
puts_more old e x xs None i fit h = tt
puts_more old e x xs (Some new) i fit h = (e ∷ h.0, (i, h.1), (fit, h.2))

puts_fit : (old : PropMap) (e : Name × List ℕ) (x : Item) (xs : Items) (b : Bool) → props_fit (finite.insert old e.0 e.1) ≡ b → IsProperty e x
    → Told (Puts (finite.insert old e.0 e.1)) xs (properties_of (finite.insert old e.0 e.1) xs)
    → Told (Puts old) (Then x xs) (option_and_then (λ n. properties_of n xs) (if b then Some (finite.insert old e.0 e.1) else None))
puts_fit old e x xs true fit i h = puts_more old e x xs (properties_of (finite.insert old e.0 e.1) xs) i fit h
puts_fit old e x xs false fit i h = tt

puts_next : (old : PropMap) (x : Item) (xs : Items) (o : Option (Name × List ℕ)) → Told IsProperty x o → ((n : PropMap) → Told (Puts n) xs (properties_of n xs))
    → Told (Puts old) (Then x xs) (option_and_then (λ n. properties_of n xs) (option_and_then (with_property old) o))
puts_next old x xs None i h = tt
puts_next old x xs (Some e) i h = puts_fit old e x xs (props_fit (finite.insert old e.0 e.1)) refl i (h (finite.insert old e.0 e.1))

puts_said : (old : PropMap) (xs : Items) → Told (Puts old) xs (properties_of old xs)
puts_said old End = ([], refl, refl)
puts_said old (Then x xs) = puts_next old x xs (property_in x) (property_said x) (λ n. puts_said n xs)

puts_back : (old : PropMap) (es : List (Name × List ℕ)) (xs : Items) (new : PropMap) → Each IsProperty es xs → Put old es new → properties_of old xs ≡ Some new
puts_back old [] xs new i p = ap (properties_of old) i ∙ ap Some (sym p)
puts_back old (e ∷ es) End new i p = absurd i
puts_back old (e ∷ es) (Then x xs) new i p =
    ap (λ o. option_and_then (λ n. properties_of n xs) (option_and_then (with_property old) o)) (property_back e x i.0)
    ∙ ap (λ b. option_and_then (λ n. properties_of n xs) (if b then Some (finite.insert old e.0 e.1) else None)) p.0
    ∙ puts_back (finite.insert old e.0 e.1) es xs new i.1 p.1

props_back : (m : PropMap) (xs : Items) → AreProps m xs → properties_of finite.empty xs ≡ Some m
props_back m xs i = puts_back finite.empty i.0 xs m i.1 i.2

-- properties that were read, and what stands behind them
abbrev props_behind : Items → Option PropMap → Read PropMap
props_behind more o = option_map (λ m. (m, more)) o

proplist_said : (xs : Items) → Told HasProps xs (first_in props_in xs)
proplist_said (Then (Nested ps) more) = by_props (properties_of finite.empty ps) (puts_said finite.empty ps)
  where
    by_props : (o : Option PropMap) → Told AreProps ps o → Told HasProps (Then (Nested ps) more) (option_map (λ r. r.0) (props_behind more o))
    by_props None h = tt
    by_props (Some m) h = (ps, (more, refl), h)
proplist_said _ = tt

proplist_back : (m : PropMap) (xs : Items) → HasProps m xs → first_in props_in xs ≡ Some m
proplist_back m xs i = ap (first_in props_in) i.1.1 ∙ ap (λ o. option_map (λ r. r.0) (props_behind i.1.0 o)) (props_back m i.0 i.2)

revprops_said : (x : Item) → Told AreRevprops x (revprops_in x)
revprops_said (Nested (Then (Word w) rest)) =
    word_test (λ b. Told AreRevprops (Nested (Then (Word w) rest)) (if b then first_in props_in rest else None)) w (codes "revprops")
    (by_props (first_in props_in rest) (proplist_said rest)) tt
  where
    by_props : (o : Option PropMap) → Told HasProps rest o → w ≡ codes "revprops" → Told AreRevprops (Nested (Then (Word w) rest)) o
    by_props None h e = tt
    by_props (Some m) h e = (h.0, (h.1.0, ap (λ v. Nested (Then (Word v) rest)) e ∙ ap (λ r. Nested (Then (Word (codes "revprops")) r)) h.1.1), h.2)
revprops_said _ = tt

revprops_back : (m : PropMap) (x : Item) → AreRevprops m x → revprops_in x ≡ Some m
revprops_back m x i = ap revprops_in i.1.1 ∙ ap (λ o. option_map (λ r. r.0) (props_behind i.1.0 o)) (props_back m i.0 i.2)

-- ---- browsing

name_tested : (long good : Bool) (past other : PathFault) (n m : Name) → (if long then Err past else if good then Ok n else Err other) ≡ Ok m → n ≡ m
name_tested true good past other n m e = cc
name_tested false true past other n m e = cc
name_tested false false past other n m e = cc

name_same : (n m : Name) → name_read n ≡ Ok m → n ≡ m
unfolding name_read
name_same n m e = name_tested (is_long_name n) (is_name n) _ _ n m e

-- what follows an entry's name, and its kind, size, whether it has properties, its revision and date
abbrev behind_name : Name → Items → Option Dirent
behind_name n ys = option_and_then (λ k. option_and_then (λ s. dirent_with n k.0 s.0 s.1) (number_in k.1)) (node_kind_in ys)

abbrev entry_of : Name → NodeKind → ℕ → Bool → ℕ → Option (List ℕ) → Option (List ℕ) → Dirent
entry_of n k size has created date author = record { name = n; kind = k; size = size; has_props = has; created = created; date = date; author = author }

behind_said : (n : Name) (rest : Items) → name_read n ≡ Ok n → Told IsDirent (Nested (Then (Text n) rest)) (behind_name n rest)
behind_said n rest same =
    let P : Option Dirent → Type 0 = Told IsDirent (Nested (Then (Text n) rest)) in
    node_kind_cases (λ r. P (option_and_then (λ k. option_and_then (λ s. dirent_with n k.0 s.0 s.1) (number_in k.1)) r)) rest tt (λ k ys e1.
    number_cases (λ r. P (option_and_then (λ s. dirent_with n k s.0 s.1) r)) ys tt (λ size zs e2.
    truth_cases (λ r. P (option_and_then (λ h. option_and_then (λ c. option_and_then (λ d. option_map (λ a. entry_of n k size h.0 c.0 d.0 a.0) (bracketed text_in d.1)) (bracketed text_in c.1)) (number_in h.1)) r)) zs tt (λ has us e3.
    number_cases (λ r. P (option_and_then (λ c. option_and_then (λ d. option_map (λ a. entry_of n k size has c.0 d.0 a.0) (bracketed text_in d.1)) (bracketed text_in c.1)) r)) us tt (λ created vs e4.
    text_maybe_cases (λ r. P (option_and_then (λ d. option_map (λ a. entry_of n k size has created d.0 a.0) (bracketed text_in d.1)) r)) vs tt (λ date a ws e5.
    text_maybe_cases (λ r. P (option_map (λ u. entry_of n k size has created date u.0) r)) ws tt (λ author b more e6. (
      a,
      b,
      (more, ap (λ r. Nested (Then (Text n) r)) (e1 ∙ ap (Then (Word (node_kind_word k))) (e2 ∙ ap (Then (Number size)) (e3 ∙ ap (Then (Word (truth_word has))) (e4 ∙ ap (Then (Number created)) (e5 ∙ ap (Then (perhaps_text date a)) e6)))))),
      same,
    )))))))

dirent_named : (n : Name) (rest : Items) (r : Result Name PathFault) → name_read n ≡ r → Told IsDirent (Nested (Then (Text n) rest)) (option_and_then (λ m. behind_name m.0 m.1) (right r rest))
dirent_named n rest (Err f) e = tt
dirent_named n rest (Ok m) e =
    let same : n ≡ m = name_same n m e in
    subst (λ k. Told IsDirent (Nested (Then (Text n) rest)) (behind_name k rest)) same (behind_said n rest (e ∙ ap Ok (sym same)))

dirent_said : (x : Item) → Told IsDirent x (dirent_in x)
dirent_said (Nested (Then (Text n) rest)) = dirent_named n rest (name_read n) refl
dirent_said _ = tt

rest_back : (n : Name) (k : NodeKind) (size : ℕ) (has : Bool) (created : ℕ) (date author : Option (List ℕ)) (a b more : Items)
    → dirent_with n k size (and_more (Word (truth_word has) ∷ Number created ∷ perhaps_text date a ∷ perhaps_text author b ∷ []) more) ≡ Some (entry_of n k size has created date author)
rest_back n k size true created None None a b more = refl
rest_back n k size true created None (Some u) a b more = refl
rest_back n k size true created (Some d) None a b more = refl
rest_back n k size true created (Some d) (Some u) a b more = refl
rest_back n k size false created None None a b more = refl
rest_back n k size false created None (Some u) a b more = refl
rest_back n k size false created (Some d) None a b more = refl
rest_back n k size false created (Some d) (Some u) a b more = refl

kinded_back : (n : Name) (k : NodeKind) (size : ℕ) (rest : Items) → behind_name n (Then (Word (node_kind_word k)) (Then (Number size) rest)) ≡ dirent_with n k size rest
kinded_back n kind.File size rest = refl
kinded_back n kind.Dir size rest = refl

pub dirent_back : (d : Dirent) (x : Item) → IsDirent d x → dirent_in x ≡ Some d
dirent_back d x i =
    let rest = and_more (Word (truth_word d.has_props) ∷ Number d.created ∷ perhaps_text d.date i.0 ∷ perhaps_text d.author i.1 ∷ []) i.2.0 in
    ap dirent_in i.2.1
    ∙ ap (λ (r : Result Name PathFault). option_and_then (λ m. behind_name m.0 m.1) (right r (Then (Word (node_kind_word d.kind)) (Then (Number d.size) rest)))) i.3
    ∙ kinded_back d.name d.kind d.size rest
    ∙ rest_back d.name d.kind d.size d.has_props d.created d.date d.author i.0 i.1 i.2.0

file_said : (xs : Items) → Told IsFile xs (file_in xs)
file_said xs = text_maybe_cases (λ r. Told IsFile xs (option_and_then (λ s. option_and_then (λ r. option_map (λ p. record { sum = s.0; revision = r.0; props = p.0 }) (props_in r.1)) (number_in s.1)) r)) xs tt by_rest
  where
    by_props : (sum : Option (List ℕ)) (a : Items) (n : ℕ) (ps more : Items) (o : Option PropMap) → Told AreProps ps o → xs ≡ and_more (perhaps_text sum a ∷ Number n ∷ Nested ps ∷ []) more
        → Told IsFile xs (option_map (λ p. record { sum = sum; revision = n; props = p.0 }) (props_behind more o))
    by_props sum a n ps more None h e = tt
    by_props sum a n ps more (Some m) h e = (a, ps, (more, e), h)

    by_rest : (sum : Option (List ℕ)) (a ys : Items) → xs ≡ Then (perhaps_text sum a) ys
        → Told IsFile xs (option_and_then (λ r. option_map (λ p. record { sum = sum; revision = r.0; props = p.0 }) (props_in r.1)) (number_in ys))
    by_rest sum a (Then (Number n) (Then (Nested ps) more)) e = by_props sum a n ps more (properties_of finite.empty ps) (puts_said finite.empty ps) e
    by_rest sum a _ e = tt

file_back : (f : FileFound) (xs : Items) → IsFile f xs → file_in xs ≡ Some f
file_back f xs i =
    ap file_in i.2.1
    ∙ ap (λ (r : Read (Option (List ℕ))). option_and_then (λ s. option_and_then (λ r. option_map (λ p. record { sum = s.0; revision = r.0; props = p.0 }) (props_in r.1)) (number_in s.1)) r) (maybe_first f.sum i.0 (and_more (Number f.revision ∷ Nested i.1 ∷ []) i.2.0))
    ∙ ap (λ (o : Option PropMap). option_map (λ p. record { sum = f.sum; revision = f.revision; props = p.0 }) (props_behind i.2.0 o)) (props_back f.props i.1 i.3)

-- what is read of a directory behind its revision and properties
abbrev entries_with : ℕ → PropMap → Items → Option DirFound
entries_with n m ys = option_and_then (λ l. option_map (λ es. record { revision = n; props = m; entries = es }) (each dirent_in l.0)) (list_in ys)

dir_said : (xs : Items) → Told IsDir xs (dir_in xs)
dir_said (Then (Number n) (Then (Nested ps) rest)) = by_props (properties_of finite.empty ps) (puts_said finite.empty ps)
  where
    xs : Items
    xs = Then (Number n) (Then (Nested ps) rest)

    by_entries : (m : PropMap) → AreProps m ps → (es more : Items) → rest ≡ Then (Nested es) more → (o : Option (List Dirent)) → Told (Each IsDirent) es o
        → Told IsDir (Then (Number n) (Then (Nested ps) rest)) (option_map (λ es. record { revision = n; props = m; entries = es }) o)
    by_entries m h es more e None k = tt
    by_entries m h es more e (Some ds) k = (ps, es, (more, ap (λ r. Then (Number n) (Then (Nested ps) r)) e), h, k)

    by_rest : (m : PropMap) → AreProps m ps → (ys : Items) → rest ≡ ys → Told IsDir (Then (Number n) (Then (Nested ps) rest)) (entries_with n m ys)
    by_rest m h (Then (Nested es) more) e = by_entries m h es more e (each dirent_in es) (each_said IsDirent dirent_in dirent_said es)
    by_rest m h _ e = tt

    by_props : (o : Option PropMap) → Told AreProps ps o → Told IsDir (Then (Number n) (Then (Nested ps) rest)) (option_and_then (λ p. entries_with n p.0 p.1) (props_behind rest o))
    by_props None h = tt
    by_props (Some m) h = by_rest m h rest refl
dir_said _ = tt

dir_back : (d : DirFound) (xs : Items) → IsDir d xs → dir_in xs ≡ Some d
dir_back d xs i =
    ap dir_in i.2.1
    ∙ ap (λ (o : Option PropMap). option_and_then (λ p. entries_with d.revision p.0 p.1) (props_behind (Then (Nested i.1) i.2.0) o)) (props_back d.props i.0 i.3)
    ∙ ap (λ (o : Option (List Dirent)). option_map (λ es. record { revision = d.revision; props = d.props; entries = es }) o) (each_back IsDirent dirent_in dirent_back d.entries i.1 i.4)

-- ---- both ways

exactly : {S T : Type 0} (Is : T → S → Type 0) (reading : S → Option T) → ((x : S) → Told Is x (reading x)) → ((t : T) (x : S) → Is t x → reading x ≡ Some t) → Exactly Is reading
exactly Is reading said back = λ t x. (back t x, λ e. subst (Told Is x) e (said x))

pub prototypes : PrototypesAreRead
prototypes = record {
  of_greeting = exactly IsGreeting greeting_in greeting_said greeting_back;
  of_hello = exactly IsHello hello_in hello_said hello_back;
  of_mechanisms = exactly AreMechanisms mechanisms_in mechanisms_said mechanisms_back;
  of_login = exactly IsLogin login_in login_said login_back;
  of_welcome = exactly IsWelcome welcome_in welcome_said welcome_back;
  of_refused = exactly IsRefused refused_in refused_said refused_back;
  of_reply = exactly IsReply reply_in reply_said reply_back;
  of_content = exactly HasContent content_in content_said content_back;
  of_number = exactly IsNumber (first_in number_in) number_said number_back;
  of_kind = exactly IsKind (first_in kind_in) kind_told kind_back;
  of_value = exactly IsValue (first_in (bracketed text_in)) value_said value_back;
  of_proplist = exactly HasProps (first_in props_in) proplist_said proplist_back;
  of_revprops = exactly AreRevprops revprops_in revprops_said revprops_back;
  of_dirent = exactly IsDirent dirent_in dirent_said dirent_back;
  of_file = exactly IsFile file_in file_said file_back;
  of_dir = exactly IsDir dir_in dir_said dir_back;
}

none_some : {T : Type 0} (t : T) → None ≡ Some t → ⊥
none_some t e = cc

-- what a call answers, by what it read
pub judges : {S T A : Type 0} (Is : T → S → Type 0) (view : A → T) (reading : S → Option T) → Exactly Is reading → (x : S) (r : Result A WireFault)
    → IfOk r (λ a. reading x ≡ Some (view a)) → IfErr r (NotRead (reading x)) → Judges Is view x r
judges Is view reading both x (Ok a) read none = (both (view a) x).1 read
judges Is view reading both x (Err fault.BadShape) read none = λ t i. none_some t (sym none ∙ (both t x).0 i)
judges Is view reading both x (Err fault.OutOfMemory) read none = tt
judges Is view reading both x (Err fault.ReplayForm) read none = none
judges Is view reading both x (Err fault.UnknownCommand) read none = none

-- the same of what stands in front
pub judges_first : {T A : Type 0} (Is : T → Items → Type 0) (view : A → T) (what : Items → Read T) → Exactly Is (first_in what) → (xs rest : Items) (r : Result A WireFault)
    → IfOk r (λ a. what xs ≡ Some (view a, rest)) → IfErr r (NotRead (what xs)) → Judges Is view xs r
judges_first Is view what both xs rest (Ok a) read none = (both (view a) xs).1 (ap (option_map (λ r. r.0)) read)
judges_first Is view what both xs rest (Err fault.BadShape) read none = λ t i. none_some t (sym (ap (option_map (λ r. r.0)) none) ∙ (both t xs).0 i)
judges_first Is view what both xs rest (Err fault.OutOfMemory) read none = tt
judges_first Is view what both xs rest (Err fault.ReplayForm) read none = none
judges_first Is view what both xs rest (Err fault.UnknownCommand) read none = none
