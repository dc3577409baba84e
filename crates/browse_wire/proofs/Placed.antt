-- What is read of a field stands in front, and what stands in front is read.
use Rattle.std.proofs.Common.{◌≡◌, ℕ, Bool, true, false, List, [], ◌∷◌, ap, sym, ◌∙◌, refl, inl, inr}
use Rattle.std.specs.Prelude.{Option, Some, None, Result, Ok, Err, codes, if◌then◌else◌}
use Rattle.std.specs.Option.{option_map, option_and_then}
use Rattle.std.specs.Str.{bytes_eq}
use Rattle.std.proofs.lemmas.Slice.Eq.{bytes_eq-Decides}
use Rattle.ra_item.specs.Items.{Item, Items, End, Then, Word, Number, Text, Nested}
use Rattle.node_base.specs.Path.{Path}
use Rattle.node_base.specs.PathText.{path_read}
use Rattle.node_base.specs.declared.fault.PathFault.{PathFault}
use Rattle.ra_wire.specs.Params.{Read, text_in, number_in, bool_in, path_in, bracketed, each, right, unslashed}
use Rattle.ra_wire.specs.Prototypes.{Each}
use Rattle.browse_wire.specs.declared.fault.BrowseFault.{BrowseFault}
use Rattle.browse_wire.specs.declared.fault.BrowseFault.TheVariants as fault
use Rattle.browse_wire.specs.declared.depth.Depth.TheVariants as depth
use Rattle.browse_wire.specs.declared.depth.DepthWord.{DepthWord}
use Rattle.browse_wire.specs.declared.depth.DepthWord.TheVariants as said
use Rattle.browse_wire.specs.Depths.{IsDepth, depth_text, depth_named, depth_in}
use Rattle.browse_wire.specs.Fields.{IsNumber, IsText, IsTruth, IsPath, Maybe, Listed, First, OrMissing, path_of, number_of, text_of, each_in, or_missing, then_read}

-- what was read stands there
abbrev pub Told : {T : Type 0} → (T → Items → Items → Type 0) → Items → Read T → Type 0
Told F xs None = Unit {0}
Told F xs (Some r) = F r.0 xs r.1

-- what stands there is read
abbrev pub Back : {T : Type 0} → (T → Items → Items → Type 0) → (Items → Read T) → Type 0
Back {T} F reading = (t : T) (xs behind : Items) → F t xs behind → reading xs ≡ Some (t, behind)

pub told_next : {S T : Type 0} (P : Result T BrowseFault → Type 0) (F : S → Items → Items → Type 0) (xs : Items) (r : Read S) (next : S → Items → Result T BrowseFault)
    → Told F xs r → P (Err fault.BadShape) → ((t : S) (behind : Items) → F t xs behind → P (next t behind)) → P (then_read r next)
told_next P F xs None next told bad good = bad
told_next P F xs (Some r) next told bad good = good r.0 r.1 told

-- ---- items

pub number_told : (xs : Items) → Told (First IsNumber) xs (number_in xs)
number_told (Then (Number n) xs) = (Number n, refl, refl)
number_told _ = tt

pub number_back : Back (First IsNumber) number_in
number_back n xs behind f = ap number_in f.1 ∙ ap (λ x. number_in (Then x behind)) f.2

pub text_told : (xs : Items) → Told (First IsText) xs (text_in xs)
text_told (Then (Text t) xs) = (Text t, refl, refl)
text_told _ = tt

pub text_back : Back (First IsText) text_in
text_back t xs behind f = ap text_in f.1 ∙ ap (λ x. text_in (Then x behind)) f.2

right_told : (t : List ℕ) (xs : Items) (r : Result Path PathFault) → path_read (unslashed t) ≡ r → Told (First IsPath) (Then (Text t) xs) (right r xs)
right_told t xs (Ok p) e = (Text t, refl, (t, refl, e))
right_told t xs (Err f) e = tt

pub path_told : (xs : Items) → Told (First IsPath) xs (path_in xs)
path_told (Then (Text t) xs) = right_told t xs (path_read (unslashed t)) refl
path_told _ = tt

pub path_back : Back (First IsPath) path_in
path_back p xs behind f = ap path_in f.1 ∙ ap (λ x. path_in (Then x behind)) f.2.1 ∙ ap (λ r. right r behind) f.2.2

-- one of the two words, by two tests
truth_told_if : (w : List ℕ) (xs : Items) (p q : Bool) → (p ≡ true → w ≡ codes "true") → (q ≡ true → w ≡ codes "false")
    → Told (First IsTruth) (Then (Word w) xs) (if p then Some (true, xs) else if q then Some (false, xs) else None)
truth_told_if w xs true q f g = (Word w, refl, ap Word (f refl))
truth_told_if w xs false true f g = (Word w, refl, ap Word (g refl))
truth_told_if w xs false false f g = tt

pub truth_told : (xs : Items) → Told (First IsTruth) xs (bool_in xs)
truth_told (Then (Word w) xs) = truth_told_if w xs (bytes_eq w (codes "true")) (bytes_eq w (codes "false")) (bytes_eq-Decides w (codes "true")).0 (bytes_eq-Decides w (codes "false")).0
truth_told _ = tt

pub truth_back : Back (First IsTruth) bool_in
truth_back true xs behind f = ap bool_in f.1 ∙ ap (λ x. bool_in (Then x behind)) f.2
truth_back false xs behind f = ap bool_in f.1 ∙ ap (λ x. bool_in (Then x behind)) f.2

-- the depth of a word
abbrev IsNamed : List ℕ → Option DepthWord → Type 0
IsNamed w None = Unit {0}
IsNamed w (Some d) = w ≡ depth_text d

named_if : (w k : List ℕ) (d : DepthWord) (rest : Option DepthWord) (b : Bool) → (b ≡ true → w ≡ k) → k ≡ depth_text d → IsNamed w rest → IsNamed w (if b then Some d else rest)
named_if w k d rest true is e h = is refl ∙ e
named_if w k d rest false is e h = h

abbrev word_if : (w k : List ℕ) (d : DepthWord) (rest : Option DepthWord) → k ≡ depth_text d → IsNamed w rest → IsNamed w (if bytes_eq w k then Some d else rest)
word_if w k d rest e h = named_if w k d rest (bytes_eq w k) (bytes_eq-Decides w k).0 e h

is_named : (w : List ℕ) → IsNamed w (depth_named w)
is_named w =
    word_if w (codes "empty") (said.Known depth.Empty) _ refl
    (word_if w (codes "files") (said.Known depth.Files) _ refl
    (word_if w (codes "immediates") (said.Known depth.Immediates) _ refl
    (word_if w (codes "infinity") (said.Known depth.Infinity) _ refl
    (word_if w (codes "unknown") said.AsReported _ refl
    (word_if w (codes "exclude") said.Excluded None refl tt)))))

depth_told_by : (w : List ℕ) (xs : Items) (o : Option DepthWord) → IsNamed w o → Told (First IsDepth) (Then (Word w) xs) (option_map (λ d. (d, xs)) o)
depth_told_by w xs None h = tt
depth_told_by w xs (Some d) h = (Word w, refl, ap Word h)

pub depth_told : (xs : Items) → Told (First IsDepth) xs (depth_in xs)
depth_told (Then (Word w) xs) = depth_told_by w xs (depth_named w) (is_named w)
depth_told _ = tt

depth_again : (d : DepthWord) → depth_named (depth_text d) ≡ Some d
depth_again (said.Known depth.Empty) = refl
depth_again (said.Known depth.Files) = refl
depth_again (said.Known depth.Immediates) = refl
depth_again (said.Known depth.Infinity) = refl
depth_again said.AsReported = refl
depth_again said.Excluded = refl

pub depth_back : Back (First IsDepth) depth_in
depth_back d xs behind f = ap depth_in f.1 ∙ ap (λ x. depth_in (Then x behind)) f.2 ∙ ap (option_map (λ k. (k, behind))) (depth_again d)

-- ---- brackets with something or nothing

maybe_told_some : {T : Type 0} (Is : T → Item → Type 0) (y : Item) (more xs : Items) (o : Read T) → Told (First Is) (Then y more) o
    → Told (First (Maybe Is)) (Then (Nested (Then y more)) xs) (option_map (λ v. (v, xs)) (option_map (λ r. Some r.0) o))
maybe_told_some Is y more xs None h = tt
maybe_told_some Is y more xs (Some r) h = (Nested (Then y more), refl, (h.0, r.1, ap Nested h.1, h.2))

pub maybe_told : {T : Type 0} (Is : T → Item → Type 0) (what : Items → Read T) → ((xs : Items) → Told (First Is) xs (what xs)) → (xs : Items) → Told (First (Maybe Is)) xs (bracketed what xs)
maybe_told Is what told (Then (Nested End) xs) = (Nested End, refl, refl)
maybe_told Is what told (Then (Nested (Then y more)) xs) = maybe_told_some Is y more xs (what (Then y more)) (told (Then y more))
maybe_told Is what told _ = tt

maybe_back_by : {T : Type 0} (Is : T → Item → Type 0) (what : Items → Read T) → Back (First Is) what → (o : Option T) (x : Item) (behind : Items) → Maybe Is o x → bracketed what (Then x behind) ≡ Some (o, behind)
maybe_back_by Is what back None x behind m = ap (λ y. bracketed what (Then y behind)) m
maybe_back_by Is what back (Some t) x behind m =
    ap (λ y. bracketed what (Then y behind)) m.2
    ∙ ap (λ r. option_map (λ o. (o, behind)) (option_map (λ s. Some s.0) r)) (back t (Then m.0 m.1) m.1 (m.0, refl, m.3))

pub maybe_back : {T : Type 0} (Is : T → Item → Type 0) (what : Items → Read T) → Back (First Is) what → Back (First (Maybe Is)) (bracketed what)
maybe_back Is what back o xs behind f = ap (bracketed what) f.1 ∙ maybe_back_by Is what back o f.0 behind f.2

-- ---- lists

abbrev OneTold : {T : Type 0} → (T → Item → Type 0) → Item → Option T → Type 0
OneTold Is x None = Unit {0}
OneTold Is x (Some t) = Is t x

abbrev EachTold : {T : Type 0} → (T → Item → Type 0) → Items → Option (List T) → Type 0
EachTold Is ys None = Unit {0}
EachTold Is ys (Some ts) = Each Is ts ys

each_more : {T : Type 0} (Is : T → Item → Type 0) (x : Item) (ys : Items) (o : Option T) (p : Option (List T)) → OneTold Is x o → EachTold Is ys p
    → EachTold Is (Then x ys) (option_and_then (λ v. option_map (λ vs. v ∷ vs) p) o)
each_more Is x ys None p f g = tt
each_more Is x ys (Some t) None f g = tt
each_more Is x ys (Some t) (Some ts) f g = (f, g)

each_told : {T : Type 0} (Is : T → Item → Type 0) (what : Item → Option T) → ((x : Item) → OneTold Is x (what x)) → (ys : Items) → EachTold Is ys (each what ys)
each_told Is what told End = refl
each_told Is what told (Then x ys) = each_more Is x ys (what x) (each what ys) (told x) (each_told Is what told ys)

each_back : {T : Type 0} (Is : T → Item → Type 0) (what : Item → Option T) → ((t : T) (x : Item) → Is t x → what x ≡ Some t) → (ts : List T) (ys : Items) → Each Is ts ys → each what ys ≡ Some ts
each_back Is what back [] ys e = ap (each what) e
each_back Is what back (t ∷ ts) End e = absurd e
each_back Is what back (t ∷ ts) (Then x ys) e =
    ap (option_and_then (λ v. option_map (λ vs. v ∷ vs) (each what ys))) (back t x e.0) ∙ ap (option_map (λ vs. t ∷ vs)) (each_back Is what back ts ys e.1)

all_told_by : {T : Type 0} (Is : T → Item → Type 0) (ys xs : Items) (o : Option (List T)) → EachTold Is ys o → Told (First (Listed Is)) (Then (Nested ys) xs) (option_map (λ ts. (ts, xs)) o)
all_told_by Is ys xs None h = tt
all_told_by Is ys xs (Some ts) h = (Nested ys, refl, (ys, refl, h))

all_told : {T : Type 0} (Is : T → Item → Type 0) (what : Item → Option T) → ((x : Item) → OneTold Is x (what x)) → (xs : Items) → Told (First (Listed Is)) xs (each_in what xs)
all_told Is what told (Then (Nested ys) xs) = all_told_by Is ys xs (each what ys) (each_told Is what told ys)
all_told Is what told _ = tt

all_back : {T : Type 0} (Is : T → Item → Type 0) (what : Item → Option T) → ((t : T) (x : Item) → Is t x → what x ≡ Some t) → Back (First (Listed Is)) (each_in what)
all_back Is what back ts xs behind f =
    ap (each_in what) f.1 ∙ ap (λ x. each_in what (Then x behind)) f.2.1 ∙ ap (option_map (λ l. (l, behind))) (each_back Is what back ts f.2.0 f.2.2)

path_one_if : (t : List ℕ) (r : Result Path PathFault) → path_read (unslashed t) ≡ r → OneTold IsPath (Text t) (elim r [ Ok p ↦ Some p | Err e ↦ None ])
path_one_if t (Ok p) e = (t, refl, e)
path_one_if t (Err f) e = tt

path_one : (x : Item) → OneTold IsPath x (path_of x)
path_one (Text t) = path_one_if t (path_read (unslashed t)) refl
path_one _ = tt

path_one_back : (p : Path) (x : Item) → IsPath p x → path_of x ≡ Some p
path_one_back p x f = ap path_of f.1 ∙ ap (λ r. elim r [ Ok q ↦ Some q | Err e ↦ None ]) f.2

number_one : (x : Item) → OneTold IsNumber x (number_of x)
number_one (Number n) = refl
number_one _ = tt

number_one_back : (n : ℕ) (x : Item) → IsNumber n x → number_of x ≡ Some n
number_one_back n x f = ap number_of f

text_one : (x : Item) → OneTold IsText x (text_of x)
text_one (Text t) = refl
text_one _ = tt

text_one_back : (t : List ℕ) (x : Item) → IsText t x → text_of x ≡ Some t
text_one_back t x f = ap text_of f

pub paths_told : (xs : Items) → Told (First (Listed IsPath)) xs (each_in path_of xs)
paths_told xs = all_told IsPath path_of path_one xs

pub paths_back : Back (First (Listed IsPath)) (each_in path_of)
paths_back = all_back IsPath path_of path_one_back

pub numbers_told : (xs : Items) → Told (First (Listed IsNumber)) xs (each_in number_of xs)
numbers_told xs = all_told IsNumber number_of number_one xs

pub numbers_back : Back (First (Listed IsNumber)) (each_in number_of)
numbers_back = all_back IsNumber number_of number_one_back

pub texts_told : (xs : Items) → Told (First (Listed IsText)) xs (each_in text_of xs)
texts_told xs = all_told IsText text_of text_one xs

pub texts_back : Back (First (Listed IsText)) (each_in text_of)
texts_back = all_back IsText text_of text_one_back

-- ---- what may be missing

some_or : {T : Type 0} (Is : T → Item → Type 0) (d : T) (xs : Items) (o : Read T) → Told (First Is) xs o → Told (OrMissing (First Is) d) xs o
some_or Is d xs None h = tt
some_or Is d xs (Some r) h = inl h

pub or_told : {T : Type 0} (Is : T → Item → Type 0) (what : Items → Read T) (d : T) → ((xs : Items) → Told (First Is) xs (what xs)) → (xs : Items) → Told (OrMissing (First Is) d) xs (or_missing what d xs)
or_told Is what d told End = inr (refl, refl, refl)
or_told Is what d told (Then x xs) = some_or Is d (Then x xs) (what (Then x xs)) (told (Then x xs))

or_there : {T : Type 0} (Is : T → Item → Type 0) (what : Items → Read T) (d : T) → Back (First Is) what → (t : T) (xs behind : Items) → First Is t xs behind → or_missing what d xs ≡ Some (t, behind)
or_there Is what d back t xs behind f = ap (or_missing what d) f.1 ∙ back t (Then f.0 behind) behind (f.0, refl, f.2)

pub or_back : {T : Type 0} (Is : T → Item → Type 0) (what : Items → Read T) (d : T) → Back (First Is) what → Back (OrMissing (First Is) d) (or_missing what d)
or_back Is what d back t xs behind (inl f) = or_there Is what d back t xs behind f
or_back Is what d back t xs behind (inr f) = ap (or_missing what d) f.0 ∙ ap (λ p. Some (d, p)) (sym f.1) ∙ ap (λ p. Some (p, behind)) (sym f.2)
