-- What is written is read again.
use Rattle.std.proofs.Common.{◌≡◌, ℕ, Bool, true, false, List, [], ◌∷◌, ap, ◌∙◌, refl, inl}
use Rattle.std.specs.Prelude.{map, Option, Some, None, Result, Ok, codes}
use Rattle.std.specs.Option.{option_map, option_and_then}
use Rattle.ra_item.specs.Items.{Item, Items, End, Then, Word, Number, Text, row}
use Rattle.node_base.specs.Path.{Path, Name}
use Rattle.node_base.specs.PathText.{path_text, path_read, name_read}
use Rattle.node_base.specs.Props.{prop_name_read}
use Rattle.node_base.specs.declared.node.NodeKind.{NodeKind}
use Rattle.node_base.specs.declared.node.NodeKind.TheVariants as kind
use Rattle.ra_wire.specs.Params.{Read, right, each, text_in, number_in, bracketed}
use Rattle.ra_wire.specs.Commands.{Previous, Any, Absent, Value, Command, LatestRev, CheckPath, GetFile, GetDir, RevProplist, RevProp, ChangeProp, Replay, ReplayRange, IsAt, ANumber, AText, APath, Replacing, optional, truth_word, Forms}
use Rattle.ra_wire.specs.Requests.{replacing, command_item}
use Rattle.ra_wire.specs.Replies.{number_or_none, string, node_kind_word, dirent, kind_is, value}
use Rattle.ra_wire.specs.ReadAgain.{answered, first_in, OpeningsAreReadAgain, AnswersAreReadAgain, IsReadAgain, IsEntryReadAgain, AreEntriesReadAgain}
use Rattle.ra_wire.specs.Answers.{Dirent, dirent_with, dirent_in, kind_in, node_kind_in}
use Rattle.ra_wire.proofs.Slashes.{unslashed_same}
use Rattle.ra_wire.proofs.Judged.{formed}

-- ---- commands

-- a path that is read from its own text, and a property's name that is
abbrev pub IsPathKept : Path → Type 0
IsPathKept p = path_read (path_text p) ≡ Ok p

abbrev pub IsNameKept : Name → Type 0
IsNameKept name = prop_name_read name ≡ Ok name

-- a command whose path and name are such
abbrev pub IsKept : Command → Type 0
IsKept (CheckPath p n) = IsPathKept p
IsKept (GetFile p n props contents) = IsPathKept p
IsKept (GetDir p n props contents) = IsPathKept p
IsKept (RevProp n name) = IsNameKept name
IsKept (ChangeProp n name v old) = IsNameKept name
IsKept c = Unit {0}

path_at : (p : Path) → IsPathKept p → IsAt (APath p) (Text (path_text p))
path_at p k = (path_text p, refl, ap path_read (unslashed_same (path_text p) p k) ∙ k)

number_at : (n : Option ℕ) → IsAt (optional (option_map ANumber n)) (number_or_none n)
number_at None = refl
number_at (Some n) = (Number n, End, refl, refl)

text_at : (v : Option (List ℕ)) → IsAt (optional (option_map AText v)) (string v)
text_at None = refl
text_at (Some t) = (Text t, End, refl, refl)

replacing_at : (old : Previous) → IsAt (Replacing old) (replacing old)
replacing_at Any = (Then (Word (codes "true")) End, refl, refl)
replacing_at Absent = (Then (Word (codes "false")) End, refl, refl)
replacing_at (Value v) = (Then (Word (codes "false")) (Then (Text v) End), refl, (End, refl))

written_forms : (c : Command) → IsKept c → Forms c (command_item c)
written_forms LatestRev k = (End, (End, refl), tt)
written_forms (CheckPath p n) k = (row (Text (path_text p) ∷ number_or_none n ∷ []), (End, refl), (path_at p k, (number_at n, tt)))
written_forms (GetFile p n true true) k = (_, (End, refl), (path_at p k, (number_at n, (refl, (refl, tt)))))
written_forms (GetFile p n true false) k = (_, (End, refl), (path_at p k, (number_at n, (refl, (refl, tt)))))
written_forms (GetFile p n false true) k = (_, (End, refl), (path_at p k, (number_at n, (refl, (refl, tt)))))
written_forms (GetFile p n false false) k = (_, (End, refl), (path_at p k, (number_at n, (refl, (refl, tt)))))
written_forms (GetDir p n true true) k = (false, (_, (End, refl), (path_at p k, (number_at n, (refl, (refl, refl))))))
written_forms (GetDir p n true false) k = (false, (_, (End, refl), (path_at p k, (number_at n, (refl, (refl, refl))))))
written_forms (GetDir p n false true) k = (false, (_, (End, refl), (path_at p k, (number_at n, (refl, (refl, refl))))))
written_forms (GetDir p n false false) k = (false, (_, (End, refl), (path_at p k, (number_at n, (refl, (refl, refl))))))
written_forms (RevProplist n) k = (row (Number n ∷ []), (End, refl), (refl, tt))
written_forms (RevProp n name) k = (row (Number n ∷ Text name ∷ []), (End, refl), (refl, ((name, refl, k), tt)))
written_forms (ChangeProp n name v old) k = inl (row (Number n ∷ Text name ∷ string v ∷ replacing old ∷ []), (End, refl), (refl, ((name, refl, k), (text_at v, (replacing_at old, tt)))))
written_forms (Replay n) k = (_, (End, refl), (refl, (refl, (refl, tt))))
written_forms (ReplayRange a b) k = (_, (End, refl), (refl, (refl, (refl, (refl, tt)))))

pub command_again : (c : Command) → IsKept c → IsReadAgain c
command_again c k = formed c (command_item c) (written_forms c k)

-- ---- openings and answers

pub openings_again : OpeningsAreReadAgain
openings_again = record {
  of_greeting = refl;
  of_hello = λ url. refl;
  of_mechanisms = λ realm. refl;
  of_login = refl;
  of_welcome = λ identity url. refl;
}

-- the rest of an entry is read by cases; its name is what is read of its text
abbrev with_name : NodeKind → ℕ → Bool → ℕ → Option (List ℕ) → Option (List ℕ) → Name → Dirent
with_name k size has created date author name = record { name = name; kind = k; size = size; has_props = has; created = created; date = date; author = author }

right_same : {T E : Type 0} (r : Result T E) (x : T) (xs : Items) → r ≡ Ok x → right r xs ≡ Some (x, xs)
right_same r x xs e = ap (λ s. right s xs) e

rest_again : (name : Name) (k : NodeKind) (size : ℕ) (has : Bool) (created : ℕ) (date author : Option (List ℕ))
    → dirent_with name k size (row (Word (truth_word has) ∷ Number created ∷ string date ∷ string author ∷ [])) ≡ Some (with_name k size has created date author name)
rest_again name k size true created None None = refl
rest_again name k size true created None (Some a) = refl
rest_again name k size true created (Some d) None = refl
rest_again name k size true created (Some d) (Some a) = refl
rest_again name k size false created None None = refl
rest_again name k size false created None (Some a) = refl
rest_again name k size false created (Some d) None = refl
rest_again name k size false created (Some d) (Some a) = refl

-- what follows an entry's name
abbrev behind_name : Read Name → Option Dirent
behind_name r = option_and_then (λ n. option_and_then (λ k. option_and_then (λ s. dirent_with n.0 k.0 s.0 s.1) (number_in k.1)) (node_kind_in n.1)) r

kind_again : (name : Name) (k : NodeKind) (size : ℕ) (rest : List Item) → behind_name (Some (name, row (Word (node_kind_word k) ∷ Number size ∷ rest))) ≡ dirent_with name k size (row rest)
kind_again name kind.File size rest = refl
kind_again name kind.Dir size rest = refl

pub dirent_again : (d : Dirent) → name_read d.name ≡ Ok d.name → IsEntryReadAgain d
dirent_again d e =
    let rest = Word (truth_word d.has_props) ∷ Number d.created ∷ string d.date ∷ string d.author ∷ [] in
    ap behind_name (right_same (name_read d.name) d.name (row (Word (node_kind_word d.kind) ∷ Number d.size ∷ rest)) e)
    ∙ kind_again d.name d.kind d.size rest
    ∙ rest_again d.name d.kind d.size d.has_props d.created d.date d.author

pub dirents_again : (d : Dirent) (ds : List Dirent) → IsEntryReadAgain d → AreEntriesReadAgain ds → AreEntriesReadAgain (d ∷ ds)
dirents_again d ds one others =
    ap (λ v. option_and_then (λ e. option_map (λ es. e ∷ es) (each dirent_in (row (map dirent ds)))) v) one
    ∙ ap (option_map (λ es. d ∷ es)) others

kinds_again : (k : Option NodeKind) → answered (first_in kind_in) (kind_is k) ≡ Some k
kinds_again None = refl
kinds_again (Some kind.File) = refl
kinds_again (Some kind.Dir) = refl

values_again : (v : Option (List ℕ)) → answered (first_in (bracketed text_in)) (value v) ≡ Some v
values_again None = refl
values_again (Some v) = refl

pub answers_again : AnswersAreReadAgain
answers_again = record {
  of_authorised = refl;
  of_done = refl;
  of_failure = λ n text. refl;
  of_number = λ n. refl;
  of_kind = kinds_again;
  of_value = values_again;
}
