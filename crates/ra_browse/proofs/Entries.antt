-- Entries of a directory, one after another.
use Rattle.std.proofs.Common.{◌≡◌, List, [], ◌∷◌, ◌++◌, map, sym, ap, ◌∙◌, append_assoc, append-nil, false, true≢false, Result, Ok, Err}
use Rattle.std.specs.Prelude.{is_ok, is_err, if◌then◌else◌}
use Rattle.std.proofs.lemmas.List.{map-append}
use Rattle.node_base.specs.Path.{Name}
use Rattle.node_base.specs.declared.node.Node.{Node}
use Rattle.repo_core.specs.Repository.{Repository}
use Rattle.ra_wire.specs.Answers.{Dirent, dirent_as}
use Rattle.ra_wire.specs.declared.dirent.Dirent as declared
use Rattle.ra_browse.specs.Answers.{entry_of}

-- a push that was made
pub pushed : {T E : Type 0} (r : Result (Unit {0}) E) (new made old : List T) → new ≡ (if is_ok r then made else old) → is_err r ≡ false → new ≡ made
pushed (Ok u) new made old e h = e
pushed (Err f) new made old e h = absurd (true≢false h)

-- one entry more
pub entries_more : (x : Repository) (es new_es : List declared.Dirent) (d : declared.Dirent) (cs rest : List (Name × Node)) (all : List Dirent) → new_es ≡ es ++ d ∷ []
    → map dirent_as es ++ map (entry_of x) cs ≡ all
    → map (entry_of x) cs ≡ dirent_as d ∷ map (entry_of x) rest
    → map dirent_as new_es ++ map (entry_of x) rest ≡ all
entries_more x es new_es d cs rest all p h q =
    ap (λ l. map dirent_as l ++ map (entry_of x) rest) p
    ∙ ap (λ l. l ++ map (entry_of x) rest) (map-append dirent_as es (d ∷ []))
    ∙ append_assoc (map dirent_as es) (dirent_as d ∷ []) (map (entry_of x) rest)
    ∙ ap (λ l. map dirent_as es ++ l) (sym q)
    ∙ h

-- and none more
pub entries_all : (x : Repository) (es : List declared.Dirent) (cs : List (Name × Node)) (all : List Dirent)
    → map dirent_as es ++ map (entry_of x) cs ≡ all
    → map (entry_of x) cs ≡ []
    → map dirent_as es ≡ all
entries_all x es cs all h q = sym (append-nil (map dirent_as es)) ∙ ap (λ l. map dirent_as es ++ l) (sym q) ∙ h
