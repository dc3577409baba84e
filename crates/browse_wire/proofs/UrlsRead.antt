-- A URL is read as its root and its path.
use Rattle.std.proofs.Common.{◌≡◌, ℕ, Bool, true, false, List, [], ◌∷◌, ◌++◌, length, ap, sym, ◌∙◌, refl, inl, inr, arith, append_assoc, subst}
use Rattle.std.specs.Prelude.{◌⊎◌, ◌==◌, Option, Some, None, Result, Ok, Err, if◌then◌else◌}
use Rattle.std.specs.List.{list_all, list_any}
use Rattle.std.proofs.lemmas.List.Splits.{length-slice_split}
use Rattle.percent_encoding.specs.Percent.{percent_decode}
use Rattle.percent_encoding.proofs.PercentLemmas.{length-percent_decode}
use Rattle.node_base.specs.Path.{Path}
use Rattle.node_base.specs.PathText.{path_read, pieces, is_past_limits}
use Rattle.node_base.specs.Names.{is_name}
use Rattle.node_base.specs.declared.fault.PathFault.{PathFault}
use Rattle.node_base.specs.declared.fault.PathFault.TheVariants as bad
use Rattle.browse_wire.specs.declared.url.UrlFault.{UrlFault}
use Rattle.browse_wire.specs.declared.url.UrlFault.TheVariants as fault
use Rattle.browse_wire.specs.declared.url.SessionUrl.{SessionUrl}
use Rattle.browse_wire.specs.Urls.{IsUrl, Names, Url, is_slash, untrailed, after, before_slash, from_slash, path_behind, with_root, at_host, behind_scheme, scheme, url_read, UrlIs, IsJudged, UrlsAreRead, OneRootAndPath, BelowIsNotRoot}
use Rattle.browse_wire.proofs.UrlParts.{BeginsSlashed, Ends, rejoined, host_plain, behind_slashed, host_again, ends, begins_slashed, kept_slashed, follows}

-- ---- from a URL to what is read

names_read : (t : List ℕ) (path : Path) → Names t path → path_behind t ≡ Ok path
names_read [] path n = ap Ok (sym n)
names_read (b ∷ []) path n = absurd (n.1 refl)
names_read (b ∷ c ∷ text) path n = n.2

names_slashed : (t : List ℕ) (path : Path) → Names t path → BeginsSlashed t
names_slashed [] path n = tt
names_slashed (b ∷ text) path n = n.0

at_named : (host behind root : List ℕ) (path : Path) → (host ≡ [] → ⊥) → root ≡ scheme ++ host → path_behind (untrailed behind) ≡ Ok path → at_host host behind ≡ Ok (root, path)
at_named [] behind root path n e p = absurd (n refl)
at_named (b ∷ host) behind root path n e p = ap (with_root (scheme ++ b ∷ host)) p ∙ ap (λ r. Ok (r, path)) (sym e)

pub urls_read : UrlsAreRead
urls_read url root path u =
    let parts = host_again u.host u.behind u.no_slash (begins_slashed u.behind (names_slashed (untrailed u.behind) path u.names)) in
    let split : url ≡ scheme ++ (u.host ++ u.behind) = u.whole ∙ ap (λ r. r ++ u.behind) u.begins ∙ append_assoc scheme u.host u.behind in
    ap url_read split
    ∙ ap (λ h. at_host h (from_slash (u.host ++ u.behind))) parts.0
    ∙ ap (at_host u.host) parts.1
    ∙ at_named u.host u.behind root path u.named u.begins (names_read (untrailed u.behind) path u.names)

-- ---- and back

names_said : (t : List ℕ) (path : Path) → BeginsSlashed t → path_behind t ≡ Ok path → Names t path
names_said [] path s e = cc
names_said (b ∷ []) path s e = cc
names_said (b ∷ c ∷ text) path s e = (s, λ n. cc, e)

abbrev Said : List ℕ → Result Url UrlFault → Type 0
Said url (Ok r) = IsUrl url r.0 r.1
Said url (Err f) = Unit {0}

path_said : (url root host behind : List ℕ) (r : Result Path PathFault) → url ≡ root ++ behind → root ≡ scheme ++ host → (host ≡ [] → ⊥) → list_any is_slash host ≡ false
    → BeginsSlashed behind → path_behind (untrailed behind) ≡ r → Said url (with_root root r)
path_said url root host behind (Ok path) whole begins named plain s e = record {
  host = host;
  behind = behind;
  whole = whole;
  begins = begins;
  named = named;
  no_slash = plain;
  names = names_said (untrailed behind) path (kept_slashed behind s) e;
}
path_said url root host behind (Err bad.TooLong) whole begins named plain s e = tt
path_said url root host behind (Err bad.BadPath) whole begins named plain s e = tt
path_said url root host behind (Err bad.OutOfMemory) whole begins named plain s e = tt

host_said : (url host behind : List ℕ) → url ≡ scheme ++ (host ++ behind) → list_any is_slash host ≡ false → BeginsSlashed behind → Said url (at_host host behind)
host_said url [] behind e plain s = tt
host_said url (b ∷ host) behind e plain s =
    path_said url (scheme ++ b ∷ host) (b ∷ host) behind (path_behind (untrailed behind)) (e ∙ sym (append_assoc scheme (b ∷ host) behind)) refl (λ n. cc) plain s refl

scheme_said : (url : List ℕ) (found : Option (List ℕ)) → after scheme url ≡ found → Said url (behind_scheme found)
scheme_said url None e = tt
scheme_said url (Some text) e =
    host_said url (before_slash text) (from_slash text) (follows scheme url text e ∙ ap (λ t. scheme ++ t) (rejoined text)) (host_plain text) (behind_slashed text)

said : (url : List ℕ) → Said url (url_read url)
said url = scheme_said url (after scheme url) refl

no_url : (url : List ℕ) (f : UrlFault) → url_read url ≡ Err f → (root : List ℕ) (path : Path) → IsUrl url root path → ⊥
no_url url f e root path u = clash (sym e ∙ urls_read url root path u)
  where
    clash : ◌≡◌ {A = Result Url UrlFault} (Err f) (Ok (root, path)) → ⊥
    clash e = cc

pub judged : (url : List ℕ) (r : Result SessionUrl UrlFault) → UrlIs r (url_read url) → IsJudged url r
judged url (Ok u) e = subst (Said url) e (said url)
judged url (Err fault.OutOfMemory) e = tt
judged url (Err fault.OtherScheme) e = no_url url fault.OtherScheme e
judged url (Err fault.NoHost) e = no_url url fault.NoHost e
judged url (Err fault.TooLong) e = no_url url fault.TooLong e
judged url (Err fault.BadPath) e = no_url url fault.BadPath e
judged url (Err fault.OtherRoot) e = no_url url fault.OtherRoot e

-- ---- laws

same_ok : (a b : Url) → ◌≡◌ {A = Result Url UrlFault} (Ok a) (Ok b) → a ≡ b
same_ok a b e = cc

same_both : (root other : List ℕ) (path second : Path) → ◌≡◌ {A = Result Url UrlFault} (Ok (root, path)) (Ok (other, second)) → (root ≡ other) × (path ≡ second)
same_both root other path second e = let same = same_ok (root, path) (other, second) e in (ap (λ r. r.0) same, ap (λ r. r.1) same)

pub one_url : OneRootAndPath
one_url url root other path second u v = same_both root other path second (sym (urls_read url root path u) ∙ urls_read url other second v)

-- bytes that are some are read as some names
no_root_if : (past good : Bool) (q : Path) → (q ≡ [] → ⊥) → (if past then Err bad.TooLong else if good then Ok q else Err bad.BadPath) ≡ Ok [] → ⊥
no_root_if true good q n e = cc
no_root_if false true q n e = n cc
no_root_if false false q n e = cc

some_pieces : (b : ℕ) (bs : List ℕ) → pieces (b ∷ bs) ≡ [] → ⊥
some_pieces b bs e = short (ap length e)
  where
    short : length (pieces (b ∷ bs)) ≡ 0 → ⊥
    short h = absurd (omega (arith, length-slice_split (λ x. x == 47) (b ∷ bs), h))

no_root : (bs : List ℕ) → (bs ≡ [] → ⊥) → path_read bs ≡ Ok [] → ⊥
unfolding path_read
no_root [] n e = n refl
no_root (b ∷ bs) n e = no_root_if (is_past_limits (b ∷ bs)) (list_all is_name (pieces (b ∷ bs))) (pieces (b ∷ bs)) (some_pieces b bs) e

decoded_some : (text : List ℕ) → (text ≡ [] → ⊥) → percent_decode text ≡ [] → ⊥
decoded_some [] n e = n refl
decoded_some (b ∷ bs) n e = short (ap length e)
  where
    short : length (percent_decode (b ∷ bs)) ≡ 0 → ⊥
    short h = absurd (omega (arith, length-percent_decode (b ∷ bs), h))

below_by : (behind t : List ℕ) → Ends behind t → t ≡ [] → (behind ≡ []) ⊎ (behind ≡ 47 ∷ [])
below_by behind t (inl e) n = inl (sym e ∙ n)
below_by behind t (inr e) n = inr (e ∙ ap (λ x. x ++ 47 ∷ []) n)

nothing_named : (t : List ℕ) → Names t [] → t ≡ []
nothing_named [] n = refl
nothing_named (b ∷ text) n = absurd (no_root (percent_decode text) (decoded_some text n.1) n.2)

pub below : BelowIsNotRoot
below url root path u e = below_by u.behind (untrailed u.behind) (ends u.behind) (nothing_named (untrailed u.behind) (subst (Names (untrailed u.behind)) e u.names))
