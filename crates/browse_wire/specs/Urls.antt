-- The URL of a session: `svn://HOST[:PORT][/PATH]`.
use Rattle.std.specs.Prelude.{◌≡◌, ◌⊎◌, ℕ, Bool, false, ◌==◌, List, [], ◌∷◌, ◌++◌, reverse, Option, Some, None, Result, Ok, Err, codes, if◌then◌else◌}
use Rattle.std.specs.List.{list_any}
use Rattle.percent_encoding.specs.Percent.{percent_decode}
use Rattle.node_base.specs.Path.{Path}
use Rattle.node_base.specs.PathText.{path_read}
use Rattle.node_base.specs.declared.fault.PathFault.{PathFault}
use Rattle.node_base.specs.declared.fault.PathFault.TheVariants as bad
use Rattle.browse_wire.specs.declared.url.UrlFault.{UrlFault}
use Rattle.browse_wire.specs.declared.url.UrlFault.TheVariants as fault
use Rattle.browse_wire.specs.declared.url.SessionUrl.{SessionUrl}

-- ---- what a URL is

abbrev pub scheme : List ℕ
scheme = codes "svn://"

abbrev pub is_slash : ℕ → Bool
is_slash b = b == 47

-- bytes without a slash at their end, by what they are from the last to the first
abbrev pub without : List ℕ → List ℕ → List ℕ
without bs [] = []
without bs (b ∷ front) = if b == 47 then reverse front else bs

abbrev pub untrailed : List ℕ → List ℕ
untrailed bs = without bs (reverse bs)

-- behind a host stand nothing and so the root, or a slash and the percent-encoded names with a slash between each two
abbrev pub Names : List ℕ → Path → Type 0
Names [] path = path ≡ []
Names (b ∷ text) path = (b ≡ 47) × (text ≡ [] → ⊥) × (path_read (percent_decode text) ≡ Ok path)

-- a root, which is the scheme and a host with its port or without, and behind it a path, with a slash at its end or without
pub record IsUrl (url root : List ℕ) (path : Path) : Type 0 where
  pub host : List ℕ
  pub behind : List ℕ
  pub whole : url ≡ root ++ behind
  pub begins : root ≡ scheme ++ host
  pub named : host ≡ [] → ⊥
  pub no_slash : list_any is_slash host ≡ false
  pub names : Names (untrailed behind) path

-- ---- how it is read

-- what follows a front
abbrev pub after : List ℕ → List ℕ → Option (List ℕ)
after [] text = Some text
after (b ∷ bs) [] = None
after (b ∷ bs) (c ∷ cs) = if b == c then after bs cs else None

-- what stands before the first slash, and what stands from there on
abbrev pub before_slash : List ℕ → List ℕ
before_slash [] = []
before_slash (b ∷ bs) = if b == 47 then [] else b ∷ before_slash bs

abbrev pub from_slash : List ℕ → List ℕ
from_slash [] = []
from_slash (b ∷ bs) = if b == 47 then b ∷ bs else from_slash bs

abbrev pub path_behind : List ℕ → Result Path PathFault
path_behind [] = Ok []
path_behind (b ∷ []) = Err bad.BadPath
path_behind (b ∷ c ∷ text) = path_read (percent_decode (c ∷ text))

abbrev pub Url : Type 0
Url = List ℕ × Path

abbrev pub with_root : List ℕ → Result Path PathFault → Result Url UrlFault
with_root root (Ok path) = Ok (root, path)
with_root root (Err bad.TooLong) = Err fault.TooLong
with_root root (Err bad.BadPath) = Err fault.BadPath
with_root root (Err bad.OutOfMemory) = Err fault.OutOfMemory

abbrev pub at_host : List ℕ → List ℕ → Result Url UrlFault
at_host [] behind = Err fault.NoHost
at_host (b ∷ host) behind = with_root (scheme ++ b ∷ host) (path_behind (untrailed behind))

abbrev pub behind_scheme : Option (List ℕ) → Result Url UrlFault
behind_scheme None = Err fault.OtherScheme
behind_scheme (Some text) = at_host (before_slash text) (from_slash text)

-- the root and the path of a URL
abbrev pub url_read : List ℕ → Result Url UrlFault
url_read url = behind_scheme (after scheme url)

-- what a call read is this, unless memory ran out
abbrev pub UrlIs : Result SessionUrl UrlFault → Result Url UrlFault → Type 0
UrlIs (Ok u) read = read ≡ Ok (u.root.items, u.path)
UrlIs (Err fault.OutOfMemory) read = Unit {0}
UrlIs (Err f) read = read ≡ Err f

-- what is taken is a URL, and what isn't taken is none, unless memory ran out
abbrev pub IsJudged : List ℕ → Result SessionUrl UrlFault → Type 0
IsJudged url (Ok u) = IsUrl url u.root.items u.path
IsJudged url (Err fault.OutOfMemory) = Unit {0}
IsJudged url (Err f) = (root : List ℕ) (path : Path) → IsUrl url root path → ⊥

-- the path of a URL of this root
abbrev pub MovedIs : List ℕ → Result Path UrlFault → Result Url UrlFault → Type 0
MovedIs root (Ok path) read = read ≡ Ok (root, path)
MovedIs root (Err fault.OutOfMemory) read = Unit {0}
MovedIs root (Err fault.OtherRoot) read = (other : List ℕ) × (path : Path) × (read ≡ Ok (other, path)) × (other ≡ root → ⊥)
MovedIs root (Err f) read = read ≡ Err f

-- ---- laws

abbrev pub UrlsAreRead : Type 0
UrlsAreRead = (url root : List ℕ) (path : Path) → IsUrl url root path → url_read url ≡ Ok (root, path)

abbrev pub OneRootAndPath : Type 0
OneRootAndPath = (url root other : List ℕ) (path second : Path) → IsUrl url root path → IsUrl url other second → (root ≡ other) × (path ≡ second)

-- only a URL that ends behind its host, or with one slash behind it, is told as the root
abbrev pub BelowIsNotRoot : Type 0
BelowIsNotRoot = (url root : List ℕ) (path : Path) (u : IsUrl url root path) → (path ≡ []) → (u.behind ≡ []) ⊎ (u.behind ≡ 47 ∷ [])
