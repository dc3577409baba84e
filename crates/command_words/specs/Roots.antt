-- The URL that clients are told as the root of a repository.
use Rattle.std.specs.Prelude.{ℕ, Bool, false, not, List, [], ◌∷◌, ◌==◌, ◌&&◌, nat_eq, nat_le, length, drop, codes, if◌then◌else◌}
use Rattle.std.specs.List.{list_all, starts_with}

-- a printable ASCII character that is no blank
abbrev pub is_graphic : ℕ → Bool
is_graphic b = nat_le 33 b && nat_le b 126

-- what stands behind `svn+ssh://`, or nothing
abbrev pub behind_ssh : List ℕ → List ℕ
behind_ssh url = if starts_with nat_eq url (codes "svn+ssh://") then drop 10 url else []

-- what stands behind a scheme of Subversion's, or nothing
abbrev pub behind_scheme : List ℕ → List ℕ
behind_scheme url = if starts_with nat_eq url (codes "svn://") then drop 6 url else behind_ssh url

-- a host stands at the beginning: neither the colon of a port nor the slash of a path does
abbrev pub names_host : List ℕ → Bool
names_host [] = false
names_host (b ∷ bs) = not (b == 58) && not (b == 47)

-- `svn://HOST..` or `svn+ssh://HOST..`, of at most 1,024 such characters
abbrev pub is_root_url : List ℕ → Bool
is_root_url url = nat_le (length url) 1024 && list_all is_graphic url && names_host (behind_scheme url)
