-- The limits of paths, names and property maps.
use Rattle.std.specs.Prelude.{ℕ, Bool, ◌+◌, ◌&&◌, nat_le, length, [], ◌∷◌}
use Rattle.node_base.specs.Path.{Path}
use Rattle.node_base.specs.declared.limits.TheConstants.{PATH_BYTES, PATH_NAMES}

-- the bytes of the names, and one more for each
abbrev pub weight : Path → ℕ
weight [] = 0
weight (n ∷ p) = length n + 1 + weight p

-- whether a path that follows so many names of such a weight is within 64 names and 1,024 bytes: its text has a slash less than names
abbrev pub fits_after : ℕ → ℕ → Path → Bool
fits_after names bytes p = nat_le (names + length p) PATH_NAMES && nat_le (bytes + weight p) (PATH_BYTES + 1)

-- a path within 64 names and 1,024 bytes
abbrev pub fits : Path → Bool
fits = fits_after 0 0
