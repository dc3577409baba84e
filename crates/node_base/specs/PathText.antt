-- The text of a path, and which bytes are one.
use Rattle.std.specs.Prelude.{◌≡◌, ◌≤◌, true, ℕ, Bool, ◌||◌, ◌==◌, nat_lt, length, List, [], ◌∷◌, All, Result, Ok, Err, Option, Some, None, if◌then◌else◌, ◌&&◌, ◌++◌, not}
use denote.Ref.{Bor}
use Rattle.std.specs.List.{flat_map, slice_split, join_with_byte, list_all, list_any}
use Rattle.node_base.specs.Path.{Name, Path}
use Rattle.node_base.specs.Names.{IsName, is_name}
use Rattle.node_base.specs.Limits.{fits}
use Rattle.node_base.specs.declared.limits.TheConstants.{NAME_BYTES, PATH_BYTES, PATH_NAMES}
use Rattle.node_base.specs.declared.fault.PathFault.{PathFault}
use Rattle.node_base.specs.declared.fault.PathFault.TheVariants.{TooLong, BadPath, OutOfMemory}

-- the names with a slash between each two
abbrev pub path_text : Path → List ℕ
path_text = join_with_byte 47

-- each name behind a slash
abbrev pub slashed : Path → List ℕ
slashed = flat_map (λ n. 47 ∷ n)

-- what stands between the slashes, and nothing where there is nothing
abbrev pub pieces : List ℕ → Path
pieces [] = []
pieces (b ∷ bs) = slice_split (λ x. x == 47) (b ∷ bs)

-- the bytes spell the path
pub record Spells (p : Path) (bs : List ℕ) : Type 0 where
  pub text : path_text p ≡ bs
  pub names : All IsName p

-- whether a name is past 255 bytes
abbrev pub is_long_name : Name → Bool
is_long_name n = nat_lt NAME_BYTES (length n)

-- whether bytes are past 1,024 bytes, 64 names or 255 bytes of a name
unfoldable pub is_past_limits : List ℕ → Bool
is_past_limits bs = nat_lt PATH_BYTES (length bs) || nat_lt PATH_NAMES (length (pieces bs)) || list_any is_long_name (pieces bs)

-- the path has 64 names and 1,024 bytes at most, and each of its names 255 bytes
pub record IsSmall (p : Path) : Type 0 where
  pub fits : fits p ≡ true
  pub names : All (λ n. length n ≤ NAME_BYTES) p

-- whether a path is one that is kept: of names, and within the limits
unfoldable pub is_path : Path → Bool
is_path p = fits p && list_all is_name p && not (list_any is_long_name p)

-- a name behind a path, where that is within the limits
unfoldable pub child_of : Path → Name → Result Path PathFault
child_of p n = if fits (p ++ n ∷ []) then Ok (p ++ n ∷ []) else Err TooLong

-- the name that bytes are: past its limit comes first
unfoldable pub name_read : List ℕ → Result Name PathFault
name_read bs = if is_long_name bs then Err TooLong else if is_name bs then Ok bs else Err BadPath

-- the path that bytes spell: past the limits comes first
unfoldable pub path_read : List ℕ → Result Path PathFault
path_read bs = if is_past_limits bs then Err TooLong else if list_all is_name (pieces bs) then Ok (pieces bs) else Err BadPath

-- what a call answers is what was read, unless memory ran out
abbrev pub Answers : {T : Type 0} → Result T PathFault → Result T PathFault → Type 0
Answers read (Ok x) = read ≡ Ok x
Answers read (Err TooLong) = read ≡ Err TooLong
Answers read (Err BadPath) = read ≡ Err BadPath
Answers read (Err OutOfMemory) = Unit {0}

-- the pieces of what is left, where something is
abbrev pub pieces_left : Option (Bor (List ℕ)) → Path
pieces_left None = []
pieces_left (Some r) = slice_split (λ x. x == 47) r.now
