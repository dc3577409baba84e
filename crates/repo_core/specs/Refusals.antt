-- What a repository refuses.
use Rattle.std.specs.Prelude.{◌≡◌, ℕ, Bool, true, false, not, ◌&&◌, nat_le, nat_lt, List, [], ◌∷◌, length, Option, Some, is_none}
use Rattle.std.specs.Option.{option_map, option_map_or}
use Rattle.std.specs.List.{list_all}
use Rattle.std.specs.FinMap as map
use Rattle.node_base.specs.Path.{Name, same_name}
use Rattle.node_base.specs.Props.{PropMap, props_fit}
use Rattle.node_base.specs.Refusals.{refusal_number}
use Rattle.node_base.specs.declared.refusal.Refusal.{Refusal}
use Rattle.node_base.specs.declared.refusal.Refusal.TheVariants as table
use Rattle.node_base.specs.declared.limits.TheConstants.{PROP_NAME_BYTES, PROP_VALUE_BYTES, REVISION}
use Rattle.dump_load.specs.Faults.{fault_if, first_of, fault, refused, change_refusal}
use Rattle.repo_core.specs.Repository.{Revision, trees_of, head_of, props_at}
use Rattle.repo_core.specs.Entries.{Entry, Revised, Mapped}
use Rattle.repo_core.specs.declared.expected.Expected.{Expected}
use Rattle.repo_core.specs.declared.expected.Expected.TheVariants.{DontCare, Absent, Value}
use Rattle.repo_core.specs.declared.fault.RepoFault.{RepoFault}
use Rattle.repo_core.specs.declared.fault.RepoFault.TheVariants as refusal

-- a name within 255 bytes and a value within 65,536
abbrev pub is_short : Name × List ℕ → Bool
is_short e = nat_le (length e.0) PROP_NAME_BYTES && nat_le (length e.1) PROP_VALUE_BYTES

-- a map within the limits: each name and value, and how many there are
abbrev pub within_limits : PropMap → Bool
within_limits m = props_fit m && list_all is_short (map.entries m)

-- a map past the limits
abbrev pub limit_fault : PropMap → Option RepoFault
limit_fault m = fault_if (not (within_limits m)) refusal.TooLong

-- what a repository refuses of an entry: a revision after the last that can be, then the first fault of its changes; a map of a
-- revision that isn't there; then a map past the limits
abbrev pub by_repository : List Revision → Entry → Option RepoFault
by_repository x (Revised n set props) =
    first_of (fault_if (nat_lt REVISION (length x)) refusal.Full ∷ option_map (λ f. refusal.Change (refused f)) (fault (trees_of x) set) ∷ limit_fault props ∷ [])
by_repository x (Mapped n props) = first_of (fault_if (nat_le (length x) n) refusal.NoSuchRevision ∷ limit_fault props ∷ [])

-- a commit is made against the head
abbrev pub base_fault : List Revision → ℕ → Option RepoFault
base_fault x base = first_of (fault_if (nat_lt (head_of x) base) refusal.NoSuchRevision ∷ fault_if (nat_lt base (head_of x)) (refusal.Behind (head_of x)) ∷ [])

-- what a repository refuses of a commit
abbrev pub commit_fault : List Revision → ℕ → Entry → Option RepoFault
commit_fault x base e = first_of (base_fault x base ∷ by_repository x e ∷ [])

-- what a change of a property wants to find, over plain values: whatever there is, no value, or this one
pub data Wanted : Type 0 where
  Anything : Wanted
  Nothing : Wanted
  This : List ℕ → Wanted

-- whether the value that is found is the one that is wanted
abbrev pub finds : Wanted → Option (List ℕ) → Bool
finds Anything found = true
finds Nothing found = is_none found
finds (This v) found = option_map_or (λ w. same_name v w) found false

-- what is expected, over plain values
abbrev pub wanted : Expected → Wanted
wanted DontCare = Anything
wanted Absent = Nothing
wanted (Value v) = This v.items

-- whether the value that is found is the one that is expected
abbrev pub expects : Expected → Option (List ℕ) → Bool
expects e found = finds (wanted e) found

-- a map with a value at a name, or with none
abbrev pub with_value : PropMap → Name → Option (List ℕ) → PropMap
with_value m name value = option_map_or (map.insert m name) value (map.remove m name)

-- a conditional change of one property, over plain values: the revision, then the value that is found, then the limits
abbrev pub property_fault : List Revision → ℕ → Name → Option (List ℕ) → Wanted → Option RepoFault
property_fault x n name value previous =
    first_of
    (fault_if (nat_le (length x) n) refusal.NoSuchRevision
    ∷ fault_if (not (finds previous (map.get (props_at x n) name))) (refusal.BaseMismatch (map.get (props_at x n) name))
    ∷ limit_fault (with_value (props_at x n) name value)
    ∷ []
    )

-- the same of what a call expects
abbrev pub change_fault : List Revision → ℕ → Name → Option (List ℕ) → Expected → Option RepoFault
change_fault x n name value expected = property_fault x n name value (wanted expected)

-- a refusal is the one that is due, or want of memory
abbrev pub IsDue : RepoFault → Option RepoFault → Type 0
IsDue refusal.OutOfMemory due = Unit {0}
IsDue e due = due ≡ Some e

-- the refusal of the table that it is
abbrev pub repo_refusal : RepoFault → Refusal
repo_refusal refusal.NoSuchRevision = table.NoSuchRevision
repo_refusal (refusal.BaseMismatch found) = table.BaseMismatch
repo_refusal refusal.Full = table.Full
repo_refusal (refusal.Behind head) = table.Behind head
repo_refusal (refusal.Change f) = change_refusal f
repo_refusal refusal.TooLong = table.TooLong
repo_refusal refusal.OutOfMemory = table.OutOfMemory

-- its number
abbrev pub number_of : RepoFault → ℕ
number_of f = refusal_number (repo_refusal f)
