-- An entry that is ready to be taken in.
use Rattle.std.specs.Prelude.{◌≡◌, ℕ, ◌<◌, List, length, Option, Some, None, refl}
use Rattle.std.specs.Coded.{Coded, coded×, coded_ℕ, coded_option, code_by}
use Rattle.node_base.specs.Props.{PropMap, coded_props}
use Rattle.node_base.specs.Tree.{PathMap, coded_tree}
use Rattle.dump_load.specs.declared.change.Change.{Change}
use Rattle.dump_load.specs.Coded.{coded_set}
use Rattle.dump_load.specs.Trees.{effect_tree}
use Rattle.repo_core.specs.Repository.{Revision, trees_of}
use Rattle.repo_core.specs.Entries.{Entry, Revised, Mapped}
use Rattle.repo_core.specs.Refusals.{by_repository}

-- an entry, and the new tree where it makes one
pub record StagedEntry : Type 0 where
  pub entry : Entry
  pub tree : Option PathMap

abbrev pub set_in : Entry → Option (List Change)
set_in (Revised n set props) = Some set
set_in (Mapped n props) = None

abbrev pub number_in : Entry → ℕ
number_in (Revised n set props) = n
number_in (Mapped n props) = n

abbrev pub props_in : Entry → PropMap
props_in (Revised n set props) = props
props_in (Mapped n props) = props

abbrev pub entry_from : Option (List Change) → ℕ → PropMap → Entry
entry_from None n props = Mapped n props
entry_from (Some set) n props = Revised n set props

pub entry_back : (e : Entry) → entry_from (set_in e) (number_in e) (props_in e) ≡ e
entry_back (Revised n set props) = refl
entry_back (Mapped n props) = refl

abbrev pub coded_entry : Coded Entry
coded_entry =
    code_by (Option (List Change) × (ℕ × PropMap)) (coded× (coded_option coded_set) (coded× coded_ℕ coded_props)) (λ e. (set_in e, (number_in e, props_in e))) (λ p. entry_from p.0 p.1.0 p.1.1) entry_back

abbrev pub coded_staged : Coded StagedEntry
coded_staged = code_by (Entry × Option PathMap) (coded× coded_entry (coded_option coded_tree)) (λ s. (s.entry, s.tree)) (λ p. record { entry = p.0; tree = p.1 }) (λ _. refl)

-- the tree that an entry makes over revisions, where it makes one
abbrev pub new_tree : List Revision → Entry → Option PathMap
new_tree x (Revised n set props) = Some (effect_tree (trees_of x) set)
new_tree x (Mapped n props) = None

-- a revision has the number after the head's
abbrev pub IsNext : List Revision → Entry → Type 0
IsNext x (Revised n set props) = n ≡ length x
IsNext x (Mapped n props) = n < length x

-- ready for these revisions, which take it
pub record IsReady (x : List Revision) (s : StagedEntry) : Type 0 where
  pub accepted : by_repository x s.entry ≡ None
  pub next : IsNext x s.entry
  pub tree : s.tree ≡ new_tree x s.entry
