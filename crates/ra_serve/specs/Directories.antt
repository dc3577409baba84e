-- The answer of `get-dir`, part by part.
use Rattle.std.specs.Prelude.{◌≡◌, ◌+◌, ◌<◌, ℕ, Bool, List, [], ◌∷◌, ◌++◌, length, map, codes, Option, MatchOption, Result, IfOk}
use Rattle.node_base.specs.Path.{Name}
use Rattle.node_base.specs.Props.{PropMap}
use Rattle.node_base.specs.declared.node.Node.{Node}
use Rattle.ra_item.specs.Items.{Number, row, spell, spell_all}
use Rattle.ra_wire.specs.Answers.{Dirent}
use Rattle.ra_wire.specs.Replies.{before, behind, dirent, wanted_props}
use Rattle.ra_serve.specs.Answers.{entry_of, item_due, unless_due}

-- the entries that are told of children
abbrev pub told_of : List (Name × Node) → List Dirent
told_of cs = map (λ c. entry_of c.1 c.0) cs

-- entries, one after another
abbrev pub spelt : List Dirent → List ℕ
spelt es = spell_all (row (map dirent es))

-- what stands before the entries: the revision, the properties where they are wanted, and a bracket
abbrev pub front_of : ℕ → Bool → PropMap → List ℕ
front_of n props m = before (codes "success") ++ (spell (Number n) ++ (spell (wanted_props props m) ++ 40 ∷ 32 ∷ []))

-- an answer of which this stands before the entries
abbrev pub whole : List ℕ → List Dirent → List ℕ
whole front es = front ++ (spelt es ++ 41 ∷ 32 ∷ behind)

-- what is told of it: that it is too long, where it is
abbrev pub whole_told : List ℕ → List Dirent → List ℕ
whole_told front es = unless_due (item_due (whole front es)) (whole front es)

-- how much room bytes leave, where they have room
abbrev pub LeavesRoom : {E : Type 0} → ℕ → List ℕ → Result (Option ℕ) E → Type 0
LeavesRoom room bytes result = IfOk result (λ left. MatchOption left (room < length bytes) (λ left. left + length bytes ≡ room))
