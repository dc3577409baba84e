-- What is exported.
use Rattle.std.proofs.Common.{◌≡◌, ◌≤◌, ℕ, List, [], length, Option, None, Some, refl, sym, ◌∙◌, ap, inl, inr, arith}
use Rattle.std.specs.Prelude.{slice_get}
use Rattle.std.specs.Option.{option_map}
use Rattle.std.proofs.lemmas.Option.{slice_get_cases}
use Rattle.std.proofs.lemmas.List.{length-map}
use Rattle.node_base.specs.Props.{PropMap}
use Rattle.dump_load.specs.declared.change.Change.{Change}
use Rattle.repo_core.specs.Repository.{Repository, Revision, IsRepository}
use Rattle.repo_core.specs.declared.entry.Entry.TheVariants.{Revised}
use Rattle.repo_core.proofs.MadeTrees.{length-made}
use Rattle.repo_store.specs.Journal.{IsExport, spelling}

past_of : {X : Type 0} (xs : List X) (n : ℕ) → None ≡ slice_get xs n → length xs ≤ n
past_of xs n h = elim ((slice_get_cases xs n).1) [
  | inl (x, under, is, same) ↦ cc
  | inr (past, none) ↦ past
]

-- a revision without a set isn't there
pub absent_set : (r : Repository) (n : ℕ) → IsRepository r → None ≡ slice_get r.sets n → length r.revisions ≤ n
absent_set r n is h =
    omega (arith, past_of r.sets n h, length-made [] r.sets _ is.made, length-map r.revisions (λ (y : Revision). y.tree))

-- the text of a set that is there with the properties that are there
pub exported : (r : Repository) (n : ℕ) (set : List Change) (props : PropMap) (bytes : List ℕ)
    → Some set ≡ slice_get r.sets n → Some props ≡ option_map (λ (y : Revision). y.props) (slice_get r.revisions n) → bytes ≡ spelling (Revised n set props) → IsExport r n bytes
exported r n set props bytes there found is = from (slice_get r.revisions n) refl found
  where
    from : (o : Option Revision) → slice_get r.revisions n ≡ o → Some props ≡ option_map (λ (y : Revision). y.props) o → IsExport r n bytes
    from None same h = cc
    from (Some y) same h = (y, set, same, sym there, is ∙ ap (λ (ps : PropMap). spelling (Revised n set ps)) (some-is props y.props h))
      where
        some-is : (a b : PropMap) → Some a ≡ Some b → a ≡ b
        some-is a b e = cc
