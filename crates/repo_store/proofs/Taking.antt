-- An entry that stands is taken.
use Rattle.std.proofs.Common.{◌≡◌, ◌<◌, ◌≤◌, arith, ℕ, List, [], ◌∷◌, map, length, Option, None, Some, refl, sym, ◌∙◌, ap, subst}
use Rattle.std.specs.Option.{option_map}
use Rattle.std.proofs.lemmas.List.{length-map}
use Rattle.node_base.specs.Props.{PropMap}
use Rattle.dump_text.specs.Canon.{told_kind}
use Rattle.dump_text.specs.Laws.{DumpsAreRead}
use Rattle.dump_text.specs.Written.{map_of}
use Rattle.dump_text.specs.declared.record.NodeRecord.{NodeRecord}
use Rattle.dump_text.specs.declared.record.PropPart.TheVariants.{Whole}
use Rattle.dump_text.specs.declared.record.RevRecord.{RevRecord}
use Rattle.dump_load.specs.declared.change.Change.{Change}
use Rattle.dump_load.specs.Changes.{IsSet}
use Rattle.dump_load.specs.Faults.{fault, refused}
use Rattle.dump_load.specs.Records.{change_of, record_of}
use Rattle.node_base.specs.declared.fault.TreeFault.{TreeFault}
use Rattle.repo_core.specs.Repository.{Revision, trees_of}
use Rattle.repo_core.specs.Refusals.{by_repository}
use Rattle.repo_core.specs.declared.entry.Entry.{Entry}
use Rattle.repo_core.specs.declared.entry.Entry.TheVariants.{Revised, Mapped}
use Rattle.repo_core.specs.declared.fault.RepoFault.{RepoFault}
use Rattle.repo_core.specs.declared.fault.RepoFault.TheVariants as refusal
use Rattle.repo_store.specs.Journal.{Spells, Takes}
use Rattle.repo_store.specs.Readings.{IsRevisionOf}
use Rattle.repo_store.proofs.Reading.{told_of, revision_is}
use Rattle.repo_store.proofs.Told.{told, none_left, none_right, or_none, fault_told, normal_told}

props_back : (o : Option PropMap) → option_map map_of (option_map Whole o) ≡ o
props_back None = refl
props_back (Some p) = refl

change_told : (c : Change) → change_of (told_of (record_of c)) ≡ told c
change_told c = ap (λ (o : Option PropMap). record { path = c.path; action = c.action; kind = told_kind c.action c.kind; source = c.source; props = o; text = c.text }) (props_back c.props)

-- the changes of a set as their records tell them
pub set_told : (set : List Change) → map change_of (map told_of (map record_of set)) ≡ map told set
set_told [] = refl
set_told (c ∷ s) = λ i. change_told c i ∷ set_told s i

fault_gone : (f : TreeFault → RepoFault) (o : Option TreeFault) → option_map f o ≡ None → o ≡ None
fault_gone f None h = refl
fault_gone f (Some x) h = cc

-- a repository takes a set as it is told
accepted_told : (x : List Revision) (n m : ℕ) (set : List Change) (props : PropMap) → by_repository x (Revised n set props) ≡ None → by_repository x (Revised m (map told set) props) ≡ None
accepted_told x n m set props h =
    let none = fault_gone (λ f. refusal.Change (refused f)) (fault (trees_of x) set) (none_left _ _ (none_right _ _ h)) in
    let still = ap (λ (o : Option TreeFault). option_map (λ f. refusal.Change (refused f)) o) (fault_told (trees_of x) set none) in
    or_none _ _ (none_left _ _ h) (or_none _ _ still (none_right _ _ (none_right _ _ h)))

-- an entry whose number isn't above the head is other properties
pub map_stands : (law : DumpsAreRead) (bytes : List ℕ) (e : Entry) (r : RevRecord) (x : List Revision) → Spells bytes e → IsRevisionOf bytes r → Takes x e → r.number < length x
    → (r.nodes.items ≡ []) × (by_repository x (Mapped r.number r.props) ≡ None)
map_stands law bytes (Mapped n props) r x spells is takes below =
    let (number, same, nodes) = revision_is law bytes (Mapped n props) r spells is.read in
    (nodes, (λ i. by_repository x (Mapped (number i) (same i))) ∙ takes.accepted)
map_stands law bytes (Revised n set props) r x spells is takes below =
    let next : n ≡ length x = takes.next in
    absurd (omega (arith, (revision_is law bytes (Revised n set props) r spells is.read).0, next, below))

-- none has a number further above
pub never_above : (law : DumpsAreRead) (bytes : List ℕ) (e : Entry) (r : RevRecord) (x : List Revision) → Spells bytes e → IsRevisionOf bytes r → Takes x e → length x < r.number → ⊥
never_above law bytes (Mapped n props) r x spells is takes above =
    let next : n < length x = takes.next in
    omega (arith, (revision_is law bytes (Mapped n props) r spells is.read).0, next, above)
never_above law bytes (Revised n set props) r x spells is takes above =
    let next : n ≡ length x = takes.next in
    omega (arith, (revision_is law bytes (Revised n set props) r spells is.read).0, next, above)

-- one whose number is the next is a set
pub set_stands : (law : DumpsAreRead) (bytes : List ℕ) (e : Entry) (r : RevRecord) (x : List Revision) → Spells bytes e → IsRevisionOf bytes r → Takes x e → length x ≤ r.number
    → IsSet (map change_of r.nodes.items) × (by_repository x (Revised (length x) (map change_of r.nodes.items) r.props) ≡ None)
set_stands law bytes (Mapped n props) r x spells is takes above =
    let next : n < length x = takes.next in
    absurd (omega (arith, (revision_is law bytes (Mapped n props) r spells is.read).0, next, above))
set_stands law bytes (Revised n set props) r x spells is takes above =
    let (number, same, nodes) = revision_is law bytes (Revised n set props) r spells is.read in
    let sets : map change_of r.nodes.items ≡ map told set = ap (λ (ns : List NodeRecord). map change_of ns) nodes ∙ set_told set in
    let few = subst (λ (k : ℕ). k ≤ 4096) (sym (length-map set told)) takes.set.1 in (
      subst (λ (s : List Change). IsSet s) (sym sets) (normal_told set takes.set.0, few),
      (λ i. by_repository x (Revised (length x) (sets i) (same i))) ∙ accepted_told x n (length x) set props takes.accepted,
    )
