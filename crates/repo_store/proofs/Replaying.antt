-- Entries that are taken one after another.
use Rattle.std.proofs.Common.{Result, Ok, Err, OnOk, slice_get, ◌==◌, ◌≡◌, ◌<◌, ℕ, List, [], ◌∷◌, ◌++◌, map, length, Bool, true, false, ◌&&◌, Option, None, Some, refl, sym, ◌∙◌, ap, ap₂, subst}
use Rattle.std.proofs.lemmas.List.{append-nil}
use Rattle.std.specs.List.{flat_map}
use Rattle.std.specs.Option.{option_map}
use Rattle.node_base.specs.Props.{PropMap}
use Rattle.dump_text.specs.Canon.{canon_entry, canon_node}
use Rattle.dump_text.specs.Written.{AreFormed, AreRecords, is_whole_part, are_whole, map_of, read_node}
use Rattle.dump_text.specs.declared.record.NodeRecord.{NodeRecord}
use Rattle.dump_text.specs.declared.record.PropPart.{PropPart}
use Rattle.dump_text.specs.declared.record.PropPart.TheVariants.{Whole, Delta}
use Rattle.dump_text.specs.declared.record.RevRecord.{RevRecord}
use Rattle.dump_text.specs.declared.record.DumpRecord.TheVariants as told
use Rattle.dump_load.specs.declared.change.Change.{Change}
use Rattle.dump_load.specs.Bounds.{IsBounded}
use Rattle.dump_load.specs.Records.{change_of, record_of}
use Rattle.repo_core.specs.Repository.{Repository, fresh}
use Rattle.repo_core.specs.Entries.{with_entry_in}
use Rattle.repo_core.specs.Refusals.{by_repository}
use Rattle.repo_core.specs.declared.entry.Entry.{Entry}
use Rattle.repo_core.specs.declared.entry.Entry.TheVariants.{Revised, Mapped}
use Rattle.gate_log.specs.declared.fault.LogFault.{LogFault}
use Rattle.gate_log.specs.declared.fault.LogFault.TheVariants.{Damaged, OutOfMemory as LogMemory}
use Rattle.repo_store.specs.declared.read.ReadFault.{ReadFault}
use Rattle.repo_store.specs.declared.read.ReadFault.TheVariants.{Bad, OutOfMemory as ReadMemory}
use Rattle.repo_store.specs.Journal.{IsBeginning, Spells, Takes}
use Rattle.repo_store.specs.Readings.{IsRevisionOf}
use Rattle.repo_store.proofs.Spelling.{formed_set}

part_back : (p : Option PropPart) → is_whole_part p ≡ true → option_map Whole (option_map map_of p) ≡ p
part_back None w = refl
part_back (Some (Whole m)) w = refl
part_back (Some (Delta d)) w = cc

abbrev with_part : NodeRecord → Option PropPart → NodeRecord
with_part r q = record r { props = q }

node_back : (r : NodeRecord) → is_whole_part r.props ≡ true → record_of (change_of r) ≡ r
node_back r w = ap (with_part r) (part_back r.props w)

both_true : (a b : Bool) → (a && b) ≡ true → (a ≡ true) × (b ≡ true)
both_true true b h = (refl, h)
both_true false b h = cc

nodes_back : (ns : List NodeRecord) → are_whole ns ≡ true → map record_of (map change_of ns) ≡ ns
nodes_back [] w = refl
nodes_back (n ∷ ns) w =
    let both = both_true (is_whole_part n.props) (are_whole ns) w in
    ap₂ (λ (a : NodeRecord) (l : List NodeRecord). a ∷ l) (node_back n both.0) (nodes_back ns both.1)

-- the first entry is taken
pub begun_by : (bytes identity : List ℕ) (props : PropMap) (old new : Repository) → IsBeginning bytes identity props → old ≡ fresh identity → new ≡ with_entry_in old (Mapped 0 props)
    → (id : List ℕ) × (ps : PropMap) × IsBeginning bytes id ps × (new ≡ with_entry_in (fresh id) (Mapped 0 ps))
begun_by bytes identity props old new begins first then = (identity, props, begins, then ∙ ap (λ (r : Repository). with_entry_in r (Mapped 0 props)) first)

-- other properties are taken
pub taken_map : (bytes : List ℕ) (r : RevRecord) (old new : Repository) → IsRevisionOf bytes r → r.nodes.items ≡ [] → r.number < length old.revisions
    → by_repository old.revisions (Mapped r.number r.props) ≡ None → new ≡ with_entry_in old (Mapped r.number r.props)
    → (e : Entry) × Spells bytes e × Takes old.revisions e × (new ≡ with_entry_in old e)
taken_map bytes r old new is none there accepted then =
    let formed = subst (λ (l : List NodeRecord). AreFormed l) (sym none) tt in
    let canonical = is.canonical ∙ ap (λ (l : List NodeRecord). canon_entry r.number r.props ++ flat_map canon_node l) none ∙ append-nil (canon_entry r.number r.props) in
    let readable = subst (λ (l : List NodeRecord). AreRecords bytes (told.Revision r.number r.props ∷ map read_node l)) none (is.readable formed) in
    (Mapped r.number r.props, record { canonical = canonical; readable = readable }, record { next = there; set = tt; accepted = accepted }, then)

-- a new revision is taken
pub taken_set : (bytes : List ℕ) (r : RevRecord) (set : List Change) (old new : Repository) → IsRevisionOf bytes r → set ≡ map change_of r.nodes.items → IsBounded set
    → r.number ≡ length old.revisions → by_repository old.revisions (Revised (length old.revisions) set r.props) ≡ None → new ≡ with_entry_in old (Revised (length old.revisions) set r.props)
    → (e : Entry) × Spells bytes e × Takes old.revisions e × (new ≡ with_entry_in old e)
taken_set bytes r set old new is same bounded next accepted then =
    let nodes : map record_of set ≡ r.nodes.items = ap (λ (s : List Change). map record_of s) same ∙ nodes_back r.nodes.items is.whole in
    let formed = subst (λ (l : List NodeRecord). AreFormed l) nodes (formed_set set bounded) in
    let canonical = is.canonical ∙ ap (λ (l : List NodeRecord). canon_entry r.number r.props ++ flat_map canon_node l) (sym nodes) in
    let readable = subst (λ (l : List NodeRecord). AreRecords bytes (told.Revision r.number r.props ∷ map read_node l)) (sym nodes) (is.readable formed) in
    let spells : Spells bytes (Revised r.number set r.props) = record { canonical = canonical; readable = readable } in
    let spelled = subst (λ (n : ℕ). Spells bytes (Revised n set r.props)) next spells in
    (Revised (length old.revisions) set r.props, spelled, record { next = refl; set = bounded.set; accepted = accepted }, then)

-- bytes that bring one repository to the next
abbrev pub IsTaken : List ℕ → Repository → Repository → Type 0
IsTaken bytes old new = (e : Entry) × Spells bytes e × Takes old.revisions e × (new ≡ with_entry_in old e)

pub map_if : {A E : Type 0} (res : Result A E) (bytes : List ℕ) (r : RevRecord) (old new : Repository) → IsRevisionOf bytes r → r.nodes.items ≡ [] → r.number < length old.revisions
    → OnOk res (by_repository old.revisions (Mapped r.number r.props) ≡ None) → OnOk res (new ≡ with_entry_in old (Mapped r.number r.props)) → OnOk res (IsTaken bytes old new)
map_if (Ok v) bytes r old new is none there accepted then = taken_map bytes r old new is none there accepted then
map_if (Err e) bytes r old new is none there accepted then = tt

pub set_if : {A E : Type 0} (res : Result A E) (bytes : List ℕ) (r : RevRecord) (set : List Change) (old new : Repository) → IsRevisionOf bytes r → set ≡ map change_of r.nodes.items
    → IsBounded (map change_of r.nodes.items)
    → r.number ≡ length old.revisions → OnOk res (by_repository old.revisions (Revised (length old.revisions) set r.props) ≡ None)
    → OnOk res (new ≡ with_entry_in old (Revised (length old.revisions) set r.props)) → OnOk res (IsTaken bytes old new)
set_if (Ok v) bytes r set old new is same bounded next accepted then = taken_set bytes r set old new is same (subst (λ (s : List Change). IsBounded s) (sym same) bounded) next accepted then
set_if (Err e) bytes r set old new is same bounded next accepted then = tt

-- the entry that is read and taken
pub next_taken : (entries : List (List ℕ)) (i : ℕ) (bytes items : List ℕ) (old new : Repository) → slice_get entries i ≡ Some items → bytes ≡ items → IsTaken bytes old new
    → (b : List ℕ) × (e : Entry) × (slice_get entries i ≡ Some b) × Spells b e × Takes old.revisions e × (new ≡ with_entry_in old e)
next_taken entries i bytes items old new there same (e, spells, takes, then) = (items, e, there, subst (λ (b : List ℕ). Spells b e) same spells, takes, then)

-- the first entry that is read and taken
pub first_taken : (entries : List (List ℕ)) (bytes items : List ℕ) (r : Repository) → slice_get entries 0 ≡ Some items → bytes ≡ items
    → (id : List ℕ) × (ps : PropMap) × IsBeginning bytes id ps × (r ≡ with_entry_in (fresh id) (Mapped 0 ps))
    → (b : List ℕ) × (ps : PropMap) × (slice_get entries 0 ≡ Some b) × IsBeginning b r.identity ps × (r ≡ with_entry_in (fresh r.identity) (Mapped 0 ps))
first_taken entries bytes items r there same (id, ps, begins, then) =
    let one : id ≡ r.identity = sym (ap (λ (q : Repository). q.identity) then) in
    (items, ps, there, subst (λ (i : List ℕ). IsBeginning items i ps) one (subst (λ (b : List ℕ). IsBeginning b id ps) same begins), then ∙ ap (λ (i : List ℕ). with_entry_in (fresh i) (Mapped 0 ps)) one)

-- an entry of the list is the one that was read
pub same_entry : (entries : List (List ℕ)) (i : ℕ) (bytes items now : List ℕ) → slice_get entries i ≡ Some items → now ≡ items → slice_get entries i ≡ Some bytes → bytes ≡ now
same_entry entries i bytes items now read same there = some_is bytes items (sym there ∙ read) ∙ sym same
  where
    some_is : (a b : List ℕ) → Some a ≡ Some b → a ≡ b
    some_is a b e = cc

-- what is told as damage is no want of memory
pub is_bad : (f : ReadFault) (told : LogFault) (k : ℕ) → (f ≡ ReadMemory → told ≡ LogMemory) → told ≡ Damaged k → f ≡ Bad
is_bad Bad told k memory is = refl
is_bad ReadMemory told k memory is = absurd (never (memory refl) is)
  where
    never : told ≡ LogMemory → told ≡ Damaged k → ⊥
    never a b = cc

abbrev pub fault_in : {T : Type 0} → Result T LogFault → LogFault
fault_in (Ok v) = LogMemory
fault_in (Err f) = f

-- some nodes aren't none
pub some_nodes : (n : ℕ) → false ≡ (n == 0) → n ≡ 0 → ⊥
some_nodes n h none = cc (h ∙ ap (λ (k : ℕ). k == 0) none)
