-- Entries that are written.
use Rattle.std.specs.Option.{option_map}
use Rattle.std.proofs.Common.{◌<◌, length-append, codes, Result, Ok, Err, IfOk, OnOk, ◌≡◌, ◌&&◌, ◌||◌, arith, length, ℕ, Bool, true, false, not, List, [], ◌∷◌, ◌++◌, map, Option, None, Some, is_some, is_none, refl, sym, ◌∙◌, ap, subst}
use Rattle.std.specs.Prelude.{Vec}
use Rattle.std.specs.declared.alloc.Global.{Global}
use Rattle.std.specs.List.{AllByRecursion, flat_map}
use Rattle.node_base.specs.Props.{PropMap}
use Rattle.dump_text.specs.Canon.{canon_head, canon_entry, canon_node}
use Rattle.dump_text.specs.Grammar.{Dump}
use Rattle.dump_text.specs.Laws.{DumpsGoOn}
use Rattle.dump_text.specs.Forms.{is_deletion, is_making}
use Rattle.dump_text.specs.Written.{AreRecords, AreFormed, are_whole, has_node_form, is_whole_part, read_identity, read_node}
use Rattle.dump_text.specs.declared.record.PropPart.TheVariants.{Whole}
use Rattle.dump_text.specs.declared.record.NodeRecord.{NodeRecord}
use Rattle.dump_text.specs.declared.record.DumpRecord.TheVariants as told
use Rattle.dump_load.specs.declared.change.Change.{Change}
use Rattle.node_base.specs.declared.node.Action.{Action}
use Rattle.node_base.specs.declared.node.Action.TheVariants.{Modify, Add, Delete, Replace}
use Rattle.dump_load.specs.Bounds.{IsSmall, IsBounded}
use Rattle.dump_load.specs.Changes.{settles, is_delete, has_form, IsNormal}
use Rattle.dump_load.specs.Records.{record_of}
use Rattle.repo_store.specs.Journal.{IsBeginning, Spells, records_in, spelling}
use Rattle.repo_core.specs.declared.entry.Entry.{Entry}
use Rattle.repo_core.specs.declared.entry.Entry.TheVariants.{Revised, Mapped}

-- a head and revision 0's record are a first entry
pub beginning_spelled : (law : DumpsGoOn) (identity : List ℕ) (props : PropMap) (bytes : List ℕ)
    → Dump (canon_head (Some identity)) (read_identity (Some identity))
    → AreRecords (canon_entry 0 props) (told.Revision 0 props ∷ [])
    → bytes ≡ canon_head (Some identity) ++ canon_entry 0 props
    → IsBeginning bytes identity props
beginning_spelled law identity props bytes head entry is =
    record { canonical = is; readable = subst (λ (b : List ℕ). Dump b (told.Identity identity ∷ told.Revision 0 props ∷ [])) (sym is) (law (canon_head (Some identity)) (canon_entry 0 props) (read_identity (Some identity)) (told.Revision 0 props ∷ []) head entry) }

-- dump text has the form of a change
same_form : (a : Action) (source : Bool) (props : Option PropMap) (text : Bool)
    → ((source || is_making (Some a)) && not (is_deletion (Some a) && (is_some (option_map Whole props) || text))) ≡ ((source || (settles a && not (is_delete a))) && not (is_delete a && (is_some props || text)))
same_form Modify source props text = refl
same_form Add source props text = refl
same_form Delete source None text = refl
same_form Delete source (Some m) text = refl
same_form Replace source props text = refl

form_of : (c : Change) → has_form c ≡ true → has_node_form (record_of c) ≡ true
form_of c h = same_form c.action (is_none c.source) c.props (is_some c.text) ∙ h

both : (a b : Bool) → a ≡ true → b ≡ true → (a && b) ≡ true
both true b p q = q
both false b p q = p

whole_part : (o : Option PropMap) → is_whole_part (option_map Whole o) ≡ true
whole_part None = refl
whole_part (Some p) = refl

-- the records of a set give no properties as a delta
pub whole_records : (s : List Change) → are_whole (map record_of s) ≡ true
whole_records [] = refl
whole_records (c ∷ s) = both (is_whole_part (record_of c).props) (are_whole (map record_of s)) (whole_part c.props) (whole_records s)

-- so may what a set keeps by its type be written
formed : (s : List Change) → IsNormal s → AllByRecursion IsSmall s → AreFormed (map record_of s)
formed [] n small = tt
formed (c ∷ s) n small = (record { form = form_of c n.0.1; whole = whole_part c.props; text = small.0.parts.1 }, formed s n.2 small.1)

pub formed_set : (set : List Change) → IsBounded set → AreFormed (map record_of set)
formed_set set h = formed set h.set.0 h.small

-- what is written of a set's records is an entry
pub spelled_if : {E : Type 0} (r : Result (Vec ℕ Global) E) (n : ℕ) (set : List Change) (props ps : PropMap) (nodes : List NodeRecord)
    → nodes ≡ map record_of set → ps ≡ props → IsBounded set
    → IfOk r (λ v. v.items ≡ canon_entry n ps ++ flat_map canon_node nodes)
    → (AreFormed nodes → AreRecords (canon_entry n ps ++ flat_map canon_node nodes) (told.Revision n ps ∷ map read_node nodes))
    → IfOk r (λ v. Spells v.items (Revised n set props))
spelled_if (Ok v) n set props ps nodes same one h a b =
    let formed = subst (λ (l : List NodeRecord). AreFormed l) (sym same) (formed_set set h) in
    let read = subst (λ (l : List NodeRecord). AreRecords (canon_entry n ps ++ flat_map canon_node l) (told.Revision n ps ∷ map read_node l)) same (b formed) in
    let all = subst (λ (p : PropMap). AreRecords (canon_entry n p ++ flat_map canon_node (map record_of set)) (told.Revision n p ∷ map read_node (map record_of set))) one read in
    let is = subst (λ (p : PropMap). v.items ≡ canon_entry n p ++ flat_map canon_node (map record_of set)) one (subst (λ (l : List NodeRecord). v.items ≡ canon_entry n ps ++ flat_map canon_node l) same a) in
    record { canonical = is; readable = subst (λ (l : List ℕ). AreRecords l (records_in (Revised n set props))) (sym is) all }
spelled_if (Err e) n set props ps nodes same one h a b = tt

some_of : (tail : List ℕ) → 0 < length (codes "Revision-number: " ++ tail)
some_of tail = omega (arith, length-append (codes "Revision-number: ") tail)

-- an entry isn't empty
pub spelling_some : (e : Entry) → 0 < length (spelling e)
spelling_some (Revised n set props) = some_of _
spelling_some (Mapped n props) = some_of _

pub spelled_some : (bytes : List ℕ) (e : Entry) → bytes ≡ spelling e → 0 < length bytes
spelled_some bytes e is = omega (arith, spelling_some e, ap length is)
