-- Nodes without deltas.
use Rattle.std.proofs.Common.{◌≡◌, ◌&&◌, Bool, true, false, List, [], ◌∷◌, ◌++◌, map, length, Option, Some, None, refl, sym, ap, subst, ◌∙◌, append-nil, arith}
use Rattle.std.specs.List.{flat_map}
use Rattle.std.specs.Option.{option_map}
use Rattle.node_base.specs.Props.{PropMap}
use Rattle.dump_text.specs.Canon.{canon_entry, canon_node, canon_revision}
use Rattle.dump_text.specs.Written.{are_whole, is_whole_part}
use Rattle.dump_text.specs.declared.record.DumpRecord.{DumpRecord}
use Rattle.dump_text.specs.declared.record.DumpRecord.TheVariants as told
use Rattle.dump_text.specs.declared.record.NodeRecord.{NodeRecord}
use Rattle.dump_text.specs.declared.record.PropPart.TheVariants.{Whole}
use Rattle.dump_text.specs.declared.record.RevRecord.{RevRecord}
use Rattle.dump_load.specs.Records.{record_of}
use Rattle.dump_load.specs.declared.change.Change.{Change}
use Rattle.whole_texts.specs.declared.read_node.ReadNode.{ReadNode}
use Rattle.whole_texts.specs.Whole.{node_in}
use Rattle.fleet_engines.specs.Histories.{rev_of, revs_of, IsWritable}
use Rattle.fleet_engines.specs.Revisions.{by_set, plain, Closes, Rev, Takes, Told}
use Rattle.fleet_engines.specs.Revisions as closing
use Rattle.fleet_engines.specs.Runs.{canon_of}

-- their records
plain_again : (xs : List NodeRecord) → map node_in (map plain xs) ≡ xs
plain_again [] = refl
plain_again (x ∷ xs) = ap (λ ys. x ∷ ys) (plain_again xs)

-- the spelling of a revision that was given back
pub spelled_back : (o : Option RevRecord) (r : RevRecord) → o ≡ Some r → canon_revision r ≡ flat_map canon_of (revs_of o)
spelled_back o r e = sym (ap (λ p. flat_map canon_of (revs_of p)) e ∙ append-nil (canon_of (rev_of r)) ∙ ap (λ ns. canon_entry r.number r.props ++ flat_map canon_node ns) (plain_again r.nodes.items))

both : (a b : Bool) → a ≡ true → b ≡ true → (a && b) ≡ true
both true b p q = q
both false b p q = p

whole_part : (o : Option PropMap) → is_whole_part (option_map Whole o) ≡ true
whole_part None = refl
whole_part (Some p) = refl

-- the records of a set give no properties as a delta
whole_records : (s : List Change) → are_whole (map record_of s) ≡ true
whole_records [] = refl
whole_records (c ∷ s) = both (is_whole_part (record_of c).props) (are_whole (map record_of s)) (whole_part c.props) (whole_records s)

abbrev first_nodes : List Rev → List ReadNode
first_nodes [] = []
first_nodes (r ∷ rs) = r.nodes

of_set : (o : Option RevRecord) (r : Rev) (set : List Change) → revs_of o ≡ by_set r set ∷ [] → IsWritable o
of_set None r set e = tt
of_set (Some x) r set e =
    subst (λ (l : List NodeRecord). are_whole l ≡ true) (sym (sym (plain_again x.nodes.items) ∙ ap (λ l. map node_in (first_nodes l)) e ∙ plain_again (map record_of set))) (whole_records set)

of_none : (o : Option RevRecord) → revs_of o ≡ [] → IsWritable o
of_none None e = tt
of_none (Some x) e = absurd (omega (arith, ap length e))

-- a revision that is given back can be written
pub closed_writable : (t u : Told) (o : Option RevRecord) → Closes t u (revs_of o) → IsWritable o
closed_writable t u o (closing.no_revision last same none) = of_none o none
closed_writable t u o (closing.revision_0 r last zero same none) = of_none o none
closed_writable t u o (closing.a_revision r set tree last other makes same out) = of_set o r set out

pub taken_writable : (t u : Told) (next : DumpRecord) (o : Option RevRecord) → Takes t next u (revs_of o) → IsWritable o
taken_writable t u (told.Identity id) o h = of_none o h.1
taken_writable t u (told.Revision n props) o h = closed_writable t h.0 o h.1
taken_writable t u (told.Node x) o h = of_none o h.4
taken_writable t u (told.DeltaNode x d) o h = of_none o h.4
