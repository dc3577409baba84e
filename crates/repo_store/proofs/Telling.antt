-- The repository that a journal's entries tell.
use Rattle.std.proofs.Common.{◌≡◌, ◌+◌, ℕ, List, [], ◌∷◌, ◌++◌, map, take, slice_get, Option, Some, refl, sym, ◌∙◌, ap, subst, inl, inr, arith}
use Rattle.std.proofs.Math.Logic.{∥∥₁_map, ∥∥₁_elim}
use Rattle.std.proofs.lemmas.List.{map-append}
use Rattle.std.proofs.lemmas.Option.{slice_get-map}
use Rattle.std.specs.Coded.{Coded-set}
use Rattle.std.specs.FinMap as finite
use Rattle.std.specs.List.{flat_map}
use Rattle.std.specs.Option.{option_map}
use Rattle.node_base.specs.Path.{coded_name}
use Rattle.node_base.specs.Props.{PropMap}
use Rattle.node_base.specs.declared.node.Action.{Action}
use Rattle.node_base.specs.declared.node.Action.TheVariants.{Modify, Add, Delete, Replace}
use Rattle.node_base.specs.declared.node.NodeKind.{NodeKind}
use Rattle.fleet_disk.specs.Image.{Image}
use Rattle.gate_log.specs.Standing.{Stands, IsEither}
use Rattle.gate_log.specs.Verdicts.{OneList}
use Rattle.dump_text.specs.Canon.{canon_entry, canon_node, told_kind}
use Rattle.dump_text.specs.Laws.{DumpsAreRead}
use Rattle.dump_text.specs.declared.record.NodeRecord.{NodeRecord}
use Rattle.dump_load.specs.declared.change.Change.{Change}
use Rattle.dump_load.specs.Records.{change_of, record_of}
use Rattle.repo_core.specs.Repository.{Repository, Revision, fresh}
use Rattle.repo_core.specs.Entries.{with_entry, with_entry_in, with_set}
use Rattle.repo_core.specs.declared.entry.Entry.{Entry}
use Rattle.repo_core.specs.declared.entry.Entry.TheVariants.{Revised, Mapped}
use Rattle.repo_store.specs.Journal.{IsBeginning, Spells, Takes, Continues, StandsFor, Leads, Tell, Keeps, IsBeforeOrAfter, IsExport, begun, spelling}
use Rattle.repo_store.specs.Verdicts.{KeptReopens, ReopensKept, OneText}
use Rattle.repo_store.proofs.Going.{take_got}
use Rattle.repo_store.proofs.OneImage.{one_spelled, one_entry, one_journal}
use Rattle.repo_store.proofs.Reading.{beginning_read, one_dump, one_beginning}
use Rattle.repo_store.proofs.Taking.{set_told}
use Rattle.repo_store.proofs.Told.{told}

-- ---- entries one after another

leads_more : (r s : Repository) (entries : List (List ℕ)) (bytes : List ℕ) (e : Entry) → Leads r entries s → Spells bytes e → Takes s.revisions e → Leads r (entries ++ bytes ∷ []) (with_entry_in s e)
leads_more r s [] bytes e same spells takes = (e, spells, subst (λ (q : Repository). Takes q.revisions e) same takes, ap (λ (q : Repository). with_entry_in q e) same)
leads_more r s (b ∷ rest) bytes e (f, sp, t, more) spells takes = (f, sp, t, leads_more (with_entry_in r f) s rest bytes e more spells takes)

-- one entry more behind those of a repository
pub tell_more : (entries : List (List ℕ)) (r : Repository) (bytes : List ℕ) (e : Entry) → Tell entries r → Spells bytes e → Takes r.revisions e → Tell (entries ++ bytes ∷ []) (with_entry_in r e)
tell_more [] r bytes e none spells takes = absurd none
tell_more (first ∷ rest) r bytes e (props, begins, more) spells takes = (props, begins, leads_more _ r rest bytes e more spells takes)

-- a first entry
pub told_fresh : (bytes id : List ℕ) (entries : List (List ℕ)) (r : Repository) → IsBeginning bytes id finite.empty → entries ≡ bytes ∷ [] → r ≡ fresh id → Tell entries r
told_fresh bytes id entries r is one new =
    let there : Tell (bytes ∷ []) (fresh id) = (finite.empty, is, refl) in
    subst (λ (q : Repository). Tell entries q) (sym new) (subst (λ (l : List (List ℕ)). Tell l (fresh id)) (sym one) there)

-- the first entry that is read
pub first_told : (entries : List (List ℕ)) (r : Repository)
    → (bytes : List ℕ) × (ps : PropMap) × (slice_get entries 0 ≡ Some bytes) × IsBeginning bytes r.identity ps × (r ≡ with_entry_in (fresh r.identity) (Mapped 0 ps))
    → Tell (take 1 entries) r
first_told entries r (bytes, ps, there, begins, is) = subst (λ (l : List (List ℕ)). Tell l r) (sym (take_got entries 0 bytes there)) (ps, begins, is)

-- one more
pub next_told : (entries : List (List ℕ)) (i : ℕ) (old new : Repository) → Tell (take i entries) old
    → (bytes : List ℕ) × (e : Entry) × (slice_get entries i ≡ Some bytes) × Spells bytes e × Takes old.revisions e × (new ≡ with_entry_in old e)
    → Tell (take (i + 1) entries) new
next_told entries i old new tell (bytes, e, there, spells, takes, is) =
    let more = tell_more (take i entries) old bytes e tell spells takes in
    let all = subst (λ (l : List (List ℕ)). Tell l (with_entry_in old e)) (sym (take_got entries i bytes there)) more in
    subst (λ (q : Repository). Tell (take (i + 1) entries) q) (sym is) all

-- ---- the revisions that are told

leads_continues : (r s : Repository) (entries : List (List ℕ)) → Leads r entries s → Continues r.revisions entries s.revisions
leads_continues r s [] same = ap (λ (q : Repository). q.revisions) same
leads_continues r s (b ∷ rest) (e, spells, takes, more) = (e, spells, takes, leads_continues (with_entry_in r e) s rest more)

-- entries that tell a repository stand for its revisions
pub told_stands : (entries : List (List ℕ)) (r : Repository) → Tell entries r → StandsFor entries r.identity r.revisions
told_stands [] r none = absurd none
told_stands (first ∷ rest) r (props, begins, more) = (props, begins, leads_continues _ r rest more)

-- an image in which they stand keeps it
pub kept : (entries : List (List ℕ)) (r : Repository) (image : Image) → ∥ Tell entries r ∥₁ → Stands image entries → Keeps r image
kept entries r image known stands = ∥∥₁_map known (λ s. (entries, stands, s))

-- so does one with one entry more
pub after_kept : (entries : List (List ℕ)) (r : Repository) (bytes : List ℕ) (e : Entry) (image : Image)
    → ∥ Tell entries r ∥₁ → Spells bytes e → Takes r.revisions e → Stands image (entries ++ bytes ∷ []) → Keeps (with_entry_in r e) image
after_kept entries r bytes e image known spells takes new = ∥∥₁_map known (λ s. (entries ++ bytes ∷ [], new, tell_more entries r bytes e s spells takes))

-- or with it, or without it
pub either_kept : (entries : List (List ℕ)) (r : Repository) (bytes : List ℕ) (e : Entry) (image : Image)
    → ∥ Tell entries r ∥₁ → Spells bytes e → Takes r.revisions e → IsEither entries bytes image → IsBeforeOrAfter r e image
either_kept entries r bytes e image known spells takes (inl old) = inl (kept entries r image known old)
either_kept entries r bytes e image known spells takes (inr new) = inr (after_kept entries r bytes e image known spells takes new)

pub kept_reopens : KeptReopens
kept_reopens image r known = ∥∥₁_map known (λ s. (s.0, s.1, told_stands s.0 r s.2))

leads_of : (r : Repository) (entries : List (List ℕ)) (y : List Revision) → Continues r.revisions entries y → (s : Repository) × Leads r entries s × (s.identity ≡ r.identity) × (s.revisions ≡ y)
leads_of r [] y same = (r, refl, refl, sym same)
leads_of r (bytes ∷ rest) y (e, spells, takes, more) =
    let (s, leads, one, is) = leads_of (with_entry_in r e) rest y more in
    (s, (e, spells, takes, leads), one, is)

-- entries that stand for revisions tell a repository of these
told_of : (entries : List (List ℕ)) (identity : List ℕ) (x : List Revision) → StandsFor entries identity x → (r : Repository) × Tell entries r × (r.identity ≡ identity) × (r.revisions ≡ x)
told_of [] identity x none = absurd none
told_of (first ∷ rest) identity x (props, begins, more) =
    let (s, leads, one, is) = leads_of (with_entry_in (fresh identity) (Mapped 0 props)) rest x more in
    let tell : (id : List ℕ) → id ≡ identity → (props : PropMap) × IsBeginning first id props × Leads (with_entry_in (fresh id) (Mapped 0 props)) rest s =
    λ id same. subst (λ (i : List ℕ). (props : PropMap) × IsBeginning first i props × Leads (with_entry_in (fresh i) (Mapped 0 props)) rest s) (sym same) (props, begins, leads) in
    (s, tell s.identity one, one, is)

pub reopens_kept : ReopensKept
reopens_kept image identity x known =
    ∥∥₁_map known (λ s. let (r, tell, one, is) = told_of s.0 identity x s.2 in (r, one, is, ∣ (s.0, s.1, tell) ∣₁))

-- ---- one text

-- sets as their records tell them
abbrev all_told : List (List Change) → List (List Change)
all_told sets = map (λ (s : List Change). map told s) sets

abbrev seen : Entry → List (List Change)
seen (Revised n set props) = map told set ∷ []
seen (Mapped n props) = []

with_set_told : (sets : List (List Change)) (e : Entry) → all_told (with_set sets e) ≡ all_told sets ++ seen e
with_set_told sets (Revised n set props) = map-append (λ (s : List Change). map told s) sets (set ∷ [])
with_set_told sets (Mapped n props) = nothing (all_told sets)
  where
    nothing : (l : List (List Change)) → l ≡ l ++ []
    nothing [] = refl
    nothing (s ∷ l) = ap (λ (m : List (List Change)). s ∷ m) (nothing l)

-- entries that are spelled alike tell the same set
one_seen : (law : DumpsAreRead) (x : List Revision) (bytes : List ℕ) (e f : Entry) → Spells bytes e → Spells bytes f → Takes x e → Takes x f → seen e ≡ seen f
one_seen law x bytes (Revised n set props) (Revised m other others) s t u v =
    let nodes = (one_spelled law bytes (Revised n set props) (Revised m other others) s t).2 in
    ap (λ (l : List Change). l ∷ []) (sym (set_told set) ∙ ap (λ (ns : List NodeRecord). map change_of ns) nodes ∙ set_told other)
one_seen law x bytes (Mapped n props) (Mapped m others) s t u v = refl
one_seen law x bytes (Revised n set props) (Mapped m others) s t u v =
    absurd (omega (arith, (one_spelled law bytes (Revised n set props) (Mapped m others) s t).0, u.next, v.next))
one_seen law x bytes (Mapped n props) (Revised m other others) s t u v =
    absurd (omega (arith, (one_spelled law bytes (Mapped n props) (Revised m other others) s t).0, u.next, v.next))

-- so what they lead to has the same sets, as these are told
one_lead : (law : DumpsAreRead) (rest : List (List ℕ)) (r s y z : Repository) → r.revisions ≡ s.revisions → all_told r.sets ≡ all_told s.sets → Leads r rest y → Leads s rest z → all_told y.sets ≡ all_told z.sets
one_lead law [] r s y z same sets a b = ap (λ (q : Repository). all_told q.sets) a ∙ sets ∙ sym (ap (λ (q : Repository). all_told q.sets) b)
one_lead law (bytes ∷ rest) r s y z same sets (e, sp, u, more) (f, t, v, more2) =
    let here = subst (λ (w : List Revision). Takes w f) (sym same) v in
    let one = one_entry law r.revisions bytes e f sp t u here ∙ ap (λ (w : List Revision). with_entry w f) same in
    let now = with_set_told r.sets e ∙ (λ i. sets i ++ one_seen law r.revisions bytes e f sp t u here i) ∙ sym (with_set_told s.sets f) in
    one_lead law rest (with_entry_in r e) (with_entry_in s f) y z one now more more2

-- two repositories that entries tell are one, but for what a set's record doesn't tell
one_tale : (law : DumpsAreRead) (entries : List (List ℕ)) (r s : Repository) → Tell entries r → Tell entries s → (r.revisions ≡ s.revisions) × (all_told r.sets ≡ all_told s.sets)
one_tale law [] r s a b = absurd a
one_tale law (first ∷ rest) r s (props, begins, more) (props2, begins2, more2) =
    let whole = one_journal law (first ∷ rest) r.identity s.identity r.revisions s.revisions (told_stands (first ∷ rest) r (props, begins, more)) (told_stands (first ∷ rest) s (props2, begins2, more2)) in
    let (one, same) = one_beginning r.identity s.identity props props2 (one_dump first _ _ (beginning_read law first r.identity props begins) (beginning_read law first s.identity props2 begins2)) in
    (whole.1, one_lead law rest _ _ r s (λ i. begun (one i) (same i)) refl more more2)

node_told : (c : Change) → canon_node (record_of (told c)) ≡ canon_node (record_of c)
node_told c = at c.action c.kind
  where
    at : (a : Action) (k : Option NodeKind) → canon_node (record (record_of c) { action = a; kind = told_kind a k }) ≡ canon_node (record (record_of c) { action = a; kind = k })
    at Modify k = refl
    at Add k = refl
    at Delete k = refl
    at Replace k = refl

nodes_told : (set : List Change) → flat_map canon_node (map record_of (map told set)) ≡ flat_map canon_node (map record_of set)
nodes_told [] = refl
nodes_told (c ∷ s) = λ i. node_told c i ++ nodes_told s i

some_is : {X : Type 0} (a b : X) → Some a ≡ Some b → a ≡ b
some_is a b e = cc

-- sets that are told alike are spelled alike
alike_spelled : (n : ℕ) (set other : List Change) (x y : PropMap) → map told set ≡ map told other → x ≡ y → spelling (Revised n set x) ≡ spelling (Revised n other y)
alike_spelled n set other x y sets one =
    let nodes = sym (nodes_told set) ∙ ap (λ (s : List Change). flat_map canon_node (map record_of s)) sets ∙ nodes_told other in
    λ i. canon_entry n (one i) ++ nodes i

-- so their exports are the same
one_export : (r s : Repository) (n : ℕ) (a b : List ℕ) → r.revisions ≡ s.revisions → all_told r.sets ≡ all_told s.sets → IsExport r n a → IsExport s n b → a ≡ b
one_export r s n a b revisions sets (y, set, at, there, is) (z, other, at2, there2, is2) =
    let telling = λ (l : List Change). map told l in
    let one = some_is y z (sym at ∙ ap (λ (l : List Revision). slice_get l n) revisions ∙ at2) in
    let mine = slice_get-map telling r.sets n ∙ ap (λ (o : Option (List Change)). option_map telling o) there in
    let others = slice_get-map telling s.sets n ∙ ap (λ (o : Option (List Change)). option_map telling o) there2 in
    let alike = some_is (map told set) (map told other) (sym mine ∙ ap (λ (l : List (List Change)). slice_get l n) sets ∙ others) in
    is ∙ alike_spelled n set other y.props z.props alike (ap (λ (w : Revision). w.props) one) ∙ sym is2

pub one_text : OneList → DumpsAreRead → OneText
one_text lists law image r s n a b known known2 mine others =
    ∥∥₁_elim known (Coded-set coded_name a b) (λ p. ∥∥₁_elim known2 (Coded-set coded_name a b) (λ q. of_both p q))
  where
    of_both : (entries : List (List ℕ)) × Stands image entries × Tell entries r → (entries : List (List ℕ)) × Stands image entries × Tell entries s → a ≡ b
    of_both (entries, there, tell) (entries2, there2, tell2) =
        let one = one_tale law entries r s tell (subst (λ (l : List (List ℕ)). Tell l s) (lists image entries2 entries there2 there) tell2) in
        one_export r s n a b one.0 one.1 mine others
