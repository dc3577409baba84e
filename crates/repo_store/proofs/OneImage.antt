-- One verdict for each image.
use Rattle.std.proofs.Common.{◌≡◌, ◌<◌, ◌≤◌, ◌+◌, arith, ℕ, List, [], ◌∷◌, ◌++◌, map, length, take, slice_get, zero, suc, Some, refl, sym, ◌∙◌, ap, subst, inl, inr}
use Rattle.std.specs.Coded.{Coded-set, coded_list, ×_prop}
use Rattle.std.proofs.lemmas.Bool.{cases_order}
use Rattle.std.proofs.lemmas.Option.{slice_get_cases}
use Rattle.std.proofs.lemmas.List.{length-take}
use Rattle.std.proofs.Math.Logic.{∥∥₁_elim}
use Rattle.node_base.specs.Path.{coded_name}
use Rattle.node_base.specs.Props.{PropMap}
use Rattle.gate_log.specs.Standing.{Stands}
use Rattle.gate_log.specs.Verdicts.{OneList, OneDamage as OneDamageAt, NotDamaged as NotDamagedAt, NotMissing as NotMissingAt, DamageNotMissing as DamageNotMissingAt}
use Rattle.dump_text.specs.Laws.{DumpsAreRead}
use Rattle.dump_text.specs.declared.record.NodeRecord.{NodeRecord}
use Rattle.dump_load.specs.declared.change.Change.{Change}
use Rattle.dump_load.specs.Trees.{effect_tree}
use Rattle.dump_load.specs.Records.{change_of}
use Rattle.repo_core.specs.Repository.{Repository, Revision, trees_of, coded_revision}
use Rattle.repo_core.specs.Entries.{with_entry}
use Rattle.repo_core.specs.Staging.{number_in, props_in}
use Rattle.repo_core.specs.declared.entry.Entry.{Entry}
use Rattle.repo_core.specs.declared.entry.Entry.TheVariants.{Revised, Mapped}
use Rattle.repo_store.specs.Journal.{IsBeginning, Spells, Takes, Continues, StandsFor, IsFirstBad, begun}
use Rattle.repo_store.specs.Verdicts.{OneJournal, OneRepository, NotDamaged, NotMissing, OneDamage, DamageNotMissing}
use Rattle.repo_store.proofs.Going.{take_got}
use Rattle.repo_store.proofs.Reading.{spelled_read, one_read, one_revision, one_told, nodes_in, beginning_read, one_dump, one_beginning}
use Rattle.repo_store.proofs.Told.{tree_told}
use Rattle.repo_store.proofs.Taking.{set_told}

-- ---- one repository

-- entries that are spelled alike have the same number, properties and nodes
pub one_spelled : (law : DumpsAreRead) (bytes : List ℕ) (e f : Entry) → Spells bytes e → Spells bytes f → (number_in e ≡ number_in f) × (props_in e ≡ props_in f) × (nodes_in e ≡ nodes_in f)
one_spelled law bytes e f s t =
    one_told (number_in e) (number_in f) (props_in e) (props_in f) (nodes_in e) (nodes_in f)
    (sym (one_revision e) ∙ one_read bytes _ _ (spelled_read law bytes e s) (spelled_read law bytes f t) ∙ one_revision f)

-- so their sets make the same tree
one_tree : (x : List Revision) (set other : List Change) (n m : ℕ) (props others : PropMap) → nodes_in (Revised n set props) ≡ nodes_in (Revised m other others) → effect_tree (trees_of x) set ≡ effect_tree (trees_of x) other
one_tree x set other n m props others same =
    sym (tree_told (trees_of x) set)
    ∙ ap (effect_tree (trees_of x)) (sym (set_told set) ∙ ap (λ (ns : List NodeRecord). map change_of ns) same ∙ set_told other)
    ∙ tree_told (trees_of x) other

-- revisions go on with an entry's bytes in one way
pub one_entry : (law : DumpsAreRead) (x : List Revision) (bytes : List ℕ) (e f : Entry) → Spells bytes e → Spells bytes f → Takes x e → Takes x f → with_entry x e ≡ with_entry x f
one_entry law x bytes (Revised n set props) (Revised m other others) s t u v =
    let (number, same, nodes) = one_spelled law bytes (Revised n set props) (Revised m other others) s t in
    let tree = one_tree x set other n m props others nodes in
    λ i. x ++ record { tree = tree i; props = same i } ∷ []
one_entry law x bytes (Mapped n props) (Mapped m others) s t u v =
    let (number, same, nodes) = one_spelled law bytes (Mapped n props) (Mapped m others) s t in
    λ i. with_entry x (Mapped (number i) (same i))
one_entry law x bytes (Revised n set props) (Mapped m others) s t u v =
    absurd (omega (arith, (one_spelled law bytes (Revised n set props) (Mapped m others) s t).0, u.next, v.next))
one_entry law x bytes (Mapped n props) (Revised m other others) s t u v =
    absurd (omega (arith, (one_spelled law bytes (Mapped n props) (Revised m other others) s t).0, u.next, v.next))

one_way : (law : DumpsAreRead) (x x2 : List Revision) (rest : List (List ℕ)) (y z : List Revision) → x ≡ x2 → Continues x rest y → Continues x2 rest z → y ≡ z
one_way law x x2 [] y z same a b = a ∙ same ∙ sym b
one_way law x x2 (bytes ∷ rest) y z same (e, s, u, more) (f, t, v, more2) =
    let here = subst (λ (w : List Revision). Takes w f) (sym same) v in
    one_way law (with_entry x e) (with_entry x2 f) rest y z (one_entry law x bytes e f s t u here ∙ ap (λ (w : List Revision). with_entry w f) same) more more2

pub one_journal : DumpsAreRead → OneJournal
one_journal law [] identity other x y a b = absurd a
one_journal law (first ∷ rest) identity other x y (props, begins, more) (props2, begins2, more2) =
    let (one, same) = one_beginning identity other props props2 (one_dump first _ _ (beginning_read law first identity props begins) (beginning_read law first other props2 begins2)) in
    (one, one_way law (begun identity props) (begun other props2) rest x y (λ i. begun (one i) (same i)) more more2)

bottom_prop : IsProp ⊥
bottom_prop a b = absurd a

-- two repositories are the same in one way
same_prop : (identity other : List ℕ) (x y : List Revision) → IsProp ((identity ≡ other) × (x ≡ y))
same_prop identity other x y = ×_prop (Coded-set coded_name identity other) (Coded-set (coded_list coded_revision) x y)

pub one_repository : OneList → DumpsAreRead → OneRepository
one_repository lists law image identity other x y a b = ∥∥₁_elim a (same_prop identity other x y) (λ s. ∥∥₁_elim b (same_prop identity other x y) (λ t. of_both s t))
  where
    of_both : (entries : List (List ℕ)) × Stands image entries × StandsFor entries identity x → (entries : List (List ℕ)) × Stands image entries × StandsFor entries other y → (identity ≡ other) × (x ≡ y)
    of_both (entries, there, stands) (entries2, there2, stands2) =
        one_journal law entries identity other x y stands (subst (λ (l : List (List ℕ)). StandsFor l other y) (lists image entries2 entries there2 there) stands2)

-- ---- fronts

one_more : (k : ℕ) → suc k ≡ k + 1
one_more k = omega arith

none_goes : (x : List Revision) (k : ℕ) → Continues x (take k []) x
none_goes x zero = refl
none_goes x (suc k) = refl

-- the entries in front of those that are taken are taken
front_goes : (x y : List Revision) (entries : List (List ℕ)) (k : ℕ) → Continues x entries y → (z : List Revision) × Continues x (take k entries) z
front_goes x y [] k goes = (x, none_goes x k)
front_goes x y (bytes ∷ rest) zero goes = (x, refl)
front_goes x y (bytes ∷ rest) (suc k) (e, s, t, more) =
    let (z, there) = front_goes (with_entry x e) y rest k more in
    (z, (e, s, t, there))

-- so those in front of a journal's stand for a repository, if there is one
front_stands : (entries : List (List ℕ)) (k : ℕ) (identity : List ℕ) (x : List Revision) → StandsFor entries identity x → (z : List Revision) × StandsFor (take (suc k) entries) identity z
front_stands [] k identity x stands = absurd stands
front_stands (first ∷ rest) k identity x (props, begins, more) =
    let (z, there) = front_goes (begun identity props) x rest k more in
    (z, (props, begins, there))

some_entry : (entries : List (List ℕ)) (identity : List ℕ) (x : List Revision) → StandsFor entries identity x → 0 < length entries
some_entry [] identity x stands = absurd stands
some_entry (first ∷ rest) identity x stands = omega arith

take_less : (k n : ℕ) (entries : List (List ℕ)) → k ≤ n → take k (take n entries) ≡ take k entries
take_less zero n entries le = refl
take_less (suc k) zero entries le = absurd (omega (arith, le))
take_less (suc k) (suc n) [] le = refl
take_less (suc k) (suc n) (e ∷ entries) le = ap (λ (l : List (List ℕ)). e ∷ l) (take_less k n entries (omega (arith, le)))

-- ---- damage

stands_not_bad : (entries : List (List ℕ)) (entry : ℕ) (identity : List ℕ) (x : List Revision) → StandsFor entries identity x → IsFirstBad entry entries → ⊥
stands_not_bad entries entry identity x stands bad =
    let (z, front) = front_stands entries entry identity x stands in
    bad.breaks identity z (subst (λ (n : ℕ). StandsFor (take n entries) identity z) (one_more entry) front)

pub not_damaged : OneList → NotDamagedAt → NotDamaged
not_damaged lists log image identity x entry known (inl at) = ∥∥₁_elim known bottom_prop (λ s. log image s.0 entry s.1 at)
not_damaged lists log image identity x entry known (inr (entries, there, bad)) = ∥∥₁_elim known bottom_prop of_one
  where
    of_one : (others : List (List ℕ)) × Stands image others × StandsFor others identity x → ⊥
    of_one (others, there2, stands) = stands_not_bad entries entry identity x (subst (λ (l : List (List ℕ)). StandsFor l identity x) (lists image others entries there2 there) stands) bad

pub not_missing : NotMissingAt → NotMissing
not_missing log image identity x known missing = ∥∥₁_elim known bottom_prop of_one
  where
    of_one : (entries : List (List ℕ)) × Stands image entries × StandsFor entries identity x → ⊥
    of_one (entries, there, stands) = log image entries there (some_entry entries identity x stands) missing

never_before : (entries : List (List ℕ)) (entry other : ℕ) → entry < other → IsFirstBad entry entries → IsFirstBad other entries → ⊥
never_before entries entry other before bad later = ∥∥₁_elim (later.before (omega (arith, before))) bottom_prop of_one
  where
    of_one : (identity : List ℕ) × (x : List Revision) × StandsFor (take other entries) identity x → ⊥
    of_one (identity, x, stands) =
        let (z, front) = front_stands (take other entries) entry identity x stands in
        let there = subst (λ (l : List (List ℕ)). StandsFor l identity z) (take_less (suc entry) other entries (omega (arith, before))) front in
        bad.breaks identity z (subst (λ (n : ℕ). StandsFor (take n entries) identity z) (one_more entry) there)

one_first : (entries : List (List ℕ)) (entry other : ℕ) → IsFirstBad entry entries → IsFirstBad other entries → entry ≡ other
one_first entries entry other a b = elim (cases_order entry other) [
  | inl same ↦ same
  | inr (inl before) ↦ absurd (never_before entries entry other before a b)
  | inr (inr behind) ↦ absurd (never_before entries other entry behind b a)
]

pub one_damage : OneList → NotDamagedAt → OneDamageAt → OneDamage
one_damage lists log two image entry other (inl a) (inl b) = two image entry other a b
one_damage lists log two image entry other (inl a) (inr (entries, there, bad)) = absurd (log image entries entry there a)
one_damage lists log two image entry other (inr (entries, there, bad)) (inl b) = absurd (log image entries other there b)
one_damage lists log two image entry other (inr (entries, there, bad)) (inr (entries2, there2, bad2)) =
    one_first entries entry other bad (subst (λ (l : List (List ℕ)). IsFirstBad other l) (lists image entries2 entries there2 there) bad2)

pub damage_not_missing : DamageNotMissingAt → NotMissingAt → DamageNotMissing
damage_not_missing first log image entry (inl at) missing = first image entry at missing
damage_not_missing first log image entry (inr (entries, there, bad)) missing = log image entries there (omega (arith, bad.there)) missing

-- ---- where the reading of entries stops

-- before the last of entries that are taken
continues_last : (x y : List Revision) (entries : List (List ℕ)) (bytes : List ℕ) → Continues x (entries ++ bytes ∷ []) y → (z : List Revision) × (e : Entry) × Continues x entries z × Spells bytes e × Takes z e
continues_last x y [] bytes (e, s, t, more) = (x, e, refl, s, t)
continues_last x y (b ∷ rest) bytes (f, s, t, more) =
    let (z, e, goes, spells, takes) = continues_last (with_entry x f) y rest bytes more in
    (z, e, (f, s, t, goes), spells, takes)

stands_last : (entries : List (List ℕ)) (bytes identity : List ℕ) (x : List Revision) → 0 < length entries → StandsFor (entries ++ bytes ∷ []) identity x → (z : List Revision) × (e : Entry) × StandsFor entries identity z × Spells bytes e × Takes z e
stands_last [] bytes identity x some stands = absurd (omega (arith, some))
stands_last (first ∷ rest) bytes identity x some (props, begins, more) =
    let (z, e, goes, spells, takes) = continues_last (begun identity props) x rest bytes more in
    (z, e, (props, begins, goes), spells, takes)

-- the first entry is the first that is damaged
pub first_bad : (entries : List (List ℕ)) (k : ℕ) → k ≡ 0 → 0 < length entries
    → ((bytes identity : List ℕ) (props : PropMap) → slice_get entries 0 ≡ Some bytes → IsBeginning bytes identity props → ⊥) → IsFirstBad k entries
first_bad [] k is some none = absurd (omega (arith, some))
first_bad (first ∷ rest) k is some none = subst (λ (n : ℕ). IsFirstBad n (first ∷ rest)) (sym is) (record {
  there = omega arith;
  before = λ more. absurd (omega (arith, more));
  breaks = λ identity x stands. none first identity stands.0 refl stands.1;
})

got : (entries : List (List ℕ)) (i : ℕ) → i < length entries → (bytes : List ℕ) × (slice_get entries i ≡ Some bytes)
got entries i within = elim (slice_get_cases entries i).1 [
  | inl (bytes, under, is, same) ↦ (bytes, is)
  | inr (past, none) ↦ absurd (omega (arith, past, within))
]

long_front : (entries : List (List ℕ)) (i : ℕ) → 0 < i → i < length entries → 0 < length (take i entries)
long_front entries i some within = omega (arith, length-take i entries, some, within)

-- a later one is
pub next_bad : (law : DumpsAreRead) (entries : List (List ℕ)) (i k : ℕ) (r : Repository) → k ≡ i → 0 < i → i < length entries → StandsFor (take i entries) r.identity r.revisions
    → ((bytes : List ℕ) (e : Entry) → slice_get entries i ≡ Some bytes → Spells bytes e → Takes r.revisions e → ⊥) → IsFirstBad k entries
next_bad law entries i k r is some within stands none = subst (λ (n : ℕ). IsFirstBad n entries) (sym is) (record {
  there = within;
  before = λ more. ∣ (r.identity, r.revisions, stands) ∣₁;
  breaks = broken;
})
  where
    broken : (identity : List ℕ) (x : List Revision) → StandsFor (take (i + 1) entries) identity x → ⊥
    broken identity x more =
        let (bytes, there) = got entries i within in
        let (z, e, front, spells, takes) = stands_last (take i entries) bytes identity x (long_front entries i some within) (subst (λ (l : List (List ℕ)). StandsFor l identity x) (take_got entries i bytes there) more) in
        let one = (one_journal law (take i entries) identity r.identity z r.revisions front stands).1 in
        none bytes e there spells (subst (λ (w : List Revision). Takes w e) one takes)
