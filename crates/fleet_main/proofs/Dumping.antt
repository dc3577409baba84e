-- Of what an image keeps each dump is one text.
use Rattle.std.proofs.Common.{◌≡◌, ◌<◌, ◌+◌, ◌-◌, ℕ, zero, suc, List, [], ◌∷◌, ◌++◌, length, length-append, slice_get, Some, refl, sym, ◌∙◌, ap, subst, arith, inl, inr}
use Rattle.std.proofs.Math.Logic.{∥∥₁_elim}
use Rattle.std.proofs.lemmas.Option.{slice_get_cases}
use Rattle.std.specs.Coded.{Coded-set}
use Rattle.std.specs.Option.{option_map_or}
use Rattle.dump_text.specs.Canon.{canon_head}
use Rattle.fleet_disk.specs.Image.{Image}
use Rattle.node_base.specs.Path.{coded_name}
use Rattle.node_base.specs.Props.{PropMap}
use Rattle.repo_core.specs.Entries.{with_entry_in, with_props}
use Rattle.repo_core.specs.Repository.{Repository, Revision, fresh, head_of}
use Rattle.repo_core.specs.declared.entry.Entry.{Entry}
use Rattle.repo_core.specs.declared.entry.Entry.TheVariants.{Revised, Mapped}
use Rattle.repo_store.specs.Journal.{IsExport, Keeps, Leads, Tell, spelling}
use Rattle.repo_store.specs.Verdicts.{KeptReopens, OneRepository, OneText}
use Rattle.store_engines.specs.Dumps.{revision_now, revisions_text}
use Rattle.store_engines.specs.Ranges.{count_wanted, first_wanted, last_in, last_wanted}
use Rattle.store_engines.proofs.Dumping.{export_now, text_more}
use Rattle.fleet_main.specs.Laws.{OneDump, OneHead}

-- entries tell a set for each revision
same_count : (x : List Revision) (n : ℕ) (props : PropMap) → length (with_props x n props) ≡ length x
same_count [] n props = refl
same_count (y ∷ x) zero props = refl
same_count (y ∷ x) (suc n) props = ap suc (same_count x n props)

sets_with : (r : Repository) (e : Entry) → length r.sets ≡ length r.revisions → length (with_entry_in r e).sets ≡ length (with_entry_in r e).revisions
sets_with r (Revised n set props) h = length-append r.sets (set ∷ []) ∙ ap (λ k. k + 1) h ∙ sym (length-append r.revisions _)
sets_with r (Mapped n props) h = h ∙ sym (same_count r.revisions n props)

leads_sets : (rest : List (List ℕ)) (r y : Repository) → length r.sets ≡ length r.revisions → Leads r rest y → length y.sets ≡ length y.revisions
leads_sets [] r y h same = subst (λ q. length q.sets ≡ length q.revisions) (sym same) h
leads_sets (bytes ∷ rest) r y h (e, spells, takes, more) = leads_sets rest (with_entry_in r e) y (sets_with r e h) more

tell_sets : (entries : List (List ℕ)) (r : Repository) → Tell entries r → length r.sets ≡ length r.revisions
tell_sets [] r t = absurd t
tell_sets (first ∷ rest) r (props, begins, more) = leads_sets rest (with_entry_in (fresh r.identity) (Mapped 0 props)) r (sets_with (fresh r.identity) (Mapped 0 props) refl) more

there : {X : Type 0} (xs : List X) (n : ℕ) → n < length xs → (x : X) × (slice_get xs n ≡ Some x)
there xs n h = elim ((slice_get_cases xs n).1) [
  | inl (x, under, is, same) ↦ (x, is)
  | inr (past, none) ↦ let no : ⊥ = omega (arith, h, past) in absurd no
]

-- so each revision is exported
exports : (r : Repository) (n : ℕ) → length r.sets ≡ length r.revisions → n < length r.revisions → IsExport r n (spelling (revision_now r n))
exports r n sets h =
    let y = there r.revisions n h in
    let set = there r.sets n (omega (arith, sets, h)) in
    (y.0, set.0, y.1, set.1, sym (export_now r n (spelling (Revised n set.0 y.0.props)) (y.0, set.0, y.1, set.1, refl)))

one_revision : OneText → (image : Image) (r s : Repository) (n : ℕ) → Keeps r image → Keeps s image → n < length r.revisions → n < length s.revisions → spelling (revision_now r n) ≡ spelling (revision_now s n)
one_revision law image r s n k l h g =
    ∥∥₁_elim k (Coded-set coded_name (spelling (revision_now r n)) (spelling (revision_now s n)))
    (λ p. ∥∥₁_elim l (Coded-set coded_name (spelling (revision_now r n)) (spelling (revision_now s n)))
    (λ q. law image r s n (spelling (revision_now r n)) (spelling (revision_now s n)) k l (exports r n (tell_sets p.0 r p.2) h) (exports s n (tell_sets q.0 s q.2) g)))

one_range : OneText → (image : Image) (r s : Repository) (first count : ℕ) → Keeps r image → Keeps s image → length s.revisions ≡ length r.revisions → ((n : ℕ) → n < count → first + n < length r.revisions)
    → revisions_text r first count ≡ revisions_text s first count
one_range law image r s first zero k l same there = refl
one_range law image r s first (suc n) k l same there =
    let more : suc n ≡ n + 1 = omega arith in
    let inside : first + n < length r.revisions = there n (omega arith) in
    let before = one_range law image r s first n k l same (λ m h. there m (omega (arith, h))) in
    let last = one_revision law image r s (first + n) k l inside (omega (arith, inside, same)) in
    ap (revisions_text r first) more ∙ text_more r first n ∙ (λ i. before i ++ last i) ∙ sym (ap (revisions_text s first) more ∙ text_more s first n)

pub one_dump : OneRepository → KeptReopens → OneText → OneDump
one_dump repository reopens law image r s range k l h =
    let one = repository image r.identity s.identity r.revisions s.revisions (reopens image r k) (reopens image s l) in
    let last : last_wanted r range ≡ last_wanted s range = ap (λ x. option_map_or last_in range (head_of x)) one.1 in
    let counts : count_wanted r range ≡ count_wanted s range = ap (λ n. n + 1 - first_wanted range) last in
    let lengths : length s.revisions ≡ length r.revisions = sym (ap length one.1) in
    let texts : revisions_text r (first_wanted range) (count_wanted r range) ≡ revisions_text s (first_wanted range) (count_wanted s range) =
    one_range law image r s (first_wanted range) (count_wanted r range) k l lengths (λ n m. omega (arith, h, m)) ∙ ap (revisions_text s (first_wanted range)) counts in
    (omega (arith, h, last, lengths), λ i. canon_head (Some (one.0 i)) ++ texts i)

pub one_head : OneRepository → KeptReopens → OneHead
one_head repository reopens image r s k l = ap head_of (repository image r.identity s.identity r.revisions s.revisions (reopens image r k) (reopens image s l)).1
