-- Revisions written one after another.
use Rattle.std.proofs.Common.{◌≡◌, ℕ, zero, suc, ◌<◌, ◌+◌, ◌-◌, ◌⊎◌, List, [], ◌∷◌, ◌++◌, length, Option, Some, Result, Ok, Err, sym, ap, subst, ◌∙◌, append-nil, arith, inl, inr}
use Rattle.std.proofs.KnownBytes.{Appends-trans}
use Rattle.std.specs.List.{flat_map, range_with_len}
use Rattle.std.specs.Io.KnownBytes.{Appends}
use Rattle.std.specs.Result.{OnOk, IfErr}
use Rattle.dump_text.specs.Canon.{canon_head}
use Rattle.node_base.specs.declared.refusal.Refusal.{Refusal}
use Rattle.node_base.specs.declared.refusal.Refusal.TheVariants as refusal
use Rattle.repo_core.specs.Repository.{Repository}
use Rattle.repo_store.specs.Journal.{spelling, IsExport}
use Rattle.std.proofs.lemmas.Grind.{flat_map-append}
use Rattle.store_engines.specs.Dumps.{dump_of, revision_now, revisions_text, DumpStops, no_memory, writer_fails}
use Rattle.store_engines.specs.Ranges.{first_wanted, last_wanted, count_wanted}
use Rattle.store_engines.specs.declared.range.RevRange.{RevRange}

-- one number more
range_more : (a n : ℕ) → range_with_len a (n + 1) ≡ range_with_len a n ++ (a + n) ∷ []
range_more a zero = ap (λ k. k ∷ []) (omega arith)
range_more a (suc n) =
    let more : suc n + 1 ≡ suc (n + 1) = omega arith in
    let last : (a + 1) + n ≡ a + suc n = omega arith in
    ap (range_with_len a) more ∙ ap (λ l. a ∷ l) (range_more (a + 1) n ∙ ap (λ k. range_with_len (a + 1) n ++ k ∷ []) last)

-- one revision more
pub text_more : (r : Repository) (first n : ℕ) → revisions_text r first (n + 1) ≡ revisions_text r first n ++ spelling (revision_now r (first + n))
text_more r first n =
    ap (flat_map (λ k. spelling (revision_now r k))) (range_more first n)
    ∙ flat_map-append (λ k. spelling (revision_now r k)) (range_with_len first n) ((first + n) ∷ [])
    ∙ ap (λ l. revisions_text r first n ++ l) (append-nil (spelling (revision_now r (first + n))))

-- what is exported is the revision as it is now
pub export_now : (r : Repository) (n : ℕ) (bytes : List ℕ) → IsExport r n bytes → bytes ≡ spelling (revision_now r n)
export_now r n bytes (y, set, revision, made, text) = rw (revision, made) text

-- what is written with one revision more
pub written_more : (r : Repository) (first n number : ℕ) (a b d : Option (List ℕ)) → number ≡ first + n → Appends a b (revisions_text r first n) → Appends b d (spelling (revision_now r number)) → Appends a d (revisions_text r first (n + 1))
written_more r first n number a b d e p q =
    subst (Appends a d) (sym (text_more r first n)) (Appends-trans a b d (revisions_text r first n) (spelling (revision_now r (first + n))) p (subst (λ k. Appends b d (spelling (revision_now r k))) e q))

-- a head, and the revisions behind it
whole : (r : Repository) (range : Option RevRange) (id : List ℕ) (first written : ℕ) (a b d : Option (List ℕ)) → id ≡ r.identity → first ≡ first_wanted range → Appends a b (canon_head (Some id)) → Appends b d (revisions_text r first written)
    → Appends a d (dump_of r (first_wanted range) written)
whole r range id first written a b d same from p q =
    subst (Appends a d)
    (ap (λ i. canon_head (Some i) ++ revisions_text r first written) same ∙ ap (λ k. canon_head (Some r.identity) ++ revisions_text r k written) from)
    (Appends-trans a b d (canon_head (Some id)) (revisions_text r first written) p q)

pub dumped : (r : Repository) (range : Option RevRange) (id : List ℕ) (first last : ℕ) (a b d : Option (List ℕ)) (answer : Result (Unit {0}) Refusal) → id ≡ r.identity → first ≡ first_wanted range → last ≡ last_wanted r range → Appends a b (canon_head (Some id))
    → OnOk answer (Appends b d (revisions_text r first (last + 1 - first))) → OnOk answer (Appends a d (dump_of r (first_wanted range) (count_wanted r range)))
dumped r range id first last a b d (Ok u) same from to p q =
    subst (λ n. Appends a d (dump_of r (first_wanted range) n)) (ap (λ k. last + 1 - k) from ∙ ap (λ k. k + 1 - first_wanted range) to)
    (whole r range id first (last + 1 - first) a b d same from p q)
dumped r range id first last a b d (Err e) same from to p q = tt

pub dump_stops : (r : Repository) (range : Option RevRange) (id : List ℕ) (first last : ℕ) (a b d : Option (List ℕ)) (fails : Type 0) (answer : Result (Unit {0}) Refusal) → id ≡ r.identity → first ≡ first_wanted range → last ≡ last_wanted r range → last_wanted r range < length r.revisions → Appends a b (canon_head (Some id))
    → IfErr answer (λ e. ((e ≡ refusal.OutOfMemory) × (written : ℕ) × (written < last + 1 - first) × Appends b d (revisions_text r first written)) ⊎ ((e ≡ refusal.PeerFailed) × fails)) → IfErr answer (DumpStops r range a d fails)
dump_stops r range id first last a b d fails (Ok u) same from to there p q = tt
dump_stops r range id first last a b d fails (Err e) same from to there p (inl (m, written, less, w)) =
    no_memory written there (subst (λ n. written < n) (ap (λ k. last + 1 - k) from ∙ ap (λ k. k + 1 - first_wanted range) to) less) m (whole r range id first written a b d same from p w)
dump_stops r range id first last a b d fails (Err e) same from to there p (inr f) = writer_fails there f.1 f.0
