-- The numbers of the revisions that a journal commits.
use Rattle.std.proofs.Common.{◌≡◌, ◌+◌, ◌-◌, ℕ, zero, suc, List, [], ◌∷◌, length, length-append, refl, sym, ◌∙◌, ap, ap₂, subst, arith}
use Rattle.std.proofs.Math.Logic.{∥∥₁_map}
use Rattle.std.specs.List.{range_with_len}
use Rattle.node_base.specs.Props.{PropMap}
use Rattle.repo_core.specs.Repository.{Repository, Revision, fresh}
use Rattle.repo_core.specs.Entries.{with_entry, with_entry_in, with_props}
use Rattle.repo_core.specs.declared.entry.Entry.{Entry}
use Rattle.repo_core.specs.declared.entry.Entry.TheVariants.{Revised, Mapped}
use Rattle.repo_store.specs.Journal.{Leads, Tell}
use Rattle.repo_store.specs.Numbers.{commits_of, LeadBy, TellBy, KeptByEntries, CommitsInOrder}

length-with_props : (x : List Revision) (n : ℕ) (p : PropMap) → length (with_props x n p) ≡ length x
length-with_props [] n p = refl
length-with_props (y ∷ x) zero p = refl
length-with_props (y ∷ x) (suc n) p = ap suc (length-with_props x n p)

-- the entries that lead from one repository to another
lead_by : (r : Repository) (entries : List (List ℕ)) (s : Repository) → Leads r entries s → (es : List Entry) × LeadBy r entries es s
lead_by r [] s same = ([], (refl, same))
lead_by r (bytes ∷ rest) s (e, spells, takes, more) =
    let (es, by) = lead_by (with_entry_in r e) rest s more in
    (e ∷ es, (e, es, refl, spells, takes, by))

tell_by : (entries : List (List ℕ)) (r : Repository) → Tell entries r → (es : List Entry) × TellBy entries es r
tell_by [] r none = absurd none
tell_by (first ∷ rest) r (props, begins, more) =
    let (es, by) = lead_by (with_entry_in (fresh r.identity) (Mapped 0 props)) rest r more in
    (es, (props, begins, by))

pub kept_by_entries : KeptByEntries
kept_by_entries image r known = ∥∥₁_map known (λ s. let (es, by) = tell_by s.0 r s.2 in (s.0, es, s.1, by))

-- so many revisions more, with the numbers after those that are there
Numbered : ℕ → List ℕ → ℕ → Type 0
Numbered from numbers to = (k : ℕ) × (numbers ≡ range_with_len from k) × (to ≡ from + k)

one_more : (from to : ℕ) (numbers : List ℕ) (n : ℕ) → n ≡ from → Numbered (from + 1) numbers to → Numbered from (n ∷ numbers) to
unfolding Numbered
one_more from to numbers n is (k, same, all) = (suc k, ap₂ (λ (a : ℕ) (l : List ℕ). a ∷ l) is same, omega (arith, all))

numbered : (r : Repository) (entries : List (List ℕ)) (es : List Entry) (s : Repository) → LeadBy r entries es s → Numbered (length r.revisions) (commits_of es) (length s.revisions)
unfolding Numbered
numbered r [] es s (none, same) = (0, ap commits_of none, omega (arith, ap (λ (q : Repository). length q.revisions) same))
numbered r (bytes ∷ rest) es s (Revised n set props, more, is, spells, takes, by) =
    let next : n ≡ length r.revisions = takes.next in
    let longer : length (with_entry r.revisions (Revised n set props)) ≡ length r.revisions + 1 = length-append r.revisions (_ ∷ []) in
    let then = numbered (with_entry_in r (Revised n set props)) rest more s by in
    subst (λ (l : List ℕ). Numbered (length r.revisions) l (length s.revisions)) (sym (ap commits_of is))
    (one_more (length r.revisions) (length s.revisions) (commits_of more) n next (subst (λ (from : ℕ). Numbered from (commits_of more) (length s.revisions)) longer then))
numbered r (bytes ∷ rest) es s (Mapped n props, more, is, spells, takes, by) =
    let then = numbered (with_entry_in r (Mapped n props)) rest more s by in
    subst (λ (l : List ℕ). Numbered (length r.revisions) l (length s.revisions)) (sym (ap commits_of is))
    (subst (λ (from : ℕ). Numbered from (commits_of more) (length s.revisions)) (length-with_props r.revisions n props) then)

pub commits_in_order : CommitsInOrder
unfolding Numbered
commits_in_order [] es r none = absurd none
commits_in_order (first ∷ rest) es r (props, begins, by) =
    let (k, same, all) = numbered (with_entry_in (fresh r.identity) (Mapped 0 props)) rest es r by in
    let head : k ≡ length r.revisions - 1 = omega (arith, all) in
    same ∙ ap (λ (n : ℕ). range_with_len 1 n) head
