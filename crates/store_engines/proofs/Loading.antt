-- Revisions loaded one after another, and the records that they are.
use Rattle.std.specs.Prelude.{nat_lt}
use Rattle.std.proofs.lemmas.Bool.Decides.{nat_tests}
use Rattle.std.specs.Option.{option_or}
use Rattle.dump_load.specs.Faults.{fault_if, first_of}
use Rattle.std.proofs.Common.{◌≡◌, ◌<◌, ◌+◌, ℕ, ◌⊎◌, arith, length-append, ◌==◌, ◌&&◌, Bool, true, false, List, [], ◌∷◌, ◌++◌, length, Result, Ok, Err, Option, Some, None, is_none, refl, sym, ap, subst, ◌∙◌, append_assoc, append-nil, inl, inr}
use Rattle.std.proofs.KnownBytes.{Appends-nil, Appends-trans}
use Rattle.std.specs.List.{flat_map}
use Rattle.std.specs.Io.KnownBytes.{Appends}
use Rattle.std.proofs.lemmas.Bool.{false≢true, true≢false, eqb-true}
use Rattle.std.specs.Result.{OnOk, OnErr, IfErr}
use Rattle.node_base.specs.Tree.{PathMap}
use Rattle.dump_load.specs.declared.change.Change.{Change}
use Rattle.repo_core.specs.Refusals.{IsDue, by_repository}
use Rattle.repo_core.specs.declared.fault.RepoFault.{RepoFault}
use Rattle.repo_core.specs.declared.fault.RepoFault.TheVariants.{NoSuchRevision, Behind}
use Rattle.repo_core.specs.declared.entry.Entry.TheVariants.{Revised, Mapped}
use Rattle.store_engines.specs.Refusals.{repo_refusal}
use Rattle.std.proofs.lemmas.Grind.{flat_map-append}
use Rattle.std.proofs.lemmas.List.{length-map}
use Rattle.node_base.specs.Props.{PropMap}
use Rattle.node_base.specs.declared.refusal.Refusal.{Refusal}
use Rattle.node_base.specs.declared.refusal.Refusal.TheVariants as refusal
use Rattle.dump_text.specs.declared.record.DumpRecord.{DumpRecord}
use Rattle.dump_text.specs.declared.record.DumpRecord.TheVariants.{Revision as Begins}
use Rattle.whole_texts.specs.declared.read_node.ReadNode.{ReadNode}
use Rattle.repo_core.specs.Repository.{Repository, Revision, trees_of, head_of}
use Rattle.repo_core.specs.Entries.{with_entry_in}
use Rattle.repo_core.specs.declared.entry.Entry.{Entry}
use Rattle.fleet_engines.specs.Runs.{Counted}
use Rattle.fleet_engines.specs.Revisions.{Rev, Makes, is_lone, is_zero, is_past_zero}
use Rattle.fleet_engines.specs.Grouping.{record_of_node, records_of_rev}
use Rattle.fleet_disk.specs.declared.disk.Disk.{Ghosts}
use Rattle.repo_store.specs.Words.{repository_of}
use Rattle.repo_store.specs.declared.store.RepoStore.{RepoStore}
use Rattle.store_engines.specs.Devices.{CantKeep}
use Rattle.store_engines.specs.Loads.{IsLoaded, Loads, IsBare, Stands, Gathered, CantLoad, CantClose, CantTake, NotLoaded, load_refused, load_stops, load_not_kept, load_unsaid, close_refused, close_stops, close_not_kept, close_unsaid, not_closed, no_revision, take_stops, entry_refused, revision_0, a_revision, loaded_line, entry_fault}

loads_more : (x : Repository) (rs : List Rev) (y : Repository) (said : List ℕ) (r : Rev) (e : Entry) (line : List ℕ) → Loads x rs y said → IsLoaded y.revisions r e line → entry_fault y.revisions e ≡ None → Loads x (rs ++ r ∷ []) (with_entry_in y e) (said ++ line)
loads_more x [] y said r e line p k t =
    (e, line, [], subst (λ z. IsLoaded z.revisions r e line) p.0 k, subst (λ z. entry_fault z.revisions e ≡ None) p.0 t, (ap (λ z. with_entry_in z e) p.0, refl), ap (λ s. s ++ line) p.1 ∙ sym (append-nil line))
loads_more x (r0 ∷ rs) y said r e line p k t =
    (p.0, p.1, p.2 ++ line, p.3, p.4, loads_more (with_entry_in x p.0) rs y p.2 r e line p.5 k t, ap (λ s. s ++ line) p.6 ∙ append_assoc p.1 p.2 line)

flat_more : (rs : List Rev) (r : Rev) → flat_map records_of_rev (rs ++ r ∷ []) ≡ flat_map records_of_rev rs ++ records_of_rev r
flat_more rs r = flat_map-append records_of_rev rs (r ∷ []) ∙ ap (λ l. flat_map records_of_rev rs ++ l) (append-nil (records_of_rev r))

some_none : (r : Rev) → Some r ≡ None → ⊥
some_none r e = true≢false (ap is_none (sym e))

-- before the first record
pub first_stands : (x : Repository) (start : Option (List ℕ)) → Stands x [] x None start start
first_stands x start = record { whole = []; said = []; records = refl; begun = λ _. refl; bare = tt; loads = (refl, refl); written = Appends-nil start }

-- the revision that is read is loaded and said
pub closes : (x : Repository) (rs : List DumpRecord) (y z : Repository) (r : Rev) (e : Entry) (line : List ℕ) (start before now : Option (List ℕ)) → Stands x rs y (Some r) start before → IsLoaded y.revisions r e line → entry_fault y.revisions e ≡ None → z ≡ with_entry_in y e → Appends before now line → Gathered x rs z start now
closes x rs y z r e line start before now s k t d w = record {
  whole = s.whole ++ r ∷ [];
  said = s.said ++ line;
  records = s.records ∙ sym (flat_more s.whole r);
  loads = subst (λ v. Loads x (s.whole ++ r ∷ []) v (s.said ++ line)) (sym d) (loads_more x s.whole y s.said r e line s.loads k t);
  written = Appends-trans start before now s.said line s.written w;
}

-- there is none
pub closes_none : (x : Repository) (rs : List DumpRecord) (y : Repository) (start now : Option (List ℕ)) → Stands x rs y None start now → Gathered x rs y start now
closes_none x rs y start now s = record { whole = s.whole; said = s.said; records = s.records ∙ append-nil (flat_map records_of_rev s.whole); loads = s.loads; written = s.written }

-- the revision that is read isn't loaded
pub cant_close : {D : Type 0} {G : Ghosts D} (x : Repository) (rs : List DumpRecord) (y : Repository) (z : RepoStore D G) (r : Rev) (start before now : Option (List ℕ)) (fails : Type 0) (e : Refusal) → Stands x rs y (Some r) start before → NotLoaded y r z before now fails e → CantClose x rs z start now fails e
cant_close x rs y z r start before now fails e s (load_refused k d w) =
    rw w (close_refused r (subst (λ (v : Repository). Stands x rs v (Some r) start before) (sym d) s) (subst (λ (v : Repository). CantLoad v.revisions r e) (sym d) k))
cant_close x rs y z r start before now fails e s (load_stops k d w) =
    rw w (close_stops (Some r) (subst (λ (v : Repository). Stands x rs v (Some r) start before) (sym d) s) k)
cant_close x rs y z r start before now fails e s (load_not_kept entry line l k d w) =
    rw w (close_not_kept r entry line (subst (λ (v : Repository). Stands x rs v (Some r) start before) (sym d) s) (subst (λ (v : Repository). IsLoaded v.revisions r entry line) (sym d) l) k)
cant_close x rs y z r start before now fails e s (load_unsaid entry line k t d f p) = close_unsaid y r entry line before s k t d f p

-- a record can't be taken because the revision before it can't be closed
pub cant_take : {D : Type 0} {G : Ghosts D} (x : Repository) (rs : List DumpRecord) (next : DumpRecord) (z : RepoStore D G) (start now : Option (List ℕ)) (fails : Type 0) (e : Refusal) (n : ℕ) (props : PropMap) → next ≡ Begins n props → CantClose x rs z start now fails e → CantTake x rs next z start now fails e
cant_take x rs next z start now fails e n props d k = not_closed n props d k

-- a node can't be taken
pub node_refused : {D : Type 0} {G : Ghosts D} (x : Repository) (rs : List DumpRecord) (next : DumpRecord) (node : ReadNode) (y : RepoStore D G) (last : Option Rev) (start now : Option (List ℕ)) (fails : Type 0) (e : Refusal) → next ≡ record_of_node node → (e ≡ refusal.OutOfMemory) ⊎ ((e ≡ refusal.WrongNumber) × (is_past_zero last ≡ false)) → Stands x rs (repository_of y) last start now → CantTake x rs next y start now fails e
node_refused x rs next node y last start now fails e d (inl m) s = take_stops last s m
node_refused x rs next node y last start now fails e d (inr w) s = no_revision node last d s w.1 w.0

pub zero_number : (lone : Bool) (n : ℕ) → (lone && n == 0) ≡ true → n ≡ 0
zero_number true n e = eqb-true n 0 e
zero_number false n e = absurd (false≢true e)

-- revision 0's properties are put
pub zero_said : (y z : Repository) (rev : Rev) (a : Option (List ℕ)) (r : Result (Unit {0}) Refusal) → is_zero (trees_of y.revisions) rev ≡ true → OnOk r (entry_fault y.revisions (Mapped 0 rev.props) ≡ None) → OnOk r (z ≡ with_entry_in y (Mapped 0 rev.props))
    → OnOk r (IsBare rev → (entry : Entry) × (said : List ℕ) × IsLoaded y.revisions rev entry said × (entry_fault y.revisions entry ≡ None) × (z ≡ with_entry_in y entry) × Appends a a said)
zero_said y z rev a (Ok u) q t k = λ b. (Mapped 0 rev.props, [], revision_0 q (b (zero_number (is_lone (trees_of y.revisions)) rev.number q)) refl refl, t, k, Appends-nil a)
zero_said y z rev a (Err e) q t k = tt

-- revision 0's properties can't be put
pub zero_err : {D : Type 0} {G : Ghosts D} (y : Repository) (z : RepoStore D G) (rev : Rev) (a : Option (List ℕ)) (fails : Type 0) (r : Result (Unit {0}) Refusal) → is_zero (trees_of y.revisions) rev ≡ true → OnErr r (repository_of z ≡ y)
    → IfErr r (λ e. (e ≡ refusal.OutOfMemory) ⊎ CantKeep z (Mapped 0 rev.props) e ⊎ ((f : RepoFault) × IsDue f (entry_fault y.revisions (Mapped 0 rev.props)) × (e ≡ repo_refusal f))) → IfErr r (λ e. IsBare rev → NotLoaded y rev z a a fails e)
zero_err y z rev a fails (Ok u) q s h = tt
zero_err y z rev a fails (Err e) q s (inl k) = λ b. load_stops k s refl
zero_err y z rev a fails (Err e) q s (inr (inl k)) =
    λ b. load_not_kept (Mapped 0 rev.props) [] (revision_0 q (b (zero_number (is_lone (trees_of y.revisions)) rev.number q)) refl refl) k s refl
zero_err y z rev a fails (Err e) q s (inr (inr k)) =
    λ b. load_refused (entry_refused (Mapped 0 rev.props) [] k.0 (revision_0 q (b (zero_number (is_lone (trees_of y.revisions)) rev.number q)) refl refl) k.1 k.2) s refl

-- the entry of the next revision, over trees that are the repository's
next_number : (x : List Revision) (trees : List PathMap) (rev : Rev) (set : List Change) (tree : PathMap) → trees ≡ trees_of x → Makes trees rev set tree → rev.number ≡ length x
next_number x trees rev set tree e m = m.next ∙ ap length e ∙ length-map x (λ (v : Revision). v.tree)

pub next_loaded : (x : List Revision) (rev : Rev) (set : List Change) (trees : List PathMap) → trees ≡ trees_of x → is_zero (trees_of x) rev ≡ false → (tree : PathMap) × Makes trees rev set tree → IsLoaded x rev (Revised (length x) set rev.props) (loaded_line rev.number)
next_loaded x rev set trees e later m =
    a_revision set m.0 later (subst (λ ts. Makes ts rev set m.0) e m.1) (ap (λ n. Revised n set rev.props) (sym (next_number x trees rev set m.0 e m.1))) refl

pub next_err : {D : Type 0} {G : Ghosts D} (y : Repository) (z : RepoStore D G) (rev : Rev) (set : List Change) (trees : List PathMap) → trees ≡ trees_of y.revisions → (a : Option (List ℕ)) (fails : Type 0) (e : Refusal) → is_zero (trees_of y.revisions) rev ≡ false → (tree : PathMap) × Makes trees rev set tree → repository_of z ≡ y
    → (e ≡ refusal.OutOfMemory) ⊎ CantKeep z (Revised (length y.revisions) set rev.props) e ⊎ ((f : RepoFault) × IsDue f (entry_fault y.revisions (Revised (length y.revisions) set rev.props)) × (e ≡ repo_refusal f)) → NotLoaded y rev z a a fails e
next_err y z rev set trees t a fails e later m s (inl k) = load_stops k s refl
next_err y z rev set trees t a fails e later m s (inr (inl k)) =
    load_not_kept (Revised (length y.revisions) set rev.props) (loaded_line rev.number) (next_loaded y.revisions rev set trees t later m) k s refl
next_err y z rev set trees t a fails e later m s (inr (inr k)) =
    load_refused (entry_refused (Revised (length y.revisions) set rev.props) (loaded_line rev.number) k.0 (next_loaded y.revisions rev set trees t later m) k.1 k.2) s refl

pub next_there : (y z : Repository) (rev : Rev) (set : List Change) (trees : List PathMap) → trees ≡ trees_of y.revisions → (tree : PathMap) × Makes trees rev set tree → z ≡ with_entry_in y (Revised (length y.revisions) set rev.props) → rev.number < length z.revisions
next_there y z rev set trees t m k =
    let next = next_number y.revisions trees rev set m.0 t m.1 in
    let more : length z.revisions ≡ length y.revisions + 1 = ap (λ (r : Repository). length r.revisions) k ∙ length-append y.revisions _ in
    omega (arith, next, more)

pub next_said : (y z : Repository) (rev : Rev) (set : List Change) (trees : List PathMap) → trees ≡ trees_of y.revisions → (a b : Option (List ℕ)) (line : List ℕ) (r : Result (Unit {0}) Refusal) → is_zero (trees_of y.revisions) rev ≡ false → (tree : PathMap) × Makes trees rev set tree
    → entry_fault y.revisions (Revised (length y.revisions) set rev.props) ≡ None → z ≡ with_entry_in y (Revised (length y.revisions) set rev.props) → line ≡ loaded_line rev.number → OnOk r (Appends a b line)
    → OnOk r ((entry : Entry) × (said : List ℕ) × IsLoaded y.revisions rev entry said × (entry_fault y.revisions entry ≡ None) × (z ≡ with_entry_in y entry) × Appends a b said)
next_said y z rev set trees t a b line (Ok u) later m n k d w =
    (Revised (length y.revisions) set rev.props, loaded_line rev.number, next_loaded y.revisions rev set trees t later m, n, k, subst (Appends a b) d w)
next_said y z rev set trees t a b line (Err e) later m n k d w = tt

pub next_unsaid : {D : Type 0} {G : Ghosts D} (y : Repository) (z : RepoStore D G) (rev : Rev) (set : List Change) (trees : List PathMap) → trees ≡ trees_of y.revisions → (a b : Option (List ℕ)) (fails : Type 0) (r : Result (Unit {0}) Refusal) → is_zero (trees_of y.revisions) rev ≡ false → (tree : PathMap) × Makes trees rev set tree
    → entry_fault y.revisions (Revised (length y.revisions) set rev.props) ≡ None → repository_of z ≡ with_entry_in y (Revised (length y.revisions) set rev.props) → OnErr r fails → IfErr r (λ e. e ≡ refusal.PeerFailed) → IfErr r (λ e. NotLoaded y rev z a b fails e)
next_unsaid y z rev set trees t a b fails (Ok u) later m n k f p = tt
next_unsaid y z rev set trees t a b fails (Err e) later m n k f p = load_unsaid (Revised (length y.revisions) set rev.props) (loaded_line rev.number) (next_loaded y.revisions rev set trees t later m) n k f p

-- what isn't refused for a stream leaves its count
pub none_failed : (r : Result (Unit {0}) Refusal) (n : ℕ) → IfErr r (λ e. e ≡ refusal.PeerFailed → ⊥) → Counted r n n
none_failed (Ok u) n h = refl
none_failed (Err e) n h = inr (h, refl)

-- ---- what is due at the head

not_less : (n : ℕ) → nat_lt n n ≡ false
not_less n = grind (arith, nat_tests)

or_none : (o : Option RepoFault) → option_or o None ≡ o
or_none None = refl
or_none (Some f) = refl

-- of an entry that is committed against the head what the repository refuses of it is due
pub due_at_head : (x : List Revision) (set : List Change) (props : PropMap) → by_repository x (Revised (length x) set props) ≡ entry_fault x (Revised (length x) set props)
due_at_head x set props =
    let due = by_repository x (Revised (length x) set props) in
    let at : (b : Bool) → b ≡ false → due ≡ first_of (first_of (fault_if b NoSuchRevision ∷ fault_if b (Behind (head_of x)) ∷ []) ∷ due ∷ []) =
    λ b e. sym (or_none due) ∙ ap (λ b. first_of (first_of (fault_if b NoSuchRevision ∷ fault_if b (Behind (head_of x)) ∷ []) ∷ due ∷ [])) (sym e) in
    at (nat_lt (head_of x) (head_of x)) (not_less (head_of x))
