-- What a load does to a store's device, and whose entries it takes.
use Rattle.std.proofs.Common.{◌≡◌, ℕ, ◌⊎◌, ◌↔◌, true, false, cond, List, [], ◌∷◌, ◌++◌, length, Result, Ok, Err, IfErr, Option, Some, None, refl, sym, ap, subst, ◌∙◌, append_assoc, append-nil, inl, inr}
use Rattle.std.specs.List.{filter, flat_map}
use Rattle.std.specs.Result.{OnOk, IsErr}
use Rattle.std.proofs.lemmas.Bool.{false≢true}
use Rattle.std.proofs.lemmas.Grind.{flat_map-append}
use Rattle.std.proofs.lemmas.List.{map-append, length-map}
use Rattle.std.proofs.lemmas.Result.{on_ok_weaker}
use Rattle.node_base.specs.Props.{PropMap}
use Rattle.node_base.specs.Tree.{PathMap}
use Rattle.node_base.specs.declared.refusal.Refusal.{Refusal}
use Rattle.node_base.specs.declared.refusal.Refusal.TheVariants.{OutOfMemory, PeerFailed, WrongNumber}
use Rattle.dump_text.specs.declared.record.DumpRecord.{DumpRecord}
use Rattle.dump_text.specs.declared.record.DumpRecord.TheVariants.{Identity, Revision as Begins}
use Rattle.whole_texts.specs.declared.read_node.ReadNode.{ReadNode}
use Rattle.dump_load.specs.declared.change.Change.{Change}
use Rattle.fleet_disk.specs.declared.disk.Disk.{Ghosts}
use Rattle.gate_log.specs.Log.{entries_of, version_of}
use Rattle.fleet_engines.specs.Grouping.{record_of_node, records_of_rev, is_no_identity}
use Rattle.fleet_engines.proofs.Groups.{no_identity}
use Rattle.fleet_engines.specs.Revisions.{Rev, Makes, is_zero, is_past_zero}
use Rattle.repo_core.specs.Entries.{revisions_after, with_entry}
use Rattle.repo_core.specs.Refusals.{IsDue}
use Rattle.repo_core.specs.Repository.{Repository, Revision, trees_of}
use Rattle.repo_core.specs.declared.entry.Entry.{Entry}
use Rattle.repo_core.specs.declared.entry.Entry.TheVariants.{Revised}
use Rattle.repo_core.specs.declared.fault.RepoFault.{RepoFault}
use Rattle.node_base.specs.Path.{Path}
use Rattle.node_base.specs.declared.fault.PathFault.{PathFault}
use Rattle.repo_store.specs.Journal.{Keeps}
use Rattle.repo_store.specs.Changes.{IsBroken, IsRefused, IsTaken, Refuses as RefusesEntry, Stays}
use Rattle.repo_store.specs.Words.{disk_of, log_of, revisions_of, repository_of, HasFailed}
use Rattle.repo_store.specs.declared.store.RepoStore.{RepoStore}
use Rattle.repo_store.specs.declared.fault.StoreFault.{StoreFault}
use Rattle.store_engines.specs.Devices.{is_device, CantKeep, IsSafe, Serves}
use Rattle.store_engines.specs.Loads.{AreEntriesOf, Commits, IsEntryOf, ServesOne, ServesRecords, entry_fault, of_next, read_of}
use Rattle.store_engines.specs.Refusals.{repo_refusal, store_refusal}
use Rattle.store_engines.proofs.Devices.{OnlyNow, after_revisions, broke, none_begun, refused, serves_on, serves_then, staged_none, stays_as_it_is, stop_or_due, took, unserved}

-- ---- entries one after another

entries_on : (x : List Revision) (rs more : List Rev) (es later : List Entry) → AreEntriesOf x rs es → AreEntriesOf (revisions_after x es) more later → AreEntriesOf x (rs ++ more) (es ++ later)
entries_on x [] more es later p q = subst (λ t. AreEntriesOf (revisions_after x t) more later → AreEntriesOf x more (t ++ later)) (sym p) (λ k. k) q
entries_on x (r ∷ rs) more es later p q =
    (p.0, p.1 ++ later, ap (λ t. t ++ later) p.2, p.3, entries_on (with_entry x p.0) rs more p.1 later p.4 (subst (λ t. AreEntriesOf (revisions_after x t) more later) p.2 q))

pub any_ok : {E : Type 0} (r : Result (Unit {0}) E) (P : Type 0) → P → OnOk r P
any_ok (Ok u) P p = p
any_ok (Err e) P p = tt

-- the entry of the next revision, over trees that are the repository's
pub next_entry : (x : List Revision) (rev : Rev) (set : List Change) (trees : List PathMap) → trees ≡ trees_of x → is_zero (trees_of x) rev ≡ false → (tree : PathMap) × Makes trees rev set tree → IsEntryOf x rev (Revised (length x) set rev.props)
next_entry x rev set trees e later m =
    of_next set m.0 later (subst (λ ts. Makes ts rev set m.0) e m.1) (ap (λ n. Revised n set rev.props) (sym (m.1.next ∙ ap length e ∙ length-map x (λ (v : Revision). v.tree))))

-- ---- calls

module _ {D : Type 0} {G : Ghosts D} where
  -- nothing is done
  pub nothing : (ahead left : List DumpRecord) (a : RepoStore D G) (r : Result (Unit {0}) Refusal) → IfErr r (λ e. is_device e ≡ false) → OnOk r (ahead ≡ left) → IsSafe a → ServesRecords ahead a a r left
  nothing ahead left a r n ok safe = record { serves = unserved a r n safe; whole = []; more = ahead; records = refl; entries = refl; all = ok }

  whole_taken : (a b : RepoStore D G) (u : Unit {0}) (p : Serves a b (Ok u)) (rs : List Rev) → AreEntriesOf (revisions_of a) rs (p.taken ++ p.begun) → AreEntriesOf (revisions_of a) rs p.taken
  whole_taken a b u p rs k = subst (AreEntriesOf (revisions_of a) rs) (ap (λ l. p.taken ++ l) (none_begun a b u p) ∙ append-nil p.taken) k

  -- one call behind another
  pub records_on : (ahead mid left : List DumpRecord) (a b c : RepoStore D G) (u : Unit {0}) (r : Result (Unit {0}) Refusal) → ServesRecords ahead a b (Ok u) mid → ServesRecords mid b c r left → ServesRecords ahead a c r left
  records_on ahead mid left a b c u r p q = record {
    serves = serves_on a b c u r p.serves q.serves;
    whole = p.whole ++ q.whole;
    more = q.more;
    records =
        p.records
        ∙ ap (λ l. flat_map records_of_rev p.whole ++ l) (p.all ∙ q.records)
        ∙ sym (append_assoc (flat_map records_of_rev p.whole) (flat_map records_of_rev q.whole) q.more)
        ∙ ap (λ l. l ++ q.more) (sym (flat_map-append records_of_rev p.whole q.whole));
    entries =
        subst (AreEntriesOf (revisions_of a) (p.whole ++ q.whole)) (sym (append_assoc p.serves.taken q.serves.taken q.serves.begun))
        (entries_on (revisions_of a) p.whole q.whole p.serves.taken (q.serves.taken ++ q.serves.begun) (whole_taken a b u p.serves p.whole p.entries) (subst (λ v. AreEntriesOf v q.whole (q.serves.taken ++ q.serves.begun)) (ap (λ (v : Repository). v.revisions) p.serves.made ∙ after_revisions (repository_of a) p.serves.taken) q.entries));
    all = q.all;
  }

  -- what is refused behind a call, for another reason
  pub records_then : (ahead mid left : List DumpRecord) (a b : RepoStore D G) (u : Unit {0}) (r : Result (Unit {0}) Refusal) → IfErr r (λ e. is_device e ≡ false) → OnOk r (mid ≡ left) → ServesRecords ahead a b (Ok u) mid → ServesRecords ahead a b r left
  records_then ahead mid left a b u r n ok p = records_on ahead mid left a b b u r p (nothing mid left b r n ok p.serves.safe)

  -- with more records behind
  pub records_behind : (ahead left tail : List DumpRecord) (a b : RepoStore D G) (r : Result (Unit {0}) Refusal) → ServesRecords ahead a b r left → ServesRecords (ahead ++ tail) a b r (left ++ tail)
  records_behind ahead left tail a b r p = record {
    serves = p.serves;
    whole = p.whole;
    more = p.more ++ tail;
    records = ap (λ l. l ++ tail) p.records ∙ append_assoc (flat_map records_of_rev p.whole) p.more tail;
    entries = p.entries;
    all = on_ok_weaker r (λ e. ap (λ l. l ++ tail) e) p.all;
  }

  -- a refusal leaves whatever it leaves
  pub refused_left : (ahead left other : List DumpRecord) (a b : RepoStore D G) (e : Refusal) → ServesRecords ahead a b (Err e) left → ServesRecords ahead a b (Err e) other
  refused_left ahead left other a b e p = record { serves = p.serves; whole = p.whole; more = p.more; records = p.records; entries = p.entries; all = tt }

  -- an entry is taken
  pub took_one : (a b : RepoStore D G) (entry : Entry) → OnlyNow G → IsTaken entry a b → version_of (log_of b) ≡ version_of (log_of a) → ServesOne entry a b (Ok tt)
  took_one a b entry only t same = record { serves = took a b entry only t same; one = inl refl }

  -- an entry is refused
  pub refused_one : (one : Entry) (a b : RepoStore D G) (entry : Entry) (due : Option RepoFault) (fault : StoreFault) → Stays a b → RefusesEntry a entry due fault → IsSafe a → version_of (log_of b) ≡ version_of (log_of a) → ServesOne one a b (Err (store_refusal fault))
  refused_one one a b entry due fault s why safe same = record { serves = refused a b entry due fault s why safe same; one = inr (refl, refl) }

  -- or the device fails
  pub didnt_take_one : (a b : RepoStore D G) (entry : Entry) (due : Option RepoFault) (fault : StoreFault) → ((due ≡ None) × IsBroken entry a b fault) ⊎ IsRefused entry due a b fault → IsSafe a → version_of (log_of b) ≡ version_of (log_of a) → ServesOne entry a b (Err (store_refusal fault))
  didnt_take_one a b entry due fault (inl k) safe same = record { serves = broke a b entry fault k.1 same; one = inl refl }
  didnt_take_one a b entry due fault (inr r) safe same = refused_one entry a b entry due fault r.stays r.why safe same

  -- what came of a commit
  pub commits_ok : (a b : RepoStore D G) (entry : Entry) (due : Option RepoFault) → due ≡ entry_fault (revisions_of a) entry → OnlyNow G → (due ≡ None) × IsTaken entry a b → version_of (log_of b) ≡ version_of (log_of a) → Commits entry a b (Ok tt)
  commits_ok a b entry due at only k same = record {
    ok = k.1.made;
    taken = sym at ∙ k.0;
    stands = λ h image left. subst (λ (r : Repository). Keeps r image) (sym k.1.made) (k.1.durable (k.1.honest.1 h) image left);
    same = tt;
    refused = tt;
    no_peer = tt;
    device = λ safe. took_one a b entry only k.1 same;
  }

  pub commits_err : (a b : RepoStore D G) (entry : Entry) (due : Option RepoFault) (fault : StoreFault) (e : Refusal) → due ≡ entry_fault (revisions_of a) entry → e ≡ store_refusal fault → (e ≡ PeerFailed → ⊥) → ((due ≡ None) × IsBroken entry a b fault) ⊎ IsRefused entry due a b fault → version_of (log_of b) ≡ version_of (log_of a) → Commits entry a b (Err e)
  commits_err a b entry due fault e at is other k same = record {
    ok = tt;
    taken = tt;
    stands = tt;
    same = stays_as_it_is a b entry due fault k;
    refused =
        subst (λ r. (r ≡ OutOfMemory) ⊎ CantKeep b entry r ⊎ ((f : RepoFault) × IsDue f (entry_fault (revisions_of a) entry) × (r ≡ repo_refusal f))) (sym is)
        (subst (λ d. (store_refusal fault ≡ OutOfMemory) ⊎ CantKeep b entry (store_refusal fault) ⊎ ((f : RepoFault) × IsDue f d × (store_refusal fault ≡ repo_refusal f))) at (stop_or_due a b entry due fault k));
    no_peer = other;
    device = λ safe. subst (λ r. ServesOne entry a b (Err r)) (sym is) (didnt_take_one a b entry due fault k safe same);
  }

  -- nothing is done, and it is refused
  pub none_done : (entry : Entry) (a : RepoStore D G) (e : Refusal) → is_device e ≡ false → IsSafe a → ServesOne entry a a (Err e)
  none_done entry a e n safe = record { serves = unserved a (Err e) n safe; one = inr (refl, refl) }

  -- what is staged, or refused before
  pub staged_one : (entry : Entry) (a b : RepoStore D G) (e : Refusal) → is_device e ≡ false → disk_of b ≡ disk_of a → repository_of b ≡ repository_of a → HasFailed b ↔ HasFailed a → IsSafe a → version_of (log_of b) ≡ version_of (log_of a) → entries_of (log_of b) ≡ entries_of (log_of a) → ServesOne entry a b (Err e)
  staged_one entry a b e n disk repository works safe same entries = record { serves = staged_none a b e n disk repository works safe same entries; one = inr (refl, refl) }

  -- an entry is taken, and what comes then is refused for another reason
  pub one_then : (entry : Entry) (a b : RepoStore D G) (u : Unit {0}) (r : Result (Unit {0}) Refusal) → IfErr r (λ e. is_device e ≡ false) → ServesOne entry a b (Ok u) → ServesOne entry a b r
  one_then entry a b u r n s = record {
    serves = serves_then a b u r n s.serves;
    one =
        elim s.one [
          | inl d ↦ inl (append-nil (s.serves.taken ++ []) ∙ ap (λ l. s.serves.taken ++ l) (sym (none_begun a b u s.serves)) ∙ d)
          | inr k ↦ absurd (false≢true k.0)
        ];
  }

  -- a whole revision's entry
  one_of : (rev : Rev) (entry : Entry) (a b : RepoStore D G) (r : Result (Unit {0}) Refusal) → IsEntryOf (revisions_of a) rev entry → (s : Serves a b r) → s.taken ++ s.begun ≡ entry ∷ [] → ServesRecords (records_of_rev rev) a b r []
  one_of rev entry a b r k s d = record {
    serves = s;
    whole = rev ∷ [];
    more = [];
    records = sym (append-nil (records_of_rev rev)) ∙ sym (append-nil (records_of_rev rev ++ []));
    entries = (entry, [], d, k, refl);
    all = any_ok r (◌≡◌ {A = List DumpRecord} [] []) refl;
  }

  none_of : (rev : Rev) (a b : RepoStore D G) (r : Result (Unit {0}) Refusal) → IsErr r → (s : Serves a b r) → s.taken ++ s.begun ≡ [] → ServesRecords (records_of_rev rev) a b r []
  none_of rev a b (Ok u) i s d = absurd (false≢true i)
  none_of rev a b (Err e) i s d = record { serves = s; whole = []; more = records_of_rev rev; records = refl; entries = d; all = tt }

  pub of_entry : (rev : Rev) (entry : Entry) (a b : RepoStore D G) (r : Result (Unit {0}) Refusal) → IsEntryOf (revisions_of a) rev entry → ServesOne entry a b r → ServesRecords (records_of_rev rev) a b r []
  of_entry rev entry a b r k s =
      elim s.one [
        | inl d ↦ one_of rev entry a b r k s.serves d
        | inr d ↦ none_of rev a b r d.0 s.serves d.1
      ]

-- ---- a record more

-- an identity is passed over
pub identity_left : (last : Option Rev) (next : DumpRecord) (id : List ℕ) → next ≡ Identity id → read_of last ++ filter is_no_identity (next ∷ []) ≡ read_of last
identity_left last next id e = ap (λ n. read_of last ++ filter is_no_identity (n ∷ [])) e ∙ append-nil (read_of last)

-- a revision begins
pub begun_left : (later : Option Rev) (next : DumpRecord) (n : ℕ) (props : PropMap) → next ≡ Begins n props → later ≡ Some (record { number = n; props = props; nodes = [] }) → filter is_no_identity (next ∷ []) ≡ read_of later
begun_left later next n props e d = ap (λ v. filter is_no_identity (v ∷ [])) e ∙ sym (ap read_of d)

-- a node that isn't taken tells of no device
pub no_device : (r : Result (Unit {0}) Refusal) (late : Type 0) → IfErr r (λ e. (e ≡ OutOfMemory) ⊎ ((e ≡ WrongNumber) × late)) → IfErr r (λ e. is_device e ≡ false)
no_device (Ok u) late h = tt
no_device (Err e) late (inl m) = ap is_device m
no_device (Err e) late (inr m) = ap is_device m.0

-- a node more
pub node_left : (last later : Option Rev) (next : DumpRecord) (node : ReadNode) → next ≡ record_of_node node → (r : Rev) × (last ≡ Some r) × (is_past_zero last ≡ true) × (later ≡ Some (record r { nodes = r.nodes ++ node ∷ [] })) → read_of last ++ filter is_no_identity (next ∷ []) ≡ read_of later
node_left last later next node e k =
    ap (λ v. read_of last ++ filter is_no_identity (v ∷ [])) e
    ∙ ap (λ b. read_of last ++ cond b (record_of_node node ∷ []) []) (no_identity node.node node.delta)
    ∙ ap (λ l. read_of l ++ record_of_node node ∷ []) k.1
    ∙ ap (λ l. Begins k.0.number k.0.props ∷ l) (sym (map-append record_of_node k.0.nodes (node ∷ [])))
    ∙ sym (ap read_of k.3)

-- ---- a path

abbrev path_in : Result Path PathFault → Path
path_in (Ok path) = path
path_in (Err f) = []

pub same_path : (r : Result Path PathFault) (path place : Path) → r ≡ Ok path → r ≡ Ok place → path ≡ place
same_path r path place e d = ap path_in (sym e ∙ d)
