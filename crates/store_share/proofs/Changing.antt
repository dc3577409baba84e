-- Changes of a book: what is staged, and then written.
use Rattle.std.proofs.Common.{◌≡◌, ◌≤◌, ◌<◌, ◌↔◌, ◌++◌, ◌∷◌, [], List, ℕ, length, false, true, Option, Some, Result, Ok, Err, refl, sym, ◌∙◌, ap, ap₂, subst, inr, arith, length-append}
use Rattle.std.specs.Option.{option_map}
use Rattle.fleet_disk.specs.Rules.{LeavesOnly, Rose}
use Rattle.fleet_disk.specs.declared.disk.Disk.{Ghosts}
use Rattle.gate_log.specs.Log.{entries_of}
use Rattle.gate_log.specs.Standing.{parts}
use Rattle.gate_log.specs.declared.fault.LogFault.TheVariants.{Failed}
use Rattle.node_base.specs.Props.{PropMap}
use Rattle.dump_load.specs.declared.change.Change.{Change}
use Rattle.dump_load.specs.Trees.{effect_tree}
use Rattle.repo_core.specs.Repository.{Repository, head_of as head_in, trees_of}
use Rattle.repo_core.specs.Entries.{with_entry_in}
use Rattle.repo_core.specs.declared.entry.Entry.{Entry}
use Rattle.repo_core.specs.declared.entry.Entry.TheVariants.{Revised}
use Rattle.repo_core.specs.declared.fault.RepoFault.{RepoFault}
use Rattle.repo_store.specs.Changes.{IsBroken, IsStaged, IsTaken, Stays}
use Rattle.repo_store.specs.Journal.{Keeps, IsBeforeOrAfter, spelling}
use Rattle.repo_store.specs.Words.{disk_of, entry_in, log_of, repository_of}
use Rattle.repo_store.specs.declared.fault.StoreFault.{StoreFault}
use Rattle.repo_store.specs.declared.fault.StoreFault.TheVariants.{Log}
use Rattle.repo_store.specs.declared.staged.Staged.{Staged}
use Rattle.repo_store.specs.declared.store.RepoStore.{RepoStore}
use Rattle.store_share.specs.declared.rev.Rev.{Rev}
use Rattle.store_share.specs.Row.{rev_at}
use Rattle.store_share.specs.Book.{store_of, head_of, is_stuck}
use Rattle.store_share.specs.Changes.{Edits, IsAccepted, IsBrokenOff, IsHidden, Puts}
use Rattle.store_share.specs.declared.book.MasterBook.{MasterBook}
use Rattle.store_share.proofs.Showing.{rev_new, revision_as}

module _ {D : Type 0} {G : Ghosts D} where
  entries_same : (old mid : RepoStore D G) → Stays old mid → entries_of (log_of mid) ≡ entries_of (log_of old)
  entries_same old mid same = ap₂ (λ (d : D) (ends : List ℕ). parts 0 ends (G.reads d).journal) same.disk same.entries

  taken_as : (entry : Entry) (old mid new : RepoStore D G) → Stays old mid → IsTaken entry mid new → IsTaken entry old new
  taken_as entry old mid new same t = record {
    worked = λ f. t.worked (same.working.1 f);
    works = t.works;
    made = t.made ∙ ap (λ (r : Repository). with_entry_in r entry) same.repository;
    written = λ h. t.written (subst (λ (d : D). G.honest d) (sym same.disk) h) ∙ ap (λ (l : List (List ℕ)). l ++ spelling entry ∷ []) (entries_same old mid same);
    durable = λ h image left. subst (λ (r : Repository). Keeps (with_entry_in r entry) image) same.repository (t.durable (subst (λ (d : D). G.honest d) (sym same.disk) h) image left);
    any_moment = λ h.
        subst (λ (r : Repository). LeavesOnly G.clock G.left_since (disk_of old) (disk_of new) (IsBeforeOrAfter r entry)) same.repository
        (subst (λ (d : D). LeavesOnly G.clock G.left_since d (disk_of new) (IsBeforeOrAfter (repository_of mid) entry)) same.disk (t.any_moment (subst (λ (d : D). G.honest d) (sym same.disk) h)));
    honest = subst (λ (d : D). G.honest d ↔ G.honest (disk_of new)) same.disk t.honest;
    later = subst (λ (d : D). G.failures d ≤ G.failures (disk_of new)) same.disk t.later;
  }

  broken_as : (entry : Entry) (old mid new : RepoStore D G) (e : StoreFault) → Stays old mid → IsBroken entry mid new e → IsBroken entry old new e
  broken_as entry old mid new e same b = record {
    fault = b.fault;
    worked = λ f. b.worked (same.working.1 f);
    failed = b.failed;
    same = b.same ∙ same.repository;
    doubt = b.doubt;
    either = λ h image left. subst (λ (r : Repository). IsBeforeOrAfter r entry image) same.repository (b.either (subst (λ (d : D). G.honest d) (sym same.disk) h) image left);
    any_moment = λ h.
        subst (λ (r : Repository). LeavesOnly G.clock G.left_since (disk_of old) (disk_of new) (IsBeforeOrAfter r entry)) same.repository
        (subst (λ (d : D). LeavesOnly G.clock G.left_since d (disk_of new) (IsBeforeOrAfter (repository_of mid) entry)) same.disk (b.any_moment (subst (λ (d : D). G.honest d) (sym same.disk) h)));
    device = subst (λ (d : D). Rose (G.failures d) (G.failures (disk_of new))) same.disk b.device;
    honest = subst (λ (d : D). G.honest d ↔ G.honest (disk_of new)) same.disk b.honest;
    later = subst (λ (d : D). G.failures d ≤ G.failures (disk_of new)) same.disk b.later;
  }

-- what was staged of properties is written, or isn't
pub edits_as : {L D : Type 0} {r : _} {g : _} (entry : Entry) (due : Option RepoFault) (old new : MasterBook L D r g) (mid : RepoStore D g) (staged : Staged) (res : Result (Unit {0}) StoreFault) → is_stuck old ≡ false
    → IsStaged entry due (store_of old) mid staged → Puts (entry_in staged) mid (head_of old) new res → Edits entry due old new res
edits_as entry due old new mid staged (Ok done) works s p = record {
  worked = works;
  works = p.1;
  taken = s.taken;
  store = taken_as entry (store_of old) mid (store_of new) s.stays (subst (λ (e : Entry). IsTaken e mid (store_of new)) s.says p.0);
  head = p.2;
}
edits_as entry due old new mid staged (Err e) works s p =
    inr
    (record {
      worked = works;
      taken = s.taken;
      store = broken_as entry (store_of old) mid (store_of new) e s.stays (subst (λ (x : Entry). IsBroken x mid (store_of new) e) s.says p.0);
      stuck = p.1;
      head = p.2;
    })

-- a staged revision is written and shown
pub accepted_as : {L D : Type 0} {r : _} {g : _} (entry : Entry) (due : Option RepoFault) (old new : MasterBook L D r g) (mid : RepoStore D g) (staged : Staged) (now : Repository) → is_stuck old ≡ false → is_stuck new ≡ false
    → IsStaged entry due (store_of old) mid staged → IsTaken (entry_in staged) mid (store_of new) → now ≡ repository_of (store_of new) → head_of new ≡ head_in now.revisions → 0 < length now.revisions → IsAccepted entry due old new
accepted_as entry due old new mid staged now worked works s t same at begun = record {
  worked = worked;
  works = works;
  taken = s.taken;
  store = taken_as entry (store_of old) mid (store_of new) s.stays (subst (λ (e : Entry). IsTaken e mid (store_of new)) s.says t);
  head = omega (arith, at, begun, ap (λ (x : Repository). length x.revisions) same);
}

pub broken_off_as : {L D : Type 0} {r : _} {g : _} (entry : Entry) (due : Option RepoFault) (old new : MasterBook L D r g) (mid : RepoStore D g) (staged : Staged) (e : StoreFault) → is_stuck old ≡ false → is_stuck new ≡ false → head_of new ≡ head_of old
    → IsStaged entry due (store_of old) mid staged → IsBroken (entry_in staged) mid (store_of new) e → IsBrokenOff entry due old new e
broken_off_as entry due old new mid staged e worked works head s b = record {
  worked = worked;
  taken = s.taken;
  store = broken_as entry (store_of old) mid (store_of new) e s.stays (subst (λ (x : Entry). IsBroken x mid (store_of new) e) s.says b);
  stuck = works;
  head = head;
}

pub hidden_as : {L D : Type 0} {r : _} {g : _} (entry : Entry) (due : Option RepoFault) (old new : MasterBook L D r g) (mid : RepoStore D g) (staged : Staged) → is_stuck old ≡ false → is_stuck new ≡ true → head_of new ≡ head_of old
    → IsStaged entry due (store_of old) mid staged → IsTaken (entry_in staged) mid (store_of new) → IsHidden entry due old new (Log Failed)
hidden_as entry due old new mid staged worked stuck head s t = record {
  fault = refl;
  worked = worked;
  taken = s.taken;
  store = taken_as entry (store_of old) mid (store_of new) s.stays (subst (λ (e : Entry). IsTaken e mid (store_of new)) s.says t);
  stuck = stuck;
  head = head;
}

-- the new revision has the set that was committed
pub set_shown : (before now : Repository) (set : List Change) (props : PropMap) (n : ℕ) → now ≡ with_entry_in before (Revised (length before.revisions) set props) → length now.sets ≡ length now.revisions → n ≡ head_in now.revisions
    → option_map (λ (x : Rev). x.set) (rev_at now n) ≡ Some set
set_shown before now set props n made sets at =
    let new = revision_as (effect_tree (trees_of before.revisions) set) props in
    let grown = ap (λ (x : Repository). length x.revisions) made in
    let more = ap (λ (x : Repository). length x.sets) made in
    let same : length before.sets ≡ length before.revisions = omega (arith, sets, grown, more, length-append before.revisions (new ∷ []), length-append before.sets (set ∷ [])) in
    let here : n ≡ length before.revisions = omega (arith, at, grown, length-append before.revisions (new ∷ [])) in
    ap (λ (x : Repository). option_map (λ (v : Rev). v.set) (rev_at x n)) made
    ∙ ap (λ (k : ℕ). option_map (λ (v : Rev). v.set) (rev_at (with_entry_in before (Revised (length before.revisions) set props)) k)) here
    ∙ ap (option_map (λ (v : Rev). v.set)) (rev_new before (length before.revisions) set props same refl)
