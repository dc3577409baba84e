-- What a shared master was asked, and that what its reader was told stays so.
use Rattle.std.proofs.Common.{◌≡◌, ◌≤◌, ◌⊎◌, inl, inr, ℕ, List, [], ◌∷◌, ◌++◌, Some, Ok, Err, sym, ap, subst, ◌∙◌, arith}
use Rattle.std.specs.List.{AllByRecursion}
use Rattle.std.specs.Option.{option_map}
use Rattle.fleet_disk.specs.declared.disk.Disk.{Ghosts}
use Rattle.node_base.specs.Props.{PropMap}
use Rattle.node_base.specs.declared.refusal.Refusal.TheVariants as refusal
use Rattle.node_base.specs.Tree.{PathMap}
use Rattle.dump_load.specs.declared.change.Change.{Change}
use Rattle.repo_core.specs.declared.fault.RepoFault.TheVariants as core
use Rattle.repo_store.specs.declared.fault.StoreFault.{StoreFault}
use Rattle.repo_store.specs.declared.fault.StoreFault.TheVariants as fault
use Rattle.store_share.specs.Locked.{HasProps, IsAbove, IsNewest}
use Rattle.store_share.specs.Seats.{known_by, seen_by}
use Rattle.store_share.specs.declared.rev.Rev.{Rev}
use Rattle.store_share.specs.declared.seat.ReaderSeat.{ReaderSeat}
use Rattle.store_share.specs.declared.share.MasterShare.{MasterShare}
use Rattle.sync_job.specs.Questions.{Exchange, Identity, Latest, Fetch, FetchProps}
use Rattle.sync_job.specs.declared.master.Fetched.{Fetched}
use Rattle.sync_job.specs.declared.master.MasterFault.{MasterFault}
use Rattle.sync_job.specs.declared.master.MasterFault.TheVariants.{Refused}
use Rattle.sync_job.proofs.Telling.{all_append}
use Rattle.fleet_shares.specs.Faults.{master_fault}
use Rattle.fleet_shares.specs.Ports.{seat_of, share_of, IsToldTo, IsUntold, WasTold}
use Rattle.fleet_shares.specs.declared.master.SharedMaster.{SharedMaster}

module _ {L D : Type 0} {r : _} {g : Ghosts D} (share : MasterShare L D r g) (old new : ReaderSeat L r) (later : seen_by old ≤ seen_by new) (kept : (n : ℕ) → n ≤ seen_by old → known_by new n ≡ known_by old n) where
  newest_still : (seen n : ℕ) → n ≤ seen_by old → IsNewest share seen old n → IsNewest share seen new n
  newest_still seen n within h = record {
    head = h.head;
    shown = record { book = h.shown.book; kept = h.shown.kept; head = h.shown.head; known = λ i at. kept i (omega (arith, at, h.most, within)) ∙ h.shown.known i at };
    most = h.most;
    one = h.one;
  }

  told_still : (x : Exchange) → IsToldTo share old x → IsToldTo share new x
  told_still (Identity (Ok u)) h = h
  told_still (Identity (Err f)) h = h
  told_still (Latest (Ok n)) h = (omega (arith, later, h.0), (h.1.0, newest_still h.1.0 n h.0 h.1.1))
  told_still (Latest (Err f)) h = h
  told_still (Fetch n trees (Ok x)) h = (omega (arith, later, h.0), ap (option_map (λ (v : Rev). v.set)) (kept n h.0) ∙ h.1, h.2)
  told_still (Fetch n trees (Err f)) h = h
  told_still (FetchProps n (Ok p)) h = h
  told_still (FetchProps n (Err f)) h = h

  all_still : (made : List Exchange) → AllByRecursion (IsToldTo share old) made → AllByRecursion (IsToldTo share new) made
  all_still [] h = tt
  all_still (x ∷ made) h = (told_still x h.0, all_still made h.1)

-- a question more
pub told_on : {R L D : Type 0} {r : _} {g : Ghosts D} (first old new : SharedMaster R L D r g) (made : List Exchange) (x : Exchange) → share_of new ≡ share_of old → seen_by (seat_of old) ≤ seen_by (seat_of new)
    → ((n : ℕ) → n ≤ seen_by (seat_of old) → known_by (seat_of new) n ≡ known_by (seat_of old) n) → IsToldTo (share_of old) (seat_of new) x → WasTold old first made → WasTold new first (made ++ x ∷ [])
told_on first old new made x share later kept told h = record {
  share = share ∙ h.share;
  told = all_append (IsToldTo (share_of first) (seat_of new)) made (x ∷ []) (all_still (share_of first) (seat_of old) (seat_of new) later kept made h.told) (subst (λ s. IsToldTo s (seat_of new) x) h.share told, tt);
}

module _ {L D : Type 0} {r : _} {g : Ghosts D} (share : MasterShare L D r g) where
  -- a revision is told with its set and its properties
  pub told_revision : (reader : ReaderSeat L r) (n : ℕ) (trees : List PathMap) (set : List Change) (props : PropMap) (x : Fetched) → n ≤ seen_by reader → option_map (λ (v : Rev). v.set) (known_by reader n) ≡ Some set → HasProps share n props
      → x.set ≡ set → x.props ≡ props → IsToldTo share reader (Fetch n trees (Ok x))
  told_revision reader n trees set props x within is has same_set same_props = (within, is ∙ ap Some (sym same_set), subst (HasProps share n) (sym same_props) has)

  -- or not
  pub untold : (n : ℕ) (e starved : StoreFault) (f : MasterFault) → master_fault starved ≡ Refused refusal.OutOfMemory → f ≡ master_fault e → (e ≡ fault.Repo core.NoSuchRevision) ⊎ (e ≡ starved) → (e ≡ fault.Repo core.NoSuchRevision → IsAbove share n)
      → IsUntold share n f
  untold n e starved f told is (inl missing) above = inl (is ∙ ap master_fault missing, above missing)
  untold n e starved f told is (inr memory) above = inr (is ∙ ap master_fault memory ∙ told)
