-- What a call through the lock was, where it answers by what the book answered.
use Rattle.std.proofs.Common.{◌≡◌, ◌<◌, ◌≤◌, ◌⊎◌, inl, inr, ℕ, false, List, Some, None, Result, Ok, Err, sym, subst, arith}
use Rattle.std.specs.Prelude.{IfErr, IfOk}
use Rattle.fleet_disk.specs.declared.disk.Disk.{Ghosts}
use Rattle.gate_log.specs.declared.fault.LogFault.TheVariants as log
use Rattle.node_base.specs.Props.{PropMap}
use Rattle.repo_core.specs.Repository.{props_at}
use Rattle.repo_core.specs.declared.fault.RepoFault.TheVariants as core
use Rattle.repo_store.specs.Words.{repository_of, revisions_of, IsKept}
use Rattle.repo_store.specs.declared.fault.StoreFault.{StoreFault}
use Rattle.repo_store.specs.declared.store.RepoStore.{RepoStore}
use Rattle.repo_store.specs.declared.fault.StoreFault.TheVariants as fault
use Rattle.store_share.specs.Row.{rev_at}
use Rattle.store_share.specs.Book.{head_of}
use Rattle.store_share.specs.Seats.{known_by, seen_by}
use Rattle.store_share.specs.declared.seat.ReaderSeat.{ReaderSeat}
use Rattle.sync_core.specs.declared.fault.SyncFault.{SyncFault}
use Rattle.mirror_share.specs.declared.calls.CallBook.{CallBook}
use Rattle.mirror_share.specs.declared.seat.JobSeat.{JobSeat}
use Rattle.mirror_share.specs.declared.share.MirrorShare.{MirrorShare}
use Rattle.mirror_share.specs.Book.{is_stuck_in, master_of, store_in, jobs_of}
use Rattle.mirror_share.specs.Locked.{HasProps, IsAbove, IsEntryOf, IsKeptOut, IsShownTo}
use Rattle.mirror_share.specs.Places.{job_at, IsEntryFault}
use Rattle.mirror_share.specs.Seats.{place_of}
use Rattle.mirror_share.specs.Seen.{HasSeenAll}
use Rattle.mirror_share.specs.Stepped.{IsWhole}

module _ {L D : Type 0} {r : _} {g : Ghosts D} where
  pub entered : (share : MirrorShare L D r g) (old new : CallBook L D r g) (token : List ℕ) (result : Result (JobSeat L) SyncFault)
      → IfOk result (λ (s : JobSeat L). (i : ℕ) → job_at (jobs_of old) i ≡ Some token → ⊥)
      → IfOk result (λ (s : JobSeat L). job_at (jobs_of old) (place_of s) ≡ None)
      → IfOk result (λ (s : JobSeat L). job_at (jobs_of new) (place_of s) ≡ Some token)
      → IfOk result (λ (s : JobSeat L). IsEntryOf share token (place_of s))
  entered share old new token (Ok s) alone free there = record { old = old; new = new; alone = alone; free = free; there = there }
  entered share old new token (Err f) alone free there = tt

  pub kept_out : (share : MirrorShare L D r g) (book : CallBook L D r g) (token : List ℕ) (result : Result (JobSeat L) SyncFault)
      → IfErr result (IsEntryFault (jobs_of book) token) → IfErr result (IsKeptOut share token)
  kept_out share book token (Ok s) why = tt
  kept_out share book token (Err f) (inl memory) = inl memory
  kept_out share book token (Err f) (inr (at, inl memory)) = inl memory
  kept_out share book token (Err f) (inr (at, inr told)) = inr (record { book = book; seat = at.0; runs = at.1; text = told.0; told = told.1; says = told.2 })

  pub has_props : (share : MirrorShare L D r g) (book : CallBook L D r g) (number : ℕ) (result : Result PropMap StoreFault)
      → IfOk result (λ (p : PropMap). (number ≤ head_of (master_of book)) × (p ≡ props_at (revisions_of (store_in book)) number))
      → IfOk result (λ (p : PropMap). HasProps share number p)
  has_props share book number (Ok p) it = record { book = book; within = it.0; props = it.1 }
  has_props share book number (Err f) it = tt

  pub above_head : {T : Type 0} (share : MirrorShare L D r g) (book : CallBook L D r g) (number : ℕ) (result : Result T StoreFault)
      → IfErr result (λ (e : StoreFault). ((e ≡ fault.Repo core.NoSuchRevision) × (head_of (master_of book) < number)) ⊎ (e ≡ fault.Log log.OutOfMemory))
      → IfErr result (λ (e : StoreFault). e ≡ fault.Repo core.NoSuchRevision → IsAbove share number)
  above_head share book number (Ok x) why = tt
  above_head share book number (Err e) (inl there) = λ told. record { book = book; above = there.1 }
  above_head share book number (Err e) (inr memory) = λ told. absurd (cc)

  pub shown_to : (share : MirrorShare L D r g) (book : CallBook L D r g) (reader : ReaderSeat L r) → IsKept (store_in book) → seen_by reader ≡ head_of (master_of book)
      → ((i : ℕ) → i ≤ head_of (master_of book) → known_by reader i ≡ rev_at (repository_of (store_in book)) i) → IsShownTo share reader (seen_by reader)
  shown_to share book reader kept seen known = record { book = book; kept = kept; head = sym seen; known = λ i h. known i (subst (λ n. i ≤ n) seen h) }

  -- of a book whose cells have refused nothing a reader has seen all
  pub seen_all : (store : RepoStore D g) (book : CallBook L D r g) (reader : ReaderSeat L r) → IsWhole book → is_stuck_in book ≡ false → store_in book ≡ store → seen_by reader ≡ head_of (master_of book)
      → ((i : ℕ) → i ≤ head_of (master_of book) → known_by reader i ≡ rev_at (repository_of (store_in book)) i) → HasSeenAll reader (repository_of store)
  seen_all store book reader whole free is seen known =
      subst (λ s. HasSeenAll reader (repository_of s)) is (let newest = whole.newest free in (omega (arith, newest, seen), λ i le. known i (omega (arith, newest, le))))
