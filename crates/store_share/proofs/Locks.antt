-- What a call through the lock was, where it answers by what the book answered.
use Rattle.std.proofs.Common.{◌≡◌, ◌<◌, ◌≤◌, ◌⊎◌, inl, inr, ℕ, List, Result, Ok, Err, refl, sym, subst}
use Rattle.std.specs.Prelude.{IfErr, IfOk}
use Rattle.fleet_disk.specs.declared.disk.Disk.{Ghosts}
use Rattle.gate_log.specs.declared.fault.LogFault.TheVariants as log
use Rattle.node_base.specs.Props.{PropMap}
use Rattle.dump_load.specs.declared.change.Change.{Change}
use Rattle.repo_core.specs.Repository.{props_at}
use Rattle.repo_core.specs.declared.fault.RepoFault.TheVariants as core
use Rattle.repo_store.specs.Words.{repository_of, revisions_of, IsKept}
use Rattle.repo_store.specs.declared.fault.StoreFault.{StoreFault}
use Rattle.repo_store.specs.declared.fault.StoreFault.TheVariants as fault
use Rattle.store_share.specs.Row.{rev_at}
use Rattle.store_share.specs.Book.{head_of, store_of}
use Rattle.store_share.specs.Locked.{HasProps, IsAbove, IsNewest, IsShownTo}
use Rattle.store_share.specs.Seats.{known_by, seen_by}
use Rattle.store_share.specs.declared.book.MasterBook.{MasterBook}
use Rattle.store_share.specs.declared.seat.ReaderSeat.{ReaderSeat}
use Rattle.store_share.specs.declared.share.MasterShare.{MasterShare}

module _ {L D : Type 0} {r : _} {g : Ghosts D} where
  pub shown_to : (share : MasterShare L D r g) (book : MasterBook L D r g) (reader : ReaderSeat L r) → IsKept (store_of book) → seen_by reader ≡ head_of book
      → ((i : ℕ) → i ≤ head_of book → known_by reader i ≡ rev_at (repository_of (store_of book)) i) → IsShownTo share reader (seen_by reader)
  shown_to share book reader kept seen known = record { book = book; kept = kept; head = sym seen; known = λ i h. known i (subst (λ n. i ≤ n) seen h) }

  pub newest : (share : MasterShare L D r g) (book : MasterBook L D r g) (seen result : ℕ) (reader : ReaderSeat L r) → IsKept (store_of book) → head_of book ≤ result → (result ≡ seen) ⊎ (result ≡ head_of book)
      → ((i : ℕ) → i ≤ head_of book → known_by reader i ≡ rev_at (repository_of (store_of book)) i) → IsNewest share seen reader result
  newest share book seen result reader kept most one known = record { head = head_of book; shown = record { book = book; kept = kept; head = refl; known = known }; most = most; one = one }

  pub has_props : (share : MasterShare L D r g) (book : MasterBook L D r g) (number : ℕ) (result : Result PropMap StoreFault)
      → IfOk result (λ (p : PropMap). (number ≤ head_of book) × (p ≡ props_at (revisions_of (store_of book)) number)) → IfOk result (λ (p : PropMap). HasProps share number p)
  has_props share book number (Ok p) it = record { book = book; within = it.0; props = it.1 }
  has_props share book number (Err f) it = tt

  pub above_head : {T : Type 0} (share : MasterShare L D r g) (book : MasterBook L D r g) (number : ℕ) (result : Result T StoreFault)
      → IfErr result (λ (e : StoreFault). ((e ≡ fault.Repo core.NoSuchRevision) × (head_of book < number)) ⊎ (e ≡ fault.Log log.OutOfMemory))
      → IfErr result (λ (e : StoreFault). e ≡ fault.Repo core.NoSuchRevision → IsAbove share number)
  above_head share book number (Ok x) why = tt
  above_head share book number (Err e) (inl there) = λ told. record { book = book; above = there.1 }
  above_head share book number (Err e) (inr memory) = λ told. absurd (cc)

  pub has_both : (share : MasterShare L D r g) (book : MasterBook L D r g) (number seen : ℕ) (result : Result (List Change × PropMap) StoreFault)
      → IfOk result (λ (p : List Change × PropMap). (number ≤ head_of book) × (head_of book ≤ seen)) → IfOk result (λ (p : List Change × PropMap). p.1 ≡ props_at (revisions_of (store_of book)) number)
      → IfOk result (λ (p : List Change × PropMap). HasProps share number p.1)
  has_both share book number seen (Ok p) within props = record { book = book; within = within.0; props = props }
  has_both share book number seen (Err f) within props = tt
