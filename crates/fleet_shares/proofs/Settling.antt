-- What comes of shared stores: they have what they had, and a mirror what it has besides of its master's.
use Rattle.std.proofs.Common.{◌≡◌, inl, inr, ℕ, ◌≤◌, ◌<◌, ◌+◌, length, if◌then◌else◌, zero, suc, Bool, true, false, true≢false, List, Option, Some, None, Result, Ok, Err, IfOk, refl, sym, ap, subst, ◌∙◌, arith}
use Rattle.mirror_share.specs.Names.{opened_in}
use Rattle.mirror_share.specs.Seen.{HasSeenAll}
use Rattle.mirror_share.specs.declared.opened.OpenedMirror.{OpenedMirror}
use Rattle.repo_core.specs.Repository.{Repository, head_of}
use Rattle.repo_store.specs.Words.{repository_of, revisions_of}
use Rattle.repo_store.specs.declared.store.RepoStore.{RepoStore}
use Rattle.store_share.specs.Book.{is_stuck, store_of}
use Rattle.store_share.specs.Book as books
use Rattle.store_share.specs.Opened.{store_in}
use Rattle.store_share.specs.Row.{rev_at}
use Rattle.store_share.specs.Seats.{known_by, seen_by}
use Rattle.store_share.specs.declared.book.MasterBook.{MasterBook}
use Rattle.store_share.specs.declared.name.RowName.{Ghosts as RowGhosts}
use Rattle.store_share.specs.declared.opened.OpenedStore.{OpenedStore}
use Rattle.store_share.specs.declared.seat.ReaderSeat.{ReaderSeat}
use Rattle.fleet_shares.specs.Agreed.{Adds, BringsUp, IsFront}
use Rattle.fleet_shares.specs.Closing.{brings_at, AreBroughtIn, AreBroughtSince, AreReaders, ComesOut, ComesOutNow, HasStayed, HaveSeenAll, IsBroughtBy, IsBroughtIn, IsBroughtSince, IsJudged, IsLost, IsReadBy, IsSettled, IsUnlike}
use Rattle.fleet_shares.specs.Opening.{stored_in, IsOpenedFrom}
use Rattle.fleet_shares.specs.Ran.{named_by}
use Rattle.fleet_shares.specs.Stores.{store_at}
use Rattle.fleet_shares.specs.declared.brings.Brings.{Brings}
use Rattle.fleet_shares.specs.declared.shares.FleetReaders.{FleetReaders}
use Rattle.fleet_shares.specs.declared.stores.FleetStores.{FleetStores}
use Rattle.fleet_shares.specs.declared.stores.OpenedFleet.{OpenedFleet}
use Rattle.store_share.proofs.Showing.{some_is}
use Rattle.fleet_shares.proofs.Telling.{of_ok}

-- the newest revision of a book of which each cell took its box
pub newest_of : {L D : Type 0} {r : _} {g : _} (book : MasterBook L D r g) (y : Repository) (n : ℕ) → y ≡ repository_of (store_of book) → n ≡ head_of y.revisions → 0 < length y.revisions → books.head_of book + 1 ≡ length (revisions_of (store_of book))
    → (n ≡ head_of (revisions_of (store_of book))) × (books.head_of book ≡ n)
newest_of book y n is at begun shown =
    let same = ap (λ (z : Repository). head_of z.revisions) is in
    let long = ap (λ (z : Repository). length z.revisions) is in (at ∙ same, omega (arith, at, same, shown))

-- a store has what a reader saw when it was opened
pub stays_on : {L : Type 0} {r : _} (old new : ReaderSeat L r) (y : Repository) (head shown : ℕ) → head ≡ head_of y.revisions → shown ≡ head → seen_by old ≤ head
    → ((n : ℕ) → n ≤ shown → known_by new n ≡ rev_at y n) → ((n : ℕ) → n ≤ seen_by old → known_by new n ≡ known_by old n)
    → (x : Repository) → HasSeenAll old x → IsFront x y
stays_on old new y head shown is at within known kept x all = record {
  within = omega (arith, is, within, all.0);
  same = λ n le. sym (all.1 n le) ∙ (sym (kept n (omega (arith, le, all.0))) ∙ known n (omega (arith, le, all.0, within, at)));
}

-- or it isn't known to have it
pub stuck_now : {L D : Type 0} {r : _} {g : _} (book : MasterBook L D r g) (head : ℕ) → is_stuck book ≡ true → IsLost r head (store_of book)
stuck_now book head is = inl (book, refl, is)

-- how a mirror's store was settled
pub settled_by : {L D : Type 0} {r : _} {g : _} (up : Bool) (opened : Option (ReaderSeat L r)) (seat : ReaderSeat L r) (had : ℕ) (store now old : RepoStore D g) (m : Repository) → opened ≡ Some seat → store ≡ now → now ≡ old → IsBroughtBy up seat had old m
    → IsSettled up (Some store) opened had m
settled_by {L = L} {D = D} {r = r} {g = g} up opened seat had store now old m is e f h =
    subst (λ (o : Option (ReaderSeat L r)). IsSettled up (Some store) o had m) (sym is) (subst (λ (s : RepoStore D g). IsBroughtBy up seat had s m) (sym (e ∙ f)) h)

-- a mirror that has what it had, and what its master has besides
brings_up : (old_master old_mirror master mirror : Repository) → IsFront old_master master → IsFront old_mirror mirror → head_of old_master.revisions ≤ head_of mirror.revisions → Adds (head_of old_mirror.revisions) mirror master → BringsUp old_master old_mirror master mirror
brings_up old_master old_mirror master mirror first second enough adds = record {
  master_stays = first;
  mirror_stays = second;
  all = enough;
  more = adds.more;
  whole = λ front. adds.whole (record {
    within = omega (arith, front.within, first.within);
    same = λ n le. sym (second.same n le) ∙ (front.same n le ∙ first.same n (omega (arith, le, front.within)));
  });
}

both_up : (stays up : Bool) → (if stays then up else false) ≡ true → up ≡ true
both_up true up e = e
both_up false up e = absurd (true≢false (sym e))

-- of a slot
brought_since : {M L D : Type 0} {m : _} {r : _} {g : _} (stays up both : Bool) (theirs : ReaderSeat M m) (ours : Option (ReaderSeat L r)) (had : ℕ) (first master : RepoStore D g) (store : Option (RepoStore D g))
    → both ≡ (if stays then up else false) → had ≡ seen_by theirs → master ≡ first → HasStayed stays theirs first → IsSettled up store ours had (repository_of first) → IsBroughtSince both theirs ours master store
brought_since stays up both theirs ours had first master None is at same h k = tt
brought_since stays up both theirs None had first master (Some s) is at same h k = λ t. k (both_up stays up (sym is ∙ t))
brought_since {D = D} {g = g} stays up both theirs (Some o) had first master (Some s) is at same h k =
    subst (λ b. IsBroughtSince b theirs (Some o) master (Some s)) (sym is)
    (subst (λ (y : RepoStore D g). IsBroughtSince (if stays then up else false) theirs (Some o) y (Some s)) (sym same) (by stays up h (subst (λ n. IsBroughtBy up o n s (repository_of first)) at k)))
  where
    by : (b c : Bool) → HasStayed b theirs first → IsBroughtBy c o (seen_by theirs) s (repository_of first) → IsBroughtSince (if b then c else false) theirs (Some o) first (Some s)
    by false c lost k = inl lost
    by true false stayed unlike = inr unlike
    by true true stayed brought = λ x z seen all. let both_are = brought z all in
        brings_up x z (repository_of first) (repository_of s) (stayed x seen) both_are.0 (subst (λ n. n ≤ head_of (revisions_of s)) seen.0 both_are.1) both_are.2

-- where the master's store was another value of the same
pub brought_after : {M L D : Type 0} {m : _} {r : _} {g : _} (stays up both : Bool) (theirs : ReaderSeat M m) (ours : Option (ReaderSeat L r)) (had : ℕ) (first mid master : RepoStore D g) (store : Option (RepoStore D g))
    → both ≡ (if stays then up else false) → had ≡ seen_by theirs → mid ≡ first → master ≡ first → HasStayed stays theirs first → IsSettled up store ours had (repository_of mid) → IsBroughtSince both theirs ours master store
brought_after {D = D} {g = g} stays up both theirs ours had first mid master store is seen at same h k =
    brought_since stays up both theirs ours had first master store is seen same h (subst (λ (x : RepoStore D g). IsSettled up store ours had (repository_of x)) at k)

-- by how it was opened
brought_in : {M L D : Type 0} {m : _} {r : _} {g : _} (up : Bool) (theirs : ReaderSeat M m) (ours : Option (ReaderSeat L r)) (first : OpenedStore D g) (opened : Option (OpenedMirror D g)) (master : RepoStore D g) (store : Option (RepoStore D g))
    → HasSeenAll theirs (repository_of (store_in first)) → IsReadBy opened ours → IsBroughtSince up theirs ours master store → IsBroughtIn m r up first opened master store
brought_in up theirs ours first None master store h k b = tt
brought_in up theirs ours first (Some o) master None h k b = tt
brought_in up theirs None first (Some o) master (Some s) h k b = absurd k
brought_in true theirs (Some seat) first (Some o) master (Some s) h k b = b (repository_of (store_in first)) (repository_of (store_in (opened_in o))) h k
brought_in {m = m} {r = r} false theirs (Some seat) first (Some o) master (Some s) h k b =
    subst (λ n. IsUnlike m r n (head_of (revisions_of (store_in (opened_in o)))) master s) h.0 (subst (λ n. IsUnlike m r (seen_by theirs) n master s) k.0 b)

module _ {M L0 L1 L2 L3 D : Type 0} {m : _} {r0 : _} {r1 : _} {r2 : _} {r3 : _} {g : _} (opened : OpenedFleet D g) where
  -- of all slots
  pub all_brought : (readers : FleetReaders M L0 L1 L2 L3 m r0 r1 r2 r3) (stores : FleetStores D g) (brings : Brings) → HaveSeenAll opened readers → AreBroughtSince brings readers stores → AreBroughtIn m r0 r1 r2 r3 opened stores brings
  all_brought readers stores brings h b = record {
    first = brought_in brings.first readers.master readers.first opened.master opened.first stores.master stores.first h.master h.first b.first;
    second = brought_in brings.second readers.master readers.second opened.master opened.second stores.master stores.second h.master h.second b.second;
    third = brought_in brings.third readers.master readers.third opened.master opened.third stores.master stores.third h.master h.third b.third;
    fourth = brought_in brings.fourth readers.master readers.fourth opened.master opened.fourth stores.master stores.fourth h.master h.fourth b.fourth;
  }

  -- the readers have seen all, where each of them has
  pub all_seen : {E : Type 0} (all : Result (FleetReaders M L0 L1 L2 L3 m r0 r1 r2 r3) E) (t : Result (ReaderSeat M m) E) (a : Result (Option (ReaderSeat L0 r0)) E) (b : Result (Option (ReaderSeat L1 r1)) E) (c : Result (Option (ReaderSeat L2 r2)) E) (d : Result (Option (ReaderSeat L3 r3)) E)
      → IfOk all (AreReaders t a b c d) → IfOk t (λ s. HasSeenAll s (repository_of (store_in opened.master))) → IfOk a (IsReadBy opened.first) → IfOk b (IsReadBy opened.second) → IfOk c (IsReadBy opened.third) → IfOk d (IsReadBy opened.fourth)
      → IfOk all (HaveSeenAll opened)
  all_seen (Ok r) t a b c d are h i j k l = record {
    master = of_ok t r.master (λ s. HasSeenAll s (repository_of (store_in opened.master))) are.master_is h;
    first = of_ok a r.first (IsReadBy opened.first) are.first_is i;
    second = of_ok b r.second (IsReadBy opened.second) are.second_is j;
    third = of_ok c r.third (IsReadBy opened.third) are.third_is k;
    fourth = of_ok d r.fourth (IsReadBy opened.fourth) are.fourth_is l;
  }
  all_seen (Err e) t a b c d are h i j k l = tt

-- by the stores that were given
came_out : {M L D : Type 0} {g : _} (m : RowGhosts M) (r : RowGhosts L) (up : Bool) (first : OpenedStore D g) (opened : Option (OpenedMirror D g)) (given master : RepoStore D g) (slot now : Option (RepoStore D g)) → store_in first ≡ given → stored_in (Ok opened) ≡ slot
    → IsBroughtIn m r up first opened master now → (before after : RepoStore D g) → slot ≡ Some before → now ≡ Some after → ComesOut m r up given before master after
came_out m r up first None given master slot now same from h before after was there = absurd (let none = from ∙ was in cc)
came_out m r up first (Some o) given master slot None same from h before after was there = absurd (cc)
came_out {D = D} {g = g} m r up first (Some o) given master slot (Some s) same from h before after was there =
    subst (λ (x : RepoStore D g). ComesOut m r up x before master after) same
    (subst (λ (x : RepoStore D g). ComesOut m r up (store_in first) x master after) (some_is (store_in (opened_in o)) before (from ∙ was))
    (subst (λ (x : RepoStore D g). ComesOut m r up (store_in first) (store_in (opened_in o)) master x) (some_is s after there) h))

module _ {D : Type 0} {g : _} (m r0 r1 r2 r3 : List ℕ) (stores new : FleetStores D g) (opened : OpenedFleet D g) (from : IsOpenedFrom stores.master stores.first stores.second stores.third stores.fourth opened) where
  -- whatever cells the rows have
  now_out : (r : List ℕ) (up : Bool) (w x y z : RepoStore D g) → ComesOut (named_by m) (named_by r) up w x y z → ComesOutNow up w x y z
  now_out r true w x y z h = h
  now_out r false w x y z h = (m, (r, h))

  judged : (r : List ℕ) (up : Bool) (slot : ℕ) → ((before after : RepoStore D g) → store_at stores slot ≡ Some before → store_at new slot ≡ Some after → ComesOut (named_by m) (named_by r) up stores.master before new.master after) → IsJudged stores new slot up
  judged r up slot h = λ before after was there. now_out r up stores.master before new.master after (h before after was there)

  no_slot : (before : RepoStore D g) (P : Type 0) → None ≡ Some before → P
  no_slot before P e = absurd (cc)

  brought_slots : (b : Brings) → AreBroughtIn (named_by m) (named_by r0) (named_by r1) (named_by r2) (named_by r3) opened new b → (slot : ℕ) → IsJudged stores new slot (brings_at b slot)
  brought_slots b h zero = judged r0 b.first 0 (came_out (named_by m) (named_by r0) b.first opened.master opened.first stores.master new.master stores.first new.first from.0 from.1 h.first)
  brought_slots b h (suc zero) = judged r1 b.second 1 (came_out (named_by m) (named_by r1) b.second opened.master opened.second stores.master new.master stores.second new.second from.0 from.2 h.second)
  brought_slots b h (suc (suc zero)) = judged r2 b.third 2 (came_out (named_by m) (named_by r2) b.third opened.master opened.third stores.master new.master stores.third new.third from.0 from.3 h.third)
  brought_slots b h (suc (suc (suc zero))) = judged r3 b.fourth 3 (came_out (named_by m) (named_by r3) b.fourth opened.master opened.fourth stores.master new.master stores.fourth new.fourth from.0 from.4 h.fourth)
  brought_slots b h (suc (suc (suc (suc n)))) = λ before after was there. no_slot before _ was

  pub brought_over : {T E : Type 0} (r : Result (T × Brings) E) → IfOk r (λ ran. AreBroughtIn (named_by m) (named_by r0) (named_by r1) (named_by r2) (named_by r3) opened new ran.1) → IfOk r (λ ran. (slot : ℕ) → IsJudged stores new slot (brings_at ran.1 slot))
  brought_over (Ok ran) h = brought_slots ran.1 h
  brought_over (Err e) h = tt
