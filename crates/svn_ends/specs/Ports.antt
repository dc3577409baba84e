-- What a port over a share is to its caller.
use Rattle.std.specs.Prelude.{◌≡◌, ℕ, Bool, List, Option, Some, None, Result, Ok, Err, take, IfErr}
use Rattle.node_base.specs.Tree.{PathMap}
use Rattle.node_base.specs.declared.refusal.Refusal.{Refusal}
use Rattle.repo_core.specs.Repository.{Repository}
use Rattle.ra_serve.specs.Ports.{Goes, MayRefuse, Stays}
use Rattle.ra_serve.specs.declared.fault.PortFault.{PortFault}
use Rattle.ra_serve.specs.declared.fault.PortFault.TheVariants.{NoSuchRevision}
use Rattle.ra_serve.specs.Held.{port_fault}
use Rattle.repo_store.specs.declared.fault.StoreFault.{StoreFault}
use Rattle.store_share.specs.Chains.{trees_known}
use Rattle.store_share.specs.Seats.{known_by, seen_by}
use Rattle.store_share.specs.declared.rev.Rev.{Rev}
use Rattle.store_share.specs.declared.seat.ReaderSeat.{ReaderSeat}
use Rattle.svn_ends.specs.Seats.{Misses}
use Rattle.svn_ends.specs.declared.port.SharePort.{SharePort}

-- its seat
abbrev pub seat_of : {R L S : Type 0} {r : _} → SharePort R L S r → ReaderSeat L r
seat_of p = p.seat.seat

-- the trees that it lends
abbrev pub trees_lent_by : {R L S : Type 0} {r : _} → SharePort R L S r → List PathMap
trees_lent_by p = p.seat.trees.items

-- its share
abbrev pub share_of : {R L S : Type 0} {r : _} → SharePort R L S r → S
share_of p = p.share.now

-- whether it takes no changes
abbrev pub takes_none : {R L S : Type 0} {r : _} → SharePort R L S r → Bool
takes_none p = p.mirror

-- how often it refused a call by itself
abbrev pub refusals_of : {R L S : Type 0} {r : _} → SharePort R L S r → ℕ
refusals_of p = p.refusals.count

-- the first of these refusals
abbrev pub first_of : {R L S : Type 0} {r : _} → SharePort R L S r → Option PortFault
first_of p = p.refusals.first

-- the repository, which it doesn't know
abbrev pub repository_in : {R L S : Type 0} {r : _} → SharePort R L S r → Option Repository
repository_in p = None

-- a call leaves what a port is, and its count of refusals doesn't fall
abbrev pub GoesOn : {R L S : Type 0} {r : _} → SharePort R L S r → SharePort R L S r → Type 0
GoesOn old new = Goes (takes_none old) (takes_none new) (refusals_of old) (refusals_of new)

-- and the repository is as little known as before
abbrev pub StaysSo : {R L S : Type 0} {r : _} → SharePort R L S r → SharePort R L S r → Type 0
StaysSo old new = Stays (repository_in old) (repository_in new) (takes_none old) (takes_none new) (refusals_of old) (refusals_of new)

-- a refused call: what is due of the repository, or the port's own refusal, which it counts
abbrev pub RefusesFor : {R L S T : Type 0} {r : _} → SharePort R L S r → SharePort R L S r → (Repository → Option Refusal) → Result T PortFault → Type 0
RefusesFor old new due result =
    (x : Repository) → repository_in old ≡ Some x → IfErr result (λ f. MayRefuse (refusals_of old) (refusals_of new) f (due x))

-- a revision is refused: the seat hasn't seen so many, or memory ran out, which the port counts
abbrev pub RefusesUnseen : {R L S T : Type 0} {r : _} → SharePort R L S r → SharePort R L S r → ℕ → Result T PortFault → Type 0
RefusesUnseen old new number result = IfErr result (Misses number (seen_by (seat_of new)) (refusals_of old) (refusals_of new))

-- a revision is refused as unseen once the newest one was asked for
abbrev pub AsksFirst : {R L S : Type 0} {r : _} → (S → ℕ → (ℕ → Option Rev) → ℕ → Type 0) → SharePort R L S r → SharePort R L S r → PortFault → Type 0
AsksFirst IsNewest old new f = f ≡ NoSuchRevision → IsNewest (share_of old) (seen_by (seat_of old)) (known_by (seat_of new)) (seen_by (seat_of new))

-- a port's answer is a share's: it tells the refusal that the share's is
abbrev pub IsAnswer : (Result (Unit {0}) StoreFault → Type 0) → Result (Unit {0}) PortFault → Type 0
IsAnswer Answers (Ok done) = Answers (Ok done)
IsAnswer Answers (Err f) = (e : StoreFault) × Answers (Err e) × (f ≡ port_fault e)

-- of the trees that it lends those below a number are what its seat knows there
abbrev pub LendsBelow : {R L S : Type 0} {r : _} → SharePort R L S r → ℕ → Type 0
LendsBelow p number = take number (trees_lent_by p) ≡ trees_known (known_by (seat_of p)) number

-- the first refusal, behind another one
abbrev pub first_then : Option PortFault → PortFault → Option PortFault
first_then None f = Some f
first_then (Some first) f = Some first
