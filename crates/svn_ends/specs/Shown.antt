-- What a share shows, by what is known of it: what a reader knows to whom it is shown.
use Rattle.std.specs.Prelude.{◌≡◌, ℕ, Option}
use Rattle.fleet_disk.specs.declared.disk.Disk.{Ghosts}
use Rattle.store_share.specs.declared.rev.Rev.{Rev}
use Rattle.store_share.specs.declared.seat.ReaderSeat.{ReaderSeat}
use Rattle.store_share.specs.declared.share.MasterShare.{MasterShare}
use Rattle.store_share.specs.Locked.{IsNewest, IsShownTo}
use Rattle.store_share.specs.Seats.{known_by}
use Rattle.mirror_share.specs.declared.share.MirrorShare.{MirrorShare}
use Rattle.mirror_share.specs.Locked.{IsNewest as IsNewestOfMirror, IsShownTo as IsShownByMirror}

-- a reader knows this
abbrev pub Knows : {L : Type 0} {r : _} → ReaderSeat L r → (ℕ → Option Rev) → Type 0
Knows reader known = (n : ℕ) → known n ≡ known_by reader n

-- of a repository
abbrev pub MasterShows : {L D : Type 0} {r : _} {g : Ghosts D} → MasterShare L D r g → (ℕ → Option Rev) → ℕ → Type 0
MasterShows {L} {D} {r} share known last = (reader : ReaderSeat L r) × Knows reader known × IsShownTo share reader last

abbrev pub MasterNewest : {L D : Type 0} {r : _} {g : Ghosts D} → MasterShare L D r g → ℕ → (ℕ → Option Rev) → ℕ → Type 0
MasterNewest {L} {D} {r} share seen known newest = (reader : ReaderSeat L r) × Knows reader known × IsNewest share seen reader newest

-- of a mirror
abbrev pub MirrorShows : {L D : Type 0} {r : _} {g : Ghosts D} → MirrorShare L D r g → (ℕ → Option Rev) → ℕ → Type 0
MirrorShows {L} {D} {r} share known last = (reader : ReaderSeat L r) × Knows reader known × IsShownByMirror share reader last

abbrev pub MirrorNewest : {L D : Type 0} {r : _} {g : Ghosts D} → MirrorShare L D r g → ℕ → (ℕ → Option Rev) → ℕ → Type 0
MirrorNewest {L} {D} {r} share seen known newest = (reader : ReaderSeat L r) × Knows reader known × IsNewestOfMirror share seen reader newest
