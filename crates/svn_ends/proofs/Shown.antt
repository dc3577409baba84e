-- What a reader is shown is known to that reader.
use Rattle.std.proofs.Common.{refl, IfOk, Result, Ok, Err}
use Rattle.fleet_disk.specs.declared.disk.Disk.{Ghosts}
use Rattle.store_share.specs.declared.seat.ReaderSeat.{ReaderSeat}
use Rattle.store_share.specs.declared.share.MasterShare.{MasterShare}
use Rattle.store_share.specs.Locked.{IsShownTo}
use Rattle.store_share.specs.Seats.{known_by, seen_by}
use Rattle.mirror_share.specs.declared.share.MirrorShare.{MirrorShare}
use Rattle.mirror_share.specs.Locked.{IsShownTo as IsShownByMirror}
use Rattle.svn_ends.specs.Shown.{MasterShows, MirrorShows}

pub master_shows : {L D E : Type 0} {r : _} {g : Ghosts D} (share : MasterShare L D r g) (result : Result (ReaderSeat L r) E) → IfOk result (λ s. IsShownTo share s (seen_by s))
    → IfOk result (λ s. MasterShows share (known_by s) (seen_by s))
master_shows share (Ok s) h = (s, (λ n. refl), h)
master_shows share (Err e) h = tt

pub mirror_shows : {L D E : Type 0} {r : _} {g : Ghosts D} (share : MirrorShare L D r g) (result : Result (ReaderSeat L r) E) → IfOk result (λ s. IsShownByMirror share s (seen_by s))
    → IfOk result (λ s. MirrorShows share (known_by s) (seen_by s))
mirror_shows share (Ok s) h = (s, (λ n. refl), h)
mirror_shows share (Err e) h = tt
