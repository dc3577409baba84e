-- An opening, seen by what comes of it.
use Rattle.std.proofs.Common.{ℕ, Bool, false, List, Option, Result, Ok, Err, ap}
use Rattle.byte_streams.specs.declared.input.Input.{Ghosts as InputGhosts}
use Rattle.byte_streams.specs.declared.output.Output.{Ghosts as OutputGhosts}
use Rattle.byte_streams.specs.declared.sink.Sink.{Sink}
use Rattle.ra_item.specs.Items.{Item}
use Rattle.ra_item.specs.declared.stream.ItemStream.{ItemStream}
use Rattle.ra_client.specs.Exchanges.{Opens}
use Rattle.ra_client.specs.Said.{Reply, Repository, ToldWithin, welcome_said}
use Rattle.ra_client.specs.Steps.{Follows, Stopped, Went, Goes, TakesItem, OfItem, OfEnd, OfStream}
use Rattle.ra_client.specs.declared.fault.ClientFault.{ClientFault}
use Rattle.ra_client.specs.declared.fault.ClientFault.TheVariants as fault

abbrev pub viewed : {A T : Type 0} → (A → T) → Result A ClientFault → Result T ClientFault
viewed view (Ok v) = Ok (view v)
viewed view (Err f) = Err f

told_as : {A T : Type 0} (past : Bool) (view : A → T) (o : Option (Reply T)) (r : Result A ClientFault) → ToldWithin past view o r → ToldWithin past (λ v. v) o (viewed view r)
told_as past view o (Ok v) h = h
told_as past view o (Err fault.Refused) h = h
told_as past view o (Err fault.BadAnswer) h = h
told_as past view o (Err (fault.Edit e)) h = h

goes_as : {R A T : Type 0} {g : InputGhosts R} (view : A → T) (old new : ItemStream R g) (r : Result A ClientFault) → Goes old new r → Goes old new (viewed view r)
goes_as view old new (Ok v) h = record { later = h.later; goes_on = h.goes_on }
goes_as view old new (Err f) h = record { later = h.later; goes_on = tt }

item_as : {R A T : Type 0} {g : InputGhosts R} (view : A → T) (what : Item → Option (Reply T)) (old new : ItemStream R g) (r : Result A ClientFault) → TakesItem view what old new r → TakesItem (λ v. v) what old new (viewed view r)
item_as view what old new r (OfItem x t h, l) = (OfItem x t (told_as false view (what x) r h), goes_as view old new r l)
item_as view what old new r (OfEnd t e, l) = (OfEnd t (ap (viewed view) e), goes_as view old new r l)
item_as view what old new r (OfStream k s e, l) = (OfStream k s (ap (viewed view) e), goes_as view old new r l)

follows_as : {S A B T : Type 0} (view : B → T) (first : S → S → Result A ClientFault → Type 0) (second : A → S → S → Result B ClientFault → Type 0) (seen : A → S → S → Result T ClientFault → Type 0) → ((v : A) (old new : S) (r : Result B ClientFault) → second v old new r → seen v old new (viewed view r)) → (old new : S) (r : Result B ClientFault) → Follows first second old new r → Follows first seen old new (viewed view r)
follows_as view first second seen f old new r (Stopped g h e) = Stopped g h (ap (viewed view) e)
follows_as view first second seen f old new r (Went mid v h k) = Went mid v h (f v mid new r k)

pub opens_as : {R O A : Type 0} {g : InputGhosts R} {h : OutputGhosts O} (view : A → Repository) (url : List ℕ) (old new : ItemStream R g × Sink O h) (r : Result A ClientFault) → Opens view url old new r → Opens (λ v. v) url old new (viewed view r)
opens_as view url = follows_as view _ _ _ (λ _. follows_as view _ _ _ (λ _. follows_as view _ _ _ (λ asks. follows_as view _ _ _ (λ _ old new r k. (item_as view welcome_said old.0 new.0 r k.0, k.1)))))
