-- A session of which a writer's bytes are another's.
use Rattle.std.proofs.Common.{◌≡◌, ℕ, Bool, List, Option, subst}
use Rattle.ra_item.specs.Items.{Item}
use Rattle.ra_item.specs.Streams.{Stream}
use Rattle.ra_serve.specs.declared.fault.End as declared
use Rattle.ra_reader.specs.Sessions.{Turn}
use Rattle.ra_reader.specs.Serving.{Browses}

pub browses_else : (spelled : List Turn → List ℕ) (Has : List Turn → Type 0) (asked : List Turn → List Turn) (stands over : List Item → Bool) (refused refused_now : ℕ) (told there now later : Option (List ℕ)) (before after : Option (List ℕ)) (was is : List ℕ → Stream) (spent : Bool) (e : declared.End) → told ≡ there → now ≡ later → Browses spelled Has asked stands over refused refused_now told now before after was is spent e → Browses spelled Has asked stands over refused refused_now there later before after was is spent e
browses_else spelled Has asked stands over refused refused_now told there now later before after was is spent e h k s =
    subst (λ a. Browses spelled Has asked stands over refused refused_now a later before after was is spent e) h
    (subst (λ b. Browses spelled Has asked stands over refused refused_now told b before after was is spent e) k s)
