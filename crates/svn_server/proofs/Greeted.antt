-- What a client of a session is told first.
use Rattle.std.proofs.Common.{◌≡◌, ℕ, Bool, List, Option, sym, subst}
use Rattle.ra_item.specs.Items.{spell}
use Rattle.ra_serve.specs.Serving.{SaysFirst}
use Rattle.ra_serve.proofs.Adding.{says_else}
use Rattle.svn_server.specs.Ends.{greeting_of, BeginsWell}

-- of a writer whose bytes are another's
pub begins_by : (browse own : Bool) (told there now later : Option (List ℕ)) → browse ≡ own → told ≡ there → later ≡ now → SaysFirst (spell (greeting_of own)) told now → BeginsWell browse there later
begins_by browse own told there now later b h k s = subst (λ f. BeginsWell f there later) (sym b) (says_else (spell (greeting_of own)) told there now later h (sym k) s)
