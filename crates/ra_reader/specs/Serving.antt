-- What a reading session says of its port, its reader and its writer.
use Rattle.std.specs.Prelude.{◌≡◌, ℕ, Bool, List, [], ◌∷◌, ◌++◌, map, Option, Some}
use Rattle.std.specs.Io.KnownBytes.{Appends}
use Rattle.byte_streams.specs.Causes.{RoseBy}
use Rattle.ra_item.specs.Items.{Item, spell}
use Rattle.ra_item.specs.Streams.{Stream}
use Rattle.ra_item.specs.ItemStreams.{reader_of, is_spent, ahead}
use Rattle.ra_item.specs.declared.stream.ItemStream.{ItemStream}
use Rattle.repo_core.specs.Repository.{Repository}
use Rattle.ra_wire.specs.Replies.{mechanisms}
use Rattle.browse_wire.specs.Urls.{Url}
use Rattle.ra_serve.specs.Sessions.{identity_text}
use Rattle.ra_serve.specs.Serving.{EndsAt, SaysFirst, any, none, goes_on_login, ends_at_login}
use Rattle.ra_serve.specs.declared.fault.End as declared
use Rattle.ra_reader.specs.Standings.{ready_at}
use Rattle.ra_reader.specs.Sessions.{Turn, AllHave, LoginHas, SessionHas, halts, answers, asked_who, greeting, session, commands_of, goes_on, ends_opening}

-- some turns were taken: their answers stand behind what the writer had, what was added to them is what the repository has, each
-- refusal of the port's own is one that it may give, and its count of these rose by as many
pub record Browses (spelled : List Turn → List ℕ) (Has : List Turn → Type 0) (asked : List Turn → List Turn) (stands over : List Item → Bool) (refused refused_now : ℕ) (told now : Option (List ℕ)) (before after : Option (List ℕ)) (was is : List ℕ → Stream) (spent : Bool) (e : declared.End) : Type 0 where
  pub turns : List Turn
  pub found : Has turns
  pub counted : RoseBy (halts (asked turns)) refused refused_now
  pub bytes : Appends told now (spelled turns)
  pub ends : EndsAt stands over (map (λ t. t.item) turns) before after was is spent e

-- the same of a port, a stream and a writer, before and after
abbrev pub BrowsesBy : {P R W : Type 0} {g : _} → (Repository → List Turn → List ℕ) → (Repository → List Turn → Type 0) → (List Turn → List Turn) → (List Item → Bool) → (List Item → Bool) → (P → Option Repository) → (P → ℕ) → (R → Option (List ℕ)) → (W → Option (List ℕ)) → P → P → ItemStream R g → ItemStream R g → W → W → declared.End → Type 0
BrowsesBy spelled Has asked stands over repository refusals remaining contents old new items items_now out now e =
    (x : Repository) → repository old ≡ Some x → Browses (spelled x) (Has x) asked stands over (refusals old) (refusals new) (contents out) (contents now) (remaining (reader_of items)) (remaining (reader_of items_now)) (ahead items) (ahead items_now) (is_spent items) e

-- ---- a whole session

abbrev pub BrowsesSession : {P R W : Type 0} {g : _} → (P → Option Repository) → (P → ℕ) → (R → Option (List ℕ)) → (W → Option (List ℕ)) → P → P → ItemStream R g → ItemStream R g → W → W → declared.End → Type 0
BrowsesSession repository refusals remaining contents = BrowsesBy session SessionHas commands_of goes_on ends_opening repository refusals remaining contents

-- whatever the port knows, behind what the writer had stands the greeting
abbrev pub Greets : {W : Type 0} → (W → Option (List ℕ)) → W → W → Type 0
Greets contents out now = SaysFirst (spell greeting) (contents out) (contents now)

-- ---- its parts

abbrev pub all : List Turn → List Turn
all ts = ts

abbrev pub answers_at : Url → Repository → List Turn → List ℕ
answers_at at x ts = answers x (ready_at at) ts

abbrev pub all_have : Url → Repository → List Turn → Type 0
all_have at x ts = AllHave x (ready_at at) ts

abbrev pub BrowsesCommands : {P R W : Type 0} {g : _} → (P → Option Repository) → (P → ℕ) → (R → Option (List ℕ)) → (W → Option (List ℕ)) → Url → P → P → ItemStream R g → ItemStream R g → W → W → declared.End → Type 0
BrowsesCommands repository refusals remaining contents at = BrowsesBy (answers_at at) (all_have at) all any none repository refusals remaining contents

abbrev pub behind_one : List Turn → List Turn
behind_one [] = []
behind_one (t ∷ ts) = ts

abbrev pub spelled_login : Url → Repository → List Turn → List ℕ
spelled_login at x ts = spell (mechanisms (identity_text x)) ++ asked_who at x ts

abbrev pub BrowsesLogin : {P R W : Type 0} {g : _} → (P → Option Repository) → (P → ℕ) → (R → Option (List ℕ)) → (W → Option (List ℕ)) → Url → P → P → ItemStream R g → ItemStream R g → W → W → declared.End → Type 0
BrowsesLogin repository refusals remaining contents at = BrowsesBy (spelled_login at) (LoginHas at) behind_one goes_on_login ends_at_login repository refusals remaining contents
