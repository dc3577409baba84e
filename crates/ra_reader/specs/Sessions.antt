-- What a reading session writes, by what was read of its client.
use Rattle.std.specs.Prelude.{ℕ, ◌+◌, Bool, true, false, not, ◌&&◌, is_ok, List, [], ◌∷◌, ◌++◌, Option, Some, None, Result, Ok, Err, codes, if◌then◌else◌}
use Rattle.node_base.specs.declared.refusal.Refusal.{Refusal}
use Rattle.node_base.specs.declared.refusal.Refusal.TheVariants as refusal
use Rattle.ra_item.specs.Items.{Item, Word, Number, spell}
use Rattle.repo_core.specs.Repository.{Repository}
use Rattle.ra_wire.specs.Openings.{Hello, Login, hello_in, login_in}
use Rattle.ra_wire.specs.Replies.{list, success, mechanisms, only_anonymous, welcome, done}
use Rattle.browse_wire.specs.Urls.{Url, url_read}
use Rattle.browse_wire.specs.declared.url.UrlFault.{UrlFault}
use Rattle.browse_wire.specs.declared.url.UrlFault.TheVariants as bad
use Rattle.ra_serve.specs.Answers.{refused}
use Rattle.ra_serve.specs.Sessions.{identity_text, is_anonymous, logs_in}
use Rattle.ra_denial.specs.Halts.{halts_in}
use Rattle.ra_reader.specs.Standings.{Standing, Added, ready_at, told_at, leads_to, HasAt}

-- an item that a client sent, and what the session adds to it
pub record Turn : Type 0 where
  pub item : Item
  pub added : Added

-- ---- behind the opening

-- what an item is told where the session stands
abbrev pub answer_to : Repository → Standing → Turn → List ℕ
answer_to x s t = told_at x s.at s.phase t.item t.added

-- where the session stands behind it
abbrev pub stands_behind : Standing → Turn → Standing
stands_behind s t = leads_to s.at s.phase t.item t.added

-- each is answered where those before it left the session
abbrev pub answers : Repository → Standing → List Turn → List ℕ
answers x s [] = []
answers x s (t ∷ ts) = answer_to x s t ++ answers x (stands_behind s t) ts

abbrev pub stands : Standing → List Turn → Standing
stands s [] = s
stands s (t ∷ ts) = stands (stands_behind s t) ts

-- to each is added what the repository has, and a refusal of the port's own only where it may refuse
abbrev pub Has : Repository → Standing → Turn → Type 0
Has x s t = HasAt x s.at s.phase t.item t.added

abbrev pub AllHave : Repository → Standing → List Turn → Type 0
AllHave x s [] = Unit {0}
AllHave x s (t ∷ ts) = Has x s t × AllHave x (stands_behind s t) ts

-- how many refusals there are
abbrev pub halts : List Turn → ℕ
halts [] = 0
halts (t ∷ ts) = halts_in t.added.halt + halts ts

-- ---- the opening

abbrev pub greeting : Item
greeting = success (Number 2 ∷ Number 2 ∷ list [] ∷ list (Word (codes "edit-pipeline") ∷ Word (codes "depth") ∷ []) ∷ [])

-- a URL that names no place: its path is past the limits, or it is another
abbrev pub place_read : Result Url UrlFault → Result Url Refusal
place_read (Ok at) = Ok at
place_read (Err bad.TooLong) = Err refusal.TooLong
place_read (Err f) = Err refusal.BadPath

-- where a client's greeting places the session
abbrev pub place_of : Option Hello → Result Url Refusal
place_of None = Err refusal.BadShape
place_of (Some h) = place_read (url_read h.url)

abbrev pub place_in : Item → Result Url Refusal
place_in item = place_of (hello_in item)

-- behind what a client says of itself
abbrev pub behind_login : Url → Repository → Option Login → List Turn → List ℕ
behind_login at x None ts = refused refusal.BadShape
behind_login at x (Some l) ts = if is_anonymous l then spell done ++ (spell (welcome (identity_text x) at.0) ++ answers x (ready_at at) ts) else spell only_anonymous

abbrev pub asked_who : Url → Repository → List Turn → List ℕ
asked_who at x [] = []
asked_who at x (t ∷ ts) = behind_login at x (login_in t.item) ts

-- behind its greeting
abbrev pub behind_hello : Repository → Result Url Refusal → List Turn → List ℕ
behind_hello x (Err r) ts = refused r
behind_hello x (Ok at) ts = spell (mechanisms (identity_text x)) ++ asked_who at x ts

abbrev pub greeted : Repository → List Turn → List ℕ
greeted x [] = []
greeted x (t ∷ ts) = behind_hello x (place_in t.item) ts

-- all that is written where these turns were taken, the opening's two first
abbrev pub session : Repository → List Turn → List ℕ
session x ts = spell greeting ++ greeted x ts

-- those behind the opening
abbrev pub commands_of : List Turn → List Turn
commands_of [] = []
commands_of (h ∷ []) = []
commands_of (h ∷ (l ∷ ts)) = ts

-- the same behind the opening
abbrev pub LoginHas : Url → Repository → List Turn → Type 0
LoginHas at x [] = Unit {0}
LoginHas at x (l ∷ ts) = AllHave x (ready_at at) ts

abbrev pub HelloHas : Repository → Result Url Refusal → List Turn → Type 0
HelloHas x (Err r) ts = Unit {0}
HelloHas x (Ok at) ts = LoginHas at x ts

abbrev pub SessionHas : Repository → List Turn → Type 0
SessionHas x [] = Unit {0}
SessionHas x (t ∷ ts) = HelloHas x (place_in t.item) ts

-- none of these items ends the opening
abbrev pub goes_on : List Item → Bool
goes_on [] = true
goes_on (h ∷ []) = is_ok (place_in h)
goes_on (h ∷ (l ∷ xs)) = is_ok (place_in h) && logs_in (login_in l)

-- the last of these items ends it
abbrev pub ends_opening : List Item → Bool
ends_opening (h ∷ []) = not (is_ok (place_in h))
ends_opening (h ∷ (l ∷ [])) = is_ok (place_in h) && not (logs_in (login_in l))
ends_opening _ = false
