-- The exits of a reading session.
use Rattle.std.proofs.Common.{◌≡◌, ℕ, Bool, true, false, true≢false, not, ◌&&◌, List, [], ◌∷◌, ◌++◌, map, Option, Some, None, Result, Ok, Err, refl, sym, ap, subst, ◌∙◌, append_assoc, append-nil}
use Rattle.std.proofs.KnownBytes.{Appends-trans}
use Rattle.std.specs.Prelude.{IfOk, is_ok, if◌then◌else◌}
use Rattle.std.specs.Io.KnownBytes.{Appends}
use Rattle.std.specs.Option.{option_map}
use Rattle.uuid.specs.Text.{hyphenated_text, lower}
use Rattle.node_base.specs.declared.refusal.Refusal.{Refusal}
use Rattle.node_base.specs.declared.refusal.Refusal.TheVariants as refusal
use Rattle.ra_serve.specs.Answers.{refused}
use Rattle.ra_item.specs.Items.{Item, spell}
use Rattle.ra_item.specs.ItemStreams.{Takes, Stops, reader_of, is_spent, ahead}
use Rattle.ra_item.specs.declared.fault.NextFault.{NextFault}
use Rattle.ra_item.specs.declared.fault.NextFault.TheVariants as next
use Rattle.ra_item.specs.declared.stream.ItemStream.{ItemStream}
use Rattle.byte_streams.specs.Causes.{Counts}
use Rattle.repo_core.specs.Repository.{Repository}
use Rattle.ra_wire.specs.Openings.{Login, login_in}
use Rattle.ra_wire.specs.Replies.{mechanisms, welcome, done, only_anonymous}
use Rattle.browse_wire.specs.Urls.{Url}
use Rattle.ra_serve.specs.Sessions.{identity_text, is_anonymous, logs_in}
use Rattle.ra_serve.specs.Serving.{EndsAt, EndsBy, goes_on_login, ends_at_login}
use Rattle.ra_serve.specs.declared.fault.End as declared
use Rattle.ra_serve.specs.declared.fault.End.TheVariants as end
use Rattle.ra_serve.specs.declared.fault.ServeFault.{ServeFault}
use Rattle.ra_serve.proofs.Opening.{fault_alone}
use Rattle.ra_reader.specs.Standings.{ready_at}
use Rattle.ra_reader.specs.Sessions.{Turn, HelloHas, LoginHas, SessionHas, answers, behind_login, behind_hello, session, greeting, place_in, goes_on, ends_opening, commands_of}
use Rattle.ra_reader.specs.Serving.{BrowsesBy, behind_one, spelled_login}
use Rattle.ra_reader.proofs.Turning.{as_turn, one_before, ends_at_once}

-- an item of the opening, and then the rest
pub by_before : {P R W : Type 0} {g : _} (spelled spelled_rest : Repository → List Turn → List ℕ) (Has HasRest : Repository → List Turn → Type 0) (asked asked_rest : List Turn → List Turn) (stands over stands_rest over_rest : List Item → Bool) (repository : P → Option Repository) (refusals : P → ℕ) (remaining : R → Option (List ℕ)) (contents : W → Option (List ℕ)) (old new : P) (items amid items_now : ItemStream R g) (out mid : W) (result : Result (W × declared.End) ServeFault) (item : Item) (bytes : Repository → List ℕ)
    → ((x : Repository) (ts : List Turn) → spelled x (as_turn item ∷ ts) ≡ bytes x ++ spelled_rest x ts)
    → ((x : Repository) (ts : List Turn) → HasRest x ts → Has x (as_turn item ∷ ts))
    → ((ts : List Turn) → asked (as_turn item ∷ ts) ≡ asked_rest ts)
    → ((xs : List Item) → stands_rest xs ≡ true → stands (item ∷ xs) ≡ true)
    → ((xs : List Item) → over_rest xs ≡ true → over (item ∷ xs) ≡ true)
    → ((x : Repository) → repository old ≡ Some x → Appends (contents out) (contents mid) (bytes x))
    → Takes (item ∷ []) (remaining (reader_of items)) (remaining (reader_of amid)) (ahead items) (ahead amid)
    → is_spent amid ≡ false
    → IfOk result (λ r. BrowsesBy spelled_rest HasRest asked_rest stands_rest over_rest repository refusals remaining contents old new amid items_now mid r.0 r.1)
    → IfOk result (λ r. BrowsesBy spelled Has asked stands over repository refusals remaining contents old new items items_now out r.0 r.1)
by_before spelled spelled_rest Has HasRest asked asked_rest stands over stands_rest over_rest repository refusals remaining contents old new items amid items_now out mid (Err f) item bytes s v q h k a t p r = tt
by_before spelled spelled_rest Has HasRest asked asked_rest stands over stands_rest over_rest repository refusals remaining contents old new items amid items_now out mid (Ok w) item bytes s v q h k a t p r = λ x e.
    one_before (spelled x) (spelled_rest x) (Has x) (HasRest x) asked asked_rest stands over stands_rest over_rest (refusals old) (refusals new) (contents out) (contents mid) (contents w.0) (remaining (reader_of items)) (remaining (reader_of amid)) (remaining (reader_of items_now)) (ahead items) (ahead amid) (ahead items_now) (is_spent items) (is_spent amid) w.1 item (bytes x)
    (s x) (v x) q h k (a x e) t (λ l. cc) (r x e)

-- the opening ends, or the bytes do
pub by_end : {P R W : Type 0} {g : _} (spelled : Repository → List Turn → List ℕ) (Has : Repository → List Turn → Type 0) (asked : List Turn → List Turn) (stands over : List Item → Bool) (repository : P → Option Repository) (refusals : P → ℕ) (remaining : R → Option (List ℕ)) (contents : W → Option (List ℕ)) (old : P) (items items_now : ItemStream R g) (out now : W) (e : declared.End) (ts : List Turn)
    → ((x : Repository) → Has x ts)
    → asked ts ≡ []
    → ((x : Repository) → repository old ≡ Some x → Appends (contents out) (contents now) (spelled x ts))
    → EndsAt stands over (map (λ t. t.item) ts) (remaining (reader_of items)) (remaining (reader_of items_now)) (ahead items) (ahead items_now) (is_spent items) e
    → BrowsesBy spelled Has asked stands over repository refusals remaining contents old old items items_now out now e
by_end spelled Has asked stands over repository refusals remaining contents old items items_now out now e ts v q a k = λ x h.
    ends_at_once (spelled x) (Has x) asked stands over (refusals old) (contents out) (contents now) (remaining (reader_of items)) (remaining (reader_of items_now)) (ahead items) (ahead items_now) (is_spent items) e ts (v x) q (a x h) k

-- the stream is refused
pub by_fault : {P R W : Type 0} {g : _} (spelled : Repository → List Turn → List ℕ) (Has : Repository → List Turn → Type 0) (asked : List Turn → List Turn) (stands over : List Item → Bool) (repository : P → Option Repository) (refusals : P → ℕ) (remaining : R → Option (List ℕ)) (contents : W → Option (List ℕ)) (old : P) (items items_now : ItemStream R g) (out now : W) (result : Result (W × declared.End) ServeFault) (c : Counts) (f : NextFault)
    → IfOk result (λ r. (r.0 ≡ now) × EndsBy f r.1)
    → ((x : Repository) → Has x [])
    → asked [] ≡ []
    → stands [] ≡ true
    → ((x : Repository) → repository old ≡ Some x → Appends (contents out) (contents now) (spelled x []))
    → Stops [] (remaining (reader_of items)) (remaining (reader_of items_now)) (ahead items) (is_spent items) c f
    → IfOk result (λ r. BrowsesBy spelled Has asked stands over repository refusals remaining contents old old items items_now out r.0 r.1)
by_fault spelled Has asked stands over repository refusals remaining contents old items items_now out now (Err d) c f t v q s a k = tt
by_fault spelled Has asked stands over repository refusals remaining contents old items items_now out now (Ok w) c next.PeerFailed t v q s a k = absurd t.1
by_fault spelled Has asked stands over repository refusals remaining contents old items items_now out now (Ok w) c (next.Items f) t v q s a k =
    subst (λ e. BrowsesBy spelled Has asked stands over repository refusals remaining contents old old items items_now out w.0 e) (sym t.1.0)
    (subst (λ v. BrowsesBy spelled Has asked stands over repository refusals remaining contents old old items items_now out v (end.Items f)) (sym t.0)
    (by_end spelled Has asked stands over repository refusals remaining contents old items items_now out now (end.Items f) [] v q a (s, fault_alone [] (remaining (reader_of items)) (remaining (reader_of items_now)) (ahead items) (is_spent items) c f k, t.1.1)))

-- ---- the equations of an opening

-- a client that names a place
pub hello_said : (item : Item) (at : Url) → Ok at ≡ place_in item → (x : Repository) (ts : List Turn) → session x (as_turn item ∷ ts) ≡ spell greeting ++ spelled_login at x ts
hello_said item at e x ts = ap (λ r. spell greeting ++ behind_hello x r ts) (sym e)

pub hello_goes : (item : Item) (at : Url) → Ok at ≡ place_in item → (xs : List Item) → goes_on_login xs ≡ true → goes_on (item ∷ xs) ≡ true
hello_goes item at e [] k = ap is_ok (sym e)
hello_goes item at e (l ∷ xs) k = ap (λ r. is_ok r && logs_in (login_in l)) (sym e) ∙ k

pub hello_ends : (item : Item) (at : Url) → Ok at ≡ place_in item → (xs : List Item) → ends_at_login xs ≡ true → ends_opening (item ∷ xs) ≡ true
hello_ends item at e [] k = absurd (true≢false (sym k))
hello_ends item at e (l ∷ []) k = ap (λ r. is_ok r && not (logs_in (login_in l))) (sym e) ∙ k
hello_ends item at e (l ∷ (m ∷ xs)) k = absurd (true≢false (sym k))

pub hello_has : (item : Item) (at : Url) → Ok at ≡ place_in item → (x : Repository) (ts : List Turn) → LoginHas at x ts → SessionHas x (as_turn item ∷ ts)
hello_has item at e x ts h = subst (λ r. HelloHas x r ts) e h

pub hello_asked : (item : Item) (ts : List Turn) → commands_of (as_turn item ∷ ts) ≡ behind_one ts
hello_asked item [] = refl
hello_asked item (t ∷ ts) = refl

-- another client
pub hello_refused : (item : Item) (r : Refusal) (x : Repository) (a b c : Option (List ℕ)) → Err r ≡ place_in item → Appends a b (spell greeting) → Appends b c (refused r) → Appends a c (session x (as_turn item ∷ []))
hello_refused item r x a b c e p q = subst (Appends a c) (ap (λ s. spell greeting ++ behind_hello x s []) e) (Appends-trans a b c (spell greeting) (refused r) p q)

pub refused_has : (item : Item) (r : Refusal) → Err r ≡ place_in item → (x : Repository) → SessionHas x (as_turn item ∷ [])
refused_has item r e x = subst (λ s. HelloHas x s []) e tt

pub hello_over : (item : Item) (r : Refusal) → Err r ≡ place_in item → ends_opening (item ∷ []) ≡ true
hello_over item r e = ap (λ s. not (is_ok s)) (sym e)

pub greeted_only : (x : Repository) (a b : Option (List ℕ)) → Appends a b (spell greeting) → Appends a b (session x [])
greeted_only x a b p = subst (Appends a b) (sym (append-nil (spell greeting))) p

-- who a client is
abbrev known : Option Bool → Bool
known None = false
known (Some b) = b

abbrev is_there : {T : Type 0} → Option T → Bool
is_there None = false
is_there (Some x) = true

yes_of : (o : Option Login) → Some true ≡ option_map is_anonymous o → logs_in o ≡ true
yes_of None e = absurd (true≢false (ap is_there e))
yes_of (Some l) e = sym (ap known e)

no_of : (o : Option Login) → Some false ≡ option_map is_anonymous o → logs_in o ≡ false
no_of None e = refl
no_of (Some l) e = sym (ap known e)

said_yes : (at : Url) (o : Option Login) → Some true ≡ option_map is_anonymous o → (x : Repository) (ts : List Turn) → behind_login at x o ts ≡ (spell done ++ spell (welcome (identity_text x) at.0)) ++ answers x (ready_at at) ts
said_yes at None e x ts = absurd (true≢false (ap is_there e))
said_yes at (Some l) e x ts =
    ap (λ b. if b then spell done ++ (spell (welcome (identity_text x) at.0) ++ answers x (ready_at at) ts) else spell only_anonymous) (sym (ap known e))
    ∙ sym (append_assoc (spell done) (spell (welcome (identity_text x) at.0)) (answers x (ready_at at) ts))

pub login_said : (at : Url) (item : Item) → Some true ≡ option_map is_anonymous (login_in item) → (x : Repository) (ts : List Turn) → spelled_login at x (as_turn item ∷ ts) ≡ (spell (mechanisms (identity_text x)) ++ (spell done ++ spell (welcome (identity_text x) at.0))) ++ answers x (ready_at at) ts
login_said at item e x ts =
    ap (λ r. spell (mechanisms (identity_text x)) ++ r) (said_yes at (login_in item) e x ts)
    ∙ sym (append_assoc (spell (mechanisms (identity_text x))) (spell done ++ spell (welcome (identity_text x) at.0)) (answers x (ready_at at) ts))

pub login_goes : (item : Item) → Some true ≡ option_map is_anonymous (login_in item) → (xs : List Item) → goes_on_login (item ∷ xs) ≡ true
login_goes item e xs = yes_of (login_in item) e

pub login_bytes : (root : List ℕ) (x : Repository) (id : List ℕ) (a b c : Option (List ℕ)) → id ≡ x.identity → Appends a b (spell (mechanisms (hyphenated_text lower id))) → Appends b c (spell done ++ spell (welcome (hyphenated_text lower id) root)) → Appends a c (spell (mechanisms (identity_text x)) ++ (spell done ++ spell (welcome (identity_text x) root)))
login_bytes root x id a b c e p q = subst (λ i. Appends a c (spell (mechanisms (hyphenated_text lower i)) ++ (spell done ++ spell (welcome (hyphenated_text lower i) root)))) e (Appends-trans a b c (spell (mechanisms (hyphenated_text lower id))) (spell done ++ spell (welcome (hyphenated_text lower id) root)) p q)

pub asked_only : (at : Url) (x : Repository) (id : List ℕ) (a b : Option (List ℕ)) → id ≡ x.identity → Appends a b (spell (mechanisms (hyphenated_text lower id))) → Appends a b (spelled_login at x [])
asked_only at x id a b e p = subst (Appends a b) (ap (λ i. spell (mechanisms (hyphenated_text lower i))) e ∙ sym (append-nil (spell (mechanisms (identity_text x))))) p

said_no : (at : Url) (o : Option Login) → Some false ≡ option_map is_anonymous o → (x : Repository) → behind_login at x o [] ≡ spell only_anonymous
said_no at None e x = absurd (true≢false (ap is_there e))
said_no at (Some l) e x = ap (λ b. if b then spell done ++ (spell (welcome (identity_text x) at.0) ++ []) else spell only_anonymous) (sym (ap known e))

said_nothing : (at : Url) (o : Option Login) → None ≡ option_map is_anonymous o → (x : Repository) → behind_login at x o [] ≡ refused refusal.BadShape
said_nothing at None e x = refl
said_nothing at (Some l) e x = absurd (true≢false (sym (ap is_there e)))

said_bytes : (at : Url) (item : Item) (bytes : List ℕ) (x : Repository) (id : List ℕ) (a b c : Option (List ℕ)) → id ≡ x.identity → behind_login at x (login_in item) [] ≡ bytes → Appends a b (spell (mechanisms (hyphenated_text lower id))) → Appends b c bytes → Appends a c (spelled_login at x (as_turn item ∷ []))
said_bytes at item bytes x id a b c e k p q =
    subst (Appends a c) (ap (λ i. spell (mechanisms (hyphenated_text lower i)) ++ bytes) e ∙ ap (λ r. spell (mechanisms (identity_text x)) ++ r) (sym k)) (Appends-trans a b c (spell (mechanisms (hyphenated_text lower id))) bytes p q)

pub other_bytes : (at : Url) (item : Item) (x : Repository) (id : List ℕ) (a b c : Option (List ℕ)) → Some false ≡ option_map is_anonymous (login_in item) → id ≡ x.identity → Appends a b (spell (mechanisms (hyphenated_text lower id))) → Appends b c (spell only_anonymous) → Appends a c (spelled_login at x (as_turn item ∷ []))
other_bytes at item x id a b c o e p q = said_bytes at item (spell only_anonymous) x id a b c e (said_no at (login_in item) o x) p q

pub none_bytes : (at : Url) (item : Item) (x : Repository) (id : List ℕ) (a b c : Option (List ℕ)) → None ≡ option_map is_anonymous (login_in item) → id ≡ x.identity → Appends a b (spell (mechanisms (hyphenated_text lower id))) → Appends b c (refused refusal.BadShape) → Appends a c (spelled_login at x (as_turn item ∷ []))
none_bytes at item x id a b c o e p q = said_bytes at item (refused refusal.BadShape) x id a b c e (said_nothing at (login_in item) o x) p q

nobody : (o : Option Login) → None ≡ option_map is_anonymous o → logs_in o ≡ false
nobody None e = refl
nobody (Some l) e = absurd (true≢false (sym (ap is_there e)))

pub other_over : (item : Item) → Some false ≡ option_map is_anonymous (login_in item) → ends_at_login (item ∷ []) ≡ true
other_over item e = ap not (no_of (login_in item) e)

pub none_over : (item : Item) → None ≡ option_map is_anonymous (login_in item) → ends_at_login (item ∷ []) ≡ true
none_over item e = ap not (nobody (login_in item) e)
