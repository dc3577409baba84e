-- The exits of a session.
use Rattle.std.proofs.Common.{◌≡◌, ◌≢◌, ◌≤◌, ℕ, Bool, true, false, true≢false, not, ◌&&◌, List, [], ◌∷◌, ◌++◌, map, Option, Some, None, Result, Ok, Err, refl, sym, ap, subst, ◌∙◌, append_assoc, append-nil}
use Rattle.std.proofs.KnownBytes.{Appends-trans}
use Rattle.std.specs.Prelude.{IfOk, IfErr, is_some, is_none, if◌then◌else◌}
use Rattle.std.specs.Io.KnownBytes.{Appends}
use Rattle.std.specs.Option.{option_map}
use Rattle.uuid.specs.Text.{hyphenated_text, lower}
use Rattle.node_base.specs.declared.refusal.Refusal.TheVariants as refusal
use Rattle.ra_serve.specs.Answers.{refused}
use Rattle.ra_item.specs.Items.{Item, spell}
use Rattle.ra_item.specs.ItemStreams.{Takes, Stops, reader_of, is_spent, ahead}
use Rattle.ra_item.specs.declared.fault.ItemFault.{ItemFault}
use Rattle.ra_item.specs.declared.fault.ItemFault.TheVariants as fault
use Rattle.ra_item.specs.declared.fault.NextFault.{NextFault}
use Rattle.ra_item.specs.declared.fault.NextFault.TheVariants as next
use Rattle.ra_item.specs.declared.stream.ItemStream.{ItemStream}
use Rattle.ra_item.proofs.Streaming.{fails_since}
use Rattle.byte_streams.specs.Causes.{Counts, Fails}
use Rattle.repo_core.specs.Repository.{Repository}
use Rattle.ra_wire.specs.Openings.{Hello, Login, hello_in, login_in}
use Rattle.ra_wire.specs.Replies.{greeting, mechanisms, welcome, done, only_anonymous}
use Rattle.ra_serve.specs.Sessions.{Turn, answers, behind_login, behind_hello, session, identity_text, is_anonymous, logs_in, goes_on, ends_opening, commands_of}
use Rattle.ra_serve.specs.Serving.{ServesBy, EndsAt, EndsBy, HasFault, behind_one, goes_on_login, ends_at_login, spelled_login}
use Rattle.ra_serve.specs.declared.fault.End as declared
use Rattle.ra_serve.specs.declared.fault.End.TheVariants as end
use Rattle.ra_serve.specs.declared.fault.ServeFault.{ServeFault}
use Rattle.ra_serve.specs.declared.fault.ServeFault.TheVariants as serve
use Rattle.ra_item.specs.Streams.{Stream}
use Rattle.ra_serve.proofs.Turning.{as_turn, one_before, ends_at_once}

-- an item of the opening, and then the rest
pub by_before : {P R W : Type 0} {g : _} (spelled spelled_rest : Bool → Repository → List Turn → List ℕ) (asked asked_rest : List Turn → List Turn) (stands over stands_rest over_rest : List Item → Bool) (repository : P → Option Repository) (refusals : P → ℕ) (is_mirror : P → Bool) (remaining : R → Option (List ℕ)) (contents : W → Option (List ℕ)) (old new : P) (items amid items_now : ItemStream R g) (out mid : W) (result : Result (W × declared.End) ServeFault) (item : Item) (bytes : Repository → List ℕ)
    → ((mirror : Bool) (x : Repository) (ts : List Turn) → spelled mirror x (as_turn item ∷ ts) ≡ bytes x ++ spelled_rest mirror x ts)
    → ((ts : List Turn) → asked (as_turn item ∷ ts) ≡ asked_rest ts)
    → ((xs : List Item) → stands_rest xs ≡ true → stands (item ∷ xs) ≡ true)
    → ((xs : List Item) → over_rest xs ≡ true → over (item ∷ xs) ≡ true)
    → ((x : Repository) → repository old ≡ Some x → Appends (contents out) (contents mid) (bytes x))
    → Takes (item ∷ []) (remaining (reader_of items)) (remaining (reader_of amid)) (ahead items) (ahead amid)
    → is_spent amid ≡ false
    → IfOk result (λ r. ServesBy spelled_rest asked_rest stands_rest over_rest repository refusals is_mirror remaining contents old new amid items_now mid r.0 r.1)
    → IfOk result (λ r. ServesBy spelled asked stands over repository refusals is_mirror remaining contents old new items items_now out r.0 r.1)
by_before spelled spelled_rest asked asked_rest stands over stands_rest over_rest repository refusals is_mirror remaining contents old new items amid items_now out mid (Err f) item bytes s q h k a t p r = tt
by_before spelled spelled_rest asked asked_rest stands over stands_rest over_rest repository refusals is_mirror remaining contents old new items amid items_now out mid (Ok w) item bytes s q h k a t p r = λ x e.
    one_before (spelled (is_mirror old)) (spelled_rest (is_mirror old)) asked asked_rest stands over stands_rest over_rest (is_mirror old) x (refusals old) (refusals new) (contents out) (contents mid) (contents w.0) (repository new) (remaining (reader_of items)) (remaining (reader_of amid)) (remaining (reader_of items_now)) (ahead items) (ahead amid) (ahead items_now) (is_spent items) (is_spent amid) w.1 item (bytes x)
    (s (is_mirror old) x) q h k (a x e) t (λ l. cc) (r x e)

-- the opening ends, or the bytes do
pub by_end : {P R W : Type 0} {g : _} (spelled : Bool → Repository → List Turn → List ℕ) (asked : List Turn → List Turn) (stands over : List Item → Bool) (repository : P → Option Repository) (refusals : P → ℕ) (is_mirror : P → Bool) (remaining : R → Option (List ℕ)) (contents : W → Option (List ℕ)) (old : P) (items items_now : ItemStream R g) (out now : W) (e : declared.End) (ts : List Turn)
    → asked ts ≡ []
    → ((x : Repository) → repository old ≡ Some x → Appends (contents out) (contents now) (spelled (is_mirror old) x ts))
    → EndsAt stands over (map (λ t. t.item) ts) (remaining (reader_of items)) (remaining (reader_of items_now)) (ahead items) (ahead items_now) (is_spent items) e
    → ServesBy spelled asked stands over repository refusals is_mirror remaining contents old old items items_now out now e
by_end spelled asked stands over repository refusals is_mirror remaining contents old items items_now out now e ts q a k = λ x h.
    ends_at_once (spelled (is_mirror old)) asked stands over (is_mirror old) x (refusals old) (contents out) (contents now) (repository old) (remaining (reader_of items)) (remaining (reader_of items_now)) (ahead items) (ahead items_now) (is_spent items) e ts q (a x h) h k

-- a fault of the bytes has no failure of the reader as its cause
pub fault_alone : (xs : List Item) (a b : Option (List ℕ)) (s : List ℕ → Stream) (spent : Bool) (c : Counts) (f : ItemFault) → Stops xs a b s spent c (next.Items f) → HasFault xs a b s spent f
fault_alone xs a b s spent c fault.Truncated h = h
fault_alone xs a b s spent c fault.TooLong h = h
fault_alone xs a b s spent c fault.BadItem h = h
fault_alone xs a b s spent c fault.TooDeep h = h
fault_alone xs a b s spent c fault.Failed h = h
fault_alone xs a b s spent c fault.OutOfMemory h = h

-- the stream is refused
pub by_fault : {P R W : Type 0} {g : _} (spelled : Bool → Repository → List Turn → List ℕ) (asked : List Turn → List Turn) (stands over : List Item → Bool) (repository : P → Option Repository) (refusals : P → ℕ) (is_mirror : P → Bool) (remaining : R → Option (List ℕ)) (contents : W → Option (List ℕ)) (old : P) (items items_now : ItemStream R g) (out now : W) (result : Result (W × declared.End) ServeFault) (c : Counts) (f : NextFault)
    → IfOk result (λ r. (r.0 ≡ now) × EndsBy f r.1)
    → asked [] ≡ []
    → stands [] ≡ true
    → ((x : Repository) → repository old ≡ Some x → Appends (contents out) (contents now) (spelled (is_mirror old) x []))
    → Stops [] (remaining (reader_of items)) (remaining (reader_of items_now)) (ahead items) (is_spent items) c f
    → IfOk result (λ r. ServesBy spelled asked stands over repository refusals is_mirror remaining contents old old items items_now out r.0 r.1)
by_fault spelled asked stands over repository refusals is_mirror remaining contents old items items_now out now (Err d) c f t q s a k = tt
by_fault spelled asked stands over repository refusals is_mirror remaining contents old items items_now out now (Ok w) c next.PeerFailed t q s a k = absurd t.1
by_fault spelled asked stands over repository refusals is_mirror remaining contents old items items_now out now (Ok w) c (next.Items f) t q s a k =
    subst (λ e. ServesBy spelled asked stands over repository refusals is_mirror remaining contents old old items items_now out w.0 e) (sym t.1.0)
    (subst (λ v. ServesBy spelled asked stands over repository refusals is_mirror remaining contents old old items items_now out v (end.Items f)) (sym t.0)
    (by_end spelled asked stands over repository refusals is_mirror remaining contents old items items_now out now (end.Items f) [] q a (s, fault_alone [] (remaining (reader_of items)) (remaining (reader_of items_now)) (ahead items) (is_spent items) c f k, t.1.1)))

-- ---- the equations of an opening

-- a client of version 2
hello_said_of : (url : List ℕ) (o : Option Hello) → true ≡ is_some o → (mirror : Bool) (x : Repository) (ts : List Turn) → behind_hello url mirror x o ts ≡ spelled_login url mirror x ts
hello_said_of url None e mirror x ts = absurd (true≢false e)
hello_said_of url (Some h) e mirror x ts = refl

pub hello_said : (url : List ℕ) (item : Item) → true ≡ is_some (hello_in item) → (mirror : Bool) (x : Repository) (ts : List Turn) → session url mirror x (as_turn item ∷ ts) ≡ spell greeting ++ spelled_login url mirror x ts
hello_said url item e mirror x ts = ap (λ l. spell greeting ++ l) (hello_said_of url (hello_in item) e mirror x ts)

pub hello_goes : (item : Item) → true ≡ is_some (hello_in item) → (xs : List Item) → goes_on_login xs ≡ true → goes_on (item ∷ xs) ≡ true
hello_goes item e [] k = sym e
hello_goes item e (l ∷ xs) k = ap (λ b. b && logs_in (login_in l)) (sym e) ∙ k

pub hello_ends : (item : Item) → true ≡ is_some (hello_in item) → (xs : List Item) → ends_at_login xs ≡ true → ends_opening (item ∷ xs) ≡ true
hello_ends item e [] k = absurd (true≢false (sym k))
hello_ends item e (l ∷ []) k = ap (λ b. b && not (logs_in (login_in l))) (sym e) ∙ k
hello_ends item e (l ∷ (m ∷ xs)) k = absurd (true≢false (sym k))

pub hello_asked : (item : Item) (ts : List Turn) → commands_of (as_turn item ∷ ts) ≡ behind_one ts
hello_asked item [] = refl
hello_asked item (t ∷ ts) = refl

-- another client
bad_hello : (url : List ℕ) (o : Option Hello) → false ≡ is_some o → (mirror : Bool) (x : Repository) → behind_hello url mirror x o [] ≡ refused refusal.BadShape
bad_hello url None e mirror x = refl
bad_hello url (Some h) e mirror x = absurd (true≢false (sym e))

pub hello_refused : (url : List ℕ) (item : Item) (mirror : Bool) (x : Repository) (a b c : Option (List ℕ)) → false ≡ is_some (hello_in item) → Appends a b (spell greeting) → Appends b c (refused refusal.BadShape) → Appends a c (session url mirror x (as_turn item ∷ []))
hello_refused url item mirror x a b c e p q = subst (Appends a c) (ap (λ l. spell greeting ++ l) (sym (bad_hello url (hello_in item) e mirror x))) (Appends-trans a b c (spell greeting) (refused refusal.BadShape) p q)

none_of : (o : Option Hello) → false ≡ is_some o → is_none o ≡ true
none_of None e = refl
none_of (Some h) e = absurd (true≢false (sym e))

pub hello_over : (item : Item) → false ≡ is_some (hello_in item) → ends_opening (item ∷ []) ≡ true
hello_over item e = none_of (hello_in item) e

pub greeted_only : (url : List ℕ) (mirror : Bool) (x : Repository) (a b : Option (List ℕ)) → Appends a b (spell greeting) → Appends a b (session url mirror x [])
greeted_only url mirror x a b p = subst (Appends a b) (sym (append-nil (spell greeting))) p

-- who a client is
abbrev known : Option Bool → Bool
known None = false
known (Some b) = b

abbrev is_there : {T : Type 0} → Option T → Bool
is_there None = false
is_there (Some x) = true

yes_of : (o : Option Login) → Some true ≡ option_map is_anonymous o → logs_in o ≡ true
yes_of None e = absurd (true≢false (ap is_there e))
yes_of (Some l) e = sym (ap known e)

no_of : (b : Bool) (o : Option Login) → b ≡ false → Some b ≡ option_map is_anonymous o → logs_in o ≡ false
no_of b None k e = refl
no_of b (Some l) k e = sym (ap known e) ∙ k

said_yes : (url : List ℕ) (o : Option Login) → Some true ≡ option_map is_anonymous o → (mirror : Bool) (x : Repository) (ts : List Turn) → behind_login url mirror x o ts ≡ (spell done ++ spell (welcome (identity_text x) url)) ++ answers mirror x ts
said_yes url None e mirror x ts = absurd (true≢false (ap is_there e))
said_yes url (Some l) e mirror x ts =
    ap (λ b. if b then spell done ++ (spell (welcome (identity_text x) url) ++ answers mirror x ts) else spell only_anonymous) (sym (ap known e))
    ∙ sym (append_assoc (spell done) (spell (welcome (identity_text x) url)) (answers mirror x ts))

pub login_said : (url : List ℕ) (item : Item) → Some true ≡ option_map is_anonymous (login_in item) → (mirror : Bool) (x : Repository) (ts : List Turn) → spelled_login url mirror x (as_turn item ∷ ts) ≡ (spell (mechanisms (identity_text x)) ++ (spell done ++ spell (welcome (identity_text x) url))) ++ answers mirror x ts
login_said url item e mirror x ts =
    ap (λ r. spell (mechanisms (identity_text x)) ++ r) (said_yes url (login_in item) e mirror x ts)
    ∙ sym (append_assoc (spell (mechanisms (identity_text x))) (spell done ++ spell (welcome (identity_text x) url)) (answers mirror x ts))

pub login_goes : (item : Item) → Some true ≡ option_map is_anonymous (login_in item) → (xs : List Item) → goes_on_login (item ∷ xs) ≡ true
login_goes item e xs = yes_of (login_in item) e

pub login_bytes : (url : List ℕ) (x : Repository) (id : List ℕ) (a b c : Option (List ℕ)) → id ≡ x.identity → Appends a b (spell (mechanisms (hyphenated_text lower id))) → Appends b c (spell done ++ spell (welcome (hyphenated_text lower id) url)) → Appends a c (spell (mechanisms (identity_text x)) ++ (spell done ++ spell (welcome (identity_text x) url)))
login_bytes url x id a b c e p q = subst (λ i. Appends a c (spell (mechanisms (hyphenated_text lower i)) ++ (spell done ++ spell (welcome (hyphenated_text lower i) url)))) e (Appends-trans a b c (spell (mechanisms (hyphenated_text lower id))) (spell done ++ spell (welcome (hyphenated_text lower id) url)) p q)

pub asked_only : (url : List ℕ) (mirror : Bool) (x : Repository) (id : List ℕ) (a b : Option (List ℕ)) → id ≡ x.identity → Appends a b (spell (mechanisms (hyphenated_text lower id))) → Appends a b (spelled_login url mirror x [])
asked_only url mirror x id a b e p = subst (Appends a b) (ap (λ i. spell (mechanisms (hyphenated_text lower i))) e ∙ sym (append-nil (spell (mechanisms (identity_text x))))) p

said_no : (url : List ℕ) (o : Option Login) → Some false ≡ option_map is_anonymous o → (mirror : Bool) (x : Repository) → behind_login url mirror x o [] ≡ spell only_anonymous
said_no url None e mirror x = absurd (true≢false (ap is_there e))
said_no url (Some l) e mirror x = ap (λ b. if b then spell done ++ (spell (welcome (identity_text x) url) ++ []) else spell only_anonymous) (sym (ap known e))

said_nothing : (url : List ℕ) (o : Option Login) → None ≡ option_map is_anonymous o → (mirror : Bool) (x : Repository) → behind_login url mirror x o [] ≡ refused refusal.BadShape
said_nothing url None e mirror x = refl
said_nothing url (Some l) e mirror x = absurd (true≢false (sym (ap is_there e)))

said_bytes : (url : List ℕ) (item : Item) (bytes : List ℕ) (mirror : Bool) (x : Repository) (id : List ℕ) (a b c : Option (List ℕ)) → id ≡ x.identity → behind_login url mirror x (login_in item) [] ≡ bytes → Appends a b (spell (mechanisms (hyphenated_text lower id))) → Appends b c bytes → Appends a c (spelled_login url mirror x (as_turn item ∷ []))
said_bytes url item bytes mirror x id a b c e k p q =
    subst (Appends a c) (ap (λ i. spell (mechanisms (hyphenated_text lower i)) ++ bytes) e ∙ ap (λ r. spell (mechanisms (identity_text x)) ++ r) (sym k)) (Appends-trans a b c (spell (mechanisms (hyphenated_text lower id))) bytes p q)

pub other_bytes : (url : List ℕ) (item : Item) (mirror : Bool) (x : Repository) (id : List ℕ) (a b c : Option (List ℕ)) → Some false ≡ option_map is_anonymous (login_in item) → id ≡ x.identity → Appends a b (spell (mechanisms (hyphenated_text lower id))) → Appends b c (spell only_anonymous) → Appends a c (spelled_login url mirror x (as_turn item ∷ []))
other_bytes url item mirror x id a b c o e p q = said_bytes url item (spell only_anonymous) mirror x id a b c e (said_no url (login_in item) o mirror x) p q

pub none_bytes : (url : List ℕ) (item : Item) (mirror : Bool) (x : Repository) (id : List ℕ) (a b c : Option (List ℕ)) → None ≡ option_map is_anonymous (login_in item) → id ≡ x.identity → Appends a b (spell (mechanisms (hyphenated_text lower id))) → Appends b c (refused refusal.BadShape) → Appends a c (spelled_login url mirror x (as_turn item ∷ []))
none_bytes url item mirror x id a b c o e p q = said_bytes url item (refused refusal.BadShape) mirror x id a b c e (said_nothing url (login_in item) o mirror x) p q

nobody : (o : Option Login) → None ≡ option_map is_anonymous o → logs_in o ≡ false
nobody None e = refl
nobody (Some l) e = absurd (true≢false (sym (ap is_there e)))

pub other_over : (item : Item) → Some false ≡ option_map is_anonymous (login_in item) → ends_at_login (item ∷ []) ≡ true
other_over item e = ap not (no_of false (login_in item) refl e)

pub none_over : (item : Item) → None ≡ option_map is_anonymous (login_in item) → ends_at_login (item ∷ []) ≡ true
none_over item e = ap not (nobody (login_in item) e)

-- ---- a refusal of the stream

pub by_ended : {W : Type 0} (result : Result (W × declared.End) ServeFault) (now : W) (f : NextFault) (S : W → declared.End → Type 0) → IfOk result (λ r. (r.0 ≡ now) × EndsBy f r.1) → ((g : ItemFault) → f ≡ next.Items g → g ≢ fault.OutOfMemory → S now (end.Items g)) → IfOk result (λ r. S r.0 r.1)
by_ended (Err d) now f S t s = tt
by_ended (Ok w) now next.PeerFailed S t s = absurd t.1
by_ended (Ok w) now (next.Items g) S t s = subst (λ e. S w.0 e) (sym t.1.0) (subst (λ v. S v (end.Items g)) (sym t.0) (s g refl t.1.1))

read_failed : (f : NextFault) (a b : Option (List ℕ)) (s : List ℕ → Stream) (spent : Bool) (c : Counts) → Stops [] a b s spent c f → f ≡ next.PeerFailed → Fails c
read_failed f a b s spent c k e = subst (Stops [] a b s spent c) e k

pub reader_told : {T : Type 0} (result : Result T ServeFault) (f : NextFault) (a b : Option (List ℕ)) (s : List ℕ → Stream) (spent : Bool) (c : Counts) → Stops [] a b s spent c f → IfErr result (λ d. d ≡ serve.ReadFailed → f ≡ next.PeerFailed) → IfErr result (λ d. d ≡ serve.ReadFailed → Fails c)
reader_told (Ok w) f a b s spent c k h = tt
reader_told (Err d) f a b s spent c k h = λ e. read_failed f a b s spent c k (h e)

-- the same behind items that were taken before
pub reader_later : {T : Type 0} (result : Result T ServeFault) (a b c r : ℕ) → a ≤ b → IfErr result (λ d. d ≡ serve.ReadFailed → Fails (record { before = b; now = c; reads = r })) → IfErr result (λ d. d ≡ serve.ReadFailed → Fails (record { before = a; now = c; reads = r }))
reader_later (Ok w) a b c r h k = tt
reader_later (Err d) a b c r h k = λ e. fails_since a b c r h (k e)
