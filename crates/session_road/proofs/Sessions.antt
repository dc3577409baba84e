-- What a session in memory writes, and what is heard of it.
use Rattle.std.proofs.Common.{◌≡◌, ℕ, ◌-◌, ◌≤◌, ◌<◌, Bool, true, List, [], ◌∷◌, ◌++◌, map, length, take, Option, Some, None, Result, Ok, Err, refl, sym, ap, subst, ◌∙◌, append_assoc, arith}
use Rattle.std.proofs.lemmas.List.{append-nil}
use Rattle.std.specs.Prelude.{IfOk, IsSomeAnd, MatchResult, slice_get, if◌then◌else◌}
use Rattle.std.specs.Option.{option_map, option_map_or}
use Rattle.std.specs.List.{AllByRecursion}
use Rattle.std.specs.FinMap as finite
use Rattle.std.specs.Io.KnownBytes.{Consumes, IsAtEnd}
use Rattle.uuid.proofs.TextLemmas.{by_index_length}
use Rattle.uuid.specs.Text.{hyphenated_text, lower, parsed, parsed_hyphenated, hyphen, hex_digit, nibble, is_hyphen_place, digit_place}
use Rattle.byte_streams.specs.declared.input.Input.{Ghosts as InputGhosts}
use Rattle.byte_streams.specs.declared.output.Output.{Ghosts as OutputGhosts}
use Rattle.byte_streams.specs.declared.sink.Sink.{Sink}
use Rattle.node_base.specs.Path.{Path}
use Rattle.node_base.specs.Props.{PropMap}
use Rattle.node_base.specs.Tree.{PathMap}
use Rattle.dump_load.specs.declared.change.Change.{Change}
use Rattle.dump_load.specs.declared.load.Applied.{Applied}
use Rattle.dump_load.specs.Effect.{effect}
use Rattle.dump_load.specs.Trees.{Makes}
use Rattle.dump_load.proofs.EffectTrees.{effect_tree_is}
use Rattle.repo_core.specs.Repository.{Repository, Revision, trees_of, tree_at, head_of, props_at}
use Rattle.ra_item.specs.Items.{Item, Within, row, spell, spell_all}
use Rattle.ra_item.specs.Laws.{WrittenIsRead}
use Rattle.ra_item.specs.Streams.{Stream, Reads, stream_of, items_of}
use Rattle.ra_item.specs.ItemStreams.{Ends, ahead, behind, reader_of}
use Rattle.ra_item.specs.declared.stream.ItemStream.{ItemStream}
use Rattle.edit_road.specs.Sent.{MayBeSent}
use Rattle.ra_edit.specs.EditLaws.{IsBefore, WrittenIsTaken, WrittenComes}
use Rattle.ra_edit.proofs.WrittenReceived.{written_stream}
use Rattle.ra_wire.specs.Commands.{Command, LatestRev, RevProplist, ReplayRange}
use Rattle.ra_wire.specs.Reading.{command_in}
use Rattle.ra_wire.specs.Replies.{authorised, done, greeting, mechanisms, welcome}
use Rattle.ra_wire.specs.Requests.{hello, anonymous, command_item}
use Rattle.ra_serve.specs.Answers.{Halt, MayHaltAt, answer, refused, edits}
use Rattle.ra_serve.specs.Ports.{IsOwn, refusal_of, set_of}
use Rattle.ra_serve.proofs.Ranges.{is_there}
use Rattle.ra_serve.specs.Sessions.{Turn, AllMayHalt, commands_of, identity_text, session, goes_on, ends_opening}
use Rattle.ra_serve.specs.Serving.{Serves, EndsAt}
use Rattle.ra_serve.specs.declared.fault.End.{End}
use Rattle.ra_serve.specs.declared.fault.End.TheVariants as end
use Rattle.ra_serve.specs.declared.fault.PortFault.{PortFault}
use Rattle.ra_client.specs.Exchanges.{Asks, AsksLatest, AsksProps, AsksRevision, TakesRevision, Opens, IsGreeted, IsWelcomed, IsKnown, LogsIn}
use Rattle.ra_client.specs.Ports.{Calls, Asked, Over, IsOpening, ends_of}
use Rattle.ra_client.specs.Said.{Repository as Found, Reply, never, same, authorised_said, done_said, number_said, proplist_said, proplist_past, revprops_said, revprops_past, greeting_said, asks_said, welcome_said}
use Rattle.ra_client.specs.Steps.{Stopped, Went, TakesItem, TakesWithin, OfItem, OfEnd, OfStream}
use Rattle.ra_client.specs.Telling.{IsRevisionMade, IsToCome, HearsNumber, HearsProps, HearsRevision, proplist_told, revision_told}
use Rattle.ra_client.specs.declared.fault.ClientFault.{ClientFault}
use Rattle.ra_client.specs.declared.port.ClientPort.{ClientPort}
use Rattle.ra_client.proofs.Identities.{hyphenated_alone}
use Rattle.ra_client.proofs.Carried.{carry_item, to_come_behind, authorised_fits, done_fits}
use Rattle.sync_job.specs.Alone.{ArePropsIn, IsSetIn}
use Rattle.session_road.specs.Told.{MayBeHeard, ServerTells}
use Rattle.session_road.specs.Served.{asked_url, words_for, opening_told, IsSession, IsOpenBefore, IsAsked}
use Rattle.session_road.proofs.Fits.{hello_fits, anonymous_fits, greeting_fits, mechanisms_fits, welcome_fits, refusal_item, refusal_fits}

-- ---- what was read of the client

whole : (all bytes : List ℕ) (after : Option (List ℕ)) → Consumes (Some all) after bytes → IsAtEnd after → bytes ≡ all
whole all bytes None c h = absurd c
whole all bytes (Some zs) c h = sym (c ∙ ap (λ z. bytes ++ z) h ∙ append-nil bytes)

items_are : WrittenIsRead → (xs ys : List Item) (all : List ℕ) (after : Option (List ℕ)) (was : List ℕ → Stream) → AllByRecursion Within xs → all ≡ spell_all (row xs) → ((b : List ℕ) → was b ≡ stream_of b) → Ends ys true (Some all) after was → ys ≡ xs
items_are law xs ys all after was fit is fresh e =
    let b : e.bytes ≡ all = whole all e.bytes after e.consumed e.end in
    let s : Reads ys e.last ≡ behind xs (stream_of []) = sym e.items ∙ fresh e.bytes ∙ ap stream_of (b ∙ is ∙ sym (append-nil (spell_all (row xs)))) ∙ written_stream law xs [] fit in
    ap items_of s ∙ append-nil xs

-- the turns of a session with one question
told_by : (x : Repository) (c : Command) (h l q : Turn) → h.item ≡ hello asked_url → l.item ≡ anonymous → q.item ≡ command_item c → session asked_url true x (h ∷ l ∷ q ∷ []) ≡ opening_told x ++ answer true x (command_in (command_item c)) q.halt
told_by x c h l q eh el eq =
    let id = identity_text x in
    let a = answer true x (command_in (command_item c)) q.halt in
    rw (eh, el, eq)
    (ap (λ z. spell greeting ++ (spell (mechanisms id) ++ (spell done ++ (spell (welcome id asked_url) ++ z)))) (append-nil a)
    ∙ ap (λ z. spell greeting ++ (spell (mechanisms id) ++ z)) (sym (append_assoc (spell done) (spell (welcome id asked_url)) a))
    ∙ ap (λ z. spell greeting ++ z) (sym (append_assoc (spell (mechanisms id)) (spell done ++ spell (welcome id asked_url)) a))
    ∙ sym (append_assoc (spell greeting) (spell (mechanisms id) ++ (spell done ++ spell (welcome id asked_url))) a))

session_of : (x : Repository) (c : Command) (ts : List Turn) (out : List ℕ) → map (λ t. t.item) ts ≡ hello asked_url ∷ anonymous ∷ command_item c ∷ [] → AllMayHalt true x (commands_of ts) → out ≡ session asked_url true x ts → IsSession x c out
session_of x c [] out e l o = cc
session_of x c (h ∷ []) out e l o = cc
session_of x c (h ∷ k ∷ []) out e l o = cc
session_of x c (h ∷ k ∷ q ∷ []) out e l o =
    let eh : h.item ≡ hello asked_url = cc in
    let el : k.item ≡ anonymous = cc in
    let eq : q.item ≡ command_item c = cc in
    record { halt = q.halt; lawful = subst (λ i. MayHaltAt true x (command_in i) q.halt) eq l.0; bytes_are = o ∙ told_by x c h k q eh el eq }
session_of x c (h ∷ k ∷ q ∷ r ∷ ts) out e l o = cc

pub session_is : WrittenIsRead → (x : Repository) (c : Command) → Within (command_item c) → (ts : List Turn) (all out : List ℕ) (after : Option (List ℕ)) (was : List ℕ → Stream) → all ≡ words_for c → ((b : List ℕ) → was b ≡ stream_of b) → AllMayHalt true x (commands_of ts) → out ≡ session asked_url true x ts → Ends (map (λ t. t.item) ts) true (Some all) after was → IsSession x c out
session_is law x c fit ts all out after was is fresh lawful bytes e = session_of x c ts out (items_are law (hello asked_url ∷ anonymous ∷ command_item c ∷ []) (map (λ t. t.item) ts) all after was (hello_fits, (anonymous_fits, (fit, tt))) is fresh e) lawful bytes

-- the same of a session that ended where its client's words do
pub session_heard : WrittenIsRead → (x : Repository) (c : Command) → Within (command_item c) → (e : End) → e ≡ end.Input → (all out told : List ℕ) (before after : Option (List ℕ)) (was is : List ℕ → Stream) (spent : Bool) (counted counted_now : ℕ) (new : Option Repository) → before ≡ Some all → told ≡ [] → all ≡ words_for c → ((b : List ℕ) → was b ≡ stream_of b)
    → Serves (session asked_url true) commands_of goes_on ends_opening true x counted counted_now (Some told) (Some out) new before after was is spent e → IsSession x c out
session_heard law x c fit e input all out told before after was is spent counted counted_now new begins empty words fresh s =
    let ended : EndsAt goes_on ends_opening (map (λ t. t.item) s.turns) (Some all) after was is spent end.Input = subst (λ b. EndsAt goes_on ends_opening (map (λ t. t.item) s.turns) b after was is spent end.Input) begins (subst (EndsAt goes_on ends_opening (map (λ t. t.item) s.turns) before after was is spent) input s.ends) in
    session_is law x c fit s.turns all out after was words fresh s.lawful (s.bytes ∙ ap (λ z. z ++ session asked_url true x s.turns) empty) ended.1

-- what a client says is written word by word
pub said_whole : (o a b d x y z : List ℕ) → o ≡ [] → a ≡ o ++ x → b ≡ a ++ y → d ≡ b ++ z → d ≡ x ++ (y ++ (z ++ []))
said_whole o a b d x y z eo ea eb ed = ed ∙ ap (λ t. t ++ z) (eb ∙ ap (λ t. t ++ y) (ea ∙ ap (λ t. t ++ x) eo)) ∙ append_assoc x y z ∙ ap (λ t. x ++ (y ++ t)) (sym (append-nil z))

-- ---- the opening as a client takes it

pub long_id : (id : List ℕ) → length (hyphenated_text lower id) ≡ 36
long_id id = by_index_length 36 (λ k. if is_hyphen_place k then hyphen else hex_digit lower (nibble id (digit_place k)))

pub read_back : (id : List ℕ) → Some id ≡ parsed (hyphenated_text lower id) → Some id ≡ parsed_hyphenated (hyphenated_text lower id)
read_back id e = e ∙ hyphenated_alone (hyphenated_text lower id) (long_id id)

-- which repository is told
welcome_is : (x : Repository) → Some x.identity ≡ parsed_hyphenated (identity_text x) → welcome_said (welcome (identity_text x) asked_url) ≡ Some (Some (record { identity = x.identity; url = asked_url }))
welcome_is x back = rw (sym back) refl

module _ {R : Type 0} {g : InputGhosts R} (taken : WrittenIsTaken) where
  -- a refusal by the port itself is no answer
  no_item : {A T : Type 0} (view : A → T) (what : Item → Option (Reply T)) (past : Item → Bool) (f : PortFault) → IsOwn f → what (refusal_item f) ≡ Some None → (old new : ItemStream R g) (a : A) (more : List ℕ) → IsToCome {g = g} (refused (refusal_of f) ++ more) old → TakesWithin view what past old new (Ok a) → ⊥
  no_item view what past f own none old new a more there (OfItem y t told, goes) =
      let at = subst (λ z. IsBefore (z ++ more) (g.remaining (reader_of old)) (ahead old)) (sym (append-nil (spell (refusal_item f)))) there.0 in
      let d : y ≡ refusal_item f = item_alone y (refusal_item f) (taken (refusal_item f ∷ []) (y ∷ []) more (g.remaining (reader_of old)) (g.remaining (reader_of new)) (ahead old) (ahead new) (refusal_fits f own, tt) refl at t).0 in
      let e : Some None ≡ Some (Some (view a)) = sym none ∙ sym (ap what d) ∙ told in
      cc
    where
      item_alone : (y z : Item) → y ∷ [] ≡ z ∷ [] → y ≡ z
      item_alone y z e = cc
  no_item view what past f own none old new a more there (OfEnd t e, goes) = cc
  no_item view what past f own none old new a more there (OfStream k t e, goes) = cc

module _ {R O : Type 0} {g : InputGhosts R} {h : OutputGhosts O} (taken : WrittenIsTaken) (comes : WrittenComes) where
  logged : (old new : ItemStream R g × Sink O h) (u : Unit {0}) (more : List ℕ) → IsToCome {g = g} (spell done ++ more) old.0 → LogsIn true old new (Ok u) → IsToCome {g = g} more new.0
  logged old new u more there (Stopped f k e) = cc
  logged old new u more there (Went mid v k s) = (carry_item taken comes same done_said done tt done_fits refl mid.0 new.0 (Ok u) more (subst (λ (i : ItemStream R g). IsToCome {g = g} (spell done ++ more) i) (sym k.1) there) s.0).1

  known : (x : Repository) → Some x.identity ≡ parsed_hyphenated (identity_text x) → length (identity_text x) ≡ 36 → (old new : ItemStream R g × Sink O h) (found : Found) (more : List ℕ) → IsToCome {g = g} ((spell done ++ spell (welcome (identity_text x) asked_url)) ++ more) old.0 → IsKnown (λ v. v) true old new (Ok found) → (found.identity ≡ x.identity) × IsToCome {g = g} more new.0
  known x back long old new found more there (Stopped f k e) = cc
  known x back long old new found more there (Went mid u k s) =
      let w = welcome (identity_text x) asked_url in
      let m = logged old mid u (spell w ++ more) (to_come_behind (spell done) (spell w) more old.0 there) k in
      let t = carry_item taken comes (λ v. v) welcome_said w (record { identity = x.identity; url = asked_url }) (welcome_fits (identity_text x) long) (welcome_is x back) mid.0 new.0 (Ok found) more m s.0 in
      (ap (λ f. f.identity) t.0, t.1)

  welcomed : (x : Repository) → Some x.identity ≡ parsed_hyphenated (identity_text x) → length (identity_text x) ≡ 36 → (old new : ItemStream R g × Sink O h) (found : Found) (more : List ℕ) → IsToCome {g = g} ((spell (mechanisms (identity_text x)) ++ (spell done ++ spell (welcome (identity_text x) asked_url))) ++ more) old.0 → IsWelcomed (λ v. v) old new (Ok found) → (found.identity ≡ x.identity) × IsToCome {g = g} more new.0
  welcomed x back long old new found more there (Stopped f k e) = cc
  welcomed x back long old new found more there (Went mid asks k s) =
      let rest = spell done ++ spell (welcome (identity_text x) asked_url) in
      let t = carry_item taken comes same asks_said (mechanisms (identity_text x)) true (mechanisms_fits (identity_text x) long) refl old.0 mid.0 (Ok asks) (rest ++ more) (to_come_behind (spell (mechanisms (identity_text x))) rest more old.0 there) k.0 in
      known x back long mid new found more t.1 (subst (λ b. IsKnown {g = g} {h = h} (λ v. v) b mid new (Ok found)) t.0 s)

  greeted : (x : Repository) → Some x.identity ≡ parsed_hyphenated (identity_text x) → length (identity_text x) ≡ 36 → (old new : ItemStream R g × Sink O h) (found : Found) (more : List ℕ) → IsToCome {g = g} ((spell (mechanisms (identity_text x)) ++ (spell done ++ spell (welcome (identity_text x) asked_url))) ++ more) old.0 → IsGreeted (λ v. v) asked_url old new (Ok found) → (found.identity ≡ x.identity) × IsToCome {g = g} more new.0
  greeted x back long old new found more there (Stopped f k e) = cc
  greeted x back long old new found more there (Went mid u k s) = welcomed x back long mid new found more (subst (λ (i : ItemStream R g). IsToCome {g = g} ((spell (mechanisms (identity_text x)) ++ (spell done ++ spell (welcome (identity_text x) asked_url))) ++ more) i) (sym k.1) there) s

  opened : (x : Repository) → Some x.identity ≡ parsed_hyphenated (identity_text x) → length (identity_text x) ≡ 36 → (old new : ItemStream R g × Sink O h) (found : Found) (more : List ℕ) → IsToCome {g = g} (opening_told x ++ more) old.0 → Opens (λ v. v) asked_url old new (Ok found) → (found.identity ≡ x.identity) × IsToCome {g = g} more new.0
  opened x back long old new found more there (Stopped f k e) = cc
  opened x back long old new found more there (Went mid u k s) =
      let rest = spell (mechanisms (identity_text x)) ++ (spell done ++ spell (welcome (identity_text x) asked_url)) in
      let t = carry_item taken comes same greeting_said greeting tt greeting_fits refl old.0 mid.0 (Ok u) (rest ++ more) (to_come_behind (spell greeting) rest more old.0 there) k.0 in
      greeted x back long mid new found more t.1 s

  pub open_before : (x : Repository) → Some x.identity ≡ parsed_hyphenated (identity_text x) → length (identity_text x) ≡ 36 → (input : R) (output : O) (bytes said : List ℕ) (r : Result (ClientPort R O g h) ClientFault) → g.remaining input ≡ Some bytes → bytes ≡ opening_told x ++ said → IsOpening asked_url input output r → IfOk r (IsOpenBefore x said)
  open_before x back long input output bytes said (Err f) rem e o = tt
  open_before x back long input output bytes said (Ok p) rem e o =
      let all : bytes ≡ opening_told x ++ (said ++ []) = e ∙ ap (λ z. opening_told x ++ z) (sym (append-nil said)) in
      let there : IsToCome {g = g} (opening_told x ++ (said ++ [])) o.first = ((bytes, ap g.remaining o.reader ∙ rem, o.fresh.1 bytes ∙ ap stream_of all), o.fresh.0) in
      let m = opened x back long (o.first, o.out) (ends_of p) (record { identity = p.identity; url = p.root_url.items }) (said ++ []) there o.opened in
      record { identity = m.0; to_come = m.1; going = o.going }

  -- ---- answers

  no_answer : {A : Type 0} (c : Command) (step : ItemStream R g → ItemStream R g → Result A ClientFault → Type 0) (f : PortFault) → ((old new : ItemStream R g) (v : A) (more : List ℕ) → IsToCome {g = g} (refused (refusal_of f) ++ more) old → step old new (Ok v) → ⊥)
      → (P : A → Type 0) (old new : ClientPort R O g h) (r : Result A ClientFault) → IsToCome {g = g} ((spell authorised ++ refused (refusal_of f)) ++ []) (ends_of old).0 → Calls (Asks c step) old new r → IfOk r P
  no_answer c step f none P old new (Err e) there call = tt
  no_answer c step f none P old new (Ok v) there (Over e a b d) = cc
  no_answer c step f none P old new (Ok v) there (Asked going (Stopped e k i) after stays) = cc
  no_answer c step f none P old new (Ok v) there (Asked going (Went mid u k (Stopped e i j, same_out)) after stays) = cc
  no_answer {A} c step f none P old new (Ok v) there (Asked going (Went mid u k (Went behind_it w i j, same_out)) after stays) =
      let at : IsToCome {g = g} (spell authorised ++ (refused (refusal_of f) ++ [])) mid.0 = subst (λ (s : ItemStream R g). IsToCome {g = g} (spell authorised ++ (refused (refusal_of f) ++ [])) s) (sym k.1) (to_come_behind (spell authorised) (refused (refusal_of f)) [] (ends_of old).0 there) in
      let t = carry_item taken comes same authorised_said authorised tt authorised_fits refl mid.0 behind_it (Ok w) (refused (refusal_of f) ++ []) at i in
      absurd (none behind_it (ends_of new).0 v [] t.1 j)

-- ---- what is so of a value that was heard

ok_of : {A : Type 0} (Q : Type 0) (P : A → Type 0) (E : ClientFault → Type 0) (r : Result A ClientFault) → MatchResult r (λ v. P v × Q) E → IfOk r P
ok_of Q P E (Ok v) h = h.0
ok_of Q P E (Err f) h = tt

ok_more : {A : Type 0} (P Q : A → Type 0) (r : Result A ClientFault) → ((v : A) → P v → Q v) → IfOk r P → IfOk r Q
ok_more P Q (Ok v) k h = k v h
ok_more P Q (Err f) k h = tt

-- the newest revision
pub latest_told : {R O : Type 0} {g : InputGhosts R} {h : OutputGhosts O} → WrittenIsTaken → WrittenComes → (x : Repository) → length x.revisions ≤ 65536 → (old new : ClientPort R O g h) (r : Result ℕ ClientFault) → IsAsked x LatestRev old → HearsNumber old new r → Calls AsksLatest old new r → IfOk r (λ n. n ≡ head_of x.revisions)
latest_told {R} {O} {g} {h} taken comes x few old new r asked hears calls = by asked.halt asked.lawful asked.before
  where
    by : (t : Option Halt) → MayHaltAt true x (command_in (command_item LatestRev)) t → IsOpenBefore {g = g} {h = h} x (answer true x (command_in (command_item LatestRev)) t) old → IfOk r (λ n. n ≡ head_of x.revisions)
    by None l o = ok_of _ (λ n. n ≡ head_of x.revisions) _ r (hears (head_of x.revisions) (omega (arith, few)) o.going [] o.to_come)
    by (Some t) l o = no_answer taken comes LatestRev (TakesItem same number_said) t.cause (no_item taken same number_said never t.cause l.own refl) (λ n. n ≡ head_of x.revisions) old new r o.to_come calls

-- the properties of a revision
are_props : (T : PathMap → Type 0) (o : Option Revision) (p : PropMap) → IsSomeAnd (option_map (λ y. y.tree) o) T → p ≡ option_map_or (λ y. y.props) o finite.empty → option_map (λ y. y.props) o ≡ Some p
are_props T None p t e = absurd t
are_props T (Some r) p t e = ap Some (sym e)

pub props_told : {R O : Type 0} {g : InputGhosts R} {h : OutputGhosts O} → WrittenIsTaken → WrittenComes → (x : Repository) (n : ℕ) → n < length x.revisions → MayBeHeard x n → (old new : ClientPort R O g h) (r : Result PropMap ClientFault) → IsAsked x (RevProplist n) old → HearsProps old new r → Calls (AsksProps n) old new r → IfOk r (ArePropsIn x n)
props_told {R} {O} {g} {h} taken comes x n there may old new r asked hears calls = ok_more (λ p. p ≡ props_at x.revisions n) (ArePropsIn x n) r (λ p e. are_props _ (slice_get x.revisions n) p may.tree e) (by asked.halt asked.lawful asked.before)
  where
    tells : answer true x (command_in (command_item (RevProplist n))) None ≡ proplist_told (props_at x.revisions n)
    tells = rw (is_there x n there) refl

    by : (t : Option Halt) → MayHaltAt true x (command_in (command_item (RevProplist n))) t → IsOpenBefore {g = g} {h = h} x (answer true x (command_in (command_item (RevProplist n))) t) old → IfOk r (λ p. p ≡ props_at x.revisions n)
    by None l o = ok_of _ (λ p. p ≡ props_at x.revisions n) _ r (hears (props_at x.revisions n) may.properties o.going [] (subst (λ z. IsToCome {g = g} (z ++ []) (ends_of old).0) tells o.to_come))
    by (Some t) l o = no_answer taken comes (RevProplist n) (TakesWithin same proplist_said proplist_past) t.cause (no_item taken same proplist_said proplist_past t.cause l.own refl) (λ p. p ≡ props_at x.revisions n) old new r o.to_come calls

-- a revision
set_in : (o : Option PathMap) (trees : List PathMap) (s set : List Change) (t : PathMap) → Makes trees set t → ((q : Path) → effect trees set q ≡ effect trees s q) → IsSomeAnd o (λ t. (q : Path) → effect trees s q ≡ finite.get t q) → IsSomeAnd o (Makes trees set)
set_in None trees s set t m e h = absurd h
set_in (Some u) trees s set t m e h = record { faultless = m.faultless; effect = effect_tree_is trees set u (λ q. sym (e q ∙ h q)) }

pub revision_told_so : {R O : Type 0} {g : InputGhosts R} {h : OutputGhosts O} → WrittenIsTaken → WrittenComes → ServerTells → (x : Repository) (n : ℕ) → n < length x.revisions → MayBeHeard x n → (trees : List PathMap) → trees ≡ take n (trees_of x.revisions) → (old new : ClientPort R O g h) (r : Result (Applied × PropMap) ClientFault) → IsAsked x (ReplayRange n n) old → HearsRevision trees old new r → Calls (AsksRevision n trees) old new r → IfOk r (λ v. Makes trees v.0.set v.0.tree)
    → IfOk r (λ v. IsSetIn x n v.0.set × ArePropsIn x n v.1)
revision_told_so {R} {O} {g} {h} taken comes server x n there may trees are old new r asked hears calls makes = by asked.halt asked.lawful asked.before
  where
    P : Applied × PropMap → Type 0
    P v = ((q : Path) → effect trees v.0.set q ≡ effect trees (set_of x n) q) × (v.1 ≡ props_at x.revisions n)

    tells : answer true x (command_in (command_item (ReplayRange n n))) None ≡ revision_told trees (set_of x n) (props_at x.revisions n)
    tells = server.revision true x n (is_there x n there) ∙ ap (λ ts. revision_told ts (set_of x n) (props_at x.revisions n)) (sym are)

    so : (r : Result (Applied × PropMap) ClientFault) → IfOk r (λ v. Makes trees v.0.set v.0.tree) → IfOk r P → IfOk r (λ v. IsSetIn x n v.0.set × ArePropsIn x n v.1)
    so (Ok v) m p = (subst (λ ts. IsSomeAnd (tree_at x.revisions n) (Makes ts v.0.set)) are (set_in (tree_at x.revisions n) trees (set_of x n) v.0.set v.0.tree m p.0 (subst (λ ts. IsSomeAnd (tree_at x.revisions n) (λ t. (q : Path) → effect ts (set_of x n) q ≡ finite.get t q)) (sym are) may.tree)), are_props _ (slice_get x.revisions n) v.1 may.tree p.1)
    so (Err f) m p = tt

    halts : (t : Halt) → t.edits ≤ n - n → answer true x (command_in (command_item (ReplayRange n n))) (Some t) ≡ spell authorised ++ refused (refusal_of t.cause)
    halts t few =
        let none : t.edits ≡ 0 = omega (arith, few) in
        ap (λ k. spell authorised ++ (edits x n k ++ refused (refusal_of t.cause))) none

    by : (t : Option Halt) → MayHaltAt true x (command_in (command_item (ReplayRange n n))) t → IsOpenBefore {g = g} {h = h} x (answer true x (command_in (command_item (ReplayRange n n))) t) old → IfOk r (λ v. IsSetIn x n v.0.set × ArePropsIn x n v.1)
    by None l o = so r makes (ok_more _ P r (λ v i. (i.effect_is, i.props_are)) (ok_of _ (λ v. IsRevisionMade trees (set_of x n) (props_at x.revisions n) v) _ r (hears (set_of x n) (props_at x.revisions n) (subst (λ ts. MayBeSent ts (set_of x n)) (sym are) may.sent) may.properties o.going [] (subst (λ z. IsToCome {g = g} (z ++ []) (ends_of old).0) tells o.to_come))))
    by (Some t) l o = no_answer taken comes (ReplayRange n n) (TakesRevision trees) t.cause nothing (λ v. IsSetIn x n v.0.set × ArePropsIn x n v.1) old new r (subst (λ z. IsToCome {g = g} (z ++ []) (ends_of old).0) (halts t l.few) o.to_come) calls
      where
        nothing : (old new : ItemStream R g) (v : Applied × PropMap) (more : List ℕ) → IsToCome {g = g} (refused (refusal_of t.cause) ++ more) old → TakesRevision trees old new (Ok v) → ⊥
        nothing old new v more there (Stopped f k e) = cc
        nothing old new v more there (Went mid p k s) = no_item taken same revprops_said revprops_past t.cause l.own refl old mid p more there k
