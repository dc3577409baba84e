-- What is taken where it is to come.
use Rattle.std.proofs.Common.{◌≡◌, ◌≤◌, ℕ, Bool, true, false, None, List, [], ◌∷◌, ◌++◌, Option, Some, Result, Ok, Err, inl, inr, refl, sym, ap, subst, ◌∙◌, append_assoc, length, length-append, arith}
use Rattle.std.proofs.lemmas.Fmt.{length-decimal-le}
use Rattle.std.proofs.lemmas.List.{append-nil}
use Rattle.std.proofs.lemmas.Bool.Decides.{nat_tests}
use Rattle.std.specs.Fmt.{decimal}
use Rattle.std.specs.Option.{option_map}
use Rattle.std.specs.Prelude.{MatchResult, nat_lt}
use Rattle.byte_streams.specs.Causes.{Counts, Fails}
use Rattle.byte_streams.specs.Sinks.{inner_of}
use Rattle.byte_streams.specs.declared.input.Input.{Ghosts as InputGhosts}
use Rattle.byte_streams.specs.declared.output.Output.{Ghosts as OutputGhosts}
use Rattle.byte_streams.specs.declared.sink.Sink.{Sink}
use Rattle.node_base.specs.Props.{PropMap, IsProps}
use Rattle.node_base.specs.Tree.{PathMap}
use Rattle.node_base.specs.Path.{Path}
use Rattle.dump_load.specs.declared.change.Change.{Change}
use Rattle.dump_load.specs.declared.load.Applied.{Applied}
use Rattle.dump_load.specs.Effect.{effect}
use Rattle.delta_editor.specs.Faults.{number_of as editor_number}
use Rattle.delta_editor.specs.declared.fault.EditorFault.{EditorFault}
use Rattle.delta_editor.specs.declared.fault.EditorFault.TheVariants as editor
use Rattle.editor_ends.specs.Drive.{drive}
use Rattle.ra_item.specs.Items.{Item, Number, Text, Within, spell, spell_all, row}
use Rattle.ra_item.specs.ItemStreams.{reader_of, is_spent, ahead}
use Rattle.ra_item.specs.declared.stream.ItemStream.{ItemStream}
use Rattle.ra_edit.specs.Commands.{edit_bytes}
use Rattle.ra_edit.specs.EditFaults.{edit_number}
use Rattle.ra_edit.specs.EditFaults as edits
use Rattle.ra_edit.specs.EditLaws.{IsBefore, IsOnlyFor, WrittenIsTaken, WrittenComes}
use Rattle.ra_edit.specs.declared.edit_fault.EditFault.{EditFault}
use Rattle.ra_edit.specs.declared.edit_fault.EditFault.TheVariants as edit
use Rattle.edit_road.specs.Sent.{MayBeSent}
use Rattle.ra_wire.specs.Commands.{Command, LatestRev, RevProplist, ReplayRange}
use Rattle.ra_wire.specs.Replies.{list, authorised, done, number, proplist, revprops}
use Rattle.ra_client.specs.Exchanges.{Asks, AsksLatest, AsksProps, AsksRevision, TakesAnswer, TakesSet, TakesRevision}
use Rattle.ra_client.specs.Faults.{number_of}
use Rattle.ra_client.specs.Ports.{FailsMeanwhile}
use Rattle.ra_client.specs.Said.{Reply, ToldWithin, never, same, authorised_said, done_said, number_said, proplist_said, proplist_past, revprops_said, revprops_past}
use Rattle.ra_client.specs.Steps.{Follows, Stopped, Went, Gives, TakesItem, TakesWithin, OfItem, OfEnd, OfStream, TakesEdit, IsUnwritten, Goes, counts_of, IsLater}
use Rattle.ra_client.specs.Telling.{IsToCome, IsExcused, TakesTold, IsRevisionMade, number_told, proplist_told, revision_told}
use Rattle.ra_client.specs.declared.fault.ClientFault.{ClientFault}
use Rattle.ra_client.specs.declared.fault.ClientFault.TheVariants as fault
use Rattle.ra_wire.proofs.Listed.{props_again}
use Rattle.ra_client.proofs.Fair.{fails_later}
use Rattle.ra_client.proofs.Fitting.{success_short, proplist_fits, revprops_fit}

-- a step takes these bytes where they are to come, and such is what comes of them
abbrev pub Carries : {R A : Type 0} {g : InputGhosts R} → List ℕ → (A → Type 0) → (ItemStream R g → ItemStream R g → Result A ClientFault → Type 0) → Type 0
Carries {R} {A} {g} bytes Is step = (old new : ItemStream R g) (r : Result A ClientFault) (more : List ℕ) → IsToCome (bytes ++ more) old → step old new r → MatchResult r (λ v. Is v × IsToCome more new) (IsExcused (Fails (counts_of old new)))

-- ---- refusals

-- a refusal for memory, or by a read that failed
excused : (own : EditorFault → Type 0) (failed : Counts) (e : EditFault) → ((k : EditorFault) → own k → k ≡ editor.OutOfMemory) → IsOnlyFor own failed e → IsExcused (Fails failed) (fault.Edit e)
excused own failed edit.OutOfMemory k h = inl refl
excused own failed edit.PeerFailed k h = inr (refl, h)
excused own failed (edit.Editor f) k h = inl (ap editor_number (k f h))
excused own failed edit.BadSum k h = absurd h
excused own failed edit.Truncated k h = absurd h
excused own failed edit.TooLong k h = absurd h
excused own failed edit.Failed k h = absurd h
excused own failed edit.BadItem k h = absurd h
excused own failed edit.TooDeep k h = absurd h
excused own failed edit.BadWindow k h = absurd h
excused own failed edit.CopyWindow k h = absurd h
excused own failed edit.BadToken k h = absurd h
excused own failed edit.BadShape k h = absurd h
excused own failed edit.Refused k h = absurd h

pub excused_more : (before after : Type 0) (f : ClientFault) → (before → after) → IsExcused before f → IsExcused after f
excused_more before after f k (inl h) = inl h
excused_more before after f k (inr h) = inr (h.0, k h.1)

-- what is so of a value stays so, and what excuses a refusal
pub match_more : {A : Type 0} (P Q : A → Type 0) (before after : Type 0) (r : Result A ClientFault) → ((v : A) → P v → Q v) → (before → after) → MatchResult r P (IsExcused before) → MatchResult r Q (IsExcused after)
match_more P Q before after (Ok v) k l h = k v h
match_more P Q before after (Err f) k l h = excused_more before after f l h

-- ---- one item

says : {R A T : Type 0} {g : InputGhosts R} (past : Bool) (view : A → T) (o : Option (Reply T)) (v : T) (old new : ItemStream R g) (r : Result A ClientFault) (more : List ℕ) → o ≡ Some (Some v) → ToldWithin past view o r → IsBefore more (g.remaining (reader_of new)) (ahead new) → Goes old new r → MatchResult r (λ a. (view a ≡ v) × IsToCome more new) (IsExcused (Fails (counts_of old new)))
says past view o v old new (Ok a) more e t b goes = (let d : view a ≡ v = cc in d, (b, goes.goes_on))
says past view o v old new (Err fault.Refused) more e t b goes = cc
says past view o v old new (Err fault.BadAnswer) more e t b goes = let n : o ≡ None = t.0 in cc
says past view o v old new (Err (fault.Edit k)) more e (inl t) b goes = inl (ap edit_number t)
says past view o v old new (Err (fault.Edit k)) more e (inr t) b goes = let n : o ≡ None = t.1 in cc

pub carry_within : {R A T : Type 0} {g : InputGhosts R} → WrittenIsTaken → WrittenComes → (view : A → T) (what : Item → Option (Reply T)) (past : Item → Bool) (x : Item) (v : T) → Within x → what x ≡ Some (Some v) → Carries {g = g} (spell x) (λ a. view a ≡ v) (TakesWithin view what past)
carry_within {R} {A} {T} {g} taken comes view what past x v fits e old new r more there step = item_carried r step
  where
    at : IsBefore (spell_all (row (x ∷ [])) ++ more) (g.remaining (reader_of old)) (ahead old)
    at = subst (λ z. IsBefore (z ++ more) (g.remaining (reader_of old)) (ahead old)) (sym (append-nil (spell x))) there.0

    item_carried : (r : Result A ClientFault) → TakesWithin view what past old new r → MatchResult r (λ a. (view a ≡ v) × IsToCome more new) (IsExcused (Fails (counts_of old new)))
    item_carried r (OfItem y t told, goes) =
        let h = taken (x ∷ []) (y ∷ []) more (g.remaining (reader_of old)) (g.remaining (reader_of new)) (ahead old) (ahead new) (fits, tt) refl at t in
        let d : y ≡ x = cc in
        says (past y) view (what y) v old new r more (ap what d ∙ e) told h.1 goes
    item_carried r (OfEnd t f, goes) = absurd ((comes x more (g.remaining (reader_of old)) (g.remaining (reader_of new)) (ahead old) fits at).0 true t)
    item_carried r (OfStream k stops f, goes) = subst (λ z. MatchResult z (λ a. (view a ≡ v) × IsToCome more new) (IsExcused (Fails (counts_of old new)))) (sym f) (excused (λ _. ⊥) (counts_of old new) (edits.of_next k) (λ n h. absurd h) ((comes x more (g.remaining (reader_of old)) (g.remaining (reader_of new)) (ahead old) fits at).1 (is_spent old) (counts_of old new) k there.1 stops))

pub carry_item : {R A T : Type 0} {g : InputGhosts R} → WrittenIsTaken → WrittenComes → (view : A → T) (what : Item → Option (Reply T)) (x : Item) (v : T) → Within x → what x ≡ Some (Some v) → Carries {g = g} (spell x) (λ a. view a ≡ v) (TakesItem view what)
carry_item taken comes view what = carry_within taken comes view what never

-- ---- one behind another

pub to_come_behind : {R : Type 0} {g : InputGhosts R} (one two more : List ℕ) (s : ItemStream R g) → IsToCome ((one ++ two) ++ more) s → IsToCome (one ++ (two ++ more)) s
to_come_behind {R} {g} one two more s h = subst (λ z. IsToCome {g = g} z s) (append_assoc one two more) h

carry_follows : {R A B : Type 0} {g : InputGhosts R} (one two : List ℕ) (P : A → Type 0) (Q : B → Type 0) (first : ItemStream R g → ItemStream R g → Result A ClientFault → Type 0) (second : A → ItemStream R g → ItemStream R g → Result B ClientFault → Type 0) → ((old new : ItemStream R g) (v : A) → first old new (Ok v) → IsLater old new) → Carries {g = g} one P first → ((v : A) → P v → Carries {g = g} two Q (second v)) → Carries {g = g} (one ++ two) Q (Follows first second)
carry_follows {R} {A} {B} {g} one two P Q first second later f s old new r more there (Stopped k h e) = subst (λ z. MatchResult z (λ v. Q v × IsToCome more new) (IsExcused (Fails (counts_of old new)))) (sym e) (f old new (Err k) (two ++ more) (to_come_behind one two more old there) h)
carry_follows {R} {A} {B} {g} one two P Q first second later f s old new r more there (Went mid v h k) =
    let m = f old mid (Ok v) (two ++ more) (to_come_behind one two more old there) h in
    match_more (λ v. Q v × IsToCome more new) (λ v. Q v × IsToCome more new) (Fails (counts_of mid new)) (Fails (counts_of old new)) r (λ w z. z) (λ z. fails_later (g.failures (reader_of old)) (g.failures (reader_of mid)) (g.failures (reader_of new)) (g.reads (reader_of new)) (later old mid v h) z) (s v m.0 mid new r more m.1 k)

carry_more : {R A : Type 0} {g : InputGhosts R} (bytes : List ℕ) (P Q : A → Type 0) (step : ItemStream R g → ItemStream R g → Result A ClientFault → Type 0) → ((v : A) → P v → Q v) → Carries {g = g} bytes P step → Carries {g = g} bytes Q step
carry_more bytes P Q step k f old new r more there h = match_more (λ v. P v × IsToCome more new) (λ v. Q v × IsToCome more new) (Fails (counts_of old new)) (Fails (counts_of old new)) r (λ v z. (k v z.0, z.1)) (λ z. z) (f old new r more there h)

carry_gives : {R A : Type 0} {g : InputGhosts R} (bytes : List ℕ) (P : Unit {0} → Type 0) (v : A) (step : ItemStream R g → ItemStream R g → Result (Unit {0}) ClientFault → Type 0) → Carries {g = g} bytes P step → Carries {g = g} bytes (λ w. w ≡ v) (Gives step v)
carry_gives bytes P v step f old new (Ok w) more there h = (h.1, (f old new (Ok tt) more there h.0).1)
carry_gives bytes P v step f old new (Err k) more there h = f old new (Err k) more there h

pub carry_edit : {R : Type 0} {g : InputGhosts R} (trees : List PathMap) (s : List Change) → MayBeSent trees s → Carries {g = g} (edit_bytes (drive trees s)) (λ applied. (q : Path) → effect trees applied.set q ≡ effect trees s q) (TakesEdit trees)
carry_edit trees s may old new (Ok applied) more there h = let k = h.0.1 s more may there.0 in (k.0, (k.1, h.1.goes_on))
carry_edit trees s may old new (Err (fault.Edit e)) more there h = excused (λ k. k ≡ editor.OutOfMemory) (counts_of old new) e (λ k z. z) (h.0.1 s more may there.0 there.1)
carry_edit trees s may old new (Err fault.Refused) more there h = absurd h.0
carry_edit trees s may old new (Err fault.BadAnswer) more there h = absurd h.0

-- ---- answers

item_later : {R A T : Type 0} {g : InputGhosts R} (view : A → T) (what : Item → Option (Reply T)) (past : Item → Bool) (old new : ItemStream R g) (v : A) → TakesWithin view what past old new (Ok v) → IsLater old new
item_later view what past old new v h = h.1.later

edit_later : {R : Type 0} {g : InputGhosts R} (trees : List PathMap) (old new : ItemStream R g) (applied : Applied) → TakesEdit trees old new (Ok applied) → IsLater old new
edit_later trees old new applied h = h.1.later

pub authorised_fits : Within authorised
authorised_fits = record { fits = ((refl, omega arith), ((tt, (omega arith, tt)), tt)); depth = omega arith; bytes = omega (arith, success_short (list [] ∷ Text [] ∷ []), short) }
  where
    short : length (spell_all (row (list [] ∷ Text [] ∷ []))) ≤ 100
    short = omega (arith, length-decimal-le 1 0 (omega arith) (omega arith) (omega arith), length-append (decimal 0) (58 ∷ 32 ∷ []), length-append (decimal 0 ++ 58 ∷ 32 ∷ []) [])

pub done_fits : Within done
done_fits = record { fits = ((refl, omega arith), (tt, tt)); depth = omega arith; bytes = omega arith }

carry_answer : {R A : Type 0} {g : InputGhosts R} → WrittenIsTaken → WrittenComes → (bytes : List ℕ) (Q : A → Type 0) (answer : ItemStream R g → ItemStream R g → Result A ClientFault → Type 0) → Carries {g = g} bytes Q answer → Carries {g = g} (spell authorised ++ bytes) Q (TakesAnswer answer)
carry_answer {R} {A} {g} taken comes bytes Q answer f = carry_follows (spell authorised) bytes (λ u. u ≡ tt) Q (TakesItem same authorised_said) (λ _. answer) (item_later same authorised_said never) (carry_item taken comes same authorised_said authorised tt authorised_fits refl) (λ _ _. f)

-- ---- over an input and an output

asks_told : {R O A : Type 0} {g : InputGhosts R} {h : OutputGhosts O} (c : Command) (answer : ItemStream R g → ItemStream R g → Result A ClientFault → Type 0) (bytes : List ℕ) (Q : A → Type 0) → Carries {g = g} bytes Q (TakesAnswer answer) → (old new : ItemStream R g × Sink O h) (r : Result A ClientFault) → Asks c answer old new r → TakesTold bytes Q old new r
asks_told {R} {O} {A} {g} {h} c answer bytes Q f old new r (Stopped k u e) more there = subst (λ z. MatchResult z (λ v. Q v × IsToCome more new.0) (IsExcused (FailsMeanwhile old new))) (sym e) (unsent k u.0.refused)
  where
    unsent : (k : ClientFault) → IsUnwritten (h.failures (inner_of old.1)) (h.failures (inner_of new.1)) k → IsExcused (FailsMeanwhile old new) k
    unsent k (inl z) = inr (ap number_of z.0, inr z.1)
    unsent k (inr z) = inl (ap number_of z)
asks_told {R} {O} {A} {g} {h} c answer bytes Q f old new r (Went mid v u k) more there =
    match_more (λ v. Q v × IsToCome more new.0) (λ v. Q v × IsToCome more new.0) (Fails (counts_of mid.0 new.0)) (FailsMeanwhile old new) r (λ w z. z) (λ z. inl (subst (λ m. Fails (counts_of {g = g} m new.0)) u.1 z)) (f mid.0 new.0 r more (subst (λ m. IsToCome {g = g} (bytes ++ more) m) (sym u.1) there) k.0)

-- ---- commands

number_fits : (n : ℕ) → n ≤ 65535 → Within (number n)
number_fits n l = record { fits = ((refl, omega arith), ((omega (arith, l), tt), tt)); depth = omega arith; bytes = omega (arith, success_short (Number n ∷ []), short) }
  where
    short : length (spell_all (row (Number n ∷ []))) ≤ 100
    short = omega (arith, length-decimal-le 5 n (omega arith) (omega (arith, l)) (omega (arith, l)), length-append (decimal n) (32 ∷ []), length-append (decimal n ++ 32 ∷ []) [])

number_says : (n : ℕ) → n ≤ 65535 → number_said (number n) ≡ Some (Some n)
number_says n l = rw (small n l) refl
  where
    small : (n : ℕ) → n ≤ 65535 → nat_lt 65535 n ≡ false
    small n l = grind (arith, nat_tests)

pub latest_told : {R O : Type 0} {g : InputGhosts R} {h : OutputGhosts O} → WrittenIsTaken → WrittenComes → (n : ℕ) → n ≤ 65535 → (old new : ItemStream R g × Sink O h) (r : Result ℕ ClientFault) → AsksLatest old new r → TakesTold (number_told n) (λ found. found ≡ n) old new r
latest_told taken comes n l = asks_told LatestRev (TakesItem same number_said) (number_told n) (λ found. found ≡ n) (carry_answer taken comes (spell (number n)) (λ found. found ≡ n) (TakesItem same number_said) (carry_item taken comes same number_said (number n) n (number_fits n l) (number_says n l)))

pub props_told : {R O : Type 0} {g : InputGhosts R} {h : OutputGhosts O} → WrittenIsTaken → WrittenComes → (k : ℕ) (m : PropMap) → IsProps m → (old new : ItemStream R g × Sink O h) (r : Result PropMap ClientFault) → AsksProps k old new r → TakesTold (proplist_told m) (λ found. found ≡ m) old new r
props_told taken comes k m t = asks_told (RevProplist k) (TakesWithin same proplist_said proplist_past) (proplist_told m) (λ found. found ≡ m) (carry_answer taken comes (spell (proplist m)) (λ found. found ≡ m) (TakesWithin same proplist_said proplist_past) (carry_within taken comes same proplist_said proplist_past (proplist m) m (proplist_fits m t) (ap (option_map Some) (props_again m t).of_proplist)))

carry_set : {R : Type 0} {g : InputGhosts R} → WrittenIsTaken → WrittenComes → (trees : List PathMap) (s : List Change) (m props : PropMap) → MayBeSent trees s → props ≡ m → Carries {g = g} (edit_bytes (drive trees s) ++ spell done) (IsRevisionMade trees s m) (TakesSet trees props)
carry_set {R} {g} taken comes trees s m props may e = carry_follows (edit_bytes (drive trees s)) (spell done) (λ applied. (q : Path) → effect trees applied.set q ≡ effect trees s q) (IsRevisionMade trees s m) (TakesEdit trees) (λ applied. Gives (TakesItem same done_said) (applied, props)) (edit_later trees) (carry_edit trees s may)
    (λ applied is. carry_more (spell done) (λ w. w ≡ (applied, props)) (IsRevisionMade trees s m) (Gives (TakesItem same done_said) (applied, props)) (λ w z. subst (IsRevisionMade trees s m) (sym z) (record { effect_is = is; props_are = e }))
    (carry_gives (spell done) (λ u. u ≡ tt) (applied, props) (TakesItem same done_said) (carry_item taken comes same done_said done tt done_fits refl)))

pub revision_told_so : {R O : Type 0} {g : InputGhosts R} {h : OutputGhosts O} → WrittenIsTaken → WrittenComes → (k : ℕ) (trees : List PathMap) (s : List Change) (m : PropMap) → MayBeSent trees s → IsProps m → (old new : ItemStream R g × Sink O h) (r : Result (Applied × PropMap) ClientFault) → AsksRevision k trees old new r → TakesTold (revision_told trees s m) (IsRevisionMade trees s m) old new r
revision_told_so taken comes k trees s m may t = asks_told (ReplayRange k k) (TakesRevision trees) (revision_told trees s m) (IsRevisionMade trees s m) (carry_answer taken comes (spell (revprops m) ++ (edit_bytes (drive trees s) ++ spell done)) (IsRevisionMade trees s m) (TakesRevision trees)
    (carry_follows (spell (revprops m)) (edit_bytes (drive trees s) ++ spell done) (λ props. props ≡ m) (IsRevisionMade trees s m) (TakesWithin same revprops_said revprops_past) (TakesSet trees) (item_later same revprops_said revprops_past) (carry_within taken comes same revprops_said revprops_past (revprops m) m (revprops_fit m t) (ap (option_map Some) (props_again m t).of_revprops)) (λ props e. carry_set taken comes trees s m props may e)))
