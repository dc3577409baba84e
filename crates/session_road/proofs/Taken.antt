-- A range is heard revision by revision.
use Rattle.std.proofs.Common.{◌≡◌, ◌≤◌, ◌<◌, ℕ, suc, ◌+◌, ◌-◌, Bool, List, [], ◌∷◌, ◌++◌, Option, Some, None, Result, Ok, Err, inl, refl, sym, ap, subst, ◌∙◌, length, length-append, take, arith}
use Rattle.std.specs.Prelude.{IsSomeAnd, MatchResult, OnOk, IfErr}
use Rattle.std.specs.Option.{option_map}
use Rattle.std.specs.FinMap as finite
use Rattle.byte_streams.specs.Causes.{Fails}
use Rattle.byte_streams.specs.declared.input.Input.{Ghosts as InputGhosts}
use Rattle.node_base.specs.Path.{Path}
use Rattle.node_base.specs.Props.{PropMap, IsProps}
use Rattle.node_base.specs.Tree.{PathMap}
use Rattle.dump_load.specs.declared.change.Change.{Change}
use Rattle.dump_load.specs.declared.load.Applied.{Applied}
use Rattle.dump_load.specs.Effect.{effect}
use Rattle.editor_ends.specs.Drive.{drive}
use Rattle.ra_edit.specs.Commands.{edit_bytes}
use Rattle.ra_edit.specs.EditLaws.{WrittenIsTaken, WrittenComes}
use Rattle.ra_item.specs.Items.{spell}
use Rattle.ra_item.specs.ItemStreams.{reader_of}
use Rattle.ra_item.specs.declared.stream.ItemStream.{ItemStream}
use Rattle.ra_wire.specs.Commands.{ReplayRange}
use Rattle.ra_wire.specs.Reading.{command_in}
use Rattle.ra_wire.specs.Replies.{authorised, done, revprops}
use Rattle.ra_wire.specs.Requests.{command_item}
use Rattle.ra_wire.proofs.Listed.{props_again}
use Rattle.repo_core.specs.Repository.{Repository, trees_of, tree_at, props_at}
use Rattle.ra_serve.specs.Answers.{answer, edits, revision_bytes}
use Rattle.ra_serve.specs.Ports.{set_of}
use Rattle.ra_serve.proofs.Ranges.{both_there}
use Rattle.ra_client.specs.Faults.{number_of}
use Rattle.ra_client.specs.Said.{same, authorised_said, done_said, revprops_said, revprops_past}
use Rattle.ra_client.specs.Steps.{TakesItem, TakesWithin, TakesEdit, counts_of, IsLater}
use Rattle.ra_client.specs.Telling.{IsToCome, IsRevision}
use Rattle.ra_client.specs.declared.fault.ClientFault.{ClientFault}
use Rattle.ra_client.proofs.Carried.{to_come_behind, match_more, excused_more, carry_item, carry_within, carry_edit, authorised_fits, done_fits}
use Rattle.ra_client.proofs.Fair.{fails_later}
use Rattle.ra_client.proofs.Fitting.{revprops_fit}
use Rattle.session_road.specs.Told.{MayBeHeard}
use Rattle.session_road.specs.Ranges.{HearsFrom, HearsEdit, HearsNext, is_no_memory, IsRevisionOf, AreRevisionsOf, IsRange, HasMore}

-- ---- one behind another

pub went : {R A B : Type 0} {g : InputGhosts R} (one two : List ℕ) (P : A → Type 0) (Q : B → Type 0) (old mid new : ItemStream R g) (v : A) (r : Result B ClientFault) → IsLater old mid → HearsFrom one P old mid (Ok v) → (P v → HearsFrom two Q mid new r) → HearsFrom (one ++ two) Q old new r
went {R} {A} {B} {g} one two P Q old mid new v r later f s more there =
    let m = f (two ++ more) (to_come_behind one two more old there) in
    match_more (λ v. Q v × IsToCome more new) (λ v. Q v × IsToCome more new) (Fails (counts_of mid new)) (Fails (counts_of old new)) r (λ w z. z) (λ z. fails_later (g.failures (reader_of old)) (g.failures (reader_of mid)) (g.failures (reader_of new)) (g.reads (reader_of new)) later z) (s m.0 more m.1)

pub stopped : {R A B : Type 0} {g : InputGhosts R} (one two : List ℕ) (P : A → Type 0) (Q : B → Type 0) (old new : ItemStream R g) (k : ClientFault) → HearsFrom one P old new (Err k) → HearsFrom (one ++ two) Q old new (Err k)
stopped one two P Q old new k f more there = f (two ++ more) (to_come_behind one two more old there)

-- what is known of a value, and of another that is made of it
pub made_of : {R A B : Type 0} {g : InputGhosts R} (bytes : List ℕ) (P : A → Type 0) (Q : B → Type 0) (old new : ItemStream R g) (v : A) (w : B) → (P v → Q w) → HearsFrom bytes P old new (Ok v) → HearsFrom bytes Q old new (Ok w)
made_of bytes P Q old new v w k f more there = let m = f more there in (k m.0, m.1)

pub still : {R A B : Type 0} {g : InputGhosts R} (bytes : List ℕ) (P : A → Type 0) (Q : B → Type 0) (old new : ItemStream R g) (k : ClientFault) → HearsFrom bytes P old new (Err k) → HearsFrom bytes Q old new (Err k)
still bytes P Q old new k f = f

pub known_of : {R A : Type 0} {g : InputGhosts R} (bytes : List ℕ) (P Q : A → Type 0) (old new : ItemStream R g) (r : Result A ClientFault) → ((v : A) → P v → Q v) → HearsFrom bytes P old new r → HearsFrom bytes Q old new r
known_of bytes P Q old new r k f more there = match_more (λ v. P v × IsToCome more new) (λ v. Q v × IsToCome more new) (Fails (counts_of old new)) (Fails (counts_of old new)) r (λ v z. (k v z.0, z.1)) (λ z. z) (f more there)

-- a value that is kept, or memory ran out
pub kept_or_not : {R A : Type 0} {g : InputGhosts R} (bytes : List ℕ) (P : A → Type 0) (Q : Unit {0} → Type 0) (old new : ItemStream R g) (v : A) (r : Result (Unit {0}) ClientFault) → HearsFrom bytes P old new (Ok v) → (P v → MatchResult r Q is_no_memory) → HearsFrom bytes Q old new r
kept_or_not bytes P Q old new v (Ok u) f k more there = let m = f more there in (k m.0, m.1)
kept_or_not bytes P Q old new v (Err e) f k more there = inl (ap number_of (k (f more there).0))

pub keeps : {A : Type 0} (P : A → Type 0) (old new : List A) (v : A) (r : Result (Unit {0}) ClientFault) → OnOk r (new ≡ old ++ v ∷ []) → IfErr r is_no_memory → P v → MatchResult r (λ _. HasMore P old new) is_no_memory
keeps P old new v (Ok u) h k p = record { last = v; is = p; behind = h }
keeps P old new v (Err e) h k p = k

-- ---- items

pub hears_authorised : {R : Type 0} {g : InputGhosts R} → WrittenIsTaken → WrittenComes → (old new : ItemStream R g) (r : Result (Unit {0}) ClientFault) → TakesItem same authorised_said old new r → HearsFrom (spell authorised) (λ (u : Unit {0}). u ≡ tt) old new r
hears_authorised taken comes old new r h more there = carry_item taken comes same authorised_said authorised tt authorised_fits refl old new r more there h

pub hears_done : {R : Type 0} {g : InputGhosts R} → WrittenIsTaken → WrittenComes → (old new : ItemStream R g) (r : Result (Unit {0}) ClientFault) → TakesItem same done_said old new r → HearsFrom (spell done) (λ (u : Unit {0}). u ≡ tt) old new r
hears_done taken comes old new r h more there = carry_item taken comes same done_said done tt done_fits refl old new r more there h

pub hears_props : {R : Type 0} {g : InputGhosts R} → WrittenIsTaken → WrittenComes → (m : PropMap) → IsProps m → (old new : ItemStream R g) (r : Result PropMap ClientFault) → TakesWithin same revprops_said revprops_past old new r → HearsFrom (spell (revprops m)) (λ found. found ≡ m) old new r
hears_props taken comes m fit old new r h more there = carry_within taken comes same revprops_said revprops_past (revprops m) m (revprops_fit m fit) (ap (option_map Some) (props_again m fit).of_revprops) old new r more there h

-- ---- one revision

pub edit_heard : {R : Type 0} {g : InputGhosts R} (trees : List PathMap) (props : PropMap) (old new : ItemStream R g) (applied : Applied) → TakesEdit trees old new (Ok applied) → HearsEdit trees props old new (Ok (applied.set, props))
edit_heard trees props old new applied h s may more there = let m = carry_edit trees s may old new (Ok applied) more there h in (record { effect_is = m.0; props_are = refl }, m.1)

pub edit_unheard : {R : Type 0} {g : InputGhosts R} (trees : List PathMap) (props : PropMap) (old new : ItemStream R g) (f : ClientFault) → TakesEdit trees old new (Err f) → HearsEdit trees props old new (Err f)
edit_unheard trees props old new f h s may more there = carry_edit trees s may old new (Err f) more there h

pub next_heard : {R : Type 0} {g : InputGhosts R} → WrittenIsTaken → WrittenComes → (trees : List PathMap) (old mid new : ItemStream R g) (props : PropMap) (r : Result (List Change × PropMap) ClientFault) → TakesWithin same revprops_said revprops_past old mid (Ok props) → HearsEdit trees props mid new r → HearsNext trees old new r
next_heard taken comes trees old mid new props r h k s m may fit = went (spell (revprops m)) (edit_bytes (drive trees s)) (λ found. found ≡ m) (IsRevision trees s m) old mid new props r h.1.later (hears_props taken comes m fit old mid (Ok props) h) (λ e. subst (λ z. HearsFrom (edit_bytes (drive trees s)) (IsRevision trees s z) mid new r) e (k s may))

pub next_unheard : {R : Type 0} {g : InputGhosts R} → WrittenIsTaken → WrittenComes → (trees : List PathMap) (old new : ItemStream R g) (f : ClientFault) → TakesWithin same revprops_said revprops_past old new (Err f) → HearsNext trees old new (Err f)
next_unheard taken comes trees old new f h s m may fit = stopped (spell (revprops m)) (edit_bytes (drive trees s)) (λ found. found ≡ m) (IsRevision trees s m) old new f (hears_props taken comes m fit old new (Err f) h)

-- ---- a revision of a repository

tree_made : (o : Option PathMap) (trees : List PathMap) (s set : List Change) → ((q : Path) → effect trees set q ≡ effect trees s q) → IsSomeAnd o (λ t. (q : Path) → effect trees s q ≡ finite.get t q) → IsSomeAnd o (λ t. (q : Path) → effect trees set q ≡ finite.get t q)
tree_made None trees s set e h = h
tree_made (Some t) trees s set e h = λ q. e q ∙ h q

pub revision_heard : {R : Type 0} {g : InputGhosts R} (x : Repository) (n : ℕ) (trees : List PathMap) (old new : ItemStream R g) (r : Result (List Change × PropMap) ClientFault) → trees ≡ take n (trees_of x.revisions) → MayBeHeard x n → HearsNext trees old new r → HearsFrom (revision_bytes x n) (IsRevisionOf x n) old new r
revision_heard {R} {g} x n trees old new r are may h =
    known_of (revision_bytes x n) (IsRevision (take n (trees_of x.revisions)) (set_of x n) (props_at x.revisions n)) (IsRevisionOf x n) old new r
    (λ v is. record { tree = tree_made (tree_at x.revisions n) (take n (trees_of x.revisions)) (set_of x n) v.0 is.effect_is may.tree; properties = is.props_are })
    (subst (λ t. HearsNext {g = g} t old new r) are h (set_of x n) (props_at x.revisions n) may.sent may.properties)

-- ---- a range

one_more : (x : Repository) (n : ℕ) (found : List (List Change × PropMap)) (r : List Change × PropMap) → AreRevisionsOf x n found → IsRevisionOf x (n + length found) r → AreRevisionsOf x n (found ++ r ∷ [])
one_more x n [] r h k = let e : n + 0 ≡ n = omega arith in (subst (λ m. IsRevisionOf x m r) e k, tt)
one_more x n (f ∷ found) r h k = let e : n + suc (length found) ≡ (n + 1) + length found = omega arith in (h.0, one_more x (n + 1) found r h.1 (subst (λ m. IsRevisionOf x m r) e k))

-- what was taken of a range so far, and what is to come of it
pub record IsGoing {R : Type 0} {g : InputGhosts R} (x : Repository) (a b : ℕ) (old now : ItemStream R g) (count : ℕ) (found : List (List Change × PropMap)) (more : List ℕ) : Type 0 where
  pub counted : length found ≡ count
  pub revisions : AreRevisionsOf x a found
  pub to_come : IsToCome (edits x (a + count) (suc b - (a + count)) ++ more) now

abbrev pub Going : {R : Type 0} {g : InputGhosts R} → Repository → ℕ → ℕ → ItemStream R g → ItemStream R g → ℕ → List (List Change × PropMap) → Type 0
Going x a b old now count found = (more : List ℕ) → IsToCome (edits x a (suc b - a) ++ more) old → IsGoing x a b old now count found more

pub begins : {R : Type 0} {g : InputGhosts R} (x : Repository) (a b : ℕ) (old : ItemStream R g) (found : List (List Change × PropMap)) → found ≡ [] → Going x a b old old 0 found
begins {R} {g} x a b old found e more there =
    let n : a ≡ a + 0 = omega arith in
    subst (λ l. IsGoing {g = g} x a b old old 0 l more) (sym e) (record { counted = refl; revisions = tt; to_come = subst (λ k. IsToCome {g = g} (edits x k (suc b - k) ++ more) old) n there })

-- the next of them and those behind it
split : {R : Type 0} {g : InputGhosts R} (x : Repository) (n b : ℕ) (more : List ℕ) (now : ItemStream R g) → n ≤ b → IsToCome (edits x n (suc b - n) ++ more) now → IsToCome (revision_bytes x n ++ (edits x (n + 1) (suc b - (n + 1)) ++ more)) now
split {R} {g} x n b more now l h =
    let e : suc b - n ≡ suc (suc b - (n + 1)) = omega (arith, l) in
    to_come_behind (revision_bytes x n) (edits x (n + 1) (suc b - (n + 1))) more now (subst (λ k. IsToCome {g = g} (edits x n k ++ more) now) e h)

pub goes_on : {R : Type 0} {g : InputGhosts R} (x : Repository) (a b number count : ℕ) (old mid new : ItemStream R g) (before after : List (List Change × PropMap)) → number ≡ a + count → number ≤ b → Going x a b old mid count before → HearsFrom (revision_bytes x number) (λ (u : Unit {0}). HasMore (IsRevisionOf x number) before after) mid new (Ok tt) → Going x a b old new (count + 1) after
goes_on {R} {g} x a b number count old mid new before after e l going h more there =
    let i = going more there in
    let m = h (edits x (number + 1) (suc b - (number + 1)) ++ more) (split x number b more mid l (subst (λ k. IsToCome {g = g} (edits x k (suc b - k) ++ more) mid) (sym e) i.to_come)) in
    let at : number ≡ a + length before = omega (arith, e, i.counted) in
    let next : number + 1 ≡ a + (count + 1) = omega (arith, e) in
    record {
      counted = ap length m.0.behind ∙ length-append before (m.0.last ∷ []) ∙ ap (λ k. k + 1) i.counted;
      revisions = subst (AreRevisionsOf x a) (sym m.0.behind) (one_more x a before m.0.last i.revisions (subst (λ k. IsRevisionOf x k m.0.last) at m.0.is));
      to_come = subst (λ k. IsToCome {g = g} (edits x k (suc b - k) ++ more) new) next m.1;
    }

pub stops : {R : Type 0} {g : InputGhosts R} (x : Repository) (a b number count : ℕ) (old mid new : ItemStream R g) (before : List (List Change × PropMap)) (P Q : Unit {0} → Type 0) (f : ClientFault) → number ≡ a + count → number ≤ b → IsLater old mid → Going x a b old mid count before → HearsFrom (revision_bytes x number) P mid new (Err f) → HearsFrom (edits x a (suc b - a)) Q old new (Err f)
stops {R} {g} x a b number count old mid new before P Q f e l later going h more there =
    let i = going more there in
    excused_more (Fails (counts_of mid new)) (Fails (counts_of old new)) f
    (λ z. fails_later (g.failures (reader_of old)) (g.failures (reader_of mid)) (g.failures (reader_of new)) (g.reads (reader_of new)) later z)
    (h (edits x (number + 1) (suc b - (number + 1)) ++ more) (split x number b more mid l (subst (λ k. IsToCome {g = g} (edits x k (suc b - k) ++ more) mid) (sym e) i.to_come)))

pub ends : {R : Type 0} {g : InputGhosts R} (x : Repository) (a b count : ℕ) (old now : ItemStream R g) (found : List (List Change × PropMap)) → count ≡ suc b - a → Going x a b old now count found → HearsFrom (edits x a (suc b - a)) (λ (u : Unit {0}). IsRange x a b found) old now (Ok tt)
ends {R} {g} x a b count old now found e going more there =
    let i = going more there in
    let none : suc b - (a + count) ≡ 0 = omega (arith, e) in
    (record { count = i.counted ∙ e; revisions = i.revisions }, subst (λ k. IsToCome {g = g} (edits x (a + count) k ++ more) now) none i.to_come)

-- ---- the answer

pub range_answer : (mirror : Bool) (x : Repository) (a b : ℕ) → a < length x.revisions → b < length x.revisions → answer mirror x (command_in (command_item (ReplayRange a b))) None ≡ spell authorised ++ (edits x a (suc b - a) ++ spell done)
range_answer mirror x a b h k = rw (both_there mirror x a b h k) refl

-- the revisions of a range, and that this was all
pub told_heard : {R V : Type 0} {g : InputGhosts R} (items_of : V → List (List Change × PropMap)) (x : Repository) (a b : ℕ) (old mid new : ItemStream R g) (found : V) (r : Result V ClientFault) → IsLater old mid → HearsFrom (edits x a (suc b - a)) (λ (u : Unit {0}). IsRange x a b (items_of found)) old mid (Ok tt) → HearsFrom (spell done) (λ all. all ≡ found) mid new r → HearsFrom (edits x a (suc b - a) ++ spell done) (λ all. IsRange x a b (items_of all)) old new r
told_heard items_of x a b old mid new found r later h k = went (edits x a (suc b - a)) (spell done) (λ (u : Unit {0}). IsRange x a b (items_of found)) (λ all. IsRange x a b (items_of all)) old mid new tt r later h (λ range. known_of (spell done) (λ all. all ≡ found) (λ all. IsRange x a b (items_of all)) mid new r (λ v e. subst (λ z. IsRange x a b (items_of z)) (sym e) range) k)

pub told_unheard : {R V : Type 0} {g : InputGhosts R} (items_of : V → List (List Change × PropMap)) (x : Repository) (a b : ℕ) (old new : ItemStream R g) (found : V) (f : ClientFault) → HearsFrom (edits x a (suc b - a)) (λ (u : Unit {0}). IsRange x a b (items_of found)) old new (Err f) → HearsFrom (edits x a (suc b - a) ++ spell done) (λ all. IsRange x a b (items_of all)) old new (Err f)
told_unheard items_of x a b old new found f h = stopped (edits x a (suc b - a)) (spell done) (λ (u : Unit {0}). IsRange x a b (items_of found)) (λ all. IsRange x a b (items_of all)) old new f h

pub answer_heard : {R V : Type 0} {g : InputGhosts R} → WrittenIsTaken → WrittenComes → (Q : V → Type 0) (mirror : Bool) (x : Repository) (a b : ℕ) (old mid new : ItemStream R g) (r : Result V ClientFault) → a < length x.revisions → b < length x.revisions → TakesItem same authorised_said old mid (Ok tt) → HearsFrom (edits x a (suc b - a) ++ spell done) Q mid new r → HearsFrom (answer mirror x (command_in (command_item (ReplayRange a b))) None) Q old new r
answer_heard taken comes Q mirror x a b old mid new r begun there h k = subst (λ bytes. HearsFrom bytes Q old new r) (sym (range_answer mirror x a b begun there)) (went (spell authorised) (edits x a (suc b - a) ++ spell done) (λ (u : Unit {0}). u ≡ tt) Q old mid new tt r h.1.later (hears_authorised taken comes old mid (Ok tt) h) (λ _. k))

pub answer_unheard : {R V : Type 0} {g : InputGhosts R} → WrittenIsTaken → WrittenComes → (items_of : V → List (List Change × PropMap)) (mirror : Bool) (x : Repository) (a b : ℕ) (old new : ItemStream R g) (f : ClientFault) → a < length x.revisions → b < length x.revisions → TakesItem same authorised_said old new (Err f) → HearsFrom (answer mirror x (command_in (command_item (ReplayRange a b))) None) (λ all. IsRange x a b (items_of all)) old new (Err f)
answer_unheard {R} {V} {g} taken comes items_of mirror x a b old new f begun there h = subst (λ bytes. HearsFrom {A = V} bytes (λ all. IsRange x a b (items_of all)) old new (Err f)) (sym (range_answer mirror x a b begun there)) (stopped (spell authorised) (edits x a (suc b - a) ++ spell done) (λ (u : Unit {0}). u ≡ tt) (λ all. IsRange x a b (items_of all)) old new f (hears_authorised taken comes old new (Err f) h))

-- ---- counts of failures

pub later_on : {R A : Type 0} {g : InputGhosts R} (old mid new : ItemStream R g) (r : Result A ClientFault) → IsLater old mid → OnOk r (IsLater mid new) → OnOk r (IsLater old new)
later_on old mid new (Ok v) h k = omega (arith, h, k)
later_on old mid new (Err f) h k = tt

pub on_any : {A T : Type 0} (r : Result A ClientFault) → T → OnOk r T
on_any (Ok v) h = h
on_any (Err f) h = tt
