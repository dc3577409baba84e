-- Items of a drive whose texts come as differences, one after another.
use Rattle.std.proofs.Common.{◌≡◌, ℕ, Bool, true, inl, inr, List, [], ◌∷◌, ◌++◌, Option, None, refl, sym, subst, append_assoc, append-nil}
use Rattle.ra_item.specs.Items.{Item, Text, Nested}
use Rattle.ra_item.specs.Streams.{Stream}
use Rattle.ra_item.specs.ItemStreams.{Takes, Ends, Stops}
use Rattle.byte_streams.specs.Causes.{Counts, Fails}
use Rattle.node_base.specs.Path.{Path}
use Rattle.delta_editor.specs.Calls.{Adds}
use Rattle.delta_editor.specs.declared.call.Call.{Call}
use Rattle.delta_editor.specs.declared.fault.EditorFault.{EditorFault}
use Rattle.ra_edit.specs.DeltaEdits.{StandsWith, IsLevel, MovesBy, GoesBy, ComesBy, TakesOneBy, ReceivedDeltas, IsDeltaRefusal, OfCommand, OfSum, OfBytes, OfEnd, MeetsOver, IsRefusedBy, StopsBehindDeltas, StopsOneBy, StopsDeltas, AbandonsDeltas}
use Rattle.ra_edit.specs.Differences.{Difference, StandsFor, Same, AllStandFor, SpellsDeltas, SaysSum, is_of_text}
use Rattle.ra_edit.specs.Differences as differences
use Rattle.ra_edit.specs.Edit.{Finishes, GivesUp, StandsAt}
use Rattle.ra_edit.specs.declared.receive_edit.Edit.{Edit}
use Rattle.ra_edit.specs.EditFaults.{of_command}
use Rattle.ra_edit.specs.Edits.{At, Begun, Ended, AllSay, Nothing, Then, IsCommand}
use Rattle.ra_edit.specs.Names.{word_of}
use Rattle.ra_edit.specs.Received.{ShownBefore}
use Rattle.ra_edit.specs.Refusals.{IfOwn, Meets, RefusedFor, refusal, paths_at}
use Rattle.ra_edit.specs.declared.command_fault.CommandFault.{CommandFault}
use Rattle.ra_edit.specs.declared.edit_fault.EditFault.{EditFault}
use Rattle.ra_edit.specs.declared.name.Name.TheVariants as word
use Rattle.ra_edit.specs.declared.receive_command.Command.{Command}
use Rattle.ra_edit.specs.declared.receive_command.Command.TheVariants as command
use Rattle.ra_item.proofs.Streaming.{takes_none, takes_more, takes_end, takes_stop}
use Rattle.ra_edit.proofs.DeltaItems.{one_name}
use Rattle.ra_edit.proofs.DeltaSays.{say_both}
use Rattle.ra_edit.proofs.LeftOpen.{all_still}
use Rattle.ra_edit.proofs.OwnRefusals.{own_map}
use Rattle.ra_edit.proofs.Steps.{adds_join}

abbrev Texts : Type 1
Texts = List Call → Path → List ℕ → Type 0

abbrev Refusing : Type 0 → Type 1
Refusing O = O → List Call → Call → EditorFault → Type 0

-- before the first command no text is open
pub level_begun : (o : Option Difference) → IsLevel Begun o
level_begun o = λ text r e. cc

-- ---- one item more

stand_more : (HasText : Texts) (at mid end : At) (shown : List Call) (o p q : Option Difference) (items : List Item) (calls more : List Call) (item : Item) (plain : List Item) → AllStandFor HasText at shown o items calls mid p → StandsFor HasText mid (shown ++ calls) p item plain q → AllSay mid plain more end → AllStandFor HasText at shown o (items ++ item ∷ []) (calls ++ more) end q
stand_more HasText at mid end shown o p q [] [] more item plain (differences.Nothing a s d) stands say =
    subst (λ l. AllStandFor HasText a s d (item ∷ []) l end q) (append-nil more)
    (differences.Then a end end s more [] d q q item plain [] (subst (λ l. StandsFor HasText a l d item plain q) (append-nil s) stands) say (differences.Nothing end (s ++ more) q))
stand_more HasText at mid end shown o p q all both more item plain (differences.Then a b e s first rest d f u x plains xs one says behind) stands say =
    let next = stand_more HasText b e end (s ++ first) f u q xs rest more item plain behind (subst (λ l. StandsFor HasText e l u item plain q) (sym (append_assoc s first rest)) stands) say in
    subst (λ l. AllStandFor HasText a s d (x ∷ (xs ++ item ∷ [])) l end q) (sym (append_assoc first rest more)) (differences.Then a b end s first (rest ++ more) d f q x plains (xs ++ item ∷ []) one says next)

pub goes_none : {E : Type 0} (HasText : Texts) (shows : E → List Call → Type 0) (e : E) (a : Option (List ℕ)) (s : List ℕ → Stream) (o : Option Difference) (stands : At → Type 0) → o ≡ None → stands Begun → GoesBy HasText shows e e a a s s o stands
goes_none HasText shows e a s o stands none h = record {
  items = [];
  plain = [];
  calls = [];
  at = Begun;
  taken = takes_none a s;
  stand = λ shown r. subst (λ z. AllStandFor HasText Begun shown None [] [] Begun z) (sym none) (differences.Nothing Begun shown None);
  say = Nothing Begun;
  shown = λ calls k. subst (shows e) (sym (append-nil calls)) k;
  here = h;
}

pub goes_more : {E : Type 0} (HasText : Texts) (shows : E → List Call → Type 0) (old mid new : E) (a b d : Option (List ℕ)) (s t u : List ℕ → Stream) (o p : Option Difference) (stood stands : At → Type 0) (item : Item) → GoesBy HasText shows old mid a b s t o stood → Takes (item ∷ []) b d t u → ((at : At) → stood at → MovesBy HasText shows mid new item at o p stands) → GoesBy HasText shows old new a d s u p stands
goes_more HasText shows old mid new a b d s t u o p stood stands item k took step =
    let m = step k.at k.here in
    record {
      items = k.items ++ item ∷ [];
      plain = k.plain ++ m.plain;
      calls = k.calls ++ m.calls;
      at = m.to;
      taken = takes_more k.items (item ∷ []) a b d s t u k.taken took;
      stand = λ shown r. stand_more HasText Begun k.at m.to shown None o p k.items k.calls m.calls item m.plain (k.stand shown r) (m.stand (shown ++ k.calls) (k.shown shown r)) m.say;
      say = say_both Begun k.at m.to k.plain m.plain k.calls m.calls k.say m.say;
      shown = adds_join shows old mid new k.calls m.calls k.shown m.adds;
      here = m.now;
    }

-- `finish-replay` was read
pub comes : {E : Type 0} (HasText : Texts) (shows : E → List Call → Type 0) (old mid new : E) (a b d : Option (List ℕ)) (s t u : List ℕ → Stream) (o p : Option Difference) (stood stands : At → Type 0) (item : Item) → GoesBy HasText shows old mid a b s t o stood → Takes (item ∷ []) b d t u → ((at : At) → stood at → IsCommand (word_of word.FinishReplay) [] item × (new ≡ mid) × (p ≡ o) × stands at) → ComesBy HasText shows old new a d s u p stands
comes HasText shows old mid new a b d s t u o p stood stands item k took step =
    let m = step k.at k.here in
    record {
      items = k.items;
      last = item;
      plain = k.plain;
      calls = k.calls;
      at = k.at;
      taken = takes_more k.items (item ∷ []) a b d s t u k.taken took;
      stand = λ shown r. subst (λ z. AllStandFor HasText Begun shown None k.items k.calls k.at z) (sym m.2) (k.stand shown r);
      say = k.say;
      end = m.0;
      shown = λ calls h. subst (λ e. shows e (calls ++ k.calls)) (sym m.1) (k.shown calls h);
      here = m.3;
    }

-- the edit was ended
pub received : {E D : Type 0} (HasText : Texts) (shows : E → List Call → Type 0) (done_shows : D → List Call → Type 0) (old new : E) (done : D) (a b : Option (List ℕ)) (s t : List ℕ → Stream) (o : Option Difference) (stands : At → Type 0) → ComesBy HasText shows old new a b s t o stands → ((at : At) (item : Item) → IsCommand (word_of word.FinishReplay) [] item → stands at → Finishes shows done_shows new done item at) → ReceivedDeltas HasText shows done_shows old done a b s t
received HasText shows done_shows old new done a b s t o stands k finish =
    let f = finish k.at k.last k.end k.here in
    let last : AllSay k.at (k.last ∷ []) f.0 Ended = subst (λ l. AllSay k.at (k.last ∷ []) l Ended) (append-nil f.0) (Then k.at Ended Ended k.last [] f.0 [] f.1 (Nothing Ended)) in
    record {
      items = k.items ++ k.last ∷ [];
      calls = k.calls ++ f.0;
      taken = k.taken;
      spelled = λ shown r. (o, stand_more HasText Begun k.at Ended shown None o o k.items k.calls f.0 k.last (k.last ∷ []) (k.stand shown r) (Same k.at (shown ++ k.calls) o k.last (word.FinishReplay, [], k.end, refl)) last);
      whole = record { items = k.plain ++ k.last ∷ []; say = say_both Begun k.at Ended k.plain (k.last ∷ []) k.calls f.0 k.say last };
      shown = λ shown h. subst (done_shows done) (append_assoc shown k.calls f.0) (f.2 (shown ++ k.calls) (k.shown shown h));
    }

-- ---- refusals

-- what the editor may meet behind other calls
met_before : {S O : Type 0} (shows : S → List Call → Type 0) (began : S → O) (refuses : Refusing O) (old mid : S) (calls : List Call) (at : At) (o : Option Difference) (c : Command) (f : EditorFault) → Adds shows old mid calls → began mid ≡ began old → MeetsOver shows began refuses mid at o c f → MeetsOver (ShownBefore shows calls) began refuses old at o c f
met_before shows began refuses old mid calls at o c f adds same m = record {
  calls = m.calls;
  asked = m.asked;
  one = record {
    before = m.one.before;
    next = m.one.next;
    rest = m.one.rest;
    among = m.one.among;
    met = λ all k. subst (λ t. refuses t (all ++ m.one.before) m.one.next f) same (subst (λ l. refuses (began mid) (l ++ m.one.before) m.one.next f) (sym k.2) (m.one.met (k.0 ++ calls) (adds k.0 k.1)));
  };
}

due_before_calls : {E : Type 0} (HasText : Texts) (shows : E → List Call → Type 0) (old mid : E) (calls : List Call) (at : At) (o : Option Difference) (c : Command) (sum : Option (List ℕ)) (why : CommandFault) → Adds shows old mid calls → IsDeltaRefusal HasText (shows mid) at o c sum why → IsDeltaRefusal HasText (ShownBefore shows calls old) at o c sum why
due_before_calls HasText shows old mid calls at o c sum why adds (OfCommand h) = OfCommand h
due_before_calls HasText shows old mid calls at o c sum why adds (OfSum base t is has other h) = OfSum base t is (λ all k. has all (subst (shows mid) (sym k.2) (adds k.0 k.1))) other h
due_before_calls HasText shows old mid calls at o c sum why adds (OfBytes t bytes base d is held h) = OfBytes t bytes base d is held h
due_before_calls HasText shows old mid calls at o c sum why adds (OfEnd t base d is held between h) = OfEnd t base d is held between h

lifted : {E O : Type 0} (HasText : Texts) (shows : E → List Call → Type 0) (began : E → O) (refuses : Refusing O) (old mid : E) (calls : List Call) (at : At) (o : Option Difference) (item : Item) (why : CommandFault) → Adds shows old mid calls → began mid ≡ began old → IsRefusedBy HasText (shows mid) (MeetsOver shows began refuses mid) at o item why → IsRefusedBy HasText (ShownBefore shows calls old) (MeetsOver (ShownBefore shows calls) began refuses old) at o item why
lifted HasText shows began refuses old mid calls at o item why adds same (inl h) = inl h
lifted HasText shows began refuses old mid calls at o item why adds same (inr k) =
    inr (k.0, k.1, k.2, k.3, due_before_calls HasText shows old mid calls at o k.0 k.1 why adds k.4, own_map why (λ f m. met_before shows began refuses old mid calls at o k.0 f adds same m) k.5)

stops_behind : {E O : Type 0} (HasText : Texts) (shows : E → List Call → Type 0) (began : E → O) (refuses : Refusing O) (old mid : E) (calls : List Call) (xs : List Item) (at : At) (stood : At → Type 0) (o : Option Difference) (f : EditFault) (a b d : Option (List ℕ)) (s t : List ℕ → Stream) (before spent : Bool) (now failed : Counts) → Adds shows old mid calls → began mid ≡ began old → stood at → Takes xs a b s t → (spent ≡ true → before ≡ true) → (Fails now → Fails failed) → StopsBehindDeltas HasText (shows mid) (MeetsOver shows began refuses mid) [] stood o b d t spent now f → StopsBehindDeltas HasText (ShownBefore shows calls old) (MeetsOver (ShownBefore shows calls) began refuses old) xs (λ x. x ≡ at) o a d s before failed f
stops_behind HasText shows began refuses old mid calls xs at stood o f a b d s t before spent now failed adds same here p g h (inl q) = inl (q.0, q.1, subst (λ l. Stops l a d s before failed q.0) (append-nil xs) (takes_stop xs [] q.0 a b d s t before spent now failed p g h q.2))
stops_behind HasText shows began refuses old mid calls xs at stood o f a b d s t before spent now failed adds same here p g h (inr (inl q)) = inr (inl (q.0, subst (λ l. Ends l true a d s) (append-nil xs) (takes_end xs [] true a b d s t p q.1)))
stops_behind HasText shows began refuses old mid calls xs at stood o f a b d s t before spent now failed adds same here p g h (inr (inr q)) = inr (inr (record {
  item = q.item;
  why = q.why;
  is = q.is;
  taken = takes_more xs (q.item ∷ []) a b d s t q.is p q.taken;
  same = q.same;
  due = λ x e. subst (λ y. IsRefusedBy HasText (ShownBefore shows calls old) (MeetsOver (ShownBefore shows calls) began refuses old) y o q.item q.why) (sym e) (lifted HasText shows began refuses old mid calls at o q.item q.why adds same (q.due at here));
}))

pub drive_stops : {E O : Type 0} (HasText : Texts) (shows : E → List Call → Type 0) (began : E → O) (refuses : Refusing O) (old mid : E) (a b d : Option (List ℕ)) (s t : List ℕ → Stream) (o : Option Difference) (before spent : Bool) (now failed : Counts) (stood : At → Type 0) (paths : List Path) (f : EditFault) → began mid ≡ began old → ((x : At) → stood x → x ≡ Ended → ⊥) → GoesBy HasText shows old mid a b s t o stood → (spent ≡ true → before ≡ true) → (Fails now → Fails failed) → StopsOneBy HasText shows began refuses mid stood o b d t spent now paths f → StopsDeltas HasText shows began refuses old a d s before failed paths f
drive_stops HasText shows began refuses old mid a b d s t o before spent now failed stood paths f same stay k g h q = record {
  drive = record { items = k.items; plain = k.plain; calls = k.calls; at = k.at; now = o; stand = k.stand; say = k.say; unended = stay k.at k.here; stops = stops_behind HasText shows began refuses old mid k.calls k.items k.at stood o f a b d s t before spent now failed k.shown same k.here k.taken g h q.stops };
  still = q.still k.at k.here;
}

-- `finish-replay` says no sum
finish_sum : (x : Item) → IsCommand (word_of word.FinishReplay) [] x → SaysSum x None
finish_sum x h = λ t s k. absurd (other (one_name word.FinishReplay word.ApplyTextdelta [] (Text t ∷ Nested s ∷ []) x h k))
  where
    other : word.FinishReplay ≡ word.ApplyTextdelta → ⊥
    other e = cc

-- at the end of a drive
pub end_stops : {E O : Type 0} (HasText : Texts) (shows : E → List Call → Type 0) (began : E → O) (refuses : Refusing O) (old new : E) (a b : Option (List ℕ)) (s t : List ℕ → Stream) (o : Option Difference) (before : Bool) (failed : Counts) (stands : At → Type 0) (paths : List Path) (f : CommandFault) → began new ≡ began old → ((at : At) → stands at → RefusedFor f (refusal at command.Finish)) → IfOwn (λ e. (at : At) → stands at → Meets shows began refuses new at command.Finish e) f → ((x : At) → stands x → x ≡ Ended → ⊥) → ((x : At) → stands x → paths ≡ paths_at x) → ComesBy HasText shows old new a b s t o stands → StopsDeltas HasText shows began refuses old a b s before failed paths (of_command f)
end_stops HasText shows began refuses old new a b s t o before failed stands paths f same why own stay open_there k = record {
  drive = record {
    items = k.items;
    plain = k.plain;
    calls = k.calls;
    at = k.at;
    now = o;
    stand = k.stand;
    say = k.say;
    unended = stay k.at k.here;
    stops = inr (inr (record {
      item = k.last;
      why = f;
      is = t;
      taken = k.taken;
      same = refl;
      due = λ x e. subst (λ y. IsRefusedBy HasText (ShownBefore shows k.calls old) (MeetsOver (ShownBefore shows k.calls) began refuses old) y o k.last f) (sym e)
          (inr (command.Finish, None, k.end, finish_sum k.last k.end, OfCommand (why k.at k.here), own_map f (λ g m. met_before shows began refuses old new k.calls k.at o command.Finish g k.shown same (let n = m k.at k.here in record { calls = n.calls; asked = n.asked; one = n.one })) own));
    }));
  };
  still = all_still k.at (of_command f) paths (open_there k.at k.here);
}

-- and the edit is given up
pub abandons : {E O : Type 0} (HasText : Texts) (shows : E → List Call → Type 0) (began : E → O) (refuses : Refusing O) (lets_go : E → List Path → Type 0) (given_up : E → Type 0) (old : E) (a b : Option (List ℕ)) (s : List ℕ → Stream) (before : Bool) (failed : Counts) (paths : List Path) (f : EditFault) → StopsDeltas HasText shows began refuses old a b s before failed paths f → GivesUp lets_go given_up paths → AbandonsDeltas HasText shows began refuses lets_go given_up old a b s before failed f
abandons HasText shows began refuses lets_go given_up old a b s before failed paths f k g = record { paths = paths; stops = k; gives_up = g }

-- ---- where an editor has texts from

pub taken_from : {E O : Type 0} (has_text : O → Texts) (x y : O) (shows : E → List Call → Type 0) (old new : E) (a b : Option (List ℕ)) (s t : List ℕ → Stream) (o p : Option Difference) (stood stands : At → Type 0) (done is : Bool) → x ≡ y → done ≡ is → TakesOneBy (has_text x) shows old new a b s t o p stood stands done → TakesOneBy (has_text y) shows old new a b s t o p stood stands is
taken_from has_text x y shows old new a b s t o p stood stands done is e i h = subst (λ z. TakesOneBy (has_text z) shows old new a b s t o p stood stands is) e (subst (TakesOneBy (has_text x) shows old new a b s t o p stood stands) i h)

pub stops_from : {E O P : Type 0} (has_text : O → Texts) (x y : O) (shows : E → List Call → Type 0) (began : E → P) (refuses : Refusing P) (e : E) (stood : At → Type 0) (o : Option Difference) (a b : Option (List ℕ)) (s : List ℕ → Stream) (spent : Bool) (failed : Counts) (paths : List Path) (f : EditFault) → x ≡ y → StopsOneBy (has_text x) shows began refuses e stood o a b s spent failed paths f → StopsOneBy (has_text y) shows began refuses e stood o a b s spent failed paths f
stops_from has_text x y shows began refuses e stood o a b s spent failed paths f h k = subst (λ z. StopsOneBy (has_text z) shows began refuses e stood o a b s spent failed paths f) h k

pub came_from : {E O : Type 0} (texts : E → O) (has_text : O → Texts) (shows : E → List Call → Type 0) (old start new : E) (a b : Option (List ℕ)) (s t : List ℕ → Stream) (o : Option Difference) (stands : At → Type 0) → old ≡ start → ComesBy (has_text (texts old)) shows old new a b s t o stands → ComesBy (has_text (texts start)) shows start new a b s t o stands
came_from texts has_text shows old start new a b s t o stands e h = subst (λ x. ComesBy (has_text (texts x)) shows x new a b s t o stands) e h

pub stopped_from : {E O P : Type 0} (texts : E → O) (has_text : O → Texts) (shows : E → List Call → Type 0) (began : E → P) (refuses : Refusing P) (old start : E) (a b : Option (List ℕ)) (s : List ℕ → Stream) (spent : Bool) (failed : Counts) (paths : List Path) (f : EditFault) → old ≡ start → StopsDeltas (has_text (texts old)) shows began refuses old a b s spent failed paths f → StopsDeltas (has_text (texts start)) shows began refuses start a b s spent failed paths f
stopped_from texts has_text shows began refuses old start a b s spent failed paths f e h = subst (λ x. StopsDeltas (has_text (texts x)) shows began refuses x a b s spent failed paths f) e h

-- what holds where the commands stand holds where they stand with a difference
pub own_with : {E D F T : Type 0} (dp : D → Path) (fp : F → Path) (e : Edit E T D F) (o : Option Difference) (M : At → EditorFault → Type 0) (f : CommandFault) → IfOwn (λ x. (at : At) → StandsAt dp fp e at → M at x) f → IfOwn (λ x. (at : At) → StandsWith dp fp e o at → M at x) f
own_with dp fp e o M f h = own_map {P = λ x. (at : At) → StandsAt dp fp e at → M at x} {Q = λ x. (at : At) → StandsWith dp fp e o at → M at x} f (λ x m at k. m at k.0) h
