-- Items of a drive, one after another.
use Rattle.std.proofs.Common.{◌≡◌, ℕ, Bool, true, false, inl, inr, List, [], ◌∷◌, ◌++◌, Option, refl, sym, subst, append_assoc, append-nil, codes}
use Rattle.ra_item.specs.Items.{Item}
use Rattle.ra_item.specs.Streams.{Stream}
use Rattle.delta_editor.specs.declared.call.Call.{Call}
use Rattle.ra_edit.specs.Edits.{At, Begun, Ended, Says, AllSay, Nothing, Then, IsCommand}
use Rattle.ra_edit.specs.Edit.{Stands, Moves, Finishes, GivesUp}
use Rattle.byte_streams.specs.Causes.{Counts, Fails}
use Rattle.ra_edit.specs.EditFaults.{of_command}
use Rattle.ra_item.specs.ItemStreams.{Takes, Ends, Stops}
use Rattle.ra_edit.specs.Received.{Goes, Comes, Received, IsRefused, StopsBehind, ShownBefore, StillOpen, StopsWith, Abandons}
use Rattle.ra_edit.specs.Refusals.{refusal, RefusedFor, Meets, IfOwn, paths_at}
use Rattle.ra_edit.specs.declared.receive_command.Command.{Command}
use Rattle.node_base.specs.Path.{Path}
use Rattle.delta_editor.specs.declared.fault.EditorFault.{EditorFault}
use Rattle.ra_edit.specs.declared.receive_command.Command.TheVariants as command
use Rattle.ra_edit.specs.declared.command_fault.CommandFault.{CommandFault}
use Rattle.ra_edit.specs.declared.receive_edit.OpenDir.{OpenDir}
use Rattle.ra_edit.specs.declared.receive_edit.OpenFile.{OpenFile}
use Rattle.ra_edit.specs.declared.receive_edit.Stage.{Stage}
use Rattle.ra_edit.specs.declared.receive_edit.Stage.TheVariants as stage
use Rattle.ra_edit.specs.declared.edit_fault.EditFault.{EditFault}
use Rattle.ra_item.proofs.Streaming.{takes_none, takes_more, takes_end, takes_stop}
use Rattle.ra_edit.proofs.OwnRefusals.{own_map, met_before}
use Rattle.ra_edit.proofs.LeftOpen.{all_still}
use Rattle.ra_edit.proofs.Steps.{adds_join}

-- one item more
pub say_more : (at mid end : At) (items : List Item) (calls more : List Call) (item : Item) → AllSay at items calls mid → Says mid item more end → AllSay at (items ++ item ∷ []) (calls ++ more) end
say_more at mid end [] [] more item (Nothing x) s = subst (λ l. AllSay at (item ∷ []) l end) (append-nil more) (Then at end end item [] more [] s (Nothing end))
say_more at mid end all both more item (Then from next last z rest first others one behind) s =
    subst (λ l. AllSay from (z ∷ (rest ++ item ∷ [])) l end) (sym (append_assoc first others more)) (Then from next end z (rest ++ item ∷ []) first (others ++ more) one (say_more next mid end rest others more item behind s))

-- nothing was read
pub goes_none : {E : Type 0} (shows : E → List Call → Type 0) (e : E) (a : Option (List ℕ)) (s : List ℕ → Stream) (stands : At → Type 0) → stands Begun → Goes shows e e a a s s stands
goes_none shows e a s stands h = record { items = []; calls = []; at = Begun; taken = takes_none a s; say = Nothing Begun; shown = λ calls k. subst (shows e) (sym (append-nil calls)) k; here = h }

-- one item more was read
pub goes_more : {E : Type 0} (shows : E → List Call → Type 0) (old mid new : E) (a b d : Option (List ℕ)) (s t u : List ℕ → Stream) (stood stands : At → Type 0) (item : Item) → Goes shows old mid a b s t stood → Takes (item ∷ []) b d t u → ((at : At) → stood at → Moves shows mid new item at stands) → Goes shows old new a d s u stands
goes_more shows old mid new a b d s t u stood stands item k took step =
    let m = step k.at k.here in
    record {
      items = k.items ++ item ∷ [];
      calls = k.calls ++ m.calls;
      at = m.to;
      taken = takes_more k.items (item ∷ []) a b d s t u k.taken took;
      say = say_more Begun k.at m.to k.items k.calls m.calls item k.say m.says;
      shown = adds_join shows old mid new k.calls m.calls k.shown m.shown;
      here = m.now;
    }

-- `finish-replay` was read
pub comes : {E : Type 0} (shows : E → List Call → Type 0) (old mid new : E) (a b d : Option (List ℕ)) (s t u : List ℕ → Stream) (stood stands : At → Type 0) (item : Item) → Goes shows old mid a b s t stood → Takes (item ∷ []) b d t u → ((at : At) → stood at → IsCommand (codes "finish-replay") [] item × (new ≡ mid) × stands at) → Comes shows old new a d s u stands
comes shows old mid new a b d s t u stood stands item k took step =
    let m = step k.at k.here in
    record {
      items = k.items;
      last = item;
      calls = k.calls;
      at = k.at;
      taken = takes_more k.items (item ∷ []) a b d s t u k.taken took;
      say = k.say;
      end = m.0;
      shown = λ calls h. subst (λ e. shows e (calls ++ k.calls)) (sym m.1) (k.shown calls h);
      here = m.2;
    }

-- the edit was ended
pub received : {E D : Type 0} (shows : E → List Call → Type 0) (done_shows : D → List Call → Type 0) (start old new : E) (done : D) (a b : Option (List ℕ)) (s t : List ℕ → Stream) (stands : At → Type 0) → old ≡ start → Comes shows old new a b s t stands → ((at : At) (item : Item) → IsCommand (codes "finish-replay") [] item → stands at → Finishes shows done_shows new done item at) → Received shows done_shows start done a b s t
received shows done_shows start old new done a b s t stands e k finish =
    let f = finish k.at k.last k.end k.here in
    record {
      items = k.items ++ k.last ∷ [];
      calls = k.calls ++ f.0;
      taken = k.taken;
      spelled = say_more Begun k.at Ended k.items k.calls f.0 k.last k.say f.1;
      shown = λ shown h. subst (done_shows done) (append_assoc shown k.calls f.0) (f.2 (shown ++ k.calls) (k.shown shown (subst (λ x. shows x shown) (sym e) h)));
    }

-- ---- refusals

-- where an edit's commands stand, it hasn't ended
pub not_ended : {D F : Type 0} (dp : D → Path) (fp : F → Path) (st : Stage) (dirs : List (OpenDir D)) (file : Option (OpenFile F)) (at : At) → Stands dp fp st dirs file at → at ≡ Ended → ⊥
not_ended dp fp stage.Inside dirs file at h e = cc h.1
not_ended dp fp st dirs file at h e = cc h.0

pub spent_not : (new old : Bool) → new ≡ false → new ≡ true → old ≡ true
spent_not true old e h = cc
spent_not false old e h = cc

-- what the editor may meet behind other calls
pub lifted : (own met : At → Command → EditorFault → Type 0) (at : At) (item : Item) (why : CommandFault) → ((c : Command) (e : EditorFault) → own at c e → met at c e) → IsRefused own at item why → IsRefused met at item why
lifted own met at item why lift (inl k) = inl k
lifted own met at item why lift (inr k) = inr (k.0, k.1, k.2, own_map why (λ e. lift k.0 e) k.3)

-- a refusal behind items that were taken
pub stops_behind : (own met : At → Command → EditorFault → Type 0) (xs : List Item) (at : At) (stood : At → Type 0) (f : EditFault) (a b d : Option (List ℕ)) (s t : List ℕ → Stream) (before spent : Bool) (now failed : Counts) → ((c : Command) (e : EditorFault) → own at c e → met at c e) → stood at → Takes xs a b s t → (spent ≡ true → before ≡ true) → (Fails now → Fails failed) → StopsBehind own [] stood b d t spent now f → StopsBehind met xs (λ x. x ≡ at) a d s before failed f
stops_behind own met xs at stood f a b d s t before spent now failed lift here p g h (inl q) = inl (q.0, q.1, subst (λ l. Stops l a d s before failed q.0) (append-nil xs) (takes_stop xs [] q.0 a b d s t before spent now failed p g h q.2))
stops_behind own met xs at stood f a b d s t before spent now failed lift here p g h (inr (inl q)) = inr (inl (q.0, subst (λ l. Ends l true a d s) (append-nil xs) (takes_end xs [] true a b d s t p q.1)))
stops_behind own met xs at stood f a b d s t before spent now failed lift here p g h (inr (inr q)) = inr (inr (record { item = q.item; why = q.why; is = q.is; taken = takes_more xs (q.item ∷ []) a b d s t q.is p q.taken; same = q.same; due = λ x e. subst (λ y. IsRefused met y q.item q.why) (sym e) (lifted own met at q.item q.why lift (q.due at here)) }))

pub drive_stops : {E O : Type 0} (shows : E → List Call → Type 0) (began : E → O) (refuses : O → List Call → Call → EditorFault → Type 0) (old mid : E) (a b d : Option (List ℕ)) (s t : List ℕ → Stream) (before spent : Bool) (now failed : Counts) (stood : At → Type 0) (paths : List Path) (f : EditFault) → began mid ≡ began old → ((x : At) → stood x → x ≡ Ended → ⊥) → Goes shows old mid a b s t stood → (spent ≡ true → before ≡ true) → (Fails now → Fails failed) → StopsBehind (Meets shows began refuses mid) [] stood b d t spent now f → ((x : At) → stood x → StillOpen x f paths) → StopsWith shows began refuses old a d s before failed paths f
drive_stops shows began refuses old mid a b d s t before spent now failed stood paths f same stay k g h q still = record {
  drive = record { items = k.items; calls = k.calls; at = k.at; say = k.say; unended = stay k.at k.here; stops = stops_behind (Meets shows began refuses mid) (Meets (ShownBefore shows k.calls) began refuses old) k.items k.at stood f a b d s t before spent now failed (λ c e. met_before shows began refuses old mid k.calls k.at c e k.shown same) k.here k.taken g h q };
  still = still k.at k.here;
}

-- at the end of a drive
pub end_stops : {E O : Type 0} (shows : E → List Call → Type 0) (began : E → O) (refuses : O → List Call → Call → EditorFault → Type 0) (old new : E) (a b : Option (List ℕ)) (s t : List ℕ → Stream) (before : Bool) (failed : Counts) (stands : At → Type 0) (paths : List Path) (f : CommandFault) → began new ≡ began old → ((at : At) → stands at → RefusedFor f (refusal at command.Finish)) → IfOwn (λ e. (at : At) → stands at → Meets shows began refuses new at command.Finish e) f → ((x : At) → stands x → x ≡ Ended → ⊥) → ((x : At) → stands x → paths ≡ paths_at x) → Comes shows old new a b s t stands → StopsWith shows began refuses old a b s before failed paths (of_command f)
end_stops shows began refuses old new a b s t before failed stands paths f same why own stay open_there k = record {
  drive = record {
    items = k.items;
    calls = k.calls;
    at = k.at;
    say = k.say;
    unended = stay k.at k.here;
    stops = inr (inr (record { item = k.last; why = f; is = t; taken = k.taken; same = refl; due = λ x e. subst (λ y. IsRefused (Meets (ShownBefore shows k.calls) began refuses old) y k.last f) (sym e) (inr (command.Finish, k.end, why k.at k.here, own_map f (λ g m. met_before shows began refuses old new k.calls k.at command.Finish g k.shown same (m k.at k.here)) own)) }));
  };
  still = all_still k.at (of_command f) paths (open_there k.at k.here);
}

-- and the edit is given up
pub abandons : {E O : Type 0} (shows : E → List Call → Type 0) (began : E → O) (refuses : O → List Call → Call → EditorFault → Type 0) (lets_go : E → List Path → Type 0) (given_up : E → Type 0) (start old : E) (a b : Option (List ℕ)) (s : List ℕ → Stream) (before : Bool) (failed : Counts) (paths : List Path) (f : EditFault) → old ≡ start → StopsWith shows began refuses old a b s before failed paths f → GivesUp lets_go given_up paths → Abandons shows began refuses lets_go given_up start a b s before failed f
abandons shows began refuses lets_go given_up start old a b s before failed paths f is k g = record { paths = paths; stops = subst (λ x. StopsWith shows began refuses x a b s before failed paths f) is k; gives_up = g }
