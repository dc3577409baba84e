-- What a command asks for is what its item says.
use Rattle.std.proofs.Common.{◌≡◌, ℕ, List, [], ◌∷◌, ◌++◌, Option, Some, sym, ap, ◌∙◌, append-nil}
use Rattle.std.specs.Prelude.{map}
use Rattle.std.specs.Option.{option_and_then, option_map}
use Rattle.std.proofs.lemmas.List.{map-append}
use Rattle.ra_item.specs.Items.{Item, Items, Number, Text, Then}
use Rattle.node_base.specs.Path.{Path, Name}
use Rattle.node_base.specs.declared.node.Source.{Source}
use Rattle.delta_editor.specs.declared.call.Call.{Call}
use Rattle.delta_editor.specs.declared.call.Call.TheVariants as call
use Rattle.ra_edit.specs.Edits.{IsRevision, IsString, IsSum, IsSource, Held, Within, Named, IsOpenDir, At, Begun, Targeted, Inside, Ended, Says, last_calls}
use Rattle.ra_edit.specs.Receiving.{IsPath, IsPropName, Forms}
use Rattle.ra_edit.specs.Refusals.{open_of, path_at, held_at, is_rooted, ReadFirst, Asks}
use Rattle.svndiff.specs.Streams.{Stream, Reads, Refuses, reading, pieces_in}
use Rattle.ra_edit.specs.declared.receive_command.Command.{Command}
use Rattle.ra_edit.specs.declared.receive_command.Command.TheVariants as command
use Rattle.ra_edit.proofs.OneEdit.{Said, said, base_of, string_of, sum_of, revision_says, source_says, string_says, sum_says, then_path, path_said, then_name, name_said, target, add_dir, open_dir, delete_entry, add_file, open_file, dir_prop, file_prop, text_start, grown, taken, chunk, ended, text_end, close_file, close_dir, finish, by_item, by, Distinct, found, says_this, calls_of}

abbrev Answer : Type 0
Answer = List Call × At

-- that and nothing more
exactly : (s l : List Call) → s ≡ l → (rest : List Call) × (s ≡ l ++ rest)
exactly s l e = ([], e ∙ sym (append-nil l))

-- one call is said
one : (c : Call) (to : At) (s : Answer) → said (c ∷ []) to ≡ Some s → s.0 ≡ c ∷ []
one c to s e = sym (ap calls_of e)

by_says : (at : At) (x : Item) (s : Answer) → by at x ≡ Some s → by_item at x ≡ Some s
by_says Ended x s e = cc
by_says at x s e = e

path_says : (p : Path) (q : Item) (f : Path → Said) → IsPath p q → then_path q f ≡ f p
path_says p q f h = ap (λ y. then_path y f) h.2 ∙ path_said h.0 p f h.1

name_says : (n : List ℕ) (q : Item) (f : Name → Said) → IsPropName n q → then_name q f ≡ f n
name_says n q f h = ap (λ y. then_name y f) h.2 ∙ name_said h.0 n f h.1

-- ---- each command

target_asks : (at : At) (n : ℕ) (ps : Items) (s : Answer) → target at (Then (Number n) ps) ≡ Some s → s.0 ≡ call.Target n ∷ []
target_asks Begun n ps s e = one (call.Target n) Targeted s e
target_asks at n ps s e = cc

-- a call at a path that is read, with what stands beside it
at_path : {A : Type 0} (k : Path → A → Call) (to : Path → At) (q : Item) (p : Path) (found is : A) (s : Answer) → IsPath p q → found ≡ is → then_path q (λ p. said (k p found ∷ []) (to p)) ≡ Some s → s.0 ≡ k p is ∷ []
at_path k to q p found is s path same e = one (k p found) (to p) s (sym (path_says p q (λ p. said (k p found ∷ []) (to p)) path) ∙ e) ∙ ap (λ v. k p v ∷ []) same

delete_asks : (at : At) (q b : Item) (p : Path) (base : Option ℕ) (ps : Items) (s : Answer) → IsPath p q → IsRevision base b → delete_entry at (Then q (Then b ps)) ≡ Some s → s.0 ≡ call.DeleteEntry (path_at at) p base ∷ []
delete_asks (Inside (o ∷ os)) q b p base ps s path rev e = at_path (call.DeleteEntry o.path) _ q p _ base s path (revision_says base b rev) e
delete_asks _ q b p base ps s path rev e = cc

add_dir_asks : (at : At) (q u t z : Item) (p : Path) (from : Option Source) (ps : Items) (s : Answer) → IsPath p q → IsSource from z → add_dir at (Then q (Then u (Then t (Then z ps)))) ≡ Some s → s.0 ≡ call.AddDir (path_at at) p from ∷ []
add_dir_asks (Inside (o ∷ os)) q u t z p from ps s path src e = at_path (call.AddDir o.path) _ q p _ from s path (source_says from z src) e
add_dir_asks _ q u t z p from ps s path src e = cc

open_dir_asks : (at : At) (q u t b : Item) (p : Path) (base : Option ℕ) (ps : Items) (s : Answer) → IsPath p q → IsRevision base b → open_dir at (Then q (Then u (Then t (Then b ps)))) ≡ Some s → s.0 ≡ call.OpenDir (path_at at) p base ∷ []
open_dir_asks (Inside (o ∷ os)) q u t b p base ps s path rev e = at_path (call.OpenDir o.path) _ q p _ base s path (revision_says base b rev) e
open_dir_asks _ q u t b p base ps s path rev e = cc

add_file_asks : (at : At) (q u t z : Item) (p : Path) (from : Option Source) (ps : Items) (s : Answer) → IsPath p q → IsSource from z → add_file at (Then q (Then u (Then t (Then z ps)))) ≡ Some s → s.0 ≡ call.AddFile (path_at at) p from ∷ []
add_file_asks (Inside (o ∷ os)) q u t z p from ps s path src e = at_path (call.AddFile o.path) _ q p _ from s path (source_says from z src) e
add_file_asks _ q u t z p from ps s path src e = cc

open_file_asks : (at : At) (q u t b : Item) (p : Path) (base : Option ℕ) (ps : Items) (s : Answer) → IsPath p q → IsRevision base b → open_file at (Then q (Then u (Then t (Then b ps)))) ≡ Some s → s.0 ≡ call.OpenFile (path_at at) p base ∷ []
open_file_asks (Inside (o ∷ os)) q u t b p base ps s path rev e = at_path (call.OpenFile o.path) _ q p _ base s path (revision_says base b rev) e
open_file_asks _ q u t b p base ps s path rev e = cc

dir_prop_asks : (at : At) (t : List ℕ) (q v : Item) (p : Path) (n : List ℕ) (value : Option (List ℕ)) (ps : Items) (s : Answer) → Distinct at → IsOpenDir t p (open_of at) → IsPropName n q → IsString value v → dir_prop at (Then (Text t) (Then q (Then v ps))) ≡ Some s → s.0 ≡ call.DirProp p n value ∷ []
dir_prop_asks (Inside os) t q v p n value ps s d is name str e =
    let f : Path → Said = λ p. then_name q (λ n. said (call.DirProp p n (string_of v) ∷ []) (Inside os)) in
    one (call.DirProp p n (string_of v)) (Inside os) s
    (sym (ap (option_and_then f) (found t p is.0 is.1 os is.2 d) ∙ name_says n q (λ n. said (call.DirProp p n (string_of v) ∷ []) (Inside os)) name) ∙ e)
    ∙ ap (λ x. call.DirProp p n x ∷ []) (string_says value v str)
dir_prop_asks _ t q v p n value ps s d is name str e = cc

file_prop_asks : (at : At) (t q v : Item) (n : List ℕ) (value : Option (List ℕ)) (ps : Items) (s : Answer) → IsPropName n q → IsString value v → file_prop at (Then t (Then q (Then v ps))) ≡ Some s → s.0 ≡ call.FileProp (path_at at) n value ∷ []
file_prop_asks (Inside (o ∷ os)) t q v n value ps s name str e =
    one (call.FileProp o.path n (string_of v)) _ s (sym (name_says n q _ name) ∙ e)
    ∙ ap (λ x. call.FileProp o.path n x ∷ []) (string_says value v str)
file_prop_asks _ t q v n value ps s name str e = cc

start_asks : (at : At) (ps : Items) (s : Answer) → text_start at ps ≡ Some s → s.0 ≡ call.TextStart (path_at at) ∷ []
start_asks (Inside (o ∷ os)) ps s e = one (call.TextStart o.path) _ s e
start_asks _ ps s e = cc

grown_asks : (o : Named) (os : List Named) (all pieces more : List (List ℕ)) (t : Stream) (s : Answer) → all ≡ pieces ++ more → grown o os all t ≡ Some s → (rest : List Call) × (s.0 ≡ map (call.TextPiece o.path) pieces ++ rest)
grown_asks o os all pieces more (Reads text r) s k e = (map (call.TextPiece o.path) more, sym (ap calls_of e) ∙ ap (map (call.TextPiece o.path)) k ∙ map-append (call.TextPiece o.path) pieces more)
grown_asks o os all pieces more (Refuses text f) s k e = cc

taken_asks : (o : Named) (os : List Named) (bytes : List ℕ) (held : Held) (pieces : List (List ℕ)) (s : Answer) → ReadFirst held bytes pieces → taken o os bytes held ≡ Some s → (rest : List Call) × (s.0 ≡ map (call.TextPiece o.path) pieces ++ rest)
taken_asks o os bytes (Within text r) pieces s h e = grown_asks o os (pieces_in r bytes) pieces (pieces_in h.1 h.0) (reading (Reads text r) bytes) s h.3 e
taken_asks o os bytes held pieces s h e = absurd h

chunk_asks : (at : At) (t : Item) (bytes : List ℕ) (ps : Items) (pieces : List (List ℕ)) (s : Answer) → ReadFirst (held_at at) bytes pieces → chunk at (Then t (Then (Text bytes) ps)) ≡ Some s → (rest : List Call) × (s.0 ≡ map (call.TextPiece (path_at at)) pieces ++ rest)
chunk_asks (Inside (o ∷ os)) t bytes ps pieces s h e = taken_asks o os bytes o.held pieces s h e
chunk_asks _ t bytes ps pieces s h e = cc

ended_asks : (o : Named) (os : List Named) (held : Held) (s : Answer) → ended o os held ≡ Some s → s.0 ≡ call.TextEnd o.path ∷ []
ended_asks o os (Within text r) s e = one (call.TextEnd o.path) _ s e
ended_asks o os held s e = cc

end_asks : (at : At) (ps : Items) (s : Answer) → text_end at ps ≡ Some s → s.0 ≡ call.TextEnd (path_at at) ∷ []
end_asks (Inside (o ∷ os)) ps s e = ended_asks o os o.held s e
end_asks _ ps s e = cc

close_file_asks : (at : At) (t z : Item) (sum : Option (List ℕ)) (ps : Items) (s : Answer) → IsSum sum z → close_file at (Then t (Then z ps)) ≡ Some s → s.0 ≡ call.CloseFile (path_at at) sum ∷ []
close_file_asks (Inside (o ∷ os)) t z sum ps s is e = one (call.CloseFile o.path (sum_of z)) (Inside os) s e ∙ ap (λ x. call.CloseFile o.path x ∷ []) (sum_says sum z is)
close_file_asks _ t z sum ps s is e = cc

close_dir_asks : (at : At) (ps : Items) (s : Answer) → close_dir at ps ≡ Some s → s.0 ≡ call.CloseDir (path_at at) ∷ []
close_dir_asks (Inside (o ∷ os)) ps s e = one (call.CloseDir o.path) (Inside os) s e
close_dir_asks _ ps s e = cc

finish_asks : (at : At) (s : Answer) → finish at ≡ Some s → s.0 ≡ last_calls (is_rooted at)
finish_asks Begun s e = sym (ap calls_of e)
finish_asks at s e = sym (ap calls_of e)

-- ---- any command

asks : (c : Command) (at : At) (x : Item) (s : Answer) (l : List Call) → Distinct at → by_item at x ≡ Some s → Forms c x → Asks at c l → (rest : List Call) × (s.0 ≡ l ++ rest)
asks (command.Target n) at x s l d e h a = exactly s.0 l (target_asks at n _ s (sym (ap (by_item at) h.1.2) ∙ e) ∙ sym a)
asks (command.OpenRoot b t) at x s l d e h a =
    exactly s.0 l (one (call.OpenRoot (base_of h.0)) _ s (sym (ap (by_item at) h.2.2) ∙ e) ∙ ap (λ v. call.OpenRoot v ∷ []) (revision_says b h.0 h.1) ∙ sym a)
asks (command.DeleteEntry p b u) at x s l d e h a = exactly s.0 l (delete_asks at h.0 h.1 p b _ s h.2 h.3 (sym (ap (by_item at) h.4.2) ∙ e) ∙ sym a)
asks (command.AddDir p u t f) at x s l d e h a = exactly s.0 l (add_dir_asks at h.0 _ _ h.1 p f _ s h.2 h.3 (sym (ap (by_item at) h.4.2) ∙ e) ∙ sym a)
asks (command.OpenDir p u t b) at x s l d e h a = exactly s.0 l (open_dir_asks at h.0 _ _ h.1 p b _ s h.2 h.3 (sym (ap (by_item at) h.4.2) ∙ e) ∙ sym a)
asks (command.DirProp t n v) at x s l d e h a = exactly s.0 l (dir_prop_asks at t.items h.0 h.1 a.0 n (option_map (λ s. s.items) v) _ s d a.1 h.2 h.3 (sym (ap (by_item at) h.4.2) ∙ e) ∙ sym a.2)
asks (command.CloseDir t) at x s l d e h a = exactly s.0 l (close_dir_asks at _ s (sym (ap (by_item at) h.2) ∙ e) ∙ sym a)
asks (command.AddFile p u t f) at x s l d e h a = exactly s.0 l (add_file_asks at h.0 _ _ h.1 p f _ s h.2 h.3 (sym (ap (by_item at) h.4.2) ∙ e) ∙ sym a)
asks (command.OpenFile p u t b) at x s l d e h a = exactly s.0 l (open_file_asks at h.0 _ _ h.1 p b _ s h.2 h.3 (sym (ap (by_item at) h.4.2) ∙ e) ∙ sym a)
asks (command.FileProp t n v) at x s l d e h a = exactly s.0 l (file_prop_asks at _ h.0 h.1 n (option_map (λ s. s.items) v) _ s h.2 h.3 (sym (ap (by_item at) h.4.2) ∙ e) ∙ sym a)
asks (command.TextStart t) at x s l d e h a = exactly s.0 l (start_asks at _ s (sym (ap (by_item at) h.1.2) ∙ e) ∙ sym a)
asks (command.Chunk t b) at x s l d e h a =
    let k = chunk_asks at _ b.items _ a.0 s a.1 (sym (ap (by_item at) h.2) ∙ e) in
    (k.0, k.1 ∙ ap (λ m. m ++ k.0) (sym a.2))
asks (command.TextEnd t) at x s l d e h a = exactly s.0 l (end_asks at _ s (sym (ap (by_item at) h.2) ∙ e) ∙ sym a)
asks (command.CloseFile t m) at x s l d e h a = exactly s.0 l (close_file_asks at _ h.0 m _ s h.1 (sym (ap (by_item at) h.2.2) ∙ e) ∙ sym a)
asks command.CloseEdit at x s l d e h a = absurd a
asks command.Finish at x s l d e h a = exactly s.0 l (finish_asks at s (sym (ap (by_item at) h.2) ∙ e) ∙ sym a)
asks command.Abort at x s l d e h a = absurd a

pub asked : (at to : At) (x : Item) (calls l : List Call) (c : Command) → Distinct at → Says at x calls to → Forms c x → Asks at c l → (rest : List Call) × (calls ≡ l ++ rest)
asked at to x calls l c d says forms a = asks c at x (calls, to) l d (by_says at x (calls, to) (says_this at to x calls d says)) forms a
