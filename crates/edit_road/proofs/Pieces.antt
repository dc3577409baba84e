-- Calls byte by byte: their effect, and their nesting.
use Rattle.std.proofs.Common.{◌≡◌, ℕ, Bool, true, false, cond, ◌&&◌, List, [], ◌∷◌, ◌++◌, map, Option, Some, None, refl, sym, ap, ◌∙◌, append_assoc, append-nil}
use Rattle.std.specs.Option.{option_map, option_and_then}
use Rattle.std.specs.List.{list_all}
use Rattle.node_base.specs.Path.{Path, same_path}
use Rattle.node_base.specs.Tree.{PathMap, changed_at}
use Rattle.node_base.specs.declared.node.Node.{Node}
use Rattle.delta_editor.specs.CallEffect.{called, all_called, with_piece}
use Rattle.delta_editor.specs.Nesting.{Stage, Before, Within, After, next, run, is_in_text}
use Rattle.delta_editor.specs.declared.call.Call.{Call}
use Rattle.delta_editor.specs.declared.call.Call.TheVariants as call
use Rattle.delta_editor.proofs.CallLemmas.{all_called-append, changed-twice}
use Rattle.ra_edit.specs.EditLaws.{each_byte, byte_by_byte, AreSameCalls}
use Rattle.edit_road.specs.Laws.{has_byte, HaveBytes}

abbrev pub Nodes : Type 0
Nodes = Path → Option Node

abbrev pub one : Path → ℕ → Call
one p b = call.TextPiece p (b ∷ [])

-- ---- the effect

text_twice : (a b : List ℕ) (o : Option (List ℕ)) → option_map (λ t. t ++ b) (option_map (λ t. t ++ a) o) ≡ option_map (λ t. t ++ (a ++ b)) o
text_twice a b None = refl
text_twice a b (Some t) = ap Some (append_assoc t a b)

text_same : (o : Option (List ℕ)) → option_map (λ t. t ++ []) o ≡ o
text_same None = refl
text_same (Some t) = ap Some (append-nil t)

piece_twice : (a b : List ℕ) (x : Node) → with_piece b (with_piece a x) ≡ with_piece (a ++ b) x
piece_twice a b x = ap (λ t. record { text = t; props = x.props; changed = x.changed }) (text_twice a b x.text)

piece_none : (x : Node) → with_piece [] x ≡ x
piece_none x = ap (λ t. record { text = t; props = x.props; changed = x.changed }) (text_same x.text)

changed_none : (h : Nodes) (p : Path) → ◌≡◌ {A = Nodes} h (changed_at h p (with_piece []))
changed_none h p = λ i q. at q i
  where
    at : (q : Path) → h q ≡ changed_at h p (with_piece []) q
    at q = elim (h q) as (λ (o : Option Node). o ≡ option_map (λ x. cond (same_path p q) (with_piece [] x) x) o) [
      | None ↦ refl
      | Some x ↦ ap Some (elim (same_path p q) as (λ b. x ≡ cond b (with_piece [] x) x) [ true ↦ sym (piece_none x) | false ↦ refl ])
    ]

changed_twice : (h : Nodes) (p : Path) (a b : List ℕ) → ◌≡◌ {A = Nodes} (changed_at (changed_at h p (with_piece a)) p (with_piece b)) (changed_at h p (with_piece (a ++ b)))
changed_twice h p a b = changed-twice h p (with_piece a) (with_piece b) ∙ (λ i. changed_at h p (λ x. piece_twice a b x i))

piece_by_bytes : (trees : List PathMap) (h : Nodes) (p : Path) (piece : List ℕ) → ◌≡◌ {A = Nodes} (all_called trees h (map (one p) piece)) (changed_at h p (with_piece piece))
piece_by_bytes trees h p [] = changed_none h p
piece_by_bytes trees h p (b ∷ piece) = piece_by_bytes trees (changed_at h p (with_piece (b ∷ []))) p piece ∙ changed_twice h p (b ∷ []) piece

call_by_bytes : (trees : List PathMap) (h : Nodes) (c : Call) → ◌≡◌ {A = Nodes} (all_called trees h (each_byte c)) (called trees h c)
call_by_bytes trees h (call.TextPiece p piece) = piece_by_bytes trees h p piece
call_by_bytes trees h (call.Target n) = refl
call_by_bytes trees h (call.OpenRoot base) = refl
call_by_bytes trees h (call.AddDir up p from) = refl
call_by_bytes trees h (call.OpenDir up p base) = refl
call_by_bytes trees h (call.DeleteEntry up p base) = refl
call_by_bytes trees h (call.AddFile up p from) = refl
call_by_bytes trees h (call.OpenFile up p base) = refl
call_by_bytes trees h (call.DirProp p name value) = refl
call_by_bytes trees h (call.FileProp p name value) = refl
call_by_bytes trees h (call.TextStart p) = refl
call_by_bytes trees h (call.TextEnd p) = refl
call_by_bytes trees h (call.CloseFile p sum) = refl
call_by_bytes trees h (call.CloseDir p) = refl
call_by_bytes trees h call.CloseEdit = refl

pub all_by_bytes : (trees : List PathMap) (h : Nodes) (cs : List Call) → ◌≡◌ {A = Nodes} (all_called trees h (byte_by_byte cs)) (all_called trees h cs)
all_by_bytes trees h [] = refl
all_by_bytes trees h (c ∷ cs) =
    all_called-append trees h (each_byte c) (byte_by_byte cs)
    ∙ ap (λ (f : Nodes). all_called trees f (byte_by_byte cs)) (call_by_bytes trees h c)
    ∙ all_by_bytes trees (called trees h c) cs

pub same_effect : (trees : List PathMap) (f : Nodes) (xs ys : List Call) → AreSameCalls xs ys → ◌≡◌ {A = Nodes} (all_called trees f xs) (all_called trees f ys)
same_effect trees f xs ys e = sym (all_by_bytes trees f xs) ∙ ap (all_called trees f) e ∙ all_by_bytes trees f ys

-- ---- the nesting

pub run_both : (s : Stage) (xs ys : List Call) → run s (xs ++ ys) ≡ option_and_then (λ t. run t ys) (run s xs)
run_both s [] ys = refl
run_both s (x ∷ xs) ys = elim (next s x) as (λ o. option_and_then (λ t. run t (xs ++ ys)) o ≡ option_and_then (λ t. run t ys) (option_and_then (λ t. run t xs) o)) [
  | None ↦ refl
  | Some t ↦ run_both t xs ys
]

-- a piece leaves what is open as it is, whatever bytes it has
stays : (p : Path) (x y : List ℕ) (s : Stage) → option_and_then (λ t. next t (call.TextPiece p y)) (next s (call.TextPiece p x)) ≡ next s (call.TextPiece p x)
stays p x y Before = refl
stays p x y After = refl
stays p x y (Within []) = refl
stays p x y (Within (o ∷ os)) =
    elim (is_in_text p o) as (λ b. is_in_text p o ≡ b → option_and_then (λ t. next t (call.TextPiece p y)) (cond b (Some (Within (o ∷ os))) None) ≡ cond b (Some (Within (o ∷ os))) None) [
      | true ↦ λ e i. cond (e i) (Some (Within (o ∷ os))) None
      | false ↦ λ e. refl
    ] refl

alike : (p : Path) (x y : List ℕ) (s : Stage) → next s (call.TextPiece p x) ≡ next s (call.TextPiece p y)
alike p x y Before = refl
alike p x y After = refl
alike p x y (Within os) = refl

last : (o : Option Stage) → option_and_then (λ t. run t []) o ≡ o
last None = refl
last (Some t) = refl

through : (o : Option Stage) (p : Path) (b : ℕ) (piece : List ℕ) → option_and_then (λ t. run t (one p b ∷ map (one p) piece)) o ≡ option_and_then (λ t. next t (one p b)) o
through None p b piece = refl
through (Some s) p b [] = last (next s (one p b))
through (Some s) p b (c ∷ piece) =
    through (next s (one p b)) p c piece
    ∙ stays p (b ∷ []) (c ∷ []) s

bytes_run : (s : Stage) (p : Path) (b : ℕ) (piece : List ℕ) → run s (map (one p) (b ∷ piece)) ≡ next s (call.TextPiece p (b ∷ piece))
bytes_run s p b piece = through (Some s) p b piece ∙ alike p (b ∷ []) (b ∷ piece) s

call_runs : (s : Stage) (c : Call) → has_byte c ≡ true → run s (each_byte c) ≡ next s c
call_runs s (call.TextPiece p []) h = cc
call_runs s (call.TextPiece p (b ∷ piece)) h = bytes_run s p b piece
call_runs s (call.Target n) h = last (next s (call.Target n))
call_runs s (call.OpenRoot base) h = last (next s (call.OpenRoot base))
call_runs s (call.AddDir up p from) h = last (next s (call.AddDir up p from))
call_runs s (call.OpenDir up p base) h = last (next s (call.OpenDir up p base))
call_runs s (call.DeleteEntry up p base) h = last (next s (call.DeleteEntry up p base))
call_runs s (call.AddFile up p from) h = last (next s (call.AddFile up p from))
call_runs s (call.OpenFile up p base) h = last (next s (call.OpenFile up p base))
call_runs s (call.DirProp p name value) h = last (next s (call.DirProp p name value))
call_runs s (call.FileProp p name value) h = last (next s (call.FileProp p name value))
call_runs s (call.TextStart p) h = last (next s (call.TextStart p))
call_runs s (call.TextEnd p) h = last (next s (call.TextEnd p))
call_runs s (call.CloseFile p sum) h = last (next s (call.CloseFile p sum))
call_runs s (call.CloseDir p) h = last (next s (call.CloseDir p))
call_runs s call.CloseEdit h = last (next s call.CloseEdit)

-- of two tests that hold together
pub first_holds : (a b : Bool) → (a && b) ≡ true → a ≡ true
first_holds true b h = refl
first_holds false b h = h

pub then_holds : (a b : Bool) → (a && b) ≡ true → b ≡ true
then_holds true b h = h
then_holds false b h = cc

both_run : (xs ys : List Call) → ((t : Stage) → run t xs ≡ run t ys) → (o : Option Stage) → option_and_then (λ t. run t xs) o ≡ option_and_then (λ t. run t ys) o
both_run xs ys h None = refl
both_run xs ys h (Some t) = h t

run_by_bytes : (s : Stage) (cs : List Call) → HaveBytes cs → run s (byte_by_byte cs) ≡ run s cs
run_by_bytes s [] h = refl
run_by_bytes s (c ∷ cs) h =
    run_both s (each_byte c) (byte_by_byte cs)
    ∙ ap (option_and_then (λ t. run t (byte_by_byte cs))) (call_runs s c (first_holds (has_byte c) (list_all has_byte cs) h))
    ∙ both_run (byte_by_byte cs) cs (λ t. run_by_bytes t cs (then_holds (has_byte c) (list_all has_byte cs) h)) (next s c)

pub same_nesting : (s : Stage) (xs ys : List Call) → HaveBytes xs → HaveBytes ys → AreSameCalls xs ys → run s xs ≡ run s ys
same_nesting s xs ys h k e = sym (run_by_bytes s xs h) ∙ ap (run s) e ∙ run_by_bytes s ys k
