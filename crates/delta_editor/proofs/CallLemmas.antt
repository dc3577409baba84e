-- What follows from the definition of the calls' effect.
use Rattle.std.proofs.Common.{◌≡◌, ℕ, Bool, true, false, cond, List, [], ◌∷◌, ◌++◌, length, map, filter, Option, Some, None, IfSome, is_some, refl, sym, ap, subst, ◌∙◌, append_assoc, append-nil, length-append, arith}
use Rattle.std.specs.Option.{option_map, option_map_or}
use Rattle.std.specs.List.{concat}
use Rattle.std.specs.FinMap.{get, get-remove, get-insert}
use Rattle.node_base.specs.Path.{Name, Path, same_path, same_name, names_total, is_front, rest_after}
use Rattle.node_base.specs.Props.{PropMap}
use Rattle.node_base.specs.Tree.{PathMap, changed_at, marked, grafted, with_number, source_at, alone, blank}
use Rattle.node_base.specs.declared.node.Node.{Node}
use Rattle.node_base.specs.declared.node.NodeKind.{NodeKind}
use Rattle.node_base.specs.declared.node.NodeKind.TheVariants.{File, Dir}
use Rattle.node_base.specs.declared.node.Source.{Source}
use Rattle.node_base.proofs.PathLemmas.{append_of_rest, differs_of_no_rest, rest_after-append}
use Rattle.delta_editor.specs.Calls.{Call}
use Rattle.delta_editor.specs.declared.call.Call.TheVariants as call
use Rattle.delta_editor.specs.CallEffect.{called, all_called, added, prop_put, with_text, with_piece, with_prop}
use Rattle.delta_editor.specs.Laws.{says, touched, place}

abbrev pub Nodes : Type 0
Nodes = Path → Option Node

pub all_called-append : (trees : List PathMap) (f : Nodes) (cs ds : List Call) → ◌≡◌ {A = Nodes} (all_called trees f (cs ++ ds)) (all_called trees (all_called trees f cs) ds)
all_called-append trees f [] ds = refl
all_called-append trees f (c ∷ cs) ds = all_called-append trees (called trees f c) cs ds

-- ---- what says nothing

pub all_called-filter : (trees : List PathMap) (f : Nodes) (cs : List Call) → ◌≡◌ {A = Nodes} (all_called trees f cs) (all_called trees f (filter says cs))
all_called-filter trees f [] = refl
all_called-filter trees f (call.Target n ∷ cs) = all_called-filter trees f cs
all_called-filter trees f (call.OpenRoot base ∷ cs) = all_called-filter trees (called trees f (call.OpenRoot base)) cs
all_called-filter trees f (call.AddDir up p from ∷ cs) = all_called-filter trees (called trees f (call.AddDir up p from)) cs
all_called-filter trees f (call.OpenDir up p base ∷ cs) = all_called-filter trees (called trees f (call.OpenDir up p base)) cs
all_called-filter trees f (call.DeleteEntry up p base ∷ cs) = all_called-filter trees (called trees f (call.DeleteEntry up p base)) cs
all_called-filter trees f (call.AddFile up p from ∷ cs) = all_called-filter trees (called trees f (call.AddFile up p from)) cs
all_called-filter trees f (call.OpenFile up p base ∷ cs) = all_called-filter trees (called trees f (call.OpenFile up p base)) cs
all_called-filter trees f (call.DirProp p name value ∷ cs) = all_called-filter trees (called trees f (call.DirProp p name value)) cs
all_called-filter trees f (call.FileProp p name value ∷ cs) = all_called-filter trees (called trees f (call.FileProp p name value)) cs
all_called-filter trees f (call.TextStart p ∷ cs) = all_called-filter trees (called trees f (call.TextStart p)) cs
all_called-filter trees f (call.TextPiece p piece ∷ cs) = all_called-filter trees (called trees f (call.TextPiece p piece)) cs
all_called-filter trees f (call.TextEnd p ∷ cs) = all_called-filter trees f cs
all_called-filter trees f (call.CloseFile p sum ∷ cs) = all_called-filter trees f cs
all_called-filter trees f (call.CloseDir p ∷ cs) = all_called-filter trees f cs
all_called-filter trees f (call.CloseEdit ∷ cs) = all_called-filter trees f cs

-- ---- texts

pub changed-twice : (h : Nodes) (p : Path) (g k : Node → Node) → ◌≡◌ {A = Nodes} (changed_at (changed_at h p g) p k) (changed_at h p (λ x. k (g x)))
changed-twice h p g k = λ i q. at q i
  where
    at : (q : Path) → changed_at (changed_at h p g) p k q ≡ changed_at h p (λ x. k (g x)) q
    at q = elim (h q) as (λ (o : Option Node). option_map (λ x. cond (same_path p q) (k x) x) (option_map (λ x. cond (same_path p q) (g x) x) o) ≡ option_map (λ x. cond (same_path p q) (k (g x)) x) o) [
      | None ↦ refl
      | Some x ↦ ap Some (elim (same_path p q) as (λ b. cond b (k (cond b (g x) x)) (cond b (g x) x) ≡ cond b (k (g x)) x) [ true ↦ refl | false ↦ refl ])
    ]

pub called-pieces : (trees : List PathMap) (h : Nodes) (p : Path) (t : List ℕ) (ps : List (List ℕ)) → ◌≡◌ {A = Nodes} (all_called trees (changed_at h p (with_text (Some t))) (map (call.TextPiece p) ps)) (changed_at h p (with_text (Some (t ++ concat ps))))
called-pieces trees h p t [] = ap (λ z. changed_at h p (with_text (Some z))) (sym (append-nil t))
called-pieces trees h p t (x ∷ ps) =
    ap (λ (f : Nodes). all_called trees f (map (call.TextPiece p) ps)) (changed-twice h p (with_text (Some t)) (with_piece x))
    ∙ called-pieces trees h p (t ++ x) ps
    ∙ ap (λ z. changed_at h p (with_text (Some z))) (append_assoc t x (concat ps))

pub called-text : (trees : List PathMap) (h : Nodes) (p : Path) (ps : List (List ℕ)) → ◌≡◌ {A = Nodes} (all_called trees h (call.TextStart p ∷ (map (call.TextPiece p) ps ++ call.TextEnd p ∷ []))) (changed_at h p (with_text (Some (concat ps))))
called-text trees h p ps = all_called-append trees (changed_at h p (with_text (Some []))) (map (call.TextPiece p) ps) (call.TextEnd p ∷ []) ∙ called-pieces trees h p [] ps

-- ---- properties

pub get-prop_put : (k : Name) (v : Option (List ℕ)) (m : PropMap) (q : Name) → get (prop_put k v m) q ≡ cond (same_name q k) v (get m q)
get-prop_put k None m q = get-remove names_total m k q
get-prop_put k (Some v) m q = get-insert names_total m k v q

-- ---- places

-- a node that is there has the number
abbrev HasNumber : ℕ → Option Node → Type 0
HasNumber n o = IfSome o (λ x. x.changed ≡ n)

mapped-numbered : (n : ℕ) (b : Bool) (o : Option Node) → b ≡ true → HasNumber n (option_map (λ x. cond b (with_number n x) x) o)
mapped-numbered n b None e = tt
mapped-numbered n b (Some x) e = subst (λ c. (cond c (with_number n x) x).changed ≡ n) (sym e) refl

empty_of_longer : (p r s : Path) → p ≡ p ++ (r ++ s) → r ≡ []
empty_of_longer p [] s e = refl
empty_of_longer p (n ∷ r) s e = absurd (omega (arith, ap length e ∙ length-append p ((n ∷ r) ++ s)))

-- a front of a path that goes on from the path is the path
rest_of_fronts : (p q r : Path) → is_front q p ≡ true → rest_after p q ≡ Some r → same_path r [] ≡ true
rest_of_fronts p q r e h =
    elim (rest_after q p) as (λ (o : Option Path). rest_after q p ≡ o → is_some o ≡ true → same_path r [] ≡ true) [
      | None ↦ λ k z. cc z
      | Some s ↦ λ k z. ap (λ t. same_path t []) (empty_of_longer p r s (append_of_rest q p s k ∙ ap (λ z. z ++ s) (append_of_rest p q r h) ∙ append_assoc p r s))
    ] refl e

grafted-numbered : (f new : Nodes) (p q : Path) (n : ℕ) → is_front q p ≡ true → ((r : Path) → same_path r [] ≡ true → HasNumber n (new r)) → HasNumber n (grafted (marked f p n) p new q)
grafted-numbered f new p q n e h =
    elim (rest_after p q) as (λ (o : Option Path). rest_after p q ≡ o → HasNumber n (option_map_or new o (marked f p n q))) [
      | None ↦ λ k. mapped-numbered n (is_front q p) (f q) e
      | Some r ↦ λ k. h r (rest_of_fronts p q r e k)
    ] refl

added-numbered : (trees : List PathMap) (kind : NodeKind) (from : Option Source) (r : Path) → same_path r [] ≡ true → HasNumber (length trees) (added trees kind from r)
added-numbered trees kind from r = mapped-numbered (length trees) (same_path r []) (option_map_or (source_at trees) from (alone (blank (Some kind))) r)

moved : (q p t : Path) → Some p ≡ Some t → is_front q t ≡ true → is_front q p ≡ true
moved q p t h e = ap (λ o. option_map_or (is_front q) o false) h ∙ e

pub called-numbered : (trees : List PathMap) (f : Nodes) (c : Call) (t q : Path) → touched c ≡ Some t → is_front q t ≡ true → HasNumber (length trees) (called trees f c q)
called-numbered trees f (call.Target n) t q h e = cc
called-numbered trees f (call.OpenRoot base) t q h e = mapped-numbered (length trees) (is_front q []) (f q) (moved q [] t h e)
called-numbered trees f (call.AddDir up p from) t q h e = grafted-numbered f (added trees Dir from) p q (length trees) (moved q p t h e) (added-numbered trees Dir from)
called-numbered trees f (call.OpenDir up p base) t q h e = mapped-numbered (length trees) (is_front q p) (f q) (moved q p t h e)
called-numbered trees f (call.DeleteEntry up p base) t q h e = grafted-numbered f (λ _. None) p q (length trees) (moved q p t h e) (λ r z. tt)
called-numbered trees f (call.AddFile up p from) t q h e = grafted-numbered f (added trees File from) p q (length trees) (moved q p t h e) (added-numbered trees File from)
called-numbered trees f (call.OpenFile up p base) t q h e = mapped-numbered (length trees) (is_front q p) (f q) (moved q p t h e)
called-numbered trees f (call.DirProp p name value) t q h e = cc
called-numbered trees f (call.FileProp p name value) t q h e = cc
called-numbered trees f (call.TextStart p) t q h e = cc
called-numbered trees f (call.TextPiece p piece) t q h e = cc
called-numbered trees f (call.TextEnd p) t q h e = cc
called-numbered trees f (call.CloseFile p sum) t q h e = cc
called-numbered trees f (call.CloseDir p) t q h e = cc
called-numbered trees f call.CloseEdit t q h e = cc

-- a node where the test doesn't hold stays
unmapped : (b : Bool) (g : Node → Node) (o : Option Node) → b ≡ false → option_map (λ x. cond b (g x) x) o ≡ o
unmapped b g None e = refl
unmapped b g (Some x) e = ap (λ c. Some (cond c (g x) x)) e

no_rest : (p q : Path) → is_front p q ≡ false → rest_after p q ≡ None
no_rest p q e = elim (rest_after p q) as (λ (o : Option Path). is_some o ≡ false → o ≡ None) [ None ↦ λ z. refl | Some r ↦ λ z. cc z ] e

-- neither is a front of the other
record IsApart (p q : Path) : Type 0 where
  above : is_front q p ≡ false
  below : is_front p q ≡ false

apart : (p t q : Path) → Some p ≡ Some t → is_front q t ≡ false → is_front t q ≡ false → IsApart p q
apart p t q h e k = record { above = ap (λ o. option_map_or (is_front q) o false) h ∙ e; below = ap (λ o. option_map_or (λ z. is_front z q) o false) h ∙ k }

marked-apart : (f : Nodes) (p q : Path) (n : ℕ) → IsApart p q → marked f p n q ≡ f q
marked-apart f p q n a = unmapped (is_front q p) (with_number n) (f q) a.above

grafted-apart : (f new : Nodes) (p q : Path) (n : ℕ) → IsApart p q → grafted (marked f p n) p new q ≡ f q
grafted-apart f new p q n a = ap (λ o. option_map_or new o (marked f p n q)) (no_rest p q a.below) ∙ marked-apart f p q n a

changed-apart : (f : Nodes) (p q : Path) (g : Node → Node) → IsApart p q → changed_at f p g q ≡ f q
changed-apart f p q g a = unmapped (same_path p q) g (f q) (differs_of_no_rest p q (no_rest p q a.below))

pub called-apart : (trees : List PathMap) (f : Nodes) (c : Call) (t q : Path) → place c ≡ Some t → is_front q t ≡ false → is_front t q ≡ false → called trees f c q ≡ f q
called-apart trees f (call.Target n) t q h e k = refl
called-apart trees f (call.OpenRoot base) t q h e k = marked-apart f [] q (length trees) (apart [] t q h e k)
called-apart trees f (call.AddDir up p from) t q h e k = grafted-apart f (added trees Dir from) p q (length trees) (apart p t q h e k)
called-apart trees f (call.OpenDir up p base) t q h e k = marked-apart f p q (length trees) (apart p t q h e k)
called-apart trees f (call.DeleteEntry up p base) t q h e k = grafted-apart f (λ _. None) p q (length trees) (apart p t q h e k)
called-apart trees f (call.AddFile up p from) t q h e k = grafted-apart f (added trees File from) p q (length trees) (apart p t q h e k)
called-apart trees f (call.OpenFile up p base) t q h e k = marked-apart f p q (length trees) (apart p t q h e k)
called-apart trees f (call.DirProp p name value) t q h e k = changed-apart f p q (with_prop name value) (apart p t q h e k)
called-apart trees f (call.FileProp p name value) t q h e k = changed-apart f p q (with_prop name value) (apart p t q h e k)
called-apart trees f (call.TextStart p) t q h e k = changed-apart f p q (with_text (Some [])) (apart p t q h e k)
called-apart trees f (call.TextPiece p piece) t q h e k = changed-apart f p q (with_piece piece) (apart p t q h e k)
called-apart trees f (call.TextEnd p) t q h e k = refl
called-apart trees f (call.CloseFile p sum) t q h e k = refl
called-apart trees f (call.CloseDir p) t q h e k = refl
called-apart trees f call.CloseEdit t q h e k = refl

pub called-deleted : (trees : List PathMap) (f : Nodes) (up p : Path) (before : Option ℕ) (r : Path) → called trees f (call.DeleteEntry up p before) (p ++ r) ≡ None
called-deleted trees f up p before r = ap (λ (o : Option Path). option_map_or nothing o (marked f p (length trees) (p ++ r))) (rest_after-append p r)
  where
    nothing : Nodes
    nothing = λ _. None

pub called-copied : (trees : List PathMap) (f : Nodes) (up p : Path) (from : Source) (n : Name) (r : Path) → called trees f (call.AddDir up p (Some from)) (p ++ n ∷ r) ≡ source_at trees from (n ∷ r)
called-copied trees f up p from n r =
    ap (λ o. option_map_or (added trees Dir (Some from)) o (marked f p (length trees) (p ++ n ∷ r))) (rest_after-append p (n ∷ r))
    ∙ unmapped (same_path (n ∷ r) []) (with_number (length trees)) (source_at trees from (n ∷ r)) refl
