-- The text that a delta is over, as it is looked up.
use Rattle.std.proofs.Common.{◌≡◌, ℕ, ◌-◌, true, false, List, [], ◌∷◌, length, Option, Some, None, Result, Ok, Err, refl, sym, ap, subst, ◌∙◌}
use Rattle.std.specs.Bool.{if◌then◌else◌}
use Rattle.std.specs.Option.{option_map, option_map_or, option_and_then}
use Rattle.std.specs.List.{slice_get}
use Rattle.std.specs.FinMap.{get}
use Rattle.std.proofs.lemmas.Bool.{false≢true}
use Rattle.node_base.specs.Path.{Path, same_path}
use Rattle.node_base.proofs.PathLemmas.{path_of_same}
use Rattle.node_base.specs.Tree.{PathMap, alone, new_dir, base, source_at}
use Rattle.node_base.specs.declared.node.Node.{Node}
use Rattle.node_base.specs.declared.node.Source.{Source}
use Rattle.dump_text.specs.declared.record.NodeRecord.{NodeRecord}
use Rattle.dump_load.specs.Changes.{brings}
use Rattle.dump_load.specs.Records.{change_of}
use Rattle.whole_texts.specs.declared.refusal.TextRefusal.{TextRefusal}
use Rattle.whole_texts.specs.declared.refusal.TextRefusal.TheVariants as refusal
use Rattle.whole_texts.specs.declared.settled.Settled.{Settled}
use Rattle.whole_texts.specs.Bases.{copied, settled_at, nearest, found, text_found, base_of, TextIs}
use Rattle.whole_texts.specs.Settled.{Knows, copied_node, left_at}
use Rattle.whole_texts.proofs.Nearest.{on_first, nearest-map}

-- the same of what is said by another name
pub said : (r a b : Result (List ℕ) TextRefusal) → a ≡ b → TextIs r a → TextIs r b
said r a b e h = subst (TextIs r) e h

-- ---- before the first tree

module _ (trees : List PathMap) (p : Path) (none : None ≡ slice_get trees (length trees - 1)) where
  first_base : (q : Path) → base trees q ≡ alone new_dir q
  first_base q = sym (ap (λ (o : Option PathMap). option_map_or get o (alone new_dir) q) none)

  pub root_before : same_path p [] ≡ true → text_found refusal.NoSuchPath (base trees p) ≡ Err refusal.KindMismatch
  root_before e = ap (text_found refusal.NoSuchPath) (ap (base trees) (path_of_same p [] e) ∙ first_base [])

  below : (q : Path) → same_path q [] ≡ false → text_found refusal.NoSuchPath (alone new_dir q) ≡ Err refusal.NoSuchPath
  below [] e = absurd (false≢true (sym e))
  below (n ∷ q) e = refl

  pub none_before : same_path p [] ≡ false → text_found refusal.NoSuchPath (base trees p) ≡ Err refusal.NoSuchPath
  none_before e = ap (text_found refusal.NoSuchPath) (first_base p) ∙ below p e

-- ---- what a change finds

found_each : (trees : List PathMap) (d : Option Node) (o : Option (NodeRecord × Path)) → option_map_or (λ (x : Option Source × Path). copied_node trees x.0 x.1) (option_map (on_first copied) o) d ≡ option_map_or (λ (x : NodeRecord × Path). option_and_then (λ s. source_at trees s x.1) (copied x.0)) o d
found_each trees d None = refl
found_each trees d (Some x) = refl

pub left_is : (trees : List PathMap) (ss : List Settled) (rs : List NodeRecord) (p : Path) → Knows ss rs → left_at trees ss p ≡ found trees rs p
left_is trees ss rs p h =
    ap (λ (o : Option (Option Source × Path)). option_map_or (λ (x : Option Source × Path). copied_node trees x.0 x.1) o (base trees p)) (ap (λ (f : Path → Option (Option Source)). nearest f p) (λ i q. h q i) ∙ nearest-map copied (settled_at rs) p)
    ∙ found_each trees (base trees p) (nearest (settled_at rs) p)

-- ---- the text that a delta is over

module _ (trees : List PathMap) (rs : List NodeRecord) (r : NodeRecord) where
  pub base_left : brings (change_of r) ≡ false → base_of trees rs r ≡ text_found refusal.NoSuchPath (found trees rs r.path)
  base_left e = ap (λ b. if b then option_map_or (λ s. text_found refusal.NoSource (source_at trees s [])) r.source (Ok []) else text_found refusal.NoSuchPath (found trees rs r.path)) e
