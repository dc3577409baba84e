-- The text that a record's delta is over.
use Rattle.std.specs.Prelude.{◌≡◌, ℕ, ◌&&◌, List, [], ◌∷◌, Option, Some, None, Result, Ok, Err, if◌then◌else◌}
use Rattle.std.specs.Option.{option_or, option_map, option_map_or, option_and_then}
use Rattle.node_base.specs.Path.{Path, same_path}
use Rattle.node_base.specs.Tree.{PathMap, base, source_at}
use Rattle.node_base.specs.declared.node.Node.{Node}
use Rattle.node_base.specs.declared.node.Source.{Source}
use Rattle.dump_text.specs.declared.record.NodeRecord.{NodeRecord}
use Rattle.dump_load.specs.Changes.{settles, is_delete, brings}
use Rattle.dump_load.specs.Records.{change_of}
use Rattle.whole_texts.specs.declared.refusal.TextRefusal.{TextRefusal}
use Rattle.whole_texts.specs.declared.refusal.TextRefusal.TheVariants as refusal

-- what a record copies to its path: nothing where it deletes, or makes a node of its own
abbrev pub copied : NodeRecord → Option Source
copied r = if is_delete r.action then None else r.source

-- the last of the records that settle a path, if one does
abbrev pub settled_at : List NodeRecord → Path → Option NodeRecord
settled_at [] p = None
settled_at (r ∷ rs) p = option_or (settled_at rs p) (if settles r.action && same_path r.path p then Some r else None)

-- what is found, and what of the path lies below
abbrev pub with_rest : {A : Type 0} → Path → A → A × Path
with_rest q x = (x, q)

-- what f has at the longest path strictly above a path at which it has anything
abbrev pub nearest : {A : Type 0} → (Path → Option A) → Path → Option (A × Path)
nearest f [] = None
nearest f (n ∷ q) = option_or (nearest (λ p. f (n ∷ p)) q) (option_map (with_rest (n ∷ q)) (f []))

-- what a change finds at a path: below the nearest path that a record settles what that record copies there, else what the newest tree has
abbrev pub found : List PathMap → List NodeRecord → Path → Option Node
found trees rs p = option_map_or (λ x. option_and_then (λ s. source_at trees s x.1) (copied x.0)) (nearest (settled_at rs) p) (base trees p)

-- the text of a file that is found; or why there is none
abbrev pub text_found : TextRefusal → Option Node → Result (List ℕ) TextRefusal
text_found absent None = Err absent
text_found absent (Some x) = option_map_or Ok x.text (Err refusal.KindMismatch)

-- the text that a record's delta is over: of an add or a replace the source's, and no byte without a source; else of what it finds
abbrev pub base_of : List PathMap → List NodeRecord → NodeRecord → Result (List ℕ) TextRefusal
base_of trees rs r =
    if brings (change_of r)
    then option_map_or (λ s. text_found refusal.NoSource (source_at trees s [])) r.source (Ok [])
    else text_found refusal.NoSuchPath (found trees rs r.path)

-- a text is the one that is said, or refused as is said; of want of memory nothing is said
abbrev pub TextIs : Result (List ℕ) TextRefusal → Result (List ℕ) TextRefusal → Type 0
TextIs (Ok text) said = said ≡ Ok text
TextIs (Err refusal.OutOfMemory) said = Unit {0}
TextIs (Err e) said = said ≡ Err e
