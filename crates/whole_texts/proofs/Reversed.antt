-- Of the records that settle a path the last is the first of the reversed list.
use Rattle.std.proofs.Common.{◌≡◌, Bool, true, false, cond, ◌&&◌, List, [], ◌∷◌, ◌++◌, reverse, length, drop, get_or, ℕ, ◌+◌, ◌<◌, ◌≤◌, Option, Some, None, refl, sym, ap, ◌∙◌, append_assoc, append-nil}
use Rattle.std.specs.Option.{option_or, option_map}
use Rattle.std.proofs.lemmas.List.{reverse-append, drop_more, drop_all}
use Rattle.node_base.specs.Path.{Path, same_path}
use Rattle.dump_text.specs.declared.record.NodeRecord.{NodeRecord}
use Rattle.dump_load.specs.Changes.{settles}
use Rattle.whole_texts.specs.declared.read_node.ReadNode.{ReadNode}
use Rattle.whole_texts.specs.declared.settled.Settled.{Settled}
use Rattle.whole_texts.specs.Bases.{copied, settled_at}
use Rattle.whole_texts.specs.Settled.{settled_by, settled_in, copied_at}
use Rattle.whole_texts.specs.Whole.{records_of}

copied_at-append : (xs ys : List Settled) (p : Path) → copied_at (xs ++ ys) p ≡ option_or (copied_at xs p) (copied_at ys p)
copied_at-append [] ys p = refl
copied_at-append (x ∷ xs) ys p =
    elim (same_path x.path p) as (λ b. cond b (Some x.copied) (copied_at (xs ++ ys) p) ≡ option_or (cond b (Some x.copied) (copied_at xs p)) (copied_at ys p)) [ true ↦ refl | false ↦ copied_at-append xs ys p ]

abbrev entry : NodeRecord → Settled
entry r = record { path = r.path; copied = copied r }

one_settled : (b : Bool) (r : NodeRecord) (p : Path) → copied_at (reverse (cond b (entry r ∷ []) [])) p ≡ option_map copied (cond (b && same_path r.path p) (Some r) None)
one_settled false r p = refl
one_settled true r p = elim (same_path r.path p) as (λ b. cond b (Some (copied r)) None ≡ option_map copied (cond b (Some r) None)) [ true ↦ refl | false ↦ refl ]

or_last : (o l : Option NodeRecord) → option_or (option_map copied o) (option_map copied l) ≡ option_map copied (option_or o l)
or_last None l = refl
or_last (Some r) l = refl

pub last_settled : (ns : List ReadNode) (p : Path) → copied_at (reverse (settled_in ns)) p ≡ option_map copied (settled_at (records_of ns) p)
last_settled [] p = refl
last_settled (n ∷ ns) p =
    let last = cond (settles n.node.action && same_path n.node.path p) (Some n.node) None in
    ap (λ ss. copied_at ss p) (reverse-append (settled_by n.node) (settled_in ns))
    ∙ copied_at-append (reverse (settled_in ns)) (reverse (settled_by n.node)) p
    ∙ (λ i. option_or (last_settled ns p i) (one_settled (settles n.node.action) n.node p i))
    ∙ or_last (settled_at (records_of ns) p) last

-- ---- the records one after another

pub one_more : (ns : List ReadNode) (i : ℕ) (n : ReadNode) (old new : List Settled) → i < length ns → n ≡ get_or ns i n → old ++ settled_in (drop i ns) ≡ settled_in ns → new ≡ old ++ settled_by n.node → new ++ settled_in (drop (i + 1) ns) ≡ settled_in ns
one_more ns i n old new here at so_far is =
    let rest : drop i ns ≡ n ∷ drop (i + 1) ns = drop_more ns i n here ∙ ap (λ y. y ∷ drop (i + 1) ns) (sym at) in
    ap (λ x. x ++ settled_in (drop (i + 1) ns)) is
    ∙ append_assoc old (settled_by n.node) (settled_in (drop (i + 1) ns))
    ∙ ap (λ y. old ++ y) (ap settled_in (sym rest))
    ∙ so_far

pub all_settled : (ns : List ReadNode) (i : ℕ) (ss : List Settled) → length ns ≤ i → ss ++ settled_in (drop i ns) ≡ settled_in ns → ss ≡ settled_in ns
all_settled ns i ss h e = sym (append-nil ss) ∙ ap (λ x. ss ++ settled_in x) (sym (drop_all i ns h)) ∙ e
