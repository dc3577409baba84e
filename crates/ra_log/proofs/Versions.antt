-- Versions of a file, one after another.
use Rattle.std.proofs.Common.{◌≡◌, ◌⊎◌, inl, inr, ℕ, zero, suc, ◌≤◌, ◌<◌, ◌+◌, List, [], ◌∷◌, ◌++◌, length, take, drop, get_or, min, Option, None, Some, refl, sym, ap, subst, ◌∙◌, append_assoc, append-nil, arith}
use Rattle.std.proofs.KnownBytes.{Appends-trans}
use Rattle.std.proofs.lemmas.List.{take_all, drop_all, drop_more, length-drop}
use Rattle.std.specs.List.{AllByRecursion, slice_get, flat_map}
use Rattle.std.specs.Option.{option_and_then}
use Rattle.std.specs.Prelude.{unwrap_or}
use Rattle.std.specs.FinMap as finite
use Rattle.std.specs.Io.KnownBytes.{Appends}
use Rattle.node_base.specs.Props.{PropMap}
use Rattle.node_base.specs.Tree.{PathMap}
use Rattle.node_base.specs.declared.node.Node.{Node}
use Rattle.path_history.specs.declared.place.Place.{Place}
use Rattle.path_history.specs.Lines.{node_at}
use Rattle.svndiff.specs.Spelling.{window}
use Rattle.svndiff.proofs.Written.{appends_join, shorter}
use Rattle.ra_item.specs.Items.{spell, Text}
use Rattle.ra_edit.specs.Commands.{parts, parts_within}
use Rattle.ra_log.specs.Versions.{windows_told, revision_props, version_told, versions_told, head_told, text_told, props_of, text_of}
use Rattle.ra_log.proofs.Fronts.{get_front}

-- ---- parts of a text

-- room for more parts changes nothing
enough_parts : (j k : ℕ) (text : List ℕ) → length text ≤ j → length text ≤ k → parts_within j text ≡ parts_within k text
enough_parts zero (suc k) (b ∷ text) h l = absurd (omega (arith, h))
enough_parts (suc j) zero (b ∷ text) h l = absurd (omega (arith, l))
enough_parts (suc j) (suc k) (b ∷ text) h l =
    let d = length-drop 65536 (b ∷ text) in
    ap (λ t. take 65536 (b ∷ text) ∷ t) (enough_parts j k (drop 65536 (b ∷ text)) (omega (arith, d, h)) (omega (arith, d, l)))
enough_parts j k text h l = refl

one_part : (text : List ℕ) → 0 < length text → parts text ≡ take 65536 text ∷ parts (drop 65536 text)
one_part [] h = absurd (omega (arith, h))
one_part (b ∷ text) h =
    let d = length-drop 65536 (b ∷ text) in
    ap (λ t. take 65536 (b ∷ text) ∷ t) (enough_parts (length text) (length (drop 65536 (b ∷ text))) (drop 65536 (b ∷ text)) (omega (arith, d)) (omega arith))

-- as much as may be, and the rest
next_part : (text : List ℕ) (k : ℕ) → 0 < length text → (k ≡ 65536) ⊎ ((k ≡ length text) × (k ≤ 65536)) → parts text ≡ take k text ∷ parts (drop k text)
next_part text k h (inl e) = rw e (one_part text h)
next_part text k h (inr e) =
    let s = rw e.0 at e.1 in
    let t : take k text ≡ take 65536 text = take_all k text (omega (arith, e.0)) ∙ sym (take_all 65536 text s) in
    let d : drop k text ≡ drop 65536 text = drop_all k text (omega (arith, e.0)) ∙ sym (drop_all 65536 text s) in
    rw (t, d) (one_part text h)

-- one window more is written
pub one_more_window : (a b c : Option (List ℕ)) (text rest piece behind : List ℕ) (k : ℕ) → 0 < length rest → k ≡ min (length rest) 65536 → piece ≡ take k rest → behind ≡ drop k rest → (front : List ℕ) × Appends a b front × (windows_told text ≡ front ++ windows_told rest) → Appends b c (spell (Text (window piece))) → (front : List ℕ) × Appends a c front × (windows_told text ≡ front ++ windows_told behind)
one_more_window a b c text rest piece behind k some m p d (front, before, e) new =
    let next : parts rest ≡ piece ∷ parts behind = next_part rest k some (shorter (length rest) k m) ∙ ap (λ t. t ∷ parts (drop k rest)) (sym p) ∙ ap (λ t. piece ∷ parts t) (sym d) in
    (front ++ spell (Text (window piece)), appends_join a b c front (spell (Text (window piece))) before new, e ∙ ap (λ ps. front ++ flat_map (λ part. spell (Text (window part))) ps) next ∙ sym (append_assoc front (spell (Text (window piece))) (windows_told behind)))

module _ (props : List PropMap) (trees : List PathMap) where
  -- one version more is written
  pub one_more_version : (a b c : Option (List ℕ)) (places : List Place) (i : ℕ) (at : Place) (old new : Option Node) → i < length places → at ≡ get_or places i at → new ≡ node_at trees at
      → (front : List ℕ) × Appends a b front × (versions_told props trees None places ≡ front ++ versions_told props trees old (drop i places))
      → Appends b c (version_told props old new at)
      → (front : List ℕ) × Appends a c front × (versions_told props trees None places ≡ front ++ versions_told props trees new (drop (i + 1) places))
  one_more_version a b c places i at old new h is e (front, before, all) more =
      let next : drop i places ≡ at ∷ drop (i + 1) places = drop_more places i at h ∙ ap (λ p. p ∷ drop (i + 1) places) (sym is) in
      let step : versions_told props trees old (drop i places) ≡ version_told props old new at ++ versions_told props trees new (drop (i + 1) places) =
      ap (versions_told props trees old) next ∙ ap (λ o. version_told props old o at ++ versions_told props trees o (drop (i + 1) places)) (sym e) in
      (front ++ version_told props old new at, Appends-trans a b c front (version_told props old new at) before more, all ∙ ap (λ l. front ++ l) step ∙ sym (append_assoc front (version_told props old new at) (versions_told props trees new (drop (i + 1) places))))

  -- all are
  pub all_versions : (a b : Option (List ℕ)) (places : List Place) (i : ℕ) (old : Option Node) → length places ≤ i
      → (front : List ℕ) × Appends a b front × (versions_told props trees None places ≡ front ++ versions_told props trees old (drop i places))
      → Appends a b (versions_told props trees None places)
  all_versions a b places i old h (front, before, all) =
      subst (Appends a b) (sym (all ∙ ap (λ l. front ++ versions_told props trees old l) (drop_all i places h) ∙ append-nil front)) before

-- ---- by the rows up to some revision

node_front : (trees : List PathMap) (k : ℕ) (a : Place) → a.revision < k → node_at (take k trees) a ≡ node_at trees a
node_front trees k a h = ap (λ o. option_and_then (λ m. finite.get m a.path) o) (get_front trees k a.revision h)

version_front : (props : List PropMap) (k : ℕ) (old new : Option Node) (a : Place) → a.revision < k → version_told (take k props) old new a ≡ version_told props old new a
version_front props k old new a h = ap (λ o. head_told a (unwrap_or o finite.empty) (props_of old) (props_of new) ++ text_told (text_of old) (unwrap_or (text_of new) [])) (get_front props k a.revision h)

-- what is told of places below the end of the rows
pub versions_front : (props : List PropMap) (trees : List PathMap) (k : ℕ) (old : Option Node) (places : List Place) → AllByRecursion (λ a. a.revision < k) places → versions_told (take k props) (take k trees) old places ≡ versions_told props trees old places
versions_front props trees k old [] h = refl
versions_front props trees k old (a ∷ s) h =
    ap (λ o. version_told (take k props) old o a ++ versions_told (take k props) (take k trees) o s) (node_front trees k a h.0)
    ∙ ap (λ v. v ++ versions_told (take k props) (take k trees) (node_at trees a) s) (version_front props k old (node_at trees a) a h.0)
    ∙ ap (λ v. version_told props old (node_at trees a) a ++ v) (versions_front props trees k (node_at trees a) s h.1)
