-- Lines of refusals, part by part.
use Rattle.std.proofs.Common.{◌≡◌, ℕ, List, [], ◌∷◌, ◌++◌, ◌∙◌, Option, Result, refl, sym, ap, subst, append_assoc, append-nil}
use Rattle.std.specs.Prelude.{codes}
use Rattle.std.specs.Fmt.{decimal}
use Rattle.std.specs.Result.{OnOk}
use Rattle.std.specs.Io.KnownBytes.{Appends}
use Rattle.node_base.specs.Refusals.{fault_line, inconsistent_text, told_text, refusal_number, refusal_text}
use Rattle.node_base.specs.declared.refusal.Refusal.{Refusal}
use Rattle.node_base.specs.declared.told_number.ToldNumber.{ToldNumber}

-- a front, and what stands behind it in two parts
joined : (a b c d : List ℕ) → (a ++ (b ++ c)) ++ d ≡ a ++ (b ++ (c ++ d))
joined a b c d = append_assoc a (b ++ c) d ∙ ap (λ x. a ++ x) (append_assoc b c d)

pub whole_line : (r : Refusal) → (codes "svnfleet: " ++ (decimal (refusal_number r) ++ codes " ")) ++ (refusal_text r ++ 10 ∷ []) ≡ fault_line r
whole_line r = joined (codes "svnfleet: ") (decimal (refusal_number r)) (codes " ") (refusal_text r ++ 10 ∷ [])

pub whole_inconsistent : (merged copying : ToldNumber) (head : ℕ)
    → (codes "inconsistent: merged " ++ (told_text merged ++ codes ", copying ")) ++ ((told_text copying ++ codes ", head ") ++ (decimal head ++ [])) ≡ inconsistent_text merged copying head
whole_inconsistent merged copying head =
    let a = codes "inconsistent: merged " in
    let m = told_text merged in
    let b = codes ", copying " in
    let c = told_text copying in
    let e = codes ", head " in
    let n = decimal head in
    ap (λ y. (a ++ (m ++ b)) ++ ((c ++ e) ++ y)) (append-nil n) ∙ sym (append_assoc (a ++ (m ++ b)) (c ++ e) n) ∙ ap (λ y. y ++ n) (sym (append_assoc (a ++ (m ++ b)) c e)) ∙ ap (λ y. ((y ++ c) ++ e) ++ n) (sym (append_assoc a m b))

-- nothing stands behind it
pub unended : {T E : Type 0} (r : Result T E) (a b : Option (List ℕ)) (before told : List ℕ) → OnOk r (Appends a b (before ++ (told ++ []))) → OnOk r (Appends a b (before ++ told))
unended r a b before told h = subst (λ x. OnOk r (Appends a b (before ++ x))) (append-nil told) h
