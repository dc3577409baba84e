-- A path past the limits is so with more behind it.
use Rattle.std.proofs.Common.{◌≡◌, ◌+◌, ◌++◌, ◌∷◌, [], false, length, take, drop, get_or, sym, ap, ◌∙◌, arith, append_assoc, length-append, ℕ, ◌<◌}
use Rattle.std.proofs.lemmas.Bool.Decides.{nat_tests}
use Rattle.std.proofs.lemmas.List.{take-append-drop, take_more}
use Rattle.node_base.specs.Path.{Path, Name}
use Rattle.node_base.specs.Limits.{fits}
use Rattle.node_base.proofs.PathLemmas.{weight-append}

pub fits_front : (p q : Path) → fits p ≡ false → fits (p ++ q) ≡ false
fits_front p q e = grind (arith, nat_tests, weight-append p q, length-append p q)

pub fits_behind : (front rest : Path) (i : ℕ) (n : Name) → i < length rest → n ≡ get_or rest i n → fits ((front ++ take i rest) ++ n ∷ []) ≡ false → fits (front ++ rest) ≡ false
fits_behind front rest i n in' is e =
    ap fits (ap (λ r. front ++ r) (sym (take-append-drop (i + 1) rest)) ∙ sym (append_assoc front (take (i + 1) rest) (drop (i + 1) rest)))
    ∙ fits_front (front ++ take (i + 1) rest) (drop (i + 1) rest)
    (ap (λ r. fits (front ++ r)) (take_more rest i n in' ∙ ap (λ x. take i rest ++ x ∷ []) (sym is)) ∙ ap fits (sym (append_assoc front (take i rest) (n ∷ []))) ∙ e)
