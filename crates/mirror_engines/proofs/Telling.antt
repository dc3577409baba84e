-- The lines of a mirror's standing.
use Rattle.std.proofs.Common.{◌≡◌, ℕ, List, ◌++◌, Option, Result, Ok, Err, subst}
use Rattle.std.specs.Result.{OnOk}
use Rattle.std.specs.Io.KnownBytes.{Appends}
use Rattle.std.proofs.KnownBytes.{Appends-trans}
use Rattle.mirror_engines.specs.Infos.{info_line, valued}

-- three lines, one after another
pub three : (a b c d : Option (List ℕ)) (first second third : List ℕ) → Appends a b first → Appends b c second → Appends c d third → Appends a d (first ++ (second ++ third))
three a b c d first second third p q r = Appends-trans a b d first (second ++ third) p (Appends-trans b c d second third q r)

-- the same of values as they are looked up
pub told_lines : (a b c d : Option (List ℕ)) (url uuid merged : List ℕ) (x y z u v w : Option (List ℕ)) → x ≡ u → y ≡ v → z ≡ w → Appends a b (info_line url (valued x)) → Appends b c (info_line uuid (valued y))
    → Appends c d (info_line merged (valued z)) → Appends a d (info_line url (valued u) ++ (info_line uuid (valued v) ++ info_line merged (valued w)))
told_lines a b c d url uuid merged x y z u v w e f g p q r =
    three a b c d (info_line url (valued u)) (info_line uuid (valued v)) (info_line merged (valued w)) (subst (λ k. Appends a b (info_line url (valued k))) e p) (subst (λ k. Appends b c (info_line uuid (valued k))) f q)
    (subst (λ k. Appends c d (info_line merged (valued k))) g r)

pub told_all : {T E : Type 0} (r : Result T E) (a b c d : Option (List ℕ)) (url uuid merged : List ℕ) (x y z u v w : Option (List ℕ)) → x ≡ u → y ≡ v → z ≡ w → Appends a b (info_line url (valued x))
    → Appends b c (info_line uuid (valued y)) → OnOk r (Appends c d (info_line merged (valued z))) → OnOk r (Appends a d (info_line url (valued u) ++ (info_line uuid (valued v) ++ info_line merged (valued w))))
told_all (Ok t) a b c d url uuid merged x y z u v w e f g p q r = told_lines a b c d url uuid merged x y z u v w e f g p q r
told_all (Err t) a b c d url uuid merged x y z u v w e f g p q r = tt
