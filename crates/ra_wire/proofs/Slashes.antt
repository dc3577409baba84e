-- A path's own text has no slash in front.
use Rattle.std.proofs.Common.{◌≡◌, ℕ, Bool, true, false, List, [], ◌∷◌, ap, sym, ◌∙◌, refl, true≢false}
use Rattle.std.specs.Prelude.{◌==◌, ◌&&◌, not, Ok, Err, if◌then◌else◌}
use Rattle.std.proofs.lemmas.Bool.{eqb-true}
use Rattle.node_base.specs.Path.{Path}
use Rattle.std.specs.List.{list_all, slice_split}
use Rattle.std.specs.Str.{is_utf8}
use Rattle.node_base.specs.PathText.{path_read, is_past_limits, pieces}
use Rattle.node_base.specs.Names.{is_name, is_dots, is_name_byte}
use Rattle.node_base.specs.declared.fault.PathFault.TheVariants.{TooLong, BadPath}
use Rattle.ra_wire.specs.Params.{unslashed}

-- behind a slash in front, the first name is empty
dead : (a c d : Bool) → (((a && false) && c) && d) ≡ false
dead true c d = refl
dead false c d = refl

nameless : is_name [] ≡ false
unfolding is_name
nameless = dead (is_utf8 []) (not (is_dots [])) (list_all is_name_byte [])

no_read : (past good : Bool) (q p : Path) → good ≡ false → (if past then Err TooLong else if good then Ok q else Err BadPath) ≡ Ok p → ⊥
no_read true good q p f e = cc
no_read false true q p f e = absurd (true≢false f)
no_read false false q p f e = cc

no_slash : (bs : List ℕ) (p : Path) → path_read (47 ∷ bs) ≡ Ok p → ⊥
unfolding path_read
no_slash bs p e = no_read (is_past_limits (47 ∷ bs)) (list_all is_name (pieces (47 ∷ bs))) (pieces (47 ∷ bs)) p (ap (λ b. b && list_all is_name (slice_split (λ x. x == 47) bs)) nameless) e

tested : (b : ℕ) (bs : List ℕ) (p : Path) (t : Bool) → (t ≡ true → b ≡ 47) → path_read (b ∷ bs) ≡ Ok p → (if t then bs else b ∷ bs) ≡ b ∷ bs
tested b bs p true is e = absurd (no_slash bs p (ap (λ x. path_read (x ∷ bs)) (sym (is refl)) ∙ e))
tested b bs p false is e = refl

pub unslashed_same : (t : List ℕ) (p : Path) → path_read t ≡ Ok p → unslashed t ≡ t
unslashed_same [] p e = refl
unslashed_same (b ∷ bs) p e = tested b bs p (b == 47) (eqb-true b 47) e
