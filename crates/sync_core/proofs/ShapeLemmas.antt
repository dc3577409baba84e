-- The shape that numbers are found to have is theirs, and where none is found they have none.
use Rattle.std.proofs.Common.{◌≡◌, ℕ, ◌+◌, ◌==◌, ◌&&◌, Bool, true, false, [], ◌∷◌, Option, Some, None, IfSome, refl, sym, ap, ◌∙◌}
use Rattle.std.specs.Option.{option_or}
use Rattle.std.proofs.lemmas.Bool.Decides.{Decides-eqb}
use Rattle.dump_load.specs.Faults.{fault_if, first_of}
use Rattle.sync_core.specs.Names.{Number, Absent, Misspelt, Spelt, Huge, is_absent, is_number, precedes}
use Rattle.sync_core.specs.declared.resting.Resting.{Resting}
use Rattle.sync_core.specs.declared.resting.Resting.TheVariants as resting
use Rattle.sync_core.specs.Mirror.{HasShape}
use Rattle.sync_core.specs.Shapes.{shape_in}

pub both : (a b : Bool) → (a && b) ≡ true → (a ≡ true) × (b ≡ true)
both true b e = (refl, e)
both false b e = absurd (cc)

pub is_equal : (a b : ℕ) → (a == b) ≡ true → a ≡ b
is_equal a b e = (Decides-eqb a b).0 e

pub itself : (a : ℕ) → (a == a) ≡ true
itself a = (Decides-eqb a a).1 refl

pub number_is : (m : Number) (n : ℕ) → is_number m n ≡ true → m ≡ Spelt n
number_is Absent n e = absurd (cc)
number_is Misspelt n e = absurd (cc)
number_is (Spelt k) n e = ap Spelt (is_equal k n e)
number_is Huge n e = absurd (cc)

pub absent_is : (m : Number) → is_absent m ≡ true → m ≡ Absent
absent_is Absent e = refl
absent_is Misspelt e = absurd (cc)
absent_is (Spelt k) e = absurd (cc)
absent_is Huge e = absurd (cc)

pub precedes_is : (m : Number) (n : ℕ) → precedes m n ≡ true → (k : ℕ) × (m ≡ Spelt k) × (n ≡ k + 1)
precedes_is Absent n e = absurd (cc)
precedes_is Misspelt n e = absurd (cc)
precedes_is (Spelt k) n e = (k, refl, sym (is_equal (k + 1) n e))
precedes_is Huge n e = absurd (cc)

found : (P : Resting → Type 0) (b : Bool) (s : Resting) (rest : Option Resting) → (b ≡ true → P s) → IfSome rest P → IfSome (option_or (fault_if b s) rest) P
found P true s rest h r = h refl
found P false s rest h r = r

pub shape_of_found : (m c : Number) (h : ℕ) → IfSome (shape_in m c h) (λ shape. HasShape shape m c h)
shape_of_found m c h =
    let P : Resting → Type 0 = λ shape. HasShape shape m c h in
    found P (is_number m h && is_absent c) resting.Idle
    (first_of (fault_if (is_number m h && is_number c (h + 1)) (resting.Copying (h + 1)) ∷ fault_if (is_number c h && precedes m h) (resting.Committed h) ∷ fault_if (is_number m h && is_number c h) resting.Merged ∷ []))
    (λ e. let p = both (is_number m h) (is_absent c) e in (number_is m h p.0, absent_is c p.1))
    (found P (is_number m h && is_number c (h + 1)) (resting.Copying (h + 1))
    (first_of (fault_if (is_number c h && precedes m h) (resting.Committed h) ∷ fault_if (is_number m h && is_number c h) resting.Merged ∷ []))
    (λ e. let p = both (is_number m h) (is_number c (h + 1)) e in (number_is m h p.0, number_is c (h + 1) p.1, refl))
    (found P (is_number c h && precedes m h) (resting.Committed h)
    (first_of (fault_if (is_number m h && is_number c h) resting.Merged ∷ []))
    (λ e. let p = both (is_number c h) (precedes m h) e in (number_is c h p.0, refl, precedes_is m h p.1))
    (found P (is_number m h && is_number c h) resting.Merged None
    (λ e. let p = both (is_number m h) (is_number c h) e in (number_is m h p.0, number_is c h p.1))
    tt)))

seen : (b : Bool) (s : Resting) (rest : Option Resting) → b ≡ true → option_or (fault_if b s) rest ≡ None → ⊥
seen true s rest e n = absurd (cc)
seen false s rest e n = absurd (cc)

later : (o rest : Option Resting) → option_or o rest ≡ None → rest ≡ None
later None rest n = n
later (Some s) rest n = absurd (cc)

is_this : (m : Number) (n : ℕ) → m ≡ Spelt n → is_number m n ≡ true
is_this m n e = ap (λ x. is_number x n) e ∙ itself n

and : (a b : Bool) → a ≡ true → b ≡ true → (a && b) ≡ true
and true b e f = f
and false b e f = e

pub none_of_none : (m c : Number) (h : ℕ) → shape_in m c h ≡ None → (shape : Resting) → HasShape shape m c h → ⊥
none_of_none m c h n resting.Idle f = seen (is_number m h && is_absent c) resting.Idle _ (and _ _ (is_this m h f.0) (ap is_absent f.1)) n
none_of_none m c h n (resting.Copying k) f =
    seen (is_number m h && is_number c (h + 1)) (resting.Copying (h + 1)) _ (and _ _ (is_this m h f.0) (ap (λ x. is_number x (h + 1)) f.1 ∙ ap (λ x. x == h + 1) f.2 ∙ itself (h + 1))) (later _ _ n)
none_of_none m c h n (resting.Committed k) f =
    seen (is_number c h && precedes m h) (resting.Committed h) _
    (and _ _ (ap (λ x. is_number x h) f.0 ∙ ap (λ x. x == h) f.1 ∙ itself h) (ap (λ x. precedes x h) f.2.1 ∙ ap (λ x. x == h) (sym f.2.2 ∙ f.1) ∙ itself h))
    (later _ _ (later _ _ n))
none_of_none m c h n resting.Merged f =
    seen (is_number m h && is_number c h) resting.Merged None (and _ _ (is_this m h f.0) (is_this c h f.1)) (later (fault_if (is_number c h && precedes m h) (resting.Committed h)) (first_of (fault_if (is_number m h && is_number c h) resting.Merged ∷ []))
    (later (fault_if (is_number m h && is_number c (h + 1)) (resting.Copying (h + 1))) (first_of (fault_if (is_number c h && precedes m h) (resting.Committed h) ∷ fault_if (is_number m h && is_number c h) resting.Merged ∷ []))
    (later (fault_if (is_number m h && is_absent c) resting.Idle) (first_of (fault_if (is_number m h && is_number c (h + 1)) (resting.Copying (h + 1)) ∷ fault_if (is_number c h && precedes m h) (resting.Committed h) ∷ fault_if (is_number m h && is_number c h) resting.Merged ∷ [])) n)))
