-- Counts of numbers.
use Rattle.std.proofs.Common.{◌≡◌, ℕ, refl, ap, ◌∙◌, arith}
use Rattle.sync_core.specs.declared.number.Number.{Number}
use Rattle.sync_core.specs.declared.number.Number.TheVariants.{Absent, Misspelt, Spelt, Huge}
use Rattle.sync_core.specs.declared.numbers.Numbers.{Numbers}
use Rattle.mirror_share.specs.Counts.{count_of, counts_of, counts_as}

-- numbers that count alike are the same
same_number : (a b : Number) → count_of a ≡ count_of b → a ≡ b
same_number Absent Absent e = refl
same_number Misspelt Misspelt e = refl
same_number Huge Huge e = refl
same_number (Spelt k) (Spelt l) e = ap Spelt (omega (arith, e))
same_number Absent Misspelt e = absurd (omega (arith, e))
same_number Absent Huge e = absurd (omega (arith, e))
same_number Absent (Spelt l) e = absurd (omega (arith, e))
same_number Misspelt Absent e = absurd (omega (arith, e))
same_number Misspelt Huge e = absurd (omega (arith, e))
same_number Misspelt (Spelt l) e = absurd (omega (arith, e))
same_number Huge Absent e = absurd (omega (arith, e))
same_number Huge Misspelt e = absurd (omega (arith, e))
same_number Huge (Spelt l) e = absurd (omega (arith, e))
same_number (Spelt k) Absent e = absurd (omega (arith, e))
same_number (Spelt k) Misspelt e = absurd (omega (arith, e))
same_number (Spelt k) Huge e = absurd (omega (arith, e))

abbrev numbers_as : Number → Number → ℕ → Numbers
numbers_as m c h = record { merged = m; copying = c; head = h }

pub same_numbers : (a b : Numbers) → counts_of a ≡ counts_of b → a ≡ b
same_numbers a b e =
    ap (λ m. numbers_as m a.copying a.head) (same_number a.merged b.merged (ap (λ k. k.merged) e))
    ∙ ap (λ c. numbers_as b.merged c a.head) (same_number a.copying b.copying (ap (λ k. k.copying) e))
    ∙ ap (λ h. numbers_as b.merged b.copying h) (ap (λ k. k.head) e)

pub same_counts : (m n c d h i : ℕ) → m ≡ n → c ≡ d → h ≡ i → counts_as m c h ≡ counts_as n d i
same_counts m n c d h i a b e = ap (λ x. counts_as x c h) a ∙ ap (λ x. counts_as n x h) b ∙ ap (λ x. counts_as n d x) e
