-- The revision that a date names.
use Rattle.std.proofs.Common.{◌≡◌, ℕ, zero, suc, ◌≤◌, ◌<◌, Bool, true, false, List, Some, None, Result, Ok, Err, refl, sym, ap, subst, ◌∙◌, inl, inr, arith, true≢false}
use Rattle.std.specs.Prelude.{◌⊎◌, nat_le, length, not, if◌then◌else◌}
use Rattle.std.proofs.lemmas.Bool.Decides.{nat_tests}
use Rattle.node_base.specs.Props.{PropMap}
use Rattle.dump_load.specs.Faults.{fault_if}
use Rattle.repo_core.specs.Repository.{Repository, head_of, props_at}
use Rattle.ra_denial.specs.Denials.{no_revision}
use Rattle.ra_denial.specs.Stops.{Comes}
use Rattle.ra_denial.specs.declared.denial.Denial.TheVariants as denial
use Rattle.ra_denial.specs.declared.stop.Stop.{Stop}
use Rattle.ra_browse.specs.Answers.{dated, dated_denied}
use Rattle.ra_browse.specs.Dates.{is_by, is_date, newest_by}
use Rattle.ra_browse.specs.Laws.{IsNewestBy}
use Rattle.ra_browse.proofs.Exits.{only_one, first_one, stops_later}

-- ---- one revision less

pub ends_by : (props : ℕ → PropMap) (date : List ℕ) (n : ℕ) → 0 < n → is_by date (props n) ≡ true → newest_by props date n ≡ n
ends_by props date zero h e = absurd (none h)
  where
    none : 0 < 0 → ⊥
    none h = omega (arith, h)
ends_by props date (suc n) h e = ap (λ b. if b then suc n else newest_by props date n) e

pub goes_by : (props : ℕ → PropMap) (date : List ℕ) (n m : ℕ) → n ≡ suc m → is_by date (props n) ≡ false → newest_by props date n ≡ newest_by props date m
goes_by props date n m k e =
    ap (newest_by props date) k ∙ ap (λ b. if b then suc m else newest_by props date m) (subst (λ i. is_by date (props i) ≡ false) k e)

-- what is below a revision that is there is there
below : (b c : Bool) → (b ≡ true → c ≡ true) → fault_if c denial.NoRevision ≡ None → fault_if b denial.NoRevision ≡ None
below false c h e = refl
below true c h e = absurd (wrong c (h refl) e)
  where
    wrong : (c : Bool) → c ≡ true → fault_if c denial.NoRevision ≡ None → ⊥
    wrong true k e = cc
    wrong false k e = true≢false (sym k)

le_more : (l n m : ℕ) → nat_le l n ≡ true → n ≤ m → nat_le l m ≡ true
le_more l n m k h = grind (arith, nat_tests)

pub there_below : (x : Repository) (n last : ℕ) → n ≤ last → no_revision x last ≡ None → no_revision x n ≡ None
there_below x n last h e = below (nat_le (length x.revisions) n) (nat_le (length x.revisions) last) (λ k. le_more (length x.revisions) n last k h) e

-- ---- the call that finds it

pub bad_date : (x : Repository) (date : List ℕ) → is_date date ≡ false → dated_denied x date ≡ Some denial.BadDate
bad_date x date e = first_one (fault_if (not (is_date date)) denial.BadDate) (no_revision x (head_of x.revisions)) denial.BadDate (ap (λ b. fault_if (not b) denial.BadDate) e)

pub good_date : (x : Repository) (date : List ℕ) → is_date date ≡ true → dated_denied x date ≡ no_revision x (head_of x.revisions)
good_date x date e = only_one (fault_if (not (is_date date)) denial.BadDate) (no_revision x (head_of x.revisions)) (ap (λ b. fault_if (not b) denial.BadDate) e)

pub find_comes : (x : Repository) (date : List ℕ) (k m l last : ℕ) (r : Result ℕ Stop) → k ≤ m → is_date date ≡ true → no_revision x (head_of x.revisions) ≡ None → last ≡ head_of x.revisions
    → Comes m l None (λ n. n ≡ newest_by (props_at x.revisions) date last) r
    → Comes k l (dated_denied x date) (λ n. n ≡ dated x date) r
find_comes x date k m l last (Ok n) h d e t f = (good_date x date d ∙ e, f.1 ∙ ap (newest_by (props_at x.revisions) date) t)
find_comes x date k m l last (Err s) h d e t f = stops_later k m l s (dated_denied x date) h f

-- ---- it is the newest

le_or : (m n : ℕ) → m ≤ suc n → (m ≤ n) ⊎ (m ≡ suc n)
le_or m n h = by (nat_le m n) refl
  where
    by : (b : Bool) → nat_le m n ≡ b → (m ≤ n) ⊎ (m ≡ suc n)
    by true e = inl (grind (arith, nat_tests))
    by false e = inr (grind (arith, nat_tests))

newest_is : (props : ℕ → PropMap) (date : List ℕ) (last : ℕ) → IsNewestBy props date last (newest_by props date last)
newest_is props date zero = record { there = omega arith; by = inl refl; newest = λ m a b. absurd (none m a b) }
  where
    none : (m : ℕ) → 0 < m → m ≤ 0 → ⊥
    none m a b = omega (arith, a, b)
newest_is props date (suc n) = by (newest_is props date n) (is_by date (props (suc n))) refl
  where
    none : (m : ℕ) → suc n < m → m ≤ suc n → ⊥
    none m a b = omega (arith, a, b)

    last_one : (m : ℕ) → IsNewestBy props date n (newest_by props date n) → is_by date (props (suc n)) ≡ false → (m ≤ n) ⊎ (m ≡ suc n) → newest_by props date n < m → is_by date (props m) ≡ false
    last_one m below e (inl h) a = below.newest m a h
    last_one m below e (inr h) a = ap (λ i. is_by date (props i)) h ∙ e

    by : IsNewestBy props date n (newest_by props date n) → (b : Bool) → is_by date (props (suc n)) ≡ b → IsNewestBy props date (suc n) (if b then suc n else newest_by props date n)
    by below true e = record { there = omega arith; by = inr e; newest = λ m a b. absurd (none m a b) }
    by below false e = record { there = omega (arith, below.there); by = below.by; newest = λ m a b. last_one m below e (le_or m n b) a }

pub dated_newest : (x : Repository) (date : List ℕ) → IsNewestBy (props_at x.revisions) date (head_of x.revisions) (dated x date)
dated_newest x date = newest_is (props_at x.revisions) date (head_of x.revisions)
