-- What notes know of the revisions that were seen.
use Rattle.std.proofs.Common.{zero, suc, ◌≡◌, ◌⊎◌, inl, inr, ◌<◌, ◌≤◌, ◌+◌, ℕ, List, length, Option, Some, None, refl, ap, ◌∙◌, arith}
use Rattle.std.specs.Prelude.{slice_get}
use Rattle.std.specs.Option.{option_map, option_and_then}
use Rattle.dump_load.specs.declared.change.Change.{Change}
use Rattle.repo_core.specs.Repository.{Revision, Repository}
use Rattle.store_share.specs.declared.rev.Rev.{Rev}
use Rattle.store_share.specs.Row.{rev_at}
use Rattle.store_share.proofs.Showing.{rev_there, rev_as}

abbrev number_in : Option Rev → Option ℕ
number_in o = option_map (λ (v : Rev). v.number) o

by_parts : (i : ℕ) (v : Rev) (s : Option (List Change)) (y : Option Revision) → option_and_then (λ (set : List Change). option_map (λ (z : Revision). rev_as i set z.tree) y) s ≡ Some v → number_in (option_and_then (λ (set : List Change). option_map (λ (z : Revision). rev_as i set z.tree) y) s) ≡ Some i
by_parts i v (Some s) (Some y) e = refl
by_parts i v None y e = absurd (cc)
by_parts i v (Some s) None e = absurd (cc)

numbered : (r : Repository) (i : ℕ) (v : Rev) → rev_at r i ≡ Some v → number_in (rev_at r i) ≡ Some i
numbered r i v e = by_parts i v (slice_get r.sets i) (slice_get r.revisions i) e

-- notes that know the revisions of a repository know their numbers
pub known_numbers : (r : Repository) (k : ℕ → Option Rev) (head : ℕ) → length r.sets ≡ length r.revisions → head < length r.revisions → ((i : ℕ) → i < head + 1 → k i ≡ rev_at r i)
    → (i : ℕ) → i ≤ head → number_in (k i) ≡ Some i
known_numbers r k head sets within all i le =
    let y = rev_there r i sets (omega (arith, within, le)) in
    ap number_in (all i (omega (arith, le))) ∙ numbered r i y.0 y.1

pub has_known : (o : Option Rev) (i : ℕ) → number_in o ≡ Some i → (x : Rev) × (o ≡ Some x) × (x.number ≡ i)
has_known None i e = absurd (cc)
has_known (Some v) i e = (v, refl, cc)

-- what is kept keeps its numbers
pub kept_numbers : (k k2 : ℕ → Option Rev) (seen : ℕ) → ((r : ℕ) → r ≤ seen → number_in (k r) ≡ Some r) → ((r : ℕ) (x : Rev) → k r ≡ Some x → k2 r ≡ Some x)
    → (r : ℕ) → r ≤ seen → number_in (k2 r) ≡ Some r
kept_numbers k k2 seen all kept r le =
    let x = has_known (k r) r (all r le) in
    ap number_in (kept r x.0 x.1) ∙ ap Some x.2

pub split : (a b : ℕ) → (a ≤ b) ⊎ (b < a)
split zero b = inl (omega arith)
split (suc a) zero = inr (omega arith)
split (suc a) (suc b) = further (split a b)
  where
    further : (a ≤ b) ⊎ (b < a) → (suc a ≤ suc b) ⊎ (suc b < suc a)
    further (inl h) = inl (omega (arith, h))
    further (inr h) = inr (omega (arith, h))

-- what was learned up to the head, and kept past it
pub learned_numbers : (k k2 from : ℕ → Option Rev) (head seen now : ℕ) → ((r : ℕ) → r ≤ head → k2 r ≡ from r) → ((r : ℕ) → head < r → k2 r ≡ k r)
    → ((r : ℕ) → r ≤ head → number_in (from r) ≡ Some r) → ((r : ℕ) → r ≤ seen → number_in (k r) ≡ Some r)
    → ((r : ℕ) → r ≤ now → head < r → r ≤ seen)
    → (r : ℕ) → r ≤ now → number_in (k2 r) ≡ Some r
learned_numbers k k2 from head seen now learned rest theirs mine up r le = by_place (split r head)
  where
    by_place : (r ≤ head) ⊎ (head < r) → number_in (k2 r) ≡ Some r
    by_place (inl h) = ap number_in (learned r h) ∙ theirs r h
    by_place (inr h) = ap number_in (rest r h) ∙ mine r (up r le h)
