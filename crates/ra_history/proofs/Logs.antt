-- What a log tells, through its direction and its limit.
use Rattle.std.proofs.Common.{◌≡◌, ℕ, Bool, true, false, List, take, refl, sym, ap, subst, ◌∙◌}
use Rattle.std.proofs.lemmas.List.Elements.{All-weaker, All-contains, All-contains_itself, All-take}
use Rattle.std.proofs.lemmas.List.Sorted.{Contains-permutation, IsPermutation-sym, IsPermutation-reverse}
use Rattle.std.specs.Prelude.{nat_lt, ◌==◌, reverse, if◌then◌else◌}
use Rattle.std.specs.List.{All, Contains}
use Rattle.path_history.specs.Logs.{IsLogged}
use Rattle.ra_history.specs.Logs.{asked_of, directed, cut}
use Rattle.ra_history.specs.Laws.{TellsEach, TellsNoOther}

-- ---- what holds of all holds of those that are told

all_reverse : (P : ℕ → Type 0) (ns : List ℕ) → All P ns → All P (reverse ns)
all_reverse P ns h = All-weaker (Contains (reverse ns)) P (λ n c. All-contains P ns n h (Contains-permutation (reverse ns) ns n (IsPermutation-sym ns (reverse ns) (IsPermutation-reverse ns)) c)) (reverse ns) (All-contains_itself (reverse ns))

all_directed : (P : ℕ → Type 0) (b : Bool) (ns : List ℕ) → All P ns → All P (if b then reverse ns else ns)
all_directed P true ns h = all_reverse P ns h
all_directed P false ns h = h

all_cut : (P : ℕ → Type 0) (b : Bool) (limit : ℕ) (ns : List ℕ) → All P ns → All P (if b then ns else take limit ns)
all_cut P true limit ns h = h
all_cut P false limit ns h = All-take P limit ns h

pub tells_no_other : TellsNoOther
tells_no_other sets r places told i =
    let P : ℕ → Type 0 = IsLogged sets (asked_of r) places in
    subst (All P) (sym i.2) (all_cut P (r.limit == 0) r.limit (directed r i.0) (all_directed P (nat_lt r.last r.first) i.0 (All-weaker (Contains i.0) P i.1.has.each i.0 (All-contains_itself i.0))))

-- ---- without a limit all are told

in_directed : (b : Bool) (ns : List ℕ) (n : ℕ) → Contains ns n → Contains (if b then reverse ns else ns) n
in_directed true ns n c = Contains-permutation ns (reverse ns) n (IsPermutation-reverse ns) c
in_directed false ns n c = c

pub tells_each : TellsEach
tells_each sets r places told i z a b c k =
    let ns = i.0 in
    let all : told ≡ directed r ns = i.2 ∙ ap (λ m. cut m (directed r ns)) z in
    subst (λ l. Contains l b.revision) (sym all)
    (in_directed (nat_lt r.last r.first) ns b.revision (i.1.has.all b.revision (record { from = a; at = b; given = c; asked = k; number = refl })))
