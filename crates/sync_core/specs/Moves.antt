-- How calls move a mirror's numbers.
use Rattle.std.specs.Prelude.{◌≡◌, ℕ, ◌<◌, ◌≤◌, length, None}
use Rattle.sync_core.specs.declared.numbers.Numbers.{Numbers}
use Rattle.sync_core.specs.Names.{Absent, Spelt}
use Rattle.sync_core.specs.Mirror.{Mirror, Standing, standing_of, Call, Init, SetCopying, Commit, SetMerged, ClearCopying, refusal, revisions_by}

abbrev pub numbers_of : Standing → Numbers
numbers_of r = record { merged = r.merged; copying = r.copying; head = r.head }

-- after an accepted call
abbrev pub numbers_after : Numbers → Call → Numbers
numbers_after k (Init url uuid props) = record { merged = Spelt 0; copying = Absent; head = k.head }
numbers_after k (SetCopying n) = record k { copying = Spelt n }
numbers_after k (Commit n set props) = record k { head = n }
numbers_after k (SetMerged n) = record k { merged = Spelt n }
numbers_after k ClearCopying = record k { copying = Absent }
numbers_after k _ = k

-- so they move at every mirror of 1 to 65,536 revisions
abbrev pub CallsMoveNumbers : Type 0
CallsMoveNumbers =
    (m : Mirror) (seat : ℕ) (call : Call) → 0 < length m.revisions → length m.revisions ≤ 65536 → refusal m seat call ≡ None
    → numbers_of (standing_of (revisions_by m.revisions call)) ≡ numbers_after (numbers_of (standing_of m.revisions)) call
