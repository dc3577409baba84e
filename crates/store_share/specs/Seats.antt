-- What a seat is to its caller.
use Rattle.std.specs.Prelude.{◌≡◌, ◌≤◌, ℕ, Option, Some, IfSome}
use Rattle.std.specs.Borrow.{Bor}
use Rattle.store_share.specs.declared.rev.Rev.{Rev}
use Rattle.store_share.specs.Row.{known_at}
use Rattle.store_share.specs.declared.seat.ReaderSeat.{ReaderSeat}

-- the greatest revision that it has seen
abbrev pub seen_by : {L : Type 0} {r : _} → ReaderSeat L r → ℕ
seen_by seat = seat.seen

-- the revision that it knows at a number
abbrev pub known_by : {L : Type 0} {r : _} → ReaderSeat L r → ℕ → Option Rev
known_by seat n = known_at seat.notes n

-- what it has seen it knows as it did
abbrev pub KeepsSeen : {L : Type 0} {r : _} → ReaderSeat L r → ReaderSeat L r → Type 0
KeepsSeen old new = (n : ℕ) → n ≤ seen_by old → known_by new n ≡ known_by old n

-- what it knew it knows
abbrev pub KeepsFound : {L : Type 0} {r : _} → ReaderSeat L r → ReaderSeat L r → Type 0
KeepsFound old new = (n : ℕ) (x : Rev) → known_by old n ≡ Some x → known_by new n ≡ Some x

-- up to that number two know the same
abbrev pub AgreeUpTo : {L : Type 0} {r : _} → ℕ → ReaderSeat L r → ReaderSeat L r → Type 0
AgreeUpTo last one other = (n : ℕ) → n ≤ last → known_by one n ≡ known_by other n

-- what it has seen it reads
abbrev pub ReadsSeen : {L : Type 0} {r : _} → ReaderSeat L r → ℕ → Option (Bor Rev) → Type 0
ReadsSeen seat number result = (x : Rev) → number ≤ seen_by seat → known_by seat number ≡ Some x → IfSome result (λ v. v.now ≡ x)

-- what is read has that number, and is known then
abbrev pub ReadsAs : {L : Type 0} {r : _} → ReaderSeat L r → ℕ → Option (Bor Rev) → Type 0
ReadsAs seat number result = IfSome result (λ v. (v.now.number ≡ number) × (known_by seat number ≡ Some v.now))

-- it has seen no less
abbrev pub SeesOn : {L : Type 0} {r : _} → ReaderSeat L r → ReaderSeat L r → Type 0
SeesOn old new = seen_by old ≤ seen_by new
