-- How a mirror's numbers are counted, and what a job knows that counts alike.
use Rattle.std.specs.Prelude.{◌≡◌, ℕ, ◌+◌, true, false, Option}
use Rattle.std.specs.Option.{option_map_or}
use Rattle.sync_core.specs.Holding.{known_by}
use Rattle.sync_core.specs.Jobs.{Job, Locked}
use Rattle.sync_core.specs.Moves.{numbers_of}
use Rattle.sync_core.specs.declared.number.Number.{Number}
use Rattle.sync_core.specs.declared.number.Number.TheVariants.{Absent, Misspelt, Spelt, Huge}
use Rattle.sync_core.specs.declared.numbers.Numbers.{Numbers}
use Rattle.sync_core.specs.declared.reply.Reply.{Reply as Given}
use Rattle.sync_core.specs.declared.reply.Reply.TheVariants as given

-- each number by a count of its own
abbrev pub count_of : Number → ℕ
count_of Absent = 0
count_of Misspelt = 1
count_of Huge = 2
count_of (Spelt k) = k + 3

-- 0 where nobody holds the lock, else the place of the seat and one more
abbrev pub holder_count : Option ℕ → ℕ
holder_count holder = option_map_or (λ k. k + 1) holder 0

-- what is counted of a mirror: what is merged, what is being copied, and the head
pub record Counts : Type 0 where
  pub merged : ℕ
  pub copying : ℕ
  pub head : ℕ

abbrev pub counts_as : ℕ → ℕ → ℕ → Counts
counts_as merged copying head = record { merged = merged; copying = copying; head = head }

abbrev pub counts_of : Numbers → Counts
counts_of n = counts_as (count_of n.merged) (count_of n.copying) n.head

-- a job that has had its lock answered knows, once it has looked, the numbers that are counted, and before that nothing
pub record KnowsCounts (job : Job) (k : Counts) : Type 0 where
  pub locked : job.stage ≡ Locked
  pub counts : job.looked ≡ true → counts_of (known_by job) ≡ k
  pub blind : job.looked ≡ false → job.merged ≡ Absent

-- a look tells the numbers that are counted
abbrev pub TellsCounts : Counts → Given → Type 0
TellsCounts k given.Done = Unit {0}
TellsCounts k (given.Seen s) = counts_of (numbers_of s) ≡ k

-- a book's total is what the hand's share of it amounts to, and both stay
abbrev pub IsAudited : ℕ → ℕ → ℕ → ℕ → Type 0
IsAudited total amount later_total later_amount = (amount ≡ total) × (later_amount ≡ amount) × (later_total ≡ total)

-- a book's total is this count, and so is what the hand's share amounts to
abbrev pub CountsAs : ℕ → ℕ → ℕ → Type 0
CountsAs n total amount = (total ≡ n) × (amount ≡ n)
