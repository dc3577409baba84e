-- What a byte makes of a text that comes in windows.
use Rattle.std.specs.Prelude.{◌≡◌, ℕ, ◌+◌, ◌-◌, ◌*◌, ◌==◌, ◌&&◌, ◌||◌, nat_lt, Bool, true, false, if◌then◌else◌, Result, Ok, Err}
use Rattle.svndiff.specs.Groups.{is_last, group}
use Rattle.svndiff.specs.declared.fault.WindowFault.{WindowFault}
use Rattle.svndiff.specs.declared.fault.WindowFault.TheVariants.{BadWindow, CopyWindow, TooLong, Failed}
use Rattle.svndiff.specs.declared.reading.Digit.{Digit}
use Rattle.svndiff.specs.declared.reading.Digit.TheVariants.{Whole, Goes, Wrong}
use Rattle.svndiff.specs.declared.reading.Field.{Field}
use Rattle.svndiff.specs.declared.reading.Field.TheVariants as field
use Rattle.svndiff.specs.declared.reading.Place.{Place}
use Rattle.svndiff.specs.declared.reading.Place.TheVariants as at
use Rattle.svndiff.specs.declared.reading.Reading.{Reading}
use Rattle.svndiff.specs.declared.limits.TheConstants.{TEXT_BYTES, WINDOW_BYTES}

-- what is awaited changes, or the byte is one of the text's, or it is refused
pub data Step : Type 0 where
  Next : Reading → Step
  Gives : ℕ → Reading → Step
  Refused : WindowFault → Step

-- before the first byte
abbrev pub begin : Reading
begin = record { place = at.Magic 0; source = 0; target = 0; instructions = 0; fresh = 0; sum = 0; room = TEXT_BYTES }

abbrev pub spent : Reading
spent = record begin { place = at.Failed }

-- between windows
abbrev pub is_between : Reading → Bool
is_between r = elim r.place as (λ _. Bool) [ at.Between ↦ true | _ ↦ false ]

abbrev pub is_failed : Reading → Bool
is_failed r = elim r.place as (λ _. Bool) [ at.Failed ↦ true | _ ↦ false ]

-- the bytes of the version
abbrev pub magic : ℕ → ℕ
magic k = if k == 0 then 83 else if k == 1 then 86 else if k == 2 then 78 else 0

abbrev pub in_magic : ℕ → Reading → ℕ → Step
in_magic k r b =
    if b == magic k
    then Next (record r { place = if nat_lt k 3 then at.Magic (k + 1) else at.Between })
    else Refused BadWindow

-- a number with one byte more: it is whole, goes on, or is longer than ten bytes or past 2 ^ 64 - 1
abbrev pub digit : ℕ → ℕ → ℕ → Digit
digit count n b =
    if nat_lt (n * 128 + group b) 18446744073709551616
    then if is_last b then Whole (n * 128 + group b) else if nat_lt (count + 1) 10 then Goes (count + 1) (n * 128 + group b) else Wrong
    else Wrong

-- the instructions are over: they make what was announced
abbrev pub summed : Reading → Step
summed r =
    if r.sum == r.target && r.sum == r.fresh
    then Next (record r { place = if r.fresh == 0 then at.Between else at.NewData })
    else Refused BadWindow

-- the numbers in front of a window are there
abbrev pub judged : Reading → Step
judged r =
    if nat_lt WINDOW_BYTES r.target || nat_lt WINDOW_BYTES r.fresh || nat_lt r.room r.fresh then Refused TooLong
    else if nat_lt 0 r.source then Refused CopyWindow
    else if r.instructions == 0 then summed (record r { sum = 0 })
    else Next (record r { place = at.Instruction; sum = 0 })

-- a number in front of a window is there
abbrev pub filled : Field → Reading → ℕ → Step
filled field.SourceOffset r n = Next (record r { place = at.Head field.SourceLength 0 0 })
filled field.SourceLength r n = Next (record r { source = n; place = at.Head field.TargetLength 0 0 })
filled field.TargetLength r n = Next (record r { target = n; place = at.Head field.InstructionLength 0 0 })
filled field.InstructionLength r n = Next (record r { instructions = n; place = at.Head field.NewLength 0 0 })
filled field.NewLength r n = judged (record r { fresh = n })

abbrev pub head_digit : Field → Reading → Digit → Step
head_digit f r (Whole n) = filled f r n
head_digit f r (Goes count n) = Next (record r { place = at.Head f count n })
head_digit f r Wrong = Refused BadWindow

-- more new data; what is past a window's limit stays past it
abbrev pub more_data : ℕ → ℕ → ℕ
more_data sum n = if nat_lt WINDOW_BYTES sum || nat_lt WINDOW_BYTES n then WINDOW_BYTES + 1 else sum + n

-- an instruction is whole
abbrev pub instructed : Reading → ℕ → Step
instructed r n =
    if n == 0 then Refused BadWindow
    else if r.instructions == 0 then summed (record r { sum = more_data r.sum n })
    else Next (record r { place = at.Instruction; sum = more_data r.sum n })

-- an instruction goes on, within the bytes that were announced
abbrev pub within : Reading → Step
within r = if r.instructions == 0 then Refused BadWindow else Next r

-- where an instruction begins: the top two bits say what it is
abbrev pub instruction : Reading → ℕ → Step
instruction r b =
    if nat_lt b 128 then Refused CopyWindow
    else if nat_lt b 192
    then if b == 128 then within (record r { place = at.Length 0 0 }) else instructed r (b - 128)
    else Refused BadWindow

abbrev pub length_digit : Reading → Digit → Step
length_digit r (Whole n) = instructed r n
length_digit r (Goes count n) = within (record r { place = at.Length count n })
length_digit r Wrong = Refused BadWindow

-- one byte of the instructions less to come
abbrev pub one_less : Reading → Reading
one_less r = record r { instructions = r.instructions - 1 }

-- bytes of the text
abbrev pub given : ℕ → Reading → Reading
given k r = record r { place = if nat_lt k r.fresh then at.NewData else at.Between; fresh = r.fresh - k; room = r.room - k }

abbrev pub byte_step : Place → Reading → ℕ → Step
byte_step (at.Magic k) r b = in_magic k r b
byte_step at.Between r b = head_digit field.SourceOffset r (digit 0 0 b)
byte_step (at.Head f count n) r b = head_digit f r (digit count n b)
byte_step at.Instruction r b = instruction (one_less r) b
byte_step (at.Length count n) r b = length_digit (one_less r) (digit count n b)
byte_step at.NewData r b = Gives b (given 1 r)
byte_step at.Failed r b = Refused Failed

abbrev pub one_step : Reading → ℕ → Step
one_step r b = byte_step r.place r b

-- what a call did with a byte that is none of the text's
abbrev pub StepIs : Result (Unit {0}) WindowFault → Reading → Step → Type 0
StepIs (Ok u) new step = step ≡ Next new
StepIs (Err f) new step = step ≡ Refused f
