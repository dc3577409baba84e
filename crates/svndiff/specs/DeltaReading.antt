-- What a byte makes of a window that may copy, up to its new data.
use Rattle.std.specs.Prelude.{◌≡◌, ℕ, ◌+◌, ◌-◌, ◌==◌, ◌&&◌, ◌||◌, nat_lt, Bool, true, false, if◌then◌else◌, Option, Some, None, Result, Ok, Err}
use Rattle.svndiff.specs.declared.delta_fault.DeltaFault.{DeltaFault}
use Rattle.svndiff.specs.declared.delta_fault.DeltaFault.TheVariants.{BadWindow, TooLong, Failed}
use Rattle.svndiff.specs.declared.instructions.Instruction.{Instruction}
use Rattle.svndiff.specs.declared.instructions.Kind.{Kind}
use Rattle.svndiff.specs.declared.instructions.Kind.TheVariants as kind
use Rattle.svndiff.specs.declared.reading.Digit.{Digit}
use Rattle.svndiff.specs.declared.reading.Digit.TheVariants.{Whole, Goes, Wrong}
use Rattle.svndiff.specs.declared.reading.Field.{Field}
use Rattle.svndiff.specs.declared.reading.Field.TheVariants as field
use Rattle.svndiff.specs.declared.window.Awaited.{Awaited}
use Rattle.svndiff.specs.declared.window.Awaited.TheVariants as at
use Rattle.svndiff.specs.declared.window.Window.{Window}
use Rattle.svndiff.specs.Reading.{magic, digit}
use Rattle.svndiff.specs.declared.limits.TheConstants.{TEXT_BYTES, WINDOW_BYTES}

-- what is awaited changes, and perhaps an instruction is whole; or the byte is refused
pub data Step : Type 0 where
  Next : Option Instruction → Window → Step
  Refused : DeltaFault → Step

-- before the first byte
abbrev pub begin : Window
begin = record { place = at.Magic 0; offset = 0; source = 0; target = 0; instructions = 0; fresh = 0; sum = 0; news = 0; room = TEXT_BYTES; floor = 0; ceiling = 0 }

abbrev pub spent : Window
spent = record begin { place = at.Failed }

-- between windows
abbrev pub is_between : Window → Bool
is_between w = elim w.place as (λ _. Bool) [ at.Between ↦ true | _ ↦ false ]

-- a window's text is to be made
abbrev pub is_whole : Window → Bool
is_whole w = elim w.place as (λ _. Bool) [ at.Whole ↦ true | _ ↦ false ]

abbrev pub is_failed : Window → Bool
is_failed w = elim w.place as (λ _. Bool) [ at.Failed ↦ true | _ ↦ false ]

abbrev pub in_magic : ℕ → Window → ℕ → Step
in_magic k w b =
    if b == magic k
    then Next None (record w { place = if nat_lt k 3 then at.Magic (k + 1) else at.Between })
    else Refused BadWindow

-- the instructions are over: they make what was announced
abbrev pub summed : Option Instruction → Window → Step
summed done w =
    if w.sum == w.target && w.news == w.fresh
    then Next done (record w { place = if w.fresh == 0 then at.Whole else at.NewData })
    else Refused BadWindow

abbrev pub go_on : Option Instruction → Window → Step
go_on done w = if w.instructions == 0 then summed done w else Next done (record w { place = at.Instruction })

-- the window's view lies past a base of a length, or slides back
abbrev pub misfits : ℕ → Window → Bool
misfits length w = nat_lt length w.source || nat_lt (length - w.source) w.offset || nat_lt w.offset w.floor || nat_lt (w.offset + w.source) w.ceiling

abbrev pub slid : Window → Window
slid w = record w { floor = w.offset; ceiling = w.offset + w.source }

abbrev pub cleared : Window → Window
cleared w = record w { sum = 0; news = 0 }

-- the numbers in front of a window are there
abbrev pub judged : ℕ → Window → Step
judged length w =
    if nat_lt WINDOW_BYTES w.target || nat_lt WINDOW_BYTES w.fresh || nat_lt WINDOW_BYTES w.source || nat_lt w.room w.target then Refused TooLong
    else if w.source == 0 then go_on None (cleared w)
    else if misfits length w then Refused BadWindow
    else go_on None (slid (cleared w))

-- a number in front of a window is there
abbrev pub filled : ℕ → Field → Window → ℕ → Step
filled length field.SourceOffset w n = Next None (record w { offset = n; place = at.Head field.SourceLength 0 0 })
filled length field.SourceLength w n = Next None (record w { source = n; place = at.Head field.TargetLength 0 0 })
filled length field.TargetLength w n = Next None (record w { target = n; place = at.Head field.InstructionLength 0 0 })
filled length field.InstructionLength w n = Next None (record w { instructions = n; place = at.Head field.NewLength 0 0 })
filled length field.NewLength w n = judged length (record w { fresh = n })

abbrev pub head_digit : ℕ → Field → Window → Digit → Step
head_digit length f w (Whole n) = filled length f w n
head_digit length f w (Goes count n) = Next None (record w { place = at.Head f count n })
head_digit length f w Wrong = Refused BadWindow

-- an instruction takes what isn't there: past the view, what isn't made yet, or past the new data
abbrev pub takes_wrong : Instruction → Window → Bool
takes_wrong i w =
    elim i.kind as (λ _. Bool) [
      | kind.Source ↦ nat_lt (w.source - i.at) i.length
      | kind.Target ↦ if nat_lt i.at w.sum then false else true
      | kind.New ↦ nat_lt (w.fresh - w.news) i.length
    ]

abbrev pub is_wrong : Instruction → Window → Bool
is_wrong i w = if i.length == 0 || nat_lt (w.target - w.sum) i.length then true else takes_wrong i w

-- how much new data an instruction takes
abbrev pub new_of : Kind → ℕ → ℕ
new_of kind.Source n = 0
new_of kind.Target n = 0
new_of kind.New n = n

abbrev pub counted : Kind → ℕ → Window → Window
counted k n w = record w { sum = w.sum + n; news = w.news + new_of k n }

-- an instruction is whole
abbrev pub instructed : Instruction → Window → Step
instructed i w = if is_wrong i w then Refused BadWindow else go_on (Some i) (counted i.kind i.length w)

-- an instruction goes on, within the bytes that were announced
abbrev pub within : Window → Step
within w = if w.instructions == 0 then Refused BadWindow else Next None w

-- the length of an instruction is there
abbrev pub sized : Kind → ℕ → Window → Step
sized kind.New n w = instructed (record { kind = kind.New; at = 0; length = n }) w
sized k n w = within (record w { place = at.Offset k n 0 0 })

abbrev pub begun : Kind → ℕ → Window → Step
begun k low w = if low == 0 then within (record w { place = at.Length k 0 0 }) else sized k low w

-- where an instruction begins: the top two bits say what it is
abbrev pub instruction : Window → ℕ → Step
instruction w b =
    if nat_lt b 64 then begun kind.Source b w
    else if nat_lt b 128 then begun kind.Target (b - 64) w
    else if nat_lt b 192 then begun kind.New (b - 128) w
    else Refused BadWindow

abbrev pub length_digit : Kind → Window → Digit → Step
length_digit k w (Whole n) = sized k n w
length_digit k w (Goes count n) = within (record w { place = at.Length k count n })
length_digit k w Wrong = Refused BadWindow

abbrev pub offset_digit : Kind → ℕ → Window → Digit → Step
offset_digit k size w (Whole n) = instructed (record { kind = k; at = n; length = size }) w
offset_digit k size w (Goes count n) = within (record w { place = at.Offset k size count n })
offset_digit k size w Wrong = Refused BadWindow

-- one byte of the instructions less to come
abbrev pub one_less : Window → Window
one_less w = record w { instructions = w.instructions - 1 }

abbrev pub byte_step : ℕ → Awaited → Window → ℕ → Step
byte_step length (at.Magic k) w b = in_magic k w b
byte_step length at.Between w b = head_digit length field.SourceOffset w (digit 0 0 b)
byte_step length (at.Head f count n) w b = head_digit length f w (digit count n b)
byte_step length at.Instruction w b = instruction (one_less w) b
byte_step length (at.Length k count n) w b = length_digit k (one_less w) (digit count n b)
byte_step length (at.Offset k size count n) w b = offset_digit k size (one_less w) (digit count n b)
byte_step length at.NewData w b = Refused Failed
byte_step length at.Whole w b = Refused Failed
byte_step length at.Failed w b = Refused Failed

-- what a byte that is no new data makes of a window over a base of a length
abbrev pub one_step : ℕ → Window → ℕ → Step
one_step length w b = byte_step length w.place w b

-- so many bytes of new data
abbrev pub kept : ℕ → Window → Window
kept k w = record w { place = if nat_lt k w.fresh then at.NewData else at.Whole; fresh = w.fresh - k }

-- the window's text is made
abbrev pub over : Window → Window
over w = record w { place = at.Between; room = w.room - w.target }

-- what a call did with a byte
abbrev pub StepIs : Result (Option Instruction) DeltaFault → Window → Step → Type 0
StepIs (Ok done) new step = step ≡ Next done new
StepIs (Err f) new step = step ≡ Refused f
