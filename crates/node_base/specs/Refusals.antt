-- Refusals: their numbers, their texts, and the line that the program prints.
use Rattle.std.specs.Prelude.{ℕ, Bool, true, false, ◌&&◌, nat_le, List, [], ◌∷◌, ◌++◌, map, if◌then◌else◌, codes, string_bytes}
use Rattle.std.specs.Fmt.{decimal}
use Rattle.node_base.specs.declared.told_number.ToldNumber.{ToldNumber}
use Rattle.node_base.specs.declared.told_number.ToldNumber.TheVariants.{Missing, Spelt, Huge}
use Rattle.node_base.specs.declared.refusal.Refusal.{Refusal}
use Rattle.node_base.specs.declared.refusal.Refusal.TheVariants.{BadVersion, BadHeader, BadNumber, BadLength, BadProps, BadSum, Truncated, TooLong, TextDelta, BadPath, NoSuchPath, PathThere, NotDir, NoSource, OutOfOrder, WrongNumber, KindMismatch, NoSuchRevision, BaseMismatch, Full, ReadOnly, Behind, DeviceFailed, Failed, Damaged, NoRepository, ThereAlready, LogFull, BadItem, TooDeep, ReplayForm, BadWindow, CopyWindow, BadToken, UnknownCommand, BadShape, PeerFailed, NotInitialised, AlreadyInitialised, NotEmpty, LockHeld, HolderRunning, WrongMaster, Inconsistent, NotYetCopied, NotHolder, MasterFailed, OutOfTurn, OutOfMemory}

-- a byte of a token as it is printed: `?` for what isn't printable ASCII
abbrev pub shown_byte : ℕ → ℕ
shown_byte b = if nat_le 32 b && nat_le b 126 then b else 63

-- a token as it is printed
abbrev pub shown_token : List ℕ → List ℕ
shown_token = map shown_byte

-- what is told of a number: `-` where there is none, and one from 2^64 on by its digits
abbrev pub told_text : ToldNumber → List ℕ
told_text Missing = codes "-"
told_text (Spelt n) = decimal n
told_text (Huge digits) = shown_token digits

-- what is told of a mirror whose properties of its synchronisation fit no state
abbrev pub inconsistent_text : ToldNumber → ToldNumber → ℕ → List ℕ
inconsistent_text merged copying head = codes "inconsistent: merged " ++ told_text merged ++ codes ", copying " ++ told_text copying ++ codes ", head " ++ decimal head

-- the number of a refusal
abbrev pub refusal_number : Refusal → ℕ
refusal_number BadVersion = 1
refusal_number BadHeader = 2
refusal_number BadNumber = 3
refusal_number BadLength = 4
refusal_number BadProps = 5
refusal_number BadSum = 6
refusal_number Truncated = 7
refusal_number TooLong = 8
refusal_number TextDelta = 9
refusal_number BadPath = 10
refusal_number NoSuchPath = 11
refusal_number PathThere = 12
refusal_number NotDir = 13
refusal_number NoSource = 14
refusal_number OutOfOrder = 15
refusal_number WrongNumber = 16
refusal_number KindMismatch = 17
refusal_number NoSuchRevision = 21
refusal_number BaseMismatch = 22
refusal_number Full = 23
refusal_number ReadOnly = 24
refusal_number (Behind _) = 25
refusal_number DeviceFailed = 31
refusal_number Failed = 32
refusal_number (Damaged _) = 33
refusal_number NoRepository = 34
refusal_number ThereAlready = 35
refusal_number LogFull = 36
refusal_number BadItem = 41
refusal_number TooDeep = 42
refusal_number ReplayForm = 43
refusal_number BadWindow = 44
refusal_number CopyWindow = 45
refusal_number BadToken = 46
refusal_number UnknownCommand = 47
refusal_number BadShape = 48
refusal_number PeerFailed = 49
refusal_number NotInitialised = 51
refusal_number AlreadyInitialised = 52
refusal_number NotEmpty = 53
refusal_number (LockHeld _) = 54
refusal_number (HolderRunning _) = 55
refusal_number WrongMaster = 56
refusal_number (Inconsistent _ _ _) = 57
refusal_number (NotYetCopied _) = 58
refusal_number NotHolder = 59
refusal_number (MasterFailed _) = 60
refusal_number OutOfTurn = 61
refusal_number OutOfMemory = 70

-- the text of a refusal
abbrev pub refusal_text : Refusal → List ℕ
refusal_text BadVersion = codes "unsupported dump format version"
refusal_text BadHeader = codes "bad header"
refusal_text BadNumber = codes "bad number"
refusal_text BadLength = codes "lengths do not agree"
refusal_text BadProps = codes "bad property block"
refusal_text BadSum = codes "checksum mismatch"
refusal_text Truncated = codes "unexpected end of input"
refusal_text TooLong = codes "limit exceeded"
refusal_text TextDelta = codes "text deltas are not supported"
refusal_text BadPath = codes "bad path"
refusal_text NoSuchPath = codes "no such path"
refusal_text PathThere = codes "path already exists"
refusal_text NotDir = codes "not a directory"
refusal_text NoSource = codes "no such copy source"
refusal_text OutOfOrder = codes "changes of one path do not combine"
refusal_text WrongNumber = codes "revision out of sequence"
refusal_text KindMismatch = codes "node kind mismatch"
refusal_text NoSuchRevision = codes "no such revision"
refusal_text BaseMismatch = codes "the property is not as expected"
refusal_text Full = codes "no more revisions"
refusal_text ReadOnly = codes "the mirror is read-only"
refusal_text (Behind head) = codes "the base is not the head " ++ decimal head
refusal_text DeviceFailed = codes "device failed"
refusal_text Failed = codes "failed before"
refusal_text (Damaged entry) = codes "entry " ++ decimal entry ++ codes " is damaged"
refusal_text NoRepository = codes "no repository"
refusal_text ThereAlready = codes "repository already there"
refusal_text LogFull = codes "journal is full"
refusal_text BadItem = codes "bad item"
refusal_text TooDeep = codes "nesting too deep"
refusal_text ReplayForm = codes "replay form not supported"
refusal_text BadWindow = codes "bad window"
refusal_text CopyWindow = codes "window copies"
refusal_text BadToken = codes "bad token"
refusal_text UnknownCommand = codes "unknown command"
refusal_text BadShape = codes "bad command shape"
refusal_text PeerFailed = codes "stream failed"
refusal_text NotInitialised = codes "not initialized"
refusal_text AlreadyInitialised = codes "already initialized"
refusal_text NotEmpty = codes "the mirror has revisions"
refusal_text (LockHeld token) = codes "the sync lock is held by " ++ shown_token token.items
refusal_text (HolderRunning token) = codes "the holder " ++ shown_token token.items ++ codes " is running"
refusal_text WrongMaster = codes "the source is another repository"
refusal_text (Inconsistent merged copying head) = inconsistent_text merged copying head
refusal_text (NotYetCopied n) = codes "revision " ++ decimal n ++ codes " is not copied yet"
refusal_text NotHolder = codes "the sync lock is not held"
refusal_text (MasterFailed text) = codes "master: " ++ string_bytes text
refusal_text OutOfTurn = codes "call out of turn"
refusal_text OutOfMemory = codes "out of memory"

-- whether a refusal tells a number, a token or a text of its own
abbrev pub tells_more : Refusal → Bool
tells_more (Behind head) = true
tells_more (Damaged entry) = true
tells_more (LockHeld token) = true
tells_more (HolderRunning token) = true
tells_more (Inconsistent merged copying head) = true
tells_more (NotYetCopied n) = true
tells_more (MasterFailed text) = true
tells_more r = false

-- the line that the program prints for a refusal
abbrev pub fault_line : Refusal → List ℕ
fault_line r = codes "svnfleet: " ++ (decimal (refusal_number r) ++ (codes " " ++ (refusal_text r ++ 10 ∷ [])))
