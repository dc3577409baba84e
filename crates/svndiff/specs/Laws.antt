-- What holds of all bytes.
use Rattle.std.specs.Prelude.{◌≡◌, ℕ, ◌≤◌, true, List, ◌++◌, length}
use Rattle.svndiff.specs.declared.reading.Reading.{Reading}
use Rattle.svndiff.specs.Grammar.{IsText}
use Rattle.svndiff.specs.Reading.{is_between}
use Rattle.svndiff.specs.Spelling.{spelled}
use Rattle.svndiff.specs.Streams.{Stream, Reads, reading, stream_of}
use Rattle.svndiff.specs.declared.limits.TheConstants.{TEXT_BYTES}

-- it doesn't matter how bytes are cut into pieces
abbrev pub PiecesJoin : Type 0
PiecesJoin = (s : Stream) (first rest : List ℕ) → reading s (first ++ rest) ≡ reading (reading s first) rest

-- bytes are a text and end between windows
abbrev pub IsRead : List ℕ → List ℕ → Type 0
IsRead bytes text = (r : Reading) × (is_between r ≡ true) × (stream_of bytes ≡ Reads text r)

-- what the grammar calls a text is read as that text
abbrev pub TextsAreRead : Type 0
TextsAreRead = (bytes text : List ℕ) → IsText bytes text → IsRead bytes text

-- bytes are one text at most
abbrev pub OneText : Type 0
OneText = (bytes one other : List ℕ) → IsText bytes one → IsText bytes other → one ≡ other

-- what is written is in the grammar
abbrev pub WrittenIsText : Type 0
WrittenIsText = (text : List ℕ) → length text ≤ TEXT_BYTES → IsText (spelled text) text

-- what is written is read again
abbrev pub WrittenIsRead : Type 0
WrittenIsRead = (text : List ℕ) → length text ≤ TEXT_BYTES → IsRead (spelled text) text

-- what is read is in the grammar
abbrev pub ReadIsText : Type 0
ReadIsText = (bytes text : List ℕ) → IsRead bytes text → IsText bytes text
