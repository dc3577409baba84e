-- What holds of all bytes and all bases.
use Rattle.std.specs.Prelude.{◌≡◌, ℕ, zero, true, List, [], ◌++◌}
use Rattle.svndiff.specs.declared.delta.Delta.{Delta}
use Rattle.svndiff.specs.Grammar.{IsText}
use Rattle.svndiff.specs.DeltaGrammar.{Makes, Nothing, FromSource, FromTarget, FromNew, AreDeltas, Empty, Then, IsDelta, view_of}
use Rattle.svndiff.specs.DeltaReading.{is_between}
use Rattle.svndiff.specs.DeltaStreams.{Stream, Reads, reading, stream_of}

-- it doesn't matter how bytes are cut into pieces
abbrev pub DeltaPiecesJoin : Type 0
DeltaPiecesJoin = (base : List ℕ) (s : Stream) (first rest : List ℕ) → reading base s (first ++ rest) ≡ reading base (reading base s first) rest

-- bytes are a delta of a base and end between windows
abbrev pub IsDeltaRead : List ℕ → List ℕ → List ℕ → Type 0
IsDeltaRead bytes base text = (d : Delta) × (is_between d.window ≡ true) × (stream_of base bytes ≡ Reads text d)

-- what the grammar calls a delta of a base is read as the text that it makes
abbrev pub DeltasAreRead : Type 0
DeltasAreRead = (bytes base text : List ℕ) → IsDelta bytes base text → IsDeltaRead bytes base text

-- bytes make one text at most of a base
abbrev pub OneMade : Type 0
OneMade = (bytes base one other : List ℕ) → IsDelta bytes base one → IsDelta bytes base other → one ≡ other

-- what is read is in the grammar
abbrev pub ReadIsDelta : Type 0
ReadIsDelta = (bytes base text : List ℕ) → IsDeltaRead bytes base text → IsDelta bytes base text

-- a text in windows of new data alone is a delta that makes it of any base
abbrev pub TextsAreDeltas : Type 0
TextsAreDeltas = (bytes base text : List ℕ) → IsText bytes text → IsDelta bytes base text

-- no instruction of a window copies
abbrev pub NoCopy : (view bytes new made : List ℕ) → Makes view bytes new made → Type 0
NoCopy view [] [] [] Nothing = Unit {0}
NoCopy view both_bytes both_new both_made (FromSource bytes new made first at n before copies inside) = ⊥
NoCopy view both_bytes both_new both_made (FromTarget bytes new made first piece at before copies stands same) = ⊥
NoCopy view both_bytes both_new both_made (FromNew bytes new made first piece before spelt) = NoCopy view bytes new made before

-- no window has a view with a byte, and none copies
abbrev pub NoCopies : (base : List ℕ) (floor ceiling : ℕ) (bytes text : List ℕ) → AreDeltas base floor ceiling bytes text → Type 0
NoCopies base zero zero [] [] Empty = Unit {0}
NoCopies base both_floors both_ceilings both_bytes both_texts (Then floor ceiling at n bytes text first made before one slides) =
    NoCopies base floor ceiling bytes text before × (n ≡ 0) × NoCopy (view_of base at n) one.instructions one.new made one.make

-- a delta that copies nothing is a text in windows of new data alone
abbrev pub DeltasAreTexts : Type 0
DeltasAreTexts = (bytes base text : List ℕ) (d : IsDelta bytes base text) → NoCopies base d.floor d.ceiling d.windows text d.are → IsText bytes text
