-- The text of a stream of bytes.
use Rattle.std.specs.Prelude.{ℕ, Bool, true, false, List, [], ◌∷◌, ◌++◌}
use Rattle.svndiff.specs.declared.fault.WindowFault.{WindowFault}
use Rattle.svndiff.specs.declared.reading.Place.TheVariants as at
use Rattle.svndiff.specs.declared.reading.Reading.{Reading}
use Rattle.svndiff.specs.Reading.{Step, Next, Gives, Refused, begin, one_step}

-- the text so far and what is awaited; or the text before the first refused byte, and its refusal
pub data Stream : Type 0 where
  Reads : List ℕ → Reading → Stream
  Refuses : List ℕ → WindowFault → Stream

abbrev pub of_step : List ℕ → Step → Stream
of_step text (Next r) = Reads text r
of_step text (Gives b r) = Reads (text ++ b ∷ []) r
of_step text (Refused f) = Refuses text f

abbrev pub one_byte : Stream → ℕ → Stream
one_byte (Reads text r) b = of_step text (one_step r b)
one_byte (Refuses text f) b = Refuses text f

-- what bytes make of a stream
abbrev pub reading : Stream → List ℕ → Stream
reading s [] = s
reading s (b ∷ bs) = reading (one_byte s b) bs

-- what a stream of bytes is
abbrev pub stream_of : List ℕ → Stream
stream_of = reading (Reads [] begin)

-- a window's new data goes on
abbrev pub has_more : Reading → Bool
has_more r = elim r.place as (λ _. Bool) [ at.NewData ↦ true | _ ↦ false ]

-- a byte in front of pieces: in the first of them where its window goes on, else a piece of its own
abbrev pub in_front : ℕ → Bool → List (List ℕ) → List (List ℕ)
in_front b true (piece ∷ pieces) = (b ∷ piece) ∷ pieces
in_front b true [] = (b ∷ []) ∷ []
in_front b false pieces = (b ∷ []) ∷ pieces

-- a byte, and the pieces in those behind it
abbrev pub and_pieces : Step → (Reading → List (List ℕ)) → List (List ℕ)
and_pieces (Next r) behind = behind r
and_pieces (Gives b r) behind = in_front b (has_more r) (behind r)
and_pieces (Refused f) behind = []

-- the new data in bytes, a piece for each window that has some there
abbrev pub pieces_in : Reading → List ℕ → List (List ℕ)
pieces_in r [] = []
pieces_in r (b ∷ bs) = and_pieces (one_step r b) (λ next. pieces_in next bs)

-- a piece, where it has a byte, and the others
abbrev pub with_piece : List ℕ → List (List ℕ) → List (List ℕ)
with_piece [] pieces = pieces
with_piece (b ∷ bs) pieces = (b ∷ bs) ∷ pieces
