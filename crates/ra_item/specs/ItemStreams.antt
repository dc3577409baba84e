-- The items that a reader's bytes are, one after another.
use Rattle.std.specs.Prelude.{◌≡◌, ℕ, ◌+◌, ◌-◌, ◌*◌, length, Bool, true, false, List, [], ◌∷◌, ◌++◌, reverse, Option, Some, None, Result, Ok, Err}
use Rattle.std.specs.Io.KnownBytes.{Consumes, IsAtEnd}
use Rattle.ra_item.specs.Items.{Item}
use Rattle.ra_item.specs.Reading.{is_between}
use Rattle.ra_item.specs.Streams.{Stream, Reads, Refuses, reading, stream_of}
use Rattle.ra_item.specs.declared.fault.ItemFault.{ItemFault}
use Rattle.ra_item.specs.declared.fault.ItemFault.TheVariants as item
use Rattle.ra_item.specs.declared.reading.Reading.{Reading}
use Rattle.ra_item.specs.declared.fault.NextFault.{NextFault}
use Rattle.ra_item.specs.declared.fault.NextFault.TheVariants as next
use Rattle.byte_streams.specs.Causes.{Counts, counts, Fails}
use Rattle.ra_item.specs.Rests.{is_over}
use Rattle.ra_item.specs.declared.stream.ItemStream.{ItemStream}
use Rattle.ra_item.specs.declared.stream.Rest.{Rest}
use Rattle.ra_item.specs.declared.stream.Rest.TheVariants as rest

-- some items, and then a stream
abbrev pub behind : List Item → Stream → Stream
behind xs (Reads ys r) = Reads (xs ++ ys) r
behind xs (Refuses ys f) = Refuses (xs ++ ys) f

-- some bytes were read: whatever follows them, these items were to come before, and then what is to come now
pub record Takes (xs : List Item) (before after : Option (List ℕ)) (old new : List ℕ → Stream) : Type 0 where
  pub bytes : List ℕ
  pub consumed : Consumes before after bytes
  pub items : (more : List ℕ) → old (bytes ++ more) ≡ behind xs (new more)

-- the bytes end behind these items, between items or inside one
pub record Ends (xs : List Item) (whole : Bool) (before after : Option (List ℕ)) (old : List ℕ → Stream) : Type 0 where
  pub bytes : List ℕ
  pub consumed : Consumes before after bytes
  pub end : IsAtEnd after
  pub last : Reading
  pub items : old bytes ≡ Reads xs last
  pub between : is_between last ≡ whole

-- behind these items stands a byte that no item has, and this is its refusal
pub record Breaks (xs : List Item) (f : ItemFault) (before after : Option (List ℕ)) (old : List ℕ → Stream) : Type 0 where
  pub bytes : List ℕ
  pub consumed : Consumes before after bytes
  pub items : (more : List ℕ) → old (bytes ++ more) ≡ Refuses xs f

-- what a refusal behind these items says; the stream was spent before, or the reader has failed meanwhile
abbrev pub Stops : List Item → Option (List ℕ) → Option (List ℕ) → (List ℕ → Stream) → Bool → Counts → NextFault → Type 0
Stops xs before after old spent counts (next.Items item.Truncated) = Ends xs false before after old
Stops xs before after old spent counts (next.Items item.TooLong) = Breaks xs item.TooLong before after old
Stops xs before after old spent counts (next.Items item.BadItem) = Breaks xs item.BadItem before after old
Stops xs before after old spent counts (next.Items item.TooDeep) = Breaks xs item.TooDeep before after old
Stops xs before after old spent counts (next.Items item.Failed) = spent ≡ true
Stops xs before after old spent counts (next.Items item.OutOfMemory) = Unit {0}
Stops xs before after old spent counts next.PeerFailed = Fails counts

-- the reader
abbrev pub reader_of : {R : Type 0} {g : _} → ItemStream R g → R
reader_of s = s.source.inner

-- how often it had failed before some calls and has by their end, and how often it was read by then
abbrev pub meanwhile : {R : Type 0} {g : _} → (R → ℕ) → (R → ℕ) → ItemStream R g → ItemStream R g → Counts
meanwhile failures reads old new = counts failures reads (reader_of old) (reader_of new)

-- whether the stream was refused before
abbrev pub is_spent : {R : Type 0} {g : _} → ItemStream R g → Bool
is_spent s = is_over s.rest

-- the items to come where the reader's next bytes are these: those that are whole, and what has come of the next; or those before the first refused byte, and its refusal
abbrev pub rest_of : Rest → List Item → Reading → List ℕ → Stream
rest_of rest.Open ready r bytes = reading (Reads (reverse ready) r) bytes
rest_of (rest.Refused f) ready r bytes = Refuses (reverse ready) f
rest_of rest.Spent ready r bytes = Refuses [] item.Failed

abbrev pub ahead : {R : Type 0} {g : _} → ItemStream R g → List ℕ → Stream
ahead s = rest_of s.rest s.ready.items s.items

-- nothing was read
abbrev pub Fresh : {R : Type 0} {g : _} → ItemStream R g → Type 0
Fresh s = (is_spent s ≡ false) × ((bytes : List ℕ) → ahead s bytes ≡ stream_of bytes)

-- how many items may come at most: those that are ready, and one for each byte of the reads that are left
abbrev pub left : {R : Type 0} {g : _} → ItemStream R g → ℕ
left s = (1099511627775 - s.source.reads) * 16384 + length s.ready.items

-- what the answer to a call for the next item says
abbrev pub Answers : {R : Type 0} {g : _} → (R → Option (List ℕ)) → (R → ℕ) → (R → ℕ) → ItemStream R g → ItemStream R g → Result (Option Item) NextFault → Type 0
Answers remaining failures reads old new (Ok (Some x)) = Takes (x ∷ []) (remaining (reader_of old)) (remaining (reader_of new)) (ahead old) (ahead new)
Answers remaining failures reads old new (Ok None) = Ends [] true (remaining (reader_of old)) (remaining (reader_of new)) (ahead old)
Answers remaining failures reads old new (Err f) = Stops [] (remaining (reader_of old)) (remaining (reader_of new)) (ahead old) (is_spent old) (meanwhile failures reads old new) f

-- what reading on until an item is ready answers: it is, or the bytes have ended
abbrev pub Fills : {R : Type 0} {g : _} → (R → Option (List ℕ)) → (R → ℕ) → (R → ℕ) → ItemStream R g → ItemStream R g → Result Bool NextFault → Type 0
Fills remaining failures reads old new (Ok true) = Takes [] (remaining (reader_of old)) (remaining (reader_of new)) (ahead old) (ahead new)
Fills remaining failures reads old new (Ok false) = Ends [] true (remaining (reader_of old)) (remaining (reader_of new)) (ahead old)
Fills remaining failures reads old new (Err f) = Stops [] (remaining (reader_of old)) (remaining (reader_of new)) (ahead old) (is_spent old) (meanwhile failures reads old new) f
