-- Records of a stream whose first ones were taken away.
use Rattle.std.specs.Prelude.{◌≡◌, ℕ, List, ◌++◌}
use Rattle.dump_text.specs.declared.record.DumpRecord.{DumpRecord}
use Rattle.dump_text.specs.Streams.{Stream, Reads, Refuses, reading}

-- the stream with records before its own
abbrev pub behind : List DumpRecord → Stream → Stream
behind front (Reads rs r) = Reads (front ++ rs) r
behind front (Refuses rs f) = Refuses (front ++ rs) f

-- what comes next doesn't depend on the records that are whole
abbrev pub RecordsDontMatter : Type 0
RecordsDontMatter = (front : List DumpRecord) (s : Stream) (bs : List ℕ) → reading (behind front s) bs ≡ behind front (reading s bs)
