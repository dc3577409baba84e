-- What is known of counted streams.
use Rattle.std.specs.Prelude.{ℕ}
use Rattle.byte_streams.specs.declared.counted.CountedReader.{CountedReader}
use Rattle.byte_streams.specs.declared.counted.CountedWriter.{CountedWriter}

-- the reader
abbrev pub reader_of : {R : Type 0} → CountedReader R → R
reader_of input = input.inner

-- how often it failed
abbrev pub failures_of : {R : Type 0} → CountedReader R → ℕ
failures_of input = input.failures

-- how often it was read
abbrev pub reads_of : {R : Type 0} → CountedReader R → ℕ
reads_of input = input.reads

-- the writer
abbrev pub writer_of : {W : Type 0} → CountedWriter W → W
writer_of output = output.inner

-- how often that failed
abbrev pub faults_of : {W : Type 0} → CountedWriter W → ℕ
faults_of output = output.failures
