-- what a clause reads of a source or a sink over one of std's readers or writers
use Rattle.std.specs.Prelude.{ℕ}
use Rattle.std.specs.Global.{Global}
use Rattle.std.specs.declared.io.buffered.BufWriter.{BufWriter}
use Rattle.crew_io.specs.declared.source.StdSource.{StdSource}
use Rattle.crew_io.specs.declared.sink.StdSink.{StdSink}

-- the reader that the source reads from
abbrev pub reader_of : {R : Type 0} → StdSource R → R
reader_of s = s.inner

-- how many of its reads it answered with a fault
abbrev pub read_faults : {R : Type 0} → StdSource R → ℕ
read_faults s = s.failed

-- the writer that the sink writes to, with its buffer
abbrev pub writer_of : {W : Type 0} → StdSink W → BufWriter W Global
writer_of s = s.inner

-- how many of its writes and flushes it answered with a fault
abbrev pub write_faults : {W : Type 0} → StdSink W → ℕ
write_faults s = s.failed
