use Rattle.std.proofs.Common.{[], refl, arith, inl}
use Rattle.std.proofs.KnownBytes.{Consumes-nil}
use Rattle.dump_text.specs.Streams.{dump_by, records_of}
use Rattle.fleet_engines.specs.Takers.{stopped}
use Rattle.fleet_engines.proofs.whole_stream.read_stream.Goals as goal

pub read_dump-requires : goal.read_dump-requires
read_dump-requires g c = omega (arith, c.as_mut_slice.ensures.len, c.in-Ok.ensures.len)

pub returns-in-Err-clause-refused : goal.returns-in-Err-clause-refused
returns-in-Err-clause-refused g c = record { bytes = []; read = Consumes-nil (g.I.Input.remaining c.args.input.now); holds = inl (λ rest. stopped [] (records_of (dump_by c.args.deltas rest)) refl refl (inl refl)) }
