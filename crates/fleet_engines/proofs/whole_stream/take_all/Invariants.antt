use Rattle.std.proofs.Common.{◌≡◌, ◌++◌}
use Rattle.fleet_engines.specs.Takers.{place, TakesAll}
use Rattle.fleet_engines.proofs.whole_stream.take_all.Given as goal

abbrev pub invariant-loop-next : goal.invariant-loop-next
invariant-loop-next g l = record {
  taken : TakesAll g.K.Taker.takes (place l.fn.taker l.fn.store l.fn.output) l.yielded (place l.taker l.store l.output);
  split : l.yielded ++ l.next-iterator.rest.items ≡ l.fn.records.items;
  failed : g.K.Taker.failures l.output ≡ g.K.Taker.failures l.fn.output;
}
