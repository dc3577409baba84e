use Rattle.std.proofs.Common.{◌∙◌}
use Rattle.store_share.specs.Book.{store_of}
use Rattle.fleet_shares.proofs.Settling.{brought_after}
use Rattle.fleet_shares.proofs.shares.FleetShares.settle.Goals as goal

pub returns-clause-brought : goal.returns-clause-brought
returns-clause-brought g c = record {
  first =
      brought_after c.stays-stays.result c.settled-first.result.1 c.both.result c.args.readers.master c.args.readers.first c.seen-had.result (store_of c.close-master.result) (store_of c.stays-stays.new.book) c.into_store.result c.settled-first.result.0
      c.both.ensures c.seen-had.ensures c.stays-stays.ensures.book (c.into_store.ensures ∙ c.stays-stays.ensures.book) c.stays-stays.ensures.stayed c.settled-first.ensures.settled;
  second =
      brought_after c.stays-stays.result c.settled-second.result.1 c.both-2.result c.args.readers.master c.args.readers.second c.seen-had.result (store_of c.close-master.result) (store_of c.stays-stays.new.book) c.into_store.result c.settled-second.result.0
      c.both-2.ensures c.seen-had.ensures c.stays-stays.ensures.book (c.into_store.ensures ∙ c.stays-stays.ensures.book) c.stays-stays.ensures.stayed c.settled-second.ensures.settled;
  third =
      brought_after c.stays-stays.result c.settled-third.result.1 c.both-3.result c.args.readers.master c.args.readers.third c.seen-had.result (store_of c.close-master.result) (store_of c.stays-stays.new.book) c.into_store.result c.settled-third.result.0
      c.both-3.ensures c.seen-had.ensures c.stays-stays.ensures.book (c.into_store.ensures ∙ c.stays-stays.ensures.book) c.stays-stays.ensures.stayed c.settled-third.ensures.settled;
  fourth =
      brought_after c.stays-stays.result c.settled-fourth.result.1 c.both-4.result c.args.readers.master c.args.readers.fourth c.seen-had.result (store_of c.close-master.result) (store_of c.stays-stays.new.book) c.into_store.result c.settled-fourth.result.0
      c.both-4.ensures c.seen-had.ensures c.stays-stays.ensures.book (c.into_store.ensures ∙ c.stays-stays.ensures.book) c.stays-stays.ensures.stayed c.settled-fourth.ensures.settled;
}
