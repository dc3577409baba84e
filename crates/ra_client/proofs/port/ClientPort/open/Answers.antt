use Rattle.std.proofs.Common.{refl, Ok, Err}
use Rattle.ra_client.specs.Found.{repository_as}
use Rattle.ra_client.proofs.Fair.{opens_tells}
use Rattle.ra_client.proofs.Viewing.{opens_as}
use Rattle.ra_client.proofs.port.ClientPort.open.Goals as goal

pub returns-in-Ok : goal.returns-in-Ok
returns-in-Ok g c = record {
  opened = record {
    first = c.new-items.result;
    out = c.new-out.result;
    reader = c.new-items.ensures.reader;
    fresh = c.new-items.ensures.begins;
    writer = c.new-out.ensures;
    opened = opens_as {g = g.I.Input} {h = g.O.Output} repository_as c.args.url.now (c.new-items.result, c.new-out.result) (c.introduce.new.items, c.introduce.new.out) (Ok c.in-Ok.found) c.in-Ok.ensures.opened;
    going = refl;
  };
}

pub returns-in-Err : goal.returns-in-Err
returns-in-Err g c =
    let opened = opens_as {g = g.I.Input} {h = g.O.Output} repository_as c.args.url.now (c.new-items.result, c.new-out.result) (c.introduce.new.items, c.introduce.new.out) (Err c.in-Err.fault) c.in-Err.ensures.opened in
    record {
      opened = record {
        first = c.new-items.result;
        out = c.new-out.result;
        last = (c.introduce.new.items, c.introduce.new.out);
        reader = c.new-items.ensures.reader;
        fresh = c.new-items.ensures.begins;
        writer = c.new-out.ensures;
        opened = opened;
        peer = opens_tells {g = g.I.Input} {h = g.O.Output} (λ v. v) c.args.url.now (c.new-items.result, c.new-out.result) (c.introduce.new.items, c.introduce.new.out) (Err c.in-Err.fault) opened;
      };
    }
