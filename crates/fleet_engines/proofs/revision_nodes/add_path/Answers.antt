use Rattle.std.proofs.Common.{arith}
use Rattle.fleet_engines.proofs.Paths.{put_path, still_past}
use Rattle.fleet_engines.proofs.revision_nodes.add_path.Goals as goal

pub returns-then-len-gt-CHANGES-clause-named : goal.returns-then-len-gt-CHANGES-clause-named
returns-then-len-gt-CHANGES-clause-named c cs d at h = still_past c.args.paths.now.keys cs d (omega (arith, c.len.ensures.len, c.if-len-gt-CHANGES.true)) h

pub returns-clause-named : goal.returns-clause-named
returns-clause-named c =
    let e = c.in_ok-insert.ensures in
    put_path c.args.paths.now.keys c.insert.new.self.keys c.in_ok-insert.field-0 c.args.path (omega (arith, c.len.ensures.len, c.if-len-gt-CHANGES.false)) e.added e.len e.updates.0
