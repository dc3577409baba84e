use Rattle.std.proofs.Common.{◌≤◌, length, arith}
use Rattle.fleet_engines.proofs.Crowded.{past_paths, past_records}
use Rattle.fleet_engines.proofs.revision_nodes.fault_of.Goals as goal

pub returns-then-len-gt-CHANGES : goal.returns-then-len-gt-CHANGES
returns-then-len-gt-CHANGES c cs many h = past_paths cs (h.1 (omega (arith, c.len.ensures.len, c.if-len-gt-CHANGES.true)))

pub returns : goal.returns
returns c cs many h =
    let few : length c.args.paths.now.keys ≤ 4096 = omega (arith, c.len.ensures.len, c.if-len-gt-CHANGES.false) in
    past_records cs many (omega (arith, few, (h.0 few).0))
