use Rattle.std.proofs.Common.{◌≤◌, length, take}
use Rattle.fleet_engines.specs.FirstPaths.{AreFirstPaths}
use Rattle.fleet_engines.specs.Revisions.{changes_of}
use Rattle.fleet_engines.proofs.revision_nodes.paths_of.Given as goal

abbrev pub invariant-loop-read : goal.invariant-loop-read
invariant-loop-read l = AreFirstPaths l.paths.keys (changes_of (take l.read-index l.nodes)) × (length l.paths.keys ≤ 4097)
