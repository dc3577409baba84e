-- A path in two parts, as it is in code.
use Rattle.std.specs.Prelude.{◌++◌}
use Rattle.node_base.specs.Path.{Path}
use Rattle.ra_report.specs.declared.switched.Split.{Split}

abbrev pub whole_split : Split → Path
whole_split s = s.front.now ++ s.rest.now
