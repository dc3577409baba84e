-- A drive of a set that may be sent is an edit that is written.
use Rattle.std.proofs.Common.{arith}
use Rattle.edit_road.specs.Sent.{DriveIsWritten, DriveIsSpelled}
use Rattle.editor_ends.proofs.Nested.{nested-drive}
use Rattle.edit_road.proofs.Driven.{no_targets}
use Rattle.edit_road.proofs.Within.{rev_of, body_deeper, body_within, body_texts, drive_deeper}
use Rattle.edit_road.proofs.Counting.{body_few}
use Rattle.edit_road.proofs.Spelling.{items_within}

pub drive_is_written : DriveIsWritten
drive_is_written trees s sent = record {
  rev = sent.numbered;
  from = rev_of trees sent.numbered;
  no_target = no_targets trees s;
  nested = nested-drive trees s sent.bounded.set.0 sent.faultless sent.root;
  deeper = body_deeper trees s;
  within = body_within trees s sent;
  texts = body_texts trees s sent.bounded.small;
  count = omega (arith, body_few trees s sent);
  items = items_within trees s sent;
}

pub drive_is_spelled : DriveIsSpelled
drive_is_spelled trees s normal none root = (nested-drive trees s normal none root, drive_deeper trees s)
