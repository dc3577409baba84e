use Rattle.std.proofs.Common.{◌≡◌, ◌≤◌, ◌-◌, take, drop, get_or}
use Rattle.dump_text.specs.Headers.{behind, split_after, split_line}
use Rattle.dump_text.proofs.header.split_line.Given as goal

abbrev pub invariant-loop-i : goal.invariant-loop-i
invariant-loop-i l = (1 ≤ l.i) × (behind (take (l.i - 1) l.line) (split_after (get_or l.line (l.i - 1) 0) (drop l.i l.line)) ≡ split_line l.line)
