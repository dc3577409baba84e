use Rattle.std.proofs.Common.{◌≡◌, string_bytes, length, drop, []}
use Rattle.std.specs.Str.{trim}
use Rattle.std.specs.Str.Lines.{lines}
use Rattle.command_words.specs.Lines.{HasNoLineFeed}
use Rattle.command_words.proofs.Lines.{go_on}
use Rattle.command_words.proofs.command_line.joined_lines.Given as goal

abbrev pub invariant-loop-line : goal.invariant-loop-line
invariant-loop-line l =
    (goal.iterator-loop-line).can_next l.line-iterator × (goal.iterator-loop-line).is_finite l.line-iterator
    × (go_on trim [] (lines l.text) ≡ go_on trim (string_bytes l.joined) (drop (length l.yielded) (lines l.text))) × HasNoLineFeed (string_bytes l.joined)
