use Rattle.std.proofs.Common.{◌≡◌, ◌++◌, string_bytes, IsUtf8}
use Rattle.std.specs.Str.Iter.{chars_rest}
use Rattle.command_words.specs.Terminal.{shown}
use Rattle.command_words.proofs.terminal.shown.Given as goal

abbrev pub invariant-loop-c : goal.invariant-loop-c
invariant-loop-c l =
    (goal.iterator-loop-c).can_next l.c-iterator × (goal.iterator-loop-c).is_finite l.c-iterator × IsUtf8 (chars_rest l.c-iterator)
    × (shown l.text ≡ string_bytes l.shown ++ shown (chars_rest l.c-iterator))
