use Rattle.std.proofs.Common.{◌≡◌, drop}
use Rattle.ra_item.specs.Bytes.{is_word_byte, all_bytes}
use Rattle.ra_item.proofs.item.is_word_text.Given as goal

abbrev pub invariant-loop-b : goal.invariant-loop-b
invariant-loop-b l = all_bytes is_word_byte (drop l.b-index l.rest) ≡ all_bytes is_word_byte l.rest
