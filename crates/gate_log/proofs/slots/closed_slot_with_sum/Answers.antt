use Rattle.std.proofs.Common.{◌≡◌, ℕ, List, [], ◌∷◌, ◌++◌, length, ◌∙◌, ap}
use Rattle.gate_log.specs.Slots.{eight_bytes}
use Rattle.gate_log.proofs.EndLemmas.{length-eight_bytes, slot_written}
use Rattle.gate_log.proofs.slots.closed_slot_with_sum.Goals as goal

pub returns : goal.returns
unfolding eight_bytes
returns c =
    let front = c.copy_from_slice.new.self in
    let behind = c.copy_from_slice-2.new.self in
    let is : front ≡ eight_bytes c.args.end = c.copy_from_slice.ensures.after ∙ c.to_be_bytes-length.ensures in
    slot_written front behind (ap length is ∙ length-eight_bytes c.args.end)
    ∙ ap (λ (l : List ℕ). l ++ behind ++ 0 ∷ []) is
    ∙ ap (λ (l : List ℕ). eight_bytes c.args.end ++ l ++ 0 ∷ []) c.copy_from_slice-2.ensures.after
