use Rattle.std.proofs.Common.{◌≡◌, ℕ, List, [], ◌∷◌, ◌++◌, ◌∙◌, ap, append_assoc}
use Rattle.gate_log.specs.Slots.{eight_bytes}
use Rattle.gate_log.proofs.migrate.push_slot.Goals as goal

pub returns : goal.returns
unfolding eight_bytes
returns c =
    let before = c.args.bytes.now.items in
    let bytes = eight_bytes c.args.end in
    let sum = c.args.sum.now in
    c.in_ok-extend_from_slice-2.ensures.items
    ∙ ap (λ (l : List ℕ). l ++ sum) (c.in_ok-extend_from_slice.ensures.items ∙ ap (λ (l : List ℕ). l ++ c.to_be_bytes.result) c.in_ok-push.ensures.items ∙ ap (λ (l : List ℕ). before ++ 1 ∷ [] ++ l) c.to_be_bytes.ensures)
    ∙ append_assoc (before ++ 1 ∷ []) bytes sum
    ∙ append_assoc before (1 ∷ []) (bytes ++ sum)
