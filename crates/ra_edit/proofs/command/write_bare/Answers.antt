use Rattle.std.proofs.Common.{◌≡◌, ℕ, List, ◌∷◌, [], ◌++◌, OnOk, subst, sym, ap, ◌∙◌, append_assoc}
use Rattle.std.specs.Io.KnownBytes.{Appends}
use Rattle.ra_item.specs.Items.{spell}
use Rattle.ra_edit.specs.Names.{word_of}
use Rattle.ra_edit.specs.Commands.{command}
use Rattle.ra_edit.specs.Written.{before_params, behind_params}
use Rattle.ra_edit.proofs.Chunks.{both_parts}
use Rattle.ra_edit.proofs.command.write_bare.Goals as goal

bare : (w : List ℕ) → before_params w ++ behind_params ≡ spell (command w [])
bare w =
    let none = 40 ∷ 32 ∷ 41 ∷ 32 ∷ [] in
    let end = 41 ∷ 32 ∷ [] in
    ap (λ l. 40 ∷ 32 ∷ l) (append_assoc w (32 ∷ 40 ∷ 32 ∷ []) behind_params ∙ sym (ap (λ l. l ++ end) (append_assoc w (32 ∷ []) none) ∙ append_assoc w (32 ∷ none) end))

pub returns : goal.returns
returns g c =
    subst (λ bs. OnOk c.write_end.result (Appends (g.W.Write.contents c.args.out.now) (g.W.Write.contents c.write_end.new.out) bs)) (bare (word_of c.args.name)) (both_parts c.write_end.result (g.W.Write.contents c.args.out.now) (g.W.Write.contents c.write_name.new.out) (g.W.Write.contents c.write_end.new.out) (before_params (word_of c.args.name)) behind_params c.in_ok-write_name.ensures c.write_end.ensures)
