use Rattle.std.proofs.Common.{◌≡◌, List, ℕ, true, false, refl}
use Rattle.std.specs.Str.{IsUtf8, is_utf8}
use Rattle.std.proofs.lemmas.Str.{IsUtf8-from_is_utf8, is_utf8-from_IsUtf8}
use Rattle.node_base.proofs.name.utf8_text.Goals as goal

not_text : (bs : List ℕ) → ¬ (IsUtf8 bs) → is_utf8 bs ≡ false
not_text bs h = elim (is_utf8 bs) as (λ b. is_utf8 bs ≡ b → b ≡ false) [ true ↦ λ e. absurd (h (IsUtf8-from_is_utf8 bs e)) | false ↦ λ e. refl ] refl

pub returns-in-Ok : goal.returns-in-Ok
returns-in-Ok c = (c.in-Ok.ensures.cases.0, is_utf8-from_IsUtf8 _ c.in-Ok.ensures.cases.1)

pub returns-in-Err : goal.returns-in-Err
returns-in-Err c = not_text _ c.in-Err.ensures.cases.0
