use Rattle.std.proofs.Common.{◌≡◌, ◌++◌, ◌∷◌, [], ◌∙◌, List, ℕ, ap, subst}
use Rattle.std.specs.Prelude.{codes}
use Rattle.std.specs.Io.KnownBytes.{Appends}
use Rattle.std.proofs.lemmas.Result.{on_ok_weaker}
use Rattle.uuid.specs.Text.{hyphenated_text, lower}
use Rattle.store_engines.proofs.dump.write_head.Goals as goal

pub returns-clause-ok : goal.returns-clause-ok
returns-clause-ok g c =
    let o = g.O.Output.contents in
    let text : c.as_bytes.result.now ≡ hyphenated_text lower c.args.identity.now = c.as_bytes.ensures.value ∙ c.encode_lower-text.ensures.text ∙ ap (hyphenated_text lower) c.hyphenated.ensures in
    on_ok_weaker c.write_parts.result
    (λ w. subst (λ (t : List ℕ). Appends (o c.args.output.now) (o c.write_parts.new.output) ((codes "SVN-fs-dump-format-version: 2" ++ 10 ∷ 10 ∷ []) ++ (codes "UUID: " ++ (t ++ 10 ∷ 10 ∷ [])))) text w)
    c.write_parts.ensures.ok
