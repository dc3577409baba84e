use Rattle.std.proofs.Common.{◌++◌, ◌∙◌, List, ℕ, subst, sym}
use Rattle.std.specs.Prelude.{codes}
use Rattle.std.specs.Fmt.{decimal}
use Rattle.std.specs.Result.{OnOk}
use Rattle.std.specs.Io.KnownBytes.{Appends}
use Rattle.node_base.specs.Refusals.{refusal_text, shown_token}
use Rattle.fleet_engines.proofs.Spelled.{unended}
use Rattle.fleet_engines.proofs.line.write_text.Goals as goal

pub returns-in-LockHeld-clause-ok : goal.returns-in-LockHeld-clause-ok
returns-in-LockHeld-clause-ok g c =
    let a = g.O.Output.contents c.args.output.now in
    let b = g.O.Output.contents c.write_token.new.output in
    subst (λ k. OnOk c.write_token.result (Appends a b (refusal_text k))) (sym c.in-LockHeld.is)
    (subst (λ (t : List ℕ). OnOk c.write_token.result (Appends a b (codes "the sync lock is held by " ++ shown_token t))) c.as_slice.ensures.value
    (unended c.write_token.result a b (codes "the sync lock is held by ") (shown_token c.as_slice.result.now) c.write_token.ensures.ok))

pub returns-in-HolderRunning-clause-ok : goal.returns-in-HolderRunning-clause-ok
returns-in-HolderRunning-clause-ok g c =
    let a = g.O.Output.contents c.args.output.now in
    let b = g.O.Output.contents c.write_token-in-HolderRunning.new.output in
    subst (λ k. OnOk c.write_token-in-HolderRunning.result (Appends a b (refusal_text k))) (sym c.in-HolderRunning.is)
    (subst (λ (t : List ℕ). OnOk c.write_token-in-HolderRunning.result (Appends a b (codes "the holder " ++ (shown_token t ++ codes " is running")))) c.as_slice-in-HolderRunning.ensures.value c.write_token-in-HolderRunning.ensures.ok)

pub returns-in-NotYetCopied-clause-ok : goal.returns-in-NotYetCopied-clause-ok
returns-in-NotYetCopied-clause-ok g c =
    let a = g.O.Output.contents c.args.output.now in
    let b = g.O.Output.contents c.write_count-in-NotYetCopied.new.output in
    subst (λ k. OnOk c.write_count-in-NotYetCopied.result (Appends a b (refusal_text k))) (sym c.in-NotYetCopied.is)
    (subst (λ (n : ℕ). OnOk c.write_count-in-NotYetCopied.result (Appends a b (codes "revision " ++ (decimal n ++ codes " is not copied yet")))) (c.from-in-NotYetCopied.ensures ∙ c.get-in-NotYetCopied.ensures.number) c.write_count-in-NotYetCopied.ensures.ok)
