use Rattle.std.proofs.Common.{◌≡◌, List, subst, sym, true}
use Rattle.dump_text.specs.Written.{are_whole}
use Rattle.dump_text.specs.declared.record.NodeRecord.{NodeRecord}
use Rattle.repo_store.proofs.Spelling.{spelled_if, whole_records}
use Rattle.repo_store.proofs.spell.revision_bytes.Goals as goal

pub text_of-requires : goal.text_of-requires
text_of-requires c = record { whole = subst (λ (l : List NodeRecord). are_whole l ≡ true) (sym c.in_ok-to_records.ensures.records) (whole_records c.args.set.now) }

pub returns-clause-spelled : goal.returns-clause-spelled
returns-clause-spelled c =
    spelled_if c.text_of.result c.args.number c.args.set.now c.args.props.now c.in_ok-share.field-0 c.in_ok-to_records.field-0.items c.in_ok-to_records.ensures.records c.in_ok-share.ensures c.changes.ensures.bounded c.text_of.ensures.canonical c.text_of.ensures.readable
