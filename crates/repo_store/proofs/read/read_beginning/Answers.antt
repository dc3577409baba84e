use Rattle.std.proofs.Common.{rules, [], ◌∷◌, ◌∙◌}
use Rattle.std.specs.Cmp.Lexicographic.{other_text}
use Rattle.dump_text.specs.declared.record.DumpRecord.TheVariants.{Identity, Revision}
use Rattle.repo_store.proofs.Reading.{is_beginning, beginning_read, never_no_beginning, begun_alike}
use Rattle.repo_store.proofs.read.read_beginning.Goals as goal

pub returns-then-eq-clause-read : goal.returns-then-eq-clause-read
returns-then-eq-clause-read c = is_beginning _ c.in_ok-written.written.items _ _ c.in_ok-written.ensures (search rules)

pub returns-in_err-records-clause-bad : goal.returns-in_err-records-clause-bad
returns-in_err-records-clause-bad c is identity props begins =
    c.in_err-records.ensures.bad (search rules) (Identity identity ∷ Revision 0 props ∷ []) (beginning_read c.dumps_are_read.ensures c.args.bytes.now identity props begins)

pub returns-in_default-clause-bad : goal.returns-in_default-clause-bad
returns-in_default-clause-bad c is identity props begins =
    c.in_default.ensures.bad identity props (never_no_beginning c.dumps_are_read.ensures c.args.bytes.now identity props _ begins c.in_ok-records.ensures.read)

pub returns-else-eq-clause-bad : goal.returns-else-eq-clause-bad
returns-else-eq-clause-bad c is identity props begins =
    other_text c.as_slice.result.now c.args.bytes.now c.if-eq.ensures
    (c.as_slice.ensures.value ∙ begun_alike c.dumps_are_read.ensures c.args.bytes.now c.in_ok-written.written.items identity _ props _ c.in_ok-records.records.items begins c.in_ok-records.ensures.read c.in-Some.ensures.read c.in_ok-written.ensures)
