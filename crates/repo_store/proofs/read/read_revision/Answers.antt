use Rattle.std.proofs.Common.{rules}
use Rattle.repo_core.specs.Staging.{number_in, props_in}
use Rattle.repo_store.specs.Journal.{records_in}
use Rattle.repo_store.proofs.Reading.{is_revision, spelled_read, never_refused, nodes_in, spelled_alike, whole_alike}
use Rattle.repo_store.proofs.read.read_revision.Goals as goal

pub returns-then-canonical-clause-read : goal.returns-then-canonical-clause-read
returns-then-canonical-clause-read c =
    let is = c.in_ok-canonical.ensures.holds.0 c.if-canonical.true in
    is_revision _ _ _ is.0 is.1 c.in_ok-records.ensures.read c.in_ok-revision.ensures.read (c.in_ok-canonical.ensures.readable c.if-canonical.true)

pub returns-in_err-records-clause-bad : goal.returns-in_err-records-clause-bad
returns-in_err-records-clause-bad c is e spells = c.in_err-records.ensures.bad (search rules) (records_in e) (spelled_read c.dumps_are_read.ensures c.args.bytes.now e spells)

pub returns-in_err-revision-clause-bad : goal.returns-in_err-revision-clause-bad
returns-in_err-revision-clause-bad c is e spells =
    c.in_err-revision.ensures.bad (search rules) (number_in e) (props_in e) (nodes_in e) (never_refused c.dumps_are_read.ensures c.args.bytes.now e _ spells c.in_ok-records.ensures.read)

pub returns-else-canonical-clause-bad : goal.returns-else-canonical-clause-bad
returns-else-canonical-clause-bad c is e spells =
    let same = spelled_alike c.dumps_are_read.ensures c.args.bytes.now e c.in_ok-revision.revision _ spells c.in_ok-records.ensures.read c.in_ok-revision.ensures.read in
    let whole = whole_alike c.dumps_are_read.ensures c.args.bytes.now e c.in_ok-revision.revision _ spells c.in_ok-records.ensures.read c.in_ok-revision.ensures.read in
    cc (c.if-canonical.false, c.in_ok-canonical.ensures.holds.1 (whole, same))
