use Rattle.std.proofs.Common.{Some, ap, subst, ◌≡◌}
use Rattle.uuid.specs.Text.{hyphenated_text, lower, parsed_hyphenated}
use Rattle.session_road.proofs.Sessions.{open_before, long_id, read_back}
use Rattle.session_road.proofs.served.open.Goals as goal

pub returns : goal.returns
returns c =
    let x = c.args.repo.now in
    let back : Some x.identity ≡ parsed_hyphenated (hyphenated_text lower x.identity) = subst (λ i. Some i ≡ parsed_hyphenated (hyphenated_text lower i)) c.identity.ensures (read_back c.identity.result c.identity_is_read.ensures) in
    λ said e. open_before c.written_is_taken.ensures c.written_comes.ensures x back (long_id x.identity) c.new.result c.new-2.result c.args.bytes.now said c.open.result (ap (λ s. Some s.now) c.new.ensures.inner) e c.open.ensures.opened
