use Rattle.std.proofs.Common.{◌∙◌, ap, sym, codes, slice_get}
use Rattle.std.specs.Option.{option_copied}
use Rattle.store_engines.proofs.Stopping.{no_mirror}
use Rattle.store_engines.proofs.mirror.is_mirror.Goals as goal

pub returns-in-None : goal.returns-in-None
returns-in-None c = sym (no_mirror (slice_get c.args.repo.now.revisions 0) (codes "svn:sync-from-url") (sym c.props.ensures ∙ ap option_copied c.in-None.is))
