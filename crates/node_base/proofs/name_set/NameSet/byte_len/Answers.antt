use Rattle.std.proofs.Common.{◌∙◌, ap}
use Rattle.std.proofs.lemmas.Map.Iter.{rest_all}
use Rattle.std.specs.Map.Iter.{deref}
use Rattle.node_base.specs.Entries.{blank, entry_bytes, stored_bytes}
use Rattle.node_base.proofs.NameSets.{blanks_bytes}
use Rattle.node_base.proofs.name_set.NameSet.byte_len.Goals as goal

pub returns-clause-len : goal.returns-clause-len
returns-clause-len c =
    let all = c.loop-name.invariant.is ∙ ap (λ ks. entry_bytes (blank ks)) c.into_iter-name-iterator.ensures.into_iter_gives.0 in
    blanks_bytes c.self.inside.names.keys c.loop-name.name-iterator c.loop-name.len (rest_all deref _ _ _ c.in-None.is c.next.ensures.steps) c.into_iter-name-iterator.ensures.into_iter_gives.4 all
    ∙ ap stored_bytes c.self.view_is
