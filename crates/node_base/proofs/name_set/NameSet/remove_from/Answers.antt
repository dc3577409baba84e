use Rattle.std.proofs.Common.{◌∙◌, ap}
use Rattle.node_base.specs.Entries.{blank}
use Rattle.std.proofs.lemmas.Map.Iter.{rest_all}
use Rattle.std.specs.Map.Iter.{deref}
use Rattle.node_base.specs.PropDeltas.{kept_in}
use Rattle.node_base.proofs.DeltaLists.{without}
use Rattle.node_base.proofs.NameSets.{names_out}
use Rattle.node_base.proofs.name_set.NameSet.remove_from.Goals as goal

pub returns : goal.returns
returns c = names_out c.self.inside.names.keys c.loop-name.name-iterator c.loop-name.list c.args.list.now (rest_all deref _ _ _ c.in-None.is c.next.ensures.steps) (c.loop-name.invariant ∙ ap (λ ks. without (blank ks) c.args.list.now) c.into_iter-name-iterator.ensures.into_iter_gives.0) ∙ ap (λ m. kept_in m c.args.list.now) c.self.view_is
