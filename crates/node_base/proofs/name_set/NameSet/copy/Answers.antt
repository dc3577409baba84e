use Rattle.std.proofs.Common.{◌∙◌, ap}
use Rattle.std.proofs.lemmas.Map.Iter.{rest_all}
use Rattle.std.specs.Map.Iter.{deref}
use Rattle.node_base.proofs.NameSets.{all_named, put_names}
use Rattle.node_base.proofs.name_set.NameSet.copy.Goals as goal

pub returns : goal.returns
returns c = all_named c.self.inside.names.keys c.loop-name.name-iterator c.loop-name.copied c.new-copied.result (rest_all deref _ _ _ c.in-None.is c.next.ensures.steps) (c.loop-name.invariant ∙ ap (λ ks. put_names ks c.new-copied.result) c.into_iter-name-iterator.ensures.into_iter_gives.0) c.new-copied.ensures ∙ c.self.view_is
