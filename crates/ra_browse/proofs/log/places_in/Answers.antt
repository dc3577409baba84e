use Rattle.std.proofs.Common.{◌∙◌, ◌++◌, ◌∷◌, [], map, sym}
use Rattle.ra_browse.specs.Histories.{paths_below}
use Rattle.ra_browse.proofs.Logged.{paths_none, paths_some, decides_same}
use Rattle.ra_browse.proofs.log.places_in.Goals as goal

pub returns-then-is_empty : goal.returns-then-is_empty
returns-then-is_empty c =
    decides_same (λ v. v.items) c.args.tree.now c.args.number ([] ∷ []) (paths_below c.args.base.now c.args.paths.now) c.root_in.result
    (sym (paths_none c.args.base.now c.args.paths.now (sym c.is_empty.ensures ∙ c.if-is_empty.true))) c.root_in.ensures

pub returns : goal.returns
returns c =
    decides_same (λ v. v.items) c.args.tree.now c.args.number (map (λ q. c.args.base.now ++ q) c.args.paths.now) (paths_below c.args.base.now c.args.paths.now) c.each_in.result
    (sym (paths_some c.args.base.now c.args.paths.now (sym c.is_empty.ensures ∙ c.if-is_empty.false))) c.each_in.ensures
