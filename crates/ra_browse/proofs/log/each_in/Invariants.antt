use Rattle.std.proofs.Common.{◌≡◌, ◌++◌, map, take, None}
use Rattle.path_history.specs.Places.{place}
use Rattle.ra_browse.specs.Answers.{paths_denied}
use Rattle.ra_browse.proofs.log.each_in.Given as goal

abbrev pub invariant-loop-path : goal.invariant-loop-path
invariant-loop-path l =
    (l.places.items ≡ map (place l.number) (map (λ q. l.base ++ q) (take l.path-index l.paths)))
    × (paths_denied l.tree (map (λ q. l.base ++ q) (take l.path-index l.paths)) ≡ None)
