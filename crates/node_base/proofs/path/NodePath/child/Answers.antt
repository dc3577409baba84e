use Rattle.std.proofs.Common.{◌≡◌, ◌++◌, ◌∷◌, [], true}
use Rattle.node_base.specs.Limits.{fits}
use Rattle.node_base.proofs.ReadBack.{path_of_child}
use Rattle.node_base.proofs.path.NodePath.child.Goals as goal

pub path_of-requires : goal.path_of-requires
path_of-requires c =
    let same : c.in_ok-names.names.items ≡ c.args.self.now = cc (c.in_ok-names.ensures, c.listed.ensures.names) in
    let name : c.in_ok-copy.field-0 ≡ c.args.name.now = c.in_ok-copy.ensures in
    let room : fits (c.args.self.now ++ c.args.name.now ∷ []) ≡ true = cc (c.has_room_for.ensures.room) in
    rw (c.in_ok-push.ensures.items, same, name) (path_of_child c.args.self.now c.args.name.now c.listed.ensures.path c.has_room_for.ensures.name c.has_room_for.ensures.small room)
