use Rattle.std.proofs.Common.{◌+◌, inl, inr, sym, ap, ◌∙◌, arith}
use Rattle.std.specs.List.{list_any}
use Rattle.std.specs.FinMap.{keys}
use Rattle.path_tree.specs.Joined.{below}
use Rattle.path_tree.proofs.Lengths.{too_long, any_long, long_here, long_begin, long_found, long_next}
use Rattle.plain_tree.proofs.branch.Branch.+exceeds.Goals as goal

pub returns-then-names-gt64 : goal.returns-then-names-gt64
returns-then-names-gt64 t c =
    sym (long_here c.args.names c.args.bytes c.self.inside.node c.self.inside.children.items c.self.invariant c.args.self.now c.self.view_is
    (elim c.then-names-gt64.either [ inl h ↦ inl h | inr h ↦ inr h.1 ]))

pub loop-name-init : goal.loop-name-init
loop-name-init t c =
    long_begin c.args.names c.args.bytes c.self.inside.node c.self.inside.children.items c.self.invariant c.args.self.now c.self.view_is c.if-names-gt64.false c.if-bytes-gt1025.false
    ∙ ap (λ z. any_long c.args.names c.args.bytes (below z)) (sym c.deref-name-items.ensures.value)

pub returns-then-exceeds : goal.returns-then-exceeds
returns-then-exceeds t c =
    let found = sym c.exceeds.ensures ∙ c.if-exceeds.true in
    sym (c.loop-name.invariant ∙ long_found c.args.names c.args.bytes c.deref-name-items.result.now c.loop-name.name-index c.loop-name-item.result (omega arith) c.loop-name-item.is
    (ap (λ n. list_any (too_long (c.args.names + 1) (c.args.bytes + n + 1)) (keys c.loop-name-item.result.1)) (sym c.len.ensures.len) ∙ found))

pub loop-name-preserved : goal.loop-name-preserved
loop-name-preserved t c =
    let absent = sym c.exceeds.ensures ∙ c.if-exceeds.false in
    c.loop-name.invariant ∙ long_next c.args.names c.args.bytes c.deref-name-items.result.now c.loop-name.name-index c.loop-name-item.result (omega arith) c.loop-name-item.is
    (ap (λ n. list_any (too_long (c.args.names + 1) (c.args.bytes + n + 1)) (keys c.loop-name-item.result.1)) (sym c.len.ensures.len) ∙ absent)
