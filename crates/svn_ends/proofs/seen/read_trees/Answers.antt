use Rattle.std.proofs.Common.{rules, ◌≡◌, ◌<◌, suc, [], ◌∷◌, ◌++◌, length, Some, refl, sym, ap, ◌∙◌, subst, arith, length-append}
use Rattle.std.specs.Option.{option_map}
use Rattle.store_share.specs.declared.rev.Rev.{Rev}
use Rattle.store_share.specs.Seats.{known_by}
use Rattle.svn_ends.specs.Seats.{AreRead}
use Rattle.svn_ends.proofs.Keeping.{keeps_on, one_more, still_read}
use Rattle.svn_ends.proofs.seen.read_trees.Goals as goal

pub returns-in_err-seen_tree-clause-read : goal.returns-in_err-seen_tree-clause-read
returns-in_err-seen_tree-clause-read g c =
    let i = c.loop-i.invariant in
    still_read c.loop-i.seat c.seen_tree.new.seat c.loop-i.trees.items c.seen_tree.ensures.keeps i.4 i.0

pub returns-in_err-push-clause-read : goal.returns-in_err-push-clause-read
returns-in_err-push-clause-read g c =
    let i = c.loop-i.invariant in
    let same : c.push.new.self.items ≡ c.loop-i.trees.items = search rules in
    subst (AreRead c.seen_tree.new.seat) (sym same) (still_read c.loop-i.seat c.seen_tree.new.seat c.loop-i.trees.items c.seen_tree.ensures.keeps i.4 i.0)

pub loop-i-preserved : goal.loop-i-preserved
loop-i-preserved g c =
    let i = c.loop-i.invariant in
    let read = c.seen_tree.ensures in
    let tree = c.in_ok-seen_tree.field-0 in
    let at : c.new.result ≡ c.loop-i.i = search rules in
    let below : c.loop-i.i < c.args.number = search rules in
    let shown = subst (λ n. option_map (λ (x : Rev). x.tree) (known_by c.seen_tree.new.seat n) ≡ Some tree) (at ∙ sym i.1) c.in_ok-seen_tree.ensures.tree in
    let pushed : c.push.new.self.items ≡ c.loop-i.trees.items ++ tree ∷ [] = search rules in
    let longer : length c.push.new.self.items ≡ suc (length c.loop-i.trees.items) = omega (arith, ap length pushed, length-append c.loop-i.trees.items (tree ∷ [])) in
    let more = one_more (known_by c.loop-i.seat) (known_by c.seen_tree.new.seat) (length c.loop-i.trees.items) (length c.push.new.self.items) c.loop-i.trees.items tree longer i.0 refl (λ r x lt e. read.keeps.known r x (omega (arith, lt, i.4)) e) shown in (
      pushed ∙ more,
      omega (arith, longer, i.1),
      keeps_on _ _ _ i.2 read.keeps,
      read.seen ∙ i.3,
      omega (arith, longer, i.1, below, c.requires.below, i.3, read.seen),
    )
