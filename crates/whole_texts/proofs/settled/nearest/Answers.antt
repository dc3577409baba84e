use Rattle.std.proofs.Common.{◌≡◌, ◌-◌, length, take, drop, Some, sym, ap, ◌∙◌, arith}
use Rattle.std.proofs.lemmas.List.{take_all, length-drop}
use Rattle.node_base.specs.Path.{Path}
use Rattle.whole_texts.specs.Bases.{with_rest}
use Rattle.whole_texts.specs.Settled.{copied_at}
use Rattle.whole_texts.proofs.Nearest.{none_above, one_above}
use Rattle.whole_texts.proofs.settled.nearest.Goals as goal

pub returns-in-Some : goal.returns-in-Some
returns-in-Some c =
    let f = copied_at c.args.settled.now in
    let p = c.args.path.now in
    let j = c.loop-above.above - 1 in
    let x = c.in-Some.copied.now in
    let here : f (take j p) ≡ Some x = sym c.in-Some.ensures in
    one_above f p j x (omega (arith, c.loop-above.invariant.0, c.loop-above-test.true)) here (λ k a b. c.loop-above.invariant.1 k (omega (arith, a)) b)
    ∙ ap (λ (r : Path). Some (with_rest r x)) (sym (take_all (length p - j) (drop j p) (omega (arith, length-drop j p))))

pub returns : goal.returns
returns c = none_above (copied_at c.args.settled.now) c.args.path.now (λ j lt. c.loop-above.invariant.1 j (omega (arith, c.loop-above-test.false)) lt)
