use Rattle.std.proofs.Common.{◌++◌, ◌∷◌, [], sym, subst}
use Rattle.whole_texts.specs.Whole.{AreWhole}
use Rattle.whole_texts.proofs.Takes.{one_more_whole}
use Rattle.whole_texts.proofs.make.take_in.Goals as goal

pub returns-in_ok-push-in-Ok-clause-taken : goal.returns-in_ok-push-in-Ok-clause-taken
returns-in_ok-push-in-Ok-clause-taken c = λ rs front known whole.
    let t = c.args.trees.now in
    let n = c.args.read in
    subst (AreWhole t rs (front ++ n ∷ [])) (sym c.in_ok-push-in-Ok.ensures.items) (one_more_whole t rs front c.args.made.now.items n c.in-Ok.stated whole (c.in-Ok.ensures.whole rs known))
