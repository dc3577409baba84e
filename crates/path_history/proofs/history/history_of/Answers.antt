use Rattle.std.proofs.Common.{◌≡◌, ◌<◌, ◌⊎◌, ℕ, inl, inr, length, subst, arith}
use Rattle.path_history.proofs.Telling.{Going, ends_below, ends_full, too_long, goes_on}
use Rattle.path_history.proofs.history.history_of.Goals as goal

room_of : (limit n m : ℕ) → n ≡ m → (limit ≡ 0) ⊎ (n < limit) → (limit ≡ 0) ⊎ (m < limit)
room_of limit n m e (inl z) = inl z
room_of limit n m e (inr l) = inr (omega arith)

pub returns-then-get-clause-told : goal.returns-then-get-clause-told
returns-then-get-clause-told g c =
    let sets = g.S.Sets.sets c.args.sets.now in
    let going = subst (Going sets c.args.asked.now c.args.from c.loop-next.told.items) c.in-Some.is c.loop-next.invariant in
    ends_below sets c.args.asked.now c.args.from c.loop-next.told.items c.in-Some.place going (omega arith)

pub returns-then-is_full-clause-told : goal.returns-then-is_full-clause-told
returns-then-is_full-clause-told g c =
    let sets = g.S.Sets.sets c.args.sets.now in
    let going = subst (Going sets c.args.asked.now c.args.from c.loop-next.told.items) c.in-Some.is c.loop-next.invariant in
    let full = c.is_full.ensures.full c.if-is_full.true in
    ends_full sets c.args.asked.now c.args.from c.loop-next.told.items c.in-Some.place going full.0 (omega (arith, full.1))

pub loop-next-preserved : goal.loop-next-preserved
loop-next-preserved g c =
    let sets = g.S.Sets.sets c.args.sets.now in
    let going = subst (Going sets c.args.asked.now c.args.from c.loop-next.told.items) c.in-Some.is c.loop-next.invariant in
    goes_on sets c.args.asked.now c.args.from c.loop-next.told.items c.in-Some.place going c.in-Some-set.set.now c.in-Some-set.ensures (omega arith) (room_of c.args.asked.now.limit c.len.result (length c.loop-next.told.items) (omega arith) (c.is_full.ensures.room c.if-is_full.false)) c.tell.new.told.items c.in-Ok.before c.in_ok-tell.ensures c.in-Ok.ensures.origin

pub returns-in-Err-clause-refused : goal.returns-in-Err-clause-refused
returns-in-Err-clause-refused g c e =
    let sets = g.S.Sets.sets c.args.sets.now in
    let going = subst (Going sets c.args.asked.now c.args.from c.loop-next.told.items) c.in-Some.is c.loop-next.invariant in
    too_long sets c.args.asked.now c.args.from c.loop-next.told.items c.in-Some.place going c.in-Some-set.set.now c.in-Some-set.ensures (c.in-Err.ensures.refused e)
