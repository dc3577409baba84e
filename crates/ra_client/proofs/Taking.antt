-- What is taken of a stream by the item that comes next.
use Rattle.std.proofs.Common.{inl, inr, List, Option, Result, Ok, Err, IfOk, sym, subst, ap}
use Rattle.byte_streams.specs.declared.input.Input.{Ghosts as InputGhosts}
use Rattle.node_base.specs.Props.{PropMap}
use Rattle.node_base.specs.Tree.{PathMap}
use Rattle.dump_load.specs.Trees.{Makes}
use Rattle.dump_load.specs.declared.load.Applied.{Applied}
use Rattle.ra_item.specs.Items.{Item}
use Rattle.ra_item.specs.declared.stream.ItemStream.{ItemStream}
use Rattle.std.specs.Prelude.{Bool}
use Rattle.ra_client.specs.Said.{Reply, Told, ToldWithin, done_said, never, same}
use Rattle.ra_client.specs.Steps.{Gives, TakesItem, TakesWithin, IsComing, OfItem, OfEnd, OfStream}
use Rattle.ra_client.proofs.Limits.{told_within}
use Rattle.ra_client.specs.declared.fault.ClientFault.{ClientFault}

pub within_taken : {R A T : Type 0} {g : InputGhosts R} (view : A → T) (what : Item → Option (Reply T)) (past : Item → Bool) (old new : ItemStream R g) (x : Item) (r : Result A ClientFault) → IsComing old new (Ok x) → ToldWithin (past x) view (what x) r → TakesWithin view what past old new r
within_taken view what past old new x (Ok v) h t = (OfItem x h.0 t, record { later = h.1.later; goes_on = h.1.goes_on })
within_taken view what past old new x (Err f) h t = (OfItem x h.0 t, record { later = h.1.later; goes_on = tt })

pub within_untaken : {R A T : Type 0} {g : InputGhosts R} (view : A → T) (what : Item → Option (Reply T)) (past : Item → Bool) (old new : ItemStream R g) (f : ClientFault) → IsComing old new (Err f) → TakesWithin view what past old new (Err f)
within_untaken view what past old new f (inl e, goes) = (OfEnd e.1 (ap Err e.0), record { later = goes.later; goes_on = tt })
within_untaken view what past old new f (inr e, goes) = (OfStream e.0 e.2 (ap Err e.1), record { later = goes.later; goes_on = tt })

pub item_taken : {R A T : Type 0} {g : InputGhosts R} (view : A → T) (what : Item → Option (Reply T)) (old new : ItemStream R g) (x : Item) (r : Result A ClientFault) → IsComing old new (Ok x) → Told view (what x) r → TakesItem view what old new r
item_taken view what old new x r h t = within_taken view what never old new x r h (told_within view (what x) r t)

pub item_untaken : {R A T : Type 0} {g : InputGhosts R} (view : A → T) (what : Item → Option (Reply T)) (old new : ItemStream R g) (f : ClientFault) → IsComing old new (Err f) → TakesItem view what old new (Err f)
item_untaken view what old new f h = within_untaken view what never old new f h

-- what is given at the end of an answer is what was taken before, so its set makes its tree
pub given_made : {R : Type 0} {g : InputGhosts R} (trees : List PathMap) (a : Applied) (props : PropMap) (old new : ItemStream R g) (r : Result (Applied × PropMap) ClientFault) → Gives (TakesItem same done_said) (a, props) old new r → Makes trees a.set a.tree → IfOk r (λ w. Makes trees w.0.set w.0.tree)
given_made trees a props old new (Ok w) h m = subst (λ z. Makes trees z.0.set z.0.tree) (sym h.1) m
given_made trees a props old new (Err f) h m = tt
