-- An edit whose texts come as differences says what one says in which they come whole.
use Rattle.std.proofs.Common.{ℕ, List, [], ◌∷◌, ◌++◌, Option, sym, subst, append_assoc}
use Rattle.ra_item.specs.Items.{Item}
use Rattle.node_base.specs.Path.{Path}
use Rattle.delta_editor.specs.declared.call.Call.{Call}
use Rattle.ra_edit.specs.Edits.{At, Begun, Ended, AllSay}
use Rattle.ra_edit.specs.Edits as edits
use Rattle.ra_edit.specs.Differences.{Difference, AllStandFor, Nothing, Then, SpellsDeltas, SaysWhole}

pub say_both : (at mid end : At) (xs ys : List Item) (first rest : List Call) → AllSay at xs first mid → AllSay mid ys rest end → AllSay at (xs ++ ys) (first ++ rest) end
say_both at mid end xs ys first rest (edits.Nothing a) h = h
say_both at mid end xs ys first rest (edits.Then a b e item items one more s f) h =
    subst (λ z. AllSay a (item ∷ (items ++ ys)) z end) (sym (append_assoc one more rest)) (edits.Then a b end item (items ++ ys) one (more ++ rest) s (say_both b mid end items ys more rest f h))

-- whole items that say the same
pub record Whole (at end : At) (calls : List Call) : Type 0 where
  pub items : List Item
  pub say : AllSay at items calls end

whole_of : (HasText : List Call → Path → List ℕ → Type 0) (at end : At) (shown : List Call) (o p : Option Difference) (items : List Item) (calls : List Call) → AllStandFor HasText at shown o items calls end p → Whole at end calls
whole_of HasText at end shown o p items calls (Nothing a s d) = record { items = []; say = edits.Nothing a }
whole_of HasText at end shown o p items calls (Then a mid e s first rest d f q item plain more stands say h) =
    let w = whole_of HasText mid e (s ++ first) f q more rest h in
    record { items = plain ++ w.items; say = say_both a mid e plain w.items first rest say w.say }

pub deltas_are_whole : (HasText : List Call → Path → List ℕ → Type 0) (shown : List Call) (items : List Item) (calls : List Call) → SpellsDeltas HasText shown items calls → SaysWhole calls
deltas_are_whole HasText shown items calls h = let w = whole_of HasText Begun Ended shown _ h.0 items calls h.1 in record { items = w.items; say = w.say }
