use Rattle.std.proofs.Common.{◌≡◌, ◌∷◌, ◌∙◌, None, length, map, string_bytes, ap, sym, subst, rules}
use Rattle.std.proofs.lemmas.List.{nil_from_length}
use Rattle.command_words.specs.Twice.{first_twice}
use Rattle.fleet_main.proofs.Brought.{brought_at, brought_none, brought_opened_at, brought_refused}
use Rattle.fleet_main.proofs.bringing.+brought.Goals as goal

pub returns-in_default-clause-brought : goal.returns-in_default-clause-brought
returns-in_default-clause-brought g t c =
    let none : length c.args.names.now ≡ 0 = search rules in
    brought_none g.F.Place.Disk g.F.Folders c.args.folders.now _ c.args.refusals.items c.args.stores c.run_fleet.result.0 c.run_fleet.result.1 (ap (map string_bytes) (nil_from_length c.args.names.now none)) c.run_fleet.ensures.slots
    c.run_fleet.ensures.answers

pub returns-in-Ok-clause-brought : goal.returns-in-Ok-clause-brought
returns-in-Ok-clause-brought g t c =
    let rest = map string_bytes c.in-Some.names.now in
    let same = ap (λ x. x ∷ rest) c.as_str-name.ensures.value ∙ ap (map string_bytes) (sym c.in-Some.ensures.cases.0) in
    brought_at g.F.Place.Disk g.F.Folders c.args.folders.now c.slot_closed.new.folders _ _ c.args.refusals.items c.args.stores c.slot_closed.result c.brought-stores.result.1 same
    (brought_opened_at g.F.Place.Disk g.F.Folders c.args.folders.now c.opened.new.folders c.brought-stores.new.folders c.as_str-name.result.now rest c.args.refusals.items c.push_reserved.new.self.items c.brought-stores.result.1
    c.slot_closed.new.folders c.in-Ok.store c.args.stores c.put-stores.result c.brought-stores.result.0 c.slot_closed.result c.len-slot.result (c.len-slot.ensures ∙ c.args.refusals.ok.0) c.put-stores.ensures.master c.slot_closed.ensures.master c.in-Ok.ensures.opened
    c.keeps.ensures.stop c.push_reserved.ensures.items c.put-stores.ensures.put c.put-stores.ensures.others c.brought-stores.ensures.brought c.slot_closed.ensures.back c.slot_closed.ensures.others)

pub returns-in-Err-clause-brought : goal.returns-in-Err-clause-brought
returns-in-Err-clause-brought g t c =
    let rest = map string_bytes c.in-Some.names.now in
    let same = ap (λ x. x ∷ rest) c.as_str-name.ensures.value ∙ ap (map string_bytes) (sym c.in-Some.ensures.cases.0) in
    brought_at g.F.Place.Disk g.F.Folders c.args.folders.now c.brought.new.folders _ _ c.args.refusals.items c.args.stores c.brought.result.0 c.brought.result.1 same
    (brought_refused g.F.Place.Disk g.F.Folders c.args.folders.now c.opened.new.folders c.brought.new.folders c.as_str-name.result.now rest c.args.refusals.items c.push_reserved-in-Err.new.self.items c.brought.result.1
    c.in-Err.refusal c.args.stores c.brought.result.0 c.in-Err.ensures.refused (subst (λ ns. first_twice ns ≡ None) (sym same) c.requires.apart) c.push_reserved-in-Err.ensures.items c.brought.ensures.brought)
