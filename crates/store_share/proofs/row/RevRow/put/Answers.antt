use Rattle.std.proofs.Common.{◌∙◌, sym, ap, arith, rules, slice_set}
use Rattle.store_share.proofs.Replacing.{Known, same_cells, within, stands, known_here, known_elsewhere, kept_all}
use Rattle.store_share.proofs.row.RevRow.put.Goals as goal

pub returns-clause-cells : goal.returns-clause-cells
returns-clause-cells c = same_cells c.args.notes.now.notes.items c.index.result c.index_mut-note.result.now c.set.new.note c.index_mut-note.ensures.value c.set.ensures.cell

pub returns-clause-shown : goal.returns-clause-shown
returns-clause-shown c =
    let w = within c.args.notes.now.notes.items c.args.self.now c.index.result c.requires (omega (arith, c.size.ensures.1, c.index.ensures.small)) in
    let k = known_here c.args.notes.now.notes.items c.index.result c.set.new.note w in
    let at = ap (Known (slice_set c.args.notes.now.notes.items c.index.result c.set.new.note)) (sym c.index.ensures.number) ∙ k in
    search (rules, at)

pub returns-clause-others : goal.returns-clause-others
returns-clause-others c r h = known_elsewhere c.args.notes.now.notes.items c.index.result r c.set.new.note (λ e. h (e ∙ (c.index.ensures.number ∙ (search rules))))

pub returns-clause-kept : goal.returns-clause-kept
returns-clause-kept c =
    let w = within c.args.notes.now.notes.items c.args.self.now c.index.result c.requires (omega (arith, c.size.ensures.1, c.index.ensures.small)) in
    kept_all c.args.notes.now.notes.items c.index.result c.index_mut-note.result.now c.set.new.note (stands c.args.notes.now.notes.items c.index.result c.index_mut-note.result.now w c.index_mut-note.ensures.value) c.set.ensures.kept

pub returns-clause-refused : goal.returns-clause-refused
returns-clause-refused c =
    let w = within c.args.notes.now.notes.items c.args.self.now c.index.result c.requires (omega (arith, c.size.ensures.1, c.index.ensures.small)) in
    let k = known_here c.args.notes.now.notes.items c.index.result c.set.new.note w in
    let at = ap (Known (slice_set c.args.notes.now.notes.items c.index.result c.set.new.note)) (sym c.index.ensures.number) ∙ k in
    search (rules, at)
