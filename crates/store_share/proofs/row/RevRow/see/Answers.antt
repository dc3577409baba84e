use Rattle.std.proofs.Common.{◌∙◌, sym, ap, arith, rules, slice_set}
use Rattle.store_share.proofs.Replacing.{Known, same_cells, within, stands, known_of, known_here, known_elsewhere, kept_all}
use Rattle.store_share.proofs.row.RevRow.see.Goals as goal

pub returns-clause-cells : goal.returns-clause-cells
returns-clause-cells c = same_cells c.args.notes.now.notes.items c.index.result c.index_mut-note.result.now c.read_at.new.note c.index_mut-note.ensures.value c.read_at.ensures.cell

pub returns-clause-value : goal.returns-clause-value
returns-clause-value c =
    let w = within c.args.notes.now.notes.items c.args.self.now c.index.result c.requires (omega (arith, c.size.ensures.1, c.index.ensures.small)) in
    let k = known_here c.args.notes.now.notes.items c.index.result c.read_at.new.note w in
    let at = ap (Known (slice_set c.args.notes.now.notes.items c.index.result c.read_at.new.note)) (sym c.index.ensures.number) ∙ k in
    search (rules, at)

pub returns-clause-others : goal.returns-clause-others
returns-clause-others c r h = known_elsewhere c.args.notes.now.notes.items c.index.result r c.read_at.new.note (λ e. h (e ∙ c.index.ensures.number))

pub returns-clause-kept : goal.returns-clause-kept
returns-clause-kept c =
    let w = within c.args.notes.now.notes.items c.args.self.now c.index.result c.requires (omega (arith, c.size.ensures.1, c.index.ensures.small)) in
    kept_all c.args.notes.now.notes.items c.index.result c.index_mut-note.result.now c.read_at.new.note (stands c.args.notes.now.notes.items c.index.result c.index_mut-note.result.now w c.index_mut-note.ensures.value) c.read_at.ensures.kept

pub returns-clause-known : goal.returns-clause-known
returns-clause-known c x h n =
    let w = within c.args.notes.now.notes.items c.args.self.now c.index.result c.requires (omega (arith, c.size.ensures.1, c.index.ensures.small)) in
    let k = known_of c.args.notes.now.notes.items c.index.result c.index_mut-note.result.now w c.index_mut-note.ensures.value in
    c.read_at.ensures.known x (sym k ∙ ap (Known c.args.notes.now.notes.items) c.index.ensures.number ∙ h) n
