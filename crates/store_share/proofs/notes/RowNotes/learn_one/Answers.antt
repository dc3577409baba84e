use Rattle.std.proofs.Common.{◌∙◌, sym, ap, subst, refl, IsSome}
use Rattle.once_cell.specs.declared.race.note.Note.{Note}
use Rattle.store_share.specs.declared.rev.Rev.{Rev}
use Rattle.store_share.proofs.Replacing.{Cells, same_cell, same_cells, within, known_of, known_here, known_elsewhere}
use Rattle.store_share.proofs.notes.RowNotes.learn_one.Goals as goal

pub meet_note-requires-clause-cell : goal.meet_note-requires-clause-cell
meet_note-requires-clause-cell c =
    ap (λ (k : Note Rev). k.cell) c.again-theirs.ensures.1
    ∙ same_cell c.args.self.now.notes.items c.args.from.now.notes.items c.args.i c.index_mut-2.result.now c.index_mut.result.now c.requires.cells c.requires.within c.index_mut-2.ensures.value c.index_mut.ensures.value

pub meet_note-requires-clause-known : goal.meet_note-requires-clause-known
meet_note-requires-clause-known c =
    let k = known_of c.args.from.now.notes.items c.args.i c.index_mut.result.now (within c.args.from.now.notes.items (Cells c.args.from.now.notes.items) c.args.i refl c.requires.within) c.index_mut.ensures.value in
    subst IsSome (k ∙ sym (ap (λ (k : Note Rev). k.known) c.again-theirs.ensures.1)) c.requires.known

pub returns-clause-cells : goal.returns-clause-cells
returns-clause-cells c =
    let t = c.again-theirs.ensures.1 in
    let s = same_cell c.args.self.now.notes.items c.args.from.now.notes.items c.args.i c.index_mut-2.result.now c.index_mut.result.now c.requires.cells c.requires.within c.index_mut-2.ensures.value c.index_mut.ensures.value in
    same_cells c.args.self.now.notes.items c.args.i c.index_mut-2.result.now c.meet_note.new.mine c.index_mut-2.ensures.value (ap (λ (k : Note Rev). k.cell) (c.meet_note.ensures.now ∙ t) ∙ s)

pub returns-clause-learned : goal.returns-clause-learned
returns-clause-learned c =
    let t = c.again-theirs.ensures.1 in
    let w = within c.args.self.now.notes.items (Cells c.args.from.now.notes.items) c.args.i c.requires.cells c.requires.within in
    let k = known_of c.args.from.now.notes.items c.args.i c.index_mut.result.now (within c.args.from.now.notes.items (Cells c.args.from.now.notes.items) c.args.i refl c.requires.within) c.index_mut.ensures.value in
    known_here c.args.self.now.notes.items c.args.i c.meet_note.new.mine w ∙ ap (λ (k : Note Rev). k.known) (c.meet_note.ensures.now ∙ t) ∙ sym k

pub returns-clause-agreed : goal.returns-clause-agreed
returns-clause-agreed c x h =
    let t = c.again-theirs.ensures.1 in
    let w = within c.args.self.now.notes.items (Cells c.args.from.now.notes.items) c.args.i c.requires.cells c.requires.within in
    let k = known_of c.args.from.now.notes.items c.args.i c.index_mut.result.now (within c.args.from.now.notes.items (Cells c.args.from.now.notes.items) c.args.i refl c.requires.within) c.index_mut.ensures.value in
    let m = known_of c.args.self.now.notes.items c.args.i c.index_mut-2.result.now w c.index_mut-2.ensures.value in
    k ∙ sym (ap (λ (k : Note Rev). k.known) t) ∙ c.meet_note.ensures.agreed x (sym m ∙ h)

pub returns-clause-rest : goal.returns-clause-rest
returns-clause-rest c r h = known_elsewhere c.args.self.now.notes.items c.args.i r c.meet_note.new.mine h
