use Rattle.std.proofs.Common.{◌≤◌, ◌<◌, length, arith}
use Rattle.svndiff.proofs.Runs.{stretch_at, stretch_pieces}
use Rattle.svndiff.proofs.reader.WindowReader.stretch.Goals as goal
use Rattle.svndiff.proofs.reader.WindowReader.stretch.Goals.{then-left-piece, else-left-piece}

pub returns-clause-reads : goal.returns-clause-reads
returns-clause-reads c = λ text.
    let v = c.self.view_is in
    let m = rw v at c.max-left.ensures in
    let s = c.requires.some in
    let some : 0 < c.if-left-piece.k = elim c.if-left-piece.branch [ then-left-piece w ↦ grind (arith, m, w.k-is) | else-left-piece w ↦ grind (arith, s, w.k-is) ] in
    let within : c.if-left-piece.k ≤ length c.args.piece.now = elim c.if-left-piece.branch [ then-left-piece w ↦ grind (arith, w.if-left-piece, w.k-is) | else-left-piece w ↦ grind (arith, w.k-is) ] in
    let left : 1 < c.if-left-piece.k → c.if-left-piece.k ≤ c.args.self.now.fresh = λ l. elim c.if-left-piece.branch [ then-left-piece w ↦ grind (arith, m, w.k-is, l) | else-left-piece w ↦ grind (arith, m, w.if-left-piece, w.k-is, l) ] in
    rw (c.split_at.ensures.front, c.split_at.ensures.back, c.give.ensures, v) (stretch_at text c.args.self.now c.args.piece.now c.if-left-piece.k c.requires.place some within left)

pub returns-clause-pieces : goal.returns-clause-pieces
returns-clause-pieces c =
    let v = c.self.view_is in
    let m = rw v at c.max-left.ensures in
    let s = c.requires.some in
    let some : 0 < c.if-left-piece.k = elim c.if-left-piece.branch [ then-left-piece w ↦ grind (arith, m, w.k-is) | else-left-piece w ↦ grind (arith, s, w.k-is) ] in
    let within : c.if-left-piece.k ≤ length c.args.piece.now = elim c.if-left-piece.branch [ then-left-piece w ↦ grind (arith, w.if-left-piece, w.k-is) | else-left-piece w ↦ grind (arith, w.k-is) ] in
    let left : 1 < c.if-left-piece.k → c.if-left-piece.k ≤ c.args.self.now.fresh = λ l. elim c.if-left-piece.branch [ then-left-piece w ↦ grind (arith, m, w.k-is, l) | else-left-piece w ↦ grind (arith, m, w.if-left-piece, w.k-is, l) ] in
    let whole : c.if-left-piece.k < length c.args.piece.now → c.args.self.now.fresh ≤ c.if-left-piece.k = λ l. elim c.if-left-piece.branch [ then-left-piece w ↦ grind (arith, m, w.k-is, l) | else-left-piece w ↦ grind (arith, m, w.k-is, l) ] in
    rw (c.split_at.ensures.front, c.split_at.ensures.back, c.give.ensures, v) (stretch_pieces c.args.self.now c.args.piece.now c.if-left-piece.k c.requires.place some within left whole)
