use Rattle.std.proofs.Common.{◌≡◌, ◌++◌, ◌∙◌, true, false, arith, ap, sym}
use Rattle.std.specs.Prelude.{is_none}
use Rattle.std.specs.FinMap as finite
use Rattle.path_history.specs.Places.{place}
use Rattle.ra_browse.specs.Answers.{file_denied}
use Rattle.ra_browse.proofs.FileVersions.{backward_denies, place_denies, other_denies, no_file, file_calm}
use Rattle.ra_browse.proofs.versions.file_in.Goals as goal

pub returns-then-get : goal.returns-then-get
returns-then-get c =
    let q = c.args.base.now ++ c.args.path.now in
    backward_denies c.args.first c.args.last q (finite.get c.args.tree.now q) (omega arith)

pub returns-in-Err : goal.returns-in-Err
returns-in-Err c =
    let q = c.args.base.now ++ c.args.path.now in
    place_denies c.args.first c.args.last q (finite.get c.args.tree.now q) c.in-Err.stop (omega arith) c.in-Err.ensures

pub returns-then-not-is_file_at : goal.returns-then-not-is_file_at
returns-then-not-is_file_at c =
    let q = c.args.base.now ++ c.args.path.now in
    let f = finite.get c.args.tree.now q in
    let there = ap (λ a. a.path) c.in-Ok.ensures.1 in
    let none : is_none (file_denied f) ≡ false = ap (λ p. is_none (file_denied (finite.get c.args.tree.now p))) (sym there) ∙ sym c.is_file_at.ensures ∙ c.if-not-is_file_at.true in
    other_denies c.args.first c.args.last q f (omega arith) c.in-Ok.ensures.0 none (no_file q f c.in-Ok.ensures.0 none)

pub returns : goal.returns
returns c =
    let q = c.args.base.now ++ c.args.path.now in
    let f = finite.get c.args.tree.now q in
    let there = ap (λ a. a.path) c.in-Ok.ensures.1 in
    let one : is_none (file_denied f) ≡ true = ap (λ p. is_none (file_denied (finite.get c.args.tree.now p))) (sym there) ∙ sym c.is_file_at.ensures ∙ c.if-not-is_file_at.false in
    (file_calm c.args.first c.args.last q f (omega arith) c.in-Ok.ensures.0 one, c.in-Ok.ensures.1 ∙ ap (λ n. place n q) c.newer.ensures)
