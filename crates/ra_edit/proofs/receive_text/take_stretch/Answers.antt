use Rattle.std.proofs.Common.{◌∷◌, [], append-nil, rules}
use Rattle.svndiff.proofs.Runs.{piece_alone}
use Rattle.ra_edit.proofs.receive_text.take_stretch.Goals as goal

pub returns-clause-pieces : goal.returns-clause-pieces
returns-clause-pieces g c = (c.args.bytes.now ∷ [], append-nil c.args.bytes.now, c.in_ok-text_piece.ensures.shown, piece_alone c.args.bytes.now (search rules))
