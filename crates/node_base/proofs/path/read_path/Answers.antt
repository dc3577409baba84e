use Rattle.std.proofs.Common.{◌≡◌, ◌++◌, ap, ◌∙◌, sym, false, append-nil}
use Rattle.std.proofs.lemmas.Result.{err_from_is_err_and}
use Rattle.node_base.specs.Path.{Path}
use Rattle.std.specs.List.{list_all}
use Rattle.node_base.specs.Names.{is_name}
use Rattle.node_base.proofs.ReadBack.{test_of_kept}
use Rattle.node_base.specs.PathText.{pieces, pieces_left, is_past_limits}
use Rattle.node_base.proofs.TextLemmas.{piece_refused, piece_taken, fits_within, not_long}
use Rattle.node_base.proofs.path.read_path.Goals as goal

pub returns-in_err-parse : goal.returns-in_err-parse
returns-in_err-parse c =
    let small : is_past_limits c.args.bytes.now ≡ false = sym c.is_past_limits.ensures ∙ c.if-is_past_limits.false in
    let split = c.loop-piece.invariant.read ∙ ap (λ (p : Path). c.loop-piece.names.items ++ p) c.in-Some.ensures.steps in
    let p = err_from_is_err_and c.from_residual-in_err-parse.result c.from_residual-in_err-parse.ensures.1 in
    rw (p.1, p.2) (piece_refused c.args.bytes.now c.loop-piece.names.items (pieces_left c.next.new.self.rest) c.in-Some.piece.now c.in_err-parse.field-0.0 split small c.in_err-parse.ensures.read)

pub loop-piece-preserved : goal.loop-piece-preserved
loop-piece-preserved c =
    let split = c.loop-piece.invariant.read ∙ ap (λ (p : Path). c.loop-piece.names.items ++ p) c.in-Some.ensures.steps in
    let both = piece_taken c.args.bytes.now c.loop-piece.names.items (pieces_left c.next.new.self.rest) c.in-Some.piece.now c.in_ok-parse.field-0 split c.loop-piece.invariant.good c.in_ok-parse.ensures.read in
    record { read = rw c.in_ok-push.ensures.items both.0; good = rw c.in_ok-push.ensures.items both.1 }

pub path_of-requires : goal.path_of-requires
path_of-requires c =
    let small : is_past_limits c.args.bytes.now ≡ false = sym c.is_past_limits.ensures ∙ c.if-is_past_limits.false in
    let read = c.loop-piece.invariant.read ∙ ap (λ (p : Path). c.loop-piece.names.items ++ p) c.in-None.ensures.steps.0 ∙ append-nil c.loop-piece.names.items in
    rw (← read) (test_of_kept (pieces c.args.bytes.now) (fits_within c.args.bytes.now small) (ap (list_all is_name) read ∙ c.loop-piece.invariant.good) (not_long c.args.bytes.now small))
