use Rattle.std.proofs.lemmas.Result.{err_from_is_err_and}
use Rattle.std.proofs.Common.{refl, rules}
use Rattle.svndiff.specs.declared.fault.WindowFault.TheVariants as failed
use Rattle.ra_edit.proofs.Refusing.{chunk_refused, same_fault}
use Rattle.std.proofs.Common.{◌∙◌, ◌∷◌, [], ◌++◌, ap, subst, append-nil}
use Rattle.ra_edit.proofs.OwnRefusals.{window_own, piece_later}
use Rattle.std.specs.List.{concat}
use Rattle.md5.specs.Md5.{Holds}
use Rattle.svndiff.specs.Reading.{is_failed}
use Rattle.svndiff.specs.Streams.{reading, pieces_in, Reads}
use Rattle.ra_edit.proofs.Steps.{pieces_join, pieces_added, not_failed}
use Rattle.svndiff.proofs.Runs.{pieces_more, piece_alone}
use Rattle.ra_edit.proofs.receive_text.take_chunk.Goals as goal

pub loop-rest-preserved : goal.loop-rest-preserved
loop-rest-preserved g c =
    let l = c.loop-rest in
    let i = l.invariant in
    let s = c.in_ok-stretch.stretch in
    let q = c.in_ok-take_stretch.ensures.pieces in
    let fp = g.E.Editor.file_path in (
      i.0 ++ q.0,
      pieces_added g.E.Editor.shows c.args.editor.now l.editor c.take_stretch.new.editor (fp c.args.file.now) (fp l.file) i.0 q.0 i.4 i.1 q.2,
      λ text. i.2 text ∙ c.in_ok-stretch.ensures.reads (not_failed (is_failed l.reader) c.next.result _ _ c.in_ok-stretch.was c.next.ensures.failed) (text ++ concat i.0) ∙ ap (λ t. reading (Reads t c.next.new.self) s.rest.now) (pieces_join text i.0 q.0 s.bytes.now q.1),
      λ text h. subst (λ t. Holds c.take_stretch.new.sum t) (pieces_join text i.0 q.0 s.bytes.now q.1) (c.in_ok-take_stretch.ensures.sum (text ++ concat i.0) (i.3 text h)),
      c.in_ok-take_stretch.ensures.file ∙ i.4,
      c.in_ok-take_stretch.ensures.began ∙ i.5,
      i.6 ∙ pieces_more i.0 q.0 s.bytes.now _ (pieces_in c.next.new.self s.rest.now) (c.in_ok-stretch.ensures.pieces (not_failed (is_failed l.reader) c.next.result _ _ c.in_ok-stretch.was c.next.ensures.failed)) q.3,
    )

pub returns-in_err-stretch-clause-refused : goal.returns-in_err-stretch-clause-refused
returns-in_err-stretch-clause-refused g c =
    let p = err_from_is_err_and c.from_residual.result c.from_residual.ensures.1 in
    let l = c.loop-rest in
    let f = c.in_err-stretch.field-0.0 in
    rw (p.1, p.2) (λ text. chunk_refused _ (text ++ concat l.invariant.0) l.reader l.rest.now f (is_failed l.reader) refl (l.invariant.2 text) c.in_err-stretch.ensures.refuses (λ e. same_fault c.next.result f failed.Failed c.in_err-stretch.was (c.next.ensures.failed e)) (λ e. search rules))

pub returns-in_err-stretch-clause-own : goal.returns-in_err-stretch-clause-own
returns-in_err-stretch-clause-own g c =
    let p = err_from_is_err_and c.from_residual.result c.from_residual.ensures.1 in
    rw (p.1, p.2) (window_own _ c.in_err-stretch.field-0.0)

pub returns-in_err-take_stretch-clause-own : goal.returns-in_err-take_stretch-clause-own
returns-in_err-take_stretch-clause-own g c =
    let p = err_from_is_err_and c.from_residual-in_err-take_stretch.result c.from_residual-in_err-take_stretch.ensures.1 in
    let l = c.loop-rest in
    let i = l.invariant in
    let s = c.in_ok-stretch.stretch in
    let b = s.bytes.now in
    let fp = g.E.Editor.file_path in
    rw (p.1, p.2) (
      i.0 ++ b ∷ [],
      s.rest.now,
      c.next.new.self,
      λ text. i.2 text ∙ c.in_ok-stretch.ensures.reads (not_failed (is_failed l.reader) c.next.result _ _ c.in_ok-stretch.was c.next.ensures.failed) (text ++ concat i.0) ∙ ap (λ t. reading (Reads t c.next.new.self) s.rest.now) (pieces_join text i.0 (b ∷ []) b (append-nil b)),
      i.6 ∙ pieces_more i.0 (b ∷ []) b _ (pieces_in c.next.new.self s.rest.now) (c.in_ok-stretch.ensures.pieces (not_failed (is_failed l.reader) c.next.result _ _ c.in_ok-stretch.was c.next.ensures.failed)) (piece_alone b c.in_err-take_stretch.ensures.some),
      piece_later g.E.Editor.shows g.E.Editor.began g.E.Editor.refuses c.args.editor.now l.editor (fp c.args.file.now) (fp l.file) i.0 b c.in_err-take_stretch.field-0.0 i.4 i.1 i.5 c.in_err-take_stretch.ensures.refused,
    )
