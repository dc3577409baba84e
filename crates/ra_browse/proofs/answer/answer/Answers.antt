use Rattle.std.proofs.Common.{Err, refl, subst}
use Rattle.browse_wire.specs.Asks.{ask_as}
use Rattle.browse_wire.specs.AskReading.{ask_in}
use Rattle.browse_wire.specs.Faults.{ReadIs}
use Rattle.browse_wire.specs.declared.fault.BrowseFault.TheVariants as fault
use Rattle.ra_denial.specs.Places.{place_as}
use Rattle.ra_denial.specs.declared.denial.Denial.TheVariants as denial
use Rattle.ra_browse.proofs.Exits.{answers_none}
use Rattle.ra_serve.proofs.Adding.{more_by}
use Rattle.ra_browse.proofs.answer.answer.Goals as goal

pub returns-in-Err-BadShape-clause-told : goal.returns-in-Err-BadShape-clause-told
returns-in-Err-BadShape-clause-told g c = answers_none g.P.RepoPort.repository g.P.RepoPort.refusals g.W.Write.contents (place_as c.args.place.now) (ask_in c.args.item) fault.BadShape denial.BadShape c.args.port.now c.args.out c.deny-in-Err-BadShape.result (subst (λ f. ReadIs ask_as (Err f) (ask_in c.args.item)) c.in-Err-BadShape.field-0-is c.in-Err-BadShape.ensures.read) refl c.deny-in-Err-BadShape.ensures

pub returns-in-Err-ReplayForm-clause-told : goal.returns-in-Err-ReplayForm-clause-told
returns-in-Err-ReplayForm-clause-told g c = answers_none g.P.RepoPort.repository g.P.RepoPort.refusals g.W.Write.contents (place_as c.args.place.now) (ask_in c.args.item) fault.ReplayForm denial.Unsupported c.args.port.now c.args.out c.deny-in-Err-ReplayForm.result (subst (λ f. ReadIs ask_as (Err f) (ask_in c.args.item)) c.in-Err-ReplayForm.field-0-is c.in-Err-ReplayForm.ensures.read) refl c.deny-in-Err-ReplayForm.ensures

pub returns-in-Err-ExcludedDepth-clause-told : goal.returns-in-Err-ExcludedDepth-clause-told
returns-in-Err-ExcludedDepth-clause-told g c = answers_none g.P.RepoPort.repository g.P.RepoPort.refusals g.W.Write.contents (place_as c.args.place.now) (ask_in c.args.item) fault.ExcludedDepth denial.Unsupported c.args.port.now c.args.out c.deny-in-Err-ExcludedDepth.result (subst (λ f. ReadIs ask_as (Err f) (ask_in c.args.item)) c.in-Err-ExcludedDepth.field-0-is c.in-Err-ExcludedDepth.ensures.read) refl c.deny-in-Err-ExcludedDepth.ensures

pub returns-in-Err-UnknownCommand-clause-adds : goal.returns-in-Err-UnknownCommand-clause-adds
returns-in-Err-UnknownCommand-clause-adds g c = more_by g.W.Write.contents c.args.out _ c.deny.result c.deny.ensures

pub returns-in-Err-BadShape-clause-adds : goal.returns-in-Err-BadShape-clause-adds
returns-in-Err-BadShape-clause-adds g c = more_by g.W.Write.contents c.args.out _ c.deny-in-Err-BadShape.result c.deny-in-Err-BadShape.ensures

pub returns-in-Err-ReplayForm-clause-adds : goal.returns-in-Err-ReplayForm-clause-adds
returns-in-Err-ReplayForm-clause-adds g c = more_by g.W.Write.contents c.args.out _ c.deny-in-Err-ReplayForm.result c.deny-in-Err-ReplayForm.ensures

pub returns-in-Err-ExcludedDepth-clause-adds : goal.returns-in-Err-ExcludedDepth-clause-adds
returns-in-Err-ExcludedDepth-clause-adds g c = more_by g.W.Write.contents c.args.out _ c.deny-in-Err-ExcludedDepth.result c.deny-in-Err-ExcludedDepth.ensures
