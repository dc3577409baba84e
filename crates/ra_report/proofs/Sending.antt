-- The edit of a plan as it is sent.
use Rattle.std.proofs.Common.{◌≡◌, ℕ, List, Option, Some, Result, Ok, Err, subst}
use Rattle.std.proofs.KnownBytes.{Appends-trans}
use Rattle.std.specs.Prelude.{IfOk}
use Rattle.std.specs.Io.KnownBytes.{Appends}
use Rattle.node_base.specs.Tree.{PathMap}
use Rattle.ra_item.specs.Items.{spell}
use Rattle.ra_wire.specs.Replies.{authorised}
use Rattle.ra_serve.specs.declared.fault.ServeFault.{ServeFault}
use Rattle.ra_update.specs.Updates.{IsUpdate}
use Rattle.ra_update.specs.declared.facts.Facts.{Facts}
use Rattle.ra_report.specs.Edits.{edit_alone, edit_told}
use Rattle.ra_report.specs.Plans.{TellsPlan}
use Rattle.ra_report.specs.declared.plan.Plan.{Plan}

pub told_behind : {W : Type 0} (contents : W → Option (List ℕ)) (p : Plan) (identity : List ℕ) (out mid : W) (result : Result W ServeFault) → Appends (contents out) (contents mid) (spell authorised)
    → IfOk result (λ w. TellsPlan p identity edit_alone (contents mid) (contents w))
    → IfOk result (λ w. TellsPlan p identity edit_told (contents out) (contents w))
told_behind contents p identity out mid (Ok w) a t = record { edit = t.edit; planned = t.planned; bytes = Appends-trans (contents out) (contents mid) (contents w) (spell authorised) (edit_alone t.edit) a t.bytes }
told_behind contents p identity out mid (Err f) a t = tt

pub with_identity : {W : Type 0} (contents : W → Option (List ℕ)) (p : Plan) (identity text : List ℕ) (out : W) (result : Result W ServeFault) → text ≡ identity
    → IfOk result (λ w. TellsPlan p text edit_alone (contents out) (contents w))
    → IfOk result (λ w. TellsPlan p identity edit_alone (contents out) (contents w))
with_identity contents p identity text out result e t = subst (λ i. IfOk result (λ w. TellsPlan p i edit_alone (contents out) (contents w))) e t

-- what was sent of a plan's facts
pub told_update : {W : Type 0} (contents : W → Option (List ℕ)) (p : Plan) (identity : List ℕ) (m : PathMap) (k : Facts) (out w : W) → m ≡ p.copy.report → k.target.now ≡ p.wanted.tree → k.number ≡ p.wanted.number → k.base ≡ Some p.copy.base → k.identity.now ≡ identity → k.revisions.now ≡ p.revisions.items → k.tells_root ≡ p.tells_root → k.opens ≡ p.opens
    → IsUpdate contents m k out w → TellsPlan p identity edit_alone (contents out) (contents w)
told_update contents p identity m k out w a b c d e f h o u = record {
  edit = record { reported = m; facts = k; changes = u.changes };
  planned = record { reported_is = a; wanted_is = b; number = c; base = d; identity_is = e; revisions = f; tells_root = h; opens = o; between = u.between; makes = u.makes };
  bytes = u.bytes;
}
