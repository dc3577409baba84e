use Rattle.std.proofs.Common.{◌≡◌, ◌++◌, ℕ, zero, suc, ◌+◌, ◌-◌, refl, ap, ◌∙◌, append_assoc, arith}
use Rattle.std.proofs.lemmas.List.{append-nil}
use Rattle.ra_item.specs.Items.{spell}
use Rattle.repo_core.specs.Repository.{Repository, props_at}
use Rattle.ra_wire.specs.Replies.{authorised, done, revprops}
use Rattle.ra_serve.specs.Answers.{edits, edit_of, revision_bytes}
use Rattle.session_road.specs.Told.{revisions_told}
use Rattle.session_road.proofs.law.server_tells_what_is_heard.Goals as goal

-- one revision alone
alone : (x : Repository) (n : ℕ) → edits x n (suc n - n) ≡ revision_bytes x n
alone x n =
    let one : suc n - n ≡ 1 = omega arith in
    rw one (append-nil (revision_bytes x n))

-- one behind the other
row : (x : Repository) (n count : ℕ) → edits x n count ≡ revisions_told x n count
row x n zero = refl
row x n (suc count) = append_assoc (spell (revprops (props_at x.revisions n))) (edit_of x n) (edits x (n + 1) count) ∙ ap (λ z. spell (revprops (props_at x.revisions n)) ++ (edit_of x n ++ z)) (row x (n + 1) count)

pub returns : goal.returns
returns c = record {
  number = λ mirror x. refl;
  properties = λ mirror x n there. rw there refl;
  revision = λ mirror x n there. rw (there, alone x n) (ap (λ z. spell authorised ++ z) (append_assoc (spell (revprops (props_at x.revisions n))) (edit_of x n) (spell done)));
  range = λ mirror x a b there last. rw (there, last, row x a (suc b - a)) refl;
}
