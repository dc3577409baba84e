-- What is written of a revision that is replayed.
use Rattle.std.proofs.Common.{◌≡◌, ℕ, List, ◌++◌, Option, take, subst, ap, ◌∙◌}
use Rattle.std.specs.Io.KnownBytes.{Appends}
use Rattle.node_base.specs.Props.{PropMap}
use Rattle.node_base.specs.Tree.{PathMap}
use Rattle.dump_load.specs.declared.change.Change.{Change}
use Rattle.editor_ends.specs.Drive.{drive}
use Rattle.ra_item.specs.Items.{spell}
use Rattle.ra_edit.specs.Commands.{edit_bytes}
use Rattle.ra_wire.specs.Replies.{revprops}
use Rattle.repo_core.specs.Repository.{Repository, props_at}
use Rattle.ra_serve.specs.Answers.{edit_of, revision_bytes}
use Rattle.ra_serve.specs.Ports.{IsReplay, set_of}

edit_is : (x : Repository) (n : ℕ) (set : List Change) (trees : List PathMap) (props : PropMap) → IsReplay x n set trees props → edit_bytes (drive trees set) ≡ edit_of x n
edit_is x n set trees props r = ap (λ s. edit_bytes (drive trees s)) r.set_is ∙ ap (λ ts. edit_bytes (drive ts (set_of x n))) r.trees_are

-- the edit of a revision that was written over the first of the trees that a port lends
pub edit_written : (x : Repository) (n m : ℕ) (set : List Change) (ts lent : List PathMap) (props : PropMap) (before now : Option (List ℕ)) → IsReplay x n set (take n lent) props → m ≡ n → ts ≡ lent
    → Appends before now (edit_bytes (drive (take m ts) set)) → Appends before now (edit_of x n)
edit_written x n m set ts lent props before now r at same a =
    subst (Appends before now) (ap (λ k. edit_bytes (drive (take k ts) set)) at ∙ ap (λ us. edit_bytes (drive (take n us) set)) same ∙ edit_is x n set (take n lent) props r) a

-- the same behind its properties
pub revision_written : (x : Repository) (n m : ℕ) (set : List Change) (ts lent : List PathMap) (props : PropMap) (before now : Option (List ℕ)) → IsReplay x n set (take n lent) props → m ≡ n → ts ≡ lent
    → Appends before now (spell (revprops props) ++ edit_bytes (drive (take m ts) set)) → Appends before now (revision_bytes x n)
revision_written x n m set ts lent props before now r at same a =
    subst (Appends before now)
    (ap (λ k. spell (revprops props) ++ edit_bytes (drive (take k ts) set)) at ∙ ap (λ us. spell (revprops props) ++ edit_bytes (drive (take n us) set)) same
    ∙ ap (λ p. spell (revprops p) ++ edit_bytes (drive (take n lent) set)) r.props_are ∙ ap (λ e. spell (revprops (props_at x.revisions n)) ++ e) (edit_is x n set (take n lent) props r)) a
