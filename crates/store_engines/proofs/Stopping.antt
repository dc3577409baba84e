-- What isn't a mirror.
use Rattle.std.proofs.Common.{◌≡◌, ℕ, false, List, Option, Some, None, is_none, is_some, sym, ap}
use Rattle.std.proofs.lemmas.Bool.{true≢false}
use Rattle.std.specs.Option.{option_map, option_map_or}
use Rattle.std.specs.FinMap as finite
use Rattle.node_base.specs.Path.{name_cmp}
use Rattle.repo_core.specs.Repository.{Revision}

-- without revision 0 there is no mirror
pub no_mirror : (o : Option Revision) (name : List ℕ) → option_map (λ x. x.props) o ≡ None → finite.contains_key (option_map_or (λ (y : Revision). y.props) o finite.empty) name ≡ false
no_mirror None name e = ap is_some (finite.get-empty name_cmp name)
no_mirror (Some x) name e = absurd (true≢false (ap is_none (sym e)))
