-- What was fetched just now is the last that was fetched of its number.
use Rattle.std.proofs.Common.{ℕ, Bool, List, ◌∷◌, Option, Some, if◌then◌else◌, refl, ap}
use Rattle.node_base.specs.Props.{PropMap}
use Rattle.dump_load.specs.declared.change.Change.{Change}
use Rattle.sync_core.specs.Jobs.{Fetched, GivesSet, GivesMap, last_fetch}
use Rattle.sync_core.proofs.ShapeLemmas.{itself}

pub gives_set : (fs : List Fetched) (n : ℕ) (set : List Change) (props : PropMap) (t : ℕ) → GivesSet (record { number = n; set = Some set; props = props; moment = t } ∷ fs) n set props
gives_set fs n set props t =
    record {
      it = record { number = n; set = Some set; props = props; moment = t };
      last = ap (λ (b : Bool). if b then Some (record { number = n; set = Some set; props = props; moment = t }) else last_fetch fs n) (itself n);
      the_set = refl;
      the_map = refl;
    }

pub gives_map : (fs : List Fetched) (n : ℕ) (set : Option (List Change)) (props : PropMap) (t : ℕ) → GivesMap (record { number = n; set = set; props = props; moment = t } ∷ fs) n props
gives_map fs n set props t =
    record {
      it = record { number = n; set = set; props = props; moment = t };
      last = ap (λ (b : Bool). if b then Some (record { number = n; set = set; props = props; moment = t }) else last_fetch fs n) (itself n);
      the_map = refl;
    }
