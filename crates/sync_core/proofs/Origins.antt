-- What is kept when the master goes on.
use Rattle.std.proofs.Common.{◌≡◌, ℕ, ◌<◌, ◌≤◌, Bool, List, [], ◌∷◌, ◌++◌, length, take, slice_get, Some, refl, sym, ap, ◌∙◌, arith, length-append, le_trans}
use Rattle.std.specs.Option.{option_and_then}
use Rattle.std.proofs.lemmas.Option.{slice_get_within, option_and_then_some}
use Rattle.node_base.specs.Props.{PropMap}
use Rattle.node_base.specs.Tree.{PathMap}
use Rattle.dump_load.specs.declared.change.Change.{Change}
use Rattle.dump_load.specs.Faults.{fault}
use Rattle.dump_load.specs.Trees.{effect_tree}
use Rattle.repo_core.specs.Repository.{root_alone}
use Rattle.sync_core.specs.Jobs.{Fetched}
use Rattle.sync_core.specs.World.{Origin, moment_of, map_at, Room, Makes}
use Rattle.sync_core.specs.Law.{IsCopied}
use Rattle.sync_core.proofs.Lists.{slice_get-grown, take-grown}
use Rattle.sync_core.proofs.Kept.{Rest, RoomKept, IsFetched}

-- a master that has gone on
pub record Grows (o p : Origin) : Type 0 where
  pub identity : p.identity ≡ o.identity
  pub longer : length o.trees ≤ length p.trees
  pub fronts : (n : ℕ) → n ≤ length o.trees → take n p.trees ≡ take n o.trees
  pub trees : (n : ℕ) (t : PathMap) → slice_get o.trees n ≡ Some t → slice_get p.trees n ≡ Some t
  pub maps : (t n : ℕ) (q : PropMap) → map_at o t n ≡ Some q → map_at p t n ≡ Some q
  pub later : moment_of o ≤ moment_of p

map-grown : (maps more : List (List PropMap)) (t n : ℕ) (q : PropMap) → option_and_then (λ ms. slice_get ms n) (slice_get maps t) ≡ Some q → option_and_then (λ ms. slice_get ms n) (slice_get (maps ++ more) t) ≡ Some q
map-grown maps more t n q e =
    option_and_then_some (λ (ms : List PropMap). slice_get ms n) (slice_get maps t) q e (λ ms there got. ap (option_and_then (λ (zs : List PropMap). slice_get zs n)) (slice_get-grown maps more t ms there) ∙ got)

pub committed-grows : (o : Origin) (tree : PathMap) (maps : List PropMap) → Grows o (record { identity = o.identity; trees = o.trees ++ tree ∷ []; maps = o.maps ++ maps ∷ [] })
committed-grows o tree maps =
    record {
      identity = refl;
      longer = omega (arith, length-append o.trees (tree ∷ []));
      fronts = λ n h. take-grown o.trees (tree ∷ []) n h;
      trees = λ n t e. slice_get-grown o.trees (tree ∷ []) n t e;
      maps = λ t n q e. map-grown o.maps (maps ∷ []) t n q e;
      later = omega (arith, length-append o.maps (maps ∷ []));
    }

pub edited-grows : (o : Origin) (maps : List PropMap) → Grows o (record { identity = o.identity; trees = o.trees; maps = o.maps ++ maps ∷ [] })
edited-grows o maps =
    record {
      identity = refl;
      longer = omega arith;
      fronts = λ n h. refl;
      trees = λ n t e. e;
      maps = λ t n q e. map-grown o.maps (maps ∷ []) t n q e;
      later = omega (arith, length-append o.maps (maps ∷ []));
    }

makes-grown : (o p : Origin) (n : ℕ) (set : (List Change)) → Grows o p → Makes o n set → Makes p n set
makes-grown o p n set g m =
    let inside : n < length o.trees = slice_get_within o.trees n (effect_tree (take n o.trees) set) m.tree in
    let front : take n p.trees ≡ take n o.trees = g.fronts n (omega arith) in
    record {
      faultless = ap (λ ts. fault ts set) front ∙ m.faultless;
      tree = g.trees n _ m.tree ∙ ap (λ ts. Some (effect_tree ts set)) (sym front);
    }

pub room-grown : (o p : Origin) (shaped : Bool) (room : Room) → Grows o p → RoomKept o shaped room → RoomKept p shaped room
room-grown o p shaped room g k =
    record {
      revisions = record {
        some = k.revisions.some;
        small = k.revisions.small;
        root = k.revisions.root;
        master = g.trees 0 root_alone k.revisions.master;
        commits = k.revisions.commits;
        journal = k.revisions.journal;
        rest = λ h. grown_rest (k.revisions.rest h);
      };
      jobs = record {
        past = λ n. le_trans (k.jobs.past n) g.later;
        fetched = λ i j runs n f l. given n f (k.jobs.fetched i j runs n f l);
        later = k.jobs.later;
        identity = λ i j runs u e. k.jobs.identity i j runs u e ∙ sym g.identity;
      };
      new = k.new;
      held = k.held;
      acknowledged = k.acknowledged;
      shown = k.shown;
    }
  where
    copied : (n : ℕ) (q : PropMap) → IsCopied o (room.copied n) n q → IsCopied p (room.copied n) n q
    copied n q c = record { theirs = c.theirs; then_there = g.maps (room.copied n) n c.theirs c.then_there; same = c.same }

    grown_rest : Rest o shaped room.mirror.revisions room.copied → Rest p shaped room.mirror.revisions room.copied
    grown_rest r =
        record {
          within = le_trans r.within g.longer;
          trees = r.trees ∙ sym (g.fronts (length room.mirror.revisions) r.within);
          identity = r.identity ∙ ap (λ u. Some u) (sym g.identity);
          shape = r.shape;
          maps = λ n y at. copied n y.props (r.maps n y at);
        }

    given : (n : ℕ) (f : Fetched) → IsFetched o n f → IsFetched p n f
    given n f i = record { there = g.maps f.moment n f.props i.there; by_now = le_trans i.by_now g.later; makes = λ set e. makes-grown o p n set g (i.makes set e) }
