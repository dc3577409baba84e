-- The laws' proofs.
use Rattle.std.proofs.Common.{◌≡◌, ℕ, zero, suc, ◌≤◌, Bool, true, false, nat_lt, cond, List, [], ◌∷◌, ◌++◌, length, take, Option, Some, None, refl, sym, ap, subst, ◌∙◌, arith, append-nil, append_assoc, length-append}
use Rattle.std.specs.Prelude.{slice_get}
use Rattle.std.specs.Option.{option_map, option_or}
use Rattle.std.proofs.lemmas.Option.{slice_get-map}
use Rattle.jiff_core.proofs.DateLemmas.{epoch_day_injective}
use Rattle.jiff_core.proofs.DateTimeLemmas.{civil_nanos_injective, time_nanos_injective}
use Rattle.node_base.specs.Props.{PropMap}
use Rattle.node_base.specs.Tree.{PathMap}
use Rattle.dump_load.specs.declared.change.Change.{Change}
use Rattle.dump_load.specs.Trees.{effect_tree, Makes}
use Rattle.dump_load.specs.Faults.{fault}
use Rattle.repo_core.specs.Repository.{Revision, trees_of, root_alone, AllMade}
use Rattle.repo_core.specs.Entries.{Revised, Mapped, with_props, with_entry}
use Rattle.repo_core.specs.Laws.{EntriesJoin, FreshIsOne, SetsMakeTrees, EntriesKeep, OneDate}
use Rattle.repo_core.proofs.MadeTrees.{made-push}
use Rattle.repo_core.proofs.Roots.{get-root_alone, root_is_made}

pub entries_join : EntriesJoin
entries_join x [] ds = refl
entries_join x (e ∷ es) ds = entries_join (with_entry x e) es ds

pub fresh_is_one : FreshIsOne
fresh_is_one identity = record { begun = omega arith; few = omega arith; made = (root_is_made root_alone get-root_alone, tt) }

made_at : (before : List PathMap) (ss : List (List Change)) (ts : List PathMap) (n : ℕ) (s : List Change) (t : PathMap) → AllMade before ss ts → slice_get ss n ≡ Some s → slice_get ts n ≡ Some t → Makes (before ++ take n ts) s t
made_at before [] ts n s t m e f = cc
made_at before (r ∷ ss) [] n s t m e f = absurd m
made_at before (r ∷ ss) (u ∷ ts) zero s t m e f =
    let set : r ≡ s = cc in
    let tree : u ≡ t = cc in
    subst (λ b. Makes b s t) (sym (append-nil before)) (subst (λ x. Makes before x t) set (subst (λ x. Makes before r x) tree m.0))
made_at before (r ∷ ss) (u ∷ ts) (suc n) s t m e f = subst (λ b. Makes b s t) (append_assoc before (u ∷ []) (take n ts)) (made_at (before ++ u ∷ []) ss ts n s t m.1 e f)

pub sets_make_trees : SetsMakeTrees
sets_make_trees r n s t is e f = made_at [] r.sets (trees_of r.revisions) n s t is.made e (slice_get-map (λ (x : Revision). x.tree) r.revisions n ∙ f)

-- other properties leave the trees
trees-with_props : (x : List Revision) (n : ℕ) (p : PropMap) → trees_of (with_props x n p) ≡ trees_of x
trees-with_props [] n p = refl
trees-with_props (y ∷ x) zero p = refl
trees-with_props (y ∷ x) (suc n) p = ap (λ ts. y.tree ∷ ts) (trees-with_props x n p)

length-with_props : (x : List Revision) (n : ℕ) (p : PropMap) → length (with_props x n p) ≡ length x
length-with_props [] n p = refl
length-with_props (y ∷ x) zero p = refl
length-with_props (y ∷ x) (suc n) p = ap suc (length-with_props x n p)

trees-append : (x y : List Revision) → trees_of (x ++ y) ≡ trees_of x ++ trees_of y
trees-append [] y = refl
trees-append (z ∷ x) y = ap (λ ts. z.tree ∷ ts) (trees-append x y)

some_none : {A : Type 0} {a : A} (G : Type 0) → Some a ≡ None → G
some_none G e = cc

-- nothing is refused: neither the first nor what follows
none_first : {A : Type 0} (a b : Option A) → option_or a b ≡ None → (a ≡ None) × (b ≡ None)
none_first None b e = (refl, e)
none_first (Some a) b e = some_none _ e

not_if : {A : Type 0} (b : Bool) (f : A) → cond b (Some f) None ≡ None → b ≡ false
not_if true f e = some_none _ e
not_if false f e = refl

mapped_none : {A B : Type 0} (f : A → B) (o : Option A) → option_map f o ≡ None → o ≡ None
mapped_none f None e = refl
mapped_none f (Some a) e = some_none _ e

few : (n : ℕ) → nat_lt 65535 n ≡ false → n ≤ 65535
few n h = grind (arith)

pub entries_keep : EntriesKeep
entries_keep r (Revised n set props) is none =
    let first = none_first _ _ none in
    let second = none_first _ _ first.1 in
    let room = few (length r.revisions) (not_if _ _ first.0) in
    let faultless = mapped_none _ (fault (trees_of r.revisions) set) second.0 in
    let longer = length-append r.revisions (record { tree = effect_tree (trees_of r.revisions) set; props = props } ∷ []) in
    record {
      begun = omega (arith, longer);
      few = omega (arith, longer, room);
      made = subst (λ ts. AllMade [] (r.sets ++ set ∷ []) ts) (sym (trees-append r.revisions (record { tree = effect_tree (trees_of r.revisions) set; props = props } ∷ [])))
          (made-push [] r.sets (trees_of r.revisions) set (effect_tree (trees_of r.revisions) set) is.made (record { faultless = faultless; effect = refl }));
    }
entries_keep r (Mapped n props) is none =
    let same = length-with_props r.revisions n props in
    record {
      begun = omega (arith, same, is.begun);
      few = omega (arith, same, is.few);
      made = subst (λ ts. AllMade [] r.sets ts) (sym (trees-with_props r.revisions n props)) is.made;
    }

pub one_date : OneDate
one_date micros a b p q =
    let same = civil_nanos_injective a b (p ∙ sym q) in
    let day = epoch_day_injective a.date b.date same.0 in
    let time = time_nanos_injective a.time b.time same.1 in
    rw (day.0, day.1, day.2, time.0, time.1, time.2, time.3) refl
