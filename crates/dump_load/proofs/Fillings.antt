-- What is filled in, change by change, is the set that was stated.
use Rattle.std.proofs.Common.{◌≡◌, ℕ, Bool, true, false, cond, ◌&&◌, ◌||◌, List, [], ◌∷◌, ◌++◌, Option, Some, None, is_some, not, refl, sym, ap, subst, ◌∙◌, append-nil, append_assoc}
use Rattle.std.specs.Option.{is_none, option_or, option_map, option_map_or}
use Rattle.node_base.specs.Props.{PropMap, props_fit}
use Rattle.node_base.specs.PropDeltas.{applied}
use Rattle.node_base.specs.declared.prop_delta.PropDelta.{PropDelta}
use Rattle.std.specs.Ordering.{is_lt, ordering_reverse}
use Rattle.std.specs.declared.cmp.Ordering.TheVariants.{Less}
use Rattle.std.specs.List.{list_any, AllByRecursion}
use Rattle.std.proofs.lemmas.List.Elements.{filter-append}
use Rattle.std.proofs.lemmas.List.Folds.{list_any-append}
use Rattle.std.proofs.lemmas.Cmp.{tied_itself}
use Rattle.std.specs.FinMap.{get}
use Rattle.node_base.specs.Path.{Path, path_cmp, paths_total, same_path, is_front}
use Rattle.node_base.proofs.PathLemmas.{path_of_same}
use Rattle.node_base.specs.Tree.{PathMap}
use Rattle.node_base.specs.declared.node.Node.{Node}
use Rattle.node_base.specs.declared.node.Action.{Action}
use Rattle.node_base.specs.declared.node.Action.TheVariants.{Modify, Add, Delete, Replace}
use Rattle.node_base.specs.declared.node.Source.{Source}
use Rattle.node_base.specs.declared.node.NodeKind.{NodeKind}
use Rattle.node_base.specs.declared.node.NodeKind.TheVariants.{File, Dir}
use Rattle.dump_load.specs.declared.change.Change.{Change}
use Rattle.dump_load.specs.Changes.{settles, is_delete, is_plain, is_described, has_form, change_at, Precedes, Follows, IsWhole, IsInOrder, IsNormal}
use Rattle.dump_load.specs.Effect.{effect, stepped}
use Rattle.dump_load.specs.Faults.{fault_if, fault_of, fault, refused, IsRefusal}
use Rattle.node_base.specs.declared.fault.TreeFault.{TreeFault}
use Rattle.dump_load.specs.declared.fault.ChangeFault.{ChangeFault}
use Rattle.dump_load.specs.declared.fault.ChangeFault.TheVariants as refusal
use Rattle.dump_load.specs.Deltas.{Deltas, delta_at, found_props, with_delta, delta_fault_of, delta_fault_after, delta_fault, sound_after, sound}
use Rattle.dump_load.specs.Records.{Combined, is_unsaid, earlier, blank_text, blanked, with_blanks, with_kind, filled_in, filled_after, Filling, IsSetOf}
use Rattle.dump_load.proofs.Faultless.{deletes_settle}
use Rattle.dump_load.proofs.Walk.{fault-end}
use Rattle.dump_load.proofs.OneMore.{effect-end, change_at-end}
use Rattle.dump_load.proofs.Combining.{order_follows, follows_same, follows_end}

-- ---- what stays the same

pub blanks_path : (c : Change) → (with_blanks c).path ≡ c.path
blanks_path c = elim (is_plain c) as (λ b. (λ (x : Change). x.path) (cond b (blanked c) c) ≡ c.path) [ true ↦ refl | false ↦ refl ]

pub blanks_action : (c : Change) → (with_blanks c).action ≡ c.action
blanks_action c = elim (is_plain c) as (λ b. (λ (x : Change). x.action) (cond b (blanked c) c) ≡ c.action) [ true ↦ refl | false ↦ refl ]

described : (k j : Option NodeKind) (t : Option (List ℕ)) → is_none k ≡ false → is_described (option_or k j) true (is_some (blank_text k t)) ≡ true
described None j t e = cc
described (Some File) j t e = refl
described (Some Dir) j t e = refl

-- what copies nothing may have all parts
plain_form : (a : Action) (s : Option Source) (p t : Bool) → (settles a && not (is_delete a) && is_none s) ≡ true → ((is_none s || (settles a && not (is_delete a))) && not (is_delete a && (p || t))) ≡ true
plain_form Modify s p t e = cc
plain_form Delete s p t e = cc
plain_form Add None p t e = refl
plain_form Add (Some s) p t e = cc
plain_form Replace None p t e = refl
plain_form Replace (Some s) p t e = cc

-- a refusal for what comes first
pub refusal_first : (e : ChangeFault) (a b : Option ChangeFault) → IsRefusal e a → IsRefusal e (option_or a b)
refusal_first refusal.OutOfMemory a b h = tt
refusal_first e a b h = ap (λ o. option_or o b) h

neither : (a b : Bool) → (a || not b) ≡ false → (a ≡ false) × (b ≡ true)
neither true b e = cc
neither false true e = (refl, refl)
neither false false e = cc

-- a change that says what it adds is whole once it is filled in
pub whole_filled : (trees : List PathMap) (before : Path → Option Node) (c : Change) → is_unsaid c ≡ false → IsWhole (with_kind trees before (with_blanks c))
whole_filled trees before c e =
    let said = neither (is_plain c && is_none c.kind) (has_form c) e in
    elim (is_plain c) as (λ b. is_plain c ≡ b → (b && is_none c.kind) ≡ false → IsWhole (with_kind trees before (cond b (blanked c) c))) [
      | true ↦ λ p e. (λ _. described c.kind _ c.text e, plain_form c.action c.source true (is_some (blank_text c.kind c.text)) p)
      | false ↦ λ p _. (λ q. cc, said.1)
    ] refl said.0

-- a list in place of another leaves a change as whole as it was
still_some : (o : Option PropMap) (g : PropMap → PropMap) → is_some (option_map g o) ≡ is_some o
still_some None g = refl
still_some (Some m) g = refl

pub whole_delta : (trees : List PathMap) (before : Path → Option Node) (o : Option PropDelta) (c : Change) → IsWhole c → IsWhole (with_delta trees before o c)
whole_delta trees before None c w = w
whole_delta trees before (Some d) c w =
    let same = still_some c.props (λ given. option_map_or (applied d) (found_props trees before c) given) in
    (λ p. ap (λ b. is_described c.kind b (is_some c.text)) same ∙ w.0 p, ap (λ b. (is_none c.source || (settles c.action && not (is_delete c.action))) && not (is_delete c.action && (b || is_some c.text))) same ∙ w.1)

pub delta_path : (trees : List PathMap) (before : Path → Option Node) (o : Option PropDelta) (c : Change) → (with_delta trees before o c).path ≡ c.path
delta_path trees before None c = refl
delta_path trees before (Some d) c = refl

delta_action : (trees : List PathMap) (before : Path → Option Node) (o : Option PropDelta) (c : Change) → (with_delta trees before o c).action ≡ c.action
delta_action trees before None c = refl
delta_action trees before (Some d) c = refl

-- a delta is judged alike before and after its list is put
none_still : (o : Option PropMap) (g : PropMap → PropMap) → is_none (option_map g o) ≡ is_none o
none_still None g = refl
none_still (Some m) g = refl

pub judged_alike : (trees : List PathMap) (first : Option TreeFault) (before : Path → Option Node) (o : Option PropDelta) (c : Change) → delta_fault_of trees first before o (with_delta trees before o c) ≡ delta_fault_of trees first before o c
judged_alike trees first before None c = refl
judged_alike trees first before (Some d) c =
    ap (λ b. cond b None (option_map_or (λ m. fault_if (not (props_fit (applied d m))) refusal.TooLong) (found_props trees before c) (option_map refused (option_or first (fault_of trees before c)))))
    (none_still c.props (λ given. option_map_or (applied d) (found_props trees before c) given))

module _ (trees : List PathMap) (ds : Deltas) where
  pub filled_path : (before : List Change) (c : Change) → (filled_in trees ds before c).path ≡ c.path
  filled_path before c = delta_path trees (effect trees (sound trees before)) (delta_at ds c.path) (with_kind trees (effect trees (sound trees before)) (with_blanks c)) ∙ blanks_path c

  filled_action : (before : List Change) (c : Change) → (filled_in trees ds before c).action ≡ c.action
  filled_action before c = delta_action trees (effect trees (sound trees before)) (delta_at ds c.path) (with_kind trees (effect trees (sound trees before)) (with_blanks c)) ∙ blanks_action c

  precedes_filled : (before : List Change) (d c : Change) → Precedes d c → Precedes (filled_in trees ds before d) c
  precedes_filled before d c h =
      record { rises = ap (λ p. path_cmp p c.path) (filled_path before d) ∙ h.rises; stands = λ del. ap (λ p. is_front p c.path) (filled_path before d) ∙ h.stands (ap is_delete (sym (filled_action before d)) ∙ del) }

  filled_follows : (done cs : List Change) (c : Change) → Follows done c → Follows cs c → Follows (filled_after trees ds done cs) c
  filled_follows done [] c h f = h
  filled_follows done (d ∷ cs) c h f = filled_follows (done ++ filled_in trees ds done d ∷ []) cs c (follows_end done (filled_in trees ds done d) c h (precedes_filled done d c f.0)) f.1

  sound_follows : (done s : List Change) (c : Change) → Follows done c → Follows s c → Follows (sound_after trees done s) c
  sound_follows done [] c h f = h
  sound_follows done (d ∷ s) c h f =
      elim (is_none (fault_of trees (effect trees done) d)) as (λ b. Follows (sound_after trees (cond b (done ++ d ∷ []) done) s) c) [
        | true ↦ sound_follows (done ++ d ∷ []) s c (follows_end done d c h f.0) f.1
        | false ↦ sound_follows done s c h f.1
      ]

  filled-end : (done ys : List Change) (c : Change) → filled_after trees ds done (ys ++ c ∷ []) ≡ filled_after trees ds done ys ++ filled_in trees ds (filled_after trees ds done ys) c ∷ []
  filled-end done [] c = refl
  filled-end done (d ∷ ys) c = filled-end (done ++ filled_in trees ds done d ∷ []) ys c

  sound-end : (done s : List Change) (f : Change) → sound_after trees done (s ++ f ∷ []) ≡ cond (is_none (fault_of trees (effect trees (sound_after trees done s)) f)) (sound_after trees done s ++ f ∷ []) (sound_after trees done s)
  sound-end done [] f = refl
  sound-end done (d ∷ s) f = sound-end (cond (is_none (fault_of trees (effect trees done) d)) (done ++ d ∷ []) done) s f

  -- the first delta that can't be applied, of some changes and then of others
  pub delta_fault-append : (done s t : List Change) → delta_fault_after trees ds done (s ++ t) ≡ option_or (delta_fault_after trees ds done s) (delta_fault_after trees ds (done ++ s) t)
  delta_fault-append done [] t = ap (λ xs. delta_fault_after trees ds xs t) (sym (append-nil done))
  delta_fault-append done (c ∷ s) t =
      let here = delta_fault_of trees (fault trees done) (effect trees (sound trees done)) (delta_at ds c.path) c in
      ap (option_or here) (delta_fault-append (done ++ c ∷ []) s t ∙ ap (λ xs. option_or (delta_fault_after trees ds (done ++ c ∷ []) s) (delta_fault_after trees ds xs t)) (append_assoc done (c ∷ []) s))
      ∙ or_assoc here (delta_fault_after trees ds (done ++ c ∷ []) s) (delta_fault_after trees ds (done ++ c ∷ s) t)
    where
      or_assoc : (a b e : Option ChangeFault) → option_or a (option_or b e) ≡ option_or (option_or a b) e
      or_assoc None b e = refl
      or_assoc (Some f) b e = refl

  filled-append : (done ys zs : List Change) → filled_after trees ds done (ys ++ zs) ≡ filled_after trees ds (filled_after trees ds done ys) zs
  filled-append done [] zs = refl
  filled-append done (c ∷ ys) zs = filled-append (done ++ filled_in trees ds done c ∷ []) ys zs

  -- what follows the changes done
  fills : List Change → List Change → List Change
  fills done [] = []
  fills done (c ∷ cs) = filled_in trees ds done c ∷ fills (done ++ filled_in trees ds done c ∷ []) cs

  filled_is : (done cs : List Change) → filled_after trees ds done cs ≡ done ++ fills done cs
  unfolding fills
  filled_is done [] = sym (append-nil done)
  filled_is done (c ∷ cs) = filled_is (done ++ filled_in trees ds done c ∷ []) cs ∙ append_assoc done (filled_in trees ds done c ∷ []) (fills (done ++ filled_in trees ds done c ∷ []) cs)

  pub filling_none : (tree : PathMap) → ((q : Path) → get tree q ≡ effect trees [] q) → Filling trees ds [] [] tree None
  filling_none tree h = record { items = refl; left = h; fault = refl; all = λ _. refl; deltas = refl }

  module _ (ys rest out : List Change) (tree : PathMap) (first : Option TreeFault) (c k : Change) (w : Filling trees ds ys out tree first) (order : IsInOrder (ys ++ c ∷ rest)) (is : k ≡ with_kind trees (get tree) (with_blanks c)) where
    same_function : ◌≡◌ {A = Path → Option Node} (get tree) (effect trees (sound trees out))
    same_function = λ i q. w.left q i

    kinded_is : k ≡ with_kind trees (effect trees (sound trees out)) (with_blanks c)
    kinded_is = is ∙ (λ i. with_kind trees (same_function i) (with_blanks c))

    -- what is told of the delta where it comes, said of what was filled in
    pub told_of_delta : delta_fault_of trees first (get tree) (delta_at ds c.path) k ≡ delta_fault_of trees (fault trees out) (effect trees (sound trees out)) (delta_at ds (filled_in trees ds out c).path) (filled_in trees ds out c)
    told_of_delta =
        (λ i. delta_fault_of trees (w.fault i) (same_function i) (delta_at ds c.path) (kinded_is i))
        ∙ sym (judged_alike trees (fault trees out) (effect trees (sound trees out)) (delta_at ds c.path) (with_kind trees (effect trees (sound trees out)) (with_blanks c)))
        ∙ ap (λ p. delta_fault_of trees (fault trees out) (effect trees (sound trees out)) (delta_at ds p) (filled_in trees ds out c)) (sym (filled_path out c))

    -- a delta that can't be applied is the first of all
    pub delta_refused : (e : ChangeFault) → IsRefusal e (delta_fault_of trees first (get tree) (delta_at ds c.path) k) → IsRefusal e (delta_fault trees ds (filled_after trees ds [] (ys ++ c ∷ rest)))
    delta_refused e r =
        let fc = filled_in trees ds out c in
        let all : delta_fault trees ds (filled_after trees ds [] (ys ++ c ∷ rest)) ≡ option_or (delta_fault_of trees first (get tree) (delta_at ds c.path) k) (delta_fault_after trees ds (out ++ fc ∷ []) (fills (out ++ fc ∷ []) rest)) =
        ap (delta_fault trees ds) (filled-append [] ys (c ∷ rest) ∙ ap (λ xs. filled_after trees ds xs (c ∷ rest)) (sym w.items) ∙ filled_is (out ++ fc ∷ []) rest ∙ append_assoc out (fc ∷ []) (fills (out ++ fc ∷ []) rest))
        ∙ delta_fault-append [] out (fc ∷ fills (out ++ fc ∷ []) rest)
        ∙ ap (λ o. option_or o (delta_fault_after trees ds out (fc ∷ fills (out ++ fc ∷ []) rest))) w.deltas
        ∙ ap (λ o. option_or o (delta_fault_after trees ds (out ++ fc ∷ []) (fills (out ++ fc ∷ []) rest))) (sym told_of_delta) in
        subst (IsRefusal e) (sym all) (refusal_first e _ _ r)

    module _ (f : Change) (said : f ≡ with_delta trees (get tree) (delta_at ds c.path) k) (fine : delta_fault_of trees first (get tree) (delta_at ds c.path) k ≡ None) where
      f_is : f ≡ filled_in trees ds out c
      f_is = said ∙ (λ i. with_delta trees (same_function i) (delta_at ds c.path) (kinded_is i))

      f_path : c.path ≡ f.path
      f_path = sym (ap (λ (x : Change). x.path) f_is ∙ filled_path out c)

      follows : Follows (sound trees out) f
      follows = follows_same (sound trees out) c f f_path (sound_follows [] out c tt (subst (λ s. Follows s c) (sym w.items) (filled_follows [] ys c tt (order_follows ys rest c order))))

      items : out ++ f ∷ [] ≡ filled_after trees ds [] (ys ++ c ∷ [])
      items = (λ i. w.items i ++ (f_is ∙ ap (λ s. filled_in trees ds s c) w.items) i ∷ []) ∙ sym (filled-end [] ys c)

      deltas : delta_fault trees ds (out ++ f ∷ []) ≡ None
      deltas =
          delta_fault-append [] out (f ∷ [])
          ∙ ap (λ o. option_or o (delta_fault_after trees ds out (f ∷ []))) w.deltas
          ∙ ap (λ x. option_or (delta_fault_of trees (fault trees out) (effect trees (sound trees out)) (delta_at ds x.path) x) None) f_is
          ∙ ap (λ o. option_or o None) (sym told_of_delta ∙ fine)

      sound_is : (b : Bool) → is_none (fault_of trees (get tree) f) ≡ b → sound trees (out ++ f ∷ []) ≡ cond b (sound trees out ++ f ∷ []) (sound trees out)
      sound_is b e = sound-end [] out f ∙ ap (λ b. cond b (sound trees out ++ f ∷ []) (sound trees out)) ((λ i. is_none (fault_of trees (sym same_function i) f)) ∙ e)

      -- up to the first fault nothing is left out
      fault_is : option_or first (fault_of trees (get tree) f) ≡ fault trees (out ++ f ∷ [])
      fault_is = at first w.fault w.all ∙ sym (fault-end trees out f)
        where
          at : (o : Option TreeFault) → o ≡ fault trees out → (o ≡ None → sound trees out ≡ out) → option_or o (fault_of trees (get tree) f) ≡ option_or (fault trees out) (fault_of trees (effect trees out) f)
          at (Some x) is all = ap (λ o. option_or o (fault_of trees (effect trees out) f)) is
          at None is all = (λ i. fault_of trees (same_function i) f) ∙ ap (λ s. fault_of trees (effect trees s) f) (all refl) ∙ ap (λ o. option_or o (fault_of trees (effect trees out) f)) is

      all_more : option_or first (fault_of trees (get tree) f) ≡ None → sound trees (out ++ f ∷ []) ≡ out ++ f ∷ []
      all_more none = sound_is true (ap is_none (none_second first (fault_of trees (get tree) f) none)) ∙ ap (λ s. s ++ f ∷ []) (w.all (none_first first (fault_of trees (get tree) f) none))
        where
          none_first : (a b : Option TreeFault) → option_or a b ≡ None → a ≡ None
          none_first None b e = refl
          none_first (Some x) b e = cc

          none_second : (a b : Option TreeFault) → option_or a b ≡ None → b ≡ None
          none_second None b e = e
          none_second (Some x) b e = cc

      pub filled_more : (new : PathMap) → ((q : Path) → get new q ≡ cond (is_none (fault_of trees (get tree) f)) (stepped trees (get tree) f q) (get tree q)) → Filling trees ds (ys ++ c ∷ []) (out ++ f ∷ []) new (option_or first (fault_of trees (get tree) f))
      filled_more new h = record { items = items; left = left (is_none (fault_of trees (get tree) f)) refl; fault = fault_is; all = all_more; deltas = deltas }
        where
          left : (b : Bool) → is_none (fault_of trees (get tree) f) ≡ b → (q : Path) → get new q ≡ effect trees (sound trees (out ++ f ∷ [])) q
          left true e q =
              h q ∙ ap (λ b. cond b (stepped trees (get tree) f q) (get tree q)) e
              ∙ (λ j. stepped trees (same_function j) f q)
              ∙ sym (effect-end trees (sound trees out) f follows (deletes_settle f.action) q)
              ∙ ap (λ s. effect trees s q) (sym (sound_is true e))
          left false e q = h q ∙ ap (λ b. cond b (stepped trees (get tree) f q) (get tree q)) e ∙ w.left q ∙ ap (λ s. effect trees s q) (sym (sound_is false e))

-- the tree and the fault at the end
module _ (trees : List PathMap) (ds : Deltas) (ys out : List Change) (tree : PathMap) (first : Option TreeFault) (w : Filling trees ds ys out tree first) where
  pub filled_left : first ≡ None → (q : Path) → get tree q ≡ effect trees out q
  filled_left none q = w.left q ∙ ap (λ s. effect trees s q) (w.all none)

-- ---- the whole set

pub normal_end : (s : List Change) (c : Change) → IsNormal s → Follows s c → IsWhole c → IsNormal (s ++ c ∷ [])
normal_end [] c h f w = (w, tt, tt)
normal_end (d ∷ s) c h f w = (h.0, all_end s h.1, normal_end s c h.2 f.1 w)
  where
    all_end : (s : List Change) → AllByRecursion (Precedes d) s → AllByRecursion (Precedes d) (s ++ c ∷ [])
    all_end [] h = (f.0, tt)
    all_end (e ∷ s) h = (h.0, all_end s h.1)

first_not : (a b : Bool) → (a || b) ≡ false → a ≡ false
first_not true b e = e
first_not false b e = refl

rest_not : (a b : Bool) → (a || b) ≡ false → b ≡ false
rest_not true b e = cc
rest_not false b e = e

-- what holds of no change holds not of one
pub not_of_one : (f : Change → Bool) (ys rest : List Change) (c : Change) → list_any f (ys ++ c ∷ rest) ≡ false → f c ≡ false
not_of_one f ys rest c e = first_not (f c) (list_any f rest) (rest_not (list_any f ys) (list_any f (c ∷ rest)) (sym (list_any-append f ys (c ∷ rest)) ∙ e))

module _ (trees : List PathMap) (ds : Deltas) where
  -- each follows what is done
  abbrev AllFollow : List Change → List Change → Type 0
  AllFollow done cs = AllByRecursion (Follows done) cs

  follow_more : (done cs : List Change) (c : Change) → AllFollow done cs → AllByRecursion (Precedes c) cs → AllFollow (done ++ filled_in trees ds done c ∷ []) cs
  follow_more done [] c h p = tt
  follow_more done (d ∷ cs) c h p = (follows_end done (filled_in trees ds done c) d h.0 (precedes_filled trees ds done c d p.0), follow_more done cs c h.1 p.1)

  follows_itself : (done : List Change) (c : Change) → Follows done c → Follows done (filled_in trees ds done c)
  follows_itself done c h = follows_same done c (filled_in trees ds done c) (sym (filled_path trees ds done c)) h

  normal_after : (done cs : List Change) → IsNormal done → AllFollow done cs → IsInOrder cs → list_any is_unsaid cs ≡ false → IsNormal (filled_after trees ds done cs)
  normal_after done [] n h o k = n
  normal_after done (c ∷ cs) n h o k =
      normal_after (done ++ filled_in trees ds done c ∷ []) cs
      (normal_end done (filled_in trees ds done c) n (follows_itself done c h.0) (whole_delta trees (effect trees (sound trees done)) (delta_at ds c.path) _ (whole_filled trees (effect trees (sound trees done)) c (first_not (is_unsaid c) (list_any is_unsaid cs) k))))
      (follow_more done cs c h.1 o.0) o.1 (rest_not (is_unsaid c) (list_any is_unsaid cs) k)

  none_yet : (cs : List Change) → AllFollow [] cs
  none_yet [] = tt
  none_yet (c ∷ cs) = (tt, none_yet cs)

  pub normal_filled : (cs : List Change) → IsInOrder cs → list_any is_unsaid cs ≡ false → IsNormal (filled_after trees ds [] cs)
  normal_filled cs o k = normal_after [] cs tt (none_yet cs) o k

  -- the changes before a path, of those done and then those that follow
  pub before_all : (done : List Change) (c : Change) → Follows done c → earlier done c.path ≡ done
  before_all [] c h = refl
  before_all (d ∷ done) c h = (λ i. cond (is_lt (h.0.rises i)) (d ∷ earlier done c.path) (earlier done c.path)) ∙ ap (λ s. d ∷ s) (before_all done c h.1)

  pub not_before : (p q : Path) → path_cmp p q ≡ Less → is_lt (path_cmp q p) ≡ false
  not_before p q e = ap is_lt (paths_total.antisymm q p) ∙ ap (λ r. is_lt (ordering_reverse r)) e

  after_none : (done cs : List Change) (c : Change) → AllByRecursion (Precedes c) cs → earlier (fills trees ds done cs) c.path ≡ []
  unfolding fills
  after_none done [] c h = refl
  after_none done (d ∷ cs) c h =
      (λ i. cond ((ap (λ p. is_lt (path_cmp p c.path)) (filled_path trees ds done d) ∙ not_before c.path d.path h.0.rises) i) (filled_in trees ds done d ∷ earlier (fills trees ds (done ++ filled_in trees ds done d ∷ []) cs) c.path) (earlier (fills trees ds (done ++ filled_in trees ds done d ∷ []) cs) c.path))
      ∙ after_none (done ++ filled_in trees ds done d ∷ []) cs c h.1

  earlier_is : (done cs : List Change) (c : Change) → Follows done c → AllByRecursion (Precedes c) cs → earlier (filled_after trees ds done (c ∷ cs)) c.path ≡ done
  earlier_is done cs c h p =
      let f = filled_in trees ds done c in
      ap (λ s. earlier s c.path) (filled_is trees ds (done ++ f ∷ []) cs)
      ∙ filter-append (λ d. is_lt (path_cmp d.path c.path)) (done ++ f ∷ []) (fills trees ds (done ++ f ∷ []) cs)
      ∙ ap (λ s. earlier (done ++ f ∷ []) c.path ++ s) (after_none (done ++ f ∷ []) cs c p)
      ∙ append-nil (earlier (done ++ f ∷ []) c.path)
      ∙ filter-append (λ d. is_lt (path_cmp d.path c.path)) done (f ∷ [])
      ∙ (λ i. before_all done c h i ++ cond (itself i) (f ∷ []) [])
      ∙ append-nil done
    where
      itself : is_lt (path_cmp (filled_in trees ds done c).path c.path) ≡ false
      itself = ap (λ p. is_lt (path_cmp p c.path)) (filled_path trees ds done c) ∙ ap is_lt (tied_itself paths_total c.path)

  change_at-front : (s t : List Change) (p : Path) (c : Change) → change_at s p ≡ Some c → change_at (s ++ t) p ≡ Some c
  change_at-front [] t p c e = cc
  change_at-front (d ∷ s) t p c e =
      elim (same_path d.path p) as (λ b. cond b (Some d) (change_at s p) ≡ Some c → cond b (Some d) (change_at (s ++ t) p) ≡ Some c) [ true ↦ λ e. e | false ↦ λ e. change_at-front s t p c e ] e

  changes_after : (done cs : List Change) (p : Path) → AllFollow done cs → IsInOrder cs → change_at done p ≡ None → change_at (filled_after trees ds done cs) p ≡ option_map (filled_in trees ds (earlier (filled_after trees ds done cs) p)) (change_at cs p)
  changes_after done [] p h o none = none
  changes_after done (c ∷ cs) p h o none =
      let f = filled_in trees ds done c in
      let ends = change_at-end f done (follows_itself done c h.0) p ∙ ap (λ q. cond (same_path q p) (Some f) (change_at done p)) (filled_path trees ds done c) in
      elim (same_path c.path p) as (λ b. same_path c.path p ≡ b → change_at (filled_after trees ds done (c ∷ cs)) p ≡ option_map (filled_in trees ds (earlier (filled_after trees ds done (c ∷ cs)) p)) (cond b (Some c) (change_at cs p))) [
        | true ↦ λ e.
            ap (λ s. change_at s p) (filled_is trees ds (done ++ filled_in trees ds done c ∷ []) cs)
            ∙ change_at-front (done ++ filled_in trees ds done c ∷ []) (fills trees ds (done ++ filled_in trees ds done c ∷ []) cs) p (filled_in trees ds done c) (ends ∙ ap (λ b. cond b (Some (filled_in trees ds done c)) (change_at done p)) e)
            ∙ ap (λ s. Some (filled_in trees ds s c)) (sym (ap (earlier (filled_after trees ds done (c ∷ cs))) (sym (path_of_same c.path p e)) ∙ earlier_is done cs c h.0 o.0))
        | false ↦ λ e. changes_after (done ++ filled_in trees ds done c ∷ []) cs p (follow_more done cs c h.1 o.0) o.1 (ends ∙ ap (λ b. cond b (Some (filled_in trees ds done c)) (change_at done p)) e ∙ none)
      ] refl

  pub set_of : (cs out s : List Change) → Combined cs out → list_any is_unsaid out ≡ false → s ≡ filled_after trees ds [] out → IsSetOf trees ds cs s
  set_of cs out s w k is =
      subst (IsSetOf trees ds cs) (sym is)
      (record {
        normal = normal_filled out w.order k;
        changes = λ p. changes_after [] out p (none_yet out) w.order refl ∙ ap (option_map (filled_in trees ds (earlier (filled_after trees ds [] out) p))) (w.changes p);
      })
