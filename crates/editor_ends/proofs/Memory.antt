-- A set that has no fault is driven to an editor that builds, but for want of memory.
use Rattle.std.proofs.Common.{◌≡◌, ℕ, suc, ◌≤◌, ◌<◌, Bool, true, false, cond, not, ◌&&◌, ◌||◌, List, [], ◌∷◌, ◌++◌, length, map, filter, reverse, Option, Some, None, refl, sym, ap, subst, ◌∙◌, append_assoc, append-nil, arith, if◌then◌else◌}
use Rattle.std.specs.Option.{option_map, option_map_or, option_and_then}
use Rattle.std.specs.List.{AllByRecursion, list_any}
use Rattle.std.specs.FinMap as finite
use Rattle.md5.specs.Md5.{md5}
use Rattle.std.proofs.lemmas.List.Folds.{list_any-append}
use Rattle.std.specs.declared.cmp.Ordering.TheVariants.{Less}
use Rattle.node_base.specs.Path.{Name, Path, path_cmp, paths_total, same_path, is_front}
use Rattle.node_base.specs.Props.{PropMap}
use Rattle.node_base.proofs.PathLemmas.{same_path_itself, path_of_same, before_below}
use Rattle.node_base.specs.declared.node.Node.{Node}
use Rattle.node_base.specs.declared.node.Action.{Action}
use Rattle.node_base.specs.declared.node.Action.TheVariants.{Modify, Add, Delete, Replace}
use Rattle.node_base.specs.Tree.{PathMap, IsDirAt, base}
use Rattle.dump_load.specs.declared.change.Change.{Change}
use Rattle.dump_load.specs.Changes.{is_delete, Precedes, IsNormal}
use Rattle.dump_load.specs.Effect.{effect}
use Rattle.dump_load.specs.Faults.{fault}
use Rattle.dump_load.proofs.PathOrder.{less_differs}
use Rattle.delta_editor.specs.declared.call.Call.{Call}
use Rattle.delta_editor.specs.declared.call.Call.TheVariants as call
use Rattle.delta_editor.specs.Nesting.{Stage, Before, Within, After, run}
use Rattle.delta_editor.specs.Faults.{refused}
use Rattle.delta_editor.specs.declared.fault.EditorFault.{EditorFault}
use Rattle.delta_editor.specs.declared.fault.EditorFault.TheVariants as refusal
use Rattle.editor_ends.specs.Fronts.{above, fronts}
use Rattle.editor_ends.specs.Parts.{removals, settings, prop_calls, pieces, text_calls, parts}
use Rattle.editor_ends.specs.Drive.{base_number, opening, opens, closes, calls_with, of_file, old_props, change_calls, rests_at, walk, drive}
use Rattle.editor_ends.specs.BuildFaults.{is_below, takes, acts_below, gives, is_changed, call_fault, refusal_after, IsCallRefusal, RefusesWithin}
use Rattle.editor_ends.specs.BuildFaults as faults
use Rattle.editor_ends.specs.Refusals.{IsDriveRefusal, OfMemory, OfSet, OfEditor}
use Rattle.dump_load.specs.Bounds.{IsWithin}
use Rattle.editor_ends.proofs.Fronts.{all_map, fronts_are}
use Rattle.editor_ends.proofs.Filled.{or_yes, all_of, all_two}
use Rattle.editor_ends.proofs.CallEffects.{all_filter, none_first, none_rest}
use Rattle.editor_ends.proofs.Nested.{ends_of, nested-drive, is_front-append}
use Rattle.editor_ends.proofs.Shows.{run-append, change_end}
use Rattle.editor_ends.proofs.Walks.{front_rest}
use Rattle.editor_ends.proofs.Unrefused.{free-drive}

-- ---- what the calls of a set change

-- none of the calls gives something to a path, and where one opens it another opens, adds or deletes something below
record Leads (p : Path) (xs : List Call) : Type 0 where
  nothing : list_any (gives p) xs ≡ false
  below : list_any (takes p) xs ≡ true → list_any (acts_below p) xs ≡ true

or_true : (a b c d : Bool) → (a ≡ true → c ≡ true) → (b ≡ true → d ≡ true) → (a || b) ≡ true → (c || d) ≡ true
or_true true b c d f g h = ap (λ z. z || d) (f refl)
or_true false b c d f g h = ap (λ z. c || z) (g h) ∙ or_yes c

leads_both : (p : Path) (xs ys : List Call) → Leads p xs → Leads p ys → Leads p (xs ++ ys)
leads_both p xs ys a b = record {
  nothing = list_any-append (gives p) xs ys ∙ (λ i. a.nothing i || b.nothing i);
  below = λ h. list_any-append (acts_below p) xs ys ∙ or_true (list_any (takes p) xs) (list_any (takes p) ys) (list_any (acts_below p) xs) (list_any (acts_below p) ys) a.below b.below (sym (list_any-append (takes p) xs ys) ∙ h);
}

-- calls that neither give something to a path nor open it
record Passes (p : Path) (c : Call) : Type 0 where
  nothing : gives p c ≡ false
  none : takes p c ≡ false

leads_each : {X : Type 0} (p : Path) (g : X → Call) → ((x : X) → Passes p (g x)) → (xs : List X) → Leads p (map g xs)
leads_each p g h [] = record { nothing = refl; below = λ e. cc }
leads_each p g h (x ∷ xs) =
    let r = leads_each p g h xs in
    record {
      nothing = (λ i. (h x).nothing i || r.nothing i);
      below = λ e. ap (λ b. acts_below p (g x) || b) (r.below (sym (ap (λ b. b || list_any (takes p) (map g xs)) (h x).none) ∙ e)) ∙ or_yes (acts_below p (g x));
    }

module _ (p : Path) (c : Change) (apart : same_path c.path p ≡ false) where
  leads_props : (prop : Name → Option (List ℕ) → Call) → ((k : Name) (v : Option (List ℕ)) → Passes p (prop k v)) → (old : PropMap) (new : Option PropMap) → Leads p (option_map_or (prop_calls prop old) new [])
  leads_props prop h old None = record { nothing = refl; below = λ e. cc }
  leads_props prop h old (Some new) =
      leads_both p (removals prop new (finite.entries old)) (settings prop (finite.entries new)) (leads_each {X = Name × List ℕ} p (λ e. prop e.0 None) (λ e. h e.0 None) (filter (λ e. not (finite.contains_key new e.0)) (finite.entries old)))
      (leads_each {X = Name × List ℕ} p (λ e. prop e.0 (Some e.1)) (λ e. h e.0 (Some e.1)) (finite.entries new))

  leads_parts : (file : Bool) (old : PropMap) → Leads p (parts file c old)
  leads_parts false old = leads_props (call.DirProp c.path) (λ k v. record { nothing = apart; none = refl }) old c.props
  leads_parts true old =
      leads_both p (option_map_or (prop_calls (call.FileProp c.path) old) c.props []) (option_map_or (text_calls c.path) c.text [] ++ close) (leads_props (call.FileProp c.path) (λ k v. record { nothing = apart; none = refl }) old c.props)
      (leads_both p (option_map_or (text_calls c.path) c.text []) close (text c.text) (record { nothing = refl; below = λ e. cc }))
    where
      close : List Call
      close = call.CloseFile c.path (option_map md5 c.text) ∷ []

      text : (t : Option (List ℕ)) → Leads p (option_map_or (text_calls c.path) t [])
      text None = record { nothing = refl; below = λ e. cc }
      text (Some t) =
          leads_both p (call.TextStart c.path ∷ []) (map (call.TextPiece c.path) (pieces t) ++ call.TextEnd c.path ∷ []) (record { nothing = ap (λ b. b || false) apart; below = λ e. cc })
          (leads_both p (map (call.TextPiece c.path) (pieces t)) (call.TextEnd c.path ∷ []) (leads_each p (call.TextPiece c.path) (λ x. record { nothing = apart; none = refl }) (pieces t)) (record { nothing = refl; below = λ e. cc }))

  leads_opening : (trees : List PathMap) (file : Bool) → Leads p (opening trees file c)
  leads_opening trees file = by c.action file
    where
      one : (b : Bool) → b ≡ false → (b || false) ≡ false
      one b e = ap (λ z. z || false) e

      two : (b : Bool) → b ≡ false → (b || (b || false)) ≡ false
      two b e = ap (λ z. z || (z || false)) e

      off : (b : Bool) {G : Type 0} → b ≡ false → (b || false) ≡ true → G
      off b e h = cc (ap (λ z. z || false) e, h)

      by : (a : Action) (b : Bool) → Leads p (opening trees b (record { path = c.path; action = a; kind = c.kind; source = c.source; props = c.props; text = c.text }))
      by Modify true = record { nothing = refl; below = λ h. off (same_path c.path p) apart h }
      by Modify false = record { nothing = refl; below = λ h. off (same_path c.path p) apart h }
      by Add true = record { nothing = one (same_path c.path p) apart; below = λ h. off (same_path c.path p) apart h }
      by Add false = record { nothing = one (same_path c.path p) apart; below = λ h. off (same_path c.path p) apart h }
      by Delete b = record { nothing = one (same_path c.path p) apart; below = λ h. cc }
      by Replace true = record { nothing = two (same_path c.path p) apart; below = λ h. off (same_path c.path p) apart h }
      by Replace false = record { nothing = two (same_path c.path p) apart; below = λ h. off (same_path c.path p) apart h }

-- opening, adding or deleting below a path acts below it
opening_acts : (p : Path) (trees : List PathMap) (file : Bool) (c : Change) → is_below p c.path ≡ true → list_any (acts_below p) (opening trees file c) ≡ true
opening_acts p trees file c h = by c.action file
  where
    by : (a : Action) (b : Bool) → list_any (acts_below p) (opening trees b (record { path = c.path; action = a; kind = c.kind; source = c.source; props = c.props; text = c.text })) ≡ true
    by Modify true = ap (λ z. z || false) h
    by Modify false = ap (λ z. z || false) h
    by Add true = ap (λ z. z || false) h
    by Add false = ap (λ z. z || false) h
    by Delete b = ap (λ z. z || false) h
    by Replace true = ap (λ z. z || (z || false)) h
    by Replace false = ap (λ z. z || (z || false)) h

-- a directory on the way is above the path
way_is_below : (c : Path) → is_front c [] ≡ false → (d : Path) → is_front d (above c) ≡ true → is_below d c ≡ true
way_is_below c below d h = (λ i. front i && not (apart i))
  where
    e : Rattle.editor_ends.proofs.Nested.Ends c
    e = ends_of c below

    f : Rattle.editor_ends.proofs.Walks.Rest d (above c)
    f = front_rest d (above c) h

    is : c ≡ d ++ (f.rest ++ e.name ∷ [])
    is = e.is ∙ ap (λ z. z ++ e.name ∷ []) f.is ∙ append_assoc d f.rest (e.name ∷ [])

    front : is_front d c ≡ true
    front = ap (is_front d) is ∙ is_front-append d (f.rest ++ e.name ∷ [])

    less : (r : Path) → c ≡ d ++ (r ++ e.name ∷ []) → path_cmp d c ≡ Less
    less [] k = ap (path_cmp d) k ∙ before_below d [] e.name
    less (n ∷ r) k = ap (path_cmp d) k ∙ before_below d (r ++ e.name ∷ []) n

    apart : same_path d c ≡ false
    apart = less_differs d c (less f.rest is)

is_true : (b : Bool) → not b ≡ false → b ≡ true
is_true true h = refl
is_true false h = cc h

module _ (trees : List PathMap) (at : Path) (c : Change) (below : is_front c.path [] ≡ false) (p : Path) where
  abbrev way : List Path
  way = filter (λ d. not (is_front d at)) (fronts (above c.path))

  way_above : AllByRecursion (λ d. is_front d (above c.path) ≡ true) way
  way_above = all_filter (λ d. is_front d (above c.path) ≡ true) (λ d. not (is_front d at)) (fronts (above c.path)) (all_map (fronts (above c.path)) (λ e h. is_true (is_front e (above c.path)) h) (fronts_are [] (above c.path) (above c.path) [] (sym (append-nil (above c.path)))))

  opens_nothing : (ps : List Path) → list_any (gives p) (map (λ d. call.OpenDir (above d) d (base_number trees)) ps) ≡ false
  opens_nothing [] = refl
  opens_nothing (d ∷ ps) = opens_nothing ps

  opens_above : (ps : List Path) → AllByRecursion (λ d. is_front d (above c.path) ≡ true) ps → list_any (takes p) (map (λ d. call.OpenDir (above d) d (base_number trees)) ps) ≡ true → is_front p (above c.path) ≡ true
  opens_above [] h e = cc
  opens_above (d ∷ ps) h e =
      elim (same_path d p) as (λ b. same_path d p ≡ b → (b || list_any (takes p) (map (λ d. call.OpenDir (above d) d (base_number trees)) ps)) ≡ true → is_front p (above c.path) ≡ true) [
        | true ↦ λ s _. ap (λ z. is_front z (above c.path)) (sym (path_of_same d p s)) ∙ h.0
        | false ↦ λ s k. opens_above ps h.1 k
      ] refl e

  -- the way to a change and its calls
  leads_there : same_path c.path p ≡ false → (file : Bool) (old : PropMap) → Leads p (opens trees at c.path ++ calls_with trees file old c)
  leads_there apart file old =
      record {
        nothing = list_any-append (gives p) (opens trees at c.path) (calls_with trees file old c) ∙ (λ i. opens_nothing way i || own.nothing i);
        below = λ h. list_any-append (acts_below p) (opens trees at c.path) (calls_with trees file old c) ∙ by (list_any (takes p) (opens trees at c.path)) refl (sym (list_any-append (takes p) (opens trees at c.path) (calls_with trees file old c)) ∙ h);
      }
    where
      shown : List Call
      shown = if is_front c.path [] then [] else opening trees file c

      given : List Call
      given = if is_delete c.action then [] else parts file c old

      first : (b : Bool) → Leads p (cond b [] (opening trees file c))
      first true = record { nothing = refl; below = λ e. cc }
      first false = leads_opening p c apart trees file

      second : (b : Bool) → Leads p (cond b [] (parts file c old))
      second true = record { nothing = refl; below = λ e. cc }
      second false = leads_parts p c apart file old

      own : Leads p (calls_with trees file old c)
      own = leads_both p shown given (first (is_front c.path [])) (second (is_delete c.action))

      acts : is_below p c.path ≡ true → list_any (acts_below p) (calls_with trees file old c) ≡ true
      acts h =
          list_any-append (acts_below p) shown given
          ∙ ap (λ b. b || list_any (acts_below p) given) (ap (λ b. list_any (acts_below p) (cond b [] (opening trees file c))) below ∙ opening_acts p trees file c h)

      by : (b : Bool) → list_any (takes p) (opens trees at c.path) ≡ b → (b || list_any (takes p) (calls_with trees file old c)) ≡ true → (list_any (acts_below p) (opens trees at c.path) || list_any (acts_below p) (calls_with trees file old c)) ≡ true
      by true e h = ap (λ b. list_any (acts_below p) (opens trees at c.path) || b) (acts (way_is_below c.path below p (opens_above way way_above e))) ∙ or_yes (list_any (acts_below p) (opens trees at c.path))
      by false e h = ap (λ b. list_any (acts_below p) (opens trees at c.path) || b) (own.below h) ∙ or_yes (list_any (acts_below p) (opens trees at c.path))

-- the change of the root, which opens nothing
leads_root : (trees : List PathMap) (at : Path) (c : Change) (p : Path) → c.path ≡ [] → same_path c.path p ≡ false → (file : Bool) (old : PropMap) → Leads p (opens trees at c.path ++ calls_with trees file old c)
leads_root trees at c p e apart file old =
    leads_both p (opens trees at c.path) (calls_with trees file old c) (subst (λ z. Leads p (opens trees at z)) (sym e) (record { nothing = refl; below = λ h. cc }))
    (leads_both p (if is_front c.path [] then [] else opening trees file c) (if is_delete c.action then [] else parts file c old) (subst (λ z. Leads p (cond (is_front z []) [] (opening trees file c))) (sym e) (record { nothing = refl; below = λ h. cc })) (given (is_delete c.action)))
  where
    given : (b : Bool) → Leads p (cond b [] (parts file c old))
    given true = record { nothing = refl; below = λ h. cc }
    given false = leads_parts p c apart file old

leads_closes : (p at to : Path) → Leads p (closes at to)
leads_closes p at to = leads_each p call.CloseDir (λ d. record { nothing = refl; none = refl }) (reverse (filter (λ d. not (is_front d to)) (fronts at)))

abbrev is_among : List Change → Path → Bool
is_among s p = list_any (λ c. same_path c.path p) s

off_first : (a b : Bool) → (a || b) ≡ false → (a ≡ false) × (b ≡ false)
off_first true b e = cc
off_first false b e = (refl, e)

leads_walk : (p : Path) (trees : List PathMap) (done s : List Change) (at : Path) → is_among s p ≡ false → Leads p (walk trees done at s)
leads_walk p trees done [] at apart = leads_closes p at []
leads_walk p trees done (c ∷ s) at apart =
    leads_both p (closes at c.path ++ (opens trees at c.path ++ change_calls trees f c)) (walk trees (done ++ c ∷ []) (rests_at trees f c) s)
    (leads_both p (closes at c.path) (opens trees at c.path ++ change_calls trees f c) (leads_closes p at c.path) (by c.path refl))
    (leads_walk p trees (done ++ c ∷ []) s (rests_at trees f c) (off_first _ _ apart).1)
  where
    f : Path → Option Node
    f = effect trees done

    by : (q : Path) → c.path ≡ q → Leads p (opens trees at c.path ++ change_calls trees f c)
    by [] e = leads_root trees at c p e (off_first _ _ apart).0 (of_file trees f c) (old_props trees f c)
    by (n ∷ q) e = leads_there trees at c (ap (λ z. is_front z []) e) p (off_first _ _ apart).0 (of_file trees f c) (old_props trees f c)

-- where something below the root is changed, the calls act below it
acts_in_walk : (trees : List PathMap) (done s : List Change) (c : Change) (at : Path) → is_below [] c.path ≡ true → is_front c.path [] ≡ false → list_any (acts_below []) (walk trees done at (c ∷ s)) ≡ true
acts_in_walk trees done s c at h below =
    list_any-append (acts_below []) (closes at c.path ++ (opens trees at c.path ++ change_calls trees f c)) (walk trees (done ++ c ∷ []) (rests_at trees f c) s)
    ∙ ap (λ b. b || list_any (acts_below []) (walk trees (done ++ c ∷ []) (rests_at trees f c) s))
    (list_any-append (acts_below []) (closes at c.path) (opens trees at c.path ++ change_calls trees f c)
    ∙ ap (λ b. list_any (acts_below []) (closes at c.path) || b)
    (list_any-append (acts_below []) (opens trees at c.path) (change_calls trees f c)
    ∙ ap (λ b. list_any (acts_below []) (opens trees at c.path) || b)
    (list_any-append (acts_below []) shown given ∙ ap (λ b. b || list_any (acts_below []) given) (ap (λ b. list_any (acts_below []) (cond b [] (opening trees (of_file trees f c) c))) below ∙ opening_acts [] trees (of_file trees f c) c h))
    ∙ or_yes (list_any (acts_below []) (opens trees at c.path)))
    ∙ or_yes (list_any (acts_below []) (closes at c.path)))
  where
    f : Path → Option Node
    f = effect trees done

    shown : List Call
    shown = if is_front c.path [] then [] else opening trees (of_file trees f c) c

    given : List Call
    given = if is_delete c.action then [] else parts (of_file trees f c) c (old_props trees f c)

-- ---- what a drive changes is what its set changes, or the root alone where that is nothing

not_led : (g t a : Bool) → g ≡ false → (t ≡ true → a ≡ true) → (g || (t && not a)) ≡ true → ⊥
not_led true t a e k h = cc e
not_led false true true e k h = cc h
not_led false true false e k h = not_so (k refl)
  where
    not_so : false ≡ true → ⊥
    not_so e = cc e
not_led false false a e k h = cc h

leads_drive : (p : Path) (trees : List PathMap) (c : Change) (s : List Change) → is_among (c ∷ s) p ≡ false → Leads p (drive trees (c ∷ s))
leads_drive p trees c s apart =
    record {
      nothing = inside.nothing;
      below = λ h. by (same_path [] p) refl h;
    }
  where
    body : List Call
    body = walk trees [] [] (c ∷ s) ++ (call.CloseDir [] ∷ call.CloseEdit ∷ [])

    inside : Leads p body
    inside = leads_both p (walk trees [] [] (c ∷ s)) (call.CloseDir [] ∷ call.CloseEdit ∷ []) (leads_walk p trees [] (c ∷ s) [] apart) (record { nothing = refl; below = λ e. cc })

    root : (q : Path) → c.path ≡ q → p ≡ [] → list_any (acts_below []) body ≡ true
    root [] e is = cc (same_path_itself [], ap (λ z. same_path z p) e ∙ ap (same_path []) is, (off_first (same_path c.path p) (is_among s p) apart).0)
    root (n ∷ q) e is =
        list_any-append (acts_below []) (walk trees [] [] (c ∷ s)) (call.CloseDir [] ∷ call.CloseEdit ∷ [])
        ∙ ap (λ b. b || false) (acts_in_walk trees [] s c [] (ap (is_below []) e) (ap (λ z. is_front z []) e))

    by : (b : Bool) → same_path [] p ≡ b → (b || list_any (takes p) body) ≡ true → (is_below p [] || list_any (acts_below p) body) ≡ true
    by true e h =
        let is = sym (path_of_same [] p e) in
        ap (λ b. is_below p [] || b) (ap (λ z. list_any (acts_below z) body) is ∙ root c.path refl is) ∙ or_yes (is_below p [])
    by false e h = ap (λ b. is_below p [] || b) (inside.below h) ∙ or_yes (is_below p [])

changed_among : (trees : List PathMap) (c : Change) (s : List Change) (p : Path) → is_changed (drive trees (c ∷ s)) p ≡ true → is_among (c ∷ s) p ≡ true
changed_among trees c s p h = by (is_among (c ∷ s) p) refl
  where
    by : (b : Bool) → is_among (c ∷ s) p ≡ b → b ≡ true
    by true e = refl
    by false e =
        let l = leads_drive p trees c s e in
        absurd (not_led (list_any (gives p) (drive trees (c ∷ s))) (list_any (takes p) (drive trees (c ∷ s))) (list_any (acts_below p) (drive trees (c ∷ s))) l.nothing l.below h)

changed_root : (trees : List PathMap) (p : Path) → is_changed (drive trees []) p ≡ true → p ≡ []
changed_root trees p h = sym (path_of_same [] p (by (same_path [] p) h))
  where
    by : (b : Bool) → ((b || false) && not (is_below p [] || false)) ≡ true → b ≡ true
    by true e = refl
    by false e = cc e

-- ---- how many changes that is

amid : (d : Change) (s : List Change) (x : Change) → AllByRecursion (Precedes d) s → is_among s x.path ≡ true → path_cmp d.path x.path ≡ Less
amid d [] x h e = cc e
amid d (c ∷ s) x h e =
    elim (same_path c.path x.path) as (λ b. same_path c.path x.path ≡ b → (b || is_among s x.path) ≡ true → path_cmp d.path x.path ≡ Less) [
      | true ↦ λ k _. ap (path_cmp d.path) (sym (path_of_same c.path x.path k)) ∙ h.0.rises
      | false ↦ λ k g. amid d s x h.1 g
    ] refl e

among_rest : (d : Change) (s k : List Change) → AllByRecursion (λ x. same_path d.path x.path ≡ false) k → AllByRecursion (λ x. is_among (d ∷ s) x.path ≡ true) k → AllByRecursion (λ x. is_among s x.path ≡ true) k
among_rest d s k h g = all_two k (λ x a b. sym (ap (λ z. z || is_among s x.path) a) ∙ b) h g

no_more : (s k : List Change) → IsNormal s → IsNormal k → AllByRecursion (λ x. is_among s x.path ≡ true) k → length k ≤ length s
no_more s [] n m h = omega arith
no_more [] (x ∷ k) n m h = absurd (not_yes h.0)
  where
    not_yes : false ≡ true → ⊥
    not_yes e = cc e
no_more (d ∷ s) (x ∷ k) n m h = by (same_path d.path x.path) refl (no_more s k n.2 m.2) (no_more s (x ∷ k) n.2 m)
  where
    by : (b : Bool) → same_path d.path x.path ≡ b → (AllByRecursion (λ y. is_among s y.path ≡ true) k → length k ≤ length s) → (AllByRecursion (λ y. is_among s y.path ≡ true) (x ∷ k) → suc (length k) ≤ length s) → suc (length k) ≤ suc (length s)
    by true e f g = let l = f (among_rest d s k (all_of k (λ y r. less_differs d.path y.path (ap (λ z. path_cmp z y.path) (path_of_same d.path x.path e) ∙ r.rises)) m.1) h.1) in omega (arith, l)
    by false e f g =
        let here = sym (ap (λ z. z || is_among s x.path) e) ∙ h.0 in
        let less = amid d s x n.1 here in
        let l = g (here, among_rest d s k (all_of k (λ y r. less_differs d.path y.path (paths_total.trans d.path x.path y.path less r.rises)) m.1) h.1) in
        omega (arith, l)

-- paths that are all the root are one at most
roots : (k : List Change) → IsNormal k → AllByRecursion (λ x. x.path ≡ []) k → length k ≤ 1
roots [] n h = omega arith
roots (x ∷ []) n h = omega arith
roots (x ∷ y ∷ k) n h = absurd (never (sym (λ i. path_cmp (h.0 i) (h.1.0 i)) ∙ n.1.0.rises))
  where
    never : path_cmp [] [] ≡ Less → ⊥
    never e = cc e

drive_is_small : (trees : List PathMap) (s : List Change) → IsNormal s → length s ≤ 4096 → (k : List Change) → IsNormal k → AllByRecursion (λ x. is_changed (drive trees s) x.path ≡ true) k → length k ≤ 4096
drive_is_small trees [] n l k m h = omega (arith, roots k m (all_of k (λ x e. changed_root trees x.path e) h))
drive_is_small trees (c ∷ s) n l k m h = omega (arith, l, no_more (c ∷ s) k n m (all_of k (λ x e. changed_among trees c s x.path e) h))

-- ---- one of the calls

free_amid : (trees : List PathMap) (done xs : List Call) (c : Call) (ys : List Call) → refusal_after trees done (xs ++ c ∷ ys) ≡ None → call_fault trees (done ++ xs) c ≡ None
free_amid trees done [] c ys h = ap (λ z. call_fault trees z c) (append-nil done) ∙ none_first (call_fault trees done c) (refusal_after trees (done ++ c ∷ []) ys) h
free_amid trees done (x ∷ xs) c ys h = ap (λ z. call_fault trees z c) (sym (append_assoc done (x ∷ []) xs)) ∙ free_amid trees (done ++ x ∷ []) xs c ys (none_rest (call_fault trees done x) (refusal_after trees (done ++ x ∷ []) (xs ++ c ∷ ys)) h)

-- how a run goes on to its end
record Goes (s : Stage) (xs ys : List Call) (t : Stage) : Type 0 where
  stage : Stage
  ran : run s xs ≡ Some stage
  on : run stage ys ≡ Some t

goes : (s : Stage) (xs ys : List Call) (t : Stage) → run s (xs ++ ys) ≡ Some t → Goes s xs ys t
goes s xs ys t e = at (run s xs) refl (sym (run-append s xs ys) ∙ e)
  where
    at : (o : Option Stage) → run s xs ≡ o → option_and_then (λ t. run t ys) o ≡ Some t → Goes s xs ys t
    at None h k = cc
    at (Some u) h k = record { stage = u; ran = h; on = k }

-- the end is the last call
ends : (s : Stage) (ys : List Call) → run s (call.CloseEdit ∷ ys) ≡ Some After → ys ≡ []
ends s [] e = refl
ends Before (y ∷ ys) e = cc
ends (Within []) (y ∷ ys) e = cc
ends (Within (o ∷ os)) (y ∷ ys) e = cc
ends After (y ∷ ys) e = cc

pub memory_alone : (trees : List PathMap) (s : List Change) (e : EditorFault) → IsNormal s → fault trees s ≡ None → IsDirAt (base trees) [] → AllByRecursion IsWithin s → length s ≤ 4096 → IsDriveRefusal RefusesWithin trees trees s e → e ≡ refusal.OutOfMemory
memory_alone trees s e normal none dir within few (OfMemory h) = h
memory_alone trees s e normal none dir within few (OfSet h) = cc (ap (option_map refused) none, h)
memory_alone trees s e normal none dir within few (OfEditor shown c rest is h) = at (h there.stage there.ran)
  where
    nested : run Before ((shown ++ c ∷ []) ++ rest) ≡ Some After
    nested = ap (run Before) (append_assoc shown (c ∷ []) rest ∙ sym is) ∙ nested-drive trees s normal none dir

    there : Goes Before (shown ++ c ∷ []) rest After
    there = goes Before (shown ++ c ∷ []) rest After nested

    free : call_fault trees shown c ≡ None
    free = free_amid trees [] shown c rest (ap (refusal_after trees []) (sym is) ∙ free-drive trees s normal none dir within)

    last : c ≡ call.CloseEdit → rest ≡ []
    last k = let g = goes Before shown (c ∷ rest) After (ap (run Before) (sym is) ∙ nested-drive trees s normal none dir) in ends g.stage rest (ap (λ z. run g.stage (z ∷ rest)) (sym k) ∙ g.on)

    whole : c ≡ call.CloseEdit → drive trees s ≡ shown ++ call.CloseEdit ∷ []
    whole k = is ∙ (λ i. shown ++ k i ∷ last k i)

    at : IsCallRefusal trees shown c e → e ≡ refusal.OutOfMemory
    at (faults.OfMemory m) = m
    at (faults.OfCall k) = cc (free, k)
    at (faults.OfSize k big large) = absurd (never (drive_is_small trees s normal few large.set large.normal (all_of large.set (λ x d. ap (λ z. is_changed z x.path) (whole k) ∙ change_end shown x.path ∙ d) large.changed)) large.many)
      where
        never : length large.set ≤ 4096 → 4096 < length large.set → ⊥
        never l m = omega (arith, l, m)
