-- What one call more asks for at a path.
use Rattle.std.proofs.Common.{◌≡◌, Bool, true, false, cond, not, ◌&&◌, ◌||◌, List, [], ◌∷◌, ◌++◌, Option, Some, None, is_some, refl, sym, ap, subst, ◌∙◌}
use Rattle.std.specs.Prelude.{unwrap_or}
use Rattle.std.specs.Option.{option_map, option_map_or, option_or, option_and_then}
use Rattle.std.specs.FinMap as finite
use Rattle.std.specs.List.{list_any}
use Rattle.std.proofs.lemmas.List.Folds.{list_any-append}
use Rattle.node_base.specs.Path.{Path, same_path}
use Rattle.node_base.proofs.PathLemmas.{same_path_itself, path_of_same}
use Rattle.node_base.specs.declared.node.Action.{Action}
use Rattle.node_base.specs.declared.node.Action.TheVariants.{Modify, Add, Delete, Replace}
use Rattle.node_base.specs.declared.node.Node.{Node}
use Rattle.dump_load.specs.declared.change.Change.{Change}
use Rattle.dump_load.specs.Changes.{settles, is_delete, is_add, brings, change_at}
use Rattle.node_base.specs.Tree.{PathMap}
use Rattle.delta_editor.specs.CallEffect.{call_effect}
use Rattle.delta_editor.specs.declared.call.Call.{Call}
use Rattle.delta_editor.specs.declared.call.Call.TheVariants as call
use Rattle.editor_ends.specs.Asked.{removes, deletes, adds, kind_at, source_at, tells_props, tells_text, last_of, IsAsked}
use Rattle.editor_ends.specs.BuildFaults.{begun}
use Rattle.editor_ends.specs.Built.{is_taken, BeginsAt, First, Again, AskedAt, AreBare, IsBlank, AreBlank, IsFilledOf}
use Rattle.editor_ends.proofs.Filled.{Nodes, or_no}

pub or_none : {A : Type 0} (o : Option A) → option_or o None ≡ o
or_none None = refl
or_none (Some x) = refl

pub or_assoc : {A : Type 0} (a b c : Option A) → option_or a (option_or b c) ≡ option_or (option_or a b) c
or_assoc None b c = refl
or_assoc (Some x) b c = refl

pub last_of-end : {A : Type 0} (said : Call → Option A) (calls : List Call) (c : Call) → last_of said (calls ++ c ∷ []) ≡ option_or (said c) (last_of said calls)
last_of-end said [] c = sym (or_none (said c))
last_of-end said (d ∷ cs) c = ap (λ o. option_or o (said d)) (last_of-end said cs c) ∙ sym (or_assoc (said c) (last_of said cs) (said d))

-- the change of a path before a call and after it
pub record AskedStep (c : Call) (p : Path) (old new : Option Change) : Type 0 where
  pub deleted : option_map_or (λ x. removes x.action) new false ≡ (option_map_or (λ x. removes x.action) old false || deletes p c)
  pub added : option_map_or brings new false ≡ (option_map_or brings old false || adds p c)
  pub kind_is : option_and_then (λ (x : Change). x.kind) new ≡ option_or (kind_at p c) (option_and_then (λ (x : Change). x.kind) old)
  pub source_is : option_and_then (λ (x : Change). x.source) new ≡ option_or (source_at p c) (option_and_then (λ (x : Change). x.source) old)
  pub props_told : option_map_or (λ x. is_some x.props) new false ≡ (option_map_or (λ x. is_some x.props) old false || tells_props p c)
  pub text_told : option_map_or (λ x. is_some x.text) new false ≡ (option_map_or (λ x. is_some x.text) old false || tells_text p c)

pub one_more : (calls : List Call) (c : Call) (p : Path) (old new : Option Change) → AskedAt calls p old → AskedStep c p old new → AskedAt (calls ++ c ∷ []) p new
one_more calls c p old new b s = record {
  deleted = s.deleted ∙ any (deletes p) b.deleted;
  added = s.added ∙ any (adds p) b.added;
  kind_is = s.kind_is ∙ ap (option_or (kind_at p c)) b.kind_is ∙ sym (last_of-end (kind_at p) calls c);
  source_is = s.source_is ∙ ap (option_or (source_at p c)) b.source_is ∙ sym (last_of-end (source_at p) calls c);
  props_told = s.props_told ∙ any (tells_props p) b.props_told;
  text_told = s.text_told ∙ any (tells_text p) b.text_told;
}
  where
    any : (test : Call → Bool) {w : Bool} → w ≡ list_any test calls → (w || test c) ≡ list_any test (calls ++ c ∷ [])
    any test e = (λ i. e i || sym (or_no (test c)) i) ∙ sym (list_any-append test calls (c ∷ []))

-- ---- a call that asks for nothing at a path

pub record AsksNothing (c : Call) (p : Path) : Type 0 where
  pub deleted : deletes p c ≡ false
  pub added : adds p c ≡ false
  pub kind_is : kind_at p c ≡ None
  pub source_is : source_at p c ≡ None
  pub props_told : tells_props p c ≡ false
  pub text_told : tells_text p c ≡ false

pub stays : (c : Call) (p : Path) (old new : Option Change) → AsksNothing c p → new ≡ old → AskedStep c p old new
stays c p old new n e = subst (AskedStep c p old) (sym e) (record {
  deleted = no (option_map_or (λ x. removes x.action) old false) n.deleted;
  added = no (option_map_or brings old false) n.added;
  kind_is = none (option_and_then (λ (x : Change). x.kind) old) n.kind_is;
  source_is = none (option_and_then (λ (x : Change). x.source) old) n.source_is;
  props_told = no (option_map_or (λ x. is_some x.props) old false) n.props_told;
  text_told = no (option_map_or (λ x. is_some x.text) old false) n.text_told;
})
  where
    no : (w : Bool) {t : Bool} → t ≡ false → w ≡ (w || t)
    no w e = sym (ap (λ b. w || b) e ∙ or_no w)

    none : {A : Type 0} (o : Option A) {t : Option A} → t ≡ None → o ≡ option_or t o
    none o e = sym (ap (λ z. option_or z o) e)

-- ---- a call that begins a change

pub record AsksFor (c : Call) (x : Change) : Type 0 where
  pub deleted : (p : Path) → deletes p c ≡ (same_path x.path p && removes x.action)
  pub added : (p : Path) → adds p c ≡ (same_path x.path p && brings x)
  pub kind_is : (p : Path) → kind_at p c ≡ cond (same_path x.path p) x.kind None
  pub source_is : (p : Path) → source_at p c ≡ cond (same_path x.path p) x.source None
  pub props_told : (p : Path) → tells_props p c ≡ (same_path x.path p && is_some x.props)
  pub text_told : (p : Path) → tells_text p c ≡ (same_path x.path p && is_some x.text)
  pub bare : is_delete x.action ≡ true → x ≡ begun Delete None x.path None
  pub blank : IsBlank x

brought : (a : Action) → is_add a ≡ true → (settles a && not (is_delete a)) ≡ true
brought Modify e = cc
brought Add e = refl
brought Delete e = cc
brought Replace e = cc

module _ (c : Call) (x : Change) (f : AsksFor c x) (s new : List Change) (bare : AreBare s) (blank : AreBlank s) (at : BeginsAt s new x) (elsewhere : (p : Path) → same_path x.path p ≡ false → change_at new p ≡ change_at s p) where
  not_here : (p : Path) → same_path x.path p ≡ false → AsksNothing c p
  not_here p e = record {
    deleted = f.deleted p ∙ ap (λ b. b && removes x.action) e;
    added = f.added p ∙ ap (λ b. b && brings x) e;
    kind_is = f.kind_is p ∙ ap (λ b. cond b x.kind None) e;
    source_is = f.source_is p ∙ ap (λ b. cond b x.source None) e;
    props_told = f.props_told p ∙ ap (λ b. b && is_some x.props) e;
    text_told = f.text_told p ∙ ap (λ b. b && is_some x.text) e;
  }

  own : Bool
  own = same_path x.path x.path

  -- where there was none, or a deletion, which says nothing else
  first : (old new : Option Change) → old ≡ None → new ≡ Some x → AskedStep c x.path old new
  first old new o n = subst (λ z. AskedStep c x.path z new) (sym o) (subst (AskedStep c x.path None) (sym n) (record {
    deleted = sym (f.deleted x.path ∙ ap (λ b. b && removes x.action) (same_path_itself x.path));
    added = sym (f.added x.path ∙ ap (λ b. b && brings x) (same_path_itself x.path));
    kind_is = sym (or_none (kind_at x.path c) ∙ f.kind_is x.path ∙ ap (λ b. cond b x.kind None) (same_path_itself x.path));
    source_is = sym (or_none (source_at x.path c) ∙ f.source_is x.path ∙ ap (λ b. cond b x.source None) (same_path_itself x.path));
    props_told = sym (f.props_told x.path ∙ ap (λ b. b && is_some x.props) (same_path_itself x.path));
    text_told = sym (f.text_told x.path ∙ ap (λ b. b && is_some x.text) (same_path_itself x.path));
  }))

  again : (old new : Option Change) → is_add x.action ≡ true → old ≡ Some (begun Delete None x.path None) → new ≡ Some (record x { action = Replace }) → AskedStep c x.path old new
  again old new add o n = subst (λ z. AskedStep c x.path z new) (sym o) (subst (AskedStep c x.path (Some (begun Delete None x.path None))) (sym n) (record {
    deleted = refl;
    added = sym (f.added x.path ∙ ap (λ b. b && brings x) (same_path_itself x.path) ∙ brought x.action add);
    kind_is = sym (or_none (kind_at x.path c) ∙ f.kind_is x.path ∙ ap (λ b. cond b x.kind None) (same_path_itself x.path));
    source_is = sym (or_none (source_at x.path c) ∙ f.source_is x.path ∙ ap (λ b. cond b x.source None) (same_path_itself x.path));
    props_told = sym (f.props_told x.path ∙ ap (λ b. b && is_some x.props) (same_path_itself x.path));
    text_told = sym (f.text_told x.path ∙ ap (λ b. b && is_some x.text) (same_path_itself x.path));
  }))

  here : BeginsAt s new x → AskedStep c x.path (change_at s x.path) (change_at new x.path)
  here (First o n) = first (change_at s x.path) (change_at new x.path) o n
  here (Again d o gone add n) = again (change_at s x.path) (change_at new x.path) add (o ∙ ap Some (bare x.path d o gone)) n

  pub begun_step : (p : Path) → AskedStep c p (change_at s p) (change_at new p)
  begun_step p =
      elim (same_path x.path p) as (λ b. same_path x.path p ≡ b → AskedStep c p (change_at s p) (change_at new p)) [
        | true ↦ λ e. subst (λ q. AskedStep c q (change_at s q) (change_at new q)) (path_of_same x.path p e) (here at)
        | false ↦ λ e. stays c p (change_at s p) (change_at new p) (not_here p e) (elsewhere p e)
      ] refl

  some_is : (a b : Change) → Some a ≡ Some b → a ≡ b
  some_is a b e = cc

  bare_here : BeginsAt s new x → (d : Change) → change_at new x.path ≡ Some d → is_delete d.action ≡ true → d ≡ begun Delete None x.path None
  bare_here (First o n) d e gone = let same = some_is x d (sym n ∙ e) in sym same ∙ f.bare (ap (λ z. is_delete z.action) same ∙ gone)
  bare_here (Again b o k add n) d e gone = cc (ap (λ z. is_delete z.action) (some_is (record x { action = Replace }) d (sym n ∙ e)) ∙ gone)

  pub begun_bare : AreBare new
  begun_bare p d e gone =
      elim (same_path x.path p) as (λ b. same_path x.path p ≡ b → d ≡ begun Delete None p None) [
        | true ↦ λ k. subst (λ q. change_at new q ≡ Some d → d ≡ begun Delete None q None) (path_of_same x.path p k) (λ h. bare_here at d h gone) e
        | false ↦ λ k. bare p d (sym (elsewhere p k) ∙ e) gone
      ] refl

  blank_here : BeginsAt s new x → (d : Change) → change_at new x.path ≡ Some d → IsBlank d
  blank_here (First o n) d e = subst IsBlank (some_is x d (sym n ∙ e)) f.blank
  blank_here (Again b o k add n) d e = subst IsBlank (some_is (record x { action = Replace }) d (sym n ∙ e)) (record { props_are = f.blank.props_are; text_is = f.blank.text_is })

  pub begun_blank : AreBlank new
  begun_blank p d e =
      elim (same_path x.path p) as (λ b. same_path x.path p ≡ b → IsBlank d) [
        | true ↦ λ k. blank_here at d (ap (change_at new) (path_of_same x.path p k) ∙ e)
        | false ↦ λ k. blank p d (sym (elsewhere p k) ∙ e)
      ] refl

-- ---- a call that gives something to what is open

pub record Tells (c : Call) (p : Path) (k : Change → Change) (props text : Bool) : Type 0 where
  pub deleted : (q : Path) → deletes q c ≡ false
  pub added : (q : Path) → adds q c ≡ false
  pub kind_is : (q : Path) → kind_at q c ≡ None
  pub source_is : (q : Path) → source_at q c ≡ None
  pub props_told : (q : Path) → tells_props q c ≡ (same_path p q && props)
  pub text_told : (q : Path) → tells_text q c ≡ (same_path p q && text)
  pub same_action : (d : Change) → (k d).action ≡ d.action
  pub same_kind : (d : Change) → (k d).kind ≡ d.kind
  pub same_source : (d : Change) → (k d).source ≡ d.source
  pub props_are : (d : Change) → is_some (k d).props ≡ (is_some d.props || props)
  pub text_is : (d : Change) → is_some (k d).text ≡ (is_some d.text || text)
  pub blank : (d : Change) → IsBlank d → IsBlank (k d)

module _ (c : Call) (p : Path) (k : Change → Change) (props text : Bool) (f : Tells c p k props text) (s new : List Change) (bare : AreBare s) (blank : AreBlank s) (taken : is_taken s p ≡ true) (became : (q : Path) → change_at new q ≡ option_map (λ d. cond (same_path p q) (k d) d) (change_at s q)) where
  apart : (q : Path) → same_path p q ≡ false → change_at new q ≡ change_at s q
  apart q e = became q ∙ ap (λ b. option_map (λ d. cond b (k d) d) (change_at s q)) e ∙ kept (change_at s q)
    where
      kept : (o : Option Change) → option_map (λ d. d) o ≡ o
      kept None = refl
      kept (Some d) = refl

  given_here : change_at new p ≡ option_map k (change_at s p)
  given_here = became p ∙ ap (λ b. option_map (λ d. cond b (k d) d) (change_at s p)) (same_path_itself p)

  given : (o n : Option Change) → option_map_or (λ (d : Change). not (is_delete d.action)) o false ≡ true → n ≡ option_map k o → AskedStep c p o n
  given None n h e = cc h
  given (Some d) n h e = subst (AskedStep c p (Some d)) (sym e) (record {
    deleted = ap removes (f.same_action d) ∙ sym (ap (λ b. removes d.action || b) (f.deleted p) ∙ or_no (removes d.action));
    added = ap (λ a. settles a && not (is_delete a)) (f.same_action d) ∙ sym (ap (λ b. brings d || b) (f.added p) ∙ or_no (brings d));
    kind_is = f.same_kind d ∙ sym (ap (λ z. option_or z d.kind) (f.kind_is p));
    source_is = f.same_source d ∙ sym (ap (λ z. option_or z d.source) (f.source_is p));
    props_told = f.props_are d ∙ sym (ap (λ b. is_some d.props || b) (f.props_told p ∙ ap (λ b. b && props) (same_path_itself p)));
    text_told = f.text_is d ∙ sym (ap (λ b. is_some d.text || b) (f.text_told p ∙ ap (λ b. b && text) (same_path_itself p)));
  })

  pub given_step : (q : Path) → AskedStep c q (change_at s q) (change_at new q)
  given_step q =
      elim (same_path p q) as (λ b. same_path p q ≡ b → AskedStep c q (change_at s q) (change_at new q)) [
        | true ↦ λ e. subst (λ r. AskedStep c r (change_at s r) (change_at new r)) (path_of_same p q e) (given (change_at s p) (change_at new p) taken given_here)
        | false ↦ λ e.
            stays c q (change_at s q) (change_at new q)
            (record { deleted = f.deleted q; added = f.added q; kind_is = f.kind_is q; source_is = f.source_is q; props_told = f.props_told q ∙ ap (λ b. b && props) e; text_told = f.text_told q ∙ ap (λ b. b && text) e })
            (apart q e)
      ] refl

  no_deletion : (o : Option Change) (d : Change) → option_map_or (λ (x : Change). not (is_delete x.action)) o false ≡ true → option_map k o ≡ Some d → is_delete d.action ≡ true → d ≡ begun Delete None p None
  no_deletion None d h e gone = cc
  no_deletion (Some b) d h e gone = cc (ap is_delete (sym (f.same_action b)), ap (λ z. option_map_or (λ (x : Change). is_delete x.action) z false) e, gone)

  pub given_bare : AreBare new
  given_bare q d e gone =
      elim (same_path p q) as (λ b. same_path p q ≡ b → d ≡ begun Delete None q None) [
        | true ↦ λ h. subst (λ r. change_at new r ≡ Some d → d ≡ begun Delete None r None) (path_of_same p q h) (λ n. no_deletion (change_at s p) d taken (sym given_here ∙ n) gone) e
        | false ↦ λ h. bare q d (sym (apart q h) ∙ e) gone
      ] refl

  became_blank : (o : Option Change) → change_at s p ≡ o → (d : Change) → option_map k o ≡ Some d → IsBlank d
  became_blank None e d h = cc h
  became_blank (Some b) e d h = subst IsBlank (some_same (k b) d h) (f.blank b (blank p b e))
    where
      some_same : (a b : Change) → Some a ≡ Some b → a ≡ b
      some_same a b e = cc

  pub given_blank : AreBlank new
  given_blank q d e =
      elim (same_path p q) as (λ b. same_path p q ≡ b → IsBlank d) [
        | true ↦ λ h. became_blank (change_at s p) refl d (sym given_here ∙ (ap (change_at new) (path_of_same p q h) ∙ e))
        | false ↦ λ h. blank q d (sym (apart q h) ∙ e)
      ] refl

-- ---- the end

-- what is given is what is filled in, where it is given
filled_in : {A : Type 0} (o : Option A) (b : Bool) (blank : A) (g : A → A) → is_some o ≡ b → o ≡ option_map (λ _. blank) o → option_map g o ≡ cond b (Some (g blank)) None
filled_in None b blank g told is = ap (λ z. cond z (Some (g blank)) None) told
filled_in (Some x) b blank g told is = ap (option_map g) is ∙ ap (λ z. cond z (Some (g blank)) None) told

-- a change that is filled in is what its stem was asked for, and the end of the edit asks for nothing
pub asked_end : (trees : List PathMap) (calls : List Call) (s : List Change) (f : Nodes) (c : Change) → ((p : Path) → AskedAt calls p (change_at s p)) → AreBlank s → ((q : Path) → f q ≡ call_effect trees (calls ++ call.CloseEdit ∷ []) q) → IsFilledOf f s c → IsAsked trees (calls ++ call.CloseEdit ∷ []) c
asked_end trees calls s f c b blank nodes stem =
    let a = one_more calls call.CloseEdit c.path (Some stem.stem) (Some stem.stem) (subst (AskedAt calls c.path) stem.at (b c.path)) (stays call.CloseEdit c.path (Some stem.stem) (Some stem.stem) (record { deleted = refl; added = refl; kind_is = refl; source_is = refl; props_told = refl; text_told = refl }) refl) in
    let k = blank c.path stem.stem stem.at in
    let node : f stem.stem.path ≡ call_effect trees (calls ++ call.CloseEdit ∷ []) c.path = ap f (sym (ap (λ z. z.path) stem.is)) ∙ nodes c.path in
    record {
      deleted = ap (λ z. removes z.action) stem.is ∙ a.deleted;
      added = ap brings stem.is ∙ a.added;
      kind_is = ap (λ z. z.kind) stem.is ∙ a.kind_is;
      source_is = ap (λ z. z.source) stem.is ∙ a.source_is;
      props_are = ap (λ z. z.props) stem.is ∙ filled_in stem.stem.props _ finite.empty (λ m. option_map_or (λ x. x.props) (f stem.stem.path) m) a.props_told k.props_are ∙ ap (λ o. cond (list_any (tells_props c.path) (calls ++ call.CloseEdit ∷ [])) (Some (option_map_or (λ (x : Node). x.props) o finite.empty)) None) node;
      text_is = ap (λ z. z.text) stem.is ∙ filled_in stem.stem.text _ [] (λ t. option_map_or (λ x. unwrap_or x.text t) (f stem.stem.path) t) a.text_told k.text_is ∙ ap (λ o. cond (list_any (tells_text c.path) (calls ++ call.CloseEdit ∷ [])) (Some (option_map_or (λ (x : Node). unwrap_or x.text []) o [])) None) node;
    }
