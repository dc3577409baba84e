-- What is stated of one path comes together, change by change.
use Rattle.std.proofs.Common.{◌≡◌, Bool, true, false, cond, not, ◌&&◌, ◌||◌, List, [], ◌∷◌, ◌++◌, Option, Some, None, is_some, refl, sym, ap, subst, ◌∙◌, append-nil, append_assoc}
use Rattle.std.specs.Option.{is_none, option_map_or}
use Rattle.std.specs.Ordering.{is_lt}
use Rattle.std.specs.declared.cmp.Ordering.TheVariants.{Less}
use Rattle.std.specs.List.{list_any, AllByRecursion}
use Rattle.std.proofs.lemmas.List.Elements.{filter-append}
use Rattle.node_base.specs.Path.{Path, path_cmp, paths_total, same_path, is_front}
use Rattle.node_base.proofs.PathLemmas.{path_of_same, same_path_itself, later_is_no_front}
use Rattle.dump_load.specs.declared.change.Change.{Change}
use Rattle.dump_load.specs.Changes.{is_delete, is_add, change_at, Precedes, Follows, NoneFalls, IsInOrder}
use Rattle.dump_load.specs.Records.{stated_at, replacing, combined, stated, Combined, is_under, is_out_of_order}
use Rattle.dump_load.proofs.PathOrder.{no_front_none, greater_differs, less_of, between}
use Rattle.dump_load.proofs.OneMore.{change_at-end, change_at-after}

-- ---- what is stated, with one more

pub stated_at-end : (ys : List Change) (c : Change) (p : Path) → stated_at (ys ++ c ∷ []) p ≡ stated_at ys p ++ cond (same_path c.path p) (c ∷ []) []
stated_at-end ys c p = filter-append (λ c. same_path c.path p) ys (c ∷ [])

stated-other : (ys : List Change) (c : Change) (p : Path) → same_path c.path p ≡ false → stated_at (ys ++ c ∷ []) p ≡ stated_at ys p
stated-other ys c p e = stated_at-end ys c p ∙ ap (λ b. stated_at ys p ++ cond b (c ∷ []) []) e ∙ append-nil (stated_at ys p)

stated-same : (ys : List Change) (c : Change) (p : Path) → same_path c.path p ≡ true → stated_at (ys ++ c ∷ []) p ≡ stated_at ys p ++ c ∷ []
stated-same ys c p e = stated_at-end ys c p ∙ ap (λ b. stated_at ys p ++ cond b (c ∷ []) []) e

-- one more after what is one change already
one_more : (xs : List Change) (l c : Change) → combined xs ≡ Some l → combined (xs ++ c ∷ []) ≡ cond (is_delete l.action && is_add c.action) (Some (replacing c)) None
one_more [] l c e = cc
one_more (d ∷ []) l c e =
    let same : d ≡ l = cc in
    ap (λ (d : Change). cond (is_delete d.action && is_add c.action) (Some (replacing c)) None) same
one_more (d ∷ a ∷ []) l c e =
    elim (is_delete d.action && is_add a.action) as (λ b. cond b (Some (replacing a)) None ≡ Some l → ◌≡◌ {A = Option Change} None (cond (is_delete l.action && is_add c.action) (Some (replacing c)) None)) [
      | true ↦ λ e. let same : replacing a ≡ l = cc in ap (λ (l : Change). cond (is_delete l.action && is_add c.action) (Some (replacing c)) None) same
      | false ↦ λ e. cc
    ] e
one_more (d ∷ a ∷ b ∷ xs) l c e = cc

-- what doesn't combine does so with nothing behind it
stays_none : (x : Change) (xs zs : List Change) → combined (x ∷ xs) ≡ None → combined ((x ∷ xs) ++ zs) ≡ None
stays_none x [] zs e = cc
stays_none x (y ∷ []) [] e = e
stays_none x (y ∷ []) (z ∷ zs) e = refl
stays_none x (y ∷ w ∷ xs) zs e = refl

-- ---- changes in order

pub order_follows : (s rest : List Change) (c : Change) → IsInOrder (s ++ c ∷ rest) → Follows s c
order_follows [] rest c h = tt
order_follows (d ∷ s) rest c h = (precedes_in d c s rest h.0, order_follows s rest c h.1)
  where
    precedes_in : (d c : Change) (s rest : List Change) → AllByRecursion (Precedes d) (s ++ c ∷ rest) → Precedes d c
    precedes_in d c [] rest h = h.0
    precedes_in d c (e ∷ s) rest h = precedes_in d c s rest h.1

order_front : (s : List Change) (c : Change) → IsInOrder (s ++ c ∷ []) → IsInOrder s
order_front [] c h = tt
order_front (d ∷ s) c h = (all_front s h.0, order_front s c h.1)
  where
    all_front : (s : List Change) → AllByRecursion (Precedes d) (s ++ c ∷ []) → AllByRecursion (Precedes d) s
    all_front [] h = tt
    all_front (e ∷ s) h = (h.0, all_front s h.1)

pub order_end : (s : List Change) (c : Change) → IsInOrder s → Follows s c → IsInOrder (s ++ c ∷ [])
order_end [] c h f = (tt, tt)
order_end (d ∷ s) c h f = (all_end s h.0, order_end s c h.1 f.1)
  where
    all_end : (s : List Change) → AllByRecursion (Precedes d) s → AllByRecursion (Precedes d) (s ++ c ∷ [])
    all_end [] h = (f.0, tt)
    all_end (e ∷ s) h = (h.0, all_end s h.1)

-- what stands before one path stands before one that comes later
pub follows_later : (s : List Change) (l c : Change) → path_cmp l.path c.path ≡ Less → Follows s l → Follows s c
follows_later [] l c less h = tt
follows_later (d ∷ s) l c less h = (
  record {
    rises = paths_total.trans d.path l.path c.path h.0.rises less;
    stands = λ del. ap is_some (between d.path l.path c.path h.0.rises less (no_front_none d.path l.path (h.0.stands del)));
  },
  follows_later s l c less h.1,
)

pub follows_same : (s : List Change) (l c : Change) → l.path ≡ c.path → Follows s l → Follows s c
follows_same [] l c e h = tt
follows_same (d ∷ s) l c e h = (record { rises = ap (path_cmp d.path) (sym e) ∙ h.0.rises; stands = λ del. ap (is_front d.path) (sym e) ∙ h.0.stands del }, follows_same s l c e h.1)

pub follows_end : (s : List Change) (l c : Change) → Follows s c → Precedes l c → Follows (s ++ l ∷ []) c
follows_end [] l c h p = (p, tt)
follows_end (d ∷ s) l c h p = (h.0, follows_end s l c h.1 p)

-- ---- path order of what is stated

pub none_after : (ys rest : List Change) (c : Change) → NoneFalls (ys ++ c ∷ rest) → AllByRecursion (λ d. is_lt (path_cmp c.path d.path) ≡ false) ys
none_after [] rest c h = tt
none_after (d ∷ ys) rest c h = (falls_in ys h.0, none_after ys rest c h.1)
  where
    falls_in : (ys : List Change) → AllByRecursion (λ e. is_lt (path_cmp e.path d.path) ≡ false) (ys ++ c ∷ rest) → is_lt (path_cmp c.path d.path) ≡ false
    falls_in [] h = h.0
    falls_in (e ∷ ys) h = falls_in ys h.1

none_before : (ys rest : List Change) (c : Change) → NoneFalls (ys ++ c ∷ rest) → AllByRecursion (λ d. is_lt (path_cmp d.path c.path) ≡ false) rest
none_before [] rest c h = h.0
none_before (d ∷ ys) rest c h = none_before ys rest c h.1

-- a path that is named doesn't come after
named_not_after : (ys : List Change) (c : Change) (p : Path) → AllByRecursion (λ d. is_lt (path_cmp c.path d.path) ≡ false) ys → (stated_at ys p ≡ [] → ⊥) → is_lt (path_cmp c.path p) ≡ false
named_not_after [] c p h some = absurd (some refl)
named_not_after (d ∷ ys) c p h some =
    elim (same_path d.path p) as (λ b. same_path d.path p ≡ b → (cond b (d ∷ stated_at ys p) (stated_at ys p) ≡ [] → ⊥) → is_lt (path_cmp c.path p) ≡ false) [
      | true ↦ λ e _. ap (λ q. is_lt (path_cmp c.path q)) (sym (path_of_same d.path p e)) ∙ h.0
      | false ↦ λ e some. named_not_after ys c p h.1 some
    ] refl some

none_stated : (rest : List Change) (c : Change) (p : Path) → path_cmp p c.path ≡ Less → AllByRecursion (λ d. is_lt (path_cmp d.path c.path) ≡ false) rest → stated_at rest p ≡ []
none_stated [] c p less h = refl
none_stated (d ∷ rest) c p less h =
    elim (same_path d.path p) as (λ b. same_path d.path p ≡ b → cond b (d ∷ stated_at rest p) (stated_at rest p) ≡ []) [
      | true ↦ λ e. absurd (apart (path_of_same d.path p e))
      | false ↦ λ e. none_stated rest c p less h.1
    ] refl
  where
    apart : d.path ≡ p → ⊥
    apart e = cc (ap is_lt less, ap (λ q. is_lt (path_cmp q c.path)) e, h.0)

-- ---- one more change

at_last : (front : List Change) (last : Change) (p : Path) → IsInOrder (front ++ last ∷ []) → same_path last.path p ≡ true → change_at (front ++ last ∷ []) p ≡ Some last
at_last front last p h e = change_at-end last front (order_follows front [] last h) p ∙ ap (λ b. cond b (Some last) (change_at front p)) e

module _ (ys : List Change) (c : Change) where
  pub taken_first : Combined ys [] → Combined (ys ++ c ∷ []) (c ∷ [])
  taken_first w = record { order = (tt, tt); changes = changes; known = known }
    where
      nothing : (p : Path) → stated_at ys p ≡ []
      nothing p = w.known p (sym (w.changes p))

      at : (p : Path) → stated_at (ys ++ c ∷ []) p ≡ cond (same_path c.path p) (c ∷ []) []
      at p = stated_at-end ys c p ∙ ap (λ xs. xs ++ cond (same_path c.path p) (c ∷ []) []) (nothing p)

      changes : (p : Path) → change_at (c ∷ []) p ≡ stated (ys ++ c ∷ []) p
      changes p = elim (same_path c.path p) as (λ b. cond b (Some c) None ≡ combined (cond b (c ∷ []) [])) [ true ↦ refl | false ↦ refl ] ∙ ap combined (sym (at p))

      known : (p : Path) → stated (ys ++ c ∷ []) p ≡ None → stated_at (ys ++ c ∷ []) p ≡ []
      known p e =
          at p ∙ elim (same_path c.path p) as (λ b. combined (cond b (c ∷ []) []) ≡ None → cond b (c ∷ []) [] ≡ []) [ true ↦ λ e. cc | false ↦ λ e. refl ] (ap combined (sym (at p)) ∙ e)

  module _ (front : List Change) (last : Change) (w : Combined ys (front ++ last ∷ [])) where
    last_is : (p : Path) → same_path last.path p ≡ true → stated ys p ≡ Some last
    last_is p e = sym (w.changes p) ∙ at_last front last p w.order e

    again : same_path last.path c.path ≡ true → stated (ys ++ c ∷ []) c.path ≡ cond (is_delete last.action && is_add c.action) (Some (replacing c)) None
    again e = ap combined (stated-same ys c c.path (same_path_itself c.path)) ∙ one_more (stated_at ys c.path) last c (last_is c.path e)

    pub taken_again : same_path last.path c.path ≡ true → (is_delete last.action && is_add c.action) ≡ true → Combined (ys ++ c ∷ []) (front ++ replacing c ∷ [])
    taken_again e t = record { order = order_end front (replacing c) (order_front front last w.order) follows; changes = changes; known = known }
      where
        follows : Follows front (replacing c)
        follows = follows_same front last (replacing c) (path_of_same last.path c.path e) (order_follows front [] last w.order)

        here : stated (ys ++ c ∷ []) c.path ≡ Some (replacing c)
        here = again e ∙ ap (λ b. cond b (Some (replacing c)) None) t

        changes : (p : Path) → change_at (front ++ replacing c ∷ []) p ≡ stated (ys ++ c ∷ []) p
        changes p =
            change_at-end (replacing c) front follows p
            ∙ elim (same_path c.path p) as (λ b. same_path c.path p ≡ b → cond b (Some (replacing c)) (change_at front p) ≡ stated (ys ++ c ∷ []) p) [
              | true ↦ λ s. sym here ∙ ap (stated (ys ++ c ∷ [])) (path_of_same c.path p s)
              | false ↦ λ s.
                  let other : same_path last.path p ≡ false = ap (λ q. same_path q p) (path_of_same last.path c.path e) ∙ s in
                  sym (change_at-end last front (order_follows front [] last w.order) p ∙ ap (λ b. cond b (Some last) (change_at front p)) other)
                  ∙ w.changes p ∙ ap combined (sym (stated-other ys c p s))
            ] refl

        known : (p : Path) → stated (ys ++ c ∷ []) p ≡ None → stated_at (ys ++ c ∷ []) p ≡ []
        known p none =
            elim (same_path c.path p) as (λ b. same_path c.path p ≡ b → stated_at (ys ++ c ∷ []) p ≡ []) [
              | true ↦ λ s. cc (here, ap (stated (ys ++ c ∷ [])) (path_of_same c.path p s), none)
              | false ↦ λ s. stated-other ys c p s ∙ w.known p (ap combined (sym (stated-other ys c p s)) ∙ none)
            ] refl

    rises : AllByRecursion (λ d. is_lt (path_cmp c.path d.path) ≡ false) ys → same_path last.path c.path ≡ false → path_cmp last.path c.path ≡ Less
    rises h d = less_of last.path c.path (named_not_after ys c last.path h named) d
      where
        named : stated_at ys last.path ≡ [] → ⊥
        named e = cc (ap combined e, last_is last.path (same_path_itself last.path))

    pub taken_next : (rest : List Change) → NoneFalls (ys ++ c ∷ rest) → same_path last.path c.path ≡ false → (is_delete last.action && is_front last.path c.path) ≡ false → Combined (ys ++ c ∷ []) ((front ++ last ∷ []) ++ c ∷ [])
    taken_next rest up d free = record { order = order_end (front ++ last ∷ []) c w.order follows; changes = changes; known = known }
      where
        less : path_cmp last.path c.path ≡ Less
        less = rises (none_after ys rest c up) d

        stands : (a b : Bool) → (a && b) ≡ false → a ≡ true → b ≡ false
        stands true b h e = h
        stands false b h e = cc

        follows : Follows (front ++ last ∷ []) c
        follows = follows_end front last c (follows_later front last c less (order_follows front [] last w.order)) (record { rises = less; stands = stands (is_delete last.action) (is_front last.path c.path) free })

        nothing : stated_at ys c.path ≡ []
        nothing = w.known c.path (sym (w.changes c.path) ∙ ap (change_at (front ++ last ∷ [])) (sym (append-nil c.path)) ∙ change_at-after c (front ++ last ∷ []) follows [])

        changes : (p : Path) → change_at ((front ++ last ∷ []) ++ c ∷ []) p ≡ stated (ys ++ c ∷ []) p
        changes p =
            change_at-end c (front ++ last ∷ []) follows p
            ∙ elim (same_path c.path p) as (λ b. same_path c.path p ≡ b → cond b (Some c) (change_at (front ++ last ∷ []) p) ≡ stated (ys ++ c ∷ []) p) [
              | true ↦ λ s. sym (ap combined (stated-same ys c p s ∙ ap (λ xs. xs ++ c ∷ []) (ap (stated_at ys) (sym (path_of_same c.path p s)) ∙ nothing)))
              | false ↦ λ s. w.changes p ∙ ap combined (sym (stated-other ys c p s))
            ] refl

        known : (p : Path) → stated (ys ++ c ∷ []) p ≡ None → stated_at (ys ++ c ∷ []) p ≡ []
        known p none =
            elim (same_path c.path p) as (λ b. same_path c.path p ≡ b → stated_at (ys ++ c ∷ []) p ≡ []) [
              | true ↦ λ s. cc (ap combined (stated-same ys c p s ∙ ap (λ xs. xs ++ c ∷ []) (ap (stated_at ys) (sym (path_of_same c.path p s)) ∙ nothing)), none)
              | false ↦ λ s. stated-other ys c p s ∙ w.known p (ap combined (sym (stated-other ys c p s)) ∙ none)
            ] refl

-- ---- what is out of order

-- a test that each element fails
pub none_any : (P : Change → Bool) (cs : List Change) → ((front rest : List Change) (c : Change) → cs ≡ front ++ c ∷ rest → P c ≡ false) → list_any P cs ≡ false
none_any P cs h = walk [] cs refl
  where
    walk : (done left : List Change) → cs ≡ done ++ left → list_any P left ≡ false
    walk done [] e = refl
    walk done (c ∷ left) e =
        ap (λ b. b || list_any P left) (h done left c e)
        ∙ walk (done ++ c ∷ []) left (e ∙ sym (append_assoc done (c ∷ []) left))

or_true : (a : Bool) → (a || true) ≡ true
or_true true = refl
or_true false = refl

any_at : (P : Change → Bool) (front rest : List Change) (c : Change) → P c ≡ true → list_any P (front ++ c ∷ rest) ≡ true
any_at P [] rest c e = ap (λ b. b || list_any P rest) e
any_at P (d ∷ front) rest c e = ap (λ b. P d || b) (any_at P front rest c e) ∙ or_true (P d)

pub any_named : (Q : Path → Bool) (ys zs : List Change) (p : Path) → (stated_at ys p ≡ [] → ⊥) → Q p ≡ true → list_any (λ d. Q d.path) (ys ++ zs) ≡ true
any_named Q [] zs p some e = absurd (some refl)
any_named Q (d ∷ ys) zs p some e =
    elim (same_path d.path p) as (λ b. same_path d.path p ≡ b → (cond b (d ∷ stated_at ys p) (stated_at ys p) ≡ [] → ⊥) → (Q d.path || list_any (λ d. Q d.path) (ys ++ zs)) ≡ true) [
      | true ↦ λ s _. ap (λ b. b || list_any (λ d. Q d.path) (ys ++ zs)) (ap Q (path_of_same d.path p s) ∙ e)
      | false ↦ λ s some. ap (λ b. Q d.path || b) (any_named Q ys zs p some e) ∙ or_true (Q d.path)
    ] refl some

stated_at-append : (ys zs : List Change) (p : Path) → stated_at (ys ++ zs) p ≡ stated_at ys p ++ stated_at zs p
stated_at-append ys zs p = filter-append (λ c. same_path c.path p) ys zs

named_there : (front rest : List Change) (c : Change) → stated_at (front ++ c ∷ rest) c.path ≡ [] → ⊥
named_there front rest c e = no_end (stated_at front c.path) (stated_at rest c.path) c (sym (stated_at-append front (c ∷ rest) c.path ∙ ap (λ b. stated_at front c.path ++ cond b (c ∷ stated_at rest c.path) (stated_at rest c.path)) (same_path_itself c.path)) ∙ e)
  where
    no_end : (xs zs : List Change) (c : Change) → xs ++ c ∷ zs ≡ [] → ⊥
    no_end [] zs c e = cc
    no_end (x ∷ xs) zs c e = cc

keeps_none : (xs zs : List Change) → (xs ≡ [] → ⊥) → combined xs ≡ None → combined (xs ++ zs) ≡ None
keeps_none [] zs some e = absurd (some refl)
keeps_none (x ∷ xs) zs some e = stays_none x xs zs e

-- the one of a set that has the path, and what holds of all
at_all : (P : Change → Type 0) (s : List Change) (p : Path) (e : Change) → AllByRecursion P s → change_at s p ≡ Some e → P e × (e.path ≡ p)
at_all P [] p e h at = cc
at_all P (d ∷ s) p e h at =
    elim (same_path d.path p) as (λ b. same_path d.path p ≡ b → cond b (Some d) (change_at s p) ≡ Some e → P e × (e.path ≡ p)) [
      | true ↦ λ same at. let is : d ≡ e = cc in (subst P is h.0, ap (λ (x : Change). x.path) (sym is) ∙ path_of_same d.path p same)
      | false ↦ λ same at. at_all P s p e h.1 at
    ] refl at

-- in order nothing is under what is deleted
pub in_order_stands : (s : List Change) (p q : Path) (e f : Change) → IsInOrder s → change_at s p ≡ Some e → change_at s q ≡ Some f → is_delete e.action ≡ true → same_path p q ≡ false → is_front p q ≡ false
in_order_stands [] p q e f h at there del apart = cc
in_order_stands (g ∷ s) p q e f h at there del apart =
    elim (same_path g.path p) as (λ b. same_path g.path p ≡ b → cond b (Some g) (change_at s p) ≡ Some e → is_front p q ≡ false) [
      | true ↦ λ same at.
          let is : g ≡ e = cc in
          elim (same_path g.path q) as (λ b. same_path g.path q ≡ b → cond b (Some g) (change_at s q) ≡ Some f → is_front p q ≡ false) [
            | true ↦ λ too there. cc (apart, ap (λ x. same_path x q) (path_of_same g.path p same), too)
            | false ↦ λ other there.
                let later = at_all (Precedes g) s q f h.0 there in
                ap (λ x. is_front x q) (sym (path_of_same g.path p same)) ∙ ap (is_front g.path) (sym later.1)
                ∙ later.0.stands (ap (λ (x : Change). is_delete x.action) is ∙ del)
          ] refl there
      | false ↦ λ other at.
          elim (same_path g.path q) as (λ b. same_path g.path q ≡ b → cond b (Some g) (change_at s q) ≡ Some f → is_front p q ≡ false) [
            | true ↦ λ same there.
                let later = at_all (Precedes g) s p e h.0 at in
                ap is_some (later_is_no_front p q (ap (λ x. path_cmp x p) (sym (path_of_same g.path q same)) ∙ ap (path_cmp g.path) (sym later.1) ∙ later.0.rises))
            | false ↦ λ too there. in_order_stands s p q e f h.1 at there del apart
          ] refl there
    ] refl at

pub fits : (cs out : List Change) → Combined cs out → is_out_of_order cs ≡ false
fits cs out w = none_any (λ c. is_none (stated cs c.path) || is_under cs c) cs each
  where
    there : (front rest : List Change) (c : Change) → cs ≡ front ++ c ∷ rest → is_none (stated cs c.path) ≡ false
    there front rest c e = at (stated cs c.path) refl
      where
        at : (o : Option Change) → stated cs c.path ≡ o → is_none o ≡ false
        at None none = absurd (named_there front rest c (ap (λ xs. stated_at xs c.path) (sym e) ∙ w.known c.path none))
        at (Some x) some = refl

    under : (front rest : List Change) (c : Change) → cs ≡ front ++ c ∷ rest → is_under cs c ≡ false
    under front rest c e = none_any (λ d. is_front d.path c.path && not (same_path d.path c.path) && option_map_or (λ e. is_delete e.action) (stated cs d.path) false) cs (λ f r d k. at d (stated cs c.path) (stated cs d.path) (same_path d.path c.path) refl refl refl)
      where
        last_false : (a b : Bool) → b ≡ false → (a && b) ≡ false
        last_false true b e = e
        last_false false b e = refl

        at : (d : Change) (oc od : Option Change) (same : Bool) → stated cs c.path ≡ oc → stated cs d.path ≡ od → same_path d.path c.path ≡ same
            → (is_front d.path c.path && not same && option_map_or (λ e. is_delete e.action) od false) ≡ false
        at d oc None same ec ed es = last_false (is_front d.path c.path && not same) false refl
        at d None (Some x) same ec ed es = cc (there front rest c e)
        at d (Some y) (Some x) true ec ed es = ap (λ b. b && is_delete x.action) (last_false (is_front d.path c.path) false refl)
        at d (Some y) (Some x) false ec ed es =
            elim (is_delete x.action) as (λ b. is_delete x.action ≡ b → (is_front d.path c.path && true && b) ≡ false) [
              | true ↦ λ del. ap (λ b. b && true && true) (in_order_stands out d.path c.path x y w.order (w.changes d.path ∙ ed) (w.changes c.path ∙ ec) del es)
              | false ↦ λ _. last_false (is_front d.path c.path && true) false refl
            ] refl

    each : (front rest : List Change) (c : Change) → cs ≡ front ++ c ∷ rest → (is_none (stated cs c.path) || is_under cs c) ≡ false
    each front rest c e = (λ i. there front rest c e i || is_under cs c) ∙ under front rest c e

module _ (ys rest front : List Change) (last c : Change) (w : Combined ys (front ++ last ∷ [])) where
  split : ys ++ c ∷ rest ≡ (ys ++ c ∷ []) ++ rest
  split = sym (append_assoc ys (c ∷ []) rest)

  pub refused_again : same_path last.path c.path ≡ true → (is_delete last.action && is_add c.action) ≡ false → is_out_of_order (ys ++ c ∷ rest) ≡ true
  refused_again e t = any_at (λ d. is_none (stated (ys ++ c ∷ rest) d.path) || is_under (ys ++ c ∷ rest) d) ys rest c (ap (λ o. is_none o || is_under (ys ++ c ∷ rest) c) nothing)
    where
      nothing : stated (ys ++ c ∷ rest) c.path ≡ None
      nothing =
          ap combined (ap (λ xs. stated_at xs c.path) split ∙ stated_at-append (ys ++ c ∷ []) rest c.path)
          ∙ keeps_none (stated_at (ys ++ c ∷ []) c.path) (stated_at rest c.path) (named_there ys [] c) (again ys c front last w e ∙ ap (λ b. cond b (Some (replacing c)) None) t)

  pub refused_under : NoneFalls (ys ++ c ∷ rest) → same_path last.path c.path ≡ false → (is_delete last.action && is_front last.path c.path) ≡ true → is_out_of_order (ys ++ c ∷ rest) ≡ true
  refused_under up d t = any_at (λ d. is_none (stated (ys ++ c ∷ rest) d.path) || is_under (ys ++ c ∷ rest) d) ys rest c (ap (λ b. is_none (stated (ys ++ c ∷ rest) c.path) || b) under ∙ or_true (is_none (stated (ys ++ c ∷ rest) c.path)))
    where
      less : path_cmp last.path c.path ≡ Less
      less = rises ys c front last w (none_after ys rest c up) d

      nothing_more : stated_at (c ∷ rest) last.path ≡ []
      nothing_more = ap (λ b. cond b (c ∷ stated_at rest last.path) (stated_at rest last.path)) (greater_differs last.path c.path less) ∙ none_stated rest c last.path less (none_before ys rest c up)

      stated_is : stated (ys ++ c ∷ rest) last.path ≡ Some last
      stated_is = ap combined (stated_at-append ys (c ∷ rest) last.path ∙ ap (λ xs. stated_at ys last.path ++ xs) nothing_more ∙ append-nil (stated_at ys last.path)) ∙ last_is ys c front last w last.path (same_path_itself last.path)

      named : stated_at ys last.path ≡ [] → ⊥
      named e = cc (ap combined e, last_is ys c front last w last.path (same_path_itself last.path))

      first_of_two : (a b : Bool) → (a && b) ≡ true → a ≡ true
      first_of_two true b e = refl
      first_of_two false b e = e

      second_of_two : (a b : Bool) → (a && b) ≡ true → b ≡ true
      second_of_two true b e = e
      second_of_two false b e = cc

      holds : (is_front last.path c.path && not (same_path last.path c.path) && option_map_or (λ e. is_delete e.action) (stated (ys ++ c ∷ rest) last.path) false) ≡ true
      holds = (λ i. second_of_two (is_delete last.action) (is_front last.path c.path) t i && not (d i) && option_map_or (λ e. is_delete e.action) (stated_is i) false) ∙ first_of_two (is_delete last.action) (is_front last.path c.path) t

      under : is_under (ys ++ c ∷ rest) c ≡ true
      under = any_named (λ p. is_front p c.path && not (same_path p c.path) && option_map_or (λ e. is_delete e.action) (stated (ys ++ c ∷ rest) p) false) ys (c ∷ rest) last.path named holds

-- the same by the tests of the code
module _ (ys rest old front : List Change) (last c : Change) (w : Combined ys old) (is : old ≡ front ++ last ∷ []) where
  now : Combined ys (front ++ last ∷ [])
  now = subst (Combined ys) is w

  first_held : (a b : Bool) → (a && b) ≡ true → a ≡ true
  first_held true b e = refl
  first_held false b e = e

  second_held : (a b : Bool) → (a && b) ≡ true → b ≡ true
  second_held true b e = e
  second_held false b e = cc

  first_not : (a b : Bool) → (a || b) ≡ false → a ≡ false
  first_not true b e = e
  first_not false b e = refl

  second_not : (a b : Bool) → (a || b) ≡ false → b ≡ false
  second_not true b e = cc
  second_not false b e = e

  pub takes_again : (r : Change) (new : List Change) → r ≡ replacing c → new ≡ front ++ r ∷ [] → (same_path last.path c.path && (is_delete last.action && is_add c.action)) ≡ true → Combined (ys ++ c ∷ []) new
  takes_again r new rs ns t =
      subst (Combined (ys ++ c ∷ [])) (sym (ns ∙ ap (λ x. front ++ x ∷ []) rs)) (taken_again ys c front last now (first_held _ _ t) (second_held _ _ t))

  pub takes_next : (mid new : List Change) → mid ≡ front ++ last ∷ [] → new ≡ mid ++ c ∷ [] → NoneFalls (ys ++ c ∷ rest) → (same_path last.path c.path || (is_delete last.action && is_front last.path c.path)) ≡ false → Combined (ys ++ c ∷ []) new
  takes_next mid new ms ns up t =
      subst (Combined (ys ++ c ∷ [])) (sym (ns ∙ ap (λ m. m ++ c ∷ []) ms)) (taken_next ys c front last now rest up (first_not _ _ t) (second_not _ _ t))

  pub refuses : NoneFalls (ys ++ c ∷ rest) → (same_path last.path c.path && (is_delete last.action && is_add c.action)) ≡ false → (same_path last.path c.path || (is_delete last.action && is_front last.path c.path)) ≡ true → is_out_of_order (ys ++ c ∷ rest) ≡ true
  refuses up t u =
      elim (same_path last.path c.path) as (λ b. same_path last.path c.path ≡ b → (b && (is_delete last.action && is_add c.action)) ≡ false → (b || (is_delete last.action && is_front last.path c.path)) ≡ true → is_out_of_order (ys ++ c ∷ rest) ≡ true) [
        | true ↦ λ s t u. refused_again ys rest front last c now s t
        | false ↦ λ s t u. refused_under ys rest front last c now up s u
      ] refl t u
