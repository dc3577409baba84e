-- Exits of what tells the versions of a file.
use Rattle.std.proofs.Common.{◌≡◌, ℕ, suc, ◌≤◌, ◌<◌, ◌+◌, inl, inr, Bool, true, false, List, [], ◌∷◌, ◌++◌, take, drop, length, get_or, Option, Some, None, Result, Ok, Err, true≢false, refl, sym, ap, subst, ◌∙◌, append_assoc, append-nil, arith}
use Rattle.std.proofs.KnownBytes.{Appends-trans}
use Rattle.std.proofs.lemmas.Bool.Decides.{nat_tests}
use Rattle.std.proofs.lemmas.List.{drop_all, drop_more, take_more}
use Rattle.std.proofs.lemmas.List.Elements.{All-weaker, All-contains, All-contains_itself, All-from_recursion, recursion_from_All}
use Rattle.std.proofs.lemmas.List.Sorted.{Contains-permutation, IsPermutation-sym, IsPermutation-reverse}
use Rattle.std.specs.Prelude.{IfOk, is_none, not, ◌&&◌, nat_lt, reverse, if◌then◌else◌}
use Rattle.std.specs.List.{AllByRecursion, Contains}
use Rattle.std.specs.FinMap as finite
use Rattle.std.specs.Io.KnownBytes.{Appends}
use Rattle.fleet_disk.specs.Rules.{Rose}
use Rattle.node_base.specs.Limits.{fits}
use Rattle.node_base.specs.Path.{Path}
use Rattle.node_base.specs.Tree.{PathMap}
use Rattle.node_base.specs.declared.node.Node.{Node}
use Rattle.dump_load.specs.Faults.{first_of, fault_if}
use Rattle.path_history.specs.declared.asked.Asked.{Asked}
use Rattle.path_history.specs.declared.place.Place.{Place}
use Rattle.path_history.specs.Places.{Sets, place}
use Rattle.path_history.specs.Histories.{IsAsked, IsHistory, IsTooLong}
use Rattle.path_history.proofs.Telling.{line_before}
use Rattle.repo_core.specs.Repository.{Repository, trees_of}
use Rattle.ra_history.specs.Rows.{props_of}
use Rattle.ra_item.specs.Items.{spell}
use Rattle.ra_wire.specs.Replies.{done}
use Rattle.browse_wire.specs.Asks.{FileRevs}
use Rattle.browse_wire.specs.Told.{end_item}
use Rattle.browse_wire.specs.Urls.{Url}
use Rattle.ra_serve.specs.declared.fault.ServeFault.{ServeFault}
use Rattle.ra_serve.specs.Answers.{refused, asked, node_in}
use Rattle.ra_serve.specs.Ports as port
use Rattle.ra_serve.specs.Ports.{refusal_of, tree_of}
use Rattle.ra_serve.proofs.Causes.{none_is_not}
use Rattle.ra_log.specs.Versions.{versions_told}
use Rattle.ra_log.proofs.Versions.{versions_front}
use Rattle.ra_denial.specs.Denials.{denied, unless_denied, no_revision}
use Rattle.ra_denial.specs.Stops.{MayStop, Comes, Denies, Decides}
use Rattle.ra_denial.specs.Writing.{TellsBehind}
use Rattle.ra_denial.specs.declared.denial.Denial.{Denial}
use Rattle.ra_denial.specs.declared.denial.Denial.TheVariants as denial
use Rattle.ra_denial.specs.declared.stop.Stop.{Stop}
use Rattle.ra_denial.specs.declared.stop.Stop.TheVariants as stop
use Rattle.ra_denial.proofs.Causes.{is_there}
use Rattle.ra_denial.proofs.Stops.{denies_stops}
use Rattle.ra_browse.specs.declared.versions.VersionsSought.{VersionsSought}
use Rattle.ra_browse.specs.Histories.{Found, Nothing, Stood, Logged, PastLimits, newer, down_to, up_to, AreVersions, FindsVersions, FindsVersionsIf, places_of, versions_of, found_denied}
use Rattle.ra_browse.specs.Answers.{place_denied, file_denied, version_denied, versions_denied}
use Rattle.ra_browse.specs.Tellings.{TellsVersions, AreRows, AreVersionsSought, Replied, Tells}
use Rattle.ra_browse.proofs.Fronts.{line_whole}
use Rattle.ra_browse.proofs.Located.{both_calm, second_stops}
use Rattle.ra_browse.proofs.Logged.{later_comes, first_calm, calm_stops}
use Rattle.ra_browse.proofs.LogFronts.{asked_whole, asked_front}

-- ---- a history down to a revision

module _ (n : ℕ) (places : List Place) (i : ℕ) (at : Place) (h : i < length places) (is : at ≡ get_or places i at) (so_far : down_to n places ≡ take i places ++ down_to n (drop i places)) where
  ahead : drop i places ≡ at ∷ drop (i + 1) places
  ahead = drop_more places i at h ∙ ap (λ p. p ∷ drop (i + 1) places) (sym is)

  so_many : take (i + 1) places ≡ take i places ++ at ∷ []
  so_many = take_more places i at h ∙ ap (λ p. take i places ++ p ∷ []) (sym is)

  next_down : (b : Bool) → nat_lt n at.revision ≡ b → down_to n places ≡ take i places ++ at ∷ (if b then down_to n (drop (i + 1) places) else [])
  next_down b e = so_far ∙ ap (λ l. take i places ++ down_to n l) ahead ∙ ap (λ t. take i places ++ at ∷ (if t then down_to n (drop (i + 1) places) else [])) e

  pub goes_down : n < at.revision → down_to n places ≡ take (i + 1) places ++ down_to n (drop (i + 1) places)
  goes_down l =
      let e : nat_lt n at.revision ≡ true = grind (arith, nat_tests) in
      next_down true e ∙ sym (append_assoc (take i places) (at ∷ []) (down_to n (drop (i + 1) places))) ∙ ap (λ t. t ++ down_to n (drop (i + 1) places)) (sym so_many)

  pub ends_down : at.revision ≤ n → take (i + 1) places ≡ down_to n places
  ends_down l =
      let e : nat_lt n at.revision ≡ false = grind (arith, nat_tests) in
      so_many ∙ sym (next_down false e)

-- all are newer
pub all_down : (n : ℕ) (places : List Place) (i : ℕ) → length places ≤ i → down_to n places ≡ take i places ++ down_to n (drop i places) → take i places ≡ down_to n places
all_down n places i h e = sym (e ∙ ap (λ l. take i places ++ down_to n l) (drop_all i places h) ∙ append-nil (take i places))

-- ---- what holds of all of a history

down_if : (P : Place → Type 0) (b : Bool) (s : List Place) → AllByRecursion P s → AllByRecursion P (if b then s else [])
down_if P true s h = h
down_if P false s h = tt

each_down : (P : Place → Type 0) (n : ℕ) (s : List Place) → AllByRecursion P s → AllByRecursion P (down_to n s)
each_down P n [] h = tt
each_down P n (a ∷ s) h = (h.0, down_if P (nat_lt n a.revision) (down_to n s) (each_down P n s h.1))

each_reversed : (P : Place → Type 0) (s : List Place) → AllByRecursion P s → AllByRecursion P (reverse s)
each_reversed P s h =
    recursion_from_All P (reverse s)
    (All-weaker (Contains (reverse s)) P (λ a c. All-contains P s a (All-from_recursion P s h) (Contains-permutation (reverse s) s a (IsPermutation-sym s (reverse s) (IsPermutation-reverse s)) c)) (reverse s) (All-contains_itself (reverse s)))

each_below : (sets : Sets) (w : Asked) (a : Place) (k : ℕ) (s : List Place) → a.revision < k → AllByRecursion (IsAsked sets w a) s → AllByRecursion (λ b. b.revision < k) s
each_below sets w a k [] h t = tt
each_below sets w a k (b ∷ s) h t = (omega (arith, h, line_before w.crosses_copies sets a b t.0.follows), each_below sets w a k s h t.1)

-- ---- by a front of the sets

module _ (sets : Sets) (k : ℕ) (a : Place) (h : a.revision < k) where
  each_whole : (w : Asked) (s : List Place) → AllByRecursion (IsAsked (take k sets) w a) s → AllByRecursion (IsAsked sets w a) s
  each_whole w [] t = tt
  each_whole w (b ∷ s) t = (asked_whole sets k w a b h t.0, each_whole w s t.1)

  history_whole : (w : Asked) (s : List Place) → IsHistory (take k sets) w a s → IsHistory sets w a s
  history_whole w s i = record {
    each = each_whole w s i.each;
    all = λ b j. i.all b (asked_front sets k w a b h j);
    falls = i.falls;
    few = i.few;
  }

  finds_whole : (first : ℕ) (found : Found) → FindsVersions (take k sets) a first found → FindsVersions sets a first found
  finds_whole first Nothing f = f
  finds_whole first (Stood places) f = (f.0, history_whole (up_to a.revision) f.0 f.1, f.2)
  finds_whole first (Logged told) f = f
  finds_whole first PastLimits f = record { at = f.at; follows = line_whole true sets k a f.at h f.follows; long = f.long }

  found_below : (first : ℕ) (found : Found) → FindsVersions sets a first found → AllByRecursion (λ b. b.revision < k) (places_of found)
  found_below first Nothing f = tt
  found_below first (Stood places) f =
      subst (AllByRecursion (λ b. b.revision < k)) (sym f.2)
      (each_reversed (λ b. b.revision < k) (down_to first f.0) (each_down (λ b. b.revision < k) first f.0 (each_below sets (up_to a.revision) a k f.0 h f.1.each)))
  found_below first (Logged told) f = tt
  found_below first PastLimits f = tt

module _ (x : Repository) (q : Path) (first last : ℕ) (s : VersionsSought) (i : AreVersionsSought x q first last s) where
  -- what was found
  sought_versions : (found : Found) → FindsVersions s.rows.sets.items s.from s.first found → FindsVersions x.sets (place last q) first found
  sought_versions found f =
      finds_whole x.sets (suc last) (place last q) (omega arith) first found
      (subst (λ n. FindsVersions (take (suc last) x.sets) (place last q) n found) i.begins
      (subst (λ a. FindsVersions (take (suc last) x.sets) a s.first found) i.from
      (subst (λ v. FindsVersions v s.from s.first found) i.rows.sets f)))

  -- and what is told of it
  sought_told : (found : Found) → FindsVersions s.rows.sets.items s.from s.first found → versions_told s.rows.props.items s.rows.trees.items None (places_of found) ≡ versions_of x (places_of found)
  sought_told found f =
      ap (λ v. versions_told v s.rows.trees.items None (places_of found)) i.rows.props
      ∙ ap (λ v. versions_told (take (suc last) (props_of x.revisions)) v None (places_of found)) i.rows.trees
      ∙ versions_front (props_of x.revisions) (trees_of x.revisions) (suc last) None (places_of found) (found_below x.sets (suc last) (place last q) (omega arith) first found (sought_versions found f))

-- ---- calls one after another

pub seek_comes : (x : Repository) (q : Path) (start end : Option ℕ) (first last p m n : ℕ) (r : Result VersionsSought Stop) → p ≤ m → first ≡ asked x start → last ≡ asked x end → Comes m n (versions_denied x q first last) (AreVersionsSought x q first (newer first last)) r → Comes p n (versions_denied x q (asked x start) (asked x end)) (AreVersionsSought x q (asked x start) (newer (asked x start) (asked x end))) r
seek_comes x q start end first last p m n r h e f c =
    later_comes p m n (versions_denied x q (asked x start) (asked x end)) (AreVersionsSought x q (asked x start) (newer (asked x start) (asked x end))) r h
    (subst (λ b. Comes m n (versions_denied x q (asked x start) b) (AreVersionsSought x q (asked x start) (newer (asked x start) b)) r) f
    (subst (λ a. Comes m n (versions_denied x q a last) (AreVersionsSought x q a (newer a last)) r) e c))

pub between_comes : (x : Repository) (q : Path) (first last p m n : ℕ) (from : Place) (r : Result VersionsSought Stop) → p ≤ m → versions_denied x q first last ≡ None → from ≡ place (newer first last) q → Comes m n (no_revision x from.revision) (λ s. (s.from ≡ from) × (s.first ≡ first) × AreRows x from.revision true s.rows) r → Comes p n (versions_denied x q first last) (AreVersionsSought x q first (newer first last)) r
between_comes x q first last p m n from (Ok s) h d e c = (d, record { from = c.1.0 ∙ e; begins = c.1.1; rows = subst (λ a. AreRows x a.revision true s.rows) e c.1.2 })
between_comes x q first last p m n from (Err s) h d e c =
    calm_stops p m n (no_revision x from.revision) (versions_denied x q first last) s h
    (ap (λ a. no_revision x a.revision) e ∙ first_calm (no_revision x (newer first last)) (version_denied first last q (node_in x (newer first last) q)) d) c

-- ---- where a file stands

pub file_comes : (x : Repository) (q : Path) (first last top k m : ℕ) (tree : PathMap) (r : Result Place Stop) → port.no_revision x top ≡ None → tree ≡ tree_of x top → top ≡ newer first last → Decides (version_denied first last q (finite.get tree q)) (λ a. a ≡ place (newer first last) q) r → Comes k m (versions_denied x q first last) (λ a. a ≡ place (newer first last) q) r
file_comes x q first last top k m tree (Ok a) h t e d =
    let there = is_there x (newer first last) (subst (λ v. port.no_revision x v ≡ None) e h) in
    (both_calm (no_revision x (newer first last)) (version_denied first last q (node_in x (newer first last) q)) there (subst (λ v. version_denied first last q (finite.get v q) ≡ None) (t ∙ ap (tree_of x) e) d.0), d.1)
file_comes x q first last top k m tree (Err s) h t e d =
    let there = is_there x (newer first last) (subst (λ v. port.no_revision x v ≡ None) e h) in
    second_stops k k m (no_revision x (newer first last)) (version_denied first last q (node_in x (newer first last) q)) s (omega arith) there
    (denies_stops k m (version_denied first last q (node_in x (newer first last) q)) s (subst (λ v. Denies (version_denied first last q (finite.get v q)) s) (t ∙ ap (tree_of x) e) d))

module _ (first last : ℕ) (q : Path) (f : Option Node) where
  pub backward_denies : last < first → version_denied first last q f ≡ Some denial.Unsupported
  backward_denies l =
      let e : nat_lt last first ≡ true = grind (arith, nat_tests) in
      ap (λ b. first_of (fault_if b denial.Unsupported ∷ place_denied q f ∷ file_denied f ∷ [])) e

  forward : first ≤ last → version_denied first last q f ≡ first_of (None ∷ place_denied q f ∷ file_denied f ∷ [])
  forward l =
      let e : nat_lt last first ≡ false = grind (arith, nat_tests) in
      ap (λ b. first_of (fault_if b denial.Unsupported ∷ place_denied q f ∷ file_denied f ∷ [])) e

  pub place_denies : (s : Stop) → first ≤ last → Denies (place_denied q f) s → Denies (version_denied first last q f) s
  place_denies (stop.Denied w) l k = forward l ∙ ap (λ o. first_of (None ∷ o ∷ file_denied f ∷ [])) k
  place_denies (stop.Port g) l k = k
  place_denies stop.OutOfMemory l k = tt

  there : first ≤ last → place_denied q f ≡ None → version_denied first last q f ≡ first_of (file_denied f ∷ [])
  there l k = forward l ∙ ap (λ o. first_of (None ∷ o ∷ file_denied f ∷ [])) k

  pub other_denies : first ≤ last → place_denied q f ≡ None → is_none (file_denied f) ≡ false → file_denied f ≡ Some denial.NotFile → version_denied first last q f ≡ Some denial.NotFile
  other_denies l k n e = there l k ∙ ap (λ o. first_of (o ∷ [])) e

  pub file_calm : first ≤ last → place_denied q f ≡ None → is_none (file_denied f) ≡ true → version_denied first last q f ≡ None
  file_calm l k n = there l k ∙ at (file_denied f) n
    where
      at : (o : Option Denial) → is_none o ≡ true → first_of (o ∷ []) ≡ None
      at None e = refl
      at (Some w) e = absurd (true≢false (sym e))

-- something that is no file
pub no_file : (q : Path) (f : Option Node) → place_denied q f ≡ None → is_none (file_denied f) ≡ false → file_denied f ≡ Some denial.NotFile
no_file q None k n = absurd (nothing (fits q) k)
  where
    nothing : (b : Bool) → fault_if (not (b && false)) denial.NoPath ≡ None → ⊥
    nothing true e = none_is_not denial.NoPath (sym e)
    nothing false e = none_is_not denial.NoPath (sym e)
no_file q (Some x) k n = at (is_none x.text) n
  where
    at : (b : Bool) → is_none (fault_if b denial.NotFile) ≡ false → fault_if b denial.NotFile ≡ Some denial.NotFile
    at true e = refl
    at false e = absurd (true≢false e)

-- ---- what is told

pub are_versions : (s : VersionsSought) (w : Asked) (from : Place) (sets : Sets) (history places : List Place) → sets ≡ s.rows.sets.items → from ≡ s.from → w ≡ up_to s.from.revision → IsHistory sets w from history → places ≡ reverse (down_to s.first history) → AreVersions s.rows.sets.items s.from s.first places
are_versions s w from sets history places h e f i p =
    (history, subst (λ v. IsHistory s.rows.sets.items v s.from history) f (subst (λ a. IsHistory s.rows.sets.items w a history) e (subst (λ v. IsHistory v w from history) h i)), p)

pub all_told : {W : Type 0} (contents : W → Option (List ℕ)) (s : VersionsSought) (told places : List Place) (out : W) (result : Result W ServeFault)
    → told ≡ places
    → AreVersions s.rows.sets.items s.from s.first places
    → IfOk result (λ w. Appends (contents out) (contents w) ((versions_told s.rows.props.items s.rows.trees.items None told ++ spell end_item) ++ spell done))
    → IfOk result (λ w. TellsVersions s (contents out) (contents w))
all_told contents s told places out (Ok w) e a t = record {
  found = Stood places;
  is = a;
  bytes = subst (λ v. Appends (contents out) (contents w) ((versions_told s.rows.props.items s.rows.trees.items None v ++ spell end_item) ++ spell done)) e t;
}
all_told contents s told places out (Err g) e a t = tt

pub long_told : {W : Type 0} (contents : W → Option (List ℕ)) (s : VersionsSought) (out : W) (result : Result W ServeFault)
    → IsTooLong true s.rows.sets.items s.from
    → IfOk result (λ w. TellsBehind (spell end_item) (contents out) (contents w) (stop.Denied denial.NoPath))
    → IfOk result (λ w. TellsVersions s (contents out) (contents w))
long_told contents s out (Ok w) a t = record { found = PastLimits; is = a; bytes = Appends-trans (contents out) t.mid (contents w) (spell end_item) (denied denial.NoPath) t.told t.stop }
long_told contents s out (Err g) a t = tt

module _ (x : Repository) (at : Url) (p : Path) (start end : Option ℕ) (merged : Bool) where
  abbrev due : Option Denial
  due = versions_denied x (at.1 ++ p) (asked x start) (asked x end)

  abbrev newest : ℕ
  newest = newer (asked x start) (asked x end)

  stopped : (k n : ℕ) (before now : Option (List ℕ)) (s : Stop) → MayStop k n due s → TellsBehind (spell end_item) before now s → Replied x at (FileRevs p start end merged) (Rose k n) before now
  stopped k n before now (stop.Denied w) m t = record {
    halt = None;
    found = Stood [];
    has = subst (λ o. FindsVersionsIf (is_none o) x.sets (place newest (at.1 ++ p)) (asked x start) (Stood [])) (sym m) refl;
    lawful = tt;
    counted = inl tt;
    bytes = subst (λ o. Appends before now (spell end_item ++ unless_denied o (spell done))) (sym m) (Appends-trans before t.mid now (spell end_item) (denied w) t.told t.stop);
  }
  stopped k n before now (stop.Port f) m t = record {
    halt = Some f;
    found = Stood [];
    has = refl;
    lawful = (m.0, refl);
    counted = inr m.1;
    bytes = Appends-trans before t.mid now (spell end_item) (refused (refusal_of f)) t.told t.stop;
  }
  stopped k n before now stop.OutOfMemory m t = absurd t.stop

  found_told : (rose : Type 0) (before now : Option (List ℕ)) (s : VersionsSought) → due ≡ None → AreVersionsSought x (at.1 ++ p) (asked x start) newest s → TellsVersions s before now → Replied x at (FileRevs p start end merged) rose before now
  found_told rose before now s d i t = record {
    halt = None;
    found = t.found;
    has = subst (λ o. FindsVersionsIf (is_none o) x.sets (place newest (at.1 ++ p)) (asked x start) t.found) (sym d) (sought_versions x (at.1 ++ p) (asked x start) newest s i t.found t.is);
    lawful = tt;
    counted = inl tt;
    bytes = subst (λ o. Appends before now ((versions_of x (places_of t.found) ++ spell end_item) ++ unless_denied (found_denied t.found) (unless_denied o (spell done)))) (sym d)
        (subst (λ v. Appends before now ((v ++ spell end_item) ++ unless_denied (found_denied t.found) (spell done))) (sought_told x (at.1 ++ p) (asked x start) newest s i t.found t.is) t.bytes);
  }

module _ {P W : Type 0} (repository : P → Option Repository) (refusals : P → ℕ) (contents : W → Option (List ℕ)) (at : Url) (p : Path) (start end : Option ℕ) (merged : Bool) (old new : P) (out : W) where
  pub tells_stop : (result : Result W ServeFault) (s : Stop)
      → ((x : Repository) → repository old ≡ Some x → MayStop (refusals old) (refusals new) (versions_denied x (at.1 ++ p) (asked x start) (asked x end)) s)
      → IfOk result (λ w. TellsBehind (spell end_item) (contents out) (contents w) s)
      → IfOk result (Tells repository refusals contents at (FileRevs p start end merged) old new out)
  tells_stop (Err g) s m t = tt
  tells_stop (Ok w) s m t = λ x e. stopped x at p start end merged (refusals old) (refusals new) (contents out) (contents w) s (m x e) t

  pub tells_found : (result : Result W ServeFault) (s : VersionsSought)
      → ((x : Repository) → repository old ≡ Some x → (versions_denied x (at.1 ++ p) (asked x start) (asked x end) ≡ None) × AreVersionsSought x (at.1 ++ p) (asked x start) (newer (asked x start) (asked x end)) s)
      → IfOk result (λ w. TellsVersions s (contents out) (contents w))
      → IfOk result (Tells repository refusals contents at (FileRevs p start end merged) old new out)
  tells_found (Err g) s m t = tt
  tells_found (Ok w) s m t = λ x e. let f = m x e in found_told x at p start end merged (Rose (refusals old) (refusals new)) (contents out) (contents w) s f.0 f.1 t
