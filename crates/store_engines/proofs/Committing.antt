-- The commit of a directory: what is due, with a message past its limit too.
use Rattle.std.proofs.Common.{◌≡◌, ℕ, ◌<◌, ◌⊎◌, Bool, true, false, cond, not, ◌&&◌, nat_le, nat_lt, List, [], ◌∷◌, length, Result, Ok, Err, Option, Some, None, is_some, refl, sym, ap, subst, ◌∙◌, arith, inl, inr, codes}
use Rattle.std.proofs.lemmas.Bool.{true≢false}
use Rattle.std.specs.Bool.{if◌then◌else◌}
use Rattle.std.specs.Option.{option_map}
use Rattle.std.specs.Result.{OnOk, OnErr, IfErr}
use Rattle.std.specs.Io.KnownBytes.{Appends}
use Rattle.std.specs.List.{list_all}
use Rattle.std.specs.FinMap as map
use Rattle.std.specs.FinMap.{find, get-entries, get-insert}
use Rattle.jiff_core.specs.declared.civil.datetime.DateTime.{DateTime}
use Rattle.node_base.specs.Entries.{Entries}
use Rattle.node_base.specs.Path.{Name, Path, name_cmp, same_name, names_total}
use Rattle.node_base.specs.PathText.{path_read}
use Rattle.node_base.specs.Props.{PropMap, props_fit}
use Rattle.node_base.specs.declared.refusal.Refusal.{Refusal}
use Rattle.node_base.specs.declared.refusal.Refusal.TheVariants as refusal
use Rattle.dump_load.specs.Faults.{fault_if, first_of, fault, refused}
use Rattle.dump_load.specs.declared.change.Change.{Change}
use Rattle.repo_core.specs.Dates.{dated, date_name, date_text}
use Rattle.repo_core.specs.Repository.{Repository, Revision, trees_of, head_of}
use Rattle.repo_core.specs.Entries.{with_entry_in}
use Rattle.repo_core.specs.Refusals.{is_short, within_limits, limit_fault, base_fault, commit_fault, IsDue}
use Rattle.repo_core.specs.declared.entry.Entry.TheVariants.{Revised}
use Rattle.repo_core.specs.declared.fault.RepoFault.{RepoFault}
use Rattle.repo_core.specs.declared.fault.RepoFault.TheVariants as core
use Rattle.store_engines.specs.Commits.{committed_line, directory_entry, directory_fault, directory_set, fault_there, logged, IsCommitted, NotCommitted, bare_entry, commit_refused, commit_stops, commit_not_kept, commit_unsaid}
use Rattle.fleet_disk.specs.declared.disk.Disk.{Ghosts}
use Rattle.repo_store.specs.Words.{repository_of}
use Rattle.repo_store.specs.declared.store.RepoStore.{RepoStore}
use Rattle.repo_core.specs.declared.entry.Entry.{Entry}
use Rattle.store_engines.specs.Devices.{CantKeep}
use Rattle.store_engines.specs.Loads.{entry_fault}
use Rattle.store_engines.specs.Mirrors.{is_mirror}
use Rattle.store_engines.specs.Refusals.{repo_refusal}

-- ---- a value past its limit

not_le : (n : ℕ) → 65536 < n → nat_le n 65536 ≡ false
not_le n h = grind (arith)

false_after : (a : Bool) → (a && false) ≡ false
false_after true = refl
false_after false = refl

and_false : (a b : Bool) → ((a && false) && b) ≡ false
and_false true b = refl
and_false false b = refl

long_first : (e : Name × List ℕ) (es : Entries) → 65536 < length e.1 → (is_short e && list_all is_short es) ≡ false
long_first e es h = ap (λ b. (nat_le (length e.0) 255 && b) && list_all is_short es) (not_le (length e.1) h) ∙ and_false (nat_le (length e.0) 255) (list_all is_short es)

long_one : (es : Entries) (k : Name) (v : List ℕ) → find name_cmp k es ≡ Some v → 65536 < length v → list_all is_short es ≡ false
long_one [] k v f h = cc
long_one (e ∷ es) k v f h =
    elim (same_name k e.0) as (λ t. cond t (Some e.1) (find name_cmp k es) ≡ Some v → (is_short e && list_all is_short es) ≡ false) [
      | true ↦ λ g. let same : e.1 ≡ v = cc in long_first e es (subst (λ w. 65536 < length w) (sym same) h)
      | false ↦ λ g. ap (λ b. is_short e && b) (long_one es k v g h) ∙ false_after (is_short e)
    ] f

-- a message past its limit makes a map past the limits
pub long_message : (message : List ℕ) (moment : DateTime) → 65536 < length message → limit_fault (dated (logged message) (Some moment)) ≡ Some core.TooLong
long_message message moment h =
    let m = dated (logged message) (Some moment) in
    let there : map.get (logged message) (codes "svn:log") ≡ Some message = get-insert names_total map.empty (codes "svn:log") message (codes "svn:log") in
    let dated_too : map.get m (codes "svn:log") ≡ Some message = get-insert names_total (logged message) date_name (date_text moment) (codes "svn:log") ∙ there in
    let found : find name_cmp (codes "svn:log") (map.entries m) ≡ Some message = sym (get-entries m (codes "svn:log")) ∙ dated_too in
    ap (λ b. fault_if (not (props_fit m && b)) core.TooLong) (long_one (map.entries m) (codes "svn:log") message found h)
    ∙ ap (λ b. fault_if (not b) core.TooLong) (false_after (props_fit m))

-- ---- what is due

some_none : (f : RepoFault) → Some f ≡ None → ⊥
some_none f e = true≢false (ap is_some e)

-- the faults of a commit in their order, that of the map the last
abbrev Due : Option RepoFault → Option RepoFault → Option RepoFault → Option RepoFault → Option RepoFault
Due b n d l = first_of (b ∷ first_of (n ∷ d ∷ l ∷ []) ∷ [])

grows : (b n d : Option RepoFault) (past : Bool) (f : RepoFault) → Due b n d (fault_if past core.TooLong) ≡ Some f → Due b n d (Some core.TooLong) ≡ Some f
grows (Some x) n d past f h = h
grows None (Some x) d past f h = h
grows None None (Some x) past f h = h
grows None None None true f h = h
grows None None None false f h = absurd (some_none f (sym h))

all_else : (b n d : Option RepoFault) (l : Option RepoFault) → Due b n d l ≡ None → Due b n d (Some core.TooLong) ≡ Some core.TooLong
all_else (Some x) n d l h = absurd (some_none x h)
all_else None (Some x) d l h = absurd (some_none x h)
all_else None None (Some x) l h = absurd (some_none x h)
all_else None None None l h = refl

pub is_due : (f : RepoFault) (due : Option RepoFault) → IsDue f due → (f ≡ core.OutOfMemory) ⊎ (due ≡ Some f)
is_due core.OutOfMemory due h = inl refl
is_due core.NoSuchRevision due h = inr h
is_due (core.BaseMismatch v) due h = inr h
is_due core.Full due h = inr h
is_due (core.Behind n) due h = inr h
is_due (core.Change f) due h = inr h
is_due core.TooLong due h = inr h

-- the faults of a directory with these properties
abbrev due_with : List Revision → ℕ → List Change → PropMap → Option RepoFault
due_with x base set props = commit_fault x base (Revised (length x) set props)

long_due : (x : List Revision) (path : Path) (message : List ℕ) (moment : DateTime) (m : PropMap) (f : RepoFault) → 65536 < length message → due_with x (head_of x) (directory_set path) m ≡ Some f
    → entry_fault x (directory_entry x path message moment) ≡ Some f
long_due x path message moment m f h due =
    let b = base_fault x (head_of x) in
    let n = fault_if (nat_lt 65535 (length x)) core.Full in
    let d = option_map (λ t. core.Change (refused t)) (fault (trees_of x) (directory_set path)) in
    ap (λ l. Due b n d l) (long_message message moment h)
    ∙ grows b n d (not (within_limits m)) f due

long_all : (x : List Revision) (path : Path) (message : List ℕ) (moment : DateTime) (m : PropMap) → 65536 < length message → due_with x (head_of x) (directory_set path) m ≡ None
    → entry_fault x (directory_entry x path message moment) ≡ Some core.TooLong
long_all x path message moment m h due =
    let b = base_fault x (head_of x) in
    let n = fault_if (nat_lt 65535 (length x)) core.Full in
    let d = option_map (λ t. core.Change (refused t)) (fault (trees_of x) (directory_set path)) in
    ap (λ l. Due b n d l) (long_message message moment h)
    ∙ all_else b n d (limit_fault m) due

abbrev LongDue : List Revision → List Change → DateTime → Refusal → Type 0
LongDue x set moment e = (path : Path) (message : List ℕ) → set ≡ directory_set path → 65536 < length message → option_map repo_refusal (entry_fault x (directory_entry x path message moment)) ≡ Some e

abbrev BareUnkept : {D : Type 0} {G : Ghosts D} → RepoStore D G → List Revision → List Change → DateTime → Refusal → Type 0
BareUnkept store x set moment e = (path : Path) → set ≡ directory_set path → CantKeep store (bare_entry x path moment) e

-- with another message the set is refused
pub refused_long : {D : Type 0} {G : Ghosts D} (b : RepoStore D G) (x : List Revision) (base : ℕ) (set : List Change) (moment : DateTime) (m : PropMap) (e : Refusal) → m ≡ dated map.empty (Some moment) → base ≡ head_of x
    → (e ≡ refusal.OutOfMemory) ⊎ CantKeep b (Revised (length x) set m) e ⊎ ((f : RepoFault) × IsDue f (due_with x base set m) × (e ≡ repo_refusal f))
    → (e ≡ refusal.OutOfMemory) ⊎ BareUnkept b x set moment e ⊎ LongDue x set moment e
refused_long b x base set moment m e bare k (inl o) = inl o
refused_long b x base set moment m e bare k (inr (inl c)) =
    inr (inl (λ path same. subst (λ (v : Entry). CantKeep b v e) (ap (λ t. Revised (length x) t m) same ∙ ap (λ p. Revised (length x) (directory_set path) p) bare) c))
refused_long b x base set moment m e bare k (inr (inr (f, h, is))) =
    elim (is_due f _ h) [
      | inl o ↦ inl (is ∙ ap repo_refusal o)
      | inr d ↦ inr (inr (λ path message same long. ap (option_map repo_refusal) (long_due x path message moment m f long
          (subst (λ t. due_with x (head_of x) t m ≡ Some f) same (subst (λ v. due_with x v set m ≡ Some f) k d))) ∙ ap Some (sym is)))
    ]

-- with another message it would be taken
pub taken_long : (x : List Revision) (base : ℕ) (set : List Change) (moment : DateTime) (m : PropMap) → base ≡ head_of x → due_with x base set m ≡ None → LongDue x set moment refusal.TooLong
taken_long x base set moment m b d path message same long =
    ap (option_map repo_refusal) (long_all x path message moment m long
    (subst (λ t. due_with x (head_of x) t m ≡ None) same (subst (λ k. due_with x k set m ≡ None) b d)))

-- ---- the whole

fault_is : (x : List Revision) (bytes message : List ℕ) (moment : DateTime) (path : Path) → is_mirror x ≡ false → path_read bytes ≡ Ok path → directory_fault x bytes message moment ≡ option_map repo_refusal (entry_fault x (directory_entry x path message moment))
fault_is x bytes message moment path m r =
    ap (λ b. if b then Some refusal.ReadOnly else fault_there x message moment (path_read bytes)) m ∙ ap (fault_there x message moment) r

-- a message past its limit
pub message_refused : {D : Type 0} {G : Ghosts D} (x : Repository) (y : RepoStore D G) (bytes message : List ℕ) (moment : DateTime) (path : Path) (set : List Change) (before : Option (List ℕ)) (fails : Type 0) (e : Refusal) → repository_of y ≡ x → set ≡ directory_set path → 65536 < length message
    → (e ≡ refusal.OutOfMemory) ⊎ BareUnkept y x.revisions set moment e ⊎ LongDue x.revisions set moment e → is_mirror x.revisions ≡ false → path_read bytes ≡ Ok path → NotCommitted x bytes message moment y before before fails e
message_refused x y bytes message moment path set before fails e same is long (inl s) m r = commit_stops s same refl
message_refused x y bytes message moment path set before fails e same is long (inr (inl k)) m r = commit_not_kept path (bare_entry x.revisions path moment) r (inr (long, refl)) (k path is) same refl
message_refused x y bytes message moment path set before fails e same is long (inr (inr d)) m r =
    commit_refused (fault_is x.revisions bytes message moment path m r ∙ d path message is long) same refl

-- what a commit of the entry answers, and what is said then
pub not_committed : {D : Type 0} {G : Ghosts D} (x : Repository) (y : RepoStore D G) (bytes message : List ℕ) (moment : DateTime) (path : Path) (before : Option (List ℕ)) (fails : Type 0) (e : Refusal) → repository_of y ≡ x
    → (e ≡ refusal.OutOfMemory) ⊎ CantKeep y (directory_entry x.revisions path message moment) e ⊎ ((f : RepoFault) × IsDue f (entry_fault x.revisions (directory_entry x.revisions path message moment)) × (e ≡ repo_refusal f)) → is_mirror x.revisions ≡ false → path_read bytes ≡ Ok path
    → NotCommitted x bytes message moment y before before fails e
not_committed x y bytes message moment path before fails e same (inl s) m r = commit_stops s same refl
not_committed x y bytes message moment path before fails e same (inr (inl k)) m r = commit_not_kept path (directory_entry x.revisions path message moment) r (inl refl) k same refl
not_committed x y bytes message moment path before fails e same (inr (inr (f, due, d))) m r =
    elim (is_due f _ due) [
      | inl o ↦ commit_stops (d ∙ ap repo_refusal o) same refl
      | inr k ↦ commit_refused (fault_is x.revisions bytes message moment path m r ∙ ap (option_map repo_refusal) k ∙ ap Some (sym d)) same refl
    ]

pub committed : (x y : Repository) (message : List ℕ) (moment : DateTime) (path : Path) (before now : Option (List ℕ)) (line : List ℕ) (answer : Result (Unit {0}) Refusal) → entry_fault x.revisions (directory_entry x.revisions path message moment) ≡ None
    → y ≡ with_entry_in x (directory_entry x.revisions path message moment) → line ≡ committed_line (length x.revisions) → OnOk answer (Appends before now line)
    → OnOk answer ((bytes : List ℕ) → is_mirror x.revisions ≡ false → path_read bytes ≡ Ok path → IsCommitted x bytes message moment y before now)
committed x y message moment path before now line (Ok u) none made is w = λ bytes m r. record {
  path = path;
  read = r;
  taken = fault_is x.revisions bytes message moment path m r ∙ ap (option_map repo_refusal) none;
  made = made;
  written = subst (Appends before now) is w;
}
committed x y message moment path before now line (Err e) none made is w = tt

pub unsaid : {D : Type 0} {G : Ghosts D} (x : Repository) (y : RepoStore D G) (message : List ℕ) (moment : DateTime) (path : Path) (before now : Option (List ℕ)) (fails : Type 0) (answer : Result (Unit {0}) Refusal) → entry_fault x.revisions (directory_entry x.revisions path message moment) ≡ None
    → repository_of y ≡ with_entry_in x (directory_entry x.revisions path message moment) → OnErr answer fails → IfErr answer (λ e. e ≡ refusal.PeerFailed)
    → IfErr answer (λ e. (bytes : List ℕ) → is_mirror x.revisions ≡ false → path_read bytes ≡ Ok path → NotCommitted x bytes message moment y before now fails e)
unsaid x y message moment path before now fails (Ok u) none made f p = tt
unsaid x y message moment path before now fails (Err e) none made f p =
    λ bytes m r. commit_unsaid path r (fault_is x.revisions bytes message moment path m r ∙ ap (option_map repo_refusal) none) made f p

-- the entry that is committed
pub entry_is : (x : List Revision) (path : Path) (message : List ℕ) (moment : DateTime) (set : List Change) (props : PropMap) → set ≡ directory_set path → props ≡ logged message → Revised (length x) set (dated props (Some moment)) ≡ directory_entry x path message moment
entry_is x path message moment set props s p =
    ap (λ t. Revised (length x) t (dated props (Some moment))) s ∙ ap (λ m. Revised (length x) (directory_set path) (dated m (Some moment))) p
