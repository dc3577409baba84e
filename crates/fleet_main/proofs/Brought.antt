-- What `fleet` does over folders, step by step.
use Rattle.std.proofs.Common.{◌≡◌, ◌≢◌, ◌≤◌, ◌<◌, inl, inr, ℕ, suc, ◌+◌, Bool, true, false, ◌||◌, List, [], ◌∷◌, ◌++◌, length, map, Option, Some, None, Result, Ok, Err, IfOk, IfErr, IfSome, Vec, is_some, is_ok, if◌then◌else◌, refl, sym, ap, subst, ◌∙◌, append_assoc, append-nil, length-append, arith}
use Rattle.std.specs.List.{list_all, list_any, AllZip}
use Rattle.std.specs.Option.{option_map}
use Rattle.std.specs.Str.{bytes_eq}
use Rattle.std.specs.Io.KnownBytes.{Appends}
use Rattle.std.specs.declared.alloc.Global.{Global}
use Rattle.std.proofs.lemmas.Bool.{true≢false}
use Rattle.std.proofs.lemmas.Bool.Decides.{nat_tests}
use Rattle.std.proofs.lemmas.Slice.Eq.{bytes_eq-Decides}
use Rattle.fleet_disk.specs.Rules.{Rose}
use Rattle.fleet_disk.specs.declared.disk.Disk.{Ghosts}
use Rattle.fleet_jobs.specs.Answers.{Answer}
use Rattle.fleet_jobs.specs.declared.order.Order.{Order}
use Rattle.node_base.specs.declared.refusal.Refusal.{Refusal}
use Rattle.node_base.specs.declared.refusal.Refusal.TheVariants as refusal
use Rattle.repo_core.specs.Repository.{head_of}
use Rattle.repo_store.specs.Words.{disk_of, revisions_of, IsKept as StoreIsKept}
use Rattle.repo_store.specs.declared.store.RepoStore.{RepoStore}
use Rattle.std.specs.Prelude.{slice_get, nat_le}
use Rattle.fleet_shares.specs.Closing.{ComesOutNow, IsJudged}
use Rattle.fleet_shares.specs.Orders.{sync_order}
use Rattle.fleet_shares.specs.Lines.{lines_of}
use Rattle.fleet_shares.specs.Stores.{store_at}
use Rattle.fleet_shares.specs.Told.{head_at, stand, stands, AreTold, IsTold, SameSlots}
use Rattle.fleet_shares.specs.declared.stores.FleetStores.{FleetStores}
use Rattle.fleet_main.specs.Bringing.{Came, Refused, Stood, loan_of, loans_of, standing, HasCome, HaveCome, AreBrought, AreToldOf, AreUntold, ComesAs, IsJudgedFrom, IsTelling, OfFleet, NotBrought}
use Rattle.fleet_main.specs.Doing.{IsOpenedIn}
use Rattle.fleet_disk.specs.Lending.{IsGiven}
use Rattle.fleet_main.specs.Loans.{AreBack, Each, Loan, TakesBack, lent_by, only_of}
use Rattle.fleet_main.specs.Opening.{NotOpened, NotOpenedIn, nameless, no_disk, no_memory, unopened}
use Rattle.command_words.specs.Twice.{first_twice}
use Rattle.fleet_main.specs.declared.lending.Folders.{Ghosts as FolderGhosts}
use Rattle.fleet_main.proofs.Doing.{KeptThen, kept_opened}
use Rattle.fleet_main.proofs.Loans.{none_lent, one_more_back}
use Rattle.fleet_main.proofs.Opening.{not_opened_under, opened_under, rose_between}

-- names of which none stands twice
not_first : (b : Bool) (n : List ℕ) (rest : Option (List ℕ)) → (if b then Some n else rest) ≡ None → (b ≡ false) × (rest ≡ None)
not_first true n rest e = cc
not_first false n rest e = (refl, e)

pub apart_rest : (n : List ℕ) (ns : List (List ℕ)) → first_twice (n ∷ ns) ≡ None → first_twice ns ≡ None
apart_rest n ns e = (not_first (list_any (bytes_eq n) ns) n (first_twice ns) e).1

neither : (a b : Bool) → (a || b) ≡ false → (a ≡ false) × (b ≡ false)
neither true b e = absurd (true≢false e)
neither false b e = (refl, e)

another : (name n : List ℕ) → bytes_eq name n ≡ false → n ≢ name
another name n e same = true≢false (sym ((bytes_eq-Decides name n).1 (sym same)) ∙ e)

-- of loans
module _ {D : Type 0} where
  each_map : (P Q : Loan D → Type 0) → ((l : Loan D) → P l → Q l) → (ls : List (Loan D)) → Each P ls → Each Q ls
  each_map P Q f [] h = tt
  each_map P Q f (l ∷ ls) h = (f l h.0, each_map P Q f ls h.1)

  each_both : (P Q R : Loan D → Type 0) → ((l : Loan D) → P l → Q l → R l) → (ls : List (Loan D)) → Each P ls → Each Q ls → Each R ls
  each_both P Q R f [] h k = tt
  each_both P Q R f (l ∷ ls) h k = (f l h.0 k.0, each_both P Q R f ls h.1 k.1)

  each_append : (P : Loan D → Type 0) (xs ys : List (Loan D)) → Each P xs → Each P ys → Each P (xs ++ ys)
  each_append P [] ys h k = k
  each_append P (x ∷ xs) ys h k = (h.0, each_append P xs ys h.1 k)

module _ {D : Type 0} {G : Ghosts D} where
  loan_folder : (Q : List ℕ → Type 0) (n : List ℕ) (c : Came G) → Q n → Each (λ l. Q l.folder) (loan_of n c)
  loan_folder Q n (Refused e None) q = tt
  loan_folder Q n (Refused e (Some lent)) q = (q, tt)
  loan_folder Q n (Stood given old new) q = (q, tt)

  -- a name that stands once is no other folder's
  loans_apart : (name : List ℕ) (ns : List (List ℕ)) (cs : List (Came G)) → list_any (bytes_eq name) ns ≡ false → Each (λ l. l.folder ≢ name) (loans_of ns cs)
  loans_apart name [] cs e = tt
  loans_apart name (n ∷ ns) [] e = tt
  loans_apart name (n ∷ ns) (c ∷ cs) e =
      let both = neither (bytes_eq name n) (list_any (bytes_eq name) ns) e in
      each_append (λ l. l.folder ≢ name) (loan_of n c) (loans_of ns cs) (loan_folder (λ f. f ≢ name) n c (another name n both.0)) (loans_apart name ns cs both.1)

-- of places
last_place : (n m : ℕ) → m ≡ n + 1 → n < m
last_place n m e = omega (arith, e)

before_last : (k n m : ℕ) → m ≡ n + 1 → k < n → k < m
before_last k n m e less = omega (arith, e, less)

not_last : (k n : ℕ) → k < n → k ≢ n
not_last k n less same = omega (arith, less, same)

from_none : (n : ℕ) → 0 + n ≡ n
from_none n = omega arith

to_none : (k n : ℕ) → k < 0 + n → k < n
to_none k n less = omega (arith, less)

-- a slot before the next is before this one, or this one
before_next : (slot place next : ℕ) (P : Type 0) → next ≡ place + 1 → slot < next → (slot < place → P) → (slot ≡ place → P) → P
before_next slot place next P counted less first last = by (nat_le place slot) refl
  where
    by : (b : Bool) → nat_le place slot ≡ b → P
    by true e = last (not_before (grind (arith, nat_tests)))
      where
        not_before : place ≤ slot → slot ≡ place
        not_before at = omega (arith, at, counted, less)
    by false e = first (grind (arith, nat_tests))

-- of stores in their slots
module _ {D : Type 0} {G : Ghosts D} where
  stands_snoc : (k : ℕ) (rs : List (Option Refusal)) (r : Option Refusal) (stores : FleetStores D G) → stands k (rs ++ r ∷ []) stores ≡ stands k rs stores ++ stand r (head_at stores (k + length rs)) ∷ []
  stands_snoc k [] r stores = ap (λ n. stand r (head_at stores n) ∷ []) (omega arith)
  stands_snoc k (x ∷ rs) r stores =
      ap (λ ss. stand x (head_at stores k) ∷ ss)
      (stands_snoc (k + 1) rs r stores ∙ ap (λ n. stands (k + 1) rs stores ++ stand r (head_at stores n) ∷ []) (omega arith))

  stands_long : (k : ℕ) (rs : List (Option Refusal)) (stores : FleetStores D G) → length (stands k rs stores) ≡ length rs
  stands_long k [] stores = refl
  stands_long k (r ∷ rs) stores = ap suc (stands_long (k + 1) rs stores)

  -- which slots' mirrors were brought up, where one more folder was refused
  judged_refused : (old new : FleetStores D G) (place next : ℕ) (came : List (Came G)) (e : Refusal) (lent : Option (D × D)) (slot : ℕ) (up : Bool) → next ≡ place + 1 → IsJudgedFrom old new next came slot up
      → IsJudgedFrom old new place (Refused e lent ∷ came) slot up
  judged_refused old new place next came e lent slot up counted (inl j) =
      before_next slot place next (IsJudgedFrom old new place (Refused e lent ∷ came) slot up) counted j.0 (λ less. inl (less, j.1)) (λ at. inr (0, omega (arith, at), tt))
  judged_refused old new place next came e lent slot up counted (inr j) = inr (suc j.0, omega (arith, j.1, counted), j.2)

  -- and where one more was opened
  module _ (up : Bool) (first master later_first later_master : RepoStore D G) (e : later_first ≡ first) (f : later_master ≡ master) where
    out_now : (before after : RepoStore D G) → ComesOutNow up later_first before master after → ComesOutNow up first before later_master after
    out_now before after j = subst (λ m. ComesOutNow up first before m after) (sym f) (subst (λ m. ComesOutNow up m before master after) e j)

    comes_as : (c : Option (Came G)) → ComesAs later_first master c up → ComesAs first later_master c up
    comes_as c j = subst (λ m. ComesAs first m c up) (sym f) (subst (λ m. ComesAs m master c up) e j)

  judged_opened : (old put new left : FleetStores D G) (place next : ℕ) (came : List (Came G)) (given : D) (store now : RepoStore D G) (slot : ℕ) (up : Bool) → next ≡ place + 1 → put.master ≡ old.master → left.master ≡ new.master
      → store_at put place ≡ Some store → store_at new place ≡ Some now → ((other : ℕ) → other ≢ place → store_at put other ≡ store_at old other) → ((other : ℕ) → other ≢ place → store_at left other ≡ store_at new other)
      → IsJudgedFrom put new next came slot up → IsJudgedFrom old left place (Stood given store now ∷ came) slot up
  judged_opened old put new left place next came given store now slot up counted put_master left_master there there_now others others_left (inl j) =
      before_next slot place next (IsJudgedFrom old left place (Stood given store now ∷ came) slot up) counted j.0
      (λ less. inl (
        less,
        λ before after was is. out_now up old.master new.master put.master left.master put_master left_master before after
            (j.1 before after (others slot (not_last slot place less) ∙ was) (sym (others_left slot (not_last slot place less)) ∙ is)),
      ))
      (λ at. inr (0, omega (arith, at), out_now up old.master new.master put.master left.master put_master left_master store now (j.1 store now (ap (store_at put) at ∙ there) (ap (store_at new) at ∙ there_now))))
  judged_opened old put new left place next came given store now slot up counted put_master left_master there there_now others others_left (inr j) =
      inr (suc j.0, omega (arith, j.1, counted), comes_as up old.master new.master put.master left.master put_master left_master (slice_get came j.0) j.2)

  -- where no folder was opened before
  judged_all : (old new : FleetStores D G) (first master : RepoStore D G) (refusals : List (Option Refusal)) (came : List (Came G)) (slot : ℕ) (up : Bool) → refusals ≡ [] → old.master ≡ first → master ≡ new.master
      → IsJudgedFrom old new (length refusals) came slot up → ComesAs first master (slice_get came slot) up
  judged_all old new first master refusals came slot up none e f (inl j) = absurd (let long = ap length none in omega (arith, j.0, long))
  judged_all old new first master refusals came slot up none e f (inr j) =
      let at : j.0 ≡ slot = (let long = ap length none in omega (arith, j.1, long)) in
      comes_as up first new.master old.master master e f (slice_get came slot) (subst (λ k. ComesAs old.master new.master (slice_get came k) up) at j.2)

  stands_same : (k : ℕ) (rs : List (Option Refusal)) (s t : FleetStores D G) → ((n : ℕ) → n < k + length rs → store_at s n ≡ store_at t n) → stands k rs s ≡ stands k rs t
  stands_same k [] s t same = refl
  stands_same k (r ∷ rs) s t same =
      ap (λ o. stand r (option_map (λ x. head_of (revisions_of x)) o) ∷ stands (k + 1) rs s) (same k (omega arith))
      ∙ ap (λ ss. stand r (head_at t k) ∷ ss) (stands_same (k + 1) rs s t (λ n less. same n (omega (arith, less))))

  some_of : (o : Option (RepoStore D G)) → is_some o ≡ true → (s : RepoStore D G) × (o ≡ Some s)
  some_of None e = absurd (true≢false (sym e))
  some_of (Some s) e = (s, refl)

-- what is told by whether slots' mirrors were brought up is so by what follows from that
is_told_so : {D : Type 0} (G : Ghosts D) (P Q : Bool → Type 0) (order : Order) (s : Result ℕ Refusal) (a : Answer) → ((up : Bool) → P up → Q up) → IsTold G P order s a → IsTold G Q order s a
is_told_so G P Q order (Err e) a f h = h
is_told_so G P Q order (Ok head) (Ok n) f h = (h.0, h.1, f true h.2)
is_told_so G P Q order (Ok head) (Err e) f (inl h) = inl h
is_told_so G P Q order (Ok head) (Err e) f (inr h) = inr (h.0, h.1, f false h.2)

told_so : {D : Type 0} (G : Ghosts D) (P Q : ℕ → Bool → Type 0) (slot : ℕ) (ss : List (Result ℕ Refusal)) (as' : List Answer) → ((n : ℕ) → n < slot + length ss → (up : Bool) → P n up → Q n up) → AreTold G P slot ss as' → AreTold G Q slot ss as'
told_so G P Q slot [] [] f h = tt
told_so G P Q slot [] (a ∷ as') f h = absurd h
told_so G P Q slot (s ∷ ss) [] f h = absurd h
told_so G P Q slot (s ∷ ss) (a ∷ as') f h =
    (is_told_so G (P slot) (Q slot) (sync_order slot) s a (f slot (omega arith)) h.0, told_so G P Q (slot + 1) ss as' (λ n less. f n (omega (arith, less))) h.1)

told_by : {D E : Type 0} (G : Ghosts D) (P Q : ℕ → Bool → Type 0) (r : Result (Vec Answer Global) E) (ss ts : List (Result ℕ Refusal)) → ss ≡ ts → ((n : ℕ) → n < length ss → (up : Bool) → P n up → Q n up) → IfOk r (λ told. AreTold G P 0 ss told.items)
    → IfOk r (λ told. AreTold G Q 0 ts told.items)
told_by G P Q (Ok told) ss ts e f h = subst (λ k. AreTold G Q 0 k told.items) e (told_so G P Q 0 ss told.items (λ n less. f n (omega (arith, less))) h)
told_by G P Q (Err x) ss ts e f h = tt

module _ {F D : Type 0} (G : Ghosts D) (H : FolderGhosts F D) where
  -- where one folder is left as it was, and then others
  then_none : (before mid now : F) (rest : List (Loan D)) → AreBack G H before mid [] → AreBack G H mid now rest → AreBack G H before now rest
  then_none before mid now rest a b = record {
    given = λ h. each_map (λ l. IsGiven G (H.disk mid l.folder) l.given) (λ l. IsGiven G (H.disk before l.folder) l.given) (λ l g. subst (λ d. IsGiven G d l.given) (a.others h l.folder tt) g) rest (b.given (a.honest h));
    back = λ h. b.back (a.honest h);
    others = λ h other far. b.others (a.honest h) other far ∙ a.others h other tt;
    honest = λ h. b.honest (a.honest h);
    later = omega (arith, a.later, b.later);
  }

  -- or is back before others are lent
  then_one : (before mid now : F) (folder : List ℕ) (given back : D) (rest : List (Loan D)) → AreBack G H before mid (only_of folder given back) → AreBack G H mid now rest
      → Each (λ l. l.folder ≢ folder) rest → AreBack G H before now (lent_by folder given back ∷ rest)
  then_one before mid now folder given back rest a b apart = record {
    given = λ h. (
      (a.given h).0,
      each_both (λ l. l.folder ≢ folder) (λ l. IsGiven G (H.disk mid l.folder) l.given) (λ l. IsGiven G (H.disk before l.folder) l.given)
          (λ l far g. subst (λ d. IsGiven G d l.given) (a.others h l.folder (far, tt)) g) rest apart (b.given (a.honest h)),
    );
    back = λ h. (
      b.others (a.honest h) folder (each_map (λ l. l.folder ≢ folder) (λ l. folder ≢ l.folder) (λ l far same. far (sym same)) rest apart) ∙ (a.back h).0,
      b.back (a.honest h),
    );
    others = λ h other far. b.others (a.honest h) other far.1 ∙ a.others h other (far.0, tt);
    honest = λ h. b.honest (a.honest h);
    later = omega (arith, a.later, b.later);
  }

  -- a smaller premise
  come_under : (honest less fails more : Type 0) → (less → honest) → (fails → more) → (folder : List ℕ) (c : Came G) → HasCome G honest fails folder c → HasCome G less more folder c
  come_under honest less fails more so also folder (Refused e lent) h = not_opened_under G honest less fails more folder (loan_of {G = G} folder (Refused e lent)) e so also h
  come_under honest less fails more so also folder (Stood given old new) h = (opened_under G honest less given old so h.0, (λ l. h.1 (so l)), h.2)

  all_under : (honest less fails more : Type 0) → (less → honest) → (fails → more) → (ns : List (List ℕ)) (cs : List (Came G)) → AllZip (HasCome G honest fails) ns cs → AllZip (HasCome G less more) ns cs
  all_under honest less fails more so also [] [] h = tt
  all_under honest less fails more so also [] (c ∷ cs) h = absurd h
  all_under honest less fails more so also (n ∷ ns) [] h = absurd h
  all_under honest less fails more so also (n ∷ ns) (c ∷ cs) h = (come_under honest less fails more so also n c h.0, all_under honest less fails more so also ns cs h.1)

  module _ (folders mid now : F) (name : List ℕ) (names : List (List ℕ)) (cs : List (Came G)) where
    rest_under : (H.honest folders → H.honest mid) → H.failures folders ≤ H.failures mid → HaveCome G H mid now names cs
        → AllZip (HasCome G (H.honest folders) (Rose (H.failures folders) (H.failures now))) names cs
    rest_under so first come = all_under _ _ _ _ so (rose_between (H.failures folders) (H.failures mid) (H.failures now) (H.failures now) first (omega arith)) names cs come.each

    unlent : (e : Refusal) → NotOpened G (H.honest folders) (Rose (H.failures folders) (H.failures mid)) name [] e → AreBack G H folders mid [] → HaveCome G H mid now names cs
        → HaveCome G H folders now (name ∷ names) (Refused e None ∷ cs)
    unlent e why a come = record {
      each = (
        not_opened_under G (H.honest folders) (H.honest folders) _ _ name [] e (λ h. h) (rose_between (H.failures folders) (H.failures folders) (H.failures mid) (H.failures now) (omega arith) come.later) why,
        rest_under a.honest a.later come,
      );
      back = λ rules. then_none folders mid now (loans_of names cs) a (come.back rules);
      later = omega (arith, a.later, come.later);
    }

    lent_back : (e : Refusal) (given back : D) → NotOpened G (H.honest folders) (Rose (H.failures folders) (H.failures mid)) name (only_of name given back) e → AreBack G H folders mid (only_of name given back)
        → first_twice (name ∷ names) ≡ None → HaveCome G H mid now names cs → HaveCome G H folders now (name ∷ names) (Refused e (Some (given, back)) ∷ cs)
    lent_back e given back why a apart come = record {
      each = (
        not_opened_under G (H.honest folders) (H.honest folders) _ _ name (only_of name given back) e (λ h. h)
            (rose_between (H.failures folders) (H.failures folders) (H.failures mid) (H.failures now) (omega arith) come.later) why,
        rest_under a.honest a.later come,
      );
      back = λ rules. then_one folders mid now name given back (loans_of names cs) a (come.back rules.1)
          (loans_apart name names cs (not_first (list_any (bytes_eq name) names) name (first_twice names) apart).0);
      later = omega (arith, a.later, come.later);
    }

    -- a repository isn't opened, and then others come
    unopened_by : (e : Refusal) (loans : List (Loan D)) → NotOpened G (H.honest folders) (Rose (H.failures folders) (H.failures mid)) name loans e → AreBack G H folders mid loans
        → first_twice (name ∷ names) ≡ None → HaveCome G H mid now names cs → (lent : Option (D × D)) × HaveCome G H folders now (name ∷ names) (Refused e lent ∷ cs)
    unopened_by e loans (nameless h n l) a apart come = (None, unlent e (nameless h n refl) (subst (AreBack G H folders mid) l a) come)
    unopened_by e loans (no_disk h f l) a apart come = (None, unlent e (no_disk h f refl) (subst (AreBack G H folders mid) l a) come)
    unopened_by e loans (no_memory h l) a apart come = (None, unlent e (no_memory h refl) (subst (AreBack G H folders mid) l a) come)
    unopened_by e loans (unopened given back l u) a apart come = (Some (given, back), lent_back e given back (unopened given back refl u) (subst (AreBack G H folders mid) l a) apart come)

    pub unopened_then : (e : Refusal) → NotOpenedIn G H folders mid name e → first_twice (name ∷ names) ≡ None → HaveCome G H mid now names cs
        → (lent : Option (D × D)) × HaveCome G H folders now (name ∷ names) (Refused e lent ∷ cs)
    unopened_then e n apart come = unopened_by e n.0 n.1 n.2 apart come

    -- a store is opened, others come, and it is back
    pub stood_then : (last : F) (old new : RepoStore D G) (o : IsOpenedIn G H folders mid name old) → KeptThen old → StoreIsKept new → HaveCome G H mid now names cs → TakesBack G H now last name (disk_of new)
        → HaveCome G H folders last (name ∷ names) (Stood o.0 old new ∷ cs)
    stood_then last old new o k kept come t = record {
      each = (
        (o.2, kept_opened (H.honest folders) o.0 old o.2 k, kept),
        all_under _ _ _ _ o.1.honest (rose_between (H.failures folders) (H.failures mid) (H.failures now) (H.failures last) o.1.later t.later) names cs come.each,
      );
      back = λ rules. one_more_back G H folders mid now last name o.0 (disk_of new) (loans_of names cs) o.1 (come.back rules.1) (λ h. rules.0) t;
      later = omega (arith, o.1.later, come.later, t.later);
    }

  -- the fleet is run where no folder is left
  pub brought_none : {E : Type 0} (folders : F) (names : List (List ℕ)) (refusals : List (Option Refusal)) (old new : FleetStores D G) (answers : Result (Vec Answer Global) E) → names ≡ []
      → SameSlots old new → IfOk answers (λ told. AreTold G (IsJudged old new) 0 (stands 0 refusals new) told.items) → AreBrought G H folders folders names refusals old new answers
  brought_none folders names refusals old new answers none same told =
      subst (λ ns. AreBrought G H folders folders ns refusals old new answers) (sym none) (record {
        came = [];
        come = record { each = tt; back = λ rules. none_lent G H folders; later = omega arith };
        slots = λ slot less. same slot;
        told = told_by G (IsJudged old new) (IsJudgedFrom old new (length refusals) []) answers _ _ (sym (append-nil (stands 0 refusals new)))
            (λ n less up j. inl (let long = stands_long 0 refusals new in omega (arith, less, long), j)) told;
      })

  module _ {E : Type 0} (folders mid now : F) (name : List ℕ) (names : List (List ℕ)) (refusals more : List (Option Refusal)) (answers : Result (Vec Answer Global) E) where
    -- one isn't opened
    pub brought_refused : (e : Refusal) (old new : FleetStores D G) → NotOpenedIn G H folders mid name e → first_twice (name ∷ names) ≡ None → more ≡ refusals ++ Some e ∷ []
        → AreBrought G H mid now names more old new answers → AreBrought G H folders now (name ∷ names) refusals old new answers
    brought_refused e old new n apart pushed b =
        let u = unopened_then folders mid now name names b.came e n apart b.come in
        record {
          came = Refused e u.0 ∷ b.came;
          come = u.1;
          slots = λ slot less. b.slots slot (before_last slot (length refusals) (length more) (ap length pushed ∙ length-append refusals (Some e ∷ [])) less);
          told = told_by G (IsJudgedFrom old new (length more) b.came) (IsJudgedFrom old new (length refusals) (Refused e u.0 ∷ b.came)) answers _ _
              (ap (λ rs. stands 0 rs new ++ map standing b.came) pushed
              ∙ (ap (λ ss. ss ++ map standing b.came) (stands_snoc 0 refusals (Some e) new)
              ∙ append_assoc (stands 0 refusals new) (Err e ∷ []) (map standing b.came)))
              (λ n less up j. judged_refused old new (length refusals) (length more) b.came e u.0 n up (ap length pushed ∙ length-append refusals (Some e ∷ [])) j) b.told;
        }

    -- one is opened, in the slot behind the others
    pub brought_opened : (last : F) (store : RepoStore D G) (old put new left : FleetStores D G) → put.master ≡ old.master → left.master ≡ new.master → IsOpenedIn G H folders mid name store → KeptThen store → more ≡ refusals ++ None ∷ []
        → store_at put (length refusals) ≡ Some store → ((other : ℕ) → other ≢ length refusals → store_at put other ≡ store_at old other) → AreBrought G H mid now names more put new answers
        → IfSome (store_at new (length refusals)) (λ s. TakesBack G H now last name (disk_of s) × StoreIsKept s) → ((other : ℕ) → other ≢ length refusals → store_at left other ≡ store_at new other)
        → AreBrought G H folders last (name ∷ names) refusals old left answers
    brought_opened last store old put new left put_master left_master o k pushed there others b back others_left =
        let counted = ap length pushed ∙ length-append refusals (None ∷ []) in
        let s = some_of (store_at new (length refusals)) (b.slots (length refusals) (last_place (length refusals) (length more) counted) ∙ ap is_some there) in
        let came_back = subst (λ x. IfSome x (λ s. TakesBack G H now last name (disk_of s) × StoreIsKept s)) s.1 back in
        record {
          came = Stood o.0 store s.0 ∷ b.came;
          come = stood_then folders mid now name names b.came last store s.0 o k came_back.1 b.come came_back.0;
          slots = λ slot less.
              ap is_some (others_left slot (not_last slot (length refusals) less))
              ∙ (b.slots slot (before_last slot (length refusals) (length more) counted less) ∙ ap is_some (others slot (not_last slot (length refusals) less)));
          told = told_by G (IsJudgedFrom put new (length more) b.came) (IsJudgedFrom old left (length refusals) (Stood o.0 store s.0 ∷ b.came)) answers _ _
              (ap (λ rs. stands 0 rs new ++ map standing b.came) pushed
              ∙ (ap (λ ss. ss ++ map standing b.came) (stands_snoc 0 refusals None new)
              ∙ (ap (λ x. (stands 0 refusals new ++ stand None (option_map (λ r. head_of (revisions_of r)) x) ∷ []) ++ map standing b.came) (ap (store_at new) (from_none (length refusals)) ∙ s.1)
              ∙ (append_assoc (stands 0 refusals new) (Ok (head_of (revisions_of s.0)) ∷ []) (map standing b.came)
              ∙ ap (λ ss. ss ++ Ok (head_of (revisions_of s.0)) ∷ map standing b.came) (stands_same 0 refusals new left (λ n less. sym (others_left n (not_last n (length refusals) (to_none n (length refusals) less)))))))))
              (λ n less up j. judged_opened old put new left (length refusals) (length more) b.came o.0 store s.0 n up counted put_master left_master there s.1 others others_left j) b.told;
        }

    pub brought_opened_at : (last : F) (store : RepoStore D G) (old put new left : FleetStores D G) (slot : ℕ) → slot ≡ length refusals → put.master ≡ old.master → left.master ≡ new.master → IsOpenedIn G H folders mid name store → KeptThen store
        → more ≡ refusals ++ None ∷ [] → store_at put slot ≡ Some store → ((other : ℕ) → other ≢ slot → store_at put other ≡ store_at old other) → AreBrought G H mid now names more put new answers
        → IfSome (store_at new slot) (λ s. TakesBack G H now last name (disk_of s) × StoreIsKept s) → ((other : ℕ) → other ≢ slot → store_at left other ≡ store_at new other)
        → AreBrought G H folders last (name ∷ names) refusals old left answers
    brought_opened_at last store old put new left slot at put_master left_master o k pushed there others b back others_left =
        brought_opened last store old put new left put_master left_master o k pushed (subst (λ n. store_at put n ≡ Some store) at there)
        (subst (λ n. (other : ℕ) → other ≢ n → store_at put other ≡ store_at old other) at others) b
        (subst (λ n. IfSome (store_at new n) (λ s. TakesBack G H now last name (disk_of s) × StoreIsKept s)) at back)
        (subst (λ n. (other : ℕ) → other ≢ n → store_at left other ≡ store_at new other) at others_left)

  -- of folders by their texts
  pub brought_at : {E : Type 0} (folders later : F) (ns ms : List (List ℕ)) (refusals : List (Option Refusal)) (old new : FleetStores D G) (answers : Result (Vec Answer Global) E) → ns ≡ ms
      → AreBrought G H folders later ns refusals old new answers → AreBrought G H folders later ms refusals old new answers
  brought_at folders later ns ms refusals old new answers same b = subst (λ k. AreBrought G H folders later k refusals old new answers) same b

  -- what is told, if it is
  abbrev pub ToldOf : {E : Type 0} → Result (Vec Answer Global) E → RepoStore D G → RepoStore D G → List (Came G) → Type 0
  ToldOf answers first master came = IfOk answers (λ told. AreToldOf G told.items first master came)

  -- the master is back last
  pub fleet_stood : {E : Type 0} (folders mid now last : F) (master : List ℕ) (names : List (List ℕ)) (refusals : List (Option Refusal)) (store new_store : RepoStore D G) (old new : FleetStores D G)
      (answers : Result (Vec Answer Global) E) (o : IsOpenedIn G H folders mid master store) → KeptThen store → StoreIsKept new_store → refusals ≡ [] → old.master ≡ store → new_store ≡ new.master → AreBrought G H mid now names refusals old new answers
      → TakesBack G H now last master (disk_of new_store) → OfFleet G H folders last master names (ToldOf answers)
  fleet_stood folders mid now last master names refusals store new_store old new answers o k kept none first last_store b t = record {
    given = o.0;
    old = store;
    new = new_store;
    came = b.came;
    come = stood_then folders mid now master names b.came last store new_store o k kept b.come t;
    done = told_by G (IsJudgedFrom old new (length refusals) b.came) (λ slot. ComesAs store new_store (slice_get b.came slot)) answers _ _ (ap (λ rs. stands 0 rs new ++ map standing b.came) none)
        (λ n less up j. judged_all old new store new_store refusals b.came n up none first last_store j) b.told;
  }

  fleet_as : (folders later : F) (master : List ℕ) (names : List (List ℕ)) (P Q : RepoStore D G → RepoStore D G → List (Came G) → Type 0) → ((a b : RepoStore D G) (cs : List (Came G)) → P a b cs → Q a b cs)
      → OfFleet G H folders later master names P → OfFleet G H folders later master names Q
  fleet_as folders later master names P Q f b = record { given = b.given; old = b.old; new = b.new; came = b.came; come = b.come; done = f b.old b.new b.came b.done }

  pub fleet_done : {E : Type 0} (folders later : F) (master : List ℕ) (names : List (List ℕ)) (answers : Result (Vec Answer Global) E) (r : Result (Vec Answer Global) Refusal) → IfOk r (λ told. answers ≡ Ok told)
      → OfFleet G H folders later master names (ToldOf answers) → IfOk r (λ told. OfFleet G H folders later master names (AreToldOf G told.items))
  fleet_done {E = E} folders later master names answers (Ok told) e b =
      fleet_as folders later master names (ToldOf answers) (AreToldOf G told.items) (λ x y cs h. subst (λ (a : Result (Vec Answer Global) E). ToldOf a x y cs) e h) b
  fleet_done folders later master names answers (Err x) e b = tt

  pub fleet_refused : {E : Type 0} (folders later : F) (master : List ℕ) (names : List (List ℕ)) (answers : Result (Vec Answer Global) E) (r : Result (Vec Answer Global) Refusal) → IfErr r (λ e. e ≡ refusal.OutOfMemory)
      → OfFleet G H folders later master names (ToldOf answers) → IfErr r (NotBrought G H folders later master names)
  fleet_refused folders later master names answers (Ok told) e b = tt
  fleet_refused folders later master names answers (Err x) e b = inr (e, inr (fleet_as folders later master names (ToldOf answers) (AreUntold G) (λ x y cs h. tt) b))

  -- what is told is written in the lines
  pub telling : (folders later : F) (m master : List ℕ) (ms names : List (List ℕ)) (told : List Answer) (written : List ℕ) (before now : Option (List ℕ)) (done : Bool) → m ≡ master → ms ≡ names
      → OfFleet G H folders later m ms (AreToldOf G told) → done ≡ list_all is_ok told → written ≡ lines_of ms told → Appends before now written
      → OfFleet G H folders later master names (IsTelling G names done before now)
  telling folders later m master ms names told written before now done same all b each lines more =
      subst (λ k. OfFleet G H folders later k names (IsTelling G names done before now)) same
      (subst (λ k. OfFleet G H folders later m k (IsTelling G k done before now)) all
      (fleet_as folders later m ms (AreToldOf G told) (IsTelling G ms done before now) (λ x y cs h. (told, h, sym each, subst (Appends before now) lines more)) b))

  -- or isn't told
  pub untold : (folders later : F) (m master : List ℕ) (ms names : List (List ℕ)) (told : List Answer) → m ≡ master → ms ≡ names → OfFleet G H folders later m ms (AreToldOf G told)
      → OfFleet G H folders later master names (AreUntold G)
  untold folders later m master ms names told same all b =
      subst (λ k. OfFleet G H folders later k names (AreUntold G)) same
      (subst (λ k. OfFleet G H folders later m k (AreUntold G)) all (fleet_as folders later m ms (AreToldOf G told) (AreUntold G) (λ x y cs h. tt) b))

  -- by the texts of the words
  pub not_brought_at : (folders later : F) (m master : List ℕ) (ms names : List (List ℕ)) (e : Refusal) → m ≡ master → ms ≡ names → NotBrought G H folders later m ms e → NotBrought G H folders later master names e
  not_brought_at folders later m master ms names e same all b = subst (λ k. NotBrought G H folders later k names e) same (subst (λ k. NotBrought G H folders later m k e) all b)
