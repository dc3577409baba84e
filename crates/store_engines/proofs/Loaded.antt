-- A whole load, from its records.
use Rattle.std.proofs.Common.{◌≡◌, ℕ, ◌⊎◌, Bool, true, false, List, [], ◌∷◌, ◌++◌, Option, None, IfSome, Result, Ok, Err, IfErr, refl, sym, ap, subst, ◌∙◌, append_assoc, append-nil, inl, inr}
use Rattle.std.specs.List.{filter}
use Rattle.std.specs.Result.{OnOk}
use Rattle.std.proofs.lemmas.Bool.{true≢false}
use Rattle.std.proofs.lemmas.List.Elements.{filter-append}
use Rattle.byte_streams.specs.Causes.{Rose}
use Rattle.node_base.specs.declared.refusal.Refusal.{Refusal}
use Rattle.node_base.specs.declared.refusal.Refusal.TheVariants.{OutOfMemory, PeerFailed}
use Rattle.dump_text.specs.Faults.{dump_refusal}
use Rattle.dump_text.specs.Streams.{dump_by, records_of}
use Rattle.dump_text.specs.declared.fault.DumpFault.{DumpFault}
use Rattle.dump_text.specs.declared.fault.DumpFault.TheVariants as fault
use Rattle.dump_text.specs.declared.record.DumpRecord.{DumpRecord}
use Rattle.fleet_disk.specs.declared.disk.Disk.{Ghosts}
use Rattle.repo_core.specs.Repository.{Repository}
use Rattle.repo_store.specs.Words.{repository_of}
use Rattle.repo_store.specs.declared.store.RepoStore.{RepoStore}
use Rattle.fleet_engines.specs.Grouping.{is_no_identity}
use Rattle.fleet_engines.specs.Runs.{Counted}
use Rattle.fleet_engines.specs.Takers.{Place, TakesAll, Done, Halts, OfStream, record_refused, byte_refused, cut_short, end_refused, stopped}
use Rattle.fleet_engines.proofs.Behind.{is_spent, not_spent}
use Rattle.fleet_engines.proofs.Streaming.{of_some, of_stream}
use Rattle.store_engines.specs.Devices.{is_device, IsSafe}
use Rattle.store_engines.specs.Loaders.{last_of, Goes, StandsAt, TakesRecord, RefusesRecord, EndsLoad, CantEndLoad}
use Rattle.store_engines.specs.Loads.{read_of, CantClose, CantTake, Gathered, Loaded, Moves, Refused, ServesRecords, Stands}
use Rattle.store_engines.specs.Loads.{at_record, at_byte, cut_short as is_cut, at_end, stopped as is_stopped}
use Rattle.store_engines.specs.Telling.{KeepsTold}
use Rattle.store_engines.specs.declared.load.Loader.{Loader}
use Rattle.store_engines.specs.declared.report.LoadReport.{Ghosts as ReportGhosts}
use Rattle.store_engines.proofs.Loading.{first_stands}
use Rattle.store_engines.proofs.Serving.{nothing, records_behind, records_on, records_then, refused_left}
use Rattle.store_engines.proofs.Telling.{works_on}

-- a fault of the text doesn't tell of the device
not_device : (f : DumpFault) → is_spent f ≡ false → is_device (dump_refusal f) ≡ false
not_device fault.BadVersion h = refl
not_device fault.BadHeader h = refl
not_device fault.BadNumber h = refl
not_device fault.BadLength h = refl
not_device fault.BadProps h = refl
not_device fault.BadSum h = refl
not_device fault.Truncated h = refl
not_device fault.TooLong h = refl
not_device fault.TextDelta h = refl
not_device fault.BadPath h = refl
not_device fault.Failed h = absurd (true≢false h)
not_device fault.OutOfMemory h = refl

lacks_no_device : (e : Refusal) → (e ≡ OutOfMemory) ⊎ (e ≡ PeerFailed) → is_device e ≡ false
lacks_no_device e (inl m) = ap is_device m
lacks_no_device e (inr p) = ap is_device p

module _ {D T : Type 0} {G : Ghosts D} (R : ReportGhosts T) where
  -- ---- one call

  pub taken_ok : (p : Place Loader (RepoStore D G) T) (next : DumpRecord) (q : Place Loader (RepoStore D G) T) (r : Result (Unit {0}) Refusal) → OnOk r (Moves (repository_of p.store) (last_of p.taker) (R.contents p.output) (next ∷ []) (repository_of q.store) (last_of q.taker) (R.contents q.output))
      → (IsSafe p.store → ServesRecords (read_of (last_of p.taker) ++ filter is_no_identity (next ∷ [])) p.store q.store r (read_of (last_of q.taker))) → KeepsTold p.store q.store (R.told p.output) (R.told q.output) → Counted r (R.failures p.output) (R.failures q.output) → OnOk r (TakesRecord R p next q)
  taken_ok p next q (Ok u) moves served told works = record { moves = moves; goes = record { served = served; told = told }; works = works }
  taken_ok p next q (Err e) moves served told works = tt

  pub taken_err : (p : Place Loader (RepoStore D G) T) (next : DumpRecord) (q : Place Loader (RepoStore D G) T) (r : Result (Unit {0}) Refusal)
      → IfErr r (λ e. (x : Repository) (rs : List DumpRecord) (start : Option (List ℕ)) → StandsAt R x rs start p → CantTake x rs next q.store start (R.contents q.output) (Rose (R.failures p.output) (R.failures q.output)) e)
      → (IsSafe p.store → ServesRecords (read_of (last_of p.taker) ++ filter is_no_identity (next ∷ [])) p.store q.store r (read_of (last_of q.taker))) → KeepsTold p.store q.store (R.told p.output) (R.told q.output) → IfErr r (λ e. RefusesRecord R p next e q)
  taken_err p next q (Ok u) why served told = tt
  taken_err p next q (Err e) why served told = record { why = why; goes = record { served = served; told = told } }

  pub ended_ok : (p q : Place Loader (RepoStore D G) T) (r : Result (Unit {0}) Refusal) → OnOk r ((x : Repository) (rs : List DumpRecord) (start : Option (List ℕ)) → StandsAt R x rs start p → Gathered x rs (repository_of q.store) start (R.contents q.output))
      → (IsSafe p.store → ServesRecords (read_of (last_of p.taker)) p.store q.store r []) → KeepsTold p.store q.store (R.told p.output) (R.told q.output) → OnOk r (EndsLoad R p q)
  ended_ok p q (Ok u) gathers served told = record { gathers = gathers; goes = record { served = served; told = told } }
  ended_ok p q (Err e) gathers served told = tt

  pub ended_err : (p q : Place Loader (RepoStore D G) T) (r : Result (Unit {0}) Refusal)
      → IfErr r (λ e. (x : Repository) (rs : List DumpRecord) (start : Option (List ℕ)) → StandsAt R x rs start p → CantClose x rs q.store start (R.contents q.output) (Rose (R.failures p.output) (R.failures q.output)) e)
      → (IsSafe p.store → ServesRecords (read_of (last_of p.taker)) p.store q.store r []) → KeepsTold p.store q.store (R.told p.output) (R.told q.output) → IfErr r (λ e. CantEndLoad R p e q)
  ended_err p q (Ok u) why served told = tt
  ended_err p q (Err e) why served told = record { why = why; goes = record { served = served; told = told } }

  -- ---- calls one after another

  -- one behind others
  goes_on : (ahead mid left : List DumpRecord) (p m q : Place Loader (RepoStore D G) T) (r : Result (Unit {0}) Refusal) → Goes R ahead p m (Ok tt) mid → Goes R mid m q r left → Goes R ahead p q r left
  goes_on ahead mid left p m q r a b = record {
    served = λ safe. let s = a.served safe in records_on ahead mid left p.store m.store q.store tt r s (b.served s.serves.safe);
    told = λ safe works h. let s = (a.served safe).serves in b.told s.safe (works_on p.store m.store tt s works) (a.told safe works h);
  }

  -- with more records behind
  goes_before : (ahead left tail : List DumpRecord) (p q : Place Loader (RepoStore D G) T) (r : Result (Unit {0}) Refusal) → Goes R ahead p q r left → Goes R (ahead ++ tail) p q r (left ++ tail)
  goes_before ahead left tail p q r a = record { served = λ safe. records_behind ahead left tail p.store q.store r (a.served safe); told = a.told }

  -- refused for another reason
  goes_then : (ahead mid : List DumpRecord) (p q : Place Loader (RepoStore D G) T) (e : Refusal) → is_device e ≡ false → Goes R ahead p q (Ok tt) mid → Goes R ahead p q (Err e) []
  goes_then ahead mid p q e other a = record { served = λ safe. records_then ahead mid [] p.store q.store tt (Err e) other tt (a.served safe); told = a.told }

  goes_left : (ahead left : List DumpRecord) (p q : Place Loader (RepoStore D G) T) (e : Refusal) → Goes R ahead p q (Err e) left → Goes R ahead p q (Err e) []
  goes_left ahead left p q e a = record { served = λ safe. refused_left ahead left [] p.store q.store e (a.served safe); told = a.told }

  none_goes : (p : Place Loader (RepoStore D G) T) → Goes R (read_of (last_of p.taker) ++ []) p p (Ok tt) (read_of (last_of p.taker))
  none_goes p = let last = read_of (last_of p.taker) in record { served = λ safe. nothing (last ++ []) last p.store (Ok tt) tt (append-nil last) safe; told = λ safe works h. h }

  one_goes : (next : DumpRecord) (rs left : List DumpRecord) (p m q : Place Loader (RepoStore D G) T) (r : Result (Unit {0}) Refusal) → Goes R (read_of (last_of p.taker) ++ filter is_no_identity (next ∷ [])) p m (Ok tt) (read_of (last_of m.taker)) → Goes R (read_of (last_of m.taker) ++ filter is_no_identity rs) m q r left
      → Goes R (read_of (last_of p.taker) ++ filter is_no_identity (next ∷ rs)) p q r left
  one_goes next rs left p m q r a b =
      let last = read_of (last_of p.taker) in
      let one = filter is_no_identity (next ∷ []) in
      let others = filter is_no_identity rs in
      subst (λ l. Goes R l p q r left) (append_assoc last one others ∙ ap (λ l. last ++ l) (sym (filter-append is_no_identity (next ∷ []) rs)))
      (goes_on ((last ++ one) ++ others) (read_of (last_of m.taker) ++ others) left p m q r (goes_before (last ++ one) (read_of (last_of m.taker)) others p m (Ok tt) a) b)

  all_go : (rs : List DumpRecord) (p q : Place Loader (RepoStore D G) T) → TakesAll (TakesRecord R) p rs q → Goes R (read_of (last_of p.taker) ++ filter is_no_identity rs) p q (Ok tt) (read_of (last_of q.taker))
  all_go [] p q t = subst (λ z. Goes R (read_of (last_of p.taker) ++ []) p z (Ok tt) (read_of (last_of z.taker))) (sym t) (none_goes p)
  all_go (next ∷ rs) p q t = one_goes next rs (read_of (last_of q.taker)) p t.0 q (Ok tt) t.1.goes (all_go rs t.0 q t.2)

  all_work : (rs : List DumpRecord) (p q : Place Loader (RepoStore D G) T) → TakesAll (TakesRecord R) p rs q → R.failures q.output ≡ R.failures p.output
  all_work [] p q t = ap (λ z. R.failures z.output) t
  all_work (next ∷ rs) p q t = all_work rs t.0 q t.2 ∙ t.1.works

  stands_on : (x : Repository) (rs more : List DumpRecord) (start : Option (List ℕ)) (p q : Place Loader (RepoStore D G) T) → StandsAt R x rs start p → TakesAll (TakesRecord R) p more q → StandsAt R x (rs ++ more) start q
  stands_on x rs [] start p q s t = subst (λ l. StandsAt R x l start q) (sym (append-nil rs)) (subst (λ z. StandsAt R x rs start z) (sym t) s)
  stands_on x rs (next ∷ more) start p q s t = subst (λ l. StandsAt R x l start q) (append_assoc rs (next ∷ []) more) (stands_on x (rs ++ next ∷ []) more start t.0 q (t.1.moves x rs start s) t.2)

  -- ---- from the first record on

  all_stand : (rs : List DumpRecord) (p q : Place Loader (RepoStore D G) T) → last_of p.taker ≡ None → TakesAll (TakesRecord R) p rs q → StandsAt R (repository_of p.store) rs (R.contents p.output) q
  all_stand rs p q none t =
      let x = repository_of p.store in
      let start = R.contents p.output in
      stands_on x [] rs start p q (subst (λ l. Stands x [] x l start start) (sym none) (first_stands x start)) t

  from_first : (rs : List DumpRecord) (p q : Place Loader (RepoStore D G) T) → last_of p.taker ≡ None → TakesAll (TakesRecord R) p rs q → Goes R (filter is_no_identity rs) p q (Ok tt) (read_of (last_of q.taker))
  from_first rs p q none t = subst (λ l. Goes R (read_of l ++ filter is_no_identity rs) p q (Ok tt) (read_of (last_of q.taker))) none (all_go rs p q t)

  pub loaded : (deltas : Bool) (bytes : List ℕ) (p q : Place Loader (RepoStore D G) T) → Done deltas (TakesRecord R) (EndsLoad R) bytes p q → last_of p.taker ≡ None → Loaded deltas (repository_of p.store) bytes (repository_of q.store) (R.contents p.output) (R.contents q.output)
  loaded deltas bytes p q d none =
      let rs = d.reached.records in
      record { records = rs; reader = d.reader; read = d.reached.read; ended = d.ended; gathered = d.end.gathers (repository_of p.store) rs (R.contents p.output) (all_stand rs p d.before none d.reached.taken) }

  pub not_loaded : (deltas : Bool) (bytes : List ℕ) (p : Place Loader (RepoStore D G) T) (e : Refusal) (q : Place Loader (RepoStore D G) T) → Halts deltas (TakesRecord R) (RefusesRecord R) (CantEndLoad R) bytes p e q → last_of p.taker ≡ None
      → Refused deltas (repository_of p.store) bytes q.store (R.contents p.output) (R.contents q.output) (Rose (R.failures p.output) (R.failures q.output)) e
  not_loaded deltas bytes p e q (record_refused rs next more before is taken why) none =
      let x = repository_of p.store in
      let start = R.contents p.output in
      at_record rs next more is (subst (λ n. CantTake x rs next q.store start (R.contents q.output) (Rose n (R.failures q.output)) e) (all_work rs p before taken) (why.why x rs start (all_stand rs p before none taken)))
  not_loaded deltas bytes p e q (byte_refused rs f is taken d) none = at_byte rs f (last_of q.taker) is (all_stand rs p q none taken) d
  not_loaded deltas bytes p e q (cut_short reader r between d) none = is_cut r.records reader (last_of q.taker) r.read between (all_stand r.records p q none r.taken) d
  not_loaded deltas bytes p e q (end_refused reader before r between why) none =
      let x = repository_of p.store in
      let rs = r.records in
      let start = R.contents p.output in
      at_end rs reader r.read between (subst (λ n. CantClose x rs q.store start (R.contents q.output) (Rose n (R.failures q.output)) e) (all_work rs p before r.taken) (why.why x rs start (all_stand rs p before none r.taken)))
  not_loaded deltas bytes p e q (stopped rs more is taken w) none = is_stopped rs more (last_of q.taker) is (all_stand rs p q none taken) w

  -- what it did to the device, and what it told
  done_goes : (deltas : Bool) (bytes : List ℕ) (p q : Place Loader (RepoStore D G) T) → Done deltas (TakesRecord R) (EndsLoad R) bytes p q → last_of p.taker ≡ None → Goes R (filter is_no_identity (records_of (dump_by deltas bytes))) p q (Ok tt) []
  done_goes deltas bytes p q d none =
      let rs = d.reached.records in
      subst (λ l. Goes R (filter is_no_identity l) p q (Ok tt) []) (sym (ap records_of d.reached.read))
      (goes_on (filter is_no_identity rs) (read_of (last_of d.before.taker)) [] p d.before q (Ok tt) (from_first rs p d.before none d.reached.taken) d.end.goes)

  halted_goes : (deltas : Bool) (bytes : List ℕ) (p : Place Loader (RepoStore D G) T) (e : Refusal) (q : Place Loader (RepoStore D G) T) → Halts deltas (TakesRecord R) (RefusesRecord R) (CantEndLoad R) bytes p e q → last_of p.taker ≡ None → Goes R (filter is_no_identity (records_of (dump_by deltas bytes))) p q (Err e) []
  halted_goes deltas bytes p e q (record_refused rs next more before is taken why) none =
      let f = filter is_no_identity in
      let last = read_of (last_of before.taker) in
      let left = read_of (last_of q.taker) ++ f more in
      let all : f rs ++ f (next ∷ more) ≡ f (records_of (dump_by deltas bytes)) = sym (filter-append is_no_identity rs (next ∷ more)) ∙ ap f (sym is) in
      let behind : (last ++ f (next ∷ [])) ++ f more ≡ last ++ f (next ∷ more) = append_assoc last (f (next ∷ [])) (f more) ∙ ap (λ l. last ++ l) (sym (filter-append is_no_identity (next ∷ []) more)) in
      subst (λ l. Goes R l p q (Err e) []) all
      (goes_left (f rs ++ f (next ∷ more)) left p q e
      (goes_on (f rs ++ f (next ∷ more)) (last ++ f (next ∷ more)) left p before q (Err e) (goes_before (f rs) last (f (next ∷ more)) p before (Ok tt) (from_first rs p before none taken))
      (subst (λ l. Goes R l before q (Err e) left) behind (goes_before (last ++ f (next ∷ [])) (read_of (last_of q.taker)) (f more) before q (Err e) why.goes))))
  halted_goes deltas bytes p e q (byte_refused rs f is taken d) none =
      subst (λ l. Goes R (filter is_no_identity l) p q (Err e) []) (sym (ap records_of is))
      (goes_then (filter is_no_identity rs) (read_of (last_of q.taker)) p q e (ap is_device d ∙ not_device f (not_spent deltas bytes rs f is)) (from_first rs p q none taken))
  halted_goes deltas bytes p e q (cut_short reader r between d) none =
      subst (λ l. Goes R (filter is_no_identity l) p q (Err e) []) (sym (ap records_of r.read))
      (goes_then (filter is_no_identity r.records) (read_of (last_of q.taker)) p q e (ap is_device d) (from_first r.records p q none r.taken))
  halted_goes deltas bytes p e q (end_refused reader before r between why) none =
      subst (λ l. Goes R (filter is_no_identity l) p q (Err e) []) (sym (ap records_of r.read))
      (goes_on (filter is_no_identity r.records) (read_of (last_of before.taker)) [] p before q (Err e) (from_first r.records p before none r.taken) why.goes)
  halted_goes deltas bytes p e q (stopped rs more is taken w) none =
      let f = filter is_no_identity in
      let last = read_of (last_of q.taker) in
      subst (λ l. Goes R l p q (Err e) []) (sym (filter-append is_no_identity rs more) ∙ ap f (sym is))
      (goes_then (f rs ++ f more) (last ++ f more) p q e (lacks_no_device e w) (goes_before (f rs) last (f more) p q (Ok tt) (from_first rs p q none taken)))

  -- of known bytes, and of some
  pub goes_known : (deltas : Bool) (r : Result (Unit {0}) Refusal) (a b : Option (List ℕ)) (p q : Place Loader (RepoStore D G) T) → OnOk r (OfStream a b (λ bytes. Done deltas (TakesRecord R) (EndsLoad R) bytes p q)) → IfErr r (λ e. OfStream a b (λ bytes. Halts deltas (TakesRecord R) (RefusesRecord R) (CantEndLoad R) bytes p e q))
      → last_of p.taker ≡ None → IfSome a (λ bytes. Goes R (filter is_no_identity (records_of (dump_by deltas bytes))) p q r [])
  goes_known deltas (Ok u) a b p q ok err none = of_stream a b _ (λ bytes. Goes R (filter is_no_identity (records_of (dump_by deltas bytes))) p q (Ok tt) []) ok (λ bytes d. done_goes deltas bytes p q d none)
  goes_known deltas (Err e) a b p q ok err none = of_stream a b _ (λ bytes. Goes R (filter is_no_identity (records_of (dump_by deltas bytes))) p q (Err e) []) err (λ bytes h. halted_goes deltas bytes p e q h none)

  pub goes_some : (deltas : Bool) (r : Result (Unit {0}) Refusal) (a b : Option (List ℕ)) (p q : Place Loader (RepoStore D G) T) → OnOk r (OfStream a b (λ bytes. Done deltas (TakesRecord R) (EndsLoad R) bytes p q)) → IfErr r (λ e. OfStream a b (λ bytes. Halts deltas (TakesRecord R) (RefusesRecord R) (CantEndLoad R) bytes p e q))
      → last_of p.taker ≡ None → (bytes : List ℕ) × Goes R (filter is_no_identity (records_of (dump_by deltas bytes))) p q r []
  goes_some deltas (Ok u) a b p q ok err none = let s = of_some a b _ ok in (s.0, done_goes deltas s.0 p q s.1 none)
  goes_some deltas (Err e) a b p q ok err none = let s = of_some a b _ err in (s.0, halted_goes deltas s.0 p e q s.1 none)
