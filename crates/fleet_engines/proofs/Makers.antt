-- What `list` and `canon` make of a stream.
use Rattle.std.proofs.Common.{◌≡◌, ℕ, ◌⊎◌, Bool, List, [], ◌∷◌, ◌++◌, Option, Some, None, IfSome, Result, Ok, Err, refl, sym, ap, subst, ◌∙◌, append_assoc, append-nil, inl, inr}
use Rattle.std.proofs.KnownBytes.{Appends-nil, Appends-trans}
use Rattle.std.specs.Result.{OnOk}
use Rattle.std.specs.Io.KnownBytes.{Appends}
use Rattle.byte_streams.specs.Causes.{Rose}
use Rattle.node_base.specs.declared.refusal.Refusal.{Refusal}
use Rattle.node_base.specs.declared.refusal.Refusal.TheVariants.{OutOfMemory}
use Rattle.dump_text.specs.Streams.{dump_by, records_of}
use Rattle.dump_text.specs.declared.record.DumpRecord.{DumpRecord}
use Rattle.fleet_engines.specs.declared.product.Product.{Product}
use Rattle.fleet_engines.specs.declared.product.Product.TheVariants.{List as ListIt, Canon}
use Rattle.fleet_engines.specs.Revisions.{Rev, Told, untold, Closes, Takes}
use Rattle.fleet_engines.specs.Runs.{adds, ending, newest_listing, whole, Held, TakesOne, RefusesOne, EndsWith, CantEnd, Counted, Stands, Accepted, Refused}
use Rattle.fleet_engines.specs.Runs.{record_refused as why_record, byte_refused as why_byte, cut_short as why_cut, last_refused as why_last, stopped as why_stopped}
use Rattle.fleet_engines.specs.Takers.{TakesAll, Done, Halts, record_refused, byte_refused, cut_short, end_refused, stopped}
use Rattle.fleet_engines.proofs.Due.{canon_ends, canon_stands, list_stands}

-- ---- a record more

-- it is taken, once what it adds is written
pub took : (c : Product) (t u : Told) (next : DumpRecord) (out : List Rev) (a b : Option (List ℕ)) (m n : ℕ) (r : Result (Unit {0}) Refusal) → Takes t next u out → OnOk r (Appends a b (adds c t u out)) → Counted r m n
    → OnOk r (TakesOne c (record { told = t; contents = a; failures = m }) next (record { told = u; contents = b; failures = n }))
took c t u next out a b m n (Ok x) k w f = (out, k, w, f)
took c t u next out a b m n (Err e) k w f = tt

one_stands : (c : Product) (rs : List DumpRecord) (start : Option (List ℕ)) (x y : Held) (next : DumpRecord) → Stands c rs x.told start x.contents → TakesOne c x next y → Stands c (rs ++ next ∷ []) y.told start y.contents
one_stands ListIt rs start x y next s k =
    let z = list_stands rs x.told y.told next k.0 start x.contents k.1 s in
    record { out = z.out; tells = z.tells; written = Appends-trans start x.contents y.contents [] [] s.written k.2 }
one_stands Canon rs start x y next s k = canon_stands rs x.told y.told next k.0 start x.contents y.contents k.1 k.2 s

module _ {P : Type 0} (f : P → Held) (c : Product) where
  pub stands_on : (rs more : List DumpRecord) (start : Option (List ℕ)) (p q : P) → Stands c rs (f p).told start (f p).contents → TakesAll (λ x next y. TakesOne c (f x) next (f y)) p more q → Stands c (rs ++ more) (f q).told start (f q).contents
  stands_on rs [] start p q s t =
      subst (λ l. Stands c l (f q).told start (f q).contents) (sym (append-nil rs)) (subst (λ z. Stands c rs (f z).told start (f z).contents) (sym t) s)
  stands_on rs (next ∷ more) start p q s t =
      subst (λ l. Stands c l (f q).told start (f q).contents) (append_assoc rs (next ∷ []) more)
      (stands_on (rs ++ next ∷ []) more start t.0 q (one_stands c rs start (f p) (f t.0) next s t.1) t.2)

  pub works_on : (rs : List DumpRecord) (p q : P) → TakesAll (λ x next y. TakesOne c (f x) next (f y)) p rs q → (f q).failures ≡ (f p).failures
  works_on [] p q t = ap (λ z. (f z).failures) t
  works_on (next ∷ rs) p q t = works_on rs t.0 q t.2 ∙ t.1.3

-- ---- a whole stream

untold_stands : (c : Product) (start : Option (List ℕ)) → Stands c [] untold start start
untold_stands ListIt start = record { out = []; tells = (refl, refl); written = Appends-nil start }
untold_stands Canon start = record { out = []; tells = (refl, refl); written = Appends-nil start }

first_stands : (c : Product) (t : Told) (start : Option (List ℕ)) → t ≡ untold → Stands c [] t start start
first_stands c t start e = subst (λ x. Stands c [] x start start) (sym e) (untold_stands c start)

-- memory runs out before the first byte
pub first_refused : (deltas : Bool) (c : Product) (start a : Option (List ℕ)) (e : Refusal) → e ≡ OutOfMemory → IfSome a (λ bytes. Refused deltas c bytes start start e)
first_refused deltas c start None e d = tt
first_refused deltas c start (Some bytes) e d = record { records = []; told = untold; stands = untold_stands c start; why = why_stopped (records_of (dump_by deltas bytes)) refl (inl d) }

-- what is written by the end
ends_written : (c : Product) (rs : List DumpRecord) (t all : Told) (newest : List Rev) (start now later : Option (List ℕ)) → Closes t all newest → Appends now later (ending c t all newest) → (s : Stands c rs t start now) → Appends start later (whole c all (s.out ++ newest))
ends_written ListIt rs t all newest start now later k w s = Appends-trans start now later [] (newest_listing all.trees) s.written w
ends_written Canon rs t all newest start now later k w s = canon_ends rs t all newest start now later k w s

pub accepted : {P : Type 0} (f : P → Held) (deltas : Bool) (c : Product) (bytes : List ℕ) (first last : P) → Done deltas (λ x next y. TakesOne c (f x) next (f y)) (λ x y. EndsWith c (f x) (f y)) bytes first last → (f first).told ≡ untold → Accepted deltas c bytes (f first).contents (f last).contents
accepted f deltas c bytes first last d new =
    let start = (f first).contents in
    let s = stands_on f c [] d.reached.records start first d.before (first_stands c (f first).told start new) d.reached.taken in
    record {
      records = d.reached.records;
      reader = d.reader;
      read = d.reached.read;
      ended = d.ended;
      told = (f d.before).told;
      out = s.out;
      tells = s.tells;
      all = d.end.0;
      newest = d.end.1;
      closes = d.end.2;
      written = ends_written c d.reached.records (f d.before).told d.end.0 d.end.1 start (f d.before).contents (f last).contents d.end.2 d.end.3 s;
    }

pub refused : {P : Type 0} (f : P → Held) (deltas : Bool) (c : Product) (bytes : List ℕ) (first : P) (e : Refusal) (last : P) → Halts deltas (λ x next y. TakesOne c (f x) next (f y)) (λ x next e y. RefusesOne (f x) next e (f y)) (λ x e y. CantEnd (f x) e (f y)) bytes first e last → (f first).told ≡ untold
    → Rose (f first).failures (f last).failures ⊎ Refused deltas c bytes (f first).contents (f last).contents e
refused f deltas c bytes first e last (record_refused rs next more before is taken why) new =
    let start = (f first).contents in
    let s = stands_on f c [] rs start first before (first_stands c (f first).told start new) taken in
    elim why [
      | inl rose ↦ inl (subst (λ n. Rose n (f last).failures) (works_on f c rs first before taken) rose)
      | inr k ↦
          inr
          (record {
            records = rs;
            told = (f before).told;
            stands = subst (λ z. Stands c rs (f before).told start z) (sym k.0) s;
            why = elim k.1 [
              | inl m ↦ why_stopped (next ∷ more) is (inl m)
              | inr cant ↦ why_record next more is cant
            ];
          })
    ]
refused f deltas c bytes first e last (byte_refused rs fault is taken d) new =
    let start = (f first).contents in
    inr (record { records = rs; told = (f last).told; stands = stands_on f c [] rs start first last (first_stands c (f first).told start new) taken; why = why_byte fault is d })
refused f deltas c bytes first e last (cut_short reader p between d) new =
    let start = (f first).contents in
    inr (record { records = p.records; told = (f last).told; stands = stands_on f c [] p.records start first last (first_stands c (f first).told start new) p.taken; why = why_cut reader p.read between d })
refused f deltas c bytes first e last (end_refused reader before p between why) new =
    let start = (f first).contents in
    let s = stands_on f c [] p.records start first before (first_stands c (f first).told start new) p.taken in
    elim why [
      | inl rose ↦ inl (subst (λ n. Rose n (f last).failures) (works_on f c p.records first before p.taken) rose)
      | inr k ↦
          inr
          (record {
            records = p.records;
            told = (f before).told;
            stands = subst (λ z. Stands c p.records (f before).told start z) (sym k.0) s;
            why = elim k.1 [
              | inl m ↦ why_stopped [] (ap records_of p.read ∙ sym (append-nil p.records)) (inl m)
              | inr cant ↦ why_last reader p.read between cant
            ];
          })
    ]
refused f deltas c bytes first e last (stopped rs more is taken w) new =
    let start = (f first).contents in
    inr (record { records = rs; told = (f last).told; stands = stands_on f c [] rs start first last (first_stands c (f first).told start new) taken; why = why_stopped more is w })
