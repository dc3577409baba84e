-- An item, as it was taken in each phase.
use Rattle.std.proofs.Common.{◌≡◌, ◌≤◌, ◌<◌, ◌⊎◌, inl, ℕ, Bool, true, false, true≢false, List, [], ◌∷◌, ◌++◌, length, map, nat_lt, Option, Some, None, Result, Ok, Err, refl, sym, ap, subst, ◌∙◌, arith}
use Rattle.std.proofs.KnownBytes.{Appends-nil, Appends-trans, Appends-kept}
use Rattle.std.proofs.lemmas.Bool.Decides.{nat_tests}
use Rattle.std.proofs.lemmas.List.{length-map, map-append}
use Rattle.std.specs.Prelude.{is_some, codes, IfOk, OnOk, if◌then◌else◌}
use Rattle.std.specs.List.{slice_get}
use Rattle.std.specs.Io.KnownBytes.{Appends, Keeps}
use Rattle.fleet_disk.specs.Rules.{Rose}
use Rattle.ra_item.specs.Items.{Item, spell}
use Rattle.repo_core.specs.Repository.{Repository}
use Rattle.ra_wire.specs.Answers.{Failure, reply_in, refused_as}
use Rattle.ra_wire.specs.Replies as replies
use Rattle.ra_wire.specs.Replies.{before, authorised, done}
use Rattle.ra_wire.specs.declared.reply.Refused as declared_reply
use Rattle.browse_wire.specs.Asks.{Ask, Plain, Stat, Log, Locations, Segments, FileRevs, Reparent, GetLock, GetLocks, Update, Switch, Status, Diff, DatedRev}
use Rattle.browse_wire.specs.AskReading.{Reading, ask_in}
use Rattle.browse_wire.specs.Reports.{Report, report_as, report_in}
use Rattle.browse_wire.specs.declared.report.ReportCommand as declared_report
use Rattle.browse_wire.specs.Urls.{Url}
use Rattle.browse_wire.specs.Faults.{ReadIs}
use Rattle.browse_wire.specs.declared.fault.BrowseFault.{BrowseFault}
use Rattle.browse_wire.specs.declared.fault.BrowseFault.TheVariants as fault
use Rattle.browse_wire.specs.declared.url.SessionUrl.{SessionUrl}
use Rattle.ra_serve.specs.declared.fault.ServeFault.{ServeFault}
use Rattle.ra_serve.proofs.Causes.{none_is_not}
use Rattle.ra_denial.specs.Denials.{denied, unless_denied}
use Rattle.ra_denial.specs.Halts.{IsCalm}
use Rattle.ra_denial.specs.Stops.{Denies}
use Rattle.ra_denial.specs.Writing.{TellsStop}
use Rattle.ra_denial.specs.declared.denial.Denial.{Denial}
use Rattle.ra_denial.specs.declared.denial.Denial.TheVariants as denial
use Rattle.ra_denial.specs.declared.stop.Stop.{Stop}
use Rattle.ra_denial.specs.declared.stop.Stop.TheVariants as stop
use Rattle.ra_browse.specs.Histories.{Nothing}
use Rattle.ra_browse.specs.Answers.{MayFind, answer, behind, moved, no_ask}
use Rattle.ra_browse.specs.Tellings.{Answers}
use Rattle.ra_report.specs.Edits.{Edit}
use Rattle.ra_report.specs.Finishing.{Finishes}
use Rattle.ra_report.specs.Orders.{awaits_report, order_denied}
use Rattle.ra_reader.specs.Standings.{Phase, Idle, Reporting, Spoilt, Edited, Standing, Added, standing_at, ready_at, ordered, command_told, behind_command, CommandHas, Said, More, AtEnd, GivenUp, Spoils, said_in, more_said, behind_edit, report_told, behind_report, ReportHas, spoilt_told, behind_spoilt, abort_edit, edit_judged, told_at}
use Rattle.ra_reader.specs.Takings.{standing_as, Turned, Turns, Passes}
use Rattle.ra_reader.specs.declared.phase.Phase as declared_phase
use Rattle.ra_reader.proofs.Turning.{unadded}

-- ---- whatever is awaited

-- a call that asked no port
pub passes : {P W : Type 0} (repository : P → Option Repository) (refusals : P → ℕ) (contents : W → Option (List ℕ)) (s there : Standing) (item : Item) (old new : P) (out w : W)
    → Passes contents s item out w there → Turns repository refusals contents s item old new out w there
passes repository refusals contents s there item old new out w h = λ x e. h x (refusals old) (refusals new)

pub passes_ok : {P W : Type 0} (repository : P → Option Repository) (refusals : P → ℕ) (contents : W → Option (List ℕ)) (s : Standing) (u : SessionUrl) (item : Item) (old new : P) (out : W) (result : Result (declared_phase.Phase × W) ServeFault)
    → IfOk result (λ r. Passes contents s item out r.1 (standing_as u r.0)) → IfOk result (λ r. Turns repository refusals contents s item old new out r.1 (standing_as u r.0))
passes_ok repository refusals contents s u item old new out (Ok r) h = passes repository refusals contents s (standing_as u r.0) item old new out r.1 h
passes_ok repository refusals contents s u item old new out (Err f) h = tt

-- what was told is let go out
pub turns_kept : {P W : Type 0} (repository : P → Option Repository) (refusals : P → ℕ) (contents : W → Option (List ℕ)) (s there : Standing) (item : Item) (old new : P) (out mid w : W)
    → Turns repository refusals contents s item old new out mid there → Keeps (contents mid) (contents w) → Turns repository refusals contents s item old new out w there
turns_kept repository refusals contents s there item old new out mid w t k = λ x e.
    let r = t x e in
    record {
      added = r.added;
      has = r.has;
      counted = r.counted;
      bytes = Appends-kept (contents out) (contents mid) (contents w) (told_at x s.at s.phase item r.added) r.bytes k;
      led = r.led;
    }

-- ---- a command

-- what is refused for another reason than memory is so read
pub read_fault : {A T : Type 0} (view : A → T) (f : BrowseFault) (read : Result T BrowseFault) → (f ≡ fault.OutOfMemory → ⊥) → ReadIs view (Err f) read → read ≡ Err f
read_fault view fault.UnknownCommand read n e = e
read_fault view fault.BadShape read n e = e
read_fault view fault.ReplayForm read n e = e
read_fault view fault.ExcludedDepth read n e = e
read_fault view fault.OutOfMemory read n e = absurd (n refl)

-- an item that is read so
turned_asked : (x : Repository) (at : Url) (item : Item) (read : Reading) (a : Added) (rose : Type 0) (before now : Option (List ℕ)) (there : Standing)
    → ask_in item ≡ read → CommandHas x at read a → IsCalm a.halt ⊎ rose → Appends before now (command_told x at read a) → there ≡ behind_command at read
    → Turned x (ready_at at) item rose before now there
turned_asked x at item read a rose before now there e h c b l = record {
  added = a;
  has = subst (λ r. CommandHas x at r a) (sym e) h;
  counted = c;
  bytes = subst (λ r. Appends before now (command_told x at r a)) (sym e) b;
  led = l ∙ ap (behind_command at) (sym e);
}

-- an item that is no command
pub by_fault : {W : Type 0} (contents : W → Option (List ℕ)) (at : Url) (f : BrowseFault) (d : Denial) (item : Item) (out w : W)
    → ask_in item ≡ Err f → d ≡ no_ask f → Appends (contents out) (contents w) (denied d)
    → Passes contents (ready_at at) item out w (ready_at at)
by_fault contents at f d item out w k e a = λ x p n.
    turned_asked x at item (Err f) unadded (Rose p n) (contents out) (contents w) (ready_at at) k (refl, tt) (inl tt) (subst (λ v. Appends (contents out) (contents w) (denied v)) e a) refl

-- a command that is answered at once
pub by_answer : {P W : Type 0} (repository : P → Option Repository) (refusals : P → ℕ) (contents : W → Option (List ℕ)) (at there : Url) (c : Ask) (item : Item) (old new : P) (out w : W)
    → ask_in item ≡ Ok c → awaits_report c ≡ false
    → Answers repository refusals contents at (Ok c) old new out w
    → there ≡ moved at c
    → Turns repository refusals contents (ready_at at) item old new out w (ready_at there)
by_answer repository refusals contents at there c item old new out w k f t l = λ x e.
    let r = t x e in
    turned_asked x at item (Ok c) (record { found = r.found; edit = None; halt = r.halt }) (Rose (refusals old) (refusals new)) (contents out) (contents w) (ready_at there) k (r.has, r.lawful) r.counted
    (subst (λ b. Appends (contents out) (contents w) (if b then unless_denied (order_denied at c) (spell authorised) else answer x at (Ok c) r.found r.halt)) (sym f) r.bytes)
    (ap ready_at l ∙ sym (ap (λ b. if b then standing_at at (ordered c (order_denied at c)) else ready_at (behind at (Ok c))) f))

-- one that a report follows asks for no history
finds_none : (x : Repository) (at : Url) (c : Ask) → awaits_report c ≡ true → MayFind x at c None Nothing
finds_none x at (Plain c) k = absurd (true≢false (sym k))
finds_none x at (Stat p n) k = absurd (true≢false (sym k))
finds_none x at (Log l) k = absurd (true≢false (sym k))
finds_none x at (Locations p peg ns) k = absurd (true≢false (sym k))
finds_none x at (Segments p peg start end) k = absurd (true≢false (sym k))
finds_none x at (FileRevs p start end merged) k = absurd (true≢false (sym k))
finds_none x at (Reparent url) k = absurd (true≢false (sym k))
finds_none x at (GetLock p) k = absurd (true≢false (sym k))
finds_none x at (GetLocks p d) k = absurd (true≢false (sym k))
finds_none x at (Update n p d copies ignores) k = refl
finds_none x at (Switch n p url d copies ignores) k = refl
finds_none x at (Status n p d) k = refl
finds_none x at (Diff n p url d ignores texts) k = refl
finds_none x at (DatedRev date) k = absurd (true≢false (sym k))

-- it is judged so before its report
by_order : {W : Type 0} (contents : W → Option (List ℕ)) (at : Url) (c : Ask) (o : Option Denial) (item : Item) (out w : W)
    → ask_in item ≡ Ok c → awaits_report c ≡ true → order_denied at c ≡ o
    → Appends (contents out) (contents w) (unless_denied o (spell authorised))
    → Passes contents (ready_at at) item out w (standing_at at (ordered c o))
by_order contents at c o item out w k f d a = λ x p n.
    turned_asked x at item (Ok c) unadded (Rose p n) (contents out) (contents w) (standing_at at (ordered c o)) k (finds_none x at c f, tt) (inl tt)
    (subst (λ b. Appends (contents out) (contents w) (if b then unless_denied (order_denied at c) (spell authorised) else answer x at (Ok c) Nothing None)) (sym f)
    (subst (λ r. Appends (contents out) (contents w) (unless_denied r (spell authorised))) (sym d) a))
    (sym (ap (λ b. if b then standing_at at (ordered c (order_denied at c)) else ready_at (behind at (Ok c))) f ∙ ap (λ r. standing_at at (ordered c r)) d))

-- it is taken
pub by_taken : {W : Type 0} (contents : W → Option (List ℕ)) (at : Url) (c : Ask) (rs : List Report) (item : Item) (out w : W)
    → ask_in item ≡ Ok c → awaits_report c ≡ true → order_denied at c ≡ None
    → Appends (contents out) (contents w) (spell authorised)
    → rs ≡ []
    → Passes contents (ready_at at) item out w (standing_at at (Reporting c rs))
by_taken contents at c rs item out w k f d a e = subst (λ s. Passes contents (ready_at at) item out w (standing_at at (Reporting c s))) (sym e) (by_order contents at c None item out w k f d a)

-- it isn't
pub by_stop : {W : Type 0} (contents : W → Option (List ℕ)) (at : Url) (c : Ask) (s : Stop) (item : Item) (out w : W)
    → ask_in item ≡ Ok c → awaits_report c ≡ true → Denies (order_denied at c) s
    → TellsStop (contents out) (contents w) s
    → Passes contents (ready_at at) item out w (ready_at at)
by_stop contents at c (stop.Denied d) item out w k f m t = by_order contents at c (Some d) item out w k f m t
by_stop contents at c (stop.Port h) item out w k f m t = absurd m
by_stop contents at c stop.OutOfMemory item out w k f m t = absurd t

-- ---- a report

below : (a n : ℕ) → a < n → nat_lt a n ≡ true
below a n h = grind (arith, nat_tests)

above : (a n : ℕ) → n ≤ a → nat_lt a n ≡ false
above a n h = grind (arith, nat_tests)

-- it has room
pub more_led : (c : Ask) (rs : List Report) (r : Report) → length rs < 65536 → more_said c rs r ≡ Reporting c (rs ++ r ∷ [])
more_led c rs r h = ap (λ b. if b then Reporting c (rs ++ r ∷ []) else Spoilt denial.Unsupported) (below (length rs) 65536 h)

pub more_kept : (c : Ask) (xs ys : List declared_report.ReportCommand) (r : declared_report.ReportCommand) → ys ≡ xs ++ r ∷ [] → length xs < 65536 → Reporting c (map report_as ys) ≡ more_said c (map report_as xs) (report_as r)
more_kept c xs ys r e h =
    let l : length (map report_as xs) < 65536 = subst (λ n. n < 65536) (sym (length-map xs report_as)) h in
    ap (λ zs. Reporting c (map report_as zs)) e ∙ ap (Reporting c) (map-append report_as xs (r ∷ [])) ∙ sym (more_led c (map report_as xs) (report_as r) l)

-- it has none
pub more_spoilt : (c : Ask) (xs : List declared_report.ReportCommand) (r : Report) → 65536 ≤ length xs → Spoilt denial.Unsupported ≡ more_said c (map report_as xs) r
more_spoilt c xs r h =
    let l : 65536 ≤ length (map report_as xs) = subst (λ n. 65536 ≤ n) (sym (length-map xs report_as)) h in
    sym (ap (λ b. if b then Reporting c (map report_as xs ++ r ∷ []) else Spoilt denial.Unsupported) (above (length (map report_as xs)) 65536 l))

-- an item that says this
turned_said : (x : Repository) (at : Url) (c : Ask) (rs : List Report) (item : Item) (s : Said) (a : Added) (rose : Type 0) (before now : Option (List ℕ)) (p : Phase)
    → said_in (report_in item) ≡ s → ReportHas x at c rs s a → IsCalm a.halt ⊎ rose → Appends before now (report_told x at c rs s a) → p ≡ behind_report c rs s a
    → Turned x (standing_at at (Reporting c rs)) item rose before now (standing_at at p)
turned_said x at c rs item s a rose before now p e h u b l = record {
  added = a;
  has = subst (λ t. ReportHas x at c rs t a) (sym e) h;
  counted = u;
  bytes = subst (λ t. Appends before now (report_told x at c rs t a)) (sym e) b;
  led = ap (standing_at at) (l ∙ ap (λ t. behind_report c rs t a) (sym e));
}

pub by_more : {W : Type 0} (contents : W → Option (List ℕ)) (at : Url) (c : Ask) (rs : List Report) (r : Report) (p : Phase) (item : Item) (out : W)
    → said_in (report_in item) ≡ More r → p ≡ more_said c rs r
    → Passes contents (standing_at at (Reporting c rs)) item out out (standing_at at p)
by_more contents at c rs r p item out e l = λ x m n.
    turned_said x at c rs item (More r) unadded (Rose m n) (contents out) (contents out) p e tt (inl tt) (Appends-nil (contents out)) l

pub by_spoiling : {W : Type 0} (contents : W → Option (List ℕ)) (at : Url) (c : Ask) (rs : List Report) (d : Denial) (item : Item) (out : W)
    → said_in (report_in item) ≡ Spoils d
    → Passes contents (standing_at at (Reporting c rs)) item out out (standing_at at (Spoilt d))
by_spoiling contents at c rs d item out e = λ x m n.
    turned_said x at c rs item (Spoils d) unadded (Rose m n) (contents out) (contents out) (Spoilt d) e tt (inl tt) (Appends-nil (contents out)) refl

pub by_given_up : {W : Type 0} (contents : W → Option (List ℕ)) (at : Url) (c : Ask) (rs : List Report) (item : Item) (out w : W)
    → said_in (report_in item) ≡ GivenUp → Appends (contents out) (contents w) (spell done)
    → Passes contents (standing_at at (Reporting c rs)) item out w (ready_at at)
by_given_up contents at c rs item out w e a = λ x m n.
    turned_said x at c rs item GivenUp unadded (Rose m n) (contents out) (contents w) Idle e tt (inl tt) a refl

pub by_end : {P W : Type 0} (repository : P → Option Repository) (refusals : P → ℕ) (contents : W → Option (List ℕ)) (at : Url) (c : Ask) (rs : List Report) (item : Item) (old new : P) (out w : W) (sent : Bool) (p : Phase)
    → said_in (report_in item) ≡ AtEnd
    → Finishes repository refusals contents at c rs old new out w sent
    → ((edit : Option Edit) → sent ≡ is_some edit → p ≡ behind_edit edit)
    → Turns repository refusals contents (standing_at at (Reporting c rs)) item old new out w (standing_at at p)
by_end repository refusals contents at c rs item old new out w sent p k t h = λ x e.
    let r = t x e in
    turned_said x at c rs item AtEnd (record { found = Nothing; edit = r.edit; halt = r.halt }) (Rose (refusals old) (refusals new)) (contents out) (contents w) p k (r.has, r.lawful) r.counted r.bytes (h r.edit r.answer)

-- ---- one that is denied

pub by_spoilt : {W : Type 0} (contents : W → Option (List ℕ)) (at : Url) (d : Denial) (s : Said) (p : Phase) (item : Item) (out w : W)
    → said_in (report_in item) ≡ s → Appends (contents out) (contents w) (spoilt_told d s) → p ≡ behind_spoilt d s
    → Passes contents (standing_at at (Spoilt d)) item out w (standing_at at p)
by_spoilt contents at d s p item out w e b l = λ x m n. record {
  added = unadded;
  has = tt;
  counted = inl tt;
  bytes = subst (λ t. Appends (contents out) (contents w) (spoilt_told d t)) (sym e) b;
  led = ap (standing_at at) (l ∙ ap (behind_spoilt d) (sym e));
}

-- the same where nothing is told
pub by_spoilt_more : {W : Type 0} (contents : W → Option (List ℕ)) (at : Url) (d : Denial) (r : Report) (item : Item) (out : W)
    → said_in (report_in item) ≡ More r
    → Passes contents (standing_at at (Spoilt d)) item out out (standing_at at (Spoilt d))
by_spoilt_more contents at d r item out e = by_spoilt contents at d (More r) (Spoilt d) item out out e (Appends-nil (contents out)) refl

pub by_spoilt_again : {W : Type 0} (contents : W → Option (List ℕ)) (at : Url) (d f : Denial) (item : Item) (out : W)
    → said_in (report_in item) ≡ Spoils f
    → Passes contents (standing_at at (Spoilt d)) item out out (standing_at at (Spoilt d))
by_spoilt_again contents at d f item out e = by_spoilt contents at d (Spoils f) (Spoilt d) item out out e (Appends-nil (contents out)) refl

-- ---- what a client says of an edit

pub by_reply : {W : Type 0} (contents : W → Option (List ℕ)) (at : Url) (item : Item) (out w : W)
    → Appends (contents out) (contents w) (edit_judged (reply_in item))
    → Passes contents (standing_at at Edited) item out w (ready_at at)
by_reply contents at item out w b = λ x m n. record { added = unadded; has = tt; counted = inl tt; bytes = b; led = refl }

-- a name without content
pub only_named : {A E : Type 0} (result : Result A E) (a b c : Option (List ℕ)) → Appends a b (before (codes "abort-edit")) → OnOk result (Appends b c replies.behind) → OnOk result (Appends a c (spell abort_edit))
only_named (Ok u) a b c p q = Appends-trans a b c (before (codes "abort-edit")) replies.behind p q
only_named (Err f) a b c p q = tt

-- a failure without a cause
pub nothing_first : (fs : List declared_reply.Refused) → None ≡ slice_get fs 0 → edit_judged (Some (Failure (map refused_as fs))) ≡ spell abort_edit ++ denied denial.BadShape
nothing_first [] e = refl
nothing_first (f ∷ fs) e = absurd (none_is_not f e)
