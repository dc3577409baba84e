-- Exits of what answers a command.
use Rattle.std.proofs.Common.{◌≡◌, ℕ, ◌≤◌, inl, inr, Bool, true, false, List, [], ◌∷◌, ◌++◌, map, Option, Some, None, Result, Ok, Err, true≢false, refl, sym, ap, subst, ◌∙◌}
use Rattle.std.proofs.KnownBytes.{Appends-trans}
use Rattle.std.specs.Prelude.{IfOk, if◌then◌else◌}
use Rattle.std.specs.FinMap as finite
use Rattle.std.specs.Io.KnownBytes.{Appends}
use Rattle.uuid.specs.Text.{hyphenated_text, lower}
use Rattle.fleet_disk.specs.Rules.{Rose}
use Rattle.node_base.specs.Path.{Path}
use Rattle.dump_load.specs.Faults.{first_of}
use Rattle.repo_core.specs.Repository.{Repository}
use Rattle.ra_item.specs.Items.{spell}
use Rattle.ra_wire.specs.Answers.{dirent_as}
use Rattle.ra_wire.specs.Commands.{GetFile, GetDir}
use Rattle.ra_wire.specs.Replies.{authorised}
use Rattle.ra_wire.specs.declared.dirent.Dirent as declared_dirent
use Rattle.browse_wire.specs.Asks.{Ask, Plain, Stat, Log, Locations, Segments, FileRevs, Reparent, GetLock, GetLocks, Update, Switch, Status, Diff, DatedRev}
use Rattle.browse_wire.specs.AskReading.{Reading}
use Rattle.browse_wire.specs.Urls.{Url}
use Rattle.browse_wire.specs.declared.fault.BrowseFault.{BrowseFault}
use Rattle.ra_serve.specs.declared.fault.PortFault.{PortFault}
use Rattle.ra_serve.specs.declared.fault.ServeFault.{ServeFault}
use Rattle.ra_serve.specs.Answers.{asked, node_in, refused}
use Rattle.ra_serve.specs.Ports.{refusal_of, IsOwn, tree_of}
use Rattle.ra_serve.specs.Sessions.{identity_text}
use Rattle.ra_serve.proofs.Causes.{none_is_not, rose_later}
use Rattle.ra_denial.specs.Denials.{denied, unless_denied, no_revision, dir_denied}
use Rattle.ra_denial.specs.Stops.{MayStop}
use Rattle.ra_denial.specs.Writing.{TellsStop}
use Rattle.ra_denial.specs.declared.denial.Denial.{Denial}
use Rattle.ra_denial.specs.declared.stop.Stop.{Stop}
use Rattle.ra_denial.specs.declared.stop.Stop.TheVariants as stop
use Rattle.ra_browse.specs.declared.look.Seen.{Seen}
use Rattle.ra_browse.specs.Histories.{Nothing, listed}
use Rattle.ra_browse.specs.Answers.{made_for, stat_told, file_told, file_denied, dir_told, entries_wanted, is_answered, unanswered, asks_port, browse_due, browse_content, reply, told, no_ask, MayFind}
use Rattle.ra_browse.specs.Tellings.{made_as, IsSeen, AreEntries, Replied, Answered, Tells, Answers}

-- a command that asks for no history
abbrev pub IsPlain : Repository → Url → Ask → Type 0
IsPlain x at c = ((h : Option PortFault) → MayFind x at c h Nothing) × (listed x c Nothing ≡ [])

-- what a command is told, where the port refused nothing by itself
replied : (x : Repository) (at : Url) (c : Ask) (rose : Type 0) (before now : Option (List ℕ)) → IsPlain x at c → Appends before now (reply x at c) → Replied x at c rose before now
replied x at c rose before now i a = record { halt = None; found = Nothing; has = i.0 None; lawful = tt; counted = inl tt; bytes = subst (λ l. Appends before now (l ++ reply x at c)) (sym i.1) a }

-- the same of a command of which nothing is denied
pub told_there : (x : Repository) (at : Url) (c : Ask) (rose : Type 0) (before now : Option (List ℕ)) → IsPlain x at c → browse_due x at c ≡ None → Appends before now (browse_content x at c) → Replied x at c rose before now
told_there x at c rose before now i d a = replied x at c rose before now i (subst (λ o. Appends before now (unless_denied o (browse_content x at c))) (sym d) a)

-- the port refused by itself
own : (x : Repository) (at : Url) (c : Ask) (rose : Type 0) (before now : Option (List ℕ)) (f : PortFault) → asks_port c ≡ true → IsPlain x at c → IsOwn f → rose → Appends before now (refused (refusal_of f)) → Replied x at c rose before now
own x at c rose before now f k i o r a = record { halt = Some f; found = Nothing; has = i.0 (Some f); lawful = (o, k); counted = inr r; bytes = subst (λ l. Appends before now (l ++ refused (refusal_of f))) (sym i.1) a }

-- a call stopped
stopped : (x : Repository) (at : Url) (c : Ask) (p n : ℕ) (before now : Option (List ℕ)) (s : Stop) (d : Option Denial) → asks_port c ≡ true → IsPlain x at c → MayStop p n d s → ((w : Denial) → d ≡ Some w → browse_due x at c ≡ Some w) → TellsStop before now s → Replied x at c (Rose p n) before now
stopped x at c p n before now (stop.Denied w) d k i m h t = replied x at c (Rose p n) before now i (subst (λ o. Appends before now (unless_denied o (browse_content x at c))) (sym (h w m)) t)
stopped x at c p n before now (stop.Port f) d k i m h t = own x at c (Rose p n) before now f k i m.0 m.1 t
stopped x at c p n before now stop.OutOfMemory d k i m h t = absurd t

pub tells_stop : {P W : Type 0} (repository : P → Option Repository) (refusals : P → ℕ) (contents : W → Option (List ℕ)) (at : Url) (c : Ask) (old new : P) (out : W) (result : Result W ServeFault) (s : Stop) (d : Repository → Option Denial)
    → asks_port c ≡ true
    → ((x : Repository) → IsPlain x at c)
    → IfOk result (λ w. TellsStop (contents out) (contents w) s)
    → ((x : Repository) → repository old ≡ Some x → MayStop (refusals old) (refusals new) (d x) s)
    → ((x : Repository) (w : Denial) → d x ≡ Some w → browse_due x at c ≡ Some w)
    → IfOk result (Tells repository refusals contents at c old new out)
tells_stop repository refusals contents at c old new out (Ok w) s d k i t m h = λ x e. stopped x at c (refusals old) (refusals new) (contents out) (contents w) s (d x) k (i x) (m x e) (h x) t
tells_stop repository refusals contents at c old new out (Err g) s d k i t m h = tt

-- a call behind another one stopped by the port or for want of memory
pub stops_later : (p m n : ℕ) (s : Stop) (d : Option Denial) → p ≤ m → MayStop m n None s → MayStop p n d s
stops_later p m n (stop.Denied w) d h k = absurd (none_is_not w k)
stops_later p m n (stop.Port f) d h k = (k.0, rose_later p m n h k.1)
stops_later p m n stop.OutOfMemory d h k = tt

-- these bytes are what a command is told
pub tells_bytes : {P W : Type 0} (repository : P → Option Repository) (refusals : P → ℕ) (contents : W → Option (List ℕ)) (at : Url) (c : Ask) (old new : P) (out : W) (result : Result W ServeFault) (bytes : List ℕ)
    → ((x : Repository) → IsPlain x at c)
    → IfOk result (λ w. Appends (contents out) (contents w) bytes)
    → ((x : Repository) → repository old ≡ Some x → bytes ≡ reply x at c)
    → IfOk result (Tells repository refusals contents at c old new out)
tells_bytes repository refusals contents at c old new out (Ok w) bytes i a h = λ x e. replied x at c (Rose (refusals old) (refusals new)) (contents out) (contents w) (i x) (subst (Appends (contents out) (contents w)) (h x e) a)
tells_bytes repository refusals contents at c old new out (Err g) bytes i a h = tt

-- ---- what is denied

pub only_one : (d r : Option Denial) → d ≡ None → first_of (d ∷ r ∷ []) ≡ r
only_one d None e = ap (λ o. first_of (o ∷ None ∷ [])) e
only_one d (Some r) e = ap (λ o. first_of (o ∷ Some r ∷ [])) e

pub first_one : (d r : Option Denial) (w : Denial) → d ≡ Some w → first_of (d ∷ r ∷ []) ≡ Some w
first_one d r w e = ap (λ o. first_of (o ∷ r ∷ [])) e

pub none_denied : (w : Denial) (d : Option Denial) → None ≡ Some w → d ≡ Some w
none_denied w d e = absurd (none_is_not w e)

-- ---- what was looked up

seen_node : (x : Repository) (p : Path) (n : Option ℕ) (s : Seen) → IsSeen x p n s → finite.get s.tree s.names.items ≡ node_in x (asked x n) p
seen_node x p n s i = ap (λ t. finite.get t s.names.items) i.tree ∙ ap (finite.get (tree_of x (asked x n))) i.names

pub stat_bytes : (x : Repository) (at : Url) (p : Path) (n : Option ℕ) (s : Seen) → no_revision x (asked x n) ≡ None → IsSeen x (at.1 ++ p) n s → spell (stat_told (finite.get s.tree s.names.items) (made_as s.made)) ≡ reply x at (Stat p n)
stat_bytes x at p n s d i =
    ap (λ o. spell (stat_told o (made_as s.made))) (seen_node x (at.1 ++ p) n s i)
    ∙ ap (λ m. spell (stat_told (node_in x (asked x n) (at.1 ++ p)) m)) i.made
    ∙ sym (ap (λ o. unless_denied o (browse_content x at (Stat p n))) d)

pub file_reply : (x : Repository) (at : Url) (p : Path) (n : Option ℕ) (props contents : Bool) (s : Seen) → no_revision x (asked x n) ≡ None → IsSeen x (at.1 ++ p) n s → file_told s.number props contents (hyphenated_text lower s.identity) (made_as s.made) (finite.get s.tree s.names.items) ≡ reply x at (Plain (GetFile p n props contents))
file_reply x at p n props contents s d i =
    ap (λ o. file_told s.number props contents (hyphenated_text lower s.identity) (made_as s.made) o) (seen_node x (at.1 ++ p) n s i)
    ∙ ap (λ m. file_told s.number props contents (hyphenated_text lower s.identity) m (node_in x (asked x n) (at.1 ++ p))) i.made
    ∙ ap (λ u. file_told s.number props contents (hyphenated_text lower u) (made_for x (node_in x (asked x n) (at.1 ++ p))) (node_in x (asked x n) (at.1 ++ p))) i.identity
    ∙ ap (λ k. file_told k props contents (identity_text x) (made_for x (node_in x (asked x n) (at.1 ++ p))) (node_in x (asked x n) (at.1 ++ p))) i.number
    ∙ sym (ap (λ o. unless_denied o (browse_content x at (Plain (GetFile p n props contents)))) (only_one (no_revision x (asked x n)) (file_denied (node_in x (asked x n) (at.1 ++ p))) d))

are_entries : (x : Repository) (p : Path) (n : Option ℕ) (contents : Bool) (s : Seen) (es : List declared_dirent.Dirent) → IsSeen x p n s → AreEntries x contents s.names.items s.tree es → map dirent_as es ≡ entries_wanted contents x p (tree_of x (asked x n))
are_entries x p n contents s es i a = a ∙ ap (λ q. entries_wanted contents x q s.tree) i.names ∙ ap (entries_wanted contents x p) i.tree

pub dir_reply : (x : Repository) (at : Url) (p : Path) (n : Option ℕ) (props contents : Bool) (s : Seen) (es : List declared_dirent.Dirent) → no_revision x (asked x n) ≡ None → IsSeen x (at.1 ++ p) n s → AreEntries x contents s.names.items s.tree es → dir_told s.number props (hyphenated_text lower s.identity) (made_as s.made) (map dirent_as es) (finite.get s.tree s.names.items) ≡ reply x at (Plain (GetDir p n props contents))
dir_reply x at p n props contents s es d i a =
    ap (λ o. dir_told s.number props (hyphenated_text lower s.identity) (made_as s.made) (map dirent_as es) o) (seen_node x (at.1 ++ p) n s i)
    ∙ ap (λ l. dir_told s.number props (hyphenated_text lower s.identity) (made_as s.made) l (node_in x (asked x n) (at.1 ++ p))) (are_entries x (at.1 ++ p) n contents s es i a)
    ∙ ap (λ m. dir_told s.number props (hyphenated_text lower s.identity) m (entries_wanted contents x (at.1 ++ p) (tree_of x (asked x n))) (node_in x (asked x n) (at.1 ++ p))) i.made
    ∙ ap (λ u. dir_told s.number props (hyphenated_text lower u) (made_for x (node_in x (asked x n) (at.1 ++ p))) (entries_wanted contents x (at.1 ++ p) (tree_of x (asked x n))) (node_in x (asked x n) (at.1 ++ p))) i.identity
    ∙ ap (λ k. dir_told k props (identity_text x) (made_for x (node_in x (asked x n) (at.1 ++ p))) (entries_wanted contents x (at.1 ++ p) (tree_of x (asked x n))) (node_in x (asked x n) (at.1 ++ p))) i.number
    ∙ sym (ap (λ o. unless_denied o (browse_content x at (Plain (GetDir p n props contents)))) (only_one (no_revision x (asked x n)) (dir_denied (node_in x (asked x n) (at.1 ++ p))) d))

-- ---- items

-- a command that is answered
answered : (x : Repository) (at : Url) (c : Ask) (rose : Type 0) (before mid now : Option (List ℕ)) → is_answered c ≡ true → Appends before mid (spell authorised) → Replied x at c rose mid now → Answered x at (Ok c) rose before now
answered x at c rose before mid now k a r = record {
  halt = r.halt;
  found = r.found;
  has = r.has;
  lawful = r.lawful;
  counted = r.counted;
  bytes = subst (λ b. Appends before now (if b then spell authorised ++ told x at c r.found r.halt else denied (unanswered c))) (sym k) (Appends-trans before mid now (spell authorised) (told x at c r.found r.halt) a r.bytes);
}

pub answers_command : {P W : Type 0} (repository : P → Option Repository) (refusals : P → ℕ) (contents : W → Option (List ℕ)) (at : Url) (c : Ask) (old new : P) (out mid : W) (result : Result W ServeFault)
    → is_answered c ≡ true
    → Appends (contents out) (contents mid) (spell authorised)
    → IfOk result (Tells repository refusals contents at c old new mid)
    → IfOk result (Answers repository refusals contents at (Ok c) old new out)
answers_command repository refusals contents at c old new out mid (Err g) k a t = tt
answers_command repository refusals contents at c old new out mid (Ok w) k a t = λ x e. answered x at c (Rose (refusals old) (refusals new)) (contents out) (contents mid) (contents w) k a (t x e)

-- one that isn't
asks_none : (x : Repository) (at : Url) (c : Ask) → is_answered c ≡ false → MayFind x at c None Nothing
asks_none x at (Plain c) k = refl
asks_none x at (Stat p n) k = refl
asks_none x at (Log l) k = absurd (true≢false k)
asks_none x at (Locations p peg ns) k = absurd (true≢false k)
asks_none x at (Segments p peg start end) k = refl
asks_none x at (FileRevs p start end merged) k = absurd (true≢false k)
asks_none x at (Reparent url) k = refl
asks_none x at (GetLock p) k = refl
asks_none x at (GetLocks p d) k = refl
asks_none x at (Update n p d copies ignores) k = refl
asks_none x at (Switch n p url d copies ignores) k = refl
asks_none x at (Status n p d) k = refl
asks_none x at (Diff n p url d ignores texts) k = refl
asks_none x at (DatedRev date) k = refl

pub answers_other : {P W : Type 0} (repository : P → Option Repository) (refusals : P → ℕ) (contents : W → Option (List ℕ)) (at : Url) (c : Ask) (old : P) (out : W) (result : Result W ServeFault) (d : Denial)
    → is_answered c ≡ false
    → d ≡ unanswered c
    → IfOk result (λ w. Appends (contents out) (contents w) (denied d))
    → IfOk result (Answers repository refusals contents at (Ok c) old old out)
answers_other repository refusals contents at c old out (Err g) d k e a = tt
answers_other repository refusals contents at c old out (Ok w) d k e a = λ x r. record {
  halt = None;
  found = Nothing;
  has = asks_none x at c k;
  lawful = tt;
  counted = inl tt;
  bytes = subst (λ b. Appends (contents out) (contents w) (if b then spell authorised ++ told x at c Nothing None else denied (unanswered c))) (sym k) (subst (λ t. Appends (contents out) (contents w) (denied t)) e a);
}

-- what an item is read as
pub answers_read : {P W : Type 0} (repository : P → Option Repository) (refusals : P → ℕ) (contents : W → Option (List ℕ)) (at : Url) (read : Reading) (c : Ask) (old new : P) (out : W) (result : Result W ServeFault)
    → read ≡ Ok c
    → IfOk result (Answers repository refusals contents at (Ok c) old new out)
    → IfOk result (Answers repository refusals contents at read old new out)
answers_read repository refusals contents at read c old new out result k t = subst (λ r. IfOk result (Answers repository refusals contents at r old new out)) (sym k) t

-- what is no command
pub answers_none : {P W : Type 0} (repository : P → Option Repository) (refusals : P → ℕ) (contents : W → Option (List ℕ)) (at : Url) (read : Reading) (f : BrowseFault) (d : Denial) (old : P) (out : W) (result : Result W ServeFault)
    → read ≡ Err f
    → no_ask f ≡ d
    → IfOk result (λ w. Appends (contents out) (contents w) (denied d))
    → IfOk result (Answers repository refusals contents at read old old out)
answers_none repository refusals contents at read f d old out (Err g) k b a = tt
answers_none repository refusals contents at read f d old out (Ok w) k b a = λ x e.
    subst (λ r. Answered x at r (Rose (refusals old) (refusals old)) (contents out) (contents w)) (sym k)
    (record {
      halt = None;
      found = Nothing;
      has = refl;
      lawful = tt;
      counted = inl tt;
      bytes = subst (λ v. Appends (contents out) (contents w) (denied v)) (sym b) a;
    })
