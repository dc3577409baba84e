-- Exits of what answers a command.
use Rattle.std.proofs.Common.{◌≡◌, ℕ, ◌<◌, inl, inr, Bool, false, List, [], ◌∷◌, ◌++◌, Option, Some, None, Result, Ok, Err, refl, sym, ap, subst, ◌∙◌, arith, ⊎_elim}
use Rattle.std.proofs.KnownBytes.{Appends-trans, Appends-kept}
use Rattle.std.specs.Prelude.{IfOk}
use Rattle.std.specs.Io.KnownBytes.{Appends, Keeps}
use Rattle.fleet_disk.specs.Rules.{Rose}
use Rattle.node_base.specs.declared.refusal.Refusal.{Refusal}
use Rattle.node_base.specs.declared.refusal.Refusal.TheVariants as refusal
use Rattle.dump_load.specs.Faults.{first_of}
use Rattle.repo_core.specs.Repository.{Repository}
use Rattle.ra_item.specs.Items.{spell}
use Rattle.ra_wire.specs.Commands.{Command, ReplayRange, ChangeProp, Previous}
use Rattle.ra_wire.specs.Reading.{Reading}
use Rattle.ra_wire.specs.Replies.{authorised}
use Rattle.ra_wire.specs.declared.fault.WireFault.{WireFault}
use Rattle.ra_serve.specs.declared.fault.PortFault.{PortFault}
use Rattle.ra_serve.specs.declared.fault.PortFault.TheVariants as fault
use Rattle.ra_serve.specs.declared.fault.ServeFault.{ServeFault}
use Rattle.ra_serve.specs.Answers.{Halt, front, due, content, made, refused, unless_due, after_due, told, answer, wanted_of}
use Rattle.ra_serve.specs.Ports.{refusal_of, IsOwn, MayRefuse, Stays, change_due}
use Rattle.node_base.specs.Path.{Name}
use Rattle.repo_core.specs.Refusals.{Wanted}
use Rattle.ra_serve.specs.Tellings.{Replied, Answered, Tells, Replies}
use Rattle.ra_serve.proofs.Causes.{rose_later}

-- what is due is told, or the content where nothing is
pub replied : (mirror : Bool) (x : Repository) (c : Command) (rose : Type 0) (before now : Option (List ℕ)) (new : Option Repository) (r : Option Refusal) → due mirror x c ≡ r → Appends before now (unless_due r (content x c)) → new ≡ Some (after_due r (made x c) x) → Replied mirror x c rose before now new
replied mirror x c rose before now new r d a e = record {
  halt = None;
  lawful = tt;
  counted = inl tt;
  bytes = subst (λ o. Appends before now (unless_due o (content x c))) (sym d) a;
  repository = e ∙ ap (λ o. Some (after_due o (made x c) x)) (sym d);
}

-- before the first byte nothing was told
front_none : (x : Repository) (c : Command) → front x c 0 ≡ []
front_none x (ReplayRange a b) = refl
front_none x c = refl

none_below : {T : Type 0} → 0 < 0 → T
none_below h = let no : ⊥ = omega (arith, h) in absurd no

abbrev pub at_once : PortFault → Halt
at_once f = record { cause = f; edits = 0 }

-- the port refused by itself, and nothing was told before
pub own : (mirror : Bool) (x : Repository) (c : Command) (rose : Type 0) (before now : Option (List ℕ)) (new : Option Repository) (f : PortFault) → IsOwn f → rose → Appends before now (refused (refusal_of f)) → new ≡ Some x → Replied mirror x c rose before now new
own mirror x c rose before now new f o r a e = record {
  halt = Some (at_once f);
  lawful = record { own = o; few = omega arith; there = none_below };
  counted = inr r;
  bytes = subst (λ l. Appends before now (l ++ refused (refusal_of f))) (sym (front_none x c)) a;
  repository = e;
}

-- a refusal is the one that is due, or the port's own
pub failed : (mirror : Bool) (x : Repository) (c : Command) (p n : ℕ) (before now : Option (List ℕ)) (new : Option Repository) (f : PortFault) (d : Option Refusal) → MayRefuse p n f d → (d ≡ Some (refusal_of f) → due mirror x c ≡ Some (refusal_of f)) → Appends before now (refused (refusal_of f)) → new ≡ Some x → Replied mirror x c (Rose p n) before now new
failed mirror x c p n before now new fault.TooLong d m h a e = replied mirror x c (Rose p n) before now new (Some refusal.TooLong) (h m) a e
failed mirror x c p n before now new fault.NoSuchRevision d m h a e = replied mirror x c (Rose p n) before now new (Some refusal.NoSuchRevision) (h m) a e
failed mirror x c p n before now new fault.BaseMismatch d m h a e = replied mirror x c (Rose p n) before now new (Some refusal.BaseMismatch) (h m) a e
failed mirror x c p n before now new fault.DeviceFailed d m h a e = own mirror x c (Rose p n) before now new fault.DeviceFailed tt m a e
failed mirror x c p n before now new fault.Failed d m h a e = own mirror x c (Rose p n) before now new fault.Failed tt m a e
failed mirror x c p n before now new fault.LogFull d m h a e = own mirror x c (Rose p n) before now new fault.LogFull tt m a e
failed mirror x c p n before now new fault.OutOfMemory d m h a e = own mirror x c (Rose p n) before now new fault.OutOfMemory tt m a e

-- the same of a call that tells it
pub tells_refusal : {P W : Type 0} (repository : P → Option Repository) (refusals : P → ℕ) (is_mirror : P → Bool) (contents : W → Option (List ℕ)) (c : Command) (old new : P) (out : W) (result : Result W ServeFault) (f : PortFault) (d : Repository → Option Refusal)
    → IfOk result (λ w. Appends (contents out) (contents w) (refused (refusal_of f)))
    → ((x : Repository) → repository old ≡ Some x → MayRefuse (refusals old) (refusals new) f (d x))
    → ((x : Repository) → repository old ≡ Some x → d x ≡ Some (refusal_of f) → due (is_mirror old) x c ≡ Some (refusal_of f))
    → repository new ≡ repository old
    → IfOk result (Tells repository refusals is_mirror contents c old new out)
tells_refusal repository refusals is_mirror contents c old new out (Ok w) f d a m h s = λ x e. failed (is_mirror old) x c (refusals old) (refusals new) (contents out) (contents w) (repository new) f (d x) (m x e) (h x e) a (s ∙ e)
tells_refusal repository refusals is_mirror contents c old new out (Err g) f d a m h s = tt

-- a refusal that is due, whatever the port says
pub tells_due : {P W : Type 0} (repository : P → Option Repository) (refusals : P → ℕ) (is_mirror : P → Bool) (contents : W → Option (List ℕ)) (c : Command) (old new : P) (out : W) (result : Result W ServeFault) (r : Refusal)
    → IfOk result (λ w. Appends (contents out) (contents w) (refused r))
    → ((x : Repository) → repository old ≡ Some x → due (is_mirror old) x c ≡ Some r)
    → repository new ≡ repository old
    → IfOk result (Tells repository refusals is_mirror contents c old new out)
tells_due repository refusals is_mirror contents c old new out (Ok w) r a h s = λ x e. replied (is_mirror old) x c (Rose (refusals old) (refusals new)) (contents out) (contents w) (repository new) (Some r) (h x e) a (s ∙ e)
tells_due repository refusals is_mirror contents c old new out (Err g) r a h s = tt

-- some bytes, and then that it is done
pub tells_done : {P W : Type 0} (repository : P → Option Repository) (refusals : P → ℕ) (is_mirror : P → Bool) (contents : W → Option (List ℕ)) (c : Command) (old new : P) (out mid : W) (result : Result W ServeFault) (bytes : Repository → List ℕ) (end : List ℕ)
    → IfOk result (λ w. Appends (contents mid) (contents w) end)
    → ((x : Repository) → repository old ≡ Some x → Appends (contents out) (contents mid) (bytes x))
    → ((x : Repository) → repository old ≡ Some x → due (is_mirror old) x c ≡ None)
    → ((x : Repository) → content x c ≡ bytes x ++ end)
    → ((x : Repository) → made x c ≡ x)
    → repository new ≡ repository old
    → IfOk result (Tells repository refusals is_mirror contents c old new out)
tells_done repository refusals is_mirror contents c old new out mid (Ok w) bytes end a b h k m s = λ x e.
    replied (is_mirror old) x c (Rose (refusals old) (refusals new)) (contents out) (contents w) (repository new) None (h x e)
    (subst (Appends (contents out) (contents w)) (sym (k x)) (Appends-trans (contents out) (contents mid) (contents w) (bytes x) end (b x e) a))
    (s ∙ e ∙ ap Some (sym (m x)))
tells_done repository refusals is_mirror contents c old new out mid (Err g) bytes end a b h k m s = tt

-- what is told of what stands at a path of a revision that is there
after_same : (r : Option Refusal) (x : Repository) → after_due r x x ≡ x
after_same None x = refl
after_same (Some r) x = refl

pub only_one : (d r : Option Refusal) → d ≡ None → first_of (d ∷ r ∷ []) ≡ r
only_one d None e = ap (λ o. first_of (o ∷ None ∷ [])) e
only_one d (Some r) e = ap (λ o. first_of (o ∷ Some r ∷ [])) e

pub first_one : (d r : Option Refusal) (f : Refusal) → d ≡ Some f → first_of (d ∷ r ∷ []) ≡ Some f
first_one d r f e = ap (λ o. first_of (o ∷ r ∷ [])) e

pub tells_found : {P W : Type 0} (repository : P → Option Repository) (refusals : P → ℕ) (is_mirror : P → Bool) (contents : W → Option (List ℕ)) (c : Command) (old new : P) (out : W) (result : Result W ServeFault) (r : Repository → Option Refusal)
    → ((x : Repository) → repository old ≡ Some x → IfOk result (λ w. Appends (contents out) (contents w) (unless_due (r x) (content x c))))
    → ((x : Repository) → repository old ≡ Some x → due (is_mirror old) x c ≡ r x)
    → ((x : Repository) → made x c ≡ x)
    → repository new ≡ repository old
    → IfOk result (Tells repository refusals is_mirror contents c old new out)
tells_found repository refusals is_mirror contents c old new out (Ok w) r a h m s = λ x e.
    replied (is_mirror old) x c (Rose (refusals old) (refusals new)) (contents out) (contents w) (repository new) (r x) (h x e) (a x e)
    (s ∙ e ∙ ap Some (sym (after_same (r x) x) ∙ ap (λ y. after_due (r x) y x) (sym (m x))))
tells_found repository refusals is_mirror contents c old new out (Err g) r a h m s = tt

-- what a call tells behind another that changes nothing
pub tells_later : {P W : Type 0} (repository : P → Option Repository) (refusals : P → ℕ) (is_mirror : P → Bool) (contents : W → Option (List ℕ)) (c : Command) (old mid new : P) (out : W) (result : Result W ServeFault)
    → Stays (repository old) (repository mid) (is_mirror old) (is_mirror mid) (refusals old) (refusals mid)
    → IfOk result (Tells repository refusals is_mirror contents c mid new out)
    → IfOk result (Tells repository refusals is_mirror contents c old new out)
tells_later repository refusals is_mirror contents c old mid new out (Err g) s t = tt
tells_later repository refusals is_mirror contents c old mid new out (Ok w) s t = λ x e.
    let r = t x (s.repository ∙ e) in
    subst (λ b. Replied b x c (Rose (refusals old) (refusals new)) (contents out) (contents w) (repository new)) s.goes.mirror
    (record {
      halt = r.halt;
      lawful = r.lawful;
      counted = ⊎_elim inl (λ h. inr (rose_later (refusals old) (refusals mid) (refusals new) s.goes.later h)) r.counted;
      bytes = r.bytes;
      repository = r.repository;
    })

-- ---- items

answered : (mirror : Bool) (x : Repository) (c : Command) (rose : Type 0) (before mid now : Option (List ℕ)) (new : Option Repository) → Appends before mid (spell authorised) → Replied mirror x c rose mid now new → Answered mirror x (Ok c) rose before now new
answered mirror x c rose before mid now new a r = record {
  halt = r.halt;
  lawful = r.lawful;
  counted = r.counted;
  bytes = Appends-trans before mid now (spell authorised) (told mirror x c r.halt) a r.bytes;
  repository = r.repository;
}

-- a command
pub replies_command : {P W : Type 0} (repository : P → Option Repository) (refusals : P → ℕ) (is_mirror : P → Bool) (contents : W → Option (List ℕ)) (read : Reading) (c : Command) (old new : P) (out mid : W) (result : Result W ServeFault)
    → read ≡ Ok c
    → Appends (contents out) (contents mid) (spell authorised)
    → IfOk result (Tells repository refusals is_mirror contents c old new mid)
    → IfOk result (Replies repository refusals is_mirror contents read old new out)
replies_command repository refusals is_mirror contents read c old new out mid (Err g) k a t = tt
replies_command repository refusals is_mirror contents read c old new out mid (Ok w) k a t = λ x e.
    subst (λ r. Answered (is_mirror old) x r (Rose (refusals old) (refusals new)) (contents out) (contents w) (repository new)) (sym k)
    (answered (is_mirror old) x c (Rose (refusals old) (refusals new)) (contents out) (contents mid) (contents w) (repository new) a (t x e))

-- what is none
pub replies_none : {P W : Type 0} (repository : P → Option Repository) (refusals : P → ℕ) (is_mirror : P → Bool) (contents : W → Option (List ℕ)) (read : Reading) (f : WireFault) (old : P) (out : W) (result : Result W ServeFault) (bytes : List ℕ)
    → read ≡ Err f
    → ((x : Repository) → answer (is_mirror old) x (Err f) None ≡ bytes)
    → IfOk result (λ w. Appends (contents out) (contents w) bytes)
    → IfOk result (Replies repository refusals is_mirror contents read old old out)
replies_none repository refusals is_mirror contents read f old out (Err g) bytes k b a = tt
replies_none repository refusals is_mirror contents read f old out (Ok w) bytes k b a = λ x e.
    subst (λ r. Answered (is_mirror old) x r (Rose (refusals old) (refusals old)) (contents out) (contents w) (repository old)) (sym k)
    (record {
      halt = None;
      lawful = tt;
      counted = inl tt;
      bytes = subst (Appends (contents out) (contents w)) (sym (b x)) a;
      repository = e;
    })

-- some bytes behind others
pub behind_others : {W : Type 0} (contents : W → Option (List ℕ)) (out mid : W) (result : Result W ServeFault) (front bytes : List ℕ) → Appends (contents out) (contents mid) front → IfOk result (λ w. Appends (contents mid) (contents w) bytes) → IfOk result (λ w. Appends (contents out) (contents w) (front ++ bytes))
behind_others contents out mid (Err g) front bytes a b = tt
behind_others contents out mid (Ok w) front bytes a b = Appends-trans (contents out) (contents mid) (contents w) front bytes a b

-- and let go out
pub and_kept : {W : Type 0} (contents : W → Option (List ℕ)) (out mid : W) (result : Result W ServeFault) (bytes : List ℕ) → Appends (contents out) (contents mid) bytes → IfOk result (λ w. Keeps (contents mid) (contents w)) → IfOk result (λ w. Appends (contents out) (contents w) bytes)
and_kept contents out mid (Err g) bytes a k = tt
and_kept contents out mid (Ok w) bytes a k = Appends-kept (contents out) (contents mid) (contents w) bytes a k

pub replies_kept : {P W : Type 0} (repository : P → Option Repository) (refusals : P → ℕ) (is_mirror : P → Bool) (contents : W → Option (List ℕ)) (read : Reading) (old new : P) (out mid : W) (result : Result W ServeFault)
    → Replies repository refusals is_mirror contents read old new out mid
    → IfOk result (λ w. Keeps (contents mid) (contents w))
    → IfOk result (Replies repository refusals is_mirror contents read old new out)
replies_kept repository refusals is_mirror contents read old new out mid (Err g) t k = tt
replies_kept repository refusals is_mirror contents read old new out mid (Ok w) t k = λ x e.
    let r = t x e in
    record {
      halt = r.halt;
      lawful = r.lawful;
      counted = r.counted;
      bytes = Appends-kept (contents out) (contents mid) (contents w) (answer (is_mirror old) x read r.halt) r.bytes k;
      repository = r.repository;
    }

-- what is due of a change that a port is asked for
pub change_told : (mirror : Bool) (x : Repository) (n : ℕ) (name : Name) (v w : Option (List ℕ)) (e : Wanted) (old : Previous) (r : Refusal) → mirror ≡ false → v ≡ w → e ≡ wanted_of old → change_due x n name v e ≡ Some r → due mirror x (ChangeProp n name w old) ≡ Some r
change_told mirror x n name v w e old r m p q d =
    ap (λ b. due b x (ChangeProp n name w old)) m
    ∙ ap (λ u. change_due x n name u (wanted_of old)) (sym p)
    ∙ ap (λ u. change_due x n name v u) (sym q)
    ∙ d
