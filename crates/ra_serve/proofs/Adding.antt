-- What stands behind what a writer had, whatever its port knows.
use Rattle.std.proofs.Common.{◌≡◌, ℕ, List, [], ◌++◌, Option, Result, Ok, Err, sym, subst}
use Rattle.std.proofs.KnownBytes.{Appends-nil, Appends-trans, Appends-kept}
use Rattle.std.specs.Prelude.{IfOk}
use Rattle.std.specs.Io.KnownBytes.{Appends, Keeps}
use Rattle.ra_item.specs.Items.{spell}
use Rattle.ra_item.specs.declared.fault.NextFault.{NextFault}
use Rattle.ra_wire.specs.Replies.{greeting}
use Rattle.ra_serve.specs.Answers.{refused}
use Rattle.ra_serve.specs.Ports.{refusal_of}
use Rattle.ra_serve.specs.Serving.{EndsBy, Greets, SaysFirst}
use Rattle.ra_serve.specs.Tellings.{Adds, GivesMore}
use Rattle.ra_serve.specs.declared.fault.End as declared
use Rattle.ra_serve.specs.declared.fault.PortFault.{PortFault}

pub adds_none : {W : Type 0} (contents : W → Option (List ℕ)) (out : W) → Adds contents out out
adds_none contents out = ([], Appends-nil (contents out))

pub adds_by : {W : Type 0} (contents : W → Option (List ℕ)) (out now : W) (bytes : List ℕ) → Appends (contents out) (contents now) bytes → Adds contents out now
adds_by contents out now bytes a = (bytes, a)

pub adds_then : {W : Type 0} (contents : W → Option (List ℕ)) (out mid now : W) → Adds contents out mid → Adds contents mid now → Adds contents out now
adds_then contents out mid now a b = (a.0 ++ b.0, Appends-trans (contents out) (contents mid) (contents now) a.0 b.0 a.1 b.1)

pub adds_more : {W : Type 0} (contents : W → Option (List ℕ)) (out mid now : W) (bytes : List ℕ) → Adds contents out mid → Appends (contents mid) (contents now) bytes → Adds contents out now
adds_more contents out mid now bytes a b = adds_then contents out mid now a (bytes, b)

-- ---- a writer that a call gives back

-- behind these bytes
pub more_by : {W E : Type 0} (contents : W → Option (List ℕ)) (out : W) (bytes : List ℕ) (result : Result W E) → IfOk result (λ w. Appends (contents out) (contents w) bytes) → GivesMore contents out result
more_by contents out bytes (Ok w) a = (bytes, a)
more_by contents out bytes (Err f) a = tt

-- behind a refusal
pub more_refused : {W E : Type 0} (contents : W → Option (List ℕ)) (out : W) (result : Result W E) (f : PortFault) → IfOk result (λ w. Appends (contents out) (contents w) (refused (refusal_of f))) → GivesMore contents out result
more_refused contents out result f a = more_by contents out (refused (refusal_of f)) result a

-- behind what was written before
pub more_then : {W E : Type 0} (contents : W → Option (List ℕ)) (out mid : W) (result : Result W E) → Adds contents out mid → GivesMore contents mid result → GivesMore contents out result
more_then contents out mid (Ok w) a b = adds_then contents out mid w a b
more_then contents out mid (Err f) a b = tt

pub more_behind : {W E : Type 0} (contents : W → Option (List ℕ)) (out mid : W) (bytes : List ℕ) (result : Result W E) → Appends (contents out) (contents mid) bytes → GivesMore contents mid result → GivesMore contents out result
more_behind contents out mid bytes result a b = more_then contents out mid result (bytes, a) b

-- and then nothing
pub more_kept : {W E : Type 0} (contents : W → Option (List ℕ)) (out mid : W) (result : Result W E) → Adds contents out mid → IfOk result (λ w. Keeps (contents mid) (contents w)) → GivesMore contents out result
more_kept contents out mid (Ok w) a k = (a.0, Appends-kept (contents out) (contents mid) (contents w) a.0 a.1 k)
more_kept contents out mid (Err f) a k = tt

-- ---- the end of a session

pub end_adds : {W E : Type 0} (contents : W → Option (List ℕ)) (out mid : W) (result : Result (W × declared.End) E) (f : NextFault) → Adds contents out mid → IfOk result (λ r. (r.0 ≡ mid) × EndsBy f r.1) → IfOk result (λ r. Adds contents out r.0)
end_adds contents out mid (Ok r) f a e = subst (λ w. Adds contents out w) (sym e.0) a
end_adds contents out mid (Err g) f a e = tt

pub rest_adds : {W E : Type 0} (contents : W → Option (List ℕ)) (out mid : W) (result : Result (W × declared.End) E) → Adds contents out mid → IfOk result (λ r. Adds contents mid r.0) → IfOk result (λ r. Adds contents out r.0)
rest_adds contents out mid (Ok r) a b = adds_then contents out mid r.0 a b
rest_adds contents out mid (Err g) a b = tt

-- ---- the greeting

pub greets : {W : Type 0} (contents : W → Option (List ℕ)) (out mid now : W) → Appends (contents out) (contents mid) (spell greeting) → Adds contents mid now → Greets contents out now
greets contents out mid now a b = (b.0, Appends-trans (contents out) (contents mid) (contents now) (spell greeting) b.0 a b.1)

pub greets_first : {W E : Type 0} (contents : W → Option (List ℕ)) (out mid : W) (result : Result (W × declared.End) E) → Appends (contents out) (contents mid) (spell greeting) → IfOk result (λ r. Adds contents mid r.0) → IfOk result (λ r. Greets contents out r.0)
greets_first contents out mid (Ok r) a b = greets contents out mid r.0 a b
greets_first contents out mid (Err g) a b = tt

-- of a writer whose bytes are another's
pub says_else : (first : List ℕ) (told there now later : Option (List ℕ)) → told ≡ there → now ≡ later → SaysFirst first told now → SaysFirst first there later
says_else first told there now later h k s = (s.0, subst (λ a. Appends a later (first ++ s.0)) h (subst (λ b. Appends told b (first ++ s.0)) k s.1))
