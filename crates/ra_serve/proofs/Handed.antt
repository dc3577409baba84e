-- A session of which a writer's bytes are another's.
use Rattle.std.proofs.Common.{◌≡◌, ℕ, Bool, List, Option, Result, Ok, Err, IfOk, refl, sym, subst}
use Rattle.std.specs.Io.KnownBytes.{Appends}
use Rattle.ra_item.specs.Items.{Item}
use Rattle.ra_item.specs.Streams.{Stream}
use Rattle.repo_core.specs.Repository.{Repository}
use Rattle.ra_serve.specs.Sessions.{Turn}
use Rattle.ra_item.specs.declared.fault.NextFault.{NextFault}
use Rattle.ra_item.specs.declared.fault.NextFault.TheVariants as next
use Rattle.ra_item.specs.declared.fault.ItemFault.TheVariants as item
use Rattle.ra_item.specs.Items.{spell}
use Rattle.ra_wire.specs.Replies.{greeting}
use Rattle.ra_serve.specs.Serving.{EndsBy, OnlyGreets, Serves}
use Rattle.ra_serve.specs.declared.fault.End as declared
use Rattle.ra_serve.specs.declared.fault.ServeFault.{ServeFault}

pub serves_else : (spelled : Repository → List Turn → List ℕ) (asked : List Turn → List Turn) (stands over : List Item → Bool) (mirror : Bool) (x : Repository) (counted counted_now : ℕ) (told there now later : Option (List ℕ)) (new : Option Repository) (before after : Option (List ℕ)) (was is : List ℕ → Stream) (spent : Bool) (e : declared.End) → told ≡ there → now ≡ later → Serves spelled asked stands over mirror x counted counted_now told now new before after was is spent e → Serves spelled asked stands over mirror x counted counted_now there later new before after was is spent e
serves_else spelled asked stands over mirror x counted counted_now told there now later new before after was is spent e h k s =
    subst (λ a. Serves spelled asked stands over mirror x counted counted_now a later new before after was is spent e) h
    (subst (λ b. Serves spelled asked stands over mirror x counted counted_now told b new before after was is spent e) k s)

-- the same where a client was greeted alone
pub greets_else : {P O : Type 0} (repository : P → Option Repository) (contents : O → Option (List ℕ)) (old new : P) (out there now later : O) (e : declared.End) → there ≡ out → later ≡ now → OnlyGreets repository contents old new there now e → OnlyGreets repository contents old new out later e
greets_else repository contents old new out there now later e h k g = (
  g.0,
  subst (λ o. Appends (contents out) (contents o) (spell greeting)) (sym k) (subst (λ o. Appends (contents o) (contents now) (spell greeting)) h g.1),
  g.2,
)

-- ---- a stream that was refused before

-- it gives nothing
pub gives_nothing : {T E : Type 0} (v : T) (f : E) → ◌≡◌ {A = Result T E} (Ok v) (Err f) → ⊥
gives_nothing v f h = cc

pub its_refusal : {T E : Type 0} (e f : E) → ◌≡◌ {A = Result T E} (Err e) (Err f) → e ≡ f
its_refusal e f h = cc

-- behind the greeting its refusal ends the session
pub greets_only : {P W : Type 0} (repository : P → Option Repository) (contents : W → Option (List ℕ)) (port : P) (out now : W) (result : Result (W × declared.End) ServeFault) (f : NextFault) → f ≡ next.Items item.Failed → Appends (contents out) (contents now) (spell greeting) → IfOk result (λ r. (r.0 ≡ now) × EndsBy f r.1) → IfOk result (λ r. OnlyGreets repository contents port port out r.0 r.1)
greets_only repository contents port out now (Err d) f e a t = tt
greets_only repository contents port out now (Ok w) f e a t =
    let b = subst (λ g. EndsBy g w.1) e t.1 in
    (refl, subst (λ v. Appends (contents out) (contents v) (spell greeting)) (sym t.0) a, b.0)
