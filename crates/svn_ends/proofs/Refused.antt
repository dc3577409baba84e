-- Why a session isn't opened.
use Rattle.std.proofs.Common.{◌≡◌, ◌⊎◌, inl, inr, sym, ◌∙◌}
use Rattle.node_base.specs.declared.refusal.Refusal.{Refusal}
use Rattle.node_base.specs.declared.refusal.Refusal.TheVariants as refusal
use Rattle.ra_client.specs.declared.fault.ClientFault.{ClientFault}
use Rattle.svn_ends.specs.Runs.{TellsMaster}

pub of_some : (f : ClientFault) (e : Refusal) → (e ≡ refusal.OutOfMemory) ⊎ TellsMaster f e → (e ≡ refusal.OutOfMemory) ⊎ ((g : ClientFault) × TellsMaster g e)
of_some f e (inl h) = inl h
of_some f e (inr t) = inr (f, t)

-- it is no failed stream
pub no_peer : (f : ClientFault) (e : Refusal) → (e ≡ refusal.OutOfMemory) ⊎ TellsMaster f e → e ≡ refusal.PeerFailed → ⊥
no_peer f e (inl h) p = let bad : refusal.OutOfMemory ≡ refusal.PeerFailed = sym h ∙ p in cc
no_peer f e (inr t) p = let bad : refusal.MasterFailed t.0 ≡ refusal.PeerFailed = sym t.1 ∙ p in cc
