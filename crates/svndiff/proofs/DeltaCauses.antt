-- Why bytes of a delta are refused.
use Rattle.std.proofs.Common.{◌≡◌, ℕ, List, [], ◌++◌, sym, ap, subst, ◌∙◌}
use Rattle.svndiff.specs.DeltaRefusals.{IsDue, DeltaRefusedForCause, DeltaRefusedIsNoFront}
use Rattle.svndiff.specs.DeltaStreams.{Reads, Refuses, reading, stream_of, begun}
use Rattle.svndiff.specs.declared.delta.Delta.{Delta}
use Rattle.svndiff.specs.declared.delta_fault.DeltaFault.{DeltaFault}
use Rattle.svndiff.specs.declared.delta_fault.DeltaFault.TheVariants.{BadWindow, TooLong, Failed, OutOfMemory}
use Rattle.svndiff.proofs.DeltaRead.{deltas_are_read}
use Rattle.svndiff.proofs.DeltaRuns.{reading-append, reading-refused}
use Rattle.svndiff.proofs.DeltaStanding.{StreamStands, Cause, from_start}

never : (text whole : List ℕ) (d : Delta) (f : DeltaFault) → Refuses text f ≡ Reads whole d → ⊥
never text whole d f e = cc

pub refused_is_no_front : DeltaRefusedIsNoFront
refused_is_no_front bytes more base text whole f e t =
    let read = deltas_are_read (bytes ++ more) base whole t in
    never text whole read.0 f (sym (reading-refused base text f more) ∙ ap (λ s. reading base s more) (sym e) ∙ sym (reading-append base (Reads [] begun) bytes more) ∙ read.2)

due : (f : DeltaFault) (base text front : List ℕ) → stream_of base front ≡ Refuses text f → Cause f base text front → IsDue f base text front
due TooLong base text front e h = h
due BadWindow base text front e h = λ more whole. refused_is_no_front front more base text whole BadWindow e
due Failed base text front e h = h
due OutOfMemory base text front e h = h

pub refused_for_cause : DeltaRefusedForCause
refused_for_cause bytes base text f e =
    let h : StreamStands base (Refuses text f) bytes = subst (λ s. StreamStands base s bytes) e (from_start base bytes) in
    (h.0, h.1, h.2, h.3, due f base text h.0 h.3 h.4)
