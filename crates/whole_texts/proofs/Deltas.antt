-- What the bytes of a delta make, and why they make nothing.
use Rattle.std.proofs.Common.{◌≡◌, ℕ, Bool, true, false, List, [], ◌∷◌, length, Result, Ok, Err, refl, sym, ap, ◌∙◌}
use Rattle.std.proofs.lemmas.Bool.{false≢true}
use Rattle.svndiff.specs.DeltaGrammar.{IsDelta}
use Rattle.svndiff.specs.DeltaReading.{is_between, is_failed}
use Rattle.svndiff.specs.DeltaStreams.{Stream, Reads, Refuses, Tells, begun, reading, stream_of, settled, any_byte}
use Rattle.svndiff.specs.declared.delta.Delta.{Delta}
use Rattle.svndiff.specs.declared.delta_fault.DeltaFault.{DeltaFault}
use Rattle.svndiff.specs.declared.delta_fault.DeltaFault.TheVariants as fault
use Rattle.svndiff.specs.declared.window.Awaited.{Awaited}
use Rattle.svndiff.specs.declared.window.Awaited.TheVariants as at
use Rattle.svndiff.specs.declared.window.Window.{Window}
use Rattle.svndiff.proofs.DeltaRead.{deltas_are_read}
use Rattle.svndiff.proofs.DeltaRuns.{reading-refused}
use Rattle.svndiff.proofs.DeltaStanding.{read_is_delta}
use Rattle.whole_texts.specs.declared.refusal.TextRefusal.TheVariants as refusal
use Rattle.whole_texts.specs.Making.{MakesNone}
use Rattle.whole_texts.specs.Refusals.{UnlessMemory, of_delta}

never : (text whole : List ℕ) (d : Delta) (f : DeltaFault) → Refuses text f ≡ Reads whole d → ⊥
never text whole d f e = cc

abbrev fault_in : Stream → DeltaFault
fault_in (Reads text d) = fault.OutOfMemory
fault_in (Refuses text f) = f

abbrev delta_in : Stream → Delta
delta_in (Reads text d) = d
delta_in (Refuses text f) = begun

-- bytes that are refused, and not for a limit
refused_none : (bytes base text : List ℕ) (f : DeltaFault) → (f ≡ fault.TooLong → ⊥) → stream_of base bytes ≡ Refuses text f → MakesNone bytes base refusal.BadWindow
refused_none bytes base text f other e = (
  λ past. other (ap fault_in (sym e ∙ past.1)),
  λ whole d. let read = deltas_are_read bytes base whole d in never text whole read.0 f (sym e ∙ read.2),
)

-- bytes that end inside a window
pub unended : (bytes base text : List ℕ) (d : Delta) → is_between d.window ≡ false → stream_of base bytes ≡ Reads text d → MakesNone bytes base refusal.BadWindow
unended bytes base text d within e = (
  λ past. never past.0 text d fault.TooLong (sym past.1 ∙ e),
  λ whole made. let read = deltas_are_read bytes base whole made in
      false≢true (sym within ∙ ap (λ s. is_between (delta_in s).window) (sym e ∙ read.2) ∙ read.1),
)

pub ended : (bytes base text : List ℕ) (d : Delta) → is_between d.window ≡ true → stream_of base bytes ≡ Reads text d → IsDelta bytes base text
ended bytes base text d between e = read_is_delta bytes base text (d, between, e)

-- ---- after a refusal each byte is refused

failed_at : (p : Awaited) (w : Window) → is_failed (record w { place = p }) ≡ true → p ≡ at.Failed
failed_at at.Failed w e = refl
failed_at p w e = cc

spent_refuses : (base text rest : List ℕ) (d : Delta) → is_failed d.window ≡ true → (rest ≡ [] → ⊥) → reading base (Reads text d) rest ≡ Refuses text fault.Failed
spent_refuses base text [] d e some = absurd (some refl)
spent_refuses base text (b ∷ rest) d e some =
    ap (λ p. reading base (settled base text (any_byte (length base) (record d { window = record d.window { place = p } }) b)) rest) (failed_at d.window.place d.window e)
    ∙ reading-refused base text fault.Failed rest

limit_not_window : fault.BadWindow ≡ fault.TooLong → ⊥
limit_not_window e = cc

limit_not_failed : fault.Failed ≡ fault.TooLong → ⊥
limit_not_failed e = cc

window_not_failed : fault.BadWindow ≡ fault.Failed → ⊥
window_not_failed e = cc

pub refused : (base bytes rest text : List ℕ) (d : Delta) (f : DeltaFault) (b : Bool) → is_failed d.window ≡ b → stream_of base bytes ≡ reading base (Reads text d) rest → (is_failed d.window ≡ false → Tells f base d rest) → (is_failed d.window ≡ true → f ≡ fault.Failed) → (rest ≡ [] → ⊥) → UnlessMemory (MakesNone bytes base) (of_delta f)
refused base bytes rest text d fault.OutOfMemory b is h tells spent some = tt
refused base bytes rest text d fault.TooLong false is h tells spent some = (text, h ∙ tells is text)
refused base bytes rest text d fault.TooLong true is h tells spent some = absurd (limit_not_failed (sym (spent is)))
refused base bytes rest text d fault.BadWindow false is h tells spent some = refused_none bytes base text fault.BadWindow limit_not_window (h ∙ tells is text)
refused base bytes rest text d fault.BadWindow true is h tells spent some = absurd (window_not_failed (spent is))
refused base bytes rest text d fault.Failed false is h tells spent some = refused_none bytes base text fault.Failed limit_not_failed (h ∙ tells is text)
refused base bytes rest text d fault.Failed true is h tells spent some = refused_none bytes base text fault.Failed limit_not_failed (h ∙ spent_refuses base text rest d is some)

abbrev fault_of : {A : Type 0} → Result A DeltaFault → DeltaFault → DeltaFault
fault_of (Ok x) f = f
fault_of (Err e) f = e

pub same_fault : {A : Type 0} (r : Result A DeltaFault) (f g : DeltaFault) → r ≡ Err f → r ≡ Err g → f ≡ g
same_fault r f g e h = ap (λ x. fault_of x f) (sym e ∙ h)
