-- What a call does to the output that it writes to, and to the input that it reads.
use Rattle.std.specs.Prelude.{◌≡◌, ◌⊎◌, ◌++◌, ℕ, Bool, List, Option, Result, IfErr, IfSome}
use Rattle.std.specs.Io.KnownBytes.{Appends, Consumes, IsAtEnd}
use Rattle.byte_streams.specs.Causes.{Rose, counts}
use Rattle.byte_streams.specs.declared.input.Input.{Ghosts as InputGhosts}
use Rattle.byte_streams.specs.declared.output.Output.{Ghosts as OutputGhosts}
use Rattle.node_base.specs.declared.refusal.Refusal.{Refusal}
use Rattle.node_base.specs.declared.refusal.Refusal.TheVariants.{OutOfMemory, PeerFailed}
use Rattle.dump_text.specs.declared.state.ReadState.{ReadState}
use Rattle.fleet_engines.specs.declared.product.Product.{Product}
use Rattle.fleet_engines.specs.Runs.{Accepted, BothCounted, Counted, Refused}
use Rattle.fleet_engines.specs.Takers.{Done, Halts, OfStream, Place, Reached}
use Rattle.fleet_engines.specs.declared.taker.Taker.{Ghosts}

-- known contents grow by these bytes
abbrev pub Writes : {O : Type 0} → (O → Option (List ℕ)) → O → O → List ℕ → Type 0
Writes contents old new bytes = Appends (contents old) (contents new) bytes

-- a count of failures rose
abbrev pub FailedIn : {O : Type 0} → (O → ℕ) → O → O → Type 0
FailedIn failures old new = Rose (failures old) (failures new)

-- a failure of the output is told by PeerFailed, and by nothing else
abbrev pub TellsFailure : {O T : Type 0} → (O → ℕ) → O → O → Result T Refusal → Type 0
TellsFailure failures old new result = Counted result (failures old) (failures new)

-- a failure of the input or of the output is
abbrev pub TellsEither : {I O T : Type 0} → InputGhosts I → I → I → (O → ℕ) → O → O → Result T Refusal → Type 0
TellsEither R from to failures old new result = BothCounted result (counts R.failures R.reads from to) (failures old) (failures new)

-- a refusal is PeerFailed (49)
abbrev pub OnlyPeerFails : {T : Type 0} → Result T Refusal → Type 0
OnlyPeerFails result = IfErr result (λ e. e ≡ PeerFailed)

-- no refusal is
abbrev pub NoPeerFails : {T : Type 0} → Result T Refusal → Type 0
NoPeerFails result = IfErr result (λ e. e ≡ PeerFailed → ⊥)

-- the output failed; or nothing is written, and memory ran out
abbrev pub WritesNone : {O : Type 0} → OutputGhosts O → O → O → Refusal → Type 0
WritesNone W old new e = FailedIn W.failures old new ⊎ ((W.contents new ≡ W.contents old) × (e ≡ OutOfMemory))

-- an input of known bytes is a dump, and what it comes to is written
abbrev pub AcceptsDump : {I O : Type 0} → InputGhosts I → OutputGhosts O → Bool → Product → I → O → O → Type 0
AcceptsDump R W deltas product input old new = IfSome (R.remaining input) (λ bytes. Accepted deltas product bytes (W.contents old) (W.contents new))

-- the output failed; or an input of known bytes is refused, and what is due of the records before that is written
abbrev pub RefusesDump : {I O : Type 0} → InputGhosts I → OutputGhosts O → Bool → Product → I → O → O → Refusal → Type 0
RefusesDump R W deltas product input old new e = FailedIn W.failures old new ⊎ IfSome (R.remaining input) (λ bytes. Refused deltas product bytes (W.contents old) (W.contents new) e)

-- from what was read of a dump, a piece more leads to what is read then
abbrev pub GoesOn : {K S O : Type 0} → Ghosts K S O → List ℕ → ReadState → Place K S O → ReadState → Place K S O → Type 0
GoesOn {K} {S} {O} T piece before p after q = (deltas : Bool) (bytes : List ℕ) (first : Place K S O) → Reached deltas T.takes bytes before first p → Reached deltas T.takes (bytes ++ piece) after first q

-- whatever follows the piece, the dump is refused
abbrev pub HaltsIn : {K S O : Type 0} → Ghosts K S O → List ℕ → ReadState → Place K S O → Refusal → Place K S O → Type 0
HaltsIn {K} {S} {O} T piece before p e q = (deltas : Bool) (bytes rest : List ℕ) (first : Place K S O) → Reached deltas T.takes bytes before first p → Halts deltas T.takes T.refuses T.cant_end ((bytes ++ piece) ++ rest) first e q

-- an input is read to its end, and its records are taken
abbrev pub ReachesEnd : {I K S O : Type 0} → InputGhosts I → Ghosts K S O → Bool → I → I → ReadState → Place K S O → Place K S O → Type 0
ReachesEnd R T deltas from to reader first last =
    (bytes : List ℕ) × Consumes (R.remaining from) (R.remaining to) bytes × IsAtEnd (R.remaining to) × Reached deltas T.takes bytes reader first last

-- it is a whole dump, whose records are taken, and then its end
abbrev pub TakesDump : {I K S O : Type 0} → InputGhosts I → Ghosts K S O → Bool → I → I → Place K S O → Place K S O → Type 0
TakesDump R T deltas from to first last = OfStream (R.remaining from) (R.remaining to) (λ bytes. Done deltas T.takes T.ends bytes first last)

-- it is refused, and the records before that are taken
abbrev pub HaltsDump : {I K S O : Type 0} → InputGhosts I → Ghosts K S O → Bool → I → I → Place K S O → Refusal → Place K S O → Type 0
HaltsDump R T deltas from to first e last = OfStream (R.remaining from) (R.remaining to) (λ bytes. Halts deltas T.takes T.refuses T.cant_end bytes first e last)
