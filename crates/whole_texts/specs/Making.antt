-- The text that a delta makes of a base.
use Rattle.std.specs.Prelude.{◌≡◌, ℕ, List, Option, IfSome}
use Rattle.md5.specs.Md5.{md5}
use Rattle.svndiff.specs.DeltaGrammar.{IsDelta}
use Rattle.svndiff.specs.DeltaStreams.{Refuses, stream_of}
use Rattle.svndiff.specs.declared.delta_fault.DeltaFault.TheVariants as delta
use Rattle.dump_text.specs.declared.record.DeltaText.{DeltaText}
use Rattle.whole_texts.specs.declared.refusal.TextRefusal.{TextRefusal}
use Rattle.whole_texts.specs.declared.refusal.TextRefusal.TheVariants as refusal

-- a text has the MD5 that is given, where one is
abbrev pub SumsTo : Option (List ℕ) → List ℕ → Type 0
SumsTo sum text = IfSome sum (λ s. s ≡ md5 text)

-- a delta makes this text of a base, and both have their sums
pub record MakesText (d : DeltaText) (base text : List ℕ) : Type 0 where
  pub base_sum : SumsTo d.base_sum base
  pub delta : IsDelta d.bytes base text
  pub sum : SumsTo d.sum text

-- bytes go past a limit of windows or texts
abbrev pub IsPastLimit : List ℕ → List ℕ → Type 0
IsPastLimit bytes base = (text : List ℕ) × (stream_of base bytes ≡ Refuses text delta.TooLong)

-- why bytes make no text of a base: they go past a limit; or else they are no delta of it
abbrev pub MakesNone : List ℕ → List ℕ → TextRefusal → Type 0
MakesNone bytes base refusal.TooLong = IsPastLimit bytes base
MakesNone bytes base refusal.BadWindow = (IsPastLimit bytes base → ⊥) × ((text : List ℕ) → IsDelta bytes base text → ⊥)
MakesNone bytes base e = ⊥

-- a text is refused for its sum
abbrev pub HasOtherSum : Option (List ℕ) → List ℕ → TextRefusal → Type 0
HasOtherSum sum text refusal.BadSum = SumsTo sum text → ⊥
HasOtherSum sum text e = ⊥

-- why a delta makes no text of a base: that one has another sum; else the bytes make none; or the one that they make has another sum
pub data CantMake (d : DeltaText) (base : List ℕ) (e : TextRefusal) : Type 0 where
  OtherBase : HasOtherSum d.base_sum base e → CantMake d base e
  NoDelta : SumsTo d.base_sum base → MakesNone d.bytes base e → CantMake d base e
  OtherText : (text : List ℕ) → SumsTo d.base_sum base → IsDelta d.bytes base text → HasOtherSum d.sum text e → CantMake d base e
