-- What the instructions of a window make, one after another.
use Rattle.std.specs.Prelude.{ℕ, zero, suc, ◌-◌, List, [], ◌∷◌, ◌++◌, length, take, drop, get_or}
use Rattle.svndiff.specs.declared.instructions.Kind.TheVariants as kind
use Rattle.svndiff.specs.declared.instructions.Instruction.{Instruction}

-- what is made so far, and the new data behind it
pub record Making : Type 0 where
  pub made : List ℕ
  pub new : List ℕ

-- so many bytes more, each the one that stands so far back
abbrev pub repeat : ℕ → ℕ → List ℕ → List ℕ
repeat back zero made = made
repeat back (suc n) made = repeat back n (made ++ get_or made (length made - back) 0 ∷ [])

-- an instruction more
abbrev pub after : List ℕ → Instruction → Making → Making
after view i m =
    elim i.kind [
      | kind.Source ↦ record { made = m.made ++ take i.length (drop i.at view); new = m.new }
      | kind.Target ↦ record { made = repeat (length m.made - i.at) i.length m.made; new = m.new }
      | kind.New ↦ record { made = m.made ++ take i.length m.new; new = drop i.length m.new }
    ]

abbrev pub run : List ℕ → Making → List Instruction → Making
run view m [] = m
run view m (i ∷ is) = run view (after view i m) is
