-- The lines that tell what came of each mirror.
use Rattle.std.specs.Prelude.{ℕ, List, [], ◌∷◌, ◌++◌, Option, Some, None, Ok, Err, codes, slice_set}
use Rattle.std.specs.Fmt.{decimal}
use Rattle.fleet_jobs.specs.Answers.{Answer}
use Rattle.node_base.specs.Refusals.{refusal_number}
use Rattle.node_base.specs.declared.refusal.Refusal.{Refusal}
use Rattle.sync_core.specs.Faults.{fault_text, refusal_of}
use Rattle.sync_core.specs.declared.fault.SyncFault.TheVariants.{Other}

-- `NAME: head N`, or `NAME: NUMBER TEXT` of a refusal
abbrev pub line_of : List ℕ → Answer → List ℕ
line_of name (Ok head) = name ++ (codes ": head " ++ (decimal head ++ codes "\n"))
line_of name (Err f) = name ++ (codes ": " ++ (decimal (refusal_number (refusal_of f)) ++ (codes " " ++ (fault_text f ++ codes "\n"))))

-- a line for each name and the answer in its place
abbrev pub lines_of : List (List ℕ) → List Answer → List ℕ
lines_of [] answers = []
lines_of (n ∷ ns) [] = []
lines_of (n ∷ ns) (x ∷ xs) = line_of n x ++ lines_of ns xs

-- where there is a refusal, it is the answer in that place
abbrev pub refused_at : List Answer → ℕ → Option Refusal → List Answer
refused_at answers place None = answers
refused_at answers place (Some e) = slice_set answers place (Err (Other e))
