-- What a history is seen as.
use Rattle.std.specs.Prelude.{◌≡◌, ◌++◌, ℕ, Bool, List, [], ◌∷◌, map, Option, Some, None, IfSome, true, if◌then◌else◌}
use Rattle.std.specs.List.{flat_map}
use Rattle.std.specs.Option.{option_map}
use Rattle.byte_streams.specs.declared.output.Output.{Ghosts}
use Rattle.byte_streams.specs.Memory.{written_in, IsWhole}
use Rattle.byte_streams.specs.declared.vec_writer.VecWriter.{VecWriter}
use Rattle.node_base.specs.Tree.{PathMap}
use Rattle.node_base.specs.declared.refusal.Refusal.{Refusal}
use Rattle.dump_text.specs.Written.{are_whole}
use Rattle.dump_text.specs.declared.record.DumpRecord.{DumpRecord}
use Rattle.dump_load.specs.declared.change.Change.{Change}
use Rattle.dump_text.specs.declared.record.RevRecord.{RevRecord}
use Rattle.fleet_engines.specs.Revisions.{by_set, plain, Makes, Rev, Told}
use Rattle.fleet_engines.specs.Runs.{canon_of, head_of, CantEnd, EndsWith, Held, RefusesOne, TakesOne}
use Rattle.fleet_engines.specs.Takers.{Place}
use Rattle.fleet_engines.specs.Nodes.{nodes_of}
use Rattle.fleet_engines.specs.declared.history.History.{History}
use Rattle.fleet_engines.specs.declared.open_revision.OpenRevision.{OpenRevision}
use Rattle.fleet_engines.specs.declared.product.Product.{Product}
use Rattle.fleet_engines.specs.declared.open_revision.ReadRevision.{ReadRevision}

abbrev pub rev_of : RevRecord → Rev
rev_of r = record { number = r.number; props = r.props; nodes = map plain r.nodes.items }

-- with all the nodes that came
abbrev pub rev_read : ReadRevision → Rev
rev_read r = record { number = r.number; props = r.props; nodes = nodes_of r.nodes }

-- the revision that is read
abbrev pub open_in : OpenRevision → Option Rev
open_in o = option_map rev_read o.revision

abbrev pub told_of : History → Told
told_of h = record { identity = h.uuid; zero = h.zero; trees = h.trees.items; last = open_in h.last }

-- what was given back
abbrev pub revs_of : Option RevRecord → List Rev
revs_of None = []
revs_of (Some r) = rev_of r ∷ []

-- what a history has been told, and an output holds
abbrev pub held_by : {O : Type 0} → Ghosts O → History → O → Held
held_by R history output = record { told = told_of history; contents = R.contents output; failures = R.failures output }

abbrev pub held : {K O : Type 0} → Ghosts O → Place K History O → Held
held R p = held_by R p.store p.output

-- a revision that was read makes one tree more, and is given back as it is written
abbrev pub AddsRevision : History → ReadRevision → RevRecord → History → Type 0
AddsRevision old revision out new =
    (set : List Change) × (tree : PathMap) × Makes old.trees.items (rev_read revision) set tree × (rev_of out ≡ by_set (rev_read revision) set)
    × (told_of new ≡ record (told_of old) { trees = old.trees.items ++ tree ∷ [] })

-- the head and revision 0 in their canonical spelling, where they are due
abbrev pub beginning_text : Bool → History → List ℕ
beginning_text is_due history = if is_due then head_of (told_of history) else []

-- the revision that is whole in its own, if there is one
abbrev pub closed_text : Option RevRecord → List ℕ
closed_text closed = flat_map canon_of (revs_of closed)

abbrev pub due_text : Bool → History → Option RevRecord → List ℕ
due_text is_due history closed = beginning_text is_due history ++ closed_text closed

-- a writer to memory holds these bytes, if memory was refused in no write
abbrev pub Holds : VecWriter → List ℕ → Type 0
Holds writer bytes = IsWhole writer → written_in writer ≡ bytes

-- no node of the revision that is whole, if there is one, gives its properties as a delta
abbrev pub IsWritable : Option RevRecord → Type 0
IsWritable closed = IfSome closed (λ r. are_whole r.nodes.items ≡ true)

-- a record more is told to a history, and what is due is written
abbrev pub TakesNext : {O : Type 0} → Ghosts O → Product → History → O → DumpRecord → History → O → Type 0
TakesNext W product old before next new now = TakesOne product (held_by W old before) next (held_by W new now)

-- it isn't
abbrev pub RefusesNext : {O : Type 0} → Ghosts O → History → O → DumpRecord → Refusal → History → O → Type 0
RefusesNext W old before next e new now = RefusesOne (held_by W old before) next e (held_by W new now)

-- the end is told to it, and what is due then is written
abbrev pub TakesEnd : {O : Type 0} → Ghosts O → Product → History → O → History → O → Type 0
TakesEnd W product old before new now = EndsWith product (held_by W old before) (held_by W new now)

-- it isn't
abbrev pub RefusesEnd : {O : Type 0} → Ghosts O → History → O → Refusal → History → O → Type 0
RefusesEnd W old before e new now = CantEnd (held_by W old before) e (held_by W new now)
