use Rattle.std.proofs.Common.{◌<◌, ◌≤◌, ◌∙◌, length, sym, subst, arith}
use Rattle.std.proofs.lemmas.List.{length-map}
use Rattle.std.proofs.lemmas.Result.{IfErr-weaker}
use Rattle.dump_load.specs.Records.{change_of}
use Rattle.fleet_engines.specs.Nodes.{nodes_of}
use Rattle.fleet_engines.specs.Revisions.{changes_of, too_many, IsUnfit}
use Rattle.fleet_engines.proofs.revision_nodes.RevisionNodes.load.Goals as goal

pub returns-then-len-gt-NODES-clause-refused : goal.returns-then-len-gt-NODES-clause-refused
returns-then-len-gt-NODES-clause-refused c =
    let nodes = nodes_of c.args.self in
    let came : 8192 < length c.args.self.came.items = omega (arith, c.len.ensures, c.args.self.came.ok.0, c.if-len-gt-NODES.true) in
    let read : 8192 < length nodes = omega (arith, came, length-map c.args.self.came.items (λ s. s.value)) in
    let stated : 8192 < length (changes_of nodes) = omega (arith, read, length-map nodes (λ n. change_of n.node)) in
    λ props. too_many c.fault_of.result (sym c.index.ensures.number ∙ c.if-index-trees.false) read (c.fault_of.ensures (changes_of nodes) stated (c.args.self.named came)) c.change_refusal.ensures.value

pub returns-clause-refused : goal.returns-clause-refused
returns-clause-refused c =
    let few : length c.args.self.came.items ≤ 8192 = omega (arith, c.len.ensures, c.args.self.came.ok.0, c.if-len-gt-NODES.false) in
    IfErr-weaker c.load_kept.result _ _
    (λ e k props. subst (λ ns. IsUnfit c.args.trees.now (record { number = c.args.number; props = props; nodes = ns }) e) (c.args.self.all few) (k props))
    c.load_kept.ensures.refused
