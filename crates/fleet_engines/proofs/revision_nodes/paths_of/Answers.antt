use Rattle.std.proofs.Common.{◌≡◌, [], length, take, ap, sym, refl, subst, arith}
use Rattle.std.proofs.lemmas.List.{take_all}
use Rattle.dump_load.specs.Records.{change_of}
use Rattle.fleet_engines.specs.FirstPaths.{AreFirstPaths}
use Rattle.fleet_engines.specs.Revisions.{changes_of}
use Rattle.whole_texts.specs.declared.read_node.ReadNode.{ReadNode}
use Rattle.fleet_engines.proofs.Paths.{first_none, seen}
use Rattle.fleet_engines.proofs.revision_nodes.paths_of.Goals as goal

pub loop-read-init : goal.loop-read-init
loop-read-init c = (first_none c.new-paths.result.keys [] c.new-paths.ensures.empty refl, omega (arith, ap length c.new-paths.ensures.empty))

pub loop-read-preserved : goal.loop-read-preserved
loop-read-preserved c =
    let before = take c.loop-read.read-index c.args.nodes.now in
    let e = c.in_ok-add_path.ensures in (
      subst (AreFirstPaths c.add_path.new.paths.keys) (seen (λ (n : ReadNode). change_of n.node) c.args.nodes.now c.loop-read.read-index c.read-item.result _ c.loop-read-test.true c.read-item.is)
          (e.named (changes_of before) (change_of c.read-item.result.node) (sym c.in_ok-copy.ensures) c.loop-read.invariant.0),
      e.few c.loop-read.invariant.1,
    )

pub returns : goal.returns
returns c =
    let all : take c.loop-read.read-index c.args.nodes.now ≡ c.args.nodes.now = take_all c.loop-read.read-index c.args.nodes.now c.loop-read-test.false in
    record { named = subst (λ ns. AreFirstPaths c.loop-read.paths.keys (changes_of ns)) all c.loop-read.invariant.0; few = c.loop-read.invariant.1 }
