use Rattle.node_base.proofs.ReadBack.{answered, spelled_of_answer, bad_of_answer, read_of_spelled, long_is_refused}
use Rattle.node_base.proofs.path.NodePath.parse.Goals as goal

pub returns : goal.returns
returns c = record {
  read = c.read_path.ensures;
  spelled = spelled_of_answer c.args.bytes.now c.read_path.result c.read_path.ensures;
  taken = λ p s small. answered c.args.bytes.now c.read_path.result _ c.read_path.ensures (read_of_spelled c.args.bytes.now p s small);
  long = λ e. answered c.args.bytes.now c.read_path.result _ c.read_path.ensures (long_is_refused c.args.bytes.now e);
  bad = bad_of_answer c.args.bytes.now c.read_path.result c.read_path.ensures;
}
