use Rattle.std.proofs.Common.{◌++◌, ◌∙◌, ap}
use Rattle.std.specs.Prelude.{codes}
use Rattle.node_base.specs.PathText.{path_text}
use Rattle.dump_text.specs.Canon.{header_line, told_kind, kind_line, action_word, source_lines, block_line, text_lines, content_line, content_of}
use Rattle.dump_text.proofs.Writes.{join, wrote_as}
use Rattle.dump_text.proofs.writer.write_node.Goals as goal

pub returns : goal.returns
returns c =
    let r = c.args.node.now in
    let path = header_line (codes "Node-path: ") (path_text r.path) in
    let kind = kind_line (told_kind r.action r.kind) in
    let action_name = codes "Node-action: " in
    let action = header_line action_name (action_word r.action) in
    let s-0 = c.args.out.now in
    let s-1 = c.write_path.new.out in
    let s-2 = c.write_kind.new.out in
    let s-3 = c.write_line.new.out in
    let s-4 = c.write_source.new.out in
    let s-5 = c.write_block_line.new.out in
    let s-6 = c.write_text_lines.new.out in
    let s-7 = c.write_content_line.new.out in
    let s-8 = c.write_content.new.out in
    let w-2 = wrote_as s-1 s-2 (kind_line c.told_kind.result) kind (ap kind_line c.told_kind.ensures) c.write_kind.ensures in
    let w-3 = wrote_as s-2 s-3 (header_line action_name c.as_bytes.result.now) action (ap (header_line action_name) (c.as_bytes.ensures.value ∙ c.action_word-action.ensures)) c.write_line.ensures in
    let j-7 = join s-6 s-7 s-8 (content_line r.props r.text) (content_of r.props r.text) c.write_content_line.ensures c.write_content.ensures in
    let j-6 = join s-5 s-6 s-8 (text_lines r.text) (content_line r.props r.text ++ content_of r.props r.text) c.write_text_lines.ensures j-7 in
    let j-5 = join s-4 s-5 s-8 (block_line r.props) (text_lines r.text ++ (content_line r.props r.text ++ content_of r.props r.text)) c.write_block_line.ensures j-6 in
    let j-4 = join s-3 s-4 s-8 (source_lines r.source) (block_line r.props ++ (text_lines r.text ++ (content_line r.props r.text ++ content_of r.props r.text))) c.write_source.ensures j-5 in
    let j-3 = join s-2 s-3 s-8 action (source_lines r.source ++ (block_line r.props ++ (text_lines r.text ++ (content_line r.props r.text ++ content_of r.props r.text)))) w-3 j-4 in
    let j-2 = join s-1 s-2 s-8 kind (action ++ (source_lines r.source ++ (block_line r.props ++ (text_lines r.text ++ (content_line r.props r.text ++ content_of r.props r.text))))) w-2 j-3 in
    join s-0 s-1 s-8 path (kind ++ (action ++ (source_lines r.source ++ (block_line r.props ++ (text_lines r.text ++ (content_line r.props r.text ++ content_of r.props r.text)))))) c.write_path.ensures j-2
