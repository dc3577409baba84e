-- Laws of property blocks.
use Rattle.std.specs.Prelude.{◌≡◌, ℕ, Bool, false, List, ◌++◌, length}
use Rattle.std.specs.FinMap as map
use Rattle.node_base.specs.Props.{PropMap, IsProps}
use Rattle.node_base.specs.Blocks.{Run, run_block, begun, new_block, after, Done}
use Rattle.node_base.specs.BlockGrammar.{BlockEntry, IsBlock, MayStand, set_in, removed_in, all_set}
use Rattle.node_base.specs.BlockCanon.{canon_block}

-- a block of the grammar within the limits is read as the properties that it sets and the names that it removes, whatever follows
abbrev pub BlocksAreRead : Type 0
BlocksAreRead = (delta : Bool) (bytes more : List ℕ) (es : List BlockEntry) → IsBlock delta bytes es → MayStand map.empty map.empty es → run_block (begun delta (length bytes)) (bytes ++ more) ≡ Done (map.from_entries (set_in es)) (map.from_entries (removed_in es)) more

-- bytes that were read are a block of the announced length, within the limits, whose entries were read, and what follows it
pub record ReadBlock (delta : Bool) (announced : ℕ) (bytes : List ℕ) (props removed : PropMap) (rest : List ℕ) : Type 0 where
  pub block : List ℕ
  pub entries : List BlockEntry
  pub front : bytes ≡ block ++ rest
  pub whole : length block ≡ announced
  pub spelled : IsBlock delta block entries
  pub within : MayStand map.empty map.empty entries
  pub sets : props ≡ map.from_entries (set_in entries)
  pub removes : removed ≡ map.from_entries (removed_in entries)

abbrev pub ReadsAreBlocks : Type 0
ReadsAreBlocks = (delta : Bool) (announced : ℕ) (bytes : List ℕ) (props removed : PropMap) (rest : List ℕ) → run_block (begun delta announced) bytes ≡ Done props removed rest → ReadBlock delta announced bytes props removed rest

-- it doesn't matter how the bytes are cut
abbrev pub PiecesJoin : Type 0
PiecesJoin = (s : Run) (a b : List ℕ) → after s (a ++ b) ≡ after (after s a) b

-- what is written of a map is a whole block of the grammar, and is read as that map, whatever follows
abbrev pub BlocksAreWritten : Type 0
BlocksAreWritten = (m : PropMap) (more : List ℕ) → IsProps m → IsBlock false (canon_block m) (all_set (map.entries m)) × (run_block (new_block (length (canon_block m))) (canon_block m ++ more) ≡ Done m map.empty more)
