-- The bytes of a name's text, wherever they stand.
use Rattle.std.specs.Prelude.{ℕ, List, string_bytes}
use Rattle.node_base.specs.declared.name_text.NameText.{NameText}
use Rattle.node_base.specs.declared.name_text.NameText.TheVariants.{Short, Long}

abbrev pub name_bytes : NameText → List ℕ
name_bytes (Short text) = text.bytes
name_bytes (Long text) = string_bytes text
