-- Entries one after another.
use Rattle.std.proofs.Common.{◌≡◌, List, [], ◌∷◌, ◌++◌, ap, refl}
use Rattle.std.specs.Prelude.{map}
use Rattle.std.specs.List.{flat_map}
use Rattle.ra_item.specs.Items.{spell, spell_all, row}
use Rattle.ra_wire.specs.Answers.{dirent_as}
use Rattle.ra_wire.specs.Replies.{dirent}
use Rattle.ra_wire.specs.declared.dirent.Dirent as declared

pub entries_row : (ds : List declared.Dirent) → spell_all (row (map dirent (map dirent_as ds))) ≡ flat_map (λ d. spell (dirent (dirent_as d))) ds
entries_row [] = refl
entries_row (d ∷ ds) = ap (λ l. spell (dirent (dirent_as d)) ++ l) (entries_row ds)
