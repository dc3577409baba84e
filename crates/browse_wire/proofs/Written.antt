-- Changed paths one after another.
use Rattle.std.proofs.Common.{◌≡◌, List, [], ◌∷◌, ◌++◌, ap, refl}
use Rattle.std.specs.Prelude.{map}
use Rattle.std.specs.List.{flat_map}
use Rattle.ra_item.specs.Items.{spell, spell_all, row}
use Rattle.browse_wire.specs.Told.{change_item}
use Rattle.browse_wire.specs.declared.told.ChangedPath.{ChangedPath}

pub changes_row : (cs : List ChangedPath) → spell_all (row (map change_item cs)) ≡ flat_map (λ c. spell (change_item c)) cs
changes_row [] = refl
changes_row (c ∷ cs) = ap (λ l. spell (change_item c) ++ l) (changes_row cs)
