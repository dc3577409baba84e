use Rattle.std.proofs.Common.{◌∙◌, ap, sym, subst}
use Rattle.std.proofs.lemmas.List.{take_all}
use Rattle.std.specs.List.{flat_map}
use Rattle.std.specs.Io.KnownBytes.{Appends}
use Rattle.std.specs.Prelude.{List, ℕ}
use Rattle.ra_item.specs.Items.{spell}
use Rattle.ra_browse.specs.Histories.{place_item}
use Rattle.ra_browse.proofs.Located.{places_row}
use Rattle.ra_browse.proofs.location.write_places.Goals as goal

pub returns : goal.returns
returns g c =
    let all = take_all c.loop-place.place-index c.args.places.now c.loop-place-test.false in
    subst (λ (l : List ℕ). Appends (g.W.Write.contents c.args.out.now) (g.W.Write.contents c.loop-place.out) l) (ap (flat_map (λ a. spell (place_item a))) all ∙ sym (places_row c.args.places.now)) c.loop-place.invariant
