-- What is known of a client's items, and of the output by which it is told.
use Rattle.ra_item.specs.declared.stream.ItemStream.{ItemStream}
use Rattle.ra_serve.specs.declared.client.ClientItems.{ClientItems}
use Rattle.ra_serve.specs.declared.client.SessionOut.{SessionOut}

abbrev pub output_of : {O : Type 0} → SessionOut O → O
output_of out = out.inner

-- the stream of its items
abbrev pub items_of : {R O : Type 0} {g : _} → ClientItems R O g → ItemStream R g
items_of items = items.items
