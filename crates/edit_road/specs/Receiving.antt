-- What is received from a stream, and why it isn't.
use Rattle.std.specs.Prelude.{◌≡◌, ℕ, Bool, false, List, [], ◌++◌, Option}
use Rattle.node_base.specs.Path.{Path}
use Rattle.node_base.specs.Tree.{PathMap}
use Rattle.dump_load.specs.declared.change.Change.{Change}
use Rattle.dump_load.specs.Effect.{effect}
use Rattle.delta_editor.specs.declared.call.Call.{Call}
use Rattle.delta_editor.specs.declared.fault.EditorFault.TheVariants.{OutOfMemory}
use Rattle.editor_ends.specs.BuildFaults.{RefusesWithin}
use Rattle.editor_ends.specs.Builders.{HasText}
use Rattle.editor_ends.specs.Built.{IsSetWithin}
use Rattle.editor_ends.specs.Drive.{drive}
use Rattle.byte_streams.specs.Causes.{Counts}
use Rattle.ra_item.specs.Items.{Item}
use Rattle.ra_item.specs.Streams.{Stream}
use Rattle.ra_edit.specs.Commands.{edit_bytes}
use Rattle.ra_edit.specs.DeltaEdits.{RefusesDeltas}
use Rattle.ra_edit.specs.Differences.{SaysWhole, SpellsDeltas}
use Rattle.ra_edit.specs.Edits.{SpellsEdit}
use Rattle.ra_edit.specs.EditLaws.{IsBefore, IsOnlyFor}
use Rattle.ra_item.specs.ItemStreams.{Takes, reader_of, meanwhile, is_spent, ahead}
use Rattle.ra_edit.specs.declared.edit_fault.EditFault.{EditFault}
use Rattle.ra_item.specs.declared.stream.ItemStream.{ItemStream}
use Rattle.edit_road.specs.Sent.{IsNew, MayBeSent, RefusesOver}

-- the items that were taken are one edit, and this set is what its calls come to over these trees
pub record IsSetOfItems (trees : List PathMap) (before after : Option (List ℕ)) (was is : List ℕ → Stream) (set : List Change) : Type 0 where
  pub items : List Item
  pub calls : List Call
  pub taken : Takes items before after was is
  pub spelled : SpellsEdit items calls
  pub made : IsSetWithin trees set calls

-- so it is of two states of a stream
abbrev pub IsNextEdit : {R : Type 0} {g : _} → (R → Option (List ℕ)) → List PathMap → ItemStream R g → ItemStream R g → List Change → Type 0
IsNextEdit remaining trees old new set = IsSetOfItems trees (remaining (reader_of old)) (remaining (reader_of new)) (ahead old) (ahead new) set

-- the items that were taken are one edit whose texts come as differences, and this set is what its calls come to over these trees
pub record IsSetOfDeltas (trees : List PathMap) (before after : Option (List ℕ)) (was is : List ℕ → Stream) (set : List Change) : Type 0 where
  pub items : List Item
  pub calls : List Call
  pub taken : Takes items before after was is
  pub spelled : SpellsDeltas (HasText trees) [] items calls
  pub whole : SaysWhole calls
  pub made : IsSetWithin trees set calls

abbrev pub IsNextOfDeltas : {R : Type 0} {g : _} → (R → Option (List ℕ)) → List PathMap → ItemStream R g → ItemStream R g → List Change → Type 0
IsNextOfDeltas remaining trees old new set = IsSetOfDeltas trees (remaining (reader_of old)) (remaining (reader_of new)) (ahead old) (ahead new) set

-- nor is one taken, for what its items say
abbrev pub RefusesNextOfDeltas : {R : Type 0} {g : _} → (R → Option (List ℕ)) → (R → ℕ) → (R → ℕ) → List PathMap → ItemStream R g → ItemStream R g → EditFault → Type 0
RefusesNextOfDeltas remaining failures reads trees old new f = RefusesDeltas (HasText trees) IsNew (λ t. t) RefusesWithin trees (remaining (reader_of old)) (remaining (reader_of new)) (ahead old) (is_spent old) (meanwhile failures reads old new) f

-- where a drive of a set that may be sent is to come, this set has its effect, and then the stream stands before what follows
abbrev pub ReceivesSet : List PathMap → List Change → Option (List ℕ) → Option (List ℕ) → (List ℕ → Stream) → (List ℕ → Stream) → Type 0
ReceivesSet trees set before after was is = (s : List Change) (more : List ℕ) → MayBeSent trees s → IsBefore (edit_bytes (drive trees s) ++ more) before was → ((q : Path) → effect trees set q ≡ effect trees s q) × IsBefore more after is

abbrev pub Receives : {R : Type 0} {g : _} → (R → Option (List ℕ)) → List PathMap → ItemStream R g → ItemStream R g → List Change → Type 0
Receives remaining trees old new set = ReceivesSet trees set (remaining (reader_of old)) (remaining (reader_of new)) (ahead old) (ahead new)

-- why the next edit is refused
abbrev pub RefusesEdit : {R : Type 0} {g : _} → (R → Option (List ℕ)) → (R → ℕ) → (R → ℕ) → List PathMap → ItemStream R g → ItemStream R g → EditFault → Type 0
RefusesEdit remaining failures reads trees old new f = RefusesOver trees (remaining (reader_of old)) (remaining (reader_of new)) (ahead old) (is_spent old) (meanwhile failures reads old new) f

-- where a drive of a set that may be sent is to come, a refusal is want of memory or a read that failed
abbrev pub RefusesSet : List PathMap → Option (List ℕ) → (List ℕ → Stream) → Bool → Counts → EditFault → Type 0
RefusesSet trees before was spent failed f = (s : List Change) (more : List ℕ) → MayBeSent trees s → IsBefore (edit_bytes (drive trees s) ++ more) before was → spent ≡ false → IsOnlyFor (λ e. e ≡ OutOfMemory) failed f

abbrev pub Refuses : {R : Type 0} {g : _} → (R → Option (List ℕ)) → (R → ℕ) → (R → ℕ) → List PathMap → ItemStream R g → ItemStream R g → EditFault → Type 0
Refuses remaining failures reads trees old new f = RefusesSet trees (remaining (reader_of old)) (ahead old) (is_spent old) (meanwhile failures reads old new) f
