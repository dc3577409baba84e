use Rattle.std.proofs.Common.{◌∙◌, ap, inl, inr, is_ok, map, refl, string_bytes}
use Rattle.std.specs.List.{list_all}
use Rattle.fleet_shares.specs.Lines.{lines_of}
use Rattle.fleet_main.proofs.Brought.{not_brought_at, telling, untold}
use Rattle.fleet_main.proofs.bringing.fleet_told.Goals as goal

pub returns-in-Ok-write-clause-done : goal.returns-in-Ok-write-clause-done
returns-in-Ok-write-clause-done g c =
    telling g.F.Place.Disk g.F.Folders c.args.folders.now c.fleet_brought.new.folders c.as_str-master.result.now (string_bytes c.args.fleet.now.master) (map string_bytes c.as_slice-mirrors.result.now)
    (map string_bytes c.args.fleet.now.mirrors.items) c.in-Ok.told.items c.as_bytes.result.now (g.O.Output.contents c.args.output.now) (g.O.Output.contents c.write.new.output) c.are_done.result c.as_str-master.ensures.value
    (ap (map string_bytes) c.as_slice-mirrors.ensures.value) c.in-Ok.ensures.done (c.are_done.ensures ∙ ap (list_all is_ok) c.as_slice-in-Ok-write.ensures.value)
    (c.as_bytes.ensures.value ∙ c.in-Ok-answer_lines.ensures ∙ ap (lines_of (map string_bytes c.as_slice-mirrors.result.now)) c.as_slice.ensures.value) c.in-Ok-write.ensures.ok

pub returns-in-Ok-answer_lines-clause-refused : goal.returns-in-Ok-answer_lines-clause-refused
returns-in-Ok-answer_lines-clause-refused g c = inr (
  untold g.F.Place.Disk g.F.Folders c.args.folders.now c.fleet_brought.new.folders c.as_str-master.result.now (string_bytes c.args.fleet.now.master) (map string_bytes c.as_slice-mirrors.result.now)
      (map string_bytes c.args.fleet.now.mirrors.items) c.in-Ok.told.items c.as_str-master.ensures.value (ap (map string_bytes) c.as_slice-mirrors.ensures.value) c.in-Ok.ensures.done,
  refl,
  c.in-Err-write.ensures.failed,
)

pub returns-in-Ok-clause-refused : goal.returns-in-Ok-clause-refused
returns-in-Ok-clause-refused g c = inl (
  inr (
    refl,
    inr
        (untold g.F.Place.Disk g.F.Folders c.args.folders.now c.fleet_brought.new.folders c.as_str-master.result.now (string_bytes c.args.fleet.now.master) (map string_bytes c.as_slice-mirrors.result.now)
        (map string_bytes c.args.fleet.now.mirrors.items) c.in-Ok.told.items c.as_str-master.ensures.value (ap (map string_bytes) c.as_slice-mirrors.ensures.value) c.in-Ok.ensures.done),
  ),
  refl,
)

pub returns-clause-refused : goal.returns-clause-refused
returns-clause-refused g c = inl (
  not_brought_at g.F.Place.Disk g.F.Folders c.args.folders.now c.fleet_brought.new.folders c.as_str-master.result.now (string_bytes c.args.fleet.now.master) (map string_bytes c.as_slice-mirrors.result.now)
      (map string_bytes c.args.fleet.now.mirrors.items) c.in-Err.refusal c.as_str-master.ensures.value (ap (map string_bytes) c.as_slice-mirrors.ensures.value) c.in-Err.ensures.refused,
  refl,
)
