-- The items that are written for an edit are that edit, call by call.
use Rattle.std.proofs.Common.{◌≡◌, ℕ, ◌≤◌, nat_lt, true, false, ◌||◌, List, [], ◌∷◌, ◌++◌, length, inr, Option, Some, None, refl, sym, ap, subst, arith, codes}
use Rattle.std.specs.List.{list_any, list_all, concat}
use Rattle.ra_item.specs.Items.{Number, Text, End}
use Rattle.node_base.specs.Path.{Path, same_path}
use Rattle.node_base.specs.PathText.{path_text}
use Rattle.svndiff.specs.declared.limits.TheConstants.{TEXT_BYTES}
use Rattle.node_base.proofs.PathLemmas.{path_of_same}
use Rattle.delta_editor.specs.declared.call.Call.{Call}
use Rattle.delta_editor.specs.declared.call.Call.TheVariants as call
use Rattle.delta_editor.specs.Nesting.{OpenFile, OpenText, TextDone, Within, After, is_dir, run}
use Rattle.ra_edit.specs.Commands.{list, command, revision, string, source, sum_text, token, number_of, chunk, parts, spelled_after}
use Rattle.ra_edit.specs.Edits.{Dir, Fresh, Told, named, Begun, Targeted, Inside, Ended, AllSay, Nothing, Then}
use Rattle.ra_edit.specs.Edits as edits
use Rattle.ra_edit.specs.EditLaws.{AllWithin, TextsFit, is_no_target, cut_all, WrittenIsEdit}
use Rattle.svndiff.specs.Reading.{begin}
use Rattle.svndiff.specs.Spelling.{head}
use Rattle.ra_edit.specs.Wire.{AllDeeper, is_deeper}
use Rattle.svndiff.specs.declared.reading.Place.TheVariants as at
use Rattle.svndiff.specs.declared.reading.Reading.{Reading}
use Rattle.ra_edit.proofs.Told.{both, or_false, or_falses}
use Rattle.ra_edit.proofs.EditRead.{revision_is, string_is, source_is, sum_is, open_dirs, dirs, Fine, fine_kept, fine_grown, grown, free, is_open, behind, ran, below, parts_are, parts_join, Awaits, in_text, pieces_say, room_for}

mutual
  dirs_say : (opened ds : List Path) (cs : List Call) (text : Option (List ℕ)) → Fine opened ds → run (Within (open_dirs ds)) cs ≡ Some After → AllDeeper cs → AllWithin cs → list_all is_no_target cs ≡ true → TextsFit text cs → room_for opened cs → AllSay (Inside (dirs opened ds)) (spelled_after opened cs) (cut_all cs) Ended
  dirs_say opened [] (call.CloseEdit ∷ []) text f e d w n x k = Then (Inside []) Ended Ended (command (codes "finish-replay") []) [] (call.CloseEdit ∷ []) [] (edits.Finish (command (codes "finish-replay") []) ([], [], refl)) (Nothing Ended)
  dirs_say opened (u ∷ ds) (call.AddDir up p from ∷ cs) text f e d w n x k =
      let r = ran (same_path up u) (Within (open_dirs (p ∷ u ∷ ds))) cs e in
      let same : up ≡ u = path_of_same up u r.0 in
      let ab = both (nat_lt (length up) (length p)) (list_all is_deeper cs) d in
      let short = below up p u ds same ab.0 f.1 in
      let item = command (codes "add-dir") (Text (path_text p) ∷ Text (token (number_of opened u)) ∷ Text (token (length opened)) ∷ source from ∷ []) in
      subst (λ v. AllSay (Inside (dirs opened (u ∷ ds))) (spelled_after opened (call.AddDir v p from ∷ cs)) (cut_all (call.AddDir v p from ∷ cs)) Ended) (sym same) (
      Then (Inside (dirs opened (u ∷ ds))) (Inside (named (token (length opened)) p Dir ∷ dirs opened (u ∷ ds))) Ended item (spelled_after (p ∷ opened) cs) (call.AddDir u p from ∷ []) (cut_all cs)
      (edits.AddDir (token (number_of opened u)) u (dirs opened ds) (path_text p) (token (length opened)) p from (source from) item w.0.0 (free opened (u ∷ ds) (omega (arith, k)) f) (source_is from w.0.1) ([], [], refl))
      (subst (λ os. AllSay (Inside os) (spelled_after (p ∷ opened) cs) (cut_all cs) Ended) (grown opened p Dir (u ∷ ds) short) (dirs_say (p ∷ opened) (p ∷ u ∷ ds) cs text (fine_grown opened p (u ∷ ds) short f) r.1 ab.1 w.1 n x (omega (arith, k)))))
  dirs_say opened (u ∷ ds) (call.OpenDir up p base ∷ cs) text f e d w n x k =
      let r = ran (same_path up u) (Within (open_dirs (p ∷ u ∷ ds))) cs e in
      let same : up ≡ u = path_of_same up u r.0 in
      let ab = both (nat_lt (length up) (length p)) (list_all is_deeper cs) d in
      let short = below up p u ds same ab.0 f.1 in
      let item = command (codes "open-dir") (Text (path_text p) ∷ Text (token (number_of opened u)) ∷ Text (token (length opened)) ∷ revision base ∷ []) in
      subst (λ v. AllSay (Inside (dirs opened (u ∷ ds))) (spelled_after opened (call.OpenDir v p base ∷ cs)) (cut_all (call.OpenDir v p base ∷ cs)) Ended) (sym same) (
      Then (Inside (dirs opened (u ∷ ds))) (Inside (named (token (length opened)) p Dir ∷ dirs opened (u ∷ ds))) Ended item (spelled_after (p ∷ opened) cs) (call.OpenDir u p base ∷ []) (cut_all cs)
      (edits.OpenDir (token (number_of opened u)) u (dirs opened ds) (path_text p) (token (length opened)) p base (revision base) item w.0.0 (free opened (u ∷ ds) (omega (arith, k)) f) (revision_is base w.0.1) ([], [], refl))
      (subst (λ os. AllSay (Inside os) (spelled_after (p ∷ opened) cs) (cut_all cs) Ended) (grown opened p Dir (u ∷ ds) short) (dirs_say (p ∷ opened) (p ∷ u ∷ ds) cs text (fine_grown opened p (u ∷ ds) short f) r.1 ab.1 w.1 n x (omega (arith, k)))))
  dirs_say opened (u ∷ ds) (call.DeleteEntry up p base ∷ cs) text f e d w n x k =
      let r = ran (same_path up u) (Within (open_dirs (u ∷ ds))) cs e in
      let item = command (codes "delete-entry") (Text (path_text p) ∷ revision base ∷ Text (token (number_of opened u)) ∷ []) in
      subst (λ v. AllSay (Inside (dirs opened (u ∷ ds))) (spelled_after opened (call.DeleteEntry v p base ∷ cs)) (cut_all (call.DeleteEntry v p base ∷ cs)) Ended) (sym (path_of_same up u r.0)) (
      Then (Inside (dirs opened (u ∷ ds))) (Inside (dirs opened (u ∷ ds))) Ended item (spelled_after opened cs) (call.DeleteEntry u p base ∷ []) (cut_all cs)
      (edits.DeleteEntry (token (number_of opened u)) u (dirs opened ds) (path_text p) p base (revision base) item w.0.0 (revision_is base w.0.1) ([], [], refl))
      (dirs_say opened (u ∷ ds) cs text f r.1 d w.1 n x (omega (arith, k))))
  dirs_say opened (u ∷ ds) (call.AddFile up p from ∷ cs) text f e d w n x k =
      let r = ran (same_path up u) (Within (OpenFile p ∷ open_dirs (u ∷ ds))) cs e in
      let same : up ≡ u = path_of_same up u r.0 in
      let ab = both (nat_lt (length up) (length p)) (list_all is_deeper cs) d in
      let short = below up p u ds same ab.0 f.1 in
      let item = command (codes "add-file") (Text (path_text p) ∷ Text (token (number_of opened u)) ∷ Text (token (length opened)) ∷ source from ∷ []) in
      subst (λ v. AllSay (Inside (dirs opened (u ∷ ds))) (spelled_after opened (call.AddFile v p from ∷ cs)) (cut_all (call.AddFile v p from ∷ cs)) Ended) (sym same) (
      Then (Inside (dirs opened (u ∷ ds))) (Inside (named (token (length opened)) p Fresh ∷ dirs opened (u ∷ ds))) Ended item (spelled_after (p ∷ opened) cs) (call.AddFile u p from ∷ []) (cut_all cs)
      (edits.AddFile (token (number_of opened u)) u (dirs opened ds) (path_text p) (token (length opened)) p from (source from) item w.0.0 (free opened (u ∷ ds) (omega (arith, k)) f) (source_is from w.0.1) ([], [], refl))
      (subst (λ os. AllSay (Inside os) (spelled_after (p ∷ opened) cs) (cut_all cs) Ended) (grown opened p Fresh (u ∷ ds) short) (fresh_say (p ∷ opened) (u ∷ ds) p cs (fine_kept opened p (u ∷ ds) short f) r.1 ab.1 w.1 n x (omega (arith, k)))))
  dirs_say opened (u ∷ ds) (call.OpenFile up p base ∷ cs) text f e d w n x k =
      let r = ran (same_path up u) (Within (OpenFile p ∷ open_dirs (u ∷ ds))) cs e in
      let same : up ≡ u = path_of_same up u r.0 in
      let ab = both (nat_lt (length up) (length p)) (list_all is_deeper cs) d in
      let short = below up p u ds same ab.0 f.1 in
      let item = command (codes "open-file") (Text (path_text p) ∷ Text (token (number_of opened u)) ∷ Text (token (length opened)) ∷ revision base ∷ []) in
      subst (λ v. AllSay (Inside (dirs opened (u ∷ ds))) (spelled_after opened (call.OpenFile v p base ∷ cs)) (cut_all (call.OpenFile v p base ∷ cs)) Ended) (sym same) (
      Then (Inside (dirs opened (u ∷ ds))) (Inside (named (token (length opened)) p Fresh ∷ dirs opened (u ∷ ds))) Ended item (spelled_after (p ∷ opened) cs) (call.OpenFile u p base ∷ []) (cut_all cs)
      (edits.OpenFile (token (number_of opened u)) u (dirs opened ds) (path_text p) (token (length opened)) p base (revision base) item w.0.0 (free opened (u ∷ ds) (omega (arith, k)) f) (revision_is base w.0.1) ([], [], refl))
      (subst (λ os. AllSay (Inside os) (spelled_after (p ∷ opened) cs) (cut_all cs) Ended) (grown opened p Fresh (u ∷ ds) short) (fresh_say (p ∷ opened) (u ∷ ds) p cs (fine_kept opened p (u ∷ ds) short f) r.1 ab.1 w.1 n x (omega (arith, k)))))
  dirs_say opened ds (call.DirProp p name value ∷ cs) text f e d w n x k =
      let r = ran (list_any (is_dir p) (open_dirs ds)) (Within (open_dirs ds)) cs e in
      let item = command (codes "change-dir-prop") (Text (token (number_of opened p)) ∷ Text name ∷ string value ∷ []) in
      Then (Inside (dirs opened ds)) (Inside (dirs opened ds)) Ended item (spelled_after opened cs) (call.DirProp p name value ∷ []) (cut_all cs)
      (edits.DirProp (token (number_of opened p)) p (dirs opened ds) name name value (string value) item (is_open opened p ds r.0) w.0 (string_is value) ([], [], refl))
      (dirs_say opened ds cs text f r.1 d w.1 n x (omega (arith, k)))
  dirs_say opened (u ∷ ds) (call.CloseDir p ∷ cs) text f e d w n x k =
      let r = ran (same_path p u) (Within (open_dirs ds)) cs e in
      let item = command (codes "close-dir") (Text (token (number_of opened u)) ∷ []) in
      subst (λ v. AllSay (Inside (dirs opened (u ∷ ds))) (spelled_after opened (call.CloseDir v ∷ cs)) (cut_all (call.CloseDir v ∷ cs)) Ended) (sym (path_of_same p u r.0)) (
      Then (Inside (dirs opened (u ∷ ds))) (Inside (dirs opened ds)) Ended item (spelled_after opened cs) (call.CloseDir u ∷ []) (cut_all cs)
      (edits.CloseDir (token (number_of opened u)) u (dirs opened ds) item ([], [], refl))
      (dirs_say opened ds cs text f.2 r.1 d w.1 n x (omega (arith, k))))
  dirs_say opened ds cs text f e d w n x k = cc

  fresh_say : (opened ds : List Path) (p : Path) (cs : List Call) → Fine opened ds → run (Within (OpenFile p ∷ open_dirs ds)) cs ≡ Some After → AllDeeper cs → AllWithin cs → list_all is_no_target cs ≡ true → TextsFit None cs → room_for opened cs → AllSay (Inside (named (token (number_of opened p)) p Fresh ∷ dirs opened ds)) (spelled_after opened cs) (cut_all cs) Ended
  fresh_say opened ds p (call.DirProp q name value ∷ cs) f e d w n x k =
      let os = named (token (number_of opened p)) p Fresh ∷ dirs opened ds in
      let r = ran (list_any (is_dir q) (open_dirs ds)) (Within (OpenFile p ∷ open_dirs ds)) cs e in
      let item = command (codes "change-dir-prop") (Text (token (number_of opened q)) ∷ Text name ∷ string value ∷ []) in
      Then (Inside os) (Inside os) Ended item (spelled_after opened cs) (call.DirProp q name value ∷ []) (cut_all cs)
      (edits.DirProp (token (number_of opened q)) q os name name value (string value) item (behind (named (token (number_of opened p)) p Fresh) (token (number_of opened q)) q (dirs opened ds) (is_open opened q ds r.0)) w.0 (string_is value) ([], [], refl))
      (fresh_say opened ds p cs f r.1 d w.1 n x (omega (arith, k)))
  fresh_say opened ds p (call.FileProp q name value ∷ cs) f e d w n x k =
      let os = named (token (number_of opened p)) p Fresh ∷ dirs opened ds in
      let r = ran ((same_path q p || false) || false) (Within (OpenFile p ∷ open_dirs ds)) cs e in
      let item = command (codes "change-file-prop") (Text (token (number_of opened p)) ∷ Text name ∷ string value ∷ []) in
      subst (λ v. AllSay (Inside os) (spelled_after opened (call.FileProp v name value ∷ cs)) (cut_all (call.FileProp v name value ∷ cs)) Ended) (sym (path_of_same q p (or_falses (same_path q p) r.0))) (
      Then (Inside os) (Inside os) Ended item (spelled_after opened cs) (call.FileProp p name value ∷ []) (cut_all cs)
      (edits.FileProp (token (number_of opened p)) p Fresh (dirs opened ds) name name value (string value) item (λ z. cc) w.0 (string_is value) ([], [], refl))
      (fresh_say opened ds p cs f r.1 d w.1 n x (omega (arith, k))))
  fresh_say opened ds p (call.TextStart q ∷ cs) f e d w n x k =
      let t = token (number_of opened p) in
      let os = named t p Fresh ∷ dirs opened ds in
      let r = ran (same_path q p) (Within (OpenText q ∷ open_dirs ds)) cs e in
      let item = command (codes "apply-textdelta") (Text t ∷ list [] ∷ []) in
      let ready : Reading = record { place = at.Between; source = 0; target = 0; instructions = 0; fresh = 0; sum = 0; room = TEXT_BYTES } in
      subst (λ v. AllSay (Inside os) (spelled_after opened (call.TextStart v ∷ cs)) (cut_all (call.TextStart v ∷ cs)) Ended) (sym (path_of_same q p r.0)) (
      Then (Inside os) (in_text t p [] begin (dirs opened ds)) Ended item (chunk (Text t) head ∷ spelled_after opened cs) (call.TextStart p ∷ []) (cut_all cs)
      (edits.TextStart t p (dirs opened ds) End item ([], [], refl))
      (Then (in_text t p [] begin (dirs opened ds)) (in_text t p [] ready (dirs opened ds)) Ended (chunk (Text t) head) (spelled_after opened cs) [] (cut_all cs)
      (edits.Chunk t p (dirs opened ds) [] head begin ready [] (chunk (Text t) head) refl refl ([], [], refl))
      (text_say opened ds p [] ready cs f (subst (λ v. run (Within (OpenText v ∷ open_dirs ds)) cs ≡ Some After) (path_of_same q p r.0) r.1) d w.1 n x (omega (arith, k)) (refl, refl))))
  fresh_say opened ds p (call.CloseFile q sum ∷ cs) f e d w n x k =
      let os = named (token (number_of opened p)) p Fresh ∷ dirs opened ds in
      let r = ran (same_path q p || false) (Within (open_dirs ds)) cs e in
      let item = command (codes "close-file") (Text (token (number_of opened p)) ∷ string (sum_text sum) ∷ []) in
      subst (λ v. AllSay (Inside os) (spelled_after opened (call.CloseFile v sum ∷ cs)) (cut_all (call.CloseFile v sum ∷ cs)) Ended) (sym (path_of_same q p (or_false (same_path q p) r.0))) (
      Then (Inside os) (Inside (dirs opened ds)) Ended item (spelled_after opened cs) (call.CloseFile p sum ∷ []) (cut_all cs)
      (edits.CloseFresh (token (number_of opened p)) p (dirs opened ds) sum (string (sum_text sum)) item (sum_is p sum w.0) ([], [], refl))
      (dirs_say opened ds cs None f r.1 d w.1 n x (omega (arith, k))))
  fresh_say opened ds p cs f e d w n x k = cc

  text_say : (opened ds : List Path) (p : Path) (text : List ℕ) (r : Reading) (cs : List Call) → Fine opened ds → run (Within (OpenText p ∷ open_dirs ds)) cs ≡ Some After → AllDeeper cs → AllWithin cs → list_all is_no_target cs ≡ true → TextsFit (Some text) cs → room_for opened cs → Awaits text r → AllSay (in_text (token (number_of opened p)) p text r (dirs opened ds)) (spelled_after opened cs) (cut_all cs) Ended
  text_say opened ds p text reader (call.DirProp q name value ∷ cs) f e d w n x k aw =
      let o = named (token (number_of opened p)) p (edits.Within text reader) in
      let r = ran (list_any (is_dir q) (open_dirs ds)) (Within (OpenText p ∷ open_dirs ds)) cs e in
      let item = command (codes "change-dir-prop") (Text (token (number_of opened q)) ∷ Text name ∷ string value ∷ []) in
      Then (Inside (o ∷ dirs opened ds)) (Inside (o ∷ dirs opened ds)) Ended item (spelled_after opened cs) (call.DirProp q name value ∷ []) (cut_all cs)
      (edits.DirProp (token (number_of opened q)) q (o ∷ dirs opened ds) name name value (string value) item (behind o (token (number_of opened q)) q (dirs opened ds) (is_open opened q ds r.0)) w.0 (string_is value) ([], [], refl))
      (text_say opened ds p text reader cs f r.1 d w.1 n x (omega (arith, k)) aw)
  text_say opened ds p text reader (call.FileProp q name value ∷ cs) f e d w n x k aw =
      let os = named (token (number_of opened p)) p (edits.Within text reader) ∷ dirs opened ds in
      let r = ran (same_path q p || false) (Within (OpenText p ∷ open_dirs ds)) cs e in
      let item = command (codes "change-file-prop") (Text (token (number_of opened p)) ∷ Text name ∷ string value ∷ []) in
      subst (λ v. AllSay (Inside os) (spelled_after opened (call.FileProp v name value ∷ cs)) (cut_all (call.FileProp v name value ∷ cs)) Ended) (sym (path_of_same q p (or_false (same_path q p) r.0))) (
      Then (Inside os) (Inside os) Ended item (spelled_after opened cs) (call.FileProp p name value ∷ []) (cut_all cs)
      (edits.FileProp (token (number_of opened p)) p (edits.Within text reader) (dirs opened ds) name name value (string value) item (λ z. cc) w.0 (string_is value) ([], [], refl))
      (text_say opened ds p text reader cs f r.1 d w.1 n x (omega (arith, k)) aw))
  text_say opened ds p text reader (call.TextPiece q piece ∷ cs) f e d w n x k aw =
      let t = token (number_of opened p) in
      let r = ran (same_path q p) (Within (OpenText p ∷ open_dirs ds)) cs e in
      let whole : text ++ concat (parts piece) ≡ text ++ piece = ap (λ y. text ++ y) (parts_join (length piece) piece (omega arith)) in
      subst (λ v. AllSay (in_text t p text reader (dirs opened ds)) (spelled_after opened (call.TextPiece v piece ∷ cs)) (cut_all (call.TextPiece v piece ∷ cs)) Ended) (sym (path_of_same q p r.0)) (
      pieces_say t p (dirs opened ds) text reader (parts piece) (spelled_after opened cs) (cut_all cs) (parts_are (length piece) piece (omega arith)) aw (subst (λ y. length y ≤ TEXT_BYTES) (sym whole) x.0) (λ new a.
      subst (λ y. AllSay (in_text t p y new (dirs opened ds)) (spelled_after opened cs) (cut_all cs) Ended) (sym whole) (text_say opened ds p (text ++ piece) new cs f r.1 d w.1 n x.1 (omega (arith, k)) (subst (λ y. Awaits y new) whole a))))
  text_say opened ds p text reader (call.TextEnd q ∷ cs) f e d w n x k aw =
      let t = token (number_of opened p) in
      let item = command (codes "textdelta-end") (Text t ∷ []) in
      let r = ran (same_path q p) (Within (TextDone q ∷ open_dirs ds)) cs e in
      let same : q ≡ p = path_of_same q p r.0 in
      subst (λ v. AllSay (in_text t p text reader (dirs opened ds)) (spelled_after opened (call.TextEnd v ∷ cs)) (cut_all (call.TextEnd v ∷ cs)) Ended) (sym same) (
      Then (in_text t p text reader (dirs opened ds)) (Inside (named t p (Told text) ∷ dirs opened ds)) Ended item (spelled_after opened cs) (call.TextEnd p ∷ []) (cut_all cs)
      (edits.TextEnd t p (dirs opened ds) text reader item (rw aw.0 refl) ([], [], refl))
      (told_say opened ds p text cs f (subst (λ v. run (Within (TextDone v ∷ open_dirs ds)) cs ≡ Some After) same r.1) d w.1 n x (omega (arith, k))))
  text_say opened ds p text reader cs f e d w n x k aw = cc

  told_say : (opened ds : List Path) (p : Path) (text : List ℕ) (cs : List Call) → Fine opened ds → run (Within (TextDone p ∷ open_dirs ds)) cs ≡ Some After → AllDeeper cs → AllWithin cs → list_all is_no_target cs ≡ true → TextsFit (Some text) cs → room_for opened cs → AllSay (Inside (named (token (number_of opened p)) p (Told text) ∷ dirs opened ds)) (spelled_after opened cs) (cut_all cs) Ended
  told_say opened ds p text (call.DirProp q name value ∷ cs) f e d w n x k =
      let o = named (token (number_of opened p)) p (Told text) in
      let r = ran (list_any (is_dir q) (open_dirs ds)) (Within (TextDone p ∷ open_dirs ds)) cs e in
      let item = command (codes "change-dir-prop") (Text (token (number_of opened q)) ∷ Text name ∷ string value ∷ []) in
      Then (Inside (o ∷ dirs opened ds)) (Inside (o ∷ dirs opened ds)) Ended item (spelled_after opened cs) (call.DirProp q name value ∷ []) (cut_all cs)
      (edits.DirProp (token (number_of opened q)) q (o ∷ dirs opened ds) name name value (string value) item (behind o (token (number_of opened q)) q (dirs opened ds) (is_open opened q ds r.0)) w.0 (string_is value) ([], [], refl))
      (told_say opened ds p text cs f r.1 d w.1 n x (omega (arith, k)))
  told_say opened ds p text (call.FileProp q name value ∷ cs) f e d w n x k =
      let os = named (token (number_of opened p)) p (Told text) ∷ dirs opened ds in
      let r = ran (same_path q p) (Within (TextDone p ∷ open_dirs ds)) cs e in
      let item = command (codes "change-file-prop") (Text (token (number_of opened p)) ∷ Text name ∷ string value ∷ []) in
      subst (λ v. AllSay (Inside os) (spelled_after opened (call.FileProp v name value ∷ cs)) (cut_all (call.FileProp v name value ∷ cs)) Ended) (sym (path_of_same q p r.0)) (
      Then (Inside os) (Inside os) Ended item (spelled_after opened cs) (call.FileProp p name value ∷ []) (cut_all cs)
      (edits.FileProp (token (number_of opened p)) p (Told text) (dirs opened ds) name name value (string value) item (λ z. cc) w.0 (string_is value) ([], [], refl))
      (told_say opened ds p text cs f r.1 d w.1 n x (omega (arith, k))))
  told_say opened ds p text (call.CloseFile q sum ∷ cs) f e d w n x k =
      let os = named (token (number_of opened p)) p (Told text) ∷ dirs opened ds in
      let r = ran (same_path q p) (Within (open_dirs ds)) cs e in
      let item = command (codes "close-file") (Text (token (number_of opened p)) ∷ string (sum_text sum) ∷ []) in
      subst (λ v. AllSay (Inside os) (spelled_after opened (call.CloseFile v sum ∷ cs)) (cut_all (call.CloseFile v sum ∷ cs)) Ended) (sym (path_of_same q p r.0)) (
      Then (Inside os) (Inside (dirs opened ds)) Ended item (spelled_after opened cs) (call.CloseFile p sum ∷ []) (cut_all cs)
      (edits.CloseTold (token (number_of opened p)) p (dirs opened ds) text sum (string (sum_text sum)) item x.0 (sum_is p sum w.0) ([], [], refl))
      (dirs_say opened ds cs (Some text) f r.1 d w.1 n x.1 (omega (arith, k))))
  told_say opened ds p text cs f e d w n x k = cc

pub written_is_edit : WrittenIsEdit
written_is_edit n base body small b targets nested deep within texts room =
    let open_root = command (codes "open-root") (revision base ∷ Text (token 0) ∷ []) in
    let target = command (codes "target-rev") (Number n ∷ []) in
    Then Begun Targeted Ended target (open_root ∷ spelled_after ([] ∷ []) body) (call.Target n ∷ []) (call.OpenRoot base ∷ cut_all body)
    (edits.Target n target small ([], [], refl))
    (Then Targeted (Inside (dirs ([] ∷ []) ([] ∷ []))) Ended open_root (spelled_after ([] ∷ []) body) (call.OpenRoot base ∷ []) (cut_all body)
    (edits.OpenRoot Targeted base (token 0) (revision base) open_root (inr refl) (revision_is base b) ([], [], refl))
    (dirs_say ([] ∷ []) ([] ∷ []) body None (omega arith, refl, tt) nested deep within targets texts (omega (arith, room))))
