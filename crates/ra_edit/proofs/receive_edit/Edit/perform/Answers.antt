use Rattle.ra_edit.proofs.Refusing.{as_refused}
use Rattle.ra_edit.proofs.receive_edit.Edit.perform.Goals as goal

pub returns-in-Target : goal.returns-in-Target
returns-in-Target g c = rw c.in-Target.is (record { moved = c.target.ensures.moved; refused = as_refused _ _ c.target.result c.target.ensures.refused; own = c.target.ensures.own; began = c.target.ensures.began; still = c.target.ensures.still })

pub returns-in-OpenRoot : goal.returns-in-OpenRoot
returns-in-OpenRoot g c = rw c.in-OpenRoot.is (record { moved = c.open_root.ensures.moved; refused = as_refused _ _ c.open_root.result c.open_root.ensures.refused; own = c.open_root.ensures.own; began = c.open_root.ensures.began; still = c.open_root.ensures.still })

pub returns-in-DeleteEntry : goal.returns-in-DeleteEntry
returns-in-DeleteEntry g c = rw c.in-DeleteEntry.is (record { moved = c.delete_entry.ensures.moved; refused = as_refused _ _ c.delete_entry.result c.delete_entry.ensures.refused; own = c.delete_entry.ensures.own; began = c.delete_entry.ensures.began; still = c.delete_entry.ensures.still })

pub returns-in-AddDir : goal.returns-in-AddDir
returns-in-AddDir g c = rw c.in-AddDir.is (record { moved = c.add_dir.ensures.moved; refused = as_refused _ _ c.add_dir.result c.add_dir.ensures.refused; own = c.add_dir.ensures.own; began = c.add_dir.ensures.began; still = c.add_dir.ensures.still })

pub returns-in-OpenDir : goal.returns-in-OpenDir
returns-in-OpenDir g c = rw c.in-OpenDir.is (record { moved = c.open_dir.ensures.moved; refused = as_refused _ _ c.open_dir.result c.open_dir.ensures.refused; own = c.open_dir.ensures.own; began = c.open_dir.ensures.began; still = c.open_dir.ensures.still })

pub returns-in-DirProp : goal.returns-in-DirProp
returns-in-DirProp g c = rw c.in-DirProp.is (record { moved = c.dir_prop.ensures.moved; refused = as_refused _ _ c.dir_prop.result c.dir_prop.ensures.refused; own = c.dir_prop.ensures.own; began = c.dir_prop.ensures.began; still = c.dir_prop.ensures.still })

pub returns-in-CloseDir : goal.returns-in-CloseDir
returns-in-CloseDir g c = rw c.in-CloseDir.is (record { moved = c.close_dir.ensures.moved; refused = as_refused _ _ c.close_dir.result c.close_dir.ensures.refused; own = c.close_dir.ensures.own; began = c.close_dir.ensures.began; still = c.close_dir.ensures.still })

pub returns-in-AddFile : goal.returns-in-AddFile
returns-in-AddFile g c = rw c.in-AddFile.is (record { moved = c.add_file.ensures.moved; refused = as_refused _ _ c.add_file.result c.add_file.ensures.refused; own = c.add_file.ensures.own; began = c.add_file.ensures.began; still = c.add_file.ensures.still })

pub returns-in-OpenFile : goal.returns-in-OpenFile
returns-in-OpenFile g c = rw c.in-OpenFile.is (record { moved = c.open_file.ensures.moved; refused = as_refused _ _ c.open_file.result c.open_file.ensures.refused; own = c.open_file.ensures.own; began = c.open_file.ensures.began; still = c.open_file.ensures.still })

pub returns-in-FileProp : goal.returns-in-FileProp
returns-in-FileProp g c = rw c.in-FileProp.is (record { moved = c.file_prop.ensures.moved; refused = as_refused _ _ c.file_prop.result c.file_prop.ensures.refused; own = c.file_prop.ensures.own; began = c.file_prop.ensures.began; still = c.file_prop.ensures.still })

pub returns-in-TextStart : goal.returns-in-TextStart
returns-in-TextStart g c = rw c.in-TextStart.is (record { moved = c.text_start.ensures.moved; refused = as_refused _ _ c.text_start.result c.text_start.ensures.refused; own = c.text_start.ensures.own; began = c.text_start.ensures.began; still = c.text_start.ensures.still })

pub returns-in-Chunk : goal.returns-in-Chunk
returns-in-Chunk g c = rw c.in-Chunk.is (record { moved = c.chunk.ensures.moved; refused = as_refused _ _ c.chunk.result c.chunk.ensures.refused; own = c.chunk.ensures.own; began = c.chunk.ensures.began; still = c.chunk.ensures.still })

pub returns-in-TextEnd : goal.returns-in-TextEnd
returns-in-TextEnd g c = rw c.in-TextEnd.is (record { moved = c.text_end.ensures.moved; refused = as_refused _ _ c.text_end.result c.text_end.ensures.refused; own = c.text_end.ensures.own; began = c.text_end.ensures.began; still = c.text_end.ensures.still })

pub returns-in-CloseFile : goal.returns-in-CloseFile
returns-in-CloseFile g c = rw c.in-CloseFile.is (record { moved = c.close_file.ensures.moved; refused = as_refused _ _ c.close_file.result c.close_file.ensures.refused; own = c.close_file.ensures.own; began = c.close_file.ensures.began; still = c.close_file.ensures.still })

pub returns-in-CloseEdit : goal.returns-in-CloseEdit
returns-in-CloseEdit g c = rw c.in-CloseEdit.is (record { moved = c.close_edit.ensures.moved; refused = as_refused _ _ c.close_edit.result c.close_edit.ensures.refused; own = c.close_edit.ensures.own; began = c.close_edit.ensures.began; still = c.close_edit.ensures.still })
