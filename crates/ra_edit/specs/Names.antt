-- The words of commands, and of what stands in place of one: how they are written, and as what they are read.
use Rattle.std.specs.Prelude.{ℕ, List, Bool, true, false, codes}
use Rattle.ra_edit.specs.declared.name.Name.{Name}
use Rattle.ra_edit.specs.declared.name.Name.TheVariants as word

abbrev pub word_of : Name → List ℕ
word_of word.TargetRev = codes "target-rev"
word_of word.OpenRoot = codes "open-root"
word_of word.DeleteEntry = codes "delete-entry"
word_of word.AddDir = codes "add-dir"
word_of word.OpenDir = codes "open-dir"
word_of word.ChangeDirProp = codes "change-dir-prop"
word_of word.CloseDir = codes "close-dir"
word_of word.AddFile = codes "add-file"
word_of word.OpenFile = codes "open-file"
word_of word.ChangeFileProp = codes "change-file-prop"
word_of word.ApplyTextdelta = codes "apply-textdelta"
word_of word.TextdeltaChunk = codes "textdelta-chunk"
word_of word.TextdeltaEnd = codes "textdelta-end"
word_of word.CloseFile = codes "close-file"
word_of word.CloseEdit = codes "close-edit"
word_of word.FinishReplay = codes "finish-replay"
word_of word.AbortEdit = codes "abort-edit"
word_of word.Failure = codes "failure"

-- those of what is done with files
abbrev pub is_of_file : Name → Bool
is_of_file word.AddFile = true
is_of_file word.OpenFile = true
is_of_file word.ChangeFileProp = true
is_of_file word.ApplyTextdelta = true
is_of_file word.TextdeltaChunk = true
is_of_file word.TextdeltaEnd = true
is_of_file word.CloseFile = true
is_of_file _ = false
