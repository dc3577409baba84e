-- What a client writes, item by item.
use Rattle.std.specs.Prelude.{ℕ, true, false, List, [], ◌∷◌, codes}
use Rattle.ra_item.specs.Items.{Item, Word, Number, Text}
use Rattle.node_base.specs.PathText.{path_text}
use Rattle.ra_wire.specs.Commands.{Previous, Any, Absent, Value, Command, LatestRev, CheckPath, GetFile, GetDir, RevProplist, RevProp, ChangeProp, Replay, ReplayRange, truth_word}
use Rattle.ra_wire.specs.Replies.{list, answer_of, string, number_or_none}

-- version 2, the only capability, and a URL
abbrev pub hello : List ℕ → Item
hello url = list (Number 2 ∷ list (Word (codes "edit-pipeline") ∷ []) ∷ Text url ∷ [])

-- nobody, with an empty token
abbrev pub anonymous : Item
anonymous = list (Word (codes "ANONYMOUS") ∷ list (Text [] ∷ []) ∷ [])

-- what a change replaces
abbrev pub replacing : Previous → Item
replacing Any = list (Word (truth_word true) ∷ [])
replacing Absent = list (Word (truth_word false) ∷ [])
replacing (Value v) = list (Word (truth_word false) ∷ Text v ∷ [])

-- the one spelling of each command
abbrev pub command_item : Command → Item
command_item LatestRev = answer_of (codes "get-latest-rev") []
command_item (CheckPath p n) = answer_of (codes "check-path") (Text (path_text p) ∷ number_or_none n ∷ [])
command_item (GetFile p n props contents) = answer_of (codes "get-file") (Text (path_text p) ∷ number_or_none n ∷ Word (truth_word props) ∷ Word (truth_word contents) ∷ [])
command_item (GetDir p n props contents) = answer_of (codes "get-dir") (Text (path_text p) ∷ number_or_none n ∷ Word (truth_word props) ∷ Word (truth_word contents) ∷ [])
command_item (RevProplist n) = answer_of (codes "rev-proplist") (Number n ∷ [])
command_item (RevProp n name) = answer_of (codes "rev-prop") (Number n ∷ Text name ∷ [])
command_item (ChangeProp n name v old) = answer_of (codes "change-rev-prop2") (Number n ∷ Text name ∷ string v ∷ replacing old ∷ [])
command_item (Replay n) = answer_of (codes "replay") (Number n ∷ Number 0 ∷ Word (truth_word true) ∷ [])
command_item (ReplayRange a b) = answer_of (codes "replay-range") (Number a ∷ Number b ∷ Number 0 ∷ Word (truth_word true) ∷ [])
