-- Lists of accepted calls, and the journal that they write.
use Rattle.std.specs.Prelude.{◌≡◌, List, [], ◌∷◌, ◌++◌}
use Rattle.std.specs.Option.{option_map_or}
use Rattle.repo_core.specs.declared.entry.Entry.{Entry}
use Rattle.repo_core.specs.Repository.{Revision}
use Rattle.repo_core.specs.Entries.{revisions_after}
use Rattle.sync_core.specs.Mirror.{Call, entry_of, revisions_by}

-- the revisions after these calls, each accepted
abbrev pub replayed : List Revision → List Call → List Revision
replayed x [] = x
replayed x (c ∷ cs) = replayed (revisions_by x c) cs

-- the entries that they write: one for each call but a look
abbrev pub entries_by : List Revision → List Call → List Entry
entries_by x [] = []
entries_by x (c ∷ cs) = option_map_or (λ e. e ∷ []) (entry_of x c) [] ++ entries_by (revisions_by x c) cs

-- the journal stands for what the calls made
abbrev pub CallsAreJournalled : Type 0
CallsAreJournalled = (x : List Revision) (calls : List Call) → revisions_after x (entries_by x calls) ≡ replayed x calls

-- calls one after another
abbrev pub CallsJoin : Type 0
CallsJoin = (x : List Revision) (cs ds : List Call) → replayed x (cs ++ ds) ≡ replayed (replayed x cs) ds
