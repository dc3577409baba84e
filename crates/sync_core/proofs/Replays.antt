-- Lists of calls, and their journal.
use Rattle.std.proofs.Common.{◌≡◌, List, [], ◌∷◌, ◌++◌, Option, Some, None, refl, ◌∙◌}
use Rattle.std.specs.Option.{option_map_or}
use Rattle.repo_core.specs.declared.entry.Entry.{Entry}
use Rattle.repo_core.specs.Repository.{Revision}
use Rattle.repo_core.specs.Entries.{with_entry, revisions_after}
use Rattle.sync_core.specs.Mirror.{entry_of, revisions_by}
use Rattle.sync_core.specs.Replay.{entries_by, CallsAreJournalled, CallsJoin}

-- one call's entry, and then others
one : (x : List Revision) (e : Option Entry) (es : List Entry) → revisions_after x (option_map_or (λ f. f ∷ []) e [] ++ es) ≡ revisions_after (option_map_or (with_entry x) e x) es
one x None es = refl
one x (Some e) es = refl

pub calls-are-journalled : CallsAreJournalled
calls-are-journalled x [] = refl
calls-are-journalled x (c ∷ cs) = one x (entry_of x c) (entries_by (revisions_by x c) cs) ∙ calls-are-journalled (revisions_by x c) cs

pub calls-join : CallsJoin
calls-join x [] ds = refl
calls-join x (c ∷ cs) ds = calls-join (revisions_by x c) cs ds
