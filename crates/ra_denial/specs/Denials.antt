-- Why a command isn't answered: what is denied, and how it is told.
use Rattle.std.specs.Prelude.{ℕ, nat_le, is_some, List, length, Option, Some, None, codes}
use Rattle.node_base.specs.declared.node.Node.{Node}
use Rattle.dump_load.specs.Faults.{fault_if}
use Rattle.repo_core.specs.Repository.{Repository}
use Rattle.ra_item.specs.Items.{spell}
use Rattle.ra_wire.specs.Replies.{failure}
use Rattle.browse_wire.specs.Told.{refusal_number, refusal_text}
use Rattle.browse_wire.specs.declared.told.Refusal.TheVariants as refusal
use Rattle.ra_denial.specs.declared.denial.Denial.{Denial}
use Rattle.ra_denial.specs.declared.denial.Denial.TheVariants as denial

-- ---- what is denied

-- a revision above the head
abbrev pub no_revision : Repository → ℕ → Option Denial
no_revision x n = fault_if (nat_le (length x.revisions) n) denial.NoRevision

-- a directory that is looked at: nothing is there, or a file
abbrev pub dir_denied : Option Node → Option Denial
dir_denied None = Some denial.NoPath
dir_denied (Some d) = fault_if (is_some d.text) denial.NotDir

-- ---- how it is told

-- by Subversion's own numbers, by which its clients decide
abbrev pub denial_number : Denial → ℕ
denial_number denial.NoRevision = refusal_number refusal.NoSuchRevision
denial_number denial.NoPath = refusal_number refusal.NoSuchPath
denial_number denial.NotDir = 160016
denial_number denial.NotFile = 160017
denial_number denial.BadUrl = 170000
denial_number denial.OtherRoot = 170000
denial_number denial.Unsupported = refusal_number refusal.NotSupported
denial_number denial.Unknown = refusal_number refusal.UnknownCommand
denial_number denial.BadShape = 210004
denial_number denial.BadReport = 165004
denial_number denial.BadDate = 125003

abbrev pub denial_text : Denial → List ℕ
denial_text denial.NoRevision = refusal_text refusal.NoSuchRevision
denial_text denial.NoPath = refusal_text refusal.NoSuchPath
denial_text denial.NotDir = codes "not a directory"
denial_text denial.NotFile = codes "not a file"
denial_text denial.BadUrl = codes "not a URL of a session"
denial_text denial.OtherRoot = codes "not the same repository"
denial_text denial.Unsupported = refusal_text refusal.NotSupported
denial_text denial.Unknown = refusal_text refusal.UnknownCommand
denial_text denial.BadShape = codes "bad command shape"
denial_text denial.BadReport = codes "bad revision report"
denial_text denial.BadDate = codes "not a date"

-- as it is told
abbrev pub denied : Denial → List ℕ
denied d = spell (failure (denial_number d) (denial_text d))

-- these where nothing is denied, and else why
abbrev pub unless_denied : Option Denial → List ℕ → List ℕ
unless_denied None bytes = bytes
unless_denied (Some d) bytes = denied d
