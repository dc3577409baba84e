use Rattle.std.proofs.Common.{◌≡◌, ◌≤◌, ◌-◌, length}
use Rattle.dump_load.specs.Walk.{Walked}
use Rattle.editor_ends.specs.Shown.{Shown, IsLater, left}
use Rattle.editor_ends.proofs.show.+show_below.Given as goal

abbrev pub decreases-show_below : goal.decreases-show_below
decreases-show_below g l = 64 - length l.at.now

abbrev pub decreases-loop-path : goal.decreases-loop-path
decreases-loop-path g l = length l.revision.set.now - l.progress.next

abbrev pub invariant-loop-path : goal.invariant-loop-path
invariant-loop-path g l =
    Walked l.revision.trees.now l.revision.set.now l.progress.next l.progress.tree
    × (l.progress.next ≤ length l.revision.set.now)
    × (l.fn.progress.next ≤ l.progress.next)
    × (g.E.Editor.dir_path l.dir ≡ l.at)
    × IsLater l.revision.set.now l.progress.next l.at
    × (g.E.Editor.began l.editor ≡ g.E.Editor.began l.fn.editor)
    × Shown g.E.Editor.shows l.fn.editor l.editor (left l.revision.trees.now l.revision.set.now l.fn.progress.next l.at) (left l.revision.trees.now l.revision.set.now l.progress.next l.at)
