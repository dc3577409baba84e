use Rattle.std.proofs.Common.{◌≡◌, [], ◌∷◌, ◌++◌, map, refl, sym, subst, ◌∙◌}
use Rattle.std.specs.Prelude.{MatchOption}
use Rattle.ra_wire.specs.Answers.{dirent_as}
use Rattle.ra_serve.proofs.Causes.{stays_here, stays_join}
use Rattle.ra_browse.specs.Answers.{entry_of}
use Rattle.ra_browse.proofs.Entries.{pushed, entries_more, entries_all}
use Rattle.ra_browse.proofs.Exits.{stops_later}
use Rattle.ra_browse.proofs.dir.entries_of.Goals as goal

pub loop-init : goal.loop-init
loop-init g c = ((λ x e. subst (λ l. map dirent_as l ++ map (entry_of x) c.args.children ≡ map (entry_of x) c.args.children) (sym c.new-entries.ensures.items) refl), stays_here _ _ _)

pub loop-preserved : goal.loop-preserved
loop-preserved g c =
    let i = c.loop.invariant in (
      (λ x e. entries_more x c.loop.entries.items c.push.new.self.items c.in-Ok-Some.entry c.loop.children c.next_of.new.children (map (entry_of x) c.args.children)
          (pushed c.push.result _ _ _ c.push.ensures.items (sym c.is_err.ensures.value ∙ c.if-is_err.false)) (i.0 x e)
          (subst (λ o. MatchOption o (map (entry_of x) c.loop.children ≡ []) (λ d. map (entry_of x) c.loop.children ≡ dirent_as d ∷ map (entry_of x) c.next_of.new.children)) c.in-Ok-Some.field-0-is (c.in-Ok-Some.ensures.found x (i.1.repository ∙ e)).1)),
      stays_join _ _ _ _ _ _ _ _ _ i.1 c.next_of.ensures.stays,
    )

pub returns-in-Ok-None-clause-found : goal.returns-in-Ok-None-clause-found
returns-in-Ok-None-clause-found g c =
    let i = c.loop.invariant in
    λ x e. (
      refl,
      entries_all x c.loop.entries.items c.loop.children (map (entry_of x) c.args.children) (i.0 x e)
          (subst (λ o. MatchOption o (map (entry_of x) c.loop.children ≡ []) (λ d. map (entry_of x) c.loop.children ≡ dirent_as d ∷ map (entry_of x) c.next_of.new.children)) c.in-Ok-None.field-0-is (c.in-Ok-None.ensures.found x (i.1.repository ∙ e)).1),
    )

pub returns-in-Err-clause-found : goal.returns-in-Err-clause-found
returns-in-Err-clause-found g c =
    let i = c.loop.invariant in
    λ x e. stops_later _ _ _ _ _ i.1.goes.later (c.in-Err.ensures.found x (i.1.repository ∙ e))

pub returns-then-is_err-clause-stays : goal.returns-then-is_err-clause-stays
returns-then-is_err-clause-stays g c = stays_join _ _ _ _ _ _ _ _ _ c.loop.invariant.1 c.next_of.ensures.stays
