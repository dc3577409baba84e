use Rattle.std.proofs.Common.{◌≡◌, ◌∙◌, ◌||◌, ◌++◌, ◌∷◌, [], List, Bool, true, false, true≢false, bytes_eq, map, refl, sym}
use Rattle.std.specs.List.{list_any}
use Rattle.command_words.specs.Words.{archive_app, mirror_apps}
use Rattle.command_words.proofs.help.is_command.Goals as goal

-- none of the first ones is it
behind : {X : Type 0} (f : X → Bool) (xs ys : List X) → list_any f xs ≡ false → list_any f (xs ++ ys) ≡ list_any f ys
behind f [] ys none = refl
behind f (x ∷ xs) ys none = by (f x) (behind f xs ys) none
  where
    by : (b : Bool) → (list_any f xs ≡ false → list_any f (xs ++ ys) ≡ list_any f ys) → (b || list_any f xs) ≡ false → (b || list_any f (xs ++ ys)) ≡ list_any f ys
    by true h e = absurd (true≢false e)
    by false h e = h e

pub returns-else-is_named : goal.returns-else-is_named
returns-else-is_named c =
    c.is_named-else-is_named.ensures
    ∙ sym (behind (bytes_eq c.args.word.now) (map (λ command. command.name) archive_app.subs) (map (λ app. app.top.name) mirror_apps) (sym c.is_named.ensures ∙ c.if-is_named.false))
