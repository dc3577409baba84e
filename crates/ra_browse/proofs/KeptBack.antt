-- What goes through a buffer.
use Rattle.std.proofs.Common.{◌≡◌, ℕ, List, [], ◌++◌, Option, Some, None, Result, Ok, Err, ap, ◌∙◌, append-nil}
use Rattle.std.specs.Prelude.{IfOk}
use Rattle.std.specs.Io.KnownBytes.{append_known, Appends, Keeps}

-- it was empty, took some bytes, and was emptied
through : (x mid y : Option (List ℕ)) (b bytes : List ℕ) → b ≡ [] → Appends (append_known x b) mid bytes → Keeps mid y → Appends x y bytes
through None mid y b bytes e h k = tt
through (Some x) None y b bytes e h k = absurd h
through (Some x) (Some m) None b bytes e h k = absurd k
through (Some x) (Some m) (Some y) b bytes e h k = k ∙ h ∙ ap (λ t. (x ++ t) ++ bytes) e ∙ ap (λ t. t ++ bytes) (append-nil x)

pub kept_written : {T F : Type 0} (contents : T → Option (List ℕ)) (out inner : T) (mid : Option (List ℕ)) (b bytes : List ℕ) (r : Result T F) → inner ≡ out → b ≡ [] → Appends (append_known (contents inner) b) mid bytes → IfOk r (λ w. Keeps mid (contents w)) → IfOk r (λ w. Appends (contents out) (contents w) bytes)
kept_written contents out inner mid b bytes (Ok w) i e h k =
    through (contents out) mid (contents w) b bytes e (rw (← i) h) k
kept_written contents out inner mid b bytes (Err f) i e h k = k
