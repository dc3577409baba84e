-- The URL of a source on a server, taken apart.
use Rattle.std.proofs.Common.{◌≡◌, ◌≢◌, ℕ, List, ◌++◌, Option, Some, None, IfSome, Bor, ap, ◌∙◌, codes}
use Rattle.std.specs.Option.{MatchOption}
use Rattle.command_words.specs.Values.{server_url, SpellsServer}

-- behind what stands in front of a port, and in front of the slash, are its digits
pub digits_stand : (source rest : List ℕ) (r : Option (Bor (List ℕ))) → source ≡ codes "svn://127.0.0.1:" ++ rest → MatchOption r ((front : List ℕ) → rest ≢ front ++ codes "/") (λ x. rest ≡ x.now ++ codes "/")
    → IfSome r (λ digits. source ≡ server_url digits.now)
digits_stand source rest None front end = tt
digits_stand source rest (Some x) front end = front ∙ ap (λ l. codes "svn://127.0.0.1:" ++ l) end

-- without digits there is no port
pub no_port : (source : List ℕ) → ((digits : List ℕ) → source ≡ server_url digits → ⊥) → (n : ℕ) → SpellsServer source n → ⊥
no_port source none n spelt = none spelt.0 spelt.1
