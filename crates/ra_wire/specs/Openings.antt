-- What client and server send each other in an opening.
use Rattle.std.specs.Prelude.{ℕ, ◌==◌, List, map, Option, Some, None, if◌then◌else◌}
use Rattle.std.specs.Option.{option_map, option_and_then}
use Rattle.ra_item.specs.Items.{Item, Items}
use Rattle.ra_wire.specs.Params.{parts_in, word_in, number_in, text_in, words_in, bracketed}
use Rattle.ra_wire.specs.declared.opening.Greeting as declared_greeting
use Rattle.ra_wire.specs.declared.opening.Hello as declared_hello
use Rattle.ra_wire.specs.declared.opening.Mechanisms as declared_mechanisms
use Rattle.ra_wire.specs.declared.opening.Login as declared_login
use Rattle.ra_wire.specs.declared.opening.Welcome as declared_welcome

-- a server's versions, mechanisms and capabilities
pub record Greeting : Type 0 where
  pub low : ℕ
  pub high : ℕ
  pub mechanisms : List (List ℕ)
  pub capabilities : List (List ℕ)

-- a client of version 2, its capabilities and the URL that it asks for
pub record Hello : Type 0 where
  pub capabilities : List (List ℕ)
  pub url : List ℕ

-- the mechanisms that a server takes, and its realm
pub record Mechanisms : Type 0 where
  pub names : List (List ℕ)
  pub realm : List ℕ

-- a mechanism, and a token or none
pub record Login : Type 0 where
  pub mechanism : List ℕ
  pub token : Option (List ℕ)

-- a repository's identity, its URL and capabilities
pub record Welcome : Type 0 where
  pub identity : List ℕ
  pub url : List ℕ
  pub capabilities : List (List ℕ)

-- minver maxver ( mech .. ) ( cap .. )
abbrev pub greeting_in : Items → Option Greeting
greeting_in xs = option_and_then (λ low. option_and_then (λ high. option_and_then (λ mechs. option_map (λ caps.
    record { low = low.0; high = high.0; mechanisms = mechs.0; capabilities = caps.0 }) (words_in mechs.1)) (words_in high.1)) (number_in low.1)) (number_in xs)

-- version 2 alone
abbrev pub hello_of : ℕ → List (List ℕ) → List ℕ → Option Hello
hello_of n caps url = if n == 2 then Some (record { capabilities = caps; url = url }) else None

-- ( version ( cap .. ) url .. )
abbrev pub hello_in : Item → Option Hello
hello_in item = option_and_then (λ xs. option_and_then (λ n. option_and_then (λ caps. option_and_then (λ url. hello_of n.0 caps.0 url.0) (text_in caps.1)) (words_in n.1)) (number_in xs)) (parts_in item)

-- ( mech .. ) realm
abbrev pub mechanisms_in : Items → Option Mechanisms
mechanisms_in xs = option_and_then (λ names. option_map (λ realm. record { names = names.0; realm = realm.0 }) (text_in names.1)) (words_in xs)

-- ( mechanism [ token ] )
abbrev pub login_in : Item → Option Login
login_in item = option_and_then (λ xs. option_and_then (λ w. option_map (λ t. record { mechanism = w.0; token = t.0 }) (bracketed text_in w.1)) (word_in xs)) (parts_in item)

-- identity url ( cap .. )
abbrev pub welcome_in : Items → Option Welcome
welcome_in xs = option_and_then (λ identity. option_and_then (λ url. option_map (λ caps. record { identity = identity.0; url = url.0; capabilities = caps.0 }) (words_in url.1)) (text_in identity.1)) (text_in xs)

-- ---- as they are in code

abbrev pub greeting_as : declared_greeting.Greeting → Greeting
greeting_as g = record { low = g.low; high = g.high; mechanisms = map (λ w. w.items) g.mechanisms.items; capabilities = map (λ w. w.items) g.capabilities.items }

abbrev pub hello_as : declared_hello.Hello → Hello
hello_as h = record { capabilities = map (λ w. w.items) h.capabilities.items; url = h.url.items }

abbrev pub mechanisms_as : declared_mechanisms.Mechanisms → Mechanisms
mechanisms_as m = record { names = map (λ w. w.items) m.names.items; realm = m.realm.items }

abbrev pub login_as : declared_login.Login → Login
login_as l = record { mechanism = l.mechanism.items; token = option_map (λ t. t.items) l.token }

abbrev pub welcome_as : declared_welcome.Welcome → Welcome
welcome_as w = record { identity = w.identity.items; url = w.url.items; capabilities = map (λ c. c.items) w.capabilities.items }
