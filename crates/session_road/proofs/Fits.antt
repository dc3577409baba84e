-- What a session in memory says is within the limits of items.
use Rattle.std.proofs.Common.{◌≡◌, ℕ, ◌+◌, ◌≤◌, List, [], ◌∷◌, ◌++◌, length, refl, length-append, arith}
use Rattle.std.proofs.lemmas.Fmt.{length-decimal-le}
use Rattle.std.specs.Fmt.{decimal}
use Rattle.node_base.specs.Refusals.{refusal_number, refusal_text}
use Rattle.ra_item.specs.Items.{Item, Items, Word, Number, Text, Nested, End, Then, spell, spell_all, Fits, AllFit, Within}
use Rattle.ra_wire.specs.Commands.{LatestRev, RevProplist, ReplayRange}
use Rattle.ra_wire.specs.Replies.{greeting, mechanisms, welcome, failure}
use Rattle.ra_wire.specs.Requests.{hello, anonymous, command_item}
use Rattle.ra_serve.specs.Ports.{IsOwn, refusal_of}
use Rattle.ra_serve.specs.declared.fault.PortFault.{PortFault}
use Rattle.ra_serve.specs.declared.fault.PortFault.TheVariants as port
use Rattle.session_road.specs.Served.{asked_url}

-- how many bytes an item has at most
abbrev mutual
  size : Item → ℕ
  size (Word w) = length w + 1
  size (Number n) = 21
  size (Text t) = length t + 23
  size (Nested xs) = sizes xs + 4

  sizes : Items → ℕ
  sizes End = 0
  sizes (Then x xs) = size x + sizes xs

mutual
  short : (x : Item) → Fits x → length (spell x) ≤ size x
  short (Word w) h = omega (arith, length-append w (32 ∷ []))
  short (Number n) h = omega (arith, length-decimal-le 20 n (omega arith) (omega (arith, h)) (omega (arith, h)), length-append (decimal n) (32 ∷ []))
  short (Text t) h = omega (arith, h, length-decimal-le 7 (length t) (omega arith) (omega (arith, h)) (omega (arith, h)), length-append (decimal (length t)) (58 ∷ (t ++ 32 ∷ [])), length-append t (32 ∷ []))
  short (Nested xs) h = omega (arith, all_short xs h, length-append (spell_all xs) (41 ∷ 32 ∷ []))

  all_short : (xs : Items) → AllFit xs → length (spell_all xs) ≤ sizes xs
  all_short End h = omega arith
  all_short (Then x xs) h = omega (arith, short x h.0, all_short xs h.1, length-append (spell x) (spell_all xs))

-- ---- the opening

hello_parts : Fits (hello asked_url)
hello_parts = (omega arith, (((refl, omega arith), tt), (omega arith, tt)))

pub hello_fits : Within (hello asked_url)
hello_fits = record { fits = hello_parts; depth = omega arith; bytes = omega (arith, short (hello asked_url) hello_parts) }

anonymous_parts : Fits anonymous
anonymous_parts = ((refl, omega arith), ((omega arith, tt), tt))

pub anonymous_fits : Within anonymous
anonymous_fits = record { fits = anonymous_parts; depth = omega arith; bytes = omega (arith, short anonymous anonymous_parts) }

greeting_parts : Fits greeting
greeting_parts = ((refl, omega arith), ((omega arith, (omega arith, (tt, (((refl, omega arith), ((refl, omega arith), tt)), tt)))), tt))

pub greeting_fits : Within greeting
greeting_fits = record { fits = greeting_parts; depth = omega arith; bytes = omega (arith, short greeting greeting_parts) }

mechanisms_parts : (id : List ℕ) → length id ≡ 36 → Fits (mechanisms id)
mechanisms_parts id l = ((refl, omega arith), ((((refl, omega arith), tt), (omega (arith, l), tt)), tt))

pub mechanisms_fits : (id : List ℕ) → length id ≡ 36 → Within (mechanisms id)
mechanisms_fits id l = record { fits = mechanisms_parts id l; depth = omega arith; bytes = omega (arith, l, short (mechanisms id) (mechanisms_parts id l)) }

welcome_parts : (id : List ℕ) → length id ≡ 36 → Fits (welcome id asked_url)
welcome_parts id l = ((refl, omega arith), ((omega (arith, l), (omega arith, (tt, tt))), tt))

pub welcome_fits : (id : List ℕ) → length id ≡ 36 → Within (welcome id asked_url)
welcome_fits id l = record { fits = welcome_parts id l; depth = omega arith; bytes = omega (arith, l, short (welcome id asked_url) (welcome_parts id l)) }

-- ---- commands

latest_parts : Fits (command_item LatestRev)
latest_parts = ((refl, omega arith), (tt, tt))

pub latest_fits : Within (command_item LatestRev)
latest_fits = record { fits = latest_parts; depth = omega arith; bytes = omega (arith, short (command_item LatestRev) latest_parts) }

props_parts : (n : ℕ) → n ≤ 65535 → Fits (command_item (RevProplist n))
props_parts n l = ((refl, omega arith), ((omega (arith, l), tt), tt))

pub props_fits : (n : ℕ) → n ≤ 65535 → Within (command_item (RevProplist n))
props_fits n l = record { fits = props_parts n l; depth = omega arith; bytes = omega (arith, short (command_item (RevProplist n)) (props_parts n l)) }

range_parts : (n : ℕ) → n ≤ 65535 → Fits (command_item (ReplayRange n n))
range_parts n l = ((refl, omega arith), ((omega (arith, l), (omega (arith, l), (omega arith, ((refl, omega arith), tt)))), tt))

pub range_fits : (n : ℕ) → n ≤ 65535 → Within (command_item (ReplayRange n n))
range_fits n l = record { fits = range_parts n l; depth = omega arith; bytes = omega (arith, short (command_item (ReplayRange n n)) (range_parts n l)) }

-- ---- a refusal by the port itself

abbrev pub refusal_item : PortFault → Item
refusal_item f = failure (refusal_number (refusal_of f)) (refusal_text (refusal_of f))

failure_parts : (n : ℕ) (text : List ℕ) → n ≤ 255 → length text ≤ 100 → Fits (failure n text)
failure_parts n text l k = ((refl, omega arith), (((omega (arith, l), (omega (arith, k), (omega arith, (omega arith, tt)))), tt), tt))

failure_fits : (n : ℕ) (text : List ℕ) → n ≤ 255 → length text ≤ 100 → Within (failure n text)
failure_fits n text l k = record { fits = failure_parts n text l k; depth = omega arith; bytes = omega (arith, k, short (failure n text) (failure_parts n text l k)) }

pub refusal_fits : (f : PortFault) → IsOwn f → Within (refusal_item f)
refusal_fits port.DeviceFailed h = failure_fits _ _ (omega arith) (omega arith)
refusal_fits port.Failed h = failure_fits _ _ (omega arith) (omega arith)
refusal_fits port.LogFull h = failure_fits _ _ (omega arith) (omega arith)
refusal_fits port.OutOfMemory h = failure_fits _ _ (omega arith) (omega arith)
refusal_fits port.TooLong h = absurd h
refusal_fits port.NoSuchRevision h = absurd h
refusal_fits port.BaseMismatch h = absurd h
