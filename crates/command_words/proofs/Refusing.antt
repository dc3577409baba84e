-- What is told of a value that is refused, and of an error.
use Rattle.std.proofs.Common.{◌≡◌, ℕ, List, [], ◌∷◌, Option, Some, None, Result, Ok, Err, inl, inr, refl, sym, ap, ◌∙◌, subst, IfErr, IfSome, ◌++◌, slice_get, true, false, bytes_eq, codes}
use Rattle.std.specs.Fmt.{debug_str, ◌++?◌}
use Rattle.clap.specs.Kinds.{Kinds, HasKind}
use Rattle.clap.specs.Values.{kind_of}
use Rattle.clap.specs.Words.{Row}
use Rattle.clap.specs.declared.error.Error.{Error}
use Rattle.command_words.specs.declared.command_line.Planned.{Planned}
use Rattle.command_words.specs.declared.fleet_words.Fleet.{Fleet}
use Rattle.command_words.specs.declared.command_line.Usage.{Usage}
use Rattle.command_words.specs.declared.command_line.Usage.TheVariants.{Shown, Wrong, OutOfMemory}
use Rattle.command_words.specs.Lines.{HasNoLineFeed, IsLineOf}
use Rattle.command_words.specs.Roots.{is_root_url}
use Rattle.command_words.specs.Terminal.{HasNoControl}
use Rattle.sync_core.specs.Tokens.{is_token}
use Rattle.command_words.specs.Twice.{first_twice}
use Rattle.command_words.specs.Values.{HasReturn, HasValue, HasValues, SpellsMicros, SpellsRange, SpellsServer, SpellsUpTo, identity_read, is_on_server}
use Rattle.command_words.specs.Usages.{AreRefused, IsRefusedAt, IsTold, IsUsageAt, IsUsageOf, IsValueLine, IsOverTwo, IsSyncRefused, IsTimeoutTold, no_seconds, no_timeout, no_root, no_identity, no_range, no_moment, no_message, no_folders, no_copied_range, no_port, no_connections, no_workers, no_fleet, a_fifth, named_again, on_server, named_twice, no_token}

pub identity_refused : (rows : List Row) (value read told : List ℕ) (u : Usage) → HasValue rows (codes "uuid") value → read ≡ value → told ≡ value
    → identity_read read ≡ None → IsTold (codes "svnfleet create") told (codes "a UUID of the form 8-4-4-4-12 in hexadecimal digits") u → IsRefusedAt (Some (codes "create", rows)) u
identity_refused rows value read told (Shown text) has r t none h = absurd h
identity_refused rows value read told (Wrong text) has r t none h =
    (codes "create", rows, refl, no_identity told refl (has ∙ ap (λ v. Some v) (sym t)) (ap identity_read (t ∙ sym r) ∙ none) h)
identity_refused rows value read told OutOfMemory has r t none h = tt

pub range_refused : (rows : List Row) (value : List ℕ) (u : Usage) → HasValue rows (codes "revisions") value
    → ((lo hi : ℕ) → SpellsRange value lo hi → ⊥) → IsTold (codes "svnfleet dump") value (codes "a range LO:HI of revisions from 0 to 65535, LO not above HI, or N:N for one revision") u → IsRefusedAt (Some (codes "dump", rows)) u
range_refused rows value (Shown text) has none h = absurd h
range_refused rows value (Wrong text) has none h = (codes "dump", rows, refl, no_range value refl has none h)
range_refused rows value OutOfMemory has none h = tt

pub moment_refused : (rows : List Row) (value read told : List ℕ) (u : Usage) → HasValue rows (codes "moment") value → read ≡ value → told ≡ value
    → ((micros : ℕ) → SpellsMicros read micros → ⊥) → IsTold (codes "svnfleet mkdir") told (codes "a number of microseconds from 0 to 4102444799999999") u → IsRefusedAt (Some (codes "mkdir", rows)) u
moment_refused rows value read told (Shown text) has r t none h = absurd h
moment_refused rows value read told (Wrong text) has r t none h =
    (codes "mkdir", rows, refl, no_moment told refl (has ∙ ap (λ v. Some v) (sym t)) (subst (λ v. (micros : ℕ) → SpellsMicros v micros → ⊥) (r ∙ sym t) none) h)
moment_refused rows value read told OutOfMemory has r t none h = tt

-- an error of one of the kinds
pub usage_at : (help : List ℕ) (kinds : Kinds) (named : Option (List ℕ × List Row)) (e : Error) (u : Usage) → HasKind kinds e → IsUsageOf help (kind_of e) u → IsUsageAt help kinds named u
usage_at help kinds named e (Shown text) (inl o) h = absurd (h.0 o)
usage_at help kinds named e (Shown text) (inr a) h = (kind_of e, a, h.1)
usage_at help kinds named e (Wrong text) (inl o) h = absurd (h.0 o)
usage_at help kinds named e (Wrong text) (inr a) h = inl (kind_of e, a, h.1, h.2)
usage_at help kinds named e OutOfMemory k h = tt

-- or a value that is refused, where clap finds nothing wrong
pub value_at : (help : List ℕ) (kinds : Kinds) (named read : Option (List ℕ × List Row)) (u : Usage) → kinds ≡ [] → read ≡ named → IsRefusedAt read u → IsUsageAt help kinds named u
value_at help kinds named read (Shown text) none same h = absurd h
value_at help kinds named read (Wrong text) none same h = inr (none, subst (λ n. IsRefusedAt n (Wrong text)) same h)
value_at help kinds named read OutOfMemory none same h = tt

pub values_at : (help : List ℕ) (kinds : Kinds) (named read : Option (List ℕ × List Row)) (r : Result Planned Usage) → kinds ≡ [] → read ≡ named
    → IfErr r (IsRefusedAt read) → IfErr r (IsUsageAt help kinds named)
values_at help kinds named read (Ok c) none same h = tt
values_at help kinds named read (Err u) none same h = value_at help kinds named read u none same h

-- a message that is refused
pub message_refused : (rows : List Row) (value read told : List ℕ) (u : Usage) → HasValue rows (codes "message") value → read ≡ value → told ≡ value
    → HasReturn read → IsTold (codes "svnfleet mkdir") told (codes "a message without carriage returns") u → IsRefusedAt (Some (codes "mkdir", rows)) u
message_refused rows value read told (Shown text) has r t returns h = absurd h
message_refused rows value read told (Wrong text) has r t returns h =
    (codes "mkdir", rows, refl, no_message told refl (has ∙ ap (λ v. Some v) (sym t)) (subst HasReturn (r ∙ sym t) returns) h)
message_refused rows value read told OutOfMemory has r t returns h = tt

-- what is written behind a value that is shown
told_of : (help middle wanted wrong line : List ℕ) (quoted : Option (List ℕ)) → IfSome (quoted ++? Some (middle ++ wanted)) (λ bs. wrong ≡ bs) → IsLineOf help wrong line
    → IfSome quoted (λ q. IsLineOf help (q ++ (middle ++ wanted)) line)
told_of help middle wanted wrong line None h is = tt
told_of help middle wanted wrong line (Some q) h is = subst (λ w. IsLineOf help w line) h is

pub value_line : (help value wanted wrong line : List ℕ) → IfSome (debug_str value ++? Some (codes " is not " ++ wanted)) (λ bs. wrong ≡ bs)
    → IsLineOf help wrong line → HasNoControl line → HasNoLineFeed line → IsValueLine help value wanted line
value_line help value wanted wrong line h is clean one = (clean, one, told_of help (codes " is not ") wanted wrong line (debug_str value) h is)

-- a source that begins as one on a server, and is none
pub server_refused : (rows : List Row) (help value read asked told : List ℕ) (u : Usage) → HasValue rows (codes "SOURCE") value → read ≡ value → asked ≡ value → told ≡ value → is_on_server read ≡ true
    → ((n : ℕ) → SpellsServer asked n → ⊥) → IsTold help told (codes "a folder or svn://127.0.0.1:P/ with a port P from 1 to 65535") u → IsSyncRefused rows help u
server_refused rows help value read asked told (Shown text) has r a t on none h = absurd h
server_refused rows help value read asked told (Wrong text) has r a t on none h =
    on_server told (has ∙ ap (λ v. Some v) (sym t)) (ap is_on_server (t ∙ sym r) ∙ on) (subst (λ v. (n : ℕ) → SpellsServer v n → ⊥) (a ∙ sym t) none) h
server_refused rows help value read asked told OutOfMemory has r a t on none h = tt

-- one folder named twice
pub twice_refused : (rows : List Row) (help mirror value read other told : List ℕ) (u : Usage) → HasValue rows (codes "MIRROR") mirror → HasValue rows (codes "SOURCE") value → read ≡ mirror → other ≡ value → told ≡ value
    → bytes_eq read other ≡ true → IsTold help told (codes "another folder than the mirror's") u → IsSyncRefused rows help u
twice_refused rows help mirror value read other told (Shown text) has there r o t same h = absurd h
twice_refused rows help mirror value read other told (Wrong text) has there r o t same h =
    named_twice read told (has ∙ ap (λ v. Some v) (sym r)) (there ∙ ap (λ v. Some v) (sym t)) (ap (λ v. bytes_eq read v) (t ∙ sym o) ∙ same) h
twice_refused rows help mirror value read other told OutOfMemory has there r o t same h = tt

-- what is no token
pub token_refused : (rows : List Row) (help value : List ℕ) (u : Usage) → HasValue rows (codes "token") value → is_token value ≡ false
    → IsTold help value (codes "a token of 1 to 255 printable ASCII characters without blanks") u → IsSyncRefused rows help u
token_refused rows help value (Shown text) has none h = absurd h
token_refused rows help value (Wrong text) has none h = no_token value has none h
token_refused rows help value OutOfMemory has none h = tt

-- of the command at hand
pub folders_refused : (name : List ℕ) (rows : List Row) (u : Usage) → IsOverTwo name → IsSyncRefused rows (codes "svnfleet " ++ name) u → IsRefusedAt (Some (name, rows)) u
folders_refused name rows (Shown text) o h = absurd h
folders_refused name rows (Wrong text) o h = (name, rows, refl, no_folders o h)
folders_refused name rows OutOfMemory o h = tt

pub copied_range_refused : (rows : List Row) (value : List ℕ) (u : Usage) → HasValue rows (codes "revisions") value
    → ((lo hi : ℕ) → SpellsRange value lo hi → ⊥) → IsTold (codes "svnfleet copy-revprops") value (codes "a range LO:HI of revisions from 0 to 65535, LO not above HI, or N:N for one revision") u → IsRefusedAt (Some (codes "copy-revprops", rows)) u
copied_range_refused rows value (Shown text) has none h = absurd h
copied_range_refused rows value (Wrong text) has none h = (codes "copy-revprops", rows, refl, no_copied_range value refl has none h)
copied_range_refused rows value OutOfMemory has none h = tt

-- a port and a number of connections
pub port_refused : (rows : List Row) (value : List ℕ) (u : Usage) → HasValue rows (codes "port") value → ((n : ℕ) → SpellsUpTo 65535 value n → ⊥)
    → IsTold (codes "svnfleet serve") value (codes "a port from 1 to 65535") u → IsRefusedAt (Some (codes "serve", rows)) u
port_refused rows value (Shown text) has none h = absurd h
port_refused rows value (Wrong text) has none h = (codes "serve", rows, refl, no_port value refl has none h)
port_refused rows value OutOfMemory has none h = tt

pub connections_refused : (rows : List Row) (value : List ℕ) (u : Usage) → HasValue rows (codes "connections") value → ((n : ℕ) → SpellsUpTo 1024 value n → ⊥)
    → IsTold (codes "svnfleet serve") value (codes "a number of connections from 1 to 1024") u → IsRefusedAt (Some (codes "serve", rows)) u
connections_refused rows value (Shown text) has none h = absurd h
connections_refused rows value (Wrong text) has none h = (codes "serve", rows, refl, no_connections value refl has none h)
connections_refused rows value OutOfMemory has none h = tt

-- the seconds that a peer may say nothing
pub timeout_refused : (rows : List Row) (value help : List ℕ) (u : Usage) → HasValue rows (codes "timeout") value → ((n : ℕ) → SpellsUpTo 43200 value n → ⊥)
    → IsTold help value (codes "a number of seconds from 1 to 43200") u → IsTimeoutTold rows help u
timeout_refused rows value help (Shown text) has none h = absurd h
timeout_refused rows value help (Wrong text) has none h = record { value = value; given = has; unspelt = none; told = h }
timeout_refused rows value help OutOfMemory has none h = tt

pub seconds_refused : (rows : List Row) (help : List ℕ) (u : Usage) → IsTimeoutTold rows help u → IsSyncRefused rows help u
seconds_refused rows help (Shown text) h = absurd h
seconds_refused rows help (Wrong text) h = no_seconds h
seconds_refused rows help OutOfMemory h = tt

pub served_seconds_refused : (rows : List Row) (u : Usage) → IsTimeoutTold rows (codes "svnfleet serve") u → IsRefusedAt (Some (codes "serve", rows)) u
served_seconds_refused rows (Shown text) h = absurd h
served_seconds_refused rows (Wrong text) h = (codes "serve", rows, refl, no_timeout refl h)
served_seconds_refused rows OutOfMemory h = tt

-- the root that clients are told
pub root_refused : (rows : List Row) (value : List ℕ) (u : Usage) → HasValue rows (codes "root-url") value → is_root_url value ≡ false
    → IsTold (codes "svnfleet serve") value (codes "a root URL like svn://HOST:PORT/ or svn+ssh://HOST/PATH, of at most 1024 printable ASCII characters without blanks") u → IsRefusedAt (Some (codes "serve", rows)) u
root_refused rows value (Shown text) has none h = absurd h
root_refused rows value (Wrong text) has none h = (codes "serve", rows, refl, no_root value refl has none h)
root_refused rows value OutOfMemory has none h = tt

-- a number of workers, and the folders of a fleet
pub workers_refused : (rows : List Row) (value : List ℕ) (u : Usage) → HasValue rows (codes "workers") value → ((n : ℕ) → SpellsUpTo 64 value n → ⊥)
    → IsTold (codes "svnfleet fleet") value (codes "a number of workers from 1 to 64") u → IsRefusedAt (Some (codes "fleet", rows)) u
workers_refused rows value (Shown text) has none h = absurd h
workers_refused rows value (Wrong text) has none h = (codes "fleet", rows, refl, no_workers value refl has none h)
workers_refused rows value OutOfMemory has none h = tt

pub fifth_refused : (master : List ℕ) (mirrors : List (List ℕ)) (value : List ℕ) (u : Usage) → slice_get mirrors 4 ≡ Some value → IsTold (codes "svnfleet fleet") value (codes "one of 1 to 4 mirrors") u → AreRefused master mirrors u
fifth_refused master mirrors value (Shown text) is h = absurd h
fifth_refused master mirrors value (Wrong text) is h = a_fifth value is h
fifth_refused master mirrors value OutOfMemory is h = tt

pub again_refused : (master : List ℕ) (mirrors : List (List ℕ)) (value : List ℕ) (u : Usage) → first_twice (master ∷ mirrors) ≡ Some value → IsTold (codes "svnfleet fleet") value (codes "a folder of its own") u → AreRefused master mirrors u
again_refused master mirrors value (Shown text) is h = absurd h
again_refused master mirrors value (Wrong text) is h = named_again value is h
again_refused master mirrors value OutOfMemory is h = tt

pub fleet_refused : (rows : List Row) (master : List ℕ) (mirrors : List (List ℕ)) (u : Usage) → HasValue rows (codes "MASTER") master → HasValues rows (codes "MIRROR") mirrors → AreRefused master mirrors u
    → IsRefusedAt (Some (codes "fleet", rows)) u
fleet_refused rows master mirrors (Shown text) has have h = absurd h
fleet_refused rows master mirrors (Wrong text) has have h = (codes "fleet", rows, refl, no_fleet master mirrors refl has have h)
fleet_refused rows master mirrors OutOfMemory has have h = tt

pub folders_at : (rows : List Row) (master : List ℕ) (mirrors : List (List ℕ)) (r : Result Fleet Usage) → HasValue rows (codes "MASTER") master → HasValues rows (codes "MIRROR") mirrors
    → IfErr r (AreRefused master mirrors) → IfErr r (IsRefusedAt (Some (codes "fleet", rows)))
folders_at rows master mirrors (Ok fleet) has have h = tt
folders_at rows master mirrors (Err u) has have h = fleet_refused rows master mirrors u has have h
