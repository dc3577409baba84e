-- A stream that is read: what is said of its bytes, and what is counted.
use Rattle.std.proofs.Common.{◌≡◌, ◌≤◌, ℕ, ◌⊎◌, List, Result, Ok, Err, [], ◌++◌, Option, None, Some, IfSome, sym, ap, subst, ◌∙◌, append-nil, arith, inl, inr}
use Rattle.node_base.specs.Refusals.{refusal_number}
use Rattle.node_base.specs.declared.refusal.Refusal.{Refusal}
use Rattle.node_base.specs.declared.refusal.Refusal.TheVariants.{OutOfMemory, PeerFailed}
use Rattle.byte_streams.specs.Causes.{Counts, Fails, Rose, RoseBy}
use Rattle.fleet_engines.specs.Runs.{Counted, BothCounted}
use Rattle.fleet_engines.specs.Takers.{OfStream}

-- what holds of a stream's bytes holds of known ones
pub of_stream : (a b : Option (List ℕ)) (Q R : List ℕ → Type 0) → OfStream a b Q → ((bytes : List ℕ) → Q bytes → R bytes) → IfSome a R
of_stream None b Q R s f = tt
of_stream (Some x) None Q R s f = absurd s.read
of_stream (Some x) (Some y) Q R s f =
    elim s.holds [
      | inl h ↦ f x (subst Q (sym s.read) (h y))
      | inr k ↦ f x (subst Q (sym (s.read ∙ ap (λ l. s.bytes ++ l) k.0 ∙ append-nil s.bytes)) k.1)
    ]

-- and of some bytes, where they aren't known
pub of_some : (a b : Option (List ℕ)) (Q : List ℕ → Type 0) → OfStream a b Q → (bytes : List ℕ) × Q bytes
of_some a b Q s =
    elim s.holds [
      | inl h ↦ (s.bytes ++ [], h [])
      | inr k ↦ (s.bytes, k.1)
    ]

pub some_all : (a : Option (List ℕ)) (P : List ℕ → Type 0) → ((bytes : List ℕ) → P bytes) → IfSome a P
some_all None P h = tt
some_all (Some x) P h = h x

pub some_weaker : (a : Option (List ℕ)) (P Q : List ℕ → Type 0) → ((bytes : List ℕ) → P bytes → Q bytes) → IfSome a P → IfSome a Q
some_weaker None P Q h p = tt
some_weaker (Some x) P Q h p = h x p

-- what doesn't speak of the bytes
pub some_or : (a : Option (List ℕ)) (R : Type 0) (Q : List ℕ → Type 0) → IfSome a (λ bytes. R ⊎ Q bytes) → R ⊎ IfSome a Q
some_or None R Q h = inr tt
some_or (Some x) R Q h = h

-- a count that rose has risen since before
pub rose_on : (first before now : ℕ) → first ≤ before → Rose before now → Rose first now
rose_on first before now later (inl rose) = inl (omega (arith, later, rose))
rose_on first before now later (inr greatest) = inr greatest

-- the input failed, or was read as often as it may be
pub input_counted : (e : Refusal) (input : Counts) (o0 o : ℕ) → e ≡ PeerFailed → input.before ≤ input.now → Fails input → BothCounted {T = Unit {0}} (Err e) input o0 o
input_counted e input o0 o p later f = (later, inl (p, inl f))

-- the output was written to behind reads
pub later_counted : (r : Result (Unit {0}) Refusal) (input : Counts) (o0 o o1 : ℕ) → input.now ≡ input.before → o ≡ o0 → Counted r o o1 → BothCounted r input o0 o1
later_counted (Ok x) input o0 o o1 same q f = (same, f ∙ q)
later_counted (Err e) input o0 o o1 same q (inl f) = (omega (arith, same), inl (f.0, inr (subst (λ n. Rose n o1) q f.1)))
later_counted (Err e) input o0 o o1 same q (inr f) = (omega (arith, same), inr (f.0, same, f.1 ∙ q))

-- all reads that a stream gets were made
pub reads_spent : (before now most : ℕ) → most ≡ 1099511627775 → RoseBy most before now → 1099511627775 ≤ now
reads_spent before now most e (inl rose) = omega (arith, e, rose)
reads_spent before now most e (inr greatest) = omega (arith, greatest)

-- want of memory is no failure of a peer
pub memory_no_peer : (e : Refusal) → e ≡ OutOfMemory → e ≡ PeerFailed → ⊥
memory_no_peer e p q = let n : ◌≡◌ {A = ℕ} 70 49 = ap refusal_number (sym p ∙ q) in omega (arith, n)
