-- The parts of a URL.
use Rattle.std.proofs.Common.{◌≡◌, ◌≤◌, ◌+◌, ℕ, suc, Bool, true, false, cond, not, subst, List, [], ◌∷◌, ◌++◌, length, take, drop, ap, sym, ◌∙◌, refl, inl, inr, arith, nat_lt}
use Rattle.std.specs.Prelude.{◌⊎◌, ◌==◌, reverse, ◌||◌, Some, None, if◌then◌else◌}
use Rattle.std.specs.List.{position, position_or_len, list_any}
use Rattle.std.proofs.lemmas.Bool.{eqb-true}
use Rattle.std.proofs.lemmas.Bool.Decides.{nat_tests}
use Rattle.std.proofs.lemmas.List.{reverse-append, reverse-reverse, take_all, drop_all}
use Rattle.browse_wire.specs.Urls.{is_slash, without, untrailed, after, before_slash, from_slash}

-- ---- before and behind the first slash

take_more : (n b : ℕ) (bs : List ℕ) → take (1 + n) (b ∷ bs) ≡ b ∷ take n bs
take_more n b bs = let e : 1 + n ≡ suc n = omega arith in rw e refl

drop_more : (n b : ℕ) (bs : List ℕ) → drop (1 + n) (b ∷ bs) ≡ drop n bs
drop_more n b bs = let e : 1 + n ≡ suc n = omega arith in rw e refl

take_if : (t : Bool) (n b : ℕ) (bs : List ℕ) → take n bs ≡ before_slash bs → take (cond (not t) (1 + n) 0) (b ∷ bs) ≡ (if t then [] else b ∷ before_slash bs)
take_if true n b bs e = refl
take_if false n b bs e = take_more n b bs ∙ ap (λ l. b ∷ l) e

take_host : (bs : List ℕ) → take (position_or_len is_slash bs) bs ≡ before_slash bs
take_host [] = refl
take_host (b ∷ bs) = take_if (is_slash b) (position_or_len is_slash bs) b bs (take_host bs)

drop_if : (t : Bool) (n b : ℕ) (bs : List ℕ) → drop n bs ≡ from_slash bs → drop (cond (not t) (1 + n) 0) (b ∷ bs) ≡ (if t then b ∷ bs else from_slash bs)
drop_if true n b bs e = refl
drop_if false n b bs e = drop_more n b bs ∙ e

drop_host : (bs : List ℕ) → drop (position_or_len is_slash bs) bs ≡ from_slash bs
drop_host [] = refl
drop_host (b ∷ bs) = drop_if (is_slash b) (position_or_len is_slash bs) b bs (drop_host bs)

place_some : (n len i : ℕ) (t : Bool) → cond t (Some n) None ≡ Some i → n ≡ i
place_some n len i true e = cc
place_some n len i false e = cc

place_none : (n len : ℕ) (t : Bool) → (t ≡ false → len ≤ n) → cond t (Some n) None ≡ None → len ≤ n
place_none n len true f e = cc
place_none n len false f e = f refl

pub host_some : (bs : List ℕ) (i : ℕ) → position is_slash bs ≡ Some i → (take i bs ≡ before_slash bs) × (drop i bs ≡ from_slash bs)
host_some bs i e =
    let at = place_some (position_or_len is_slash bs) (length bs) i (nat_lt (position_or_len is_slash bs) (length bs)) e in
    rw (← at) (take_host bs, drop_host bs)

pub host_none : (bs : List ℕ) → position is_slash bs ≡ None → (take (length bs) bs ≡ before_slash bs) × (drop (length bs) bs ≡ from_slash bs)
host_none bs e =
    let n = position_or_len is_slash bs in
    let past : length bs ≤ n = place_none n (length bs) (nat_lt n (length bs)) (λ t. grind (arith, nat_tests)) e in
    let same : length bs ≤ length bs = omega arith in (
      take_all (length bs) bs same ∙ sym (take_all n bs past) ∙ take_host bs,
      drop_all (length bs) bs same ∙ sym (drop_all n bs past) ∙ drop_host bs,
    )

pub rejoined : (bs : List ℕ) → bs ≡ before_slash bs ++ from_slash bs
rejoined [] = refl
rejoined (b ∷ bs) =
    elim (is_slash b) as (λ t. b ∷ bs ≡ (if t then [] else b ∷ before_slash bs) ++ (if t then b ∷ bs else from_slash bs)) [
      | true ↦ refl
      | false ↦ ap (λ l. b ∷ l) (rejoined bs)
    ]

plain_if : (b : ℕ) (front : List ℕ) (t : Bool) → is_slash b ≡ t → list_any is_slash front ≡ false → list_any is_slash (if t then [] else b ∷ front) ≡ false
plain_if b front true e h = refl
plain_if b front false e h = ap (λ x. x || list_any is_slash front) e ∙ h

pub host_plain : (bs : List ℕ) → list_any is_slash (before_slash bs) ≡ false
host_plain [] = refl
host_plain (b ∷ bs) = plain_if b (before_slash bs) (is_slash b) refl (host_plain bs)

neither : (a b : Bool) → (a || b) ≡ false → (a ≡ false) × (b ≡ false)
neither true b e = cc
neither false b e = (refl, e)

-- what stands behind a host is nothing or begins with a slash
abbrev pub BeginsSlashed : List ℕ → Type 0
BeginsSlashed [] = Unit {0}
BeginsSlashed (b ∷ bs) = b ≡ 47

slashed_if : (b : ℕ) (bs rest : List ℕ) (t : Bool) → (t ≡ true → b ≡ 47) → BeginsSlashed rest → BeginsSlashed (if t then b ∷ bs else rest)
slashed_if b bs rest true is h = is refl
slashed_if b bs rest false is h = h

pub behind_slashed : (bs : List ℕ) → BeginsSlashed (from_slash bs)
behind_slashed [] = tt
behind_slashed (b ∷ bs) = slashed_if b bs (from_slash bs) (is_slash b) (eqb-true b 47) (behind_slashed bs)

-- a host and what stands behind it are found again
pub host_again : (host behind : List ℕ) → list_any is_slash host ≡ false → BeginsSlashed behind
    → (before_slash (host ++ behind) ≡ host) × (from_slash (host ++ behind) ≡ behind)
host_again [] [] h s = (refl, refl)
host_again [] (b ∷ bs) h s = rw s (refl, refl)
host_again (b ∷ host) behind h s =
    let parts = neither (is_slash b) (list_any is_slash host) h in
    let again = host_again host behind parts.1 s in (
      ap (λ t. if t then [] else b ∷ before_slash (host ++ behind)) parts.0 ∙ ap (λ l. b ∷ l) again.0,
      ap (λ t. if t then b ∷ (host ++ behind) else from_slash (host ++ behind)) parts.0 ∙ again.1,
    )

-- ---- the slash at the end

-- the bytes are the same, or have one slash more
abbrev pub Ends : List ℕ → List ℕ → Type 0
Ends bs t = (t ≡ bs) ⊎ (bs ≡ t ++ 47 ∷ [])

ends_if : (t : Bool) (bs front : List ℕ) (b : ℕ) → (t ≡ true → b ≡ 47) → bs ≡ reverse front ++ b ∷ [] → Ends bs (if t then reverse front else bs)
ends_if true bs front b is e = inr (e ∙ ap (λ x. reverse front ++ x ∷ []) (is refl))
ends_if false bs front b is e = inl refl

ends_by : (bs rev : List ℕ) → bs ≡ reverse rev → Ends bs (without bs rev)
ends_by bs [] e = inl (sym e)
ends_by bs (b ∷ front) e = ends_if (is_slash b) bs front b (eqb-true b 47) (e ∙ reverse-append (b ∷ []) front)

pub ends : (bs : List ℕ) → Ends bs (untrailed bs)
ends bs = ends_by bs (reverse bs) (sym (reverse-reverse bs))

-- the same begins
begins_by : (bs t : List ℕ) → Ends bs t → BeginsSlashed t → BeginsSlashed bs
begins_by bs t (inl e) s = subst BeginsSlashed e s
begins_by bs [] (inr e) s = subst BeginsSlashed (sym e) refl
begins_by bs (b ∷ t) (inr e) s = subst BeginsSlashed (sym e) s

pub begins_slashed : (bs : List ℕ) → BeginsSlashed (untrailed bs) → BeginsSlashed bs
begins_slashed bs s = begins_by bs (untrailed bs) (ends bs) s

-- and where the bytes begin with a slash, so does what is left of them
kept_by : (bs t : List ℕ) → Ends bs t → BeginsSlashed bs → BeginsSlashed t
kept_by bs t (inl e) s = subst BeginsSlashed (sym e) s
kept_by bs [] (inr e) s = tt
kept_by bs (b ∷ t) (inr e) s = subst BeginsSlashed e s

pub kept_slashed : (bs : List ℕ) → BeginsSlashed bs → BeginsSlashed (untrailed bs)
kept_slashed bs s = kept_by bs (untrailed bs) (ends bs) s

-- ---- the scheme

follows_if : (b c : ℕ) (bs cs rest : List ℕ) (t : Bool) → (t ≡ true → b ≡ c) → (after bs cs ≡ Some rest → cs ≡ bs ++ rest)
    → (if t then after bs cs else None) ≡ Some rest → c ∷ cs ≡ b ∷ (bs ++ rest)
follows_if b c bs cs rest true is inner e = rw (is refl, inner e) refl
follows_if b c bs cs rest false is inner e = cc

pub follows : (front text rest : List ℕ) → after front text ≡ Some rest → text ≡ front ++ rest
follows [] text rest e = cc
follows (b ∷ bs) [] rest e = cc
follows (b ∷ bs) (c ∷ cs) rest e = follows_if b c bs cs rest (b == c) (eqb-true b c) (follows bs cs rest) e
