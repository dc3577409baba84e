-- Two readings of one image.
use Rattle.std.proofs.Common.{◌≡◌, ◌≢◌, ◌<◌, ◌≤◌, ◌+◌, ◌^◌, ◌⊎◌, inl, inr, ℕ, suc, List, [], ◌∷◌, ◌++◌, length, take, drop, get_or, refl, sym, ◌∙◌, ap, subst, arith, append_assoc}
use Rattle.std.proofs.lemmas.Nat.{from_be_bytes-to_be_bytes_8}
use Rattle.std.proofs.lemmas.List.{take_at, drop_at}
use Rattle.std.specs.Int.{from_be_bytes, w64}
use Rattle.fleet_disk.specs.Image.{Image}
use Rattle.gate_log.specs.declared.fault.LogFault.{LogFault}
use Rattle.gate_log.specs.declared.fault.LogFault.TheVariants.{DeviceFailed, Failed, Damaged, NoRepository, ThereAlready, LogFull, OutOfMemory}
use Rattle.gate_log.specs.declared.version.LogVersion.{LogVersion}
use Rattle.gate_log.specs.Faults.{IsFindFault}
use Rattle.gate_log.specs.Version.{gates_of, sum_of, sum_size}
use Rattle.gate_log.specs.Slots.{eight_bytes, part, mark, slots}
use Rattle.gate_log.specs.Standing.{last_end, IsRising, parts, StandsAt, Stands, HasNoEntry, IsDamagedAt, IsSlot}
use Rattle.gate_log.specs.Verdicts.{OneList, NotDamaged, NotMissing, OneDamage, DamageNotMissing}
use Rattle.gate_log.proofs.EndLemmas.{length-eight_bytes, length-mark, length_parts, grows}
use Rattle.gate_log.proofs.Versions.{one_version}

-- eight bytes are those of one length
pub one_length : (a b : ℕ) → a < 2 ^ 64 → b < 2 ^ 64 → eight_bytes a ≡ eight_bytes b → a ≡ b
unfolding eight_bytes
one_length a b small_a small_b same = sym (from_be_bytes-to_be_bytes_8 a small_a) ∙ ap (λ (l : List ℕ). from_be_bytes w64 l) same ∙ from_be_bytes-to_be_bytes_8 b small_b

-- a mark begins with its length
pub mark_length : (v : LogVersion) (a : ℕ) (x : List ℕ) → take 8 (mark v a x) ≡ eight_bytes a
mark_length v a x = take_at (eight_bytes a) (sum_of v x) 8 (length-eight_bytes a)

-- and is one length's
pub one_mark : (v : LogVersion) (a b : ℕ) (x y : List ℕ) → a < 2 ^ 64 → b < 2 ^ 64 → mark v a x ≡ mark v b y → a ≡ b
one_mark v a b x y small_a small_b same = one_length a b small_a small_b (sym (mark_length v a x) ∙ ap (λ (l : List ℕ). take 8 l) same ∙ mark_length v b y)

-- two marks at one place
pub mark_same : (v : LogVersion) (a b : ℕ) (x y s t : List ℕ) → mark v a x ++ s ≡ mark v b y ++ t → (mark v a x ≡ mark v b y) × (s ≡ t)
mark_same v a b x y s t same = (
  sym (take_at (mark v a x) s (8 + sum_size v) (length-mark v a x)) ∙ ap (λ (l : List ℕ). take (8 + sum_size v) l) same ∙ take_at (mark v b y) t (8 + sum_size v) (length-mark v b y),
  sym (drop_at (mark v a x) s (8 + sum_size v) (length-mark v a x)) ∙ ap (λ (l : List ℕ). drop (8 + sum_size v) l) same ∙ drop_at (mark v b y) t (8 + sum_size v) (length-mark v b y),
)

tail_same : (x y : ℕ) (s t : List ℕ) → x ∷ s ≡ y ∷ t → (x ≡ y) × (s ≡ t)
tail_same x y s t same = (ap (λ (l : List ℕ). get_or l 0 0) same, ap (λ (l : List ℕ). drop 1 l) same)

module _ (v : LogVersion) (journal : List ℕ) where
  abbrev M : ℕ → ℕ → List ℕ
  M from e = mark v e (part from e journal)

  abbrev S : ℕ → List ℕ → List ℕ
  S from ends = slots v from ends journal

  -- what both have behind their marks
  behind_marks : (from other e f : ℕ) (s t u w : List ℕ) → 1 ∷ (M from e ++ s ++ u) ≡ 1 ∷ (M other f ++ t ++ w) → (M from e ≡ M other f) × (s ++ u ≡ t ++ w)
  behind_marks from other e f s t u w same =
      mark_same v e f (part from e journal) (part other f journal) (s ++ u) (t ++ w) (sym (append_assoc (M from e) s u) ∙ (tail_same 1 1 (M from e ++ s ++ u) (M other f ++ t ++ w) same).1 ∙ append_assoc (M other f) t w)

  -- a closed gate ends both
  closed_both : (from other : ℕ) (ends others : List ℕ) (next next2 : ℕ) (rest rest2 : List ℕ) → IsRising from ends → last_end from ends < 2 ^ 64 → IsRising other others → last_end other others < 2 ^ 64
      → next ≢ 1 → next2 ≢ 1 → S from ends ++ next ∷ rest ≡ S other others ++ next2 ∷ rest2 → ends ≡ others
  closed_both from other [] [] next next2 rest rest2 up fits up2 fits2 shut shut2 same = refl
  closed_both from other [] (f ∷ others) next next2 rest rest2 up fits up2 fits2 shut shut2 same = absurd (shut (tail_same next 1 rest (M other f ++ S f others ++ next2 ∷ rest2) same).0)
  closed_both from other (e ∷ ends) [] next next2 rest rest2 up fits up2 fits2 shut shut2 same = absurd (shut2 (sym (tail_same 1 next2 (M from e ++ S e ends ++ next ∷ rest) rest2 same).0))
  closed_both from other (e ∷ ends) (f ∷ others) next next2 rest rest2 (here, up) fits (here2, up2) fits2 shut shut2 same =
      let small : e < 2 ^ 64 = omega (arith, grows e ends up, fits) in
      let small2 : f < 2 ^ 64 = omega (arith, grows f others up2, fits2) in
      let both = behind_marks from other e f (S e ends) (S f others) (next ∷ rest) (next2 ∷ rest2) same in
      let one = one_mark v e f (part from e journal) (part other f journal) small small2 both.0 in
      let more = closed_both e f ends others next next2 rest rest2 up fits up2 fits2 shut shut2 both.1 in
      ap (λ (k : ℕ). k ∷ ends) one ∙ ap (λ (l : List ℕ). f ∷ l) more

  -- what breaks the format can't be an entry that stands
  good_slot : (from other e : ℕ) (behind front : List ℕ) (gate : ℕ) (rest : List ℕ) → from ≡ other → behind ≡ M from e ++ (front ++ gate ∷ rest) → from < e → e ≤ length journal → e < 2 ^ 64 → ((end : ℕ) → IsSlot v other end journal behind → ⊥) → ⊥
  good_slot from other e behind [] gate rest begins is rises within small breaks =
      breaks e (subst (λ (k : ℕ). IsSlot v k e journal behind) begins (record { rises = rises; within = within; fits = small; next_gate = gate; rest = rest; bytes = is }))
  good_slot from other e behind (x ∷ front) gate rest begins is rises within small breaks =
      breaks e (subst (λ (k : ℕ). IsSlot v k e journal behind) begins (record { rises = rises; within = within; fits = small; next_gate = x; rest = front ++ gate ∷ rest; bytes = is }))

  closed_and_damaged : (from other : ℕ) (ends others : List ℕ) (next : ℕ) (rest rest2 : List ℕ) → from ≡ other → IsRising from ends → last_end from ends < 2 ^ 64 → last_end from ends ≤ length journal → IsRising other others → last_end other others < 2 ^ 64
      → next ≢ 1 → ((end : ℕ) → IsSlot v (last_end other others) end journal rest2 → ⊥) → S from ends ++ next ∷ rest ≡ S other others ++ 1 ∷ rest2 → ⊥
  closed_and_damaged from other [] [] next rest rest2 begins up fits within up2 fits2 shut breaks same = shut (tail_same next 1 rest rest2 same).0
  closed_and_damaged from other [] (f ∷ others) next rest rest2 begins up fits within up2 fits2 shut breaks same = shut (tail_same next 1 rest (M other f ++ S f others ++ 1 ∷ rest2) same).0
  closed_and_damaged from other (e ∷ ends) [] next rest rest2 begins (here, up) fits within up2 fits2 shut breaks same =
      let tail = sym (tail_same 1 1 (M from e ++ S e ends ++ next ∷ rest) rest2 same).1 ∙ append_assoc (M from e) (S e ends) (next ∷ rest) in
      good_slot from other e rest2 (S e ends) next rest begins tail here (omega (arith, within, grows e ends up)) (omega (arith, fits, grows e ends up)) breaks
  closed_and_damaged from other (e ∷ ends) (f ∷ others) next rest rest2 begins (here, up) fits within (here2, up2) fits2 shut breaks same =
      let both = behind_marks from other e f (S e ends) (S f others) (next ∷ rest) (1 ∷ rest2) same in
      let one = one_mark v e f (part from e journal) (part other f journal) (omega (arith, grows e ends up, fits)) (omega (arith, grows f others up2, fits2)) both.0 in
      closed_and_damaged e f ends others next rest rest2 one up fits within up2 fits2 shut breaks both.1

  damaged_both : (from other : ℕ) (ends others rest rest2 : List ℕ) → from ≡ other → IsRising from ends → last_end from ends < 2 ^ 64 → last_end from ends ≤ length journal → IsRising other others → last_end other others < 2 ^ 64 → last_end other others ≤ length journal
      → ((end : ℕ) → IsSlot v (last_end from ends) end journal rest → ⊥) → ((end : ℕ) → IsSlot v (last_end other others) end journal rest2 → ⊥) → S from ends ++ 1 ∷ rest ≡ S other others ++ 1 ∷ rest2 → length ends ≡ length others
  damaged_both from other [] [] rest rest2 begins up fits within up2 fits2 within2 breaks breaks2 same = refl
  damaged_both from other [] (f ∷ others) rest rest2 begins up fits within (here2, up2) fits2 within2 breaks breaks2 same =
      let tail = (tail_same 1 1 rest (M other f ++ S f others ++ 1 ∷ rest2) same).1 ∙ append_assoc (M other f) (S f others) (1 ∷ rest2) in
      absurd (good_slot other from f rest (S f others) 1 rest2 (sym begins) tail here2 (omega (arith, within2, grows f others up2)) (omega (arith, fits2, grows f others up2)) breaks)
  damaged_both from other (e ∷ ends) [] rest rest2 begins (here, up) fits within up2 fits2 within2 breaks breaks2 same =
      let tail = sym (tail_same 1 1 (M from e ++ S e ends ++ 1 ∷ rest) rest2 same).1 ∙ append_assoc (M from e) (S e ends) (1 ∷ rest) in
      absurd (good_slot from other e rest2 (S e ends) 1 rest begins tail here (omega (arith, within, grows e ends up)) (omega (arith, fits, grows e ends up)) breaks2)
  damaged_both from other (e ∷ ends) (f ∷ others) rest rest2 begins (here, up) fits within (here2, up2) fits2 within2 breaks breaks2 same =
      let both = behind_marks from other e f (S e ends) (S f others) (1 ∷ rest) (1 ∷ rest2) same in
      let one = one_mark v e f (part from e journal) (part other f journal) (omega (arith, grows e ends up, fits)) (omega (arith, grows f others up2, fits2)) both.0 in
      let more = damaged_both e f ends others rest rest2 one up fits within up2 fits2 within2 breaks breaks2 both.1 in
      ap suc more

  first_open : (ends rest : List ℕ) → get_or (S 0 ends ++ 1 ∷ rest) 0 0 ≡ 1
  first_open [] rest = refl
  first_open (e ∷ ends) rest = refl

  some_open : (ends : List ℕ) (next : ℕ) (rest : List ℕ) → 0 < length ends → get_or (S 0 ends ++ next ∷ rest) 0 0 ≡ 1
  some_open [] next rest some = absurd (omega (arith, some))
  some_open (e ∷ ends) next rest some = refl

one_ends : (v w : LogVersion) (image : Image) (ends others : List ℕ) → StandsAt v ends image → StandsAt w others image → v ≡ w → ends ≡ others
one_ends v w image ends others stands stands2 same =
    let also = subst (λ (x : LogVersion). StandsAt x others image) (sym same) stands2 in
    closed_both v image.journal 0 0 ends others stands.next_gate also.next_gate stands.rest also.rest stands.rising stands.fits also.rising also.fits stands.closed also.closed (sym stands.gates ∙ also.gates)

pub one_list : OneList
one_list image entries others (v, ends, stands, is) (w, ends2, stands2, is2) =
    let same = one_ends v w image ends ends2 stands stands2 (one_version v w image stands.is stands2.is) in
    is ∙ ap (λ (l : List ℕ). parts 0 l image.journal) same ∙ sym is2

pub not_damaged : NotDamaged
not_damaged image entries entry (v, ends, stands, is) damage =
    let also = subst (λ (x : LogVersion). StandsAt x ends image) (one_version v damage.version image stands.is damage.is) stands in
    closed_and_damaged damage.version image.journal 0 0 ends damage.ends also.next_gate also.rest damage.rest refl also.rising also.fits also.within damage.rising damage.fits also.closed damage.breaks (sym also.gates ∙ damage.gates)

one_count : (v w : LogVersion) (image : Image) (ends others rest rest2 : List ℕ) → v ≡ w → IsRising 0 ends → last_end 0 ends < 2 ^ 64 → last_end 0 ends ≤ length image.journal → IsRising 0 others → last_end 0 others < 2 ^ 64 → last_end 0 others ≤ length image.journal
    → ((end : ℕ) → IsSlot v (last_end 0 ends) end image.journal rest → ⊥) → ((end : ℕ) → IsSlot w (last_end 0 others) end image.journal rest2 → ⊥) → gates_of v image ≡ slots v 0 ends image.journal ++ 1 ∷ rest → gates_of w image ≡ slots w 0 others image.journal ++ 1 ∷ rest2 → length ends ≡ length others
one_count v w image ends others rest rest2 same up fits within up2 fits2 within2 breaks breaks2 gates gates2 =
    damaged_both v image.journal 0 0 ends others rest rest2 refl up fits within up2 fits2 within2 breaks
    (subst (λ (x : LogVersion). (end : ℕ) → IsSlot x (last_end 0 others) end image.journal rest2 → ⊥) (sym same) breaks2)
    (sym gates ∙ subst (λ (x : LogVersion). gates_of x image ≡ slots x 0 others image.journal ++ 1 ∷ rest2) (sym same) gates2)

pub one_damage : OneDamage
one_damage image entry other damage damage2 =
    sym damage.count
    ∙ one_count damage.version damage2.version image damage.ends damage2.ends damage.rest damage2.rest (one_version damage.version damage2.version image damage.is damage2.is) damage.rising damage.fits damage.within damage2.rising damage2.fits damage2.within damage.breaks damage2.breaks damage.gates damage2.gates
    ∙ damage2.count

pub damage_not_missing : DamageNotMissing
damage_not_missing image entry damage (w, is, missing) =
    let same = one_version w damage.version image is damage.is in
    missing (ap (λ (x : LogVersion). get_or (gates_of x image) 0 0) same ∙ ap (λ (l : List ℕ). get_or l 0 0) damage.gates ∙ first_open damage.version image.journal damage.ends damage.rest)

pub not_missing : NotMissing
not_missing image entries (v, ends, stands, is) some (w, also, missing) =
    let same = one_version w v image also stands.is in
    missing (ap (λ (x : LogVersion). get_or (gates_of x image) 0 0) same ∙ ap (λ (l : List ℕ). get_or l 0 0) stands.gates ∙ some_open v image.journal ends stands.next_gate stands.rest (omega (arith, ap length is, length_parts 0 ends image.journal, some)))

-- where entries stand, an opening is refused by the device or for memory alone
pub only_device : (image : Image) (entries : List (List ℕ)) (fault : LogFault) → Stands image entries → 0 < length entries → IsFindFault fault → ((n : ℕ) → fault ≡ Damaged n → IsDamagedAt n image) → (fault ≡ NoRepository → HasNoEntry image)
    → (fault ≡ DeviceFailed) ⊎ (fault ≡ OutOfMemory)
only_device image entries DeviceFailed stands some is damaged missing = inl refl
only_device image entries OutOfMemory stands some is damaged missing = inr refl
only_device image entries (Damaged n) stands some is damaged missing = absurd (not_damaged image entries n stands (damaged n refl))
only_device image entries NoRepository stands some is damaged missing = absurd (not_missing image entries stands some (missing refl))
only_device image entries Failed stands some is damaged missing = absurd is
only_device image entries ThereAlready stands some is damaged missing = absurd is
only_device image entries LogFull stands some is damaged missing = absurd is
