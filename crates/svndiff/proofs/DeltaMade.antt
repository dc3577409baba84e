-- Instructions that were read, and what they make.
use Rattle.std.proofs.Common.{◌≡◌, ℕ, zero, suc, ◌+◌, ◌-◌, ◌≤◌, ◌<◌, List, [], ◌∷◌, ◌++◌, length, take, drop, get_or, refl, sym, subst, ap, ◌∙◌, append_assoc, append-nil, length-append, arith}
use Rattle.std.proofs.lemmas.List.{drop_more, take-append-drop, length-take, length-drop}
use Rattle.svndiff.specs.declared.instructions.Instruction.{Instruction}
use Rattle.svndiff.specs.declared.instructions.Kind.{Kind}
use Rattle.svndiff.specs.declared.instructions.Kind.TheVariants as kind
use Rattle.svndiff.specs.DeltaGrammar.{Sized, Copies, Makes, Nothing, FromSource, FromTarget, FromNew}
use Rattle.svndiff.specs.DeltaReading.{new_of}
use Rattle.svndiff.specs.Making.{Making, repeat, after, run}

-- bytes are an instruction of a kind, that takes so many bytes from a place
abbrev pub SpeltAs : Kind → ℕ → ℕ → List ℕ → Type 0
SpeltAs kind.Source at n bytes = Copies kind.Source bytes at n
SpeltAs kind.Target at n bytes = Copies kind.Target bytes at n
SpeltAs kind.New at n bytes = (at ≡ 0) × Sized kind.New bytes n

-- it takes what is there, of a view of so many bytes, or behind so many that are made
abbrev pub Takes : Kind → ℕ → ℕ → ℕ → ℕ → Type 0
Takes kind.Source at n source sum = at + n ≤ source
Takes kind.Target at n source sum = at < sum
Takes kind.New at n source sum = Unit {0}

abbrev pub one : Kind → ℕ → ℕ → Instruction
one k at n = record { kind = k; at = at; length = n }

-- bytes are instructions, which make so many bytes, so many of them of new data
pub data Ready (source : ℕ) : List ℕ → List Instruction → ℕ → ℕ → Type 0 where
  None : Ready source [] [] 0 0
  More : (bytes first : List ℕ) (is : List Instruction) (k : Kind) (at n sum news : ℕ) → Ready source bytes is sum news → 0 < n → SpeltAs k at n first → Takes k at n source sum → Ready source (bytes ++ first) (is ++ one k at n ∷ []) (sum + n) (news + new_of k n)

pub run-snoc : (view : List ℕ) (m : Making) (is : List Instruction) (i : Instruction) → run view m (is ++ i ∷ []) ≡ after view i (run view m is)
run-snoc view m [] i = refl
run-snoc view m (j ∷ is) i = run-snoc view (after view j m) is i

-- so many bytes more, each the one that stands so far back: they are those that stand there once they are made
pub record Repeated (made : List ℕ) (at n : ℕ) : Type 0 where
  pub piece : List ℕ
  pub long : length piece ≡ n
  pub is : repeat (length made - at) n made ≡ made ++ piece
  pub stands : piece ≡ take n (drop at (made ++ piece))

get-front : (made more : List ℕ) (at : ℕ) → at < length made → get_or (made ++ more) at 0 ≡ get_or made at 0
get-front [] more at h = absurd (omega (arith, h))
get-front (b ∷ made) more zero h = refl
get-front (b ∷ made) more (suc at) h = get-front made more at (omega (arith, h))

first_of : (made more : List ℕ) (at : ℕ) → at < length made → drop at (made ++ more) ≡ get_or made at 0 ∷ drop (at + 1) (made ++ more)
first_of made more at h = drop_more (made ++ more) at 0 (omega (arith, h, length-append made more)) ∙ ap (λ b. b ∷ drop (at + 1) (made ++ more)) (get-front made more at h)

pub repeated : (made : List ℕ) (at n : ℕ) → at < length made → Repeated made at n
repeated made at zero h = record { piece = []; long = refl; is = sym (append-nil made); stands = refl }
repeated made at (suc n) h =
    let b = get_or made at 0 in
    let l : length (made ++ b ∷ []) ≡ length made + 1 = length-append made (b ∷ []) in
    let behind = repeated (made ++ b ∷ []) (at + 1) n (omega (arith, h, l)) in
    let back : length (made ++ b ∷ []) - (at + 1) ≡ length made - at = omega (arith, l) in
    let place : length made - (length made - at) ≡ at = omega (arith, h) in
    let joined : (made ++ b ∷ []) ++ behind.piece ≡ made ++ (b ∷ behind.piece) = append_assoc made (b ∷ []) behind.piece in
    record {
      piece = b ∷ behind.piece;
      long = omega (arith, behind.long);
      is = ap (λ k. repeat (length made - at) n (made ++ get_or made k 0 ∷ [])) place ∙ ap (λ k. repeat k n (made ++ b ∷ [])) (sym back) ∙ behind.is ∙ joined;
      stands = ap (λ t. b ∷ t) (behind.stands ∙ ap (λ t. take n (drop (at + 1) t)) joined) ∙ sym (ap (take (suc n)) (first_of made (b ∷ behind.piece) at h));
    }

-- a list that stands so is the one that is made
pub is_repeated : (made piece : List ℕ) (at : ℕ) → at < length made → piece ≡ take (length piece) (drop at (made ++ piece)) → repeat (length made - at) (length piece) made ≡ made ++ piece
is_repeated made [] at h e = sym (append-nil made)
is_repeated made (c ∷ piece) at h e =
    let b = get_or made at 0 in
    let l : length (made ++ c ∷ []) ≡ length made + 1 = length-append made (c ∷ []) in
    let place : length made - (length made - at) ≡ at = omega (arith, h) in
    let back : length (made ++ c ∷ []) - (at + 1) ≡ length made - at = omega (arith, l) in
    let all : c ∷ piece ≡ b ∷ take (length piece) (drop (at + 1) (made ++ (c ∷ piece))) = e ∙ ap (take (suc (length piece))) (first_of made (c ∷ piece) at h) in
    let joined : (made ++ c ∷ []) ++ piece ≡ made ++ (c ∷ piece) = append_assoc made (c ∷ []) piece in
    let behind = is_repeated (made ++ c ∷ []) piece (at + 1) (omega (arith, h, l)) (ap rest_of all ∙ ap (λ t. take (length piece) (drop (at + 1) t)) (sym joined)) in
    ap (λ k. repeat (length made - at) (length piece) (made ++ get_or made k 0 ∷ [])) place
    ∙ ap (λ x. repeat (length made - at) (length piece) (made ++ x ∷ [])) (sym (ap (front_of c) all))
    ∙ ap (λ k. repeat k (length piece) (made ++ c ∷ [])) (sym back)
    ∙ behind
    ∙ joined
  where
    rest_of : List ℕ → List ℕ
    rest_of [] = []
    rest_of (x ∷ xs) = xs

    front_of : ℕ → List ℕ → ℕ
    front_of d [] = d
    front_of d (x ∷ xs) = x

-- what instructions make of a view and of new data
pub record Made (view bytes new : List ℕ) (is : List Instruction) (sum : ℕ) : Type 0 where
  pub made : List ℕ
  pub makes : Makes view bytes new made
  pub long : length made ≡ sum
  pub runs : (later : List ℕ) → run view (record { made = []; new = new ++ later }) is ≡ record { made = made; new = later }

-- an instruction more, behind others
pub run_more : (view bytes new : List ℕ) (is : List Instruction) (sum : ℕ) (i : Instruction) (m : Made view bytes new is sum) (later : List ℕ) → run view (record { made = []; new = new ++ later }) (is ++ i ∷ []) ≡ after view i (record { made = m.made; new = later })
run_more view bytes new is sum i m later = run-snoc view (record { made = []; new = new ++ later }) is i ∙ ap (after view i) (m.runs later)

pub take-front : (xs ys : List ℕ) → take (length xs) (xs ++ ys) ≡ xs
take-front [] ys = refl
take-front (x ∷ xs) ys = ap (λ t. x ∷ t) (take-front xs ys)

pub drop-front : (xs ys : List ℕ) → drop (length xs) (xs ++ ys) ≡ ys
drop-front [] ys = refl
drop-front (x ∷ xs) ys = drop-front xs ys

pub ready_makes : (view : List ℕ) (source : ℕ) (bytes : List ℕ) (is : List Instruction) (sum news : ℕ) (new : List ℕ) → length view ≡ source → length new ≡ news → Ready source bytes is sum news → Made view bytes new is sum
ready_makes view source [] [] zero zero [] v e None = record { made = []; makes = Nothing; long = refl; runs = λ later. refl }
ready_makes view source [] [] zero zero (b ∷ new) v e None = absurd (omega (arith, e))
ready_makes view source both_bytes both both_sums both_news new v e (More bytes first is kind.Source at n sum news before some spelt takes) =
    let m = ready_makes view source bytes is sum news new v (omega (arith, e)) before in
    let piece = take n (drop at view) in
    let l : length piece ≡ n = omega (arith, length-take n (drop at view), length-drop at view, takes, v) in
    record {
      made = m.made ++ piece;
      makes = FromSource bytes new m.made first at n m.makes spelt (omega (arith, takes, v));
      long = omega (arith, length-append m.made piece, l, m.long);
      runs = λ later. run_more view bytes new is sum (one kind.Source at n) m later;
    }
ready_makes view source both_bytes both both_sums both_news new v e (More bytes first is kind.Target at n sum news before some spelt takes) =
    let m = ready_makes view source bytes is sum news new v (omega (arith, e)) before in
    let r = repeated m.made at n (omega (arith, takes, m.long)) in
    record {
      made = m.made ++ r.piece;
      makes = FromTarget bytes new m.made first r.piece at m.makes (subst (Copies kind.Target first at) (sym r.long) spelt) (omega (arith, takes, m.long)) (subst (λ k. r.piece ≡ take k (drop at (m.made ++ r.piece))) (sym r.long) r.stands);
      long = omega (arith, length-append m.made r.piece, r.long, m.long);
      runs = λ later. run_more view bytes new is sum (one kind.Target at n) m later ∙ ap (λ x. record { made = x; new = later }) r.is;
    }
ready_makes view source both_bytes both both_sums both_news new v e (More bytes first is kind.New at n sum news before some spelt takes) =
    let front = take news new in
    let piece = drop news new in
    let f : length front ≡ news = omega (arith, length-take news new, e) in
    let p : length piece ≡ n = omega (arith, length-drop news new, e) in
    let whole : front ++ piece ≡ new = take-append-drop news new in
    let m = ready_makes view source bytes is sum news front v f before in
    let more : (later : List ℕ) → run view (record { made = []; new = (front ++ piece) ++ later }) (is ++ one kind.New at n ∷ []) ≡ record { made = m.made ++ piece; new = later } = λ later.
    ap (λ t. run view (record { made = []; new = t }) (is ++ one kind.New at n ∷ [])) (append_assoc front piece later)
    ∙ run_more view bytes front is sum (one kind.New at n) m (piece ++ later)
    ∙ ap (λ k. after view (one kind.New at k) (record { made = m.made; new = piece ++ later })) (sym p)
    ∙ ap (λ t. record { made = m.made ++ t; new = drop (length piece) (piece ++ later) }) (take-front piece later)
    ∙ ap (λ t. record { made = m.made ++ piece; new = t }) (drop-front piece later) in
    record {
      made = m.made ++ piece;
      makes = subst (λ t. Makes view (bytes ++ first) t (m.made ++ piece)) whole (FromNew bytes front m.made first piece m.makes (subst (Sized kind.New first) (sym p) spelt.1));
      long = omega (arith, length-append m.made piece, p, m.long);
      runs = λ later. subst (λ t. run view (record { made = []; new = t ++ later }) (is ++ one kind.New at n ∷ []) ≡ record { made = m.made ++ piece; new = later }) whole (more later);
    }
