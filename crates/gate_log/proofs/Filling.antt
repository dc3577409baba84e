-- A buffer that is filled by one read after another.
use Rattle.std.proofs.Common.{◌≡◌, ◌≤◌, ◌+◌, ◌-◌, ℕ, List, [], ◌++◌, length, take, drop, sym, ◌∙◌, ap, subst, arith, append_assoc, length-append, length-drop}
use Rattle.std.proofs.lemmas.List.{append-nil, take_at, drop_at, drop_all, take_rest, drop-drop, length-take-le}
use Rattle.std.proofs.Math.Seq.{take-add}
use borrow.Rule.Slice.PartMut.{put_mid}
use Rattle.fleet_disk.specs.Rules.{IsRead}
use Rattle.gate_log.specs.Looks.{IsFilled}

pub put_end : (done : ℕ) (buf part : List ℕ) → done ≤ length buf → put_mid done (length buf - done) buf part ≡ take done buf ++ part
put_end done buf part within =
    let behind : drop (length buf - done) (drop done buf) ≡ [] = drop_all (length buf - done) (drop done buf) (omega (arith, length-drop done buf)) in
    ap (λ (l : List ℕ). take done buf ++ (part ++ l)) behind ∙ ap (λ (l : List ℕ). take done buf ++ l) (append-nil part)

-- one read more
pub filled : (file before buf part : List ℕ) (at done count : ℕ) → IsRead file (at + done) count (take (length buf - done) (drop done buf)) part → buf ≡ take done (drop at file) ++ drop done before
    → done ≤ length file - at → done ≤ length buf → put_mid done (length buf - done) buf part ≡ take (done + count) (drop at file) ++ drop (done + count) before
filled file before buf part at done count read so_far inside within =
    let had : length (take done (drop at file)) ≡ done = length-take-le done (drop at file) (omega (arith, length-drop at file, inside)) in
    let front : take done buf ≡ take done (drop at file) = ap (λ (l : List ℕ). take done l) so_far ∙ take_at (take done (drop at file)) (drop done before) done had in
    let back : drop done buf ≡ drop done before = ap (λ (l : List ℕ). drop done l) so_far ∙ drop_at (take done (drop at file)) (drop done before) done had in
    let new : part ≡ take count (drop done (drop at file)) ++ drop (done + count) before =
    read.bytes
    ∙ ap (λ (l : List ℕ). take count l ++ drop count (take (length buf - done) (drop done buf))) (sym (drop-drop done at file))
    ∙ ap (λ (l : List ℕ). take count (drop done (drop at file)) ++ drop count l) (take_rest buf done ∙ back)
    ∙ ap (λ (l : List ℕ). take count (drop done (drop at file)) ++ l) (drop-drop count done before) in
    put_end done buf part within
    ∙ ap (λ (l : List ℕ). l ++ part) front
    ∙ ap (λ (l : List ℕ). take done (drop at file) ++ l) new
    ∙ sym (append_assoc (take done (drop at file)) (take count (drop done (drop at file))) (drop (done + count) before))
    ∙ ap (λ (l : List ℕ). l ++ drop (done + count) before) (sym (take-add done count (drop at file)))

-- a buffer that the file fills
pub filled_whole : (file before after : List ℕ) (at n : ℕ) → IsFilled file at n before after → at + length before ≤ length file → after ≡ take (length before) (drop at file)
filled_whole file before after at n read long =
    let all : n ≡ length before = omega (arith, read.count, long) in
    read.bytes
    ∙ ap (λ (k : ℕ). take k (drop at file) ++ drop k before) all
    ∙ ap (λ (l : List ℕ). take (length before) (drop at file) ++ l) (drop_all (length before) before (omega arith))
    ∙ append-nil (take (length before) (drop at file))
