-- One more call of a disk in memory.
use Rattle.std.proofs.Common.{◌≡◌, ◌⊎◌, ◌≤◌, ◌+◌, inl, inr, ℕ, List, [], ◌∷◌, ◌++◌, length, refl, sym, ◌∙◌, ap, subst, arith, length-append}
use Rattle.std.proofs.lemmas.Bool.{cases_lt}
use Rattle.std.proofs.lemmas.List.{take_all, take-append-le}
use Rattle.fleet_disk.specs.declared.call.DiskCall.{DiskCall}
use Rattle.fleet_disk.specs.Image.{Image}
use Rattle.fleet_disk.specs.Rules.{Elapses}
use Rattle.fleet_disk.specs.Memory.{does, read_after, MayStep, Leaves, LeftSince}

pub read_after_push : (image : Image) (calls : List DiskCall) (call : DiskCall) → read_after image (calls ++ call ∷ []) ≡ does call (read_after image calls)
read_after_push image [] call = refl
read_after_push image (first ∷ calls) call = read_after_push (does first image) calls call

leaves_last : (left read : Image) (calls : List DiskCall) (call : DiskCall) (c : Image) → Leaves left read (calls ++ call ∷ []) c → (d : Image) × Leaves left read calls d × MayStep call (read_after read calls) d c
leaves_last left read [] call c (next, step, is) = (left, refl, subst (λ (i : Image). MayStep call read left i) (sym is) step)
leaves_last left read (first ∷ calls) call c (next, step, rest) =
    let last = leaves_last next (does first read) calls call c rest in (last.0, (next, step, last.1), last.2)

-- what a stop may leave after one more call
pub left_push : (first now : Image) (calls later : List DiskCall) (call : DiskCall) → read_after first calls ≡ now → later ≡ calls ++ call ∷ [] → (c : Image) → Leaves first first later c → (d : Image) × Leaves first first calls d × MayStep call now d c
left_push first now calls later call reads is c left =
    let last = leaves_last first first calls call c (subst (λ (l : List DiskCall). Leaves first first l c) is left) in
    (last.0, last.1, subst (λ (i : Image). MayStep call i last.0 c) reads last.2)

-- what a read gives after one more call
pub reads_push : (first now : Image) (calls later : List DiskCall) (call : DiskCall) → read_after first calls ≡ now → later ≡ calls ++ call ∷ [] → read_after first later ≡ does call now
reads_push first now calls later call reads is = ap (λ (l : List DiskCall). read_after first l) is ∙ read_after_push first calls call ∙ ap (does call) reads

-- time goes on by one call
elapses : (first : Image) (calls : List DiskCall) (call : DiskCall) → Elapses (length calls) (length (calls ++ call ∷ [])) (LeftSince first calls) (LeftSince first (calls ++ call ∷ [])) (Leaves first first (calls ++ call ∷ []))
elapses first calls call = record {
  later = omega (arith, size);
  nothing_else = λ t c le left. other t c le left;
  keeps = λ t c le left. kept t c left;
}
  where
    size : length (calls ++ call ∷ []) ≡ length calls + 1
    size = length-append calls (call ∷ [])

    kept : (t : ℕ) (c : Image) → LeftSince first calls t c → LeftSince first (calls ++ call ∷ []) t c
    kept t c (k, after, within, left) = (k, after, omega (arith, size, within), subst (λ (l : List DiskCall). Leaves first first l c) (sym (take-append-le k calls (call ∷ []) within)) left)

    other : (t : ℕ) (c : Image) → t ≤ length calls → LeftSince first (calls ++ call ∷ []) t c → LeftSince first calls t c ⊎ Leaves first first (calls ++ call ∷ []) c
    other t c le (k, after, within, left) = elim (cases_lt (length calls) k) [
      | inr before ↦ inl (k, after, before, subst (λ (l : List DiskCall). Leaves first first l c) (take-append-le k calls (call ∷ []) before) left)
      | inl past ↦ inr (subst (λ (l : List DiskCall). Leaves first first l c) (take_all k (calls ++ call ∷ []) (omega (arith, size, past))) left)
    ]

pub elapses_push : (first : Image) (calls later : List DiskCall) (call : DiskCall) → later ≡ calls ++ call ∷ [] → Elapses (length calls) (length later) (LeftSince first calls) (LeftSince first later) (Leaves first first later)
elapses_push first calls later call is =
    subst (λ (l : List DiskCall). Elapses (length calls) (length l) (LeftSince first calls) (LeftSince first l) (Leaves first first l)) (sym is) (elapses first calls call)
