-- The laws of a disk in memory.
use Rattle.std.proofs.Common.{◌≡◌, ◌≤◌, ◌+◌, ℕ, Bool, true, false, List, [], ◌∷◌, ◌++◌, length, take, drop, replicate, nat_le, if◌then◌else◌, refl, sym, ◌∙◌, ap, subst, arith, length-append, length-take, length-drop}
use Rattle.std.proofs.lemmas.Bool.Decides.{nat_tests}
use Rattle.std.proofs.lemmas.List.{take_all, take_at, take_min, drop_at, length-take-le, append_assoc, length-replicate}
use Rattle.fleet_disk.specs.declared.disk.DiskFile.{DiskFile}
use Rattle.fleet_disk.specs.declared.disk.DiskFile.TheVariants.{Journal, Gate, Slots}
use Rattle.fleet_disk.specs.declared.call.DiskCall.{DiskCall}
use Rattle.fleet_disk.specs.declared.call.DiskCall.TheVariants.{Read, Len, Write, Cut, Sync}
use Rattle.fleet_disk.specs.declared.call.Pick.{Pick}
use Rattle.fleet_disk.specs.declared.call.Pick.TheVariants.{Old, New, Fill}
use Rattle.fleet_disk.specs.Image.{Image}
use Rattle.fleet_disk.specs.Rules.{overwritten, Torn, CutBack, OnFile}
use Rattle.fleet_disk.specs.Memory.{written, on_file, does, read_after, MayStep, Leaves, LeftSince, pick_step, picked}

pub torn_same : (at n : ℕ) (old : List ℕ) → Torn at n old old
torn_same at n old = record { before = refl; after = refl; no_shorter = omega arith; no_longer = omega arith }

pub cut_same : (n : ℕ) (old : List ℕ) → CutBack n old old
cut_same n old = record { no_shorter = omega arith; front = take_all (length old) old (omega arith) }

pub cut_done : (n : ℕ) (old : List ℕ) → CutBack n old (take n old)
cut_done n old = record {
  no_shorter = omega (arith, length-take n old);
  front = ap (λ (k : ℕ). take k old) (length-take n old) ∙ take_min n old;
}

pub torn_over : (at n : ℕ) (bytes old : List ℕ) → at ≤ length old → length bytes ≡ n → Torn at n old (overwritten at bytes old)
torn_over at n bytes old inside long =
    let front : length (take at old) ≡ at = length-take-le at old inside in
    let head : length (take at old ++ bytes) ≡ at + n = omega (arith, length-append (take at old) bytes, front, long) in
    let size = length-append (take at old ++ bytes) (drop (at + length bytes) old) in
    let tail = length-drop (at + length bytes) old in
    record {
      before = ap (λ (l : List ℕ). take at l) (append_assoc (take at old) bytes (drop (at + length bytes) old)) ∙ take_at (take at old) (bytes ++ drop (at + length bytes) old) at front;
      after = drop_at (take at old ++ bytes) (drop (at + length bytes) old) (at + n) head ∙ ap (λ (k : ℕ). drop (at + k) old) long;
      no_shorter = omega (arith, size, tail, head, long);
      no_longer = omega (arith, size, tail, head, long);
    }

torn_if : (at n : ℕ) (bytes old : List ℕ) (b : Bool) → (b ≡ true → at ≤ length old) → length bytes ≡ n → Torn at n old (if b then overwritten at bytes old else old)
torn_if at n bytes old true inside long = torn_over at n bytes old (inside refl) long
torn_if at n bytes old false inside long = torn_same at n old

-- a write torn in no way, or with other bytes of its length
pub torn_written : (at n : ℕ) (bytes old : List ℕ) → length bytes ≡ n → Torn at n old (written at bytes old)
torn_written at n bytes old long = torn_if at n bytes old (nat_le at (length old)) (λ h. grind (arith, nat_tests)) long

on_file_step : (file : DiskFile) (step : List ℕ → List ℕ → Type 0) (f : List ℕ → List ℕ) (image : Image) → ((old : List ℕ) → step old (f old)) → OnFile file step image (on_file file f image)
on_file_step Journal step f image each = (each image.journal, refl, refl)
on_file_step Gate step f image each = (each image.gate, refl, refl)
on_file_step Slots step f image each = (each image.slots, refl, refl)

pub on_file_same : (file : DiskFile) (step : List ℕ → List ℕ → Type 0) (image : Image) → ((old : List ℕ) → step old old) → OnFile file step image image
on_file_same Journal step image each = (each image.journal, refl, refl)
on_file_same Gate step image each = (each image.gate, refl, refl)
on_file_same Slots step image each = (each image.slots, refl, refl)

-- each pick is one of the images that a stop may leave
step_picked : (pick : Pick) (call : DiskCall) (read left : Image) → MayStep call read left (pick_step pick call read left)
step_picked Old (Write file at bytes) read left = on_file_same file (Torn at (length bytes.items)) left (torn_same at (length bytes.items))
step_picked New (Write file at bytes) read left = on_file_step file (Torn at (length bytes.items)) (written at bytes.items) left (λ old. torn_written at (length bytes.items) bytes.items old refl)
step_picked (Fill byte) (Write file at bytes) read left = on_file_step file (Torn at (length bytes.items)) (written at (replicate (length bytes.items) byte)) left (λ old. torn_written at (length bytes.items) (replicate (length bytes.items) byte) old (length-replicate (length bytes.items) byte))
step_picked Old (Cut file len) read left = on_file_same file (CutBack len) left (cut_same len)
step_picked New (Cut file len) read left = on_file_step file (CutBack len) (take len) left (cut_done len)
step_picked (Fill byte) (Cut file len) read left = on_file_same file (CutBack len) left (cut_same len)
step_picked pick (Read file at len) read left = refl
step_picked pick (Len file) read left = refl
step_picked pick Sync read left = refl

pub leaves_picked : (pick : Pick) (left read : Image) (calls : List DiskCall) → Leaves left read calls (picked pick left read calls)
leaves_picked pick left read [] = refl
leaves_picked pick left read (call ∷ calls) = (pick_step pick call read left, step_picked pick call read left, leaves_picked pick (pick_step pick call read left) (does call read) calls)

new_does : (call : DiskCall) (image : Image) → pick_step New call image image ≡ does call image
new_does (Write file at bytes) image = refl
new_does (Cut file len) image = refl
new_does (Read file at len) image = refl
new_does (Len file) image = refl
new_does Sync image = refl

-- as written: what a read gives
pub picked_new : (image : Image) (calls : List DiskCall) → picked New image image calls ≡ read_after image calls
picked_new image [] = refl
picked_new image (call ∷ calls) = ap (λ (left : Image). picked New left (does call image) calls) (new_does call image) ∙ picked_new (does call image) calls

pub read_is_left : (image : Image) (calls : List DiskCall) → Leaves image image calls (read_after image calls)
read_is_left image calls = subst (λ (c : Image). Leaves image image calls c) (picked_new image calls) (leaves_picked New image image calls)

pub counted_now : (first : Image) (calls : List DiskCall) (t : ℕ) (c : Image) → t ≤ length calls → Leaves first first calls c → LeftSince first calls t c
counted_now first calls t c before now = (length calls, before, omega arith, subst (λ (l : List DiskCall). Leaves first first l c) (sym (take_all (length calls) calls (omega arith))) now)

pub only_left : (first : Image) (calls : List DiskCall) (c : Image) → LeftSince first calls (length calls) c → Leaves first first calls c
only_left first calls c (k, after, within, left) = subst (λ (l : List DiskCall). Leaves first first l c) (take_all k calls after) left
