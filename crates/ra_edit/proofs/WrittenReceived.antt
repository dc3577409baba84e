-- What was written is received as the same calls.
use Rattle.std.proofs.Common.{◌≡◌, ◌⊎◌, ℕ, List, [], ◌∷◌, ◌++◌, length, Option, Some, None, refl, sym, ap, ap₂, subst, ◌∙◌, append_assoc, append-nil, inl, inr, arith}
use Rattle.std.specs.Prelude.{map}
use Rattle.std.specs.List.{AllByRecursion, concat}
use Rattle.std.proofs.lemmas.List.{map-append, append_cancel_left}
use Rattle.node_base.specs.Path.{Path}
use Rattle.ra_item.specs.Items.{Item, Within, row, spell, spell_all}
use Rattle.ra_item.specs.Laws.{WrittenIsRead}
use Rattle.ra_item.specs.Reading.{begin}
use Rattle.ra_item.specs.Streams.{Stream, Reads, Refuses, reading, stream_of, items_of}
use Rattle.ra_item.specs.declared.fault.ItemFault.{ItemFault}
use Rattle.ra_item.specs.declared.fault.ItemFault.TheVariants as item
use Rattle.ra_item.specs.declared.reading.Reading.{Reading}
use Rattle.delta_editor.specs.declared.call.Call.{Call}
use Rattle.delta_editor.specs.declared.call.Call.TheVariants as call
use Rattle.ra_edit.specs.Commands.{parts, edit_items, edit_bytes}
use Rattle.ra_edit.specs.Edits.{SpellsEdit}
use Rattle.ra_edit.specs.EditLaws.{cut, cut_all, each_byte, byte_by_byte, IsBefore, WrittenIsTaken, WrittenIsReceived}
use Rattle.ra_item.specs.ItemStreams.{behind, Takes}
use Rattle.ra_edit.proofs.EditRead.{parts_join}
use Rattle.ra_edit.proofs.EditSays.{written_is_edit}
use Rattle.ra_edit.proofs.OneEdit.{one_edit, ends_once}
use Rattle.ra_item.proofs.Streaming.{behind_reading}

-- ---- pieces that were cut

abbrev one : Path → ℕ → Call
one p b = call.TextPiece p (b ∷ [])

bytes_join : (xs ys : List Call) → byte_by_byte (xs ++ ys) ≡ byte_by_byte xs ++ byte_by_byte ys
bytes_join [] ys = refl
bytes_join (x ∷ xs) ys = ap (λ l. each_byte x ++ l) (bytes_join xs ys) ∙ sym (append_assoc (each_byte x) (byte_by_byte xs) (byte_by_byte ys))

pieces_bytes : (p : Path) (pieces : List (List ℕ)) → byte_by_byte (map (call.TextPiece p) pieces) ≡ map (one p) (concat pieces)
pieces_bytes p [] = refl
pieces_bytes p (x ∷ pieces) = ap (λ l. map (one p) x ++ l) (pieces_bytes p pieces) ∙ sym (map-append (one p) x (concat pieces))

one_cut : (c : Call) → byte_by_byte (cut c) ≡ each_byte c
one_cut (call.TextPiece p piece) = pieces_bytes p (parts piece) ∙ ap (map (one p)) (parts_join (length piece) piece (omega arith))
one_cut c = refl

cut_bytes : (cs : List Call) → byte_by_byte (cut_all cs) ≡ byte_by_byte cs
cut_bytes [] = refl
cut_bytes (c ∷ cs) = bytes_join (cut c) (cut_all cs) ∙ ap (λ l. l ++ byte_by_byte (cut_all cs)) (one_cut c) ∙ ap (λ l. each_byte c ++ l) (cut_bytes cs)

-- ---- items that were written, in a stream

items_read : WrittenIsRead → (before xs : List Item) (more : List ℕ) → AllByRecursion Within xs → reading (Reads before begin) (spell_all (row xs) ++ more) ≡ reading (Reads (before ++ xs) begin) more
items_read law before [] more w = ap (λ l. reading (Reads l begin) more) (sym (append-nil before))
items_read law before (x ∷ xs) more w =
    ap (reading (Reads before begin)) (append_assoc (spell x) (spell_all (row xs)) more)
    ∙ law before x (spell_all (row xs) ++ more) w.0
    ∙ items_read law (before ++ x ∷ []) xs more w.1
    ∙ ap (λ l. reading (Reads l begin) more) (append_assoc before (x ∷ []) xs)

pub items_behind : (xs : List Item) (s : Stream) → items_of (behind xs s) ≡ xs ++ items_of s
items_behind xs (Reads ys r) = refl
items_behind xs (Refuses ys f) = refl

-- items that were written, in front of what follows them
pub written_stream : WrittenIsRead → (xs : List Item) (more : List ℕ) → AllByRecursion Within xs → stream_of (spell_all (row xs) ++ more) ≡ behind xs (stream_of more)
written_stream law xs more w = items_read law [] xs more w ∙ ap (λ l. reading (Reads l begin) more) (sym (append-nil xs)) ∙ behind_reading xs (Reads [] begin) more

-- where the bytes are known, so is what is left of them
known_left : (left : List ℕ) (after : Option (List ℕ)) (was is : List ℕ → Stream) (items : List Item) → Takes items (Some left) after was is → (rest : List ℕ) × (after ≡ Some rest) × (was left ≡ behind items (is rest))
known_left left None was is items t = absurd t.consumed
known_left left (Some rest) was is items t = (rest, refl, ap was t.consumed ∙ t.items rest)

pub taken_from : (bytes : List ℕ) (before after : Option (List ℕ)) (was is : List ℕ → Stream) (items : List Item) → IsBefore bytes before was → Takes items before after was is → (rest : List ℕ) × (after ≡ Some rest) × (stream_of bytes ≡ behind items (is rest))
taken_from bytes before after was is items s t =
    let f = known_left s.0 after was is items (subst (λ b. Takes items b after was is) s.1 t) in
    (f.0, f.1, sym s.2 ∙ f.2)

-- what is behind the same items
abbrev last_of : Stream → Reading
last_of (Reads ys r) = r
last_of (Refuses ys f) = begin

abbrev fault_of : Stream → ItemFault
fault_of (Reads ys r) = item.Failed
fault_of (Refuses ys f) = f

same_behind : (xs : List Item) (s t : Stream) → behind xs s ≡ behind xs t → s ≡ t
same_behind xs (Reads ys r) (Reads zs q) e = ap₂ Reads (append_cancel_left xs ys zs (ap items_of e)) (ap last_of e)
same_behind xs (Refuses ys f) (Refuses zs g) e = ap₂ Refuses (append_cancel_left xs ys zs (ap items_of e)) (ap fault_of e)
same_behind xs (Reads ys r) (Refuses zs g) e = cc
same_behind xs (Refuses ys f) (Reads zs q) e = cc

-- ---- of two fronts of one list, one is a front of the other

abbrev pub first_or : Item → List Item → Item
first_or x [] = x
first_or x (y ∷ ys) = y

abbrev rest_of : List Item → List Item
rest_of [] = []
rest_of (y ∷ ys) = ys

pub same_front : (xs ys us vs : List Item) → xs ++ us ≡ ys ++ vs → (d : List Item) × ((ys ≡ xs ++ d) ⊎ (xs ≡ ys ++ d))
same_front [] ys us vs e = (ys, inl refl)
same_front (x ∷ xs) [] us vs e = (x ∷ xs, inr refl)
same_front (x ∷ xs) (y ∷ ys) us vs e =
    let w = same_front xs ys us vs (ap rest_of e) in
    let same : x ≡ y = ap (first_or x) e in (
      w.0,
      elim w.1 [
        | inl h ↦ inl (ap (λ l. y ∷ l) h ∙ ap (λ z. z ∷ (xs ++ w.0)) (sym same))
        | inr h ↦ inr (ap (λ l. x ∷ l) h ∙ ap (λ z. z ∷ (ys ++ w.0)) same)
      ],
    )

-- an edit isn't cut short, and nothing is taken behind it
alike : (xs ys : List Item) (a b : List Call) → SpellsEdit xs a → SpellsEdit ys b → (d : List Item) × ((ys ≡ xs ++ d) ⊎ (xs ≡ ys ++ d)) → xs ≡ ys
alike xs ys a b p q w =
    elim w.1 [
      | inl h ↦ sym (h ∙ ap (λ l. xs ++ l) (ends_once xs w.0 a b p (subst (λ l. SpellsEdit l b) h q)) ∙ append-nil xs)
      | inr h ↦ h ∙ ap (λ l. ys ++ l) (ends_once ys w.0 b a q (subst (λ l. SpellsEdit l a) h p)) ∙ append-nil ys
    ]

-- of two fronts of one length, each is the other
same_length : (xs ys us vs : List Item) → length ys ≡ length xs → ys ++ us ≡ xs ++ vs → ys ≡ xs
same_length [] [] us vs n e = refl
same_length [] (y ∷ ys) us vs n e = absurd (omega (arith, n))
same_length (x ∷ xs) [] us vs n e = absurd (omega (arith, n))
same_length (x ∷ xs) (y ∷ ys) us vs n e = ap₂ (λ z l. z ∷ l) (ap (first_or x) e) (same_length xs ys us vs (omega (arith, n)) (ap rest_of e))

pub written_is_taken : WrittenIsRead → WrittenIsTaken
written_is_taken law xs ys more before after was is w n s t =
    let f = taken_from (spell_all (row xs) ++ more) before after was is ys s t in
    let streams : behind ys (is f.0) ≡ behind xs (stream_of more) = sym f.2 ∙ written_stream law xs more w in
    let fronts : ys ++ items_of (is f.0) ≡ xs ++ items_of (stream_of more) = sym (items_behind ys (is f.0)) ∙ ap items_of streams ∙ items_behind xs (stream_of more) in
    let same : ys ≡ xs = same_length xs ys (items_of (is f.0)) (items_of (stream_of more)) n fronts in
    (same, (f.0, f.1, same_behind xs (is f.0) (stream_of more) (ap (λ l. behind l (is f.0)) (sym same) ∙ streams)))

pub written_is_received : WrittenIsRead → WrittenIsReceived
written_is_received law n base body more before after was is items calls w s t k =
    let edit = call.Target n ∷ call.OpenRoot base ∷ body in
    let whole = edit_items edit in
    let read = call.Target n ∷ call.OpenRoot base ∷ cut_all body in
    let written : SpellsEdit whole read = written_is_edit n base body w.rev w.from w.no_target w.nested w.deeper w.within w.texts w.count in
    let f = taken_from (edit_bytes edit ++ more) before after was is items s t in
    let streams : behind items (is f.0) ≡ behind whole (stream_of more) = sym f.2 ∙ written_stream law whole more w.items in
    let fronts : items ++ items_of (is f.0) ≡ whole ++ items_of (stream_of more) = sym (items_behind items (is f.0)) ∙ ap items_of streams ∙ items_behind whole (stream_of more) in
    let same : items ≡ whole = alike items whole calls read k written (same_front items whole (items_of (is f.0)) (items_of (stream_of more)) fronts) in
    let exact : calls ≡ read = one_edit whole calls read (subst (λ l. SpellsEdit l calls) same k) written in
    (exact, ap byte_by_byte exact ∙ ap (λ l. call.Target n ∷ call.OpenRoot base ∷ l) (cut_bytes body), (f.0, f.1, same_behind whole (is f.0) (stream_of more) (ap (λ l. behind l (is f.0)) (sym same) ∙ streams)))
