-- What bytes are refused with while items are read.
use Rattle.std.proofs.Common.{◌≡◌, ℕ, ◌+◌, ◌-◌, ◌*◌, ◌==◌, nat_lt, Bool, true, false, List, [], ◌∷◌, ◌++◌, length, Result, Ok, Err, refl, ap, subst}
use Rattle.std.specs.Prelude.{if◌then◌else◌}
use Rattle.ra_item.specs.Bytes.{is_white, is_digit, is_letter, is_word_byte, is_word}
use Rattle.ra_item.specs.Items.{Item, Items, Number, Nested, row, nesting, spell}
use Rattle.ra_item.specs.Makers.{word_of, text_of, list_of}
use Rattle.ra_item.specs.Reading.{Step, Next, Gives, Refused, is_nil, is_between, give, made, close, open_list, start, ends, in_word, in_number, byte_step, counted, one_step}
use Rattle.ra_item.specs.Streams.{Stream, Reads, Refuses, of_step, reading, is_failed}
use Rattle.ra_item.specs.declared.fault.ItemFault.{ItemFault}
use Rattle.ra_item.specs.declared.fault.ItemFault.TheVariants as item
use Rattle.ra_item.specs.declared.reading.Place.{Place}
use Rattle.ra_item.specs.declared.reading.Place.TheVariants as at
use Rattle.ra_item.specs.declared.reading.Reading.{Reading}
use Rattle.ra_item.specs.Rests.{is_of_byte}
use Rattle.ra_item.specs.declared.limits.TheConstants.{ITEM_BYTES, STRING_BYTES}

abbrev Good : Step → Type 0
Good (Next r) = is_failed r ≡ false
Good (Gives x r) = is_failed r ≡ false
Good (Refused f) = is_of_byte f ≡ true

abbrev GoodMade : Result Item ItemFault → Type 0
GoodMade (Ok x) = Unit {0}
GoodMade (Err f) = is_of_byte f ≡ true

good_if : (c : Bool) (s t : Step) → Good s → Good t → Good (if c then s else t)
good_if true s t p q = p
good_if false s t p q = q

made_if : (c : Bool) (s t : Result Item ItemFault) → GoodMade s → GoodMade t → GoodMade (if c then s else t)
made_if true s t p q = p
made_if false s t p q = q

good_give : (r : Reading) (x : Item) → Good (give r x)
good_give r x = good_if (is_nil r.outer) _ _ refl refl

good_made : (r : Reading) (m : Result Item ItemFault) → GoodMade m → Good (made r m)
good_made r (Ok x) h = good_give r x
good_made r (Err f) h = h

made_word : (w : List ℕ) → GoodMade (word_of w)
made_word w = made_if (is_word w) _ _ (made_if (nat_lt 64 (length w)) _ _ refl tt) refl

made_text : (t : List ℕ) → GoodMade (text_of t)
made_text t = made_if (nat_lt STRING_BYTES (length t)) _ _ refl tt

made_list : (xs : Items) → GoodMade (list_of xs)
made_list xs = made_if (nat_lt 16 (nesting (Nested xs))) _ _ refl (made_if (nat_lt 33554433 (length (spell (Nested xs)))) _ _ refl tt)

good_ends : (b : ℕ) (s : Step) → Good s → Good (ends b s)
good_ends b s h = good_if (is_white b) _ _ h refl

good_open : (r : Reading) → Good (open_list r)
good_open r = good_if (nat_lt (length r.outer) 16) _ _ refl refl

good_close : (r : Reading) → Good (close r)
good_close r =
    elim r.outer as (λ o. Good (elim o [ [] ↦ Refused item.BadItem | around ∷ outer ↦ made (record r { row = around; outer = outer }) (list_of (row r.row)) ])) [
      | [] ↦ refl
      | around ∷ outer ↦ good_made (record r { row = around; outer = outer }) (list_of (row r.row)) (made_list (row r.row))
    ]

good_start : (r : Reading) (b : ℕ) → is_failed r ≡ false → Good (start r b)
good_start r b h =
    good_if (is_white b) _ _ h
    (good_if (is_letter b) _ _ refl
    (good_if (is_digit b) _ _ refl
    (good_if (b == 40) _ _ (good_open r)
    (good_if (b == 41) _ _ (good_if (is_nil r.outer) _ _ refl refl) refl))))

good_word : (r : Reading) (b : ℕ) → is_failed r ≡ false → Good (in_word r b)
good_word r b h =
    good_if (is_word_byte b) _ _
    (good_if (nat_lt (length r.held) 64) _ _ h refl)
    (good_ends b (made r (word_of r.held)) (good_made r (word_of r.held) (made_word r.held)))

good_choice : (c : Bool) (r : Reading) (p q : Place) (held : List ℕ) → is_failed (record r { place = p; held = held }) ≡ false → is_failed (record r { place = q; held = held }) ≡ false → Good (Next (record r { place = if c then p else q; held = held }))
good_choice true r p q held h k = h
good_choice false r p q held h k = k

good_number : (n : ℕ) (r : Reading) (b : ℕ) → Good (in_number n r b)
good_number n r b =
    good_if (is_digit b) _ _
    (good_if (nat_lt (n * 10 + (b - 48)) 18446744073709551616) _ _ refl refl)
    (good_if (b == 58) _ _
    (good_if (nat_lt STRING_BYTES n) _ _ refl (good_choice (n == 0) r at.Ended (at.Text n) [] refl refl))
    (good_ends b (give r (Number n)) (good_give r (Number n))))

good_counted : (s : Step) → Good s → Good (counted s)
good_counted (Next r) h = good_if (is_between r) _ _ h (good_if (nat_lt r.count ITEM_BYTES) _ _ h refl)
good_counted (Gives x r) h = h
good_counted (Refused f) h = h

good_byte : (p : Place) (r : Reading) (b : ℕ) → r.place ≡ p → is_failed r ≡ false → Good (byte_step p r b)
good_byte at.Between r b e h = good_start r b h
good_byte at.Opened r b e h = good_ends b _ refl
good_byte at.Word r b e h = good_word r b h
good_byte (at.Number n) r b e h = good_number n r b
good_byte (at.Text n) r b e h = good_choice (nat_lt (length r.held + 1) n) r (at.Text n) at.Ended (r.held ++ b ∷ []) refl refl
good_byte at.Ended r b e h = good_ends b (made r (text_of r.held)) (good_made r (text_of r.held) (made_text r.held))
good_byte at.Closed r b e h = good_ends b (close r) (good_close r)
good_byte at.Failed r b e h =
    let z : is_failed r ≡ true = ap (λ p. is_failed (record r { place = p })) e in
    cc

good_one : (r : Reading) (b : ℕ) → is_failed r ≡ false → Good (one_step r b)
good_one r b h = good_counted (byte_step r.place r b) (good_byte r.place r b refl h)

abbrev GoodStream : Stream → Type 0
GoodStream (Reads xs r) = is_failed r ≡ false
GoodStream (Refuses xs f) = is_of_byte f ≡ true

good_of : (xs : List Item) (s : Step) → Good s → GoodStream (of_step xs s)
good_of xs (Next r) h = h
good_of xs (Gives x r) h = h
good_of xs (Refused f) h = h

good_reading : (s : Stream) (bs : List ℕ) → GoodStream s → GoodStream (reading s bs)
good_reading s [] h = h
good_reading (Reads xs r) (b ∷ bs) h = good_reading (of_step xs (one_step r b)) bs (good_of xs (one_step r b) (good_one r b h))
good_reading (Refuses xs f) (b ∷ bs) h = good_reading (Refuses xs f) bs h

-- what refuses bytes is a refusal that a byte shows
pub of_bytes : (xs ys : List Item) (r : Reading) (f : ItemFault) (bs : List ℕ) → is_failed r ≡ false → reading (Reads xs r) bs ≡ Refuses ys f → is_of_byte f ≡ true
of_bytes xs ys r f bs h e = subst GoodStream e (good_reading (Reads xs r) bs h)
