-- What is written is in the grammar.
use Rattle.std.proofs.Common.{◌≡◌, ℕ, ◌≤◌, ◌<◌, ◌^◌, Bool, true, false, List, [], ◌∷◌, ◌++◌, length, refl, sym, ap, ◌∙◌, append_assoc, append-nil, length-append, arith}
use Rattle.std.proofs.lemmas.Bool.Decides.{nat_tests}
use Rattle.std.proofs.lemmas.Fmt.{decimal_nonempty, digits_decimal, digits_value-decimal}
use Rattle.std.proofs.lemmas.Str.Parse.{IsNumeralModel, numerals_by_fold}
use Rattle.std.specs.Fmt.{decimal}
use Rattle.ra_item.specs.Bytes.{is_digit, all_bytes, number_after}
use Rattle.ra_item.specs.Items.{Item, Word, Number, Text, Nested, Items, End, Then, spell, spell_all, Fits, AllFit, Within}
use Rattle.ra_item.specs.Grammar.{Spells, IsWhite, Spelled, AllSpelled, IsItem, IsStream}
use Rattle.ra_item.specs.Reading.{begin}
use Rattle.ra_item.specs.Streams.{Reads, Refuses, Stream, reading, items_of}
use Rattle.ra_item.specs.declared.fault.ItemFault.{ItemFault}
use Rattle.ra_item.proofs.Runs.{reading-append, reading-refused}
use Rattle.ra_item.proofs.Classes.{both, digit_low, digit_high}
use Rattle.ra_item.proofs.Spelled.{whole_at_white, stream_read}

abbrev IsDigits : List ℕ → Type 0
IsDigits ds = all_bytes is_digit ds ≡ true

in_range : (c : ℕ) → 48 ≤ c → c ≤ 57 → is_digit c ≡ true
in_range c a b = grind (arith, nat_tests)

own : IsNumeralModel IsDigits (number_after 0)
own = numerals_by_fold IsDigits (record {
  empty = refl;
  parts = λ c cs e. let p = both (is_digit c) (all_bytes is_digit cs) e in ((digit_low c p.0, digit_high c p.0), p.1);
  more = λ c cs r e. rw (in_range c r.0 r.1) e;
}) number_after (record { empty = λ n. refl; more = λ n c cs r. refl })

spells_decimal : (n : ℕ) → n < 2 ^ 64 → Spells (decimal n) n
spells_decimal n h = record { some = decimal_nonempty n h; digits_only = digits_decimal own n h; number = digits_value-decimal own n h }

one_space : IsWhite (32 ∷ [])
one_space = (omega arith, refl)

-- the written spelling is one of the grammar, and a space
abbrev pub IsWritten : Item → Type 0
IsWritten x = (core : List ℕ) × Spelled core x × (spell x ≡ core ++ 32 ∷ [])

mutual
  pub written : (x : Item) → Fits x → IsWritten x
  written (Word w) f = (w, refl, refl)
  written (Number n) f = (decimal n, spells_decimal n f, refl)
  written (Text t) f =
      (decimal (length t) ++ 58 ∷ t, (decimal (length t), spells_decimal (length t) (omega (arith, f)), refl), sym (append_assoc (decimal (length t)) (58 ∷ t) (32 ∷ [])))
  written (Nested xs) f =
      (40 ∷ 32 ∷ (spell_all xs ++ 41 ∷ []), (32 ∷ [], spell_all xs, one_space, all_written xs f, refl), ap (λ b. 40 ∷ 32 ∷ b) (sym (append_assoc (spell_all xs) (41 ∷ []) (32 ∷ []))))

  pub all_written : (xs : Items) → AllFit xs → AllSpelled (spell_all xs) xs
  all_written End f = refl
  all_written (Then x xs) f =
      let (core, s, e) = written x f.0 in
      (core, 32 ∷ [], spell_all xs, s, one_space, all_written xs f.1, ap (λ b. b ++ spell_all xs) e ∙ append_assoc core (32 ∷ []) (spell_all xs))

-- the same of an item within the limits
pub written_item : (x : Item) → Within x → (core : List ℕ) × IsItem core x × (spell x ≡ core ++ 32 ∷ [])
written_item x h =
    let w = written x h.fits in
    (w.0, record { spelled = w.1; fits = h.fits; depth = h.depth; short = omega (arith, h.bytes, ap length w.2, length-append w.0 (32 ∷ [])) }, w.2)

pub written_read : (before : List Item) (x : Item) (more : List ℕ) → Within x → reading (Reads before begin) (spell x ++ more) ≡ reading (Reads (before ++ x ∷ []) begin) more
written_read before x more h =
    let w = written_item x h in
    ap (λ b. reading (Reads before begin) (b ++ more)) w.2
    ∙ ap (reading (Reads before begin)) (append_assoc w.0 (32 ∷ []) more)
    ∙ whole_at_white before w.0 more 32 x w.1 refl

pub one_reading : (bytes : List ℕ) (items others : List Item) → IsStream bytes items → IsStream bytes others → items ≡ others
one_reading bytes items others h k = ap items_of (sym (stream_read [] items bytes [] h) ∙ stream_read [] others bytes [] k)

refuses : Stream → Bool
refuses (Reads items r) = false
refuses (Refuses items f) = true

true_no_false : true ≡ false → ⊥
true_no_false e = cc

pub refused_is_no_front : (bytes more : List ℕ) (items others : List Item) (f : ItemFault) → reading (Reads [] begin) bytes ≡ Refuses items f → IsStream (bytes ++ more) others → ⊥
unfolding refuses
refused_is_no_front bytes more items others f e s =
    let read : reading (Reads [] begin) ((bytes ++ more) ++ []) ≡ Reads others begin = stream_read [] others (bytes ++ more) [] s in
    let refused : reading (Reads [] begin) ((bytes ++ more) ++ []) ≡ Refuses items f =
    ap (reading (Reads [] begin)) (append-nil (bytes ++ more)) ∙ reading-append (Reads [] begin) bytes more ∙ ap (λ t. reading t more) e ∙ reading-refused items f more in
    true_no_false (ap refuses (sym refused ∙ read))
